-- The line is its own code word, at distance 0.
use Rattle.std.proofs.Common.{rules}
use Rattle.code.specs.Metric.{distance_self}
use Rattle.code.proofs.bare.BareCode.mend.Goals as goal

pub returns : goal.returns
returns c =
    let e = distance_self c.args.line.now in
    record {
      sized = search rules;
      symbols = search rules;
      is_message = record { long = search rules; symbols = search rules };
      becomes = search rules;
      answer = search rules;
      near = search rules;
    }

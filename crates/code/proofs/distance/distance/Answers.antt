-- The pairs that differ are counted, and their number is the distance.
use Rattle.std.proofs.Common.{◌∙◌, rules, tests}
use Rattle.std.proofs.lemmas.Iterator.{YieldsList-from_zip, YieldsList-from_slice}
use Rattle.std.proofs.lemmas.Iterator.Consumers.{YieldsList-at, YieldsList-from_filter, count_from_yields_List}
use Rattle.code.specs.Metric.{distance_laws, distance_count}
use Rattle.code.proofs.distance.distance.Goals as goal

pub returns-then-a-b-clause-laws : goal.returns-then-a-b-clause-laws
returns-then-a-b-clause-laws c = distance_laws

pub returns-clause-laws : goal.returns-clause-laws
returns-clause-laws c = distance_laws

pub returns-clause-answer : goal.returns-clause-answer
returns-clause-answer c = (
  search rules,
  count_from_yields_List c.filter.result _ c.count.ensures.ran
      (YieldsList-from_filter _ _ (YieldsList-at c.filter.ensures.source (YieldsList-from_zip (YieldsList-from_slice c.args.a.now cc) (YieldsList-from_slice c.args.b.now cc)))
      c.filter.ensures.closure (λ x r q k. search (rules, tests)))
      ∙ distance_count c.args.a.now c.args.b.now,
)

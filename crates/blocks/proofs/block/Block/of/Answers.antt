use Rattle.std.proofs.Common.{◌≡◌, ℕ, length, sym, ◌∙◌, subst, arith}
use Rattle.std.proofs.lemmas.List.{length-map}
use Rattle.words.specs.Words.{raw, raws}
use Rattle.blocks.specs.Blocks.{BlockOf}
use Rattle.blocks.proofs.Nibbles.{tells_type}
use Rattle.blocks.proofs.Places.{by_the_rules}
use Rattle.blocks.proofs.block.Block.of.Goals as goal

pub returns : goal.returns
returns c =
    let ws = c.args.words.now in
    let e = c.filled.ensures in
    let n : length (raws ws) ≡ 4 = length-map ws raw ∙ omega arith in
    record {
      rules = subst (λ (b : ℕ). BlockOf (raws ws) b) (sym e.value) (by_the_rules (raws ws) n e.valid);
      value = e.value;
      valid = e.valid;
      lossless = tells_type;
    }

use Rattle.std.proofs.Common.{◌≡◌, ℕ, ◌/◌, List, length, refl, ap, ◌∙◌, rules, arith}
use Rattle.blocks.specs.Numbers.{block}
use Rattle.words.specs.Words.{raws}
use Rattle.words.specs.declared.word.Word.{Word}
use Rattle.symbols.specs.Symbols.{Symbols}
use Rattle.blocks.specs.Packed.{packed}
use Rattle.messages.specs.Numbers.{message}
use Rattle.messages.proofs.Groups.{first, turn, done, none_left, valid_four}
use Rattle.messages.proofs.writing.write.Goals as goal

same_value : {xs ys : List ℕ} {total : ℕ} → packed 10 xs ≡ total → ys ≡ xs → packed 10 ys ≡ total
same_value p e = ap (packed 10) e ∙ p

same_small : {xs ys : List ℕ} → Symbols xs → ys ≡ xs → Symbols ys
same_small s e = rw e s

pub loop-four-init : goal.loop-four-init
loop-four-init c =
    let h = c.new-writer.ensures in
    let n : length c.args.words.now / 4 ≡ 20 = omega arith in
    let room : length c.args.out.now ≡ 514 = omega arith in
    record {
      same = refl;
      long = ap length h.out ∙ room;
      whole = omega arith;
      written = omega (arith, h.at, h.fill);
      small = rw h.at (λ k l. absurd (omega arith));
      means = first c.new-writer.result (length c.args.words.now / 4) c.args.words.now h.acc h.fill h.at n;
      valid = λ v. v;
    }

pub loop-four-preserved : goal.loop-four-preserved
loop-four-preserved c =
    let inv = c.loop-four.invariant in
    let h = c.in-Some.ensures in
    let b = c.push_block.ensures.bits in
    let rest = c.loop-four.rest.now in
    record {
      same = c.push_block.ensures.same ∙ inv.same;
      long = b.long ∙ inv.long;
      whole = omega (arith, h.cases.2);
      written = omega (arith, h.cases.2, b.counts);
      small = b.small inv.small;
      means = turn _ (message 20 (raws c.args.words.now)) rest c.in-Some.after.now (c.of.ensures.value ∙ ap (λ (l : List Word). block (raws l)) h.cases.0) h.cases.1 h.cases.2 b inv.means;
      valid = λ v. inv.valid (valid_four rest (rw h.cases.0 at c.of.ensures.valid) (rw h.cases.1 at v));
    }

pub loop-four-smaller : goal.loop-four-smaller
loop-four-smaller c = let h = c.in-Some.ensures in omega (arith, h)

pub returns : goal.returns
returns c =
    let inv = c.loop-four.invariant in
    let h = c.in_default.ensures.cases in
    let n : length c.loop-four.rest.now / 4 ≡ 0 = omega (arith, h) in
    let few : length c.loop-four.rest.now ≡ 0 = omega arith in
    let last = c.loop-four.writer in
    let d = done last (message 20 (raws c.args.words.now)) (raws c.loop-four.rest.now) inv.long (omega arith) inv.small (rw n at inv.means) in
    let valid = inv.valid (none_left c.loop-four.rest.now few) in
    record { value = same_value d.0 (search rules); small = same_small d.1 (search rules); valid = valid }

use Rattle.std.proofs.Common.{◌≡◌, ℕ, ◌*◌, List, Ok, Err, Result, refl, sym, ap, ◌∙◌, rules, arith, ◌++◌, take, ◌+◌}
use Rattle.std.proofs.lemmas.Result.{err_from_is_err_and}
use borrow.Rule.Slice.PartMut.{same_len_mid}
use Rattle.std.specs.Result.{MatchResult, IsErrAnd}
use Rattle.words.specs.declared.word.Word.{Word}
use Rattle.blocks.specs.Packed.{packed}
use Rattle.blocks.specs.Reading.{told}
use Rattle.blocks.specs.declared.refusal.BlockRefusal.{BlockRefusal}
use Rattle.messages.specs.declared.refusal.MessageRefusal.{MessageRefusal}
use Rattle.messages.specs.declared.refusal.MessageRefusal.TheVariants.{Block}
use Rattle.messages.specs.Reading.{read_message}
use Rattle.messages.proofs.Shifts.{put_part}
use Rattle.messages.proofs.Turns.{begun, given, denied, closed}
use Rattle.messages.proofs.reading.read.Goals as goal

-- what `map_err` got, from what it gave
refused_of : (P : BlockRefusal → MessageRefusal → Type 0) (r : Result (List Word) BlockRefusal) (m : Result (List Word) MessageRefusal) (f : MessageRefusal) → MatchResult r (λ x. m ≡ Ok x) (λ e. IsErrAnd m (P e)) → m ≡ Err f
    → (e : BlockRefusal) × (r ≡ Err e) × P e f
refused_of P (Ok ws) m f h q = let z : ◌≡◌ {A = ℕ} 0 1 = cc in absurd (omega arith)
refused_of P (Err e) m f h q = (e, refl, rw q at h)

given_of : (P : BlockRefusal → MessageRefusal → Type 0) (r : Result (List Word) BlockRefusal) (m : Result (List Word) MessageRefusal) (ws : List Word) → MatchResult r (λ x. m ≡ Ok x) (λ e. IsErrAnd m (P e)) → m ≡ Ok ws → r ≡ Ok ws
given_of P (Ok vs) m ws h q = let e : vs ≡ ws = cc in ap Ok e
given_of P (Err e) m ws h q = absurd (rw q at h)

pub loop-b-init : goal.loop-b-init
loop-b-init c =
    let h = c.new-reader.ensures in
    record { long = refl; count = omega (arith, h.count); holds = ap (read_message 20 0) (sym h.bits) ∙ begun _ }

pub returns-in_err-four : goal.returns-in_err-four
returns-in_err-four c =
    let p = refused_of _ c.words.result c.map_err.result c.in_err-four.field-0.0 c.map_err.ensures.cases c.in_err-four.was in
    let q : c.in_err-four.field-0.0 ≡ Block c.loop-b.b-counter p.0 = search rules in
    let g = sym (ap told p.1) ∙ c.words.ensures.value in
    let f = err_from_is_err_and c.from_residual.result c.from_residual.ensures.1 in
    rw (f.1, f.2, q) (denied (read_message 20 0 (packed 10 c.args.symbols.now)) c.loop-b.words c.loop-b.b-counter c.loop-b.reader.bits (omega arith) c.loop-b.invariant.holds (packed 64 c.pull_block.result.limbs) p.0 c.pull_block.ensures.value g)

pub loop-b-preserved : goal.loop-b-preserved
loop-b-preserved c =
    let inv = c.loop-b.invariant in
    let e = c.copy_from_slice.ensures in
    let a = 4 * c.loop-b.b-counter in
    let four = c.in_ok-four.four in
    let g = sym (ap told (given_of _ c.words.result c.map_err.result four c.map_err.ensures.cases c.in_ok-four.was)) ∙ c.words.ensures.value in
    let t = put_part c.loop-b.words c.copy_from_slice.new.self _ a (a + 4) (omega arith) (omega (arith, e.len)) ∙ ap (λ (l : List Word). take a c.loop-b.words ++ l) e.after in
    record {
      long = same_len_mid a _ c.loop-b.words c.copy_from_slice.new.self e.len ∙ inv.long;
      count = omega (arith, c.pull_block.ensures.count);
      holds = given (read_message 20 0 (packed 10 c.args.symbols.now)) c.loop-b.words c.loop-b.b-counter c.loop-b.reader.bits (omega arith) inv.holds
          (packed 64 c.pull_block.result.limbs) c.pull_block.new.self.bits four _ c.pull_block.ensures.value c.pull_block.ensures.bits g t;
    }

pub returns : goal.returns
returns c = closed (read_message 20 0 (packed 10 c.args.symbols.now)) c.loop-b.words c.loop-b.b-counter _ (omega arith) c.loop-b.invariant.long c.loop-b.invariant.holds

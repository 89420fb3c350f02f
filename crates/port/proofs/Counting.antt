-- The totals count every reading: an induction over the run.
use Rattle.std.proofs.Common.{◌≡◌, ℕ, ◌+◌, true, cond, List, ◌∷◌, Ok, Err, Result, sym, refl, ap, ◌∙◌, arith}
use Rattle.words.specs.declared.word.Word.{Word}
use Rattle.blocks.specs.declared.refusal.BlockRefusal.{BlockRefusal}
use Rattle.blocks.specs.declared.refusal.BlockRefusal.TheVariants.{NoControl, NoType, Unlisted}
use Rattle.messages.specs.declared.refusal.MessageRefusal.TheVariants as of_message
use Rattle.code.specs.Distance.{distance}
use Rattle.code.specs.Codes.{Model}
use Rattle.code.specs.declared.refusal.CodeRefusal.TheVariants as of_code
use Rattle.port.specs.Calls.{line_of, Reads, ReadRefused}
use Rattle.port.specs.Runs.{Event, Reached, opened, wrote, has_read, asked, read}
use Rattle.port.specs.Promise.{Counts, is_dropped}
use Rattle.port.specs.declared.totals.Totals.{Totals}
use Rattle.port.specs.declared.refusal.PortRefusal.{PortRefusal}
use Rattle.port.specs.declared.refusal.PortRefusal.TheVariants.{Opening, Length, Full, Code, Message}

-- a block refusal is one of the dropped ones
block_dropped : (b : ℕ) (e : BlockRefusal) → is_dropped (Message (of_message.Block b e)) ≡ true
block_dropped b NoControl = refl
block_dropped b (NoType w) = refl
block_dropped b (Unlisted w) = refl

-- by how much the totals move with each refusal
pub refused_moves : (m : Model) (a a' : Totals) (line : List ℕ) (words : List Word) (e : PortRefusal) → ReadRefused m a line words a' e
    → (a'.accepted ≡ a.accepted) × (a'.dropped ≡ a.dropped + cond (is_dropped e) 1 0) × (a'.mended ≡ a.mended)
refused_moves m a a' line words Length s = let e = s.1 in (ap (λ t. t.accepted) e, ap (λ t. t.dropped) e ∙ omega arith, ap (λ t. t.mended) e)
refused_moves m a a' line words (Code (of_code.Symbol p)) s = let e = s.2 in (ap (λ t. t.accepted) e, ap (λ t. t.dropped) e ∙ omega arith, ap (λ t. t.mended) e)
refused_moves m a a' line words Full s = let e = s.3 in (ap (λ t. t.accepted) e, ap (λ t. t.dropped) e ∙ omega arith, ap (λ t. t.mended) e)
refused_moves m a a' line words (Code of_code.NoCodeWord) s = let e = s.2 in (ap (λ t. t.accepted) e, ap (λ t. t.dropped) e, ap (λ t. t.mended) e)
refused_moves m a a' line words (Message (of_message.Block b f)) s =
    let e = s.2 in (ap (λ t. t.accepted) e, rw (block_dropped b f) (ap (λ t. t.dropped) e), ap (λ t. t.mended) e)
refused_moves m a a' line words (Code of_code.Length) s = absurd s
refused_moves m a a' line words (Message (of_message.Symbol p)) s = absurd s
refused_moves m a a' line words Opening s = absurd s

step : (m : Model) (o a a' : Totals) (h : List Event) (line : List ℕ) (words : List Word) (line' : List ℕ) (words' : List Word) (r : Result Unit PortRefusal)
    → Reads m a line words line' words' a' r → Counts m o h a → Counts m o (read line words line' words' r ∷ h) a'
step m o a a' h line words line' words' (Ok u) s i =
    let d : distance line line' ≡ distance line (line_of m words') = ap (distance line) (s.becomes ∙ ap m.encode (sym s.again)) in
    let e = s.counts in
    record {
      accepts = ap (λ t. t.accepted) e ∙ omega arith;
      drops = ap (λ t. t.dropped) e ∙ omega arith;
      mends = ap (λ t. t.mended) e ∙ omega arith;
    }
step m o a a' h line words line' words' (Err e) s i =
    let k = refused_moves m a a' line words e s.0 in
    record { accepts = omega arith; drops = omega arith; mends = omega arith }

pub counted : (m : Model) (o : Totals) {h : List Event} {a : Totals} → Reached m o h a → Counts m o h a
counted m o (opened w) = record { accepts = omega arith; drops = omega arith; mends = omega arith }
counted m o (wrote r s) = let i = counted m o r in record { accepts = i.accepts; drops = i.drops; mends = i.mends }
counted m o (has_read r s) = step m o _ _ _ _ _ _ _ _ s (counted m o r)
counted m o (asked r) = let i = counted m o r in record { accepts = i.accepts; drops = i.drops; mends = i.mends }

-- A word is its header and its body.
use Rattle.std.proofs.Common.{◌≡◌, ℕ, ◌%◌, true, List, [], ◌∷◌, refl, ap, arith}
use mathlib.Core.HLevel.{is_prop→PathP}
use base.Stored.{coded_bool}
use denote.Struct.Props.{≡_prop}
use Rattle.words.specs.Types.{listed}
use Rattle.words.specs.Words.{raw, raws}
use Rattle.words.specs.declared.word.Word.{Word}
use Rattle.words.specs.declared.word.Word.TheVariants.{Data, Control}
use Rattle.words.specs.declared.control.ControlBody.{ControlBody}

same_body : (a b : ControlBody) → a.body ≡ b.body → a ≡ b
same_body a b p = λ i. record { body = p i; typed = is_prop→PathP (λ k. listed (p k % 256) ≡ true) (λ k. ≡_prop coded_bool (listed (p k % 256)) true) a.typed b.typed i }

pub same_word : (w v : Word) → raw w ≡ raw v → w ≡ v
same_word (Data a) (Data b) e = let q : a ≡ b = cc in ap Data q
same_word (Data a) (Control b) e = let z : ◌≡◌ {A = ℕ} 0 1 = cc in absurd (omega arith)
same_word (Control a) (Data b) e = let z : ◌≡◌ {A = ℕ} 0 1 = cc in absurd (omega arith)
same_word (Control a) (Control b) e = let q : a.body ≡ b.body = cc in ap Control (same_body a b q)

pub same_words : (ws vs : List Word) → raws ws ≡ raws vs → ws ≡ vs
same_words [] [] e = refl
same_words [] (v ∷ vs) e = let z : ◌≡◌ {A = ℕ} 0 1 = cc in absurd (omega arith)
same_words (w ∷ ws) [] e = let z : ◌≡◌ {A = ℕ} 0 1 = cc in absurd (omega arith)
same_words (w ∷ ws) (v ∷ vs) e =
    let p : raw w ≡ raw v = cc in
    let q : raws ws ≡ raws vs = cc in
    let a = same_word w v p in
    let b = same_words ws vs q in
    cc

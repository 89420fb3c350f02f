-- The rows one by one: what is read so far and what the rest answers.
use Rattle.std.proofs.Common.{◌≡◌, ℕ, suc, ◌+◌, ◌-◌, ◌<◌, ◌≤◌, cond, List, [], ◌∷◌, ◌++◌, length, take, drop, set, is_ok, Some, None, Ok, Err, Option, sym, refl, ap, ◌∙◌, append_assoc, append-nil, arith}
use Rattle.std.proofs.lemmas.List.{take_more_set, take_all, map-append}
use Rattle.words.specs.Raw.{Raw}
use Rattle.words.specs.Words.{raw, raws}
use Rattle.words.specs.declared.word.Word.{Word}
use Rattle.text.specs.Text.{Answer, fault, row_answer, then, rows, answer, names_line, behind_names}
use Rattle.text.specs.Reading.{before}
use Rattle.text.specs.Tokens.{line_answer}
use Rattle.text.specs.declared.refusal.Fault.{Fault}
use Rattle.text.specs.declared.refusal.TextRefusal.{TextRefusal}
use Rattle.text.specs.declared.refusal.TextRefusal.TheVariants.{Rows}

-- all rows

pub rows_end : (r n : ℕ) (bs : List ℕ) → length bs ≡ 0 → rows r (suc n) bs ≡ Err (Rows r)
unfolding rows
rows_end r n [] h = refl
rows_end r n (b ∷ bs) h = absurd (omega arith)

pub rows_step : (r n : ℕ) (bs : List ℕ) → 0 < length bs → rows r (suc n) bs ≡ then (row_answer (r + 1) bs) (rows (r + 1) n (drop 19 bs))
unfolding rows
rows_step r n [] h = absurd (omega arith)
rows_step r n (b ∷ bs) h = refl

rows_none : (r : ℕ) (bs : List ℕ) → length bs ≡ 0 → rows r 0 bs ≡ Ok []
unfolding rows
rows_none r [] h = refl
rows_none r (b ∷ bs) h = absurd (omega arith)

rows_over : (r : ℕ) (bs : List ℕ) → 0 < length bs → rows r 0 bs ≡ Err (Rows r)
unfolding rows
rows_over r [] h = absurd (omega arith)
rows_over r (b ∷ bs) h = refl

before_then : (ws : List Raw) (w : Raw) (a : Answer) → before (ws ++ (w ∷ [])) a ≡ before ws (then (Ok w) a)
before_then ws w (Ok vs) = ap Ok (append_assoc ws (w ∷ []) vs)
before_then ws w (Err e) = refl

before_none : (a : Answer) → before [] a ≡ a
before_none (Ok vs) = refl
before_none (Err e) = refl

module _ (r : ℕ) (words : List Word) (bs : List ℕ) (all : Answer) (inv : before (raws (take r words)) (rows r (80 - r) bs) ≡ all) where
  due : r < 80 → rows r (80 - r) bs ≡ rows r (suc (80 - (r + 1))) bs
  due h = let e : 80 - r ≡ suc (80 - (r + 1)) = omega arith in ap (λ n. rows r n bs) e

  over : 80 ≤ r → rows r (80 - r) bs ≡ rows r 0 bs
  over h = let e : 80 - r ≡ 0 = omega arith in ap (λ n. rows r n bs) e

  pub row_read : (w : Word) → r < 80 → length words ≡ 80 → 0 < length bs → Ok (raw w) ≡ row_answer (r + 1) bs
      → before (raws (take (r + 1) (set words r w))) (rows (r + 1) (80 - (r + 1)) (drop 19 bs)) ≡ all
  row_read w h l some is =
      let t : raws (take (r + 1) (set words r w)) ≡ raws (take r words) ++ (raw w ∷ []) = ap raws (take_more_set words r w (omega arith)) ∙ map-append raw (take r words) (w ∷ []) in
      let rest : Answer = rows (r + 1) (80 - (r + 1)) (drop 19 bs) in
      ap (λ ws. before ws rest) t ∙ before_then (raws (take r words)) (raw w) rest
      ∙ ap (λ x. before (raws (take r words)) (then x rest)) is
      ∙ ap (before (raws (take r words))) (sym (due h ∙ rows_step r (80 - (r + 1)) bs some)) ∙ inv

  pub row_refused : (e : TextRefusal) → r < 80 → 0 < length bs → Err e ≡ row_answer (r + 1) bs → Err e ≡ all
  row_refused e h some is =
      let rest : Answer = rows (r + 1) (80 - (r + 1)) (drop 19 bs) in
      ap (λ x. before (raws (take r words)) (then x rest)) is
      ∙ ap (before (raws (take r words))) (sym (due h ∙ rows_step r (80 - (r + 1)) bs some)) ∙ inv

  pub row_missing : r < 80 → length bs ≡ 0 → Err (Rows r) ≡ all
  row_missing h none = ap (before (raws (take r words))) (sym (due h ∙ rows_end r (80 - (r + 1)) bs none)) ∙ inv

  pub rows_done : 80 ≤ r → length words ≡ 80 → length bs ≡ 0 → Ok (raws words) ≡ all
  rows_done h l none =
      let t = take_all r words (omega arith) in
      ap Ok (sym (append-nil (raws (take r words)) ∙ ap raws t)) ∙ ap (before (raws (take r words))) (sym (over h ∙ rows_none r bs none)) ∙ inv

  pub rows_beyond : 80 ≤ r → r ≤ 80 → 0 < length bs → Err (Rows 80) ≡ all
  rows_beyond h k some =
      let e : 80 ≡ r = omega arith in
      ap (λ n. Err (Rows n)) e ∙ ap (before (raws (take r words))) (sym (over h ∙ rows_over r bs some)) ∙ inv

pub faultless : (row : Option ℕ) (o : Option Fault) (u : Unit {0}) → Ok u ≡ line_answer row o → o ≡ None
faultless row None u e = refl
faultless row (Some f) u e = let z : ◌≡◌ {A = ℕ} 0 1 = ap (λ r. cond (is_ok r) 0 1) e in absurd (omega arith)

-- no word is read yet: the rows behind right names are the whole answer
pub none_read : (bs rest : List ℕ) → fault 1 names_line bs ≡ None → rest ≡ drop 10 bs → before [] (rows 0 80 rest) ≡ answer bs
none_read bs rest f e = before_none (rows 0 80 rest) ∙ ap (rows 0 80) e ∙ ap (λ o. behind_names o (rows 0 80 (drop 10 bs))) (sym f)

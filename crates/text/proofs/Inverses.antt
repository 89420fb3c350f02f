-- Reading and printing are inverse.
use Rattle.std.proofs.Common.{◌≡◌, ℕ, zero, suc, ◌+◌, ◌/◌, ◌%◌, ◌^◌, ◌<◌, Bool, true, false, cond, List, [], ◌∷◌, ◌++◌, length, take, drop, replicate, is_some, Some, None, Ok, Err, codes, Option, Result, sym, refl, ap, ◌∙◌, subst, append_assoc, arith}
use Rattle.std.proofs.lemmas.List.{take_at, drop_at, length-append}
use Rattle.words.specs.Raw.{Raw, data_word, control_word, body, Valid, AllValid}
use Rattle.words.specs.declared.refusal.WordRefusal.TheVariants.{Unlisted}
use Rattle.text.specs.Text.{Column, just, digit, fault, names_line, row_line, row_word, value, has_type, judged, row_answer, Answer, then, rows, behind_names, answer, hex_digit}
use Rattle.text.specs.Laws.{digit_byte, hex, row_of, rows_of, text_of, Inverse}
use Rattle.text.specs.declared.refusal.TextRefusal.{TextRefusal}
use Rattle.text.specs.declared.refusal.TextRefusal.TheVariants.{Names, Row, Rows, Word}
use Rattle.text.proofs.Hexadecimal.{digit_back, length_hex, onto_hex}
use Rattle.text.proofs.Stands.{row_stands, spelled_stands}
use Rattle.text.specs.declared.refusal.Fault.{Fault}
use Rattle.text.specs.declared.refusal.Fault.TheVariants.{At}

-- Accepted is printed

err_ok : {A : Type 0} (e : TextRefusal) (a : A) → ◌≡◌ {A = Result A TextRefusal} (Err e) (Ok a) → ⊥
err_ok e a p = let z : ◌≡◌ {A = ℕ} 0 1 = cc in omega arith

record JudgedOk (o : Option Fault) (v w : Raw) : Type 0 where
  right : o ≡ None
  has : has_type v ≡ true
  is : v ≡ w

judged_ok : (r : ℕ) (o : Option Fault) (v w : Raw) → judged r o v ≡ Ok w → JudgedOk o v w
judged_ok r (Some f) v w e = absurd (err_ok (Row r f) w e)
judged_ok r None v w e = typed (has_type v) refl e
  where
    typed : (t : Bool) → has_type v ≡ t → cond t (Ok v) (Err (Word r Unlisted)) ≡ Ok w → JudgedOk None v w
    typed true h q = record { right = refl; has = h; is = cc }
    typed false h q = absurd (err_ok (Word r Unlisted) w q)

valid : (w : Raw) → has_type w ≡ true → body w < 2 ^ 64 → Valid w
valid (data_word b) t s = s
valid (control_word b) t s = (s, t)

row_accepted : (r : ℕ) (bs : List ℕ) (w : Raw) → row_answer r bs ≡ Ok w → Valid w × (row_of w ++ drop 19 bs ≡ bs)
row_accepted r bs w e =
    let j = judged_ok r (fault 1 row_line bs) (row_word bs) w e in
    let s = row_stands bs j.right in
    (subst Valid j.is (valid (row_word bs) j.has s.small), ap (λ v. row_of v ++ drop 19 bs) (sym j.is) ∙ s.printed)

record ThenOk (a : Result Raw TextRefusal) (b : Answer) (ws : List Raw) : Type 0 where
  first : Raw
  others : List Raw
  row : a ≡ Ok first
  behind : b ≡ Ok others
  is : ws ≡ first ∷ others

then_ok : (a : Result Raw TextRefusal) (b : Answer) (ws : List Raw) → then a b ≡ Ok ws → ThenOk a b ws
then_ok (Ok w) (Ok vs) ws e = record { first = w; others = vs; row = refl; behind = refl; is = cc }
then_ok (Ok w) (Err f) ws e = absurd (err_ok f ws e)
then_ok (Err f) (Ok vs) ws e = absurd (err_ok f ws e)
then_ok (Err f) (Err g) ws e = absurd (err_ok f ws e)

rows_accepted : (n r : ℕ) (bs : List ℕ) (ws : List Raw) → rows r n bs ≡ Ok ws → (length ws ≡ n) × AllValid ws × (rows_of ws ≡ bs)
unfolding rows
rows_accepted zero r [] ws e = let f : ws ≡ [] = cc in rw f (refl, tt, refl)
rows_accepted zero r (b ∷ bs) ws e = absurd (err_ok (Rows r) ws e)
rows_accepted (suc n) r [] ws e = absurd (err_ok (Rows r) ws e)
rows_accepted (suc n) r (b ∷ bs) ws e =
    let t = then_ok (row_answer (r + 1) (b ∷ bs)) (rows (r + 1) n (drop 19 (b ∷ bs))) ws e in
    let i = rows_accepted n (r + 1) (drop 19 (b ∷ bs)) t.others t.behind in
    let w = row_accepted (r + 1) (b ∷ bs) t.first t.row in
    rw t.is (ap suc i.0, (w.0, i.1), ap (λ xs. row_of t.first ++ xs) i.2 ∙ w.1)

named_ok : (o : Option Fault) (a : Answer) (ws : List Raw) → behind_names o a ≡ Ok ws → (o ≡ None) × (a ≡ Ok ws)
named_ok (Some f) a ws e = absurd (err_ok (Names f) ws e)
named_ok None a ws e = (refl, e)

accepted_is_printed : (bs : List ℕ) (ws : List Raw) → answer bs ≡ Ok ws → (length ws ≡ 80) × AllValid ws × (text_of ws ≡ bs)
accepted_is_printed bs ws e =
    let p = named_ok (fault 1 names_line bs) (rows 0 80 (drop 10 bs)) ws e in
    let i = rows_accepted 80 0 (drop 10 bs) ws p.1 in
    let n = spelled_stands 1 (codes "head body" ++ (10 ∷ [])) bs p.0 in
    (i.0, i.1, ap (λ xs. (codes "head body" ++ (10 ∷ [])) ++ xs) i.2 ∙ n)

-- Printed is accepted

fault_hex : (c n x : ℕ) (ks : List Column) (more : List ℕ) → fault c (replicate n digit ++ ks) (hex n x ++ more) ≡ fault (c + n) ks more
unfolding fault hex
fault_hex c zero x ks more = ap (λ k. fault k ks more) (omega arith)
fault_hex c (suc n) x ks more =
    let d : ℕ = x / 16 ^ n % 16 in
    let e : is_some (hex_digit (digit_byte d)) ≡ true = ap is_some (digit_back d (omega arith)) in
    let a : c + 1 + n ≡ c + suc n = omega arith in
    ap (λ t. cond t (fault (c + 1) (replicate n digit ++ ks) (hex n x ++ more)) (Some (At c))) e ∙ fault_hex (c + 1) n x ks more ∙ ap (λ k. fault k ks more) a

tail_right : (x : ℕ) (more : List ℕ) → fault 3 (replicate 16 digit ++ (just 10 ∷ [])) ((hex 16 x ++ (10 ∷ [])) ++ more) ≡ None
unfolding fault
tail_right x more =
    ap (fault 3 (replicate 16 digit ++ (just 10 ∷ []))) (append_assoc (hex 16 x) (10 ∷ []) more) ∙ fault_hex 3 16 x (just 10 ∷ []) (10 ∷ more)

row_right : (w : Raw) (more : List ℕ) → fault 1 row_line (row_of w ++ more) ≡ None
unfolding fault
row_right (data_word b) more = tail_right b more
row_right (control_word b) more = tail_right b more

value_again : (x : ℕ) (more : List ℕ) → x < 2 ^ 64 → value (take 16 ((hex 16 x ++ (10 ∷ [])) ++ more)) ≡ x
value_again x more h =
    let t = take_at (hex 16 x) ((10 ∷ []) ++ more) 16 (length_hex 16 x) in
    let o = onto_hex 0 16 x in
    let m : x % 16 ^ 16 ≡ x = omega arith in
    ap (λ xs. value (take 16 xs)) (append_assoc (hex 16 x) (10 ∷ []) more) ∙ ap value t ∙ o ∙ omega arith

row_says : (w : Raw) (more : List ℕ) → Valid w → row_word (row_of w ++ more) ≡ w
row_says (data_word b) more v = ap data_word (value_again b more v)
row_says (control_word b) more v = ap control_word (value_again b more v.0)

has : (w : Raw) → Valid w → has_type w ≡ true
has (data_word b) v = refl
has (control_word b) v = v.1

row_printed : (r : ℕ) (w : Raw) (more : List ℕ) → Valid w → row_answer r (row_of w ++ more) ≡ Ok w
row_printed r w more v =
    ap (λ o. judged r o (row_word (row_of w ++ more))) (row_right w more) ∙ ap (judged r None) (row_says w more v)
    ∙ ap (λ t. cond t (Ok w) (Err (Word r Unlisted))) (has w v)

length_row : (w : Raw) → length (row_of w) ≡ 19
length_row w = let l = length-append (hex 16 (body w)) (10 ∷ []) in let h = length_hex 16 (body w) in omega arith

rows_printed : (r : ℕ) (ws : List Raw) → AllValid ws → rows r (length ws) (rows_of ws) ≡ Ok ws
unfolding rows
rows_printed r [] v = refl
rows_printed r (w ∷ ws) v =
    let a = row_printed (r + 1) w (rows_of ws) v.0 in
    let d = drop_at (row_of w) (rows_of ws) 19 (length_row w) in
    let i = rows_printed (r + 1) ws v.1 in
    ap (λ x. then x (rows (r + 1) (length ws) (drop 19 (row_of w ++ rows_of ws)))) a
    ∙ ap (λ xs. then (Ok w) (rows (r + 1) (length ws) xs)) d ∙ ap (then (Ok w)) i

printed_is_accepted : (ws : List Raw) → length ws ≡ 80 → AllValid ws → answer (text_of ws) ≡ Ok ws
unfolding fault
printed_is_accepted ws l v = ap (λ n. rows 0 n (rows_of ws)) (sym l) ∙ rows_printed 0 ws v

pub inverse : Inverse
inverse = record { accepted_is_printed = accepted_is_printed; printed_is_accepted = printed_is_accepted }

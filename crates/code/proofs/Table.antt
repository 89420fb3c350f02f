-- The table of the key, by one test that follows the sequence through it.
use Rattle.std.proofs.Common.{◌≡◌, ℕ, zero, suc, ◌+◌, ◌*◌, ◌%◌, ◌<◌, ◌≤◌, Bool, true, false, T, eqb, List, [], ◌∷◌, length, get_or, sym, refl, ap, ◌∙◌, subst, le_of_suc-le-suc, not-suc-le-zero, add-one, arith, eqb→eq}
use lib.Bits.{bit_xor}
use Rattle.code.specs.Distance.{plus}
use Rattle.code.specs.Layers.{keys, with_key}
use Rattle.code.specs.Sequence.{history, gathered, key}
use Rattle.code.specs.Scrambling.{length_keys, get_or_keys}
use Rattle.code.specs.Sums.{length_plus, get_or_plus, plus_by_places}

abbrev both : Bool → Bool → Bool
both true b = b
both false b = false

both_left : (a b : Bool) → T (both a b) → T a
both_left true b t = tt
both_left false b t = t

both_right : (a b : Bool) → T (both a b) → T b
both_right true b t = t
both_right false b t = absurd t

-- the bit that follows the history h
abbrev next : List ℕ → ℕ
next h = (get_or h 38 0 + get_or h 57 0) % 2

-- the history h with w more bits
abbrev grown : ℕ → List ℕ → List ℕ
grown zero h = h
grown (suc w) h = grown w (next h ∷ h)

-- those w bits as a number
abbrev read : ℕ → List ℕ → ℕ
read zero h = 0
read (suc w) h = next h + 2 * read w (next h ∷ h)

-- each entry of the list is the next ten bits
abbrev pub follows : List ℕ → List ℕ → Bool
follows h [] = true
follows h (x ∷ xs) = both (eqb x (read 10 h)) (follows (grown 10 h) xs)

read_is : (w k : ℕ) → read w (history k) ≡ gathered w k
unfolding history gathered
read_is zero k = refl
read_is (suc w) k = ap (λ n. next (history k) + 2 * n) (read_is w (suc k) ∙ ap (gathered w) (sym (add-one k)))

grown_is : (w k : ℕ) → grown w (history k) ≡ history (w + k)
unfolding history
grown_is zero k = ap history (omega arith)
grown_is (suc w) k = grown_is w (suc k) ∙ ap history (omega arith)

pub follows_at : (xs : List ℕ) (s : ℕ) → T (follows (history (10 * s)) xs) → (i : ℕ) → i < length xs → get_or xs i 0 ≡ key (s + i)
follows_at [] s t i h = absurd (not-suc-le-zero h)
follows_at (x ∷ xs) s t zero h =
    eqb→eq x (read 10 (history (10 * s))) (both_left (eqb x (read 10 (history (10 * s)))) (follows (grown 10 (history (10 * s))) xs) t)
    ∙ read_is 10 (10 * s) ∙ ap key (omega arith)
follows_at (x ∷ xs) s t (suc i) h =
    let rest = both_right (eqb x (read 10 (history (10 * s)))) (follows (grown 10 (history (10 * s))) xs) t in
    let e : 10 + 10 * s ≡ 10 * suc s = omega arith in
    follows_at xs (suc s) (subst (λ k. T (follows k xs)) (grown_is 10 (10 * s) ∙ ap history e) rest) i (le_of_suc-le-suc h)
    ∙ ap key (omega arith)

-- a table that passes the test from bit 0 on is the key: adding it is adding the key
pub key_added : (table line line' : List ℕ) → T (follows (history 0) table) → length line ≤ length table → line' ≡ plus line table → line' ≡ with_key line
key_added table line line' t h e =
    let n = length line in
    e ∙ plus_by_places line (keys n) (plus line table) (length_plus line table) (omega (arith, length_keys n))
    (λ i b. get_or_plus line table i b (omega arith)
    ∙ ap (bit_xor (get_or line i 0)) (follows_at table 0 t i (omega arith) ∙ ap key (omega arith) ∙ sym (get_or_keys n i b)))

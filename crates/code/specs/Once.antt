-- For proofs: at most one code word is near a line, so a mending has one outcome.
use Rattle.std.specs.Prelude.{◌≡◌, ℕ, ◌+◌, ◌*◌, ◌<◌, ◌≤◌, List, Ok, Err, Result, refl}
use Rattle.std.proofs.Common.{sym, ap, ◌∙◌, arith}
use Rattle.symbols.specs.Symbols.{Symbols, FirstAbove}
use Rattle.code.specs.Distance.{distance}
use Rattle.code.specs.Codes.{Model, Lawful, Near, OneNear}
use Rattle.code.specs.Calls.{Sized, Mended, MendedOk, MendRefused, Sure}
use Rattle.code.specs.declared.refusal.CodeRefusal.{CodeRefusal}
use Rattle.code.specs.declared.refusal.CodeRefusal.TheVariants.{Length, Symbol, NoCodeWord}
use Rattle.code.specs.Metric.{distance_self, distance_zero, distance_comm, distance_triangle}

-- two code words within t of one line lie less than 2t + 1 apart, so they are one
pub one_near : (m : Model) → Lawful m → OneNear m
one_near m law line x y long nx ny =
    let mx = nx.is_message in
    let my = ny.is_message in
    let lx = long ∙ sym (law.long x mx) in
    let ly = long ∙ sym (law.long y my) in
    let c = distance_comm line (m.encode x) in
    let t = distance_triangle (m.encode x) line (m.encode y) (sym lx) ly in
    let small : distance (m.encode x) (m.encode y) ≤ 2 * m.t = omega (arith, nx.within, ny.within) in
    let differ : 0 < distance x y → x ≡ y → ⊥ = λ h e. let z : distance x y ≡ 0 = ap (distance x) (sym e) ∙ distance_self x in omega arith in
    let far : 0 < distance x y → 2 * m.t + 1 ≤ distance (m.encode x) (m.encode y) = λ h. law.apart x y mx my (differ h) in
    let none : distance x y ≡ 0 = grind arith in
    distance_zero x y (mx.long ∙ sym my.long) none

-- a list of symbols has no first number above them
pub no_above : (xs : List ℕ) (p : ℕ) → Symbols xs → FirstAbove xs p → ⊥
no_above xs p s f = omega (arith, s p f.within, f.above)

one_above : (xs : List ℕ) (p q : ℕ) → FirstAbove xs p → FirstAbove xs q → p ≡ q
one_above xs p q a b =
    let f : p < q → ⊥ = λ h. omega (arith, b.earlier p h, a.above) in
    let g : q < p → ⊥ = λ h. omega (arith, a.earlier q h, b.above) in
    grind arith

-- the word that a mending found is near
pub found_near : (m : Model) (line message l x : List ℕ) (d : ℕ) → MendedOk m line message l x d → Near m line x
found_near m line message l x d ok =
    record { is_message = ok.is_message; within = omega (arith, ok.near, ok.answer ∙ ap (distance line) ok.becomes) }

-- where a mending succeeds, none refuses
never_refused : (m : Model) (line message l x : List ℕ) (d : ℕ) (e : CodeRefusal) → MendedOk m line message l x d → MendRefused m line message e → ⊥
never_refused m line message l x d Length ok h = h ok.sized
never_refused m line message l x d (Symbol p) ok h = no_above line p ok.symbols h.1
never_refused m line message l x d NoCodeWord ok h = h.2 x (found_near m line message l x d ok)

one_refusal : (m : Model) (line message : List ℕ) (e f : CodeRefusal) → MendRefused m line message e → MendRefused m line message f → e ≡ f
one_refusal m line message Length Length h k = refl
one_refusal m line message Length (Symbol q) h k = absurd (h k.0)
one_refusal m line message Length NoCodeWord h k = absurd (h k.0)
one_refusal m line message (Symbol p) Length h k = absurd (k h.0)
one_refusal m line message (Symbol p) (Symbol q) h k = ap Symbol (one_above line p q h.1 k.1)
one_refusal m line message (Symbol p) NoCodeWord h k = absurd (no_above line p k.1 h.1)
one_refusal m line message NoCodeWord Length h k = absurd (k h.0)
one_refusal m line message NoCodeWord (Symbol q) h k = absurd (no_above line q h.1 k.1)
one_refusal m line message NoCodeWord NoCodeWord h k = refl

abbrev Same : List ℕ → List ℕ → Result ℕ CodeRefusal → List ℕ → List ℕ → Result ℕ CodeRefusal → Type 0
Same l x q l' x' r = (l ≡ l') × (x ≡ x') × (q ≡ r)

-- a mending has one outcome
pub mends_once : (m : Model) → Lawful m → (line message l x l' x' : List ℕ) (q r : Result ℕ CodeRefusal)
    → Mended m line message l x q → Mended m line message l' x' r → Same l x q l' x' r
mends_once m law line message l x l' x' (Ok d) (Ok e) a b =
    let one : x ≡ x' = one_near m law line x x' a.sized.line_long (found_near m line message l x d a) (found_near m line message l' x' e b) in
    let same : l ≡ l' = a.becomes ∙ ap m.encode one ∙ sym b.becomes in
    (same, one, ap Ok (a.answer ∙ ap (distance line) same ∙ sym b.answer))
mends_once m law line message l x l' x' (Ok d) (Err f) a b = absurd (never_refused m line message l x d f a b.0)
mends_once m law line message l x l' x' (Err e) (Ok d) a b = absurd (never_refused m line message l' x' d e b a.0)
mends_once m law line message l x l' x' (Err e) (Err f) a b =
    (a.1 ∙ sym b.1, a.2 ∙ sym b.2, ap Err (one_refusal m line message e f a.0 b.0))

-- the outcome that a near code word asks for
asked : (m : Model) → Lawful m → (line message x : List ℕ) → Sized m.n message line → Symbols line → Near m line x
    → MendedOk m line message (m.encode x) x (distance line (m.encode x))
asked m law line message x sized symbols near =
    record { sized = sized; symbols = symbols; is_message = near.is_message; becomes = refl; answer = refl; near = near.within }

pub sure : (m : Model) → Lawful m → (line message line' message' : List ℕ) (r : Result ℕ CodeRefusal) → Mended m line message line' message' r → Sure m line message line' message' r
sure m law line message line' message' r h = record {
  only = λ l x q k. mends_once m law line message l x line' message' q r k h;
  back = λ sized symbols x near.
      let same = mends_once m law line message (m.encode x) x line' message' (Ok (distance line (m.encode x))) r (asked m law line message x sized symbols near) h in
      (sym same.1, sym same.0, sym same.2 ∙ ap (λ l. Ok (distance line l)) same.0);
}

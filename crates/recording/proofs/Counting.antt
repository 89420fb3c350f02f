-- Counting from marker to marker: what a reading says of its place, that there is one count, and the count of signals end to end.
use Rattle.std.proofs.Common.{◌≡◌, ℕ, suc, ◌+◌, ◌≤◌, true, false, ◌⊎◌, List, length, is_ok, Ok, Err, Result, sym, refl, ap, ◌∙◌, subst, inl, inr, arith}
use Rattle.std.proofs.lemmas.Bool.{cases_order, true≢false}
use Rattle.training.specs.declared.records.Training.{Training}
use Rattle.training.specs.declared.refusals.TrainingRefusal.{TrainingRefusal}
use Rattle.training.specs.declared.refusals.TrainingRefusal.TheVariants.{Values, Seed, Length, Short, NoMarker, BrokenCell, Reserved, Pattern, NothingFound}
use Rattle.signal.specs.Signal.{bits_of}
use Rattle.signal.specs.Calls.{Sized, Read}
use Rattle.signal.specs.declared.tape.Recording.{Recording}
use Rattle.signal.specs.Tape.{bytes_of}
use Rattle.signal.specs.Laws.{ReadsOnce}
use Rattle.signal.proofs.SignalParts.{length_signal}
use Rattle.recording.specs.Finding.{FirstMarker, Markerless, FindRefused}
use Rattle.recording.specs.Surveying.{Good, Counted, over, good, bad}

-- bytes that make a recording are no more than one may have
pub sized_bytes : (r : Recording) (bytes : List ℕ) → bytes_of r ≡ bytes → Sized bytes
sized_bytes r bytes e = subst Sized e r.sized

-- a reading is good exactly where a signal stands
pub good_read : (recording : List ℕ) (p : ℕ) (r : Result Training TrainingRefusal) → Read recording p r → is_ok r ≡ true → Good (bits_of recording) p
good_read recording p (Ok t) h e = (t.control, t.status, t.seed, h.seeded, h.stands)
good_read recording p (Err e) h i = absurd (true≢false (sym i))

pub bad_read : (recording : List ℕ) (p : ℕ) (r : Result Training TrainingRefusal) → Sized recording → ReadsOnce recording p r → is_ok r ≡ false → Good (bits_of recording) p → ⊥
bad_read recording p r sized only e g =
    let is = only (Ok (record { control = g.0; status = g.1; seed = g.2 })) (record { sized = sized; seeded = g.3; stands = g.4 }) in
    true≢false (ap is_ok is ∙ e)

-- one count

one_first : (bits : List ℕ) (from p q : ℕ) → FirstMarker bits from p → FirstMarker bits from q → p ≡ q
one_first bits from p q a b =
    elim (cases_order p q) [ inl e ↦ e | inr o ↦ elim o [ inl l ↦ absurd (b.first p a.after l a.marked) | inr l ↦ absurd (a.first q b.after l b.marked) ] ]

-- where nothing follows, nothing was first
pub ends : (bits : List ℕ) (from p : ℕ) → Markerless bits from → FirstMarker bits from p → ⊥
ends bits from p none f = none p f.after f.marked

-- a count is by what stands first: nothing, a good signal, a bad one
abbrev Next : List ℕ → ℕ → ℕ → ℕ → Type 0
Next bits from goods bads =
    (Markerless bits from × (goods ≡ 0) × (bads ≡ 0))
    ⊎ (((p : ℕ) × (g : ℕ) × FirstMarker bits from p × Good bits p × Counted bits (p + 4384) g bads × (goods ≡ suc g))
    ⊎ ((p : ℕ) × (b : ℕ) × FirstMarker bits from p × (Good bits p → ⊥) × Counted bits (p + 32) goods b × (bads ≡ suc b)))

next : (bits : List ℕ) {from goods bads : ℕ} → Counted bits from goods bads → Next bits from goods bads
next bits (over none) = inl (none, refl, refl)
next bits (good {p = p} {goods = g} first is rest) = inr (inl (p, g, first, is, rest, refl))
next bits (bad {p = p} {bads = b} first wrong rest) = inr (inr (p, b, first, wrong, rest, refl))

pub one_count : (bits : List ℕ) {from goods bads : ℕ} → Counted bits from goods bads → (goods' bads' : ℕ) → Counted bits from goods' bads' → (goods' ≡ goods) × (bads' ≡ bads)
one_count bits (over {from = from} none) goods' bads' other =
    elim (next bits other) [
      | inl n ↦ (n.1, n.2)
      | inr o ↦ elim o [ inl n ↦ absurd (ends bits from n.0 none n.2) | inr n ↦ absurd (ends bits from n.0 none n.2) ]
    ]
one_count bits (good {from = from} {p = p} first is rest) goods' bads' other =
    let deeper = one_count bits rest in
    elim (next bits other) [
      | inl n ↦ absurd (ends bits from p n.0 first)
      | inr o ↦ elim o [
        | inl n ↦ (let same = one_first bits from n.0 p n.2 first in
            let i = deeper n.1 bads' (subst (λ (q : ℕ). Counted bits (q + 4384) n.1 bads') same n.4) in
            (n.5 ∙ ap suc i.0, i.1))
        | inr n ↦ absurd (n.3 (subst (Good bits) (one_first bits from p n.0 first n.2) is))
      ]
    ]
one_count bits (bad {from = from} {p = p} first wrong rest) goods' bads' other =
    let deeper = one_count bits rest in
    elim (next bits other) [
      | inl n ↦ absurd (ends bits from p n.0 first)
      | inr o ↦ elim o [
        | inl n ↦ absurd (wrong (subst (Good bits) (one_first bits from n.0 p n.2 first) n.3))
        | inr n ↦ (let same = one_first bits from n.0 p n.2 first in
            let i = deeper goods' n.1 (subst (λ (q : ℕ). Counted bits (q + 32) goods' n.1) same n.4) in
            (i.0, n.5 ∙ ap suc i.1))
      ]
    ]

-- one turn of the count
abbrev pub Adds : List ℕ → ℕ → ℕ → ℕ → Type 0
Adds bits from goods bads = (g b : ℕ) → Counted bits from g b → Counted bits 0 (goods + g) (bads + b)

pub adds_good : (bits : List ℕ) (from p goods bads : ℕ) → Adds bits from goods bads → FirstMarker bits from p → Good bits p → Adds bits (p + 4384) (goods + 1) bads
adds_good bits from p goods bads adds first is g b rest =
    let e : goods + suc g ≡ goods + 1 + g = omega arith in
    subst (λ (n : ℕ). Counted bits 0 n (bads + b)) e (adds (suc g) b (good first is rest))

pub adds_bad : (bits : List ℕ) (from p goods bads : ℕ) → Adds bits from goods bads → FirstMarker bits from p → (Good bits p → ⊥) → Adds bits (p + 32) goods (bads + 1)
adds_bad bits from p goods bads adds first wrong g b rest =
    let e : bads + suc b ≡ bads + 1 + b = omega arith in
    subst (Counted bits 0 (goods + g)) e (adds g (suc b) (bad first wrong rest))

pub adds_over : (bits : List ℕ) (from goods bads : ℕ) → Adds bits from goods bads → Markerless bits from → Counted bits 0 goods bads
adds_over bits from goods bads adds none =
    let p : goods + 0 ≡ goods = omega arith in
    let q : bads + 0 ≡ bads = omega arith in
    subst (Counted bits 0 goods) q (subst (λ (n : ℕ). Counted bits 0 n (bads + 0)) p (adds 0 0 (over none)))

pub good_fits : (bits : List ℕ) (p : ℕ) → Good bits p → p + 4384 ≤ length bits
good_fits bits p g = omega (arith, g.4.within, length_signal g.0 g.1 g.2)

-- a search that is refused leaves no marker
pub refused_markerless : (recording : List ℕ) (from : ℕ) (e : TrainingRefusal) → FindRefused recording from e → Sized recording → Markerless (bits_of recording) from
refused_markerless recording from Length h sized = absurd (h sized)
refused_markerless recording from (NothingFound p) h sized = h.2
refused_markerless recording from Values h sized = absurd h
refused_markerless recording from Seed h sized = absurd h
refused_markerless recording from (Short p) h sized = absurd h
refused_markerless recording from (NoMarker p) h sized = absurd h
refused_markerless recording from (BrokenCell p) h sized = absurd h
refused_markerless recording from (Reserved p) h sized = absurd h
refused_markerless recording from (Pattern p) h sized = absurd h

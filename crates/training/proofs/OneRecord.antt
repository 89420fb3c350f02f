-- No two records have the same number.
use Rattle.std.proofs.Common.{◌≡◌, ℕ, ◌<◌, Bool, true, false, cond, eqb, sym, refl, ap, ◌∙◌}
use Rattle.training.specs.declared.records.Mark.{Mark}
use Rattle.training.specs.declared.records.Mark.TheVariants.{Gfc16, Gfc32}
use Rattle.training.specs.declared.records.Update.{Update}
use Rattle.training.specs.declared.records.Update.TheVariants.{Hold, Increment, Decrement}
use Rattle.training.specs.declared.records.State.{State}
use Rattle.training.specs.declared.records.State.TheVariants.{Ready, Updated, Minimum, Maximum}
use Rattle.training.specs.declared.records.Control.{Control}
use Rattle.training.specs.declared.records.Status.{Status}
use Rattle.training.specs.Numbers.{mark_number, update_number, state_number, coefficients_number}
use Rattle.std.specs.Int.{from_bool}
use Rattle.training.specs.Fields.{control_number, status_number}
use Rattle.training.specs.Fitting.{update_below, state_below}
use Rattle.training.proofs.Numbering.{coefficients_parts, control_parts, status_parts}

-- no two things have one value
abbrev Apart : {X : Type 0} → (X → ℕ) → Type 0
Apart {X} number = (x y : X) → number x ≡ number y → x ≡ y

-- a function that undoes another leaves no two things with one value
apart_from : {X : Type 0} (number : X → ℕ) (back : ℕ → X) → ((x : X) → back (number x) ≡ x) → Apart number
apart_from number back undone x y e = sym (undone x) ∙ ap back e ∙ undone y

flag_back : (b : Bool) → eqb (from_bool b) 1 ≡ b
flag_back true = refl
flag_back false = refl

mark_at : ℕ → Mark
mark_at n = cond (eqb n 0) Gfc16 Gfc32

mark_back : (m : Mark) → mark_at (mark_number m) ≡ m
unfolding mark_at
mark_back Gfc16 = refl
mark_back Gfc32 = refl

update_at : ℕ → Update
update_at n = cond (eqb n 0) Hold (cond (eqb n 1) Increment Decrement)

update_back : (u : Update) → update_at (update_number u) ≡ u
unfolding update_at
update_back Hold = refl
update_back Increment = refl
update_back Decrement = refl

state_at : ℕ → State
state_at n = cond (eqb n 0) Ready (cond (eqb n 1) Updated (cond (eqb n 2) Minimum Maximum))

state_back : (s : State) → state_at (state_number s) ≡ s
unfolding state_at
state_back Ready = refl
state_back Updated = refl
state_back Minimum = refl
state_back Maximum = refl

same_coefficients : {X : Type 0} (number : X → ℕ) → ((x : X) → number x < 4) → Apart number → Apart (coefficients_number number)
same_coefficients number fits apart k l e =
    let p = coefficients_parts number fits k (coefficients_number number l) e in
    let q = coefficients_parts number fits l (coefficients_number number l) refl in
    let c1 = apart k.c1 l.c1 (sym p.0 ∙ q.0) in
    let c0 = apart k.c0 l.c0 (sym p.1 ∙ q.1) in
    let cm1 = apart k.cm1 l.cm1 (sym p.2 ∙ q.2) in
    λ i. record { c1 = c1 i; c0 = c0 i; cm1 = cm1 i }

pub same_control : (c d : Control) → control_number c ≡ control_number d → c ≡ d
same_control c d e =
    let p = control_parts c (control_number d) e in
    let q = control_parts d (control_number d) refl in
    let flags = apart_from from_bool (λ n. eqb n 1) flag_back in
    let marks = apart_from mark_number mark_at mark_back in
    let updates = same_coefficients update_number update_below (apart_from update_number update_at update_back) in
    let m = marks c.mark d.mark (sym p.0 ∙ q.0) in
    let f1 = flags c.preset d.preset (sym p.1 ∙ q.1) in
    let f2 = flags c.initialise d.initialise (sym p.2 ∙ q.2) in
    let f3 = flags c.fec_request d.fec_request (sym p.3 ∙ q.3) in
    let f4 = flags c.parallel_lanes d.parallel_lanes (sym p.4 ∙ q.4) in
    let u = updates c.updates d.updates (sym p.5 ∙ q.5) in
    λ i. record { mark = m i; preset = f1 i; initialise = f2 i; fec_request = f3 i; parallel_lanes = f4 i; updates = u i }

pub same_status : (s t : Status) → status_number s ≡ status_number t → s ≡ t
same_status s t e =
    let p = status_parts s (status_number t) e in
    let q = status_parts t (status_number t) refl in
    let flags = apart_from from_bool (λ n. eqb n 1) flag_back in
    let states = same_coefficients state_number state_below (apart_from state_number state_at state_back) in
    let f1 = flags s.complete t.complete (sym p.0 ∙ q.0) in
    let f2 = flags s.negotiating t.negotiating (sym p.1 ∙ q.1) in
    let f3 = flags s.fec_capable t.fec_capable (sym p.2 ∙ q.2) in
    let f4 = flags s.fixed t.fixed (sym p.3 ∙ q.3) in
    let u = states s.states t.states (sym p.4 ∙ q.4) in
    λ i. record { complete = f1 i; negotiating = f2 i; fec_capable = f3 i; fixed = f4 i; states = u i }

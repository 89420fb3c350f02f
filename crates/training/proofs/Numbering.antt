-- The number of a record: each part is found in it, and it has sixteen bits.
use Rattle.std.proofs.Common.{◌≡◌, ℕ, zero, suc, ◌+◌, ◌*◌, ◌/◌, ◌%◌, ◌<◌, eqb, Ok, Err, Result, sym, refl, ap, ◌∙◌, arith, MatchOption, MatchResult}
use Rattle.std.specs.Result.{result_ok}
use Rattle.training.specs.declared.records.Coefficients.{Coefficients}
use Rattle.training.specs.declared.records.Control.{Control}
use Rattle.training.specs.declared.records.Status.{Status}
use Rattle.training.specs.declared.refusals.TrainingRefusal.{TrainingRefusal}
use Rattle.training.specs.declared.refusals.TrainingRefusal.TheVariants.{Values}
use Rattle.training.specs.Making.{ControlFrom, StatusFrom}
use Rattle.training.specs.Numbers.{mark_number, update_number, state_number, coefficients_number, IsMark, IsUpdate, IsState}
use Rattle.std.specs.Int.{from_bool}
use Rattle.training.specs.Fields.{control_number, status_number, IsControl, IsStatus}
use Rattle.training.specs.Fitting.{mark_below, update_below, state_below, flag_below}

-- the parts of three coefficients, at any number of four values
pub coefficients_parts : {X : Type 0} (number : X → ℕ) → ((x : X) → number x < 4) → (k : Coefficients X) (n : ℕ) → coefficients_number number k ≡ n
    → (n / 16 ≡ number k.c1) × (n / 4 % 4 ≡ number k.c0) × (n % 4 ≡ number k.cm1)
coefficients_parts number fits k n e =
    let c1 = fits k.c1 in
    let c0 = fits k.c0 in
    let cm1 = fits k.cm1 in
    (omega arith, omega arith, omega arith)

pub coefficients_below : {X : Type 0} (number : X → ℕ) → ((x : X) → number x < 4) → (k : Coefficients X) → coefficients_number number k < 64
coefficients_below number fits k = omega (arith, fits k.c1, fits k.c0, fits k.cm1)

pub control_digits : (f m p i r l k : ℕ) → m < 4 → p < 2 → i < 2 → r < 2 → l < 2 → k < 64
    → 16384 * m + 8192 * p + 4096 * i + 2048 * r + 1024 * l + k ≡ f
    → (f / 16384 ≡ m) × (f / 8192 % 2 ≡ p) × (f / 4096 % 2 ≡ i) × (f / 2048 % 2 ≡ r) × (f / 1024 % 2 ≡ l) × (f % 64 ≡ k)
control_digits f m p i r l k hm hp hi hr hl hk e = (omega arith, omega arith, omega arith, omega arith, omega arith, omega arith)

pub control_parts : (c : Control) (f : ℕ) → control_number c ≡ f
    → (f / 16384 ≡ mark_number c.mark) × (f / 8192 % 2 ≡ from_bool c.preset) × (f / 4096 % 2 ≡ from_bool c.initialise) × (f / 2048 % 2 ≡ from_bool c.fec_request)
    × (f / 1024 % 2 ≡ from_bool c.parallel_lanes) × (f % 64 ≡ coefficients_number update_number c.updates)
control_parts c f e =
    control_digits f _ _ _ _ _ _ (mark_below c.mark) (flag_below c.preset) (flag_below c.initialise) (flag_below c.fec_request) (flag_below c.parallel_lanes)
    (coefficients_below update_number update_below c.updates) e

pub flag_of_bit : (b : ℕ) → b < 2 → from_bool (eqb b 1) ≡ b
flag_of_bit zero h = refl
flag_of_bit (suc zero) h = refl
flag_of_bit (suc (suc b)) h = omega arith

control_sum : (f m p i r l a b d : ℕ) → f / 64 % 16 ≡ 0 → m ≡ f / 16384 → p ≡ f / 8192 % 2 → i ≡ f / 4096 % 2 → r ≡ f / 2048 % 2 → l ≡ f / 1024 % 2
    → a ≡ f / 16 % 4 → b ≡ f / 4 % 4 → d ≡ f % 4 → 16384 * m + 8192 * p + 4096 * i + 2048 * r + 1024 * l + (16 * a + 4 * b + d) ≡ f
control_sum f m p i r l a b d z hm hp hi hr hl ha hb hd = omega arith

-- what `Control::new` answers for the parts of a field is what the field means
pub control_read : (f : ℕ) (r : Result Control TrainingRefusal) → f / 64 % 16 ≡ 0
    → MatchResult r (ControlFrom (f / 16384) (eqb (f / 8192 % 2) 1) (eqb (f / 4096 % 2) 1) (eqb (f / 2048 % 2) 1) (eqb (f / 1024 % 2) 1) (f / 16 % 4) (f / 4 % 4) (f % 4))
    (λ e. (e ≡ Values) × (IsMark (f / 16384) × IsUpdate (f / 16 % 4) × IsUpdate (f / 4 % 4) × IsUpdate (f % 4) → ⊥))
    → MatchOption (result_ok r) (IsControl f → ⊥) (λ c. control_number c ≡ f)
control_read f (Ok c) z h =
    control_sum f _ _ _ _ _ _ _ _ z h.has_mark (ap from_bool h.has_preset ∙ flag_of_bit (f / 8192 % 2) (omega arith)) (ap from_bool h.has_initialise ∙ flag_of_bit (f / 4096 % 2) (omega arith))
    (ap from_bool h.has_request ∙ flag_of_bit (f / 2048 % 2) (omega arith)) (ap from_bool h.has_lanes ∙ flag_of_bit (f / 1024 % 2) (omega arith))
    h.has_updates.has_c1 h.has_updates.has_c0 h.has_updates.has_cm1
control_read f (Err e) z h = λ w.
    let c = w.0 in
    let p = control_parts c f w.1 in
    let q = coefficients_parts update_number update_below c.updates (f % 64) (sym p.5) in
    h.1 ((c.mark, sym p.0), (c.updates.c1, omega (arith, q.0)), (c.updates.c0, omega (arith, q.1)), (c.updates.cm1, omega (arith, q.2)))

status_digits : (f p n k x s : ℕ) → p < 2 → n < 2 → k < 2 → x < 2 → s < 64
    → 32768 * p + 16384 * n + 8192 * k + 4096 * x + s ≡ f
    → (f / 32768 ≡ p) × (f / 16384 % 2 ≡ n) × (f / 8192 % 2 ≡ k) × (f / 4096 % 2 ≡ x) × (f % 64 ≡ s)
status_digits f p n k x s hp hn hk hx hs e = (omega arith, omega arith, omega arith, omega arith, omega arith)

pub status_parts : (s : Status) (f : ℕ) → status_number s ≡ f
    → (f / 32768 ≡ from_bool s.complete) × (f / 16384 % 2 ≡ from_bool s.negotiating) × (f / 8192 % 2 ≡ from_bool s.fec_capable) × (f / 4096 % 2 ≡ from_bool s.fixed)
    × (f % 64 ≡ coefficients_number state_number s.states)
status_parts s f e =
    status_digits f _ _ _ _ _ (flag_below s.complete) (flag_below s.negotiating) (flag_below s.fec_capable) (flag_below s.fixed)
    (coefficients_below state_number state_below s.states) e

status_sum : (f p n k x a b d : ℕ) → f / 64 % 64 ≡ 0 → p ≡ f / 32768 → n ≡ f / 16384 % 2 → k ≡ f / 8192 % 2 → x ≡ f / 4096 % 2
    → a ≡ f / 16 % 4 → b ≡ f / 4 % 4 → d ≡ f % 4 → 32768 * p + 16384 * n + 8192 * k + 4096 * x + (16 * a + 4 * b + d) ≡ f
status_sum f p n k x a b d z hp hn hk hx ha hb hd = omega arith

-- what `Status::new` answers for the parts of a field is what the field means
pub status_read : (f : ℕ) (r : Result Status TrainingRefusal) → f < 65536 → f / 64 % 64 ≡ 0
    → MatchResult r (StatusFrom (eqb (f / 32768) 1) (eqb (f / 16384 % 2) 1) (eqb (f / 8192 % 2) 1) (eqb (f / 4096 % 2) 1) (f / 16 % 4) (f / 4 % 4) (f % 4))
    (λ e. (e ≡ Values) × (IsState (f / 16 % 4) × IsState (f / 4 % 4) × IsState (f % 4) → ⊥))
    → MatchOption (result_ok r) (IsStatus f → ⊥) (λ s. status_number s ≡ f)
status_read f (Ok s) small z h =
    status_sum f _ _ _ _ _ _ _ z (ap from_bool h.has_complete ∙ flag_of_bit (f / 32768) (omega arith)) (ap from_bool h.has_negotiating ∙ flag_of_bit (f / 16384 % 2) (omega arith))
    (ap from_bool h.has_capable ∙ flag_of_bit (f / 8192 % 2) (omega arith)) (ap from_bool h.has_fixed ∙ flag_of_bit (f / 4096 % 2) (omega arith))
    h.has_states.has_c1 h.has_states.has_c0 h.has_states.has_cm1
status_read f (Err e) small z h = λ w.
    let s = w.0 in
    let p = status_parts s f w.1 in
    let q = coefficients_parts state_number state_below s.states (f % 64) (sym p.4) in
    h.1 ((s.states.c1, omega (arith, q.0)), (s.states.c0, omega (arith, q.1)), (s.states.cm1, omega (arith, q.2)))

pub control_below : (c : Control) → control_number c < 65536
control_below c =
    omega (
      arith,
      mark_below c.mark,
      flag_below c.preset,
      flag_below c.initialise,
      flag_below c.fec_request,
      flag_below c.parallel_lanes,
      coefficients_below update_number update_below c.updates,
    )

pub status_below : (s : Status) → status_number s < 65536
status_below s =
    omega (
      arith,
      flag_below s.complete,
      flag_below s.negotiating,
      flag_below s.fec_capable,
      flag_below s.fixed,
      coefficients_below state_number state_below s.states,
    )

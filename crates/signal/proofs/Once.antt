-- A reading has one answer: the checks come in stages, and a reading ends at the first that is not passed.
use Rattle.std.proofs.Common.{◌≡◌, ℕ, zero, suc, ◌+◌, ◌-◌, ◌<◌, List, Ok, Err, Result, sym, refl, ap, ◌∙◌, subst, inl, inr, arith}
use Rattle.std.proofs.lemmas.Bool.{cases_order}
use Rattle.training.specs.declared.records.Control.{Control}
use Rattle.training.specs.declared.records.Status.{Status}
use Rattle.training.specs.declared.records.Training.{Training}
use Rattle.training.specs.declared.refusals.TrainingRefusal.{TrainingRefusal}
use Rattle.training.specs.declared.refusals.TrainingRefusal.TheVariants.{Values, Seed, Length, Short, NoMarker, BrokenCell, Reserved, Pattern, NothingFound}
use Rattle.training.specs.Fields.{control_number, status_number}
use Rattle.signal.specs.Signal.{bits_of, Stands, front}
use Rattle.signal.specs.Calls.{Sized, Room, Marked, Fronted, Read, ReadOk, ReadRefused}
use Rattle.signal.specs.Laws.{ReadsBack}
use Rattle.signal.proofs.SignalParts.{length_signal, signal_front, signal_back, front_marker}
use Rattle.signal.proofs.OneSignal.{same_front, signal_fronted, same_signal, front_unbroken}

module _ (recording : List ℕ) (start : ℕ) where
  -- what is known once a stage is passed
  abbrev Passed : ℕ → Type 0
  Passed zero = Unit {0}
  Passed (suc zero) = Sized recording
  Passed (suc (suc zero)) = Sized recording × Room (bits_of recording) start
  Passed (suc (suc (suc zero))) = Sized recording × Room (bits_of recording) start × Marked (bits_of recording) start
  Passed (suc (suc (suc (suc zero)))) = Sized recording × Room (bits_of recording) start × ((control : ℕ) × (status : ℕ) × Fronted (bits_of recording) start control status)
  Passed (suc (suc (suc (suc (suc zero))))) =
      Sized recording × Room (bits_of recording) start × ((c : Control) × (s : Status) × Stands (front (control_number c) (status_number s)) (bits_of recording) start)
  Passed (suc (suc (suc (suc (suc (suc zero)))))) = (t : Training) × ReadOk recording start t
  Passed (suc (suc (suc (suc (suc (suc (suc n))))))) = ⊥

  ok_room : (t : Training) → ReadOk recording start t → Room (bits_of recording) start
  ok_room t ok = omega (arith, ok.stands.within, length_signal t.control t.status t.seed)

  -- each stage has the one before it behind it
  earlier : (n : ℕ) → Passed (suc n) → Passed n
  earlier zero p = tt
  earlier (suc zero) p = p.0
  earlier (suc (suc zero)) p = (p.0, p.1)
  earlier (suc (suc (suc zero))) p = (p.0, p.1, front_marker (bits_of recording) start p.2.0 p.2.1 p.2.2.2)
  earlier (suc (suc (suc (suc zero)))) p =
      (p.0, p.1, (control_number p.2.0, status_number p.2.1, signal_fronted (bits_of recording) p.2.0 p.2.1 start p.2.2))
  earlier (suc (suc (suc (suc (suc zero))))) p =
      let t = p.0 in
      (p.1.sized, ok_room t p.1, (t.control, t.status, signal_front (bits_of recording) start t.control t.status t.seed p.1.stands))
  earlier (suc (suc (suc (suc (suc (suc n)))))) p = absurd p

  down : (k n : ℕ) → Passed (n + k) → Passed n
  down zero n p = let z : n + 0 ≡ n = omega arith in subst Passed z p
  down (suc k) n p = let z : n + suc k ≡ suc (n + k) = omega arith in down k n (earlier (n + k) (subst Passed z p))

  -- the stages that are passed before an answer
  stage_of : TrainingRefusal → ℕ
  stage_of Length = 0
  stage_of (Short p) = 1
  stage_of (NoMarker p) = 2
  stage_of (BrokenCell p) = 3
  stage_of (Reserved p) = 4
  stage_of (Pattern p) = 5
  stage_of Values = 6
  stage_of Seed = 6
  stage_of (NothingFound p) = 6

  stage : Result Training TrainingRefusal → ℕ
  stage (Ok t) = 6
  stage (Err e) = stage_of e

  -- an answer has its stages behind it, and not the next one
  abbrev Halts : ℕ → Type 0
  Halts n = Passed n × (Passed (suc n) → ⊥)

  halts_refused : (e : TrainingRefusal) → ReadRefused recording start e → Halts (stage_of e)
  unfolding stage_of
  halts_refused Length h = (tt, h)
  halts_refused (Short p) h = (h.1, λ q. h.2 q.1)
  halts_refused (NoMarker p) h = ((h.1, h.2), λ q. h.3 q.2)
  halts_refused (BrokenCell p) h = ((h.1, h.2, h.3), λ q. front_unbroken (bits_of recording) start q.2.0 q.2.1 q.2.2.2 h.4)
  halts_refused (Reserved p) h =
      let u = h.3 in (
        (h.1, h.2, (u.0, u.1, u.2)),
        λ q. let same = same_front (bits_of recording) start (control_number q.2.0) (status_number q.2.1) u.0 u.1 (signal_fronted (bits_of recording) q.2.0 q.2.1 start q.2.2) u.2 in
            u.3 ((q.2.0, same.0), (q.2.1, same.1)),
      )
  halts_refused (Pattern p) h =
      let u = h.3 in (
        (h.1, h.2, (u.0, u.1, u.2)),
        λ q. let t = q.0 in u.3 t.seed q.1.seeded (signal_back (bits_of recording) start t.control t.status t.seed q.1.stands),
      )
  halts_refused Values h = absurd h
  halts_refused Seed h = absurd h
  halts_refused (NothingFound p) h = absurd h

  halts : (r : Result Training TrainingRefusal) → Read recording start r → Halts (stage r)
  unfolding stage
  halts (Ok t) h = ((t, h), λ q. q)
  halts (Err e) h = halts_refused e h

  -- two answers come at the same stage
  not_before : (m n : ℕ) → Halts m → Halts n → m < n → ⊥
  not_before m n a b l = let e : n ≡ suc m + (n - suc m) = omega arith in a.1 (down (n - suc m) (suc m) (subst Passed e b.0))

  same_stage : (m n : ℕ) → Halts m → Halts n → m ≡ n
  same_stage m n a b =
      elim (cases_order m n) [ inl e ↦ e | inr o ↦ elim o [ inl l ↦ absurd (not_before m n a b l) | inr l ↦ absurd (not_before n m b a l) ] ]

  -- a stage and the start say which refusal
  refusal_at : ℕ → TrainingRefusal
  refusal_at zero = Length
  refusal_at (suc zero) = Short start
  refusal_at (suc (suc zero)) = NoMarker start
  refusal_at (suc (suc (suc zero))) = BrokenCell start
  refusal_at (suc (suc (suc (suc zero)))) = Reserved start
  refusal_at (suc (suc (suc (suc (suc n))))) = Pattern start

  at_stage : (e : TrainingRefusal) → ReadRefused recording start e → (e ≡ refusal_at (stage_of e)) × (stage_of e < 6)
  unfolding stage_of refusal_at
  at_stage Length h = (refl, omega arith)
  at_stage (Short p) h = (ap Short h.0, omega arith)
  at_stage (NoMarker p) h = (ap NoMarker h.0, omega arith)
  at_stage (BrokenCell p) h = (ap BrokenCell h.0, omega arith)
  at_stage (Reserved p) h = (ap Reserved h.0, omega arith)
  at_stage (Pattern p) h = (ap Pattern h.0, omega arith)
  at_stage Values h = absurd h
  at_stage Seed h = absurd h
  at_stage (NothingFound p) h = absurd h

  one_training : (t u : Training) → ReadOk recording start t → ReadOk recording start u → t ≡ u
  one_training t u a b =
      let same = same_signal (bits_of recording) t.control u.control t.status u.status t.seed u.seed start (a.seeded, a.stands) (b.seeded, b.stands) in
      λ i. record { control = same.0 i; status = same.1 i; seed = same.2 i }

  pub once : (r other : Result Training TrainingRefusal) → Read recording start r → Read recording start other → other ≡ r
  unfolding stage
  once (Ok t) (Ok u) a b = ap Ok (one_training u t b a)
  once (Ok t) (Err e) a b = absurd (let s = same_stage 6 (stage_of e) (halts (Ok t) a) (halts (Err e) b) in omega (arith, s, (at_stage e b).1))
  once (Err e) (Ok t) a b = absurd (let s = same_stage 6 (stage_of e) (halts (Ok t) b) (halts (Err e) a) in omega (arith, s, (at_stage e a).1))
  once (Err e) (Err f) a b =
      let s = same_stage (stage_of f) (stage_of e) (halts (Err f) b) (halts (Err e) a) in
      ap Err ((at_stage f b).0 ∙ ap refusal_at s ∙ sym (at_stage e a).0)

  pub reads_back : (r : Result Training TrainingRefusal) → Read recording start r → ReadsBack recording start r
  reads_back r h c s seed before after w sized stood =
      let there = subst (λ (l : List ℕ). Stands l (bits_of recording) start) w.becomes stood in
      sym (once r (Ok (record { control = c; status = s; seed = seed })) h (record { sized = sized; seeded = w.seeded; stands = there }))

-- Written signals end to end: each is the first to be found, and good.
use Rattle.std.proofs.Common.{◌≡◌, ℕ, suc, ◌+◌, List, [], ◌∷◌, ◌++◌, length, Ok, Err, Result, sym, refl, ap, ◌∙◌, subst, arith, length-append}
use Rattle.std.proofs.lemmas.List.{append-nil, append_assoc}
use Rattle.training.specs.declared.refusals.TrainingRefusal.{TrainingRefusal}
use Rattle.training.specs.Fields.{control_number, status_number}
use Rattle.signal.specs.Signal.{least_first, bits_of, Stands, signal}
use Rattle.signal.proofs.Standing.{stands_middle}
use Rattle.signal.proofs.SignalParts.{length_signal, signal_front, front_marker}
use Rattle.recording.specs.declared.counts.Survey.{Survey}
use Rattle.recording.specs.Surveying.{Good, Counted, over, good, Surveyed}
use Rattle.recording.specs.Laws.{EndToEnd, none, more, CountsSignals}
use Rattle.recording.proofs.Markers.{marker_fits}
use Rattle.recording.proofs.Counting.{one_count}

bits_join : (xs ys : List ℕ) → bits_of (xs ++ ys) ≡ bits_of xs ++ bits_of ys
unfolding bits_of
bits_join [] ys = refl
bits_join (x ∷ xs) ys = ap (λ (l : List ℕ). least_first 8 x ++ l) (bits_join xs ys) ∙ sym (append_assoc (least_first 8 x) (bits_of xs) (bits_of ys))

-- a good signal at the very place
good_here : (bits : List ℕ) (p goods bads : ℕ) → Good bits p → Counted bits (p + 4384) goods bads → Counted bits p (suc goods) bads
good_here bits p goods bads g rest =
    let marked = front_marker bits p (control_number g.0) (status_number g.1) (signal_front bits p g.0 g.1 g.2 g.4) in
    good (record { after = omega arith; marked = marked; first = λ q h l m. omega arith }) g rest

counted_from : {recording : List ℕ} {k : ℕ} → EndToEnd recording k → (before : List ℕ) → Counted (before ++ bits_of recording) (length before) k 0
unfolding bits_of
counted_from none before =
    over (λ q h m. let fits = marker_fits (before ++ []) q m in omega (arith, ap length (append-nil before)))
counted_from (more {c = c} {s = s} {seed = seed} {place = place} {rest = rest} {k = k} w others) before =
    let bits = before ++ bits_of (place ++ rest) in
    let deeper = counted_from others (before ++ bits_of place) in
    let same : (before ++ bits_of place) ++ bits_of rest ≡ bits =
    append_assoc before (bits_of place) (bits_of rest) ∙ ap (λ (l : List ℕ). before ++ l) (sym (bits_join place rest)) in
    let long : length (before ++ bits_of place) ≡ length before + 4384 =
    length-append before (bits_of place) ∙ omega (arith, ap length w.becomes, length_signal c s seed) in
    let stood : Stands (signal c s seed) bits (length before) =
    subst (λ (l : List ℕ). Stands (signal c s seed) l (length before)) same
    (subst (λ (l : List ℕ). Stands l ((before ++ bits_of place) ++ bits_of rest) (length before)) w.becomes (stands_middle before (bits_of place) (bits_of rest))) in
    let rest_counted : Counted bits (length before + 4384) k 0 =
    subst (λ (n : ℕ). Counted bits n k 0) long (subst (λ (l : List ℕ). Counted l (length (before ++ bits_of place)) k 0) same deeper) in
    good_here bits (length before) k 0 (c, s, seed, w.seeded, stood) rest_counted

-- one answer, from one count
pub counts_once : (recording : List ℕ) (r other : Result Survey TrainingRefusal) → Surveyed recording r → Surveyed recording other → other ≡ r
counts_once recording (Ok v) (Ok w) a b =
    let same = one_count (bits_of recording) a.1 w.good w.bad b.1 in
    ap Ok (λ i. record { good = same.0 i; bad = same.1 i })
counts_once recording (Ok v) (Err e) a b = absurd (b.1 a.0)
counts_once recording (Err e) (Ok w) a b = absurd (a.1 b.0)
counts_once recording (Err e) (Err f) a b = ap Err (b.0 ∙ sym a.0)

pub counts_signals : (recording : List ℕ) (r : Result Survey TrainingRefusal) → Surveyed recording r → CountsSignals recording r
counts_signals recording r h k made sized = sym (counts_once recording r (Ok (record { good = k; bad = 0 })) h (sized, counted_from made []))

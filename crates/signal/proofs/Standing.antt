-- Lists that stand in others: joined, cut, and equal where they stand in one place.
use Rattle.std.proofs.Common.{◌≡◌, ℕ, ◌+◌, ◌-◌, ◌<◌, ◌≤◌, List, [], ◌∷◌, ◌++◌, length, get_or, replicate, sym, refl, ap, ◌∙◌, inl, inr, arith, length-append, ext_get_or}
use lib.ListN.{length-replicate, get_or-replicate}
use Rattle.std.proofs.lemmas.List.{get_or_append_left, get_or-append_right, get_or-append-add}
use Rattle.std.proofs.lemmas.Bool.{cases_lt}
use Rattle.signal.specs.Signal.{Stands}

module _ (bits : List ℕ) where
  pub stands_join : (xs ys : List ℕ) (p q : ℕ) → p + length xs ≡ q → Stands xs bits p → Stands ys bits q → Stands (xs ++ ys) bits p
  stands_join xs ys p q e left right =
      let long = length-append xs ys in
      record {
        within = omega (arith, right.within);
        places = λ i h. elim (cases_lt i (length xs)) [
          | inl l ↦ left.places i l ∙ sym (get_or_append_left xs ys 0 i l)
          | inr l ↦ (let at : p + i ≡ q + (i - length xs) = omega arith in
              ap (λ (k : ℕ). get_or bits k 0) at ∙ right.places (i - length xs) (omega arith) ∙ sym (get_or-append_right xs ys (length xs) i 0 refl l))
        ];
      }

  pub stands_left : (xs ys : List ℕ) (p : ℕ) → Stands (xs ++ ys) bits p → Stands xs bits p
  stands_left xs ys p both =
      let long = length-append xs ys in
      record {
        within = omega (arith, both.within);
        places = λ i h. both.places i (omega arith) ∙ get_or_append_left xs ys 0 i h;
      }

  pub stands_right : (xs ys : List ℕ) (p q : ℕ) → p + length xs ≡ q → Stands (xs ++ ys) bits p → Stands ys bits q
  stands_right xs ys p q e both =
      let long = length-append xs ys in
      record {
        within = omega (arith, both.within);
        places = λ i h. (let at : q + i ≡ p + (length xs + i) = omega arith in
            ap (λ (k : ℕ). get_or bits k 0) at ∙ both.places (length xs + i) (omega arith) ∙ get_or-append-add xs ys i 0);
      }

  pub stands_same : (xs ys : List ℕ) (p : ℕ) → length xs ≡ length ys → Stands xs bits p → Stands ys bits p → xs ≡ ys
  stands_same xs ys p e left right = ext_get_or 0 xs ys e (λ i h. sym (left.places i h) ∙ right.places i (omega arith))

  -- one level for n TUI
  pub level_stands : (n level p : ℕ) → p + n ≤ length bits → ((i : ℕ) → i < n → get_or bits (p + i) 0 ≡ level) → Stands (replicate n level) bits p
  level_stands n level p h each =
      let long = length-replicate n level in
      record { within = omega arith; places = λ i l. each i (omega arith) ∙ sym (get_or-replicate n i level 0 (omega arith)) }

  pub one_stands : (y p : ℕ) → p < length bits → get_or bits p 0 ≡ y → Stands (y ∷ []) bits p
  one_stands y p h e = level_stands 1 y p (omega arith) (λ i l. let z : p + i ≡ p = omega arith in ap (λ (k : ℕ). get_or bits k 0) z ∙ e)

  pub stands_level : (n level p i : ℕ) → Stands (replicate n level) bits p → i < n → get_or bits (p + i) 0 ≡ level
  stands_level n level p i s h = s.places i (omega (arith, length-replicate n level)) ∙ get_or-replicate n i level 0 h

-- a list stands in the middle of a longer one, where a list before it ends
pub stands_middle : (xs ys zs : List ℕ) → Stands ys ((xs ++ ys) ++ zs) (length xs)
stands_middle xs ys zs =
    let long = length-append (xs ++ ys) zs in
    let front = length-append xs ys in
    record {
      within = omega arith;
      places = λ i h. get_or_append_left (xs ++ ys) zs 0 (length xs + i) (omega arith) ∙ get_or-append-add xs ys i 0;
    }

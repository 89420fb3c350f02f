use Rattle.std.proofs.Common.{◌≡◌, ℕ, ◌+◌, ◌*◌, ◌^◌, ◌<◌, Bool, true, false, List, [], ◌∷◌, length, get_or, refl, sym, ap, ◌∙◌, arith}
use Rattle.words.specs.Raw.{AllValid}
use Rattle.words.specs.Words.{raw, raws}
use Rattle.words.specs.declared.word.Word.{Word}
use Rattle.blocks.specs.Numbers.{block}
use Rattle.blocks.specs.Packed.{packed}
use Rattle.blocks.specs.Filling.{Put, Opened, with_rest, above}
use Rattle.blocks.specs.declared.writing.Writer.{Writer}
use Rattle.blocks.proofs.Bounds.{block_lt}
use Rattle.blocks.proofs.writing.filled.Goals as goal

record Done (ws : List Word) (x : ℕ) : Type 0 where
  meaning : x ≡ block (raws ws)
  valid : AllValid (raws ws)
  narrow : x < 2 ^ 257

none_above : (cutting : Bool) → 0 ≡ above cutting []
none_above true = refl
none_above false = refl

-- a limb is the lowest of what stands from it on
more : (limb high from to : ℕ) → high ≡ to → from ≡ limb + 2 ^ 64 * to → limb + 2 ^ 64 * high ≡ from
more limb high from to e p = ap (λ (y : ℕ). limb + 2 ^ 64 * y) e ∙ sym p

done : (ws : List Word) (e f g h : Word) (w₀ w₁ w₂ w₃ w₄ : Writer) (a b c d : ℕ) → length ws ≡ 4 → Opened (raws ws) w₀
    → Put (raw (get_or ws 0 e)) w₀ a w₁ → Put (raw (get_or ws 1 f)) w₁ b w₂ → Put (raw (get_or ws 2 g)) w₂ c w₃ → Put (raw (get_or ws 3 h)) w₃ d w₄
    → Done ws (packed 64 (a ∷ b ∷ c ∷ d ∷ w₄.acc ∷ []))
done [] e f g h w₀ w₁ w₂ w₃ w₄ a b c d n o p q r s = absurd (omega arith)
done (i ∷ []) e f g h w₀ w₁ w₂ w₃ w₄ a b c d n o p q r s = absurd (omega arith)
done (i ∷ j ∷ []) e f g h w₀ w₁ w₂ w₃ w₄ a b c d n o p q r s = absurd (omega arith)
done (i ∷ j ∷ k ∷ []) e f g h w₀ w₁ w₂ w₃ w₄ a b c d n o p q r s = absurd (omega arith)
done (i ∷ j ∷ k ∷ l ∷ m ∷ ms) e f g h w₀ w₁ w₂ w₃ w₄ a b c d n o p q r s = absurd (omega arith)
done (i ∷ j ∷ k ∷ l ∷ []) e f g h w₀ w₁ w₂ w₃ w₄ a b c d n o p q r s =
    let ws = raws (i ∷ j ∷ k ∷ l ∷ []) in
    let end : packed 64 (w₄.acc ∷ []) ≡ with_rest w₄ [] = ap (λ (y : ℕ). w₄.acc + y) (none_above w₄.cutting) in
    let x₃ = more d _ _ _ end (s.places []) in
    let x₂ = more c _ _ _ x₃ (r.places (raw l ∷ [])) in
    let x₁ = more b _ _ _ x₂ (q.places (raw k ∷ raw l ∷ [])) in
    let x₀ = more a _ _ _ x₁ (p.places (raw j ∷ raw k ∷ raw l ∷ [])) in
    let is : packed 64 (a ∷ b ∷ c ∷ d ∷ w₄.acc ∷ []) ≡ block ws = x₀ ∙ o in
    let v : AllValid ws = (p.valid, (q.valid, (r.valid, (s.valid, tt)))) in
    record { meaning = is; valid = v; narrow = rw is (block_lt ws refl v) }

pub invariant_of-result : goal.invariant_of-result
invariant_of-result c =
    record { narrow = (done c.args.words.now _ _ _ _ _ _ _ _ _ _ _ _ _ (omega arith) c.new-writer.ensures c.put.ensures c.put-2.ensures c.put-3.ensures c.put-4.ensures).narrow }

pub returns : goal.returns
returns c =
    let d = done c.args.words.now _ _ _ _ _ _ _ _ _ _ _ _ _ (omega arith) c.new-writer.ensures c.put.ensures c.put-2.ensures c.put-3.ensures c.put-4.ensures in
    record { value = d.meaning; valid = d.valid }

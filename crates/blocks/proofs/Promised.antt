-- What a reading promises, from the number that it computes with.
use Rattle.std.proofs.Common.{◌≡◌, ℕ, ◌^◌, ◌<◌, List, length, Ok, Err, Result, sym, ap, ◌∙◌, subst, arith}
use Rattle.std.proofs.lemmas.List.{length-map}
use Rattle.blocks.specs.Numbers.{block}
use Rattle.words.specs.Words.{raw, raws}
use Rattle.blocks.specs.Blocks.{BlockOf, BlockRead, ReadsBack}
use Rattle.blocks.specs.Reading.{gives, told, read_block}
use Rattle.blocks.proofs.Laws.{back, again}
use Rattle.blocks.proofs.Places.{by_the_rules}
use Rattle.blocks.proofs.Refused.{block_refused}
use Rattle.words.proofs.Same.{same_words}
use Rattle.blocks.proofs.Unique.{one_block}
use Rattle.words.specs.declared.word.Word.{Word}
use Rattle.blocks.specs.declared.refusal.BlockRefusal.{BlockRefusal}

joined : (r : Result (List Word) BlockRefusal) (ws : List Word) → told r ≡ gives (raws ws) → r ≡ Ok ws
joined (Ok vs) ws e = let q : raws vs ≡ raws ws = cc in ap Ok (same_words vs ws q)
joined (Err f) ws e = let z : ◌≡◌ {A = ℕ} 0 1 = cc in absurd (omega arith)

pub reads_back : (b : ℕ) (r : Result (List Word) BlockRefusal) → told r ≡ read_block b → ReadsBack b r
reads_back b r e ws n v p =
    let m : length (raws ws) ≡ 4 = length-map ws raw ∙ n in
    let q = one_block (raws ws) b (block (raws ws)) m p (by_the_rules (raws ws) m v) in
    joined r ws (e ∙ ap read_block q ∙ back (raws ws) m v)

pub block_read : (b : ℕ) (r : Result (List Word) BlockRefusal) → b < 2 ^ 257 → told r ≡ read_block b → BlockRead b r
block_read b (Ok ws) h e =
    let a = again b (raws ws) h (sym e) in
    (a.2, subst (λ (x : ℕ). BlockOf (raws ws) x) a.1 (by_the_rules (raws ws) a.0 a.2))
block_read b (Err f) h e = block_refused b f (sym e)

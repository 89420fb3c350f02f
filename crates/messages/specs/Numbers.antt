-- For proofs: the message of words as one number, computed group by group from the front, and its symbols.
use Rattle.std.specs.Prelude.{ℕ, zero, suc, ◌+◌, ◌*◌, ◌/◌, ◌%◌, ◌^◌, List, [], ◌∷◌, take, drop}
use Rattle.words.specs.Raw.{Raw}
use Rattle.blocks.specs.Numbers.{block}

-- the bits of n groups
unfoldable pub message : ℕ → List Raw → ℕ
message zero ws = 0
message (suc n) ws = block (take 4 ws) + 2 ^ 257 * message n (drop 4 ws)

-- the lowest n symbols of a number
unfoldable pub digits : ℕ → ℕ → List ℕ
digits zero x = []
digits (suc n) x = x % 2 ^ 10 ∷ digits n (x / 2 ^ 10)

-- the message of eighty words, as its symbols
unfoldable pub message_of : List Raw → List ℕ
message_of ws = digits 514 (message 20 ws)

-- For proofs: what is left to read of a block.
use Rattle.std.specs.Prelude.{◌≡◌, ℕ, suc, ◌+◌, ◌*◌, ◌^◌, Bool, true, false, List, [], ◌∷◌, Ok, Err, Result}
use Rattle.words.specs.Raw.{Raw}
use Rattle.words.specs.Words.{raw}
use Rattle.blocks.specs.Reading.{Reading, refuses, before, read_whole, read_cut, read_block}
use Rattle.blocks.specs.Widths.{room}
use Rattle.blocks.specs.declared.reading.Reader.{Reader}
use Rattle.words.specs.declared.word.Word.{Word}
use Rattle.blocks.specs.declared.refusal.BlockRefusal.{BlockRefusal}

abbrev pub reads : Bool → ℕ → ℕ → ℕ → ℕ → Reading
reads true n j m x = read_cut n j m x
reads false n j m x = read_whole n j m x

-- n words from word j on, where `more` stands above the bits that are left
abbrev pub left : Reader → ℕ → ℕ → ℕ → Reading
left r n j more = reads r.cut n j r.marks (r.acc + room r.cut * more)

abbrev pub after_all : List Raw → Reading → Reading
after_all [] r = r
after_all (w ∷ ws) r = before w (after_all ws r)

-- word j is taken from the bits that are left and the next limb
abbrev pub Taken : Reader → ℕ → ℕ → Reader → Result Word BlockRefusal → Type 0
Taken from limb j to (Ok w) = (n more : ℕ) → reads from.cut (suc n) j from.marks (from.acc + room from.cut * limb + 2 ^ 64 * room from.cut * more) ≡ before (raw w) (left to n (j + 1) more)
Taken from limb j to (Err e) = (n more : ℕ) → reads from.cut (suc n) j from.marks (from.acc + room from.cut * limb + 2 ^ 64 * room from.cut * more) ≡ refuses e

-- the lowest limb is read
abbrev pub Started : ℕ → Reader → Type 0
Started low r = (more : ℕ) → read_block (low + 2 ^ 64 * more) ≡ left r 4 0 more

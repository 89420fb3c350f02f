-- For proofs: what a block reads as, word by word from the front.
use Rattle.std.specs.Prelude.{ℕ, zero, suc, ◌+◌, ◌/◌, ◌%◌, ◌^◌, cond, List, [], ◌∷◌, Ok, Err, Result, ◌==◌}
use Rattle.words.specs.Types.{listed}
use Rattle.words.specs.Raw.{Raw, data_word, control_word}
use Rattle.blocks.specs.Numbers.{restored}
use Rattle.words.specs.Words.{raws}
use Rattle.words.specs.declared.word.Word.{Word}
use Rattle.blocks.specs.declared.refusal.BlockRefusal.{BlockRefusal}
use Rattle.blocks.specs.declared.refusal.BlockRefusal.TheVariants.{NoControl, NoType, Unlisted}

pub data Reading : Type 0 where
  gives : List Raw → Reading
  refuses : BlockRefusal → Reading

abbrev pub before : Raw → Reading → Reading
before w (gives ws) = gives (w ∷ ws)
before w (refuses e) = refuses e

-- n words from word j on, all bodies whole: m has their marks, x their bodies
abbrev pub read_whole : ℕ → ℕ → ℕ → ℕ → Reading
read_whole zero j m x = gives []
read_whole (suc n) j m x =
    cond (m % 2 == 1) (before (data_word (x % 2 ^ 64)) (read_whole n (j + 1) (m / 2) (x / 2 ^ 64)))
    (cond (listed (x % 256)) (before (control_word (x % 2 ^ 64)) (read_whole n (j + 1) (m / 2) (x / 2 ^ 64)))
    (refuses (Unlisted j)))

-- the same, where no control word came before word j: the first lacks its type's high nibble
abbrev pub read_cut : ℕ → ℕ → ℕ → ℕ → Reading
read_cut zero j m x = refuses NoControl
read_cut (suc n) j m x =
    cond (m % 2 == 1) (before (data_word (x % 2 ^ 64)) (read_cut n (j + 1) (m / 2) (x / 2 ^ 64)))
    (cond (x % 16 == 0) (refuses (NoType j))
    (before (control_word (restored (x % 2 ^ 60))) (read_whole n (j + 1) (m / 2) (x / 2 ^ 60))))

abbrev pub read_block : ℕ → Reading
read_block b = cond (b % 2 == 1) (read_whole 4 0 15 (b / 2)) (read_cut 4 0 (b / 2 % 16) (b / 32))

abbrev pub told : Result (List Word) BlockRefusal → Reading
told (Ok ws) = gives (raws ws)
told (Err e) = refuses e

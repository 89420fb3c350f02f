-- For proofs: what a message reads as, group by group from the front.
use Rattle.std.specs.Prelude.{◌≡◌, ℕ, zero, suc, ◌+◌, ◌/◌, ◌%◌, ◌^◌, List, [], ◌++◌, Ok, Err, Result}
use Rattle.words.specs.Raw.{Raw}
use Rattle.words.specs.Words.{raws}
use Rattle.words.specs.declared.word.Word.{Word}
use Rattle.blocks.specs.Reading.{Reading, gives, refuses, read_block}
use Rattle.blocks.specs.declared.refusal.BlockRefusal.{BlockRefusal}
use Rattle.messages.specs.declared.refusal.MessageRefusal.{MessageRefusal}
use Rattle.messages.specs.declared.refusal.MessageRefusal.TheVariants.{Symbol, Block}

pub data MessageReading : Type 0 where
  gives_all : List Raw → MessageReading
  refuses_at : ℕ → BlockRefusal → MessageReading

abbrev pub behind : List Raw → MessageReading → MessageReading
behind ws (gives_all vs) = gives_all (ws ++ vs)
behind ws (refuses_at b e) = refuses_at b e

abbrev pub next : ℕ → Reading → MessageReading → MessageReading
next b (gives ws) r = behind ws r
next b (refuses e) r = refuses_at b e

-- n groups from block b on
unfoldable pub read_message : ℕ → ℕ → ℕ → MessageReading
read_message zero b x = gives_all []
read_message (suc n) b x = next b (read_block (x % 2 ^ 257)) (read_message n (b + 1) (x / 2 ^ 257))

-- the answer r is what the reading says
abbrev pub Told : Result (List Word) MessageRefusal → MessageReading → Type 0
Told (Ok ws) reading = gives_all (raws ws) ≡ reading
Told (Err (Symbol p)) reading = ⊥
Told (Err (Block b e)) reading = refuses_at b e ≡ reading

-- For proofs: what the parts of the reading answer, in the terms of Text.
use Rattle.std.specs.Prelude.{List, ◌++◌, Ok, Err, Result}
use Rattle.words.specs.Raw.{Raw}
use Rattle.words.specs.Words.{raw, raws}
use Rattle.words.specs.declared.word.Word.{Word}
use Rattle.text.specs.Text.{Answer}
use Rattle.text.specs.declared.refusal.TextRefusal.{TextRefusal}

-- the answer of the code, its words as raw words
abbrev pub seen : Result (List Word) TextRefusal → Answer
seen (Ok ws) = Ok (raws ws)
seen (Err e) = Err e

abbrev pub seen_row : Result Word TextRefusal → Result Raw TextRefusal
seen_row (Ok w) = Ok (raw w)
seen_row (Err e) = Err e

-- the words read so far before those of the rows that are left
abbrev pub before : List Raw → Answer → Answer
before ws (Ok vs) = Ok (ws ++ vs)
before ws (Err e) = Err e

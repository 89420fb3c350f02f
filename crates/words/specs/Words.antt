-- The values of the code's `Word` as raw words, and what making a word answers.
use Rattle.std.specs.Prelude.{◌≡◌, ℕ, false, List, map, Ok, Err, Result, ◌≢◌}
use Rattle.words.specs.Types.{listed}
use Rattle.words.specs.Raw.{Raw, data_word, control_word, header, body, type_of}
use Rattle.words.specs.declared.word.Word.{Word}
use Rattle.words.specs.declared.word.Word.TheVariants.{Data, Control}
use Rattle.words.specs.declared.refusal.WordRefusal.{WordRefusal}
use Rattle.words.specs.declared.refusal.WordRefusal.TheVariants.{Header, Unlisted}

abbrev pub raw : Word → Raw
raw (Data b) = data_word b
raw (Control c) = control_word c.body

abbrev pub raws : List Word → List Raw
raws ws = map raw ws

-- making a word from a header number h and a body b: the word of just these, 11 or 12
abbrev pub Made : ℕ → ℕ → Result Word WordRefusal → Type 0
Made h b (Ok w) = (header (raw w) ≡ h) × (body (raw w) ≡ b)
Made h b (Err Header) = (h ≢ 1) × (h ≢ 2)
Made h b (Err Unlisted) = (h ≡ 1) × (listed (type_of b) ≡ false)

use Rattle.std.proofs.Common.{◌≡◌, ℕ, List, length, IfOk, Ok, Err, Result, arith}
use Rattle.symbols.specs.Symbols.{Symbols, FirstAbove}
use Rattle.words.specs.Words.{raws}
use Rattle.words.specs.declared.word.Word.{Word}
use Rattle.blocks.specs.Packed.{packed}
use Rattle.messages.specs.Messages.{ReadsBack}
use Rattle.messages.specs.Numbers.{message_of}
use Rattle.messages.specs.Reading.{Told, read_message}
use Rattle.messages.specs.declared.refusal.MessageRefusal.{MessageRefusal}
use Rattle.messages.specs.declared.refusal.MessageRefusal.TheVariants.{Symbol}
use Rattle.messages.proofs.Promised.{message_read, reads_back, written_again}
use Rattle.messages.proofs.reading.from_message.Goals as goal

again_of : (xs : List ℕ) (r : Result (List Word) MessageRefusal) → length xs ≡ 514 → Symbols xs → Told r (read_message 20 0 (packed 10 xs)) → IfOk r (λ ws. message_of (raws ws) ≡ xs)
again_of xs (Ok ws) n s t = written_again xs ws n s t
again_of xs (Err e) n s t = tt

-- a message has no number that is no symbol
none_above : (xs : List ℕ) (p : ℕ) → FirstAbove xs p → ReadsBack xs (Err (Symbol p))
none_above xs p f ws n v m = let a = f.above in let b = m.message.symbols p f.within in absurd (omega arith)

pub returns-in-Some : goal.returns-in-Some
returns-in-Some c =
    let f = c.in-Some.ensures in
    record { rules = f; back = none_above c.args.message.now c.in-Some.place f; again = tt }

pub returns : goal.returns
returns c =
    let xs = c.args.message.now in
    let s = c.in_default.ensures in
    let t = c.read.ensures in
    record {
      rules = message_read xs c.read.result (omega arith) s t;
      back = reads_back xs c.read.result t;
      again = again_of xs c.read.result (omega arith) s t;
    }

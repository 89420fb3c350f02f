-- The words so far, and what the rest answers, are the answer of all.
use Rattle.std.proofs.Common.{◌≡◌, ◌-◌, length, take}
use Rattle.words.specs.Words.{raws}
use Rattle.text.specs.Text.{rows, answer}
use Rattle.text.specs.Reading.{before}
use Rattle.text.proofs.reading.read.Given as goal

abbrev pub invariant-loop-row : goal.invariant-loop-row
invariant-loop-row l = (length l.place-items ≡ 80) × (before (raws (take l.row l.place-items)) (rows l.row (80 - l.row) l.rest) ≡ answer l.text)

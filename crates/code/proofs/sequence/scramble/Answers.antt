-- The key was added, and the laws are those of the sequence and of the key.
use Rattle.std.proofs.Common.{rules}
use Rattle.code.specs.Recur.{sequence_laws}
use Rattle.code.specs.Scrambling.{key_laws}
use Rattle.code.proofs.sequence.scramble.Goals as goal

pub returns-then-line-gt-LONGEST_LINE : goal.returns-then-line-gt-LONGEST_LINE
returns-then-line-gt-LONGEST_LINE c = record { does = search rules; sequence = sequence_laws; key = key_laws }

pub returns : goal.returns
returns c = record { does = search rules; sequence = sequence_laws; key = key_laws }

-- What the loops of `locator` keep true.
use Rattle.std.proofs.Common.{◌≡◌, ◌-◌, ◌≤◌, drop}
use Rattle.std.specs.Slice.Iter.{windows_rest, windows_size}
use Rattle.std.specs.Slice.ArrayWindows.{array_windows_parts}
use Rattle.std.specs.Iterator.Adapters.{enumerate_count, enumerate_source}
use Rattle.reed_solomon_decoder.proofs.elimination.locator.Given as goal
use Rattle.reed_solomon_decoder.specs.Kernel.{Kernel}

abbrev pub invariant-loop-j : goal.invariant-loop-j
invariant-loop-j l =
    Kernel 8 l.s (enumerate_count l.j-iterator) (8 - enumerate_count l.j-iterator) l.rows
    × (enumerate_count l.j-iterator ≤ 7)
    × (windows_rest (array_windows_parts (enumerate_source l.j-iterator)) ≡ drop (enumerate_count l.j-iterator) l.s)
    × (windows_size (array_windows_parts (enumerate_source l.j-iterator)) ≡ 8)

-- What a recording holds.
use Rattle.std.specs.Prelude.{ℕ, List}
use Rattle.signal.specs.declared.tape.Recording.{Recording}
use Rattle.signal.specs.Signal.{bits_of}

-- its bytes, of which it has no more than a recording may have
abbrev pub bytes_of : Recording → List ℕ
bytes_of recording = recording.bytes.now

abbrev pub tui : Recording → List ℕ
tui recording = bits_of (bytes_of recording)

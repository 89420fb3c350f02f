-- The layer that refuses is the tens digit of the refusal's number:
-- 1 word, 2 block, 3 code, 4 port, 5 training, 6 text, 7 parts that come later.
use Rattle.std.specs.Prelude.{ℕ, ◌/◌}

abbrev pub layer : ℕ → ℕ
layer number = number / 10

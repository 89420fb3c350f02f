-- One word more of a reading.
use Rattle.std.proofs.Common.{◌≡◌, ℕ, suc, ◌+◌, ◌/◌, ◌%◌, ◌^◌, true, false, eqb}
use Rattle.words.specs.Types.{listed}
use Rattle.words.specs.Raw.{data_word, control_word}
use Rattle.blocks.specs.Numbers.{restored}
use Rattle.blocks.specs.Reading.{refuses, before, read_whole, read_cut}
use Rattle.blocks.specs.declared.refusal.BlockRefusal.TheVariants.{NoType, Unlisted}

module _ (n j m x b m' x' : ℕ) (mq : m / 2 ≡ m') where
  pub whole_data : m % 2 ≡ 1 → x % 2 ^ 64 ≡ b → x / 2 ^ 64 ≡ x' → read_whole (suc n) j m x ≡ before (data_word b) (read_whole n (j + 1) m' x')
  whole_data mr xr xq = rw (mr, mq, xr, xq)

  pub whole_control : m % 2 ≡ 0 → x % 2 ^ 64 ≡ b → x / 2 ^ 64 ≡ x' → listed (x % 256) ≡ true → read_whole (suc n) j m x ≡ before (control_word b) (read_whole n (j + 1) m' x')
  whole_control mr xr xq l = rw (mr, mq, xr, xq, l)

  pub cut_data : m % 2 ≡ 1 → x % 2 ^ 64 ≡ b → x / 2 ^ 64 ≡ x' → read_cut (suc n) j m x ≡ before (data_word b) (read_cut n (j + 1) m' x')
  cut_data mr xr xq = rw (mr, mq, xr, xq)

  pub cut_control : m % 2 ≡ 0 → x % 2 ^ 60 ≡ b → x / 2 ^ 60 ≡ x' → eqb (x % 16) 0 ≡ false → read_cut (suc n) j m x ≡ before (control_word (restored b)) (read_whole n (j + 1) m' x')
  cut_control mr xr xq l = rw (mr, mq, xr, xq, l)

pub whole_unlisted : (n j m x : ℕ) → m % 2 ≡ 0 → listed (x % 256) ≡ false → read_whole (suc n) j m x ≡ refuses (Unlisted j)
whole_unlisted n j m x mr l = rw (mr, l)

pub cut_untyped : (n j m x : ℕ) → m % 2 ≡ 0 → eqb (x % 16) 0 ≡ true → read_cut (suc n) j m x ≡ refuses (NoType j)
cut_untyped n j m x mr l = rw (mr, l)

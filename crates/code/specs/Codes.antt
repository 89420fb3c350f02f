-- What a code is: its model, the law that the model obeys, and which code words lie near a line.
use Rattle.std.specs.Prelude.{◌≡◌, ℕ, ◌+◌, ◌*◌, ◌≤◌, List, length, ◌≢◌}
use Rattle.symbols.specs.Symbols.{Symbols, Message, message_length}
use Rattle.code.specs.Distance.{distance}

-- what never changes of a code: how many symbols a line has, up to how many wrong ones are mended, and the code word of each message
pub record Model : Type 0 where
  pub n : ℕ
  pub t : ℕ
  pub encode : List ℕ → List ℕ

-- how many symbols a line has at most
abbrev pub longest_line : ℕ
longest_line = 544

-- how many wrong symbols a code mends at most
abbrev pub most_mended : ℕ
most_mended = 15

-- THE LAW OF A CODE: code words are n symbols, and those of different messages lie at least 2t + 1 apart
pub record Lawful (m : Model) : Type 0 where
  pub n_low : message_length ≤ m.n
  pub n_high : m.n ≤ longest_line
  pub t_high : m.t ≤ most_mended
  pub long : (x : List ℕ) → Message x → length (m.encode x) ≡ m.n
  pub symbols : (x : List ℕ) → Message x → Symbols (m.encode x)
  pub apart : (x y : List ℕ) → Message x → Message y → (x ≢ y) → 2 * m.t + 1 ≤ distance (m.encode x) (m.encode y)

-- the line is a code word, of this message
pub record CodeWord (m : Model) (line : List ℕ) : Type 0 where
  pub message : List ℕ
  pub is_message : Message message
  pub is_word : line ≡ m.encode message

-- x is a message whose code word lies within t of the line
pub record Near (m : Model) (line x : List ℕ) : Type 0 where
  pub is_message : Message x
  pub within : distance line (m.encode x) ≤ m.t

-- no code word lies within t of the line
abbrev pub Far : Model → List ℕ → Type 0
Far m line = (x : List ℕ) → Near m line x → ⊥

-- at most one code word lies within t of a line
abbrev pub OneNear : Model → Type 0
OneNear m = (line x y : List ℕ) → length line ≡ m.n → Near m line x → Near m line y → x ≡ y

-- the code that adds nothing and mends nothing
abbrev pub bare : Model
bare = record { n = message_length; t = 0; encode = λ x. x }

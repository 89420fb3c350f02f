-- For proofs: the bare code obeys the law, the layers keep it, and what a mending below scrambling means above it.
use Rattle.std.specs.Prelude.{◌≡◌, ℕ, List, length}
use Rattle.std.proofs.Common.{sym, ap, ◌∙◌, subst, arith, rules}
use Rattle.symbols.specs.Symbols.{Symbols}
use Rattle.code.specs.Distance.{distance}
use Rattle.code.specs.Codes.{Model, Lawful, Far, bare}
use Rattle.code.specs.Calls.{Sized, MendedOk, MendRefused}
use Rattle.code.specs.Layers.{with_key, scrambled, off}
use Rattle.code.specs.declared.refusal.CodeRefusal.{CodeRefusal}
use Rattle.code.specs.declared.refusal.CodeRefusal.TheVariants.{Length, Symbol, NoCodeWord}
use Rattle.code.specs.Metric.{distance_zero}
use Rattle.code.specs.Once.{no_above}
use Rattle.code.specs.Scrambling.{length_with_key, key_laws, across}

-- different messages differ in a place at least
pub bare_lawful : Lawful bare
bare_lawful = record {
  n_low = search rules;
  n_high = search rules;
  t_high = search rules;
  long = λ x m. m.long;
  symbols = λ x m. m.symbols;
  apart = λ x y m k d. let z : distance x y ≡ 0 → x ≡ y = distance_zero x y (m.long ∙ sym k.long) in grind arith;
}

pub off_lawful : (m : Model) → Lawful m → Lawful (off m)
off_lawful m law = record {
  n_low = law.n_low;
  n_high = law.n_high;
  t_high = search rules;
  long = law.long;
  symbols = law.symbols;
  apart = λ x y mx my d. let h = law.apart x y mx my d in omega arith;
}

pub scrambled_lawful : (m : Model) → Lawful m → Lawful (scrambled m)
scrambled_lawful m law = record {
  n_low = law.n_low;
  n_high = law.n_high;
  t_high = law.t_high;
  long = λ x mx. length_with_key (m.encode x) ∙ law.long x mx;
  symbols = λ x mx. key_laws.keeps_symbols (m.encode x) (law.symbols x mx);
  apart = λ x y mx my d.
      omega (arith, law.apart x y mx my d, key_laws.keeps_distance (m.encode x) (m.encode y) (law.long x mx ∙ sym (law.long y my)));
}

-- the code below mended the unscrambled copy, and its word is scrambled again
pub scrambled_found : (m : Model) (line message copy copy' line' message' : List ℕ) (d : ℕ) → Lawful m → Sized m.n message line → Symbols line → copy ≡ with_key line
    → MendedOk m copy message copy' message' d → line' ≡ with_key copy' → MendedOk (scrambled m) line message line' message' d
scrambled_found m line message copy copy' line' message' d law sized symbols p ok l =
    let level : length line ≡ length copy' = sized.line_long ∙ sym (ap length ok.becomes ∙ law.long message' ok.is_message) in
    record {
      sized = sized;
      symbols = symbols;
      is_message = ok.is_message;
      becomes = l ∙ ap with_key ok.becomes;
      answer = ok.answer ∙ ap (λ x. distance x copy') p ∙ sym (across line copy' level) ∙ ap (distance line) (sym l);
      near = ok.near;
    }

scrambled_far : (m : Model) (line copy : List ℕ) → Lawful m → length line ≡ m.n → copy ≡ with_key line → Far m copy → Far (scrambled m) line
scrambled_far m line copy law long p far x near =
    let level : length line ≡ length (m.encode x) = long ∙ sym (law.long x near.is_message) in
    let e : distance line (with_key (m.encode x)) ≡ distance copy (m.encode x) = across line (m.encode x) level ∙ ap (λ l. distance l (m.encode x)) (sym p) in
    far x (record { is_message = near.is_message; within = omega (arith, near.within) })

pub scrambled_refused : (m : Model) (line message copy : List ℕ) (e : CodeRefusal) → Lawful m → Sized m.n message line → Symbols line → copy ≡ with_key line
    → MendRefused m copy message e → MendRefused (scrambled m) line message e
scrambled_refused m line message copy Length law sized symbols p h =
    absurd (h (record { message_long = sized.message_long; line_long = ap length p ∙ length_with_key line ∙ sized.line_long }))
scrambled_refused m line message copy (Symbol k) law sized symbols p h =
    absurd (no_above copy k (subst Symbols (sym p) (key_laws.keeps_symbols line symbols)) h.1)
scrambled_refused m line message copy NoCodeWord law sized symbols p h =
    (sized, symbols, scrambled_far m line copy law sized.line_long p h.2)

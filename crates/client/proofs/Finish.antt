-- A session put together from its calls.
use Rattle.std.proofs.Common.{◌≡◌, ℕ, ◌+◌, List, [], ◌∷◌, ◌++◌, length, sym, subst, arith, length-append}
use Rattle.code.specs.Codes.{Model}
use Rattle.port.specs.Runs.{Event, Reached, Extends}
use Rattle.port.specs.Promise.{Promise}
use Rattle.port.specs.declared.totals.Totals.{Totals}
use Rattle.client.specs.Sessions.{Leads, Session}

-- the code of the port stays the same, k₀ to k₁ to k₂
pub finish : {K : Type 0} (M : K → Model) (k₀ k₁ : K) (o a b r : Totals) (hs : List Event) (w : Event) (n : ℕ) → k₁ ≡ k₀ → Reached (M k₀) o [] a
    → Extends (M k₁) a a w → Leads (M k₁) a b hs → r ≡ b → Promise (M k₀) → length hs ≡ n → Session (M k₀) o (n + 1) r
finish M k₀ k₁ o a b r hs w n e begins ext leads is promise long =
    let b₁ = subst (λ k. Reached (M k) o [] a) (sym e) begins in
    let all : Reached (M k₁) o (hs ++ (w ∷ [])) b = leads o (w ∷ []) (ext o [] b₁) in
    let here = subst (λ k. Reached (M k) o (hs ++ (w ∷ [])) b) e all in
    let there = subst (λ x. Reached (M k₀) o (hs ++ (w ∷ [])) x) (sym is) here in
    record {
      run = hs ++ (w ∷ []);
      long = simp length-append (omega arith);
      reached = there;
      counts = promise.totals_count_every_reading o r (hs ++ (w ∷ [])) there;
    }

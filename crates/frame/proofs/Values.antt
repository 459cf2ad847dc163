-- A claim about a number that is one of two, one behind the other, from a proof at each: what an arm of a `match` with
-- two ranges asks.
use mathlib.Core.Logic.{◌⊎◌, ⊎_elim}
use mathlib.Core.Path.{◌≡◌, subst}
use Prim.Native.Nat.{ℕ, suc, ◌≤◌}
use native.Mathlib.Omega.{arith}
use Rattle.line.proofs.Either.{same_or_not}

pub of_pair : (P : ℕ → Type 0) (a k : ℕ) → P a → P (suc a) → a ≤ k → k ≤ suc a → P k
of_pair P a k p q low high =
    ⊎_elim (λ (e : a ≡ k). subst P e p) (λ (n : a ≡ k → ⊥). let e : suc a ≡ k = omega arith in subst P e q)
    (same_or_not a k)

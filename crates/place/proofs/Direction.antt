-- The direction of a control stands in two places: in the sixteen values that a slave decides over, and in the write
-- controls that a master sends with. They say the same.
use mathlib.Core.Bool.{Bool, true, false}
use mathlib.Core.Path.{◌≡◌, refl}
use Prim.Native.Nat.{ℕ, ◌+◌, ◌≤◌, zero-le}
use native.Mathlib.Omega.{arith}
use borrow.Author.Tests.{eqb-false}
use lib.Dec.{eqb}
use lib.ListN.{get_or-eq_default}
use Rattle.std.specs.Prelude.{Some, None}
use Rattle.std.specs.declared.option.Option.{Option}
use Rattle.line.proofs.Either.{by_value as by_number}
use Rattle.place.specs.Slaves.{by_value, controls, only, writes_of}
use Rattle.place.specs.declared.Part.{Part}
use Rattle.place.specs.declared.Part.TheVariants.{Sends, Receives}

abbrev receives : Option Part → Bool
receives None = false
receives (Some Sends) = false
receives (Some Receives) = true

sent_only : (b : Bool) → receives (only b Sends) ≡ false
sent_only true = refl
sent_only false = refl

climb : (n k : ℕ) → k ≤ n → eqb n k ≡ false → k + 1 ≤ n
climb n k h e = omega (arith, eqb-false n k e)

abbrev Agree : Bool → Bool → ℕ → Type 0
Agree strq locked control = receives (by_value control strq true locked) ≡ writes_of control

-- a slave that is ready receives with exactly the write controls
pub direction : (control : ℕ) (strq locked : Bool) → receives (by_value control strq true locked) ≡ writes_of control
unfolding by_value writes_of
direction control strq locked =
    let P = Agree strq locked in
    by_number P control 0 refl (λ a. by_number P control 1 refl (λ b. by_number P control 2 refl (λ c.
    by_number P control 3 (sent_only strq) (λ d. by_number P control 4 (sent_only locked) (λ e.
    by_number P control 5 refl (λ f. by_number P control 6 refl (λ g. by_number P control 7 (sent_only strq) (λ h.
    by_number P control 8 refl (λ i. by_number P control 9 refl (λ j. by_number P control 10 refl (λ k.
    by_number P control 11 refl (λ l. by_number P control 12 refl (λ m. by_number P control 13 refl (λ n.
    by_number P control 14 refl (λ o. by_number P control 15 refl (λ p.
    let four : 4 ≤ control = climb control 3 (climb control 2 (climb control 1 (climb control 0 zero-le a) b) c) d in
    let eight : 8 ≤ control = climb control 7 (climb control 6 (climb control 5 (climb control 4 four e) f) g) h in
    let twelve : 12 ≤ control = climb control 11 (climb control 10 (climb control 9 (climb control 8 eight i) j) k) l in
    let past : 16 ≤ control
    = climb control 15 (climb control 14 (climb control 13 (climb control 12 twelve m) n) o) p in
    rw (get_or-eq_default (controls strq true locked) None {n = control} past, k, l, o, p)))))))))))))))))

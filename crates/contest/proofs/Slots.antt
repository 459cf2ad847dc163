-- The slots 2 to 14: where w is the lowest of all, each slot settles at w's level, so a contender loses in the first
-- slot
-- in which it differs from w.
use mathlib.Core.Logic.{◌⊎◌, inl, inr, ⊎_elim}
use mathlib.Core.Path.{◌≡◌, refl, ap}
use mathlib.Core.List.{List, [], ◌∷◌}
use Prim.Native.Nat.{ℕ, zero, suc, ◌-◌, ◌/◌, ◌^◌, ◌≤◌}
use native.Mathlib.Nat.{le_antisymm}
use native.Mathlib.Omega.{arith}
use borrow.Author.Tests.{lt-ltb, le-ltb, eq-eqb, ne_eqb}
use Rattle.line.specs.Numbers.{last_contest_slot}
use Rattle.line.specs.Parity.{level_of}
use Rattle.contenders.specs.Contest.{settled, remaining, loss_of}
use Rattle.contest.specs.Deciding.{differs}
use Rattle.line.proofs.Either.{below_or_not, same_or_not}
use Rattle.line.proofs.Levels.{level_split, level_le, div_le_div}

-- x is no lower than w, and does not differ from it before the last n slots
pub record Close (n w x : ℕ) : Type 0 where
  pub low : w ≤ x
  pub alike : x / 2 ^ n ≡ w / 2 ^ n

abbrev pub AllClose : ℕ → ℕ → List ℕ → Type 0
AllClose n w [] = Unit {0}
AllClose n w (x ∷ xs) = Close n w x × AllClose n w xs

abbrev pub Among : {A : Type 0} → A → List A → Type 0
Among w [] = ⊥
Among w (x ∷ xs) = (x ≡ w) ⊎ Among w xs

-- what is close drives no lower level than w, and stays close where it drives the same
close_level : {n w x : ℕ} → Close (suc n) w x → level_of n w ≤ level_of n x
close_level {n} {w} {x} c = omega (arith, level_split n w, level_split n x, div_le_div n c.low, c.alike)

close_next : {n w x : ℕ} → Close (suc n) w x → level_of n x ≤ level_of n w → Close n w x
close_next {n} {w} {x} c le =
    record { low = c.low; alike = omega (arith, level_split n w, level_split n x, close_level c, c.alike) }

-- a slot settles at the level of the lowest
settled_above : (n w : ℕ) (xs : List ℕ) → AllClose (suc n) w xs → level_of n w ≤ settled n xs
unfolding settled
settled_above n w [] cs = level_le n w
settled_above n w (x ∷ xs) cs = omega (arith, close_level cs.0, settled_above n w xs cs.1)

settled_below : (n w : ℕ) (xs : List ℕ) → Among w xs → settled n xs ≤ level_of n w
unfolding settled
settled_below n w [] a = elim a [ ]
settled_below n w (x ∷ xs) (inl e) = omega (arith, ap (level_of n) e)
settled_below n w (x ∷ xs) (inr a) = omega (arith, settled_below n w xs a)

settled_is : (n w : ℕ) (xs : List ℕ) → AllClose (suc n) w xs → Among w xs → settled n xs ≡ level_of n w
settled_is n w xs cs a = le_antisymm (settled_below n w xs a) (settled_above n w xs cs)

-- who remains is close for the slots that are left, and w remains
remain_close : (n w : ℕ) (xs : List ℕ) → AllClose (suc n) w xs → AllClose n w (remaining n (level_of n w) xs)
unfolding remaining
remain_close n w [] cs = tt
remain_close n w (x ∷ xs) cs =
    ⊎_elim
    (λ lt. simp (lt-ltb (level_of n w) (level_of n x) lt) (remain_close n w xs cs.1))
    (λ le. simp (le-ltb (level_of n w) (level_of n x) le) (close_next cs.0 le, remain_close n w xs cs.1))
    (below_or_not (level_of n w) (level_of n x))

remain_among : (n w : ℕ) (xs : List ℕ) → Among w xs → Among w (remaining n (level_of n w) xs)
unfolding remaining
remain_among n w [] a = elim a [ ]
remain_among n w (x ∷ xs) (inl e) = simp (le-ltb (level_of n w) (level_of n x) (omega (arith, ap (level_of n) e)))
    (inl e)
remain_among n w (x ∷ xs) (inr a) =
    ⊎_elim (λ lt. simp (lt-ltb (level_of n w) (level_of n x) lt) (remain_among n w xs a))
    (λ le. simp (le-ltb (level_of n w) (level_of n x) le) (inr (remain_among n w xs a)))
    (below_or_not (level_of n w) (level_of n x))

-- a contender loses where it first differs from the lowest
pub loss_differs : (n w : ℕ) (xs : List ℕ) (x : ℕ) → AllClose n w xs → Among w xs → Close n w x
    → loss_of n xs x ≡ differs n w x
unfolding loss_of differs
loss_differs zero w xs x cs a c = refl
loss_differs (suc n) w xs x cs a c =
    ⊎_elim
    (λ lt. simp (
      settled_is n w xs cs a,
      lt-ltb (level_of n w) (level_of n x) lt,
      ne_eqb (level_of n x) (level_of n w)
          (λ e. omega arith),
    ))
    (λ le. simp (
      settled_is n w xs cs a,
      le-ltb (level_of n w) (level_of n x) le,
      eq-eqb (level_of n x) (level_of n w)
          (omega (arith, close_level c)),
    )
    (loss_differs n w (remaining n (level_of n w) xs) x (remain_close n w xs cs) (remain_among n w xs a)
    (close_next c le)))
    (below_or_not (level_of n w) (level_of n x))

-- nobody differs from itself; who differs in no slot is the same; and the slot is one of 2 to 14
pub differs_self : (n w : ℕ) → differs n w w ≡ 0
unfolding differs
differs_self zero w = refl
differs_self (suc n) w = simp (eq-eqb (level_of n w) (level_of n w) refl) (differs_self n w)

pub differs_none : (n w x : ℕ) → n ≤ 13 → x / 2 ^ n ≡ w / 2 ^ n → differs n w x ≡ 0 → x ≡ w
unfolding differs
differs_none zero w x h e d = omega arith
differs_none (suc n) w x h e d =
    ⊎_elim
    (λ same. differs_none n w x (omega arith) (omega (arith, level_split n w, level_split n x))
    (simp (eq-eqb (level_of n x) (level_of n w) same) at d))
    (λ other. absurd (let z : last_contest_slot - n ≡ 0 = simp
    (ne_eqb (level_of n x) (level_of n w) other) at d in omega arith))
    (same_or_not (level_of n x) (level_of n w))

pub differs_slot : (n w x : ℕ) → n ≤ 13 → (differs n w x ≡ 0)
    ⊎ ((2 ≤ differs n w x) × (differs n w x ≤ last_contest_slot))
unfolding differs
differs_slot zero w x h = inl refl
differs_slot (suc n) w x h =
    ⊎_elim (λ same. simp (eq-eqb (level_of n x) (level_of n w) same) (differs_slot n w x (omega arith)))
    (λ other. simp (ne_eqb (level_of n x) (level_of n w) other) (inr (omega arith, omega arith)))
    (same_or_not (level_of n x) (level_of n w))

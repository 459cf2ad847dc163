-- The first place of a list at which a test holds, and what a search that goes from place to place has found.
use mathlib.Core.Bool.{Bool, true, false, false≢true}
use mathlib.Core.Logic.{⊎_elim}
use mathlib.Core.Path.{◌≡◌, refl, sym, ap, ◌∙◌}
use mathlib.Core.List.{List, [], ◌∷◌}
use Prim.Native.Nat.{ℕ, zero, suc, ◌+◌, ◌≤◌, ◌<◌}
use native.Mathlib.Numerals.{add-one}
use native.Mathlib.Omega.{arith}
use lib.ListN.{length, drop, get_or, drop_of_length-le}
use lib.Seq.{drop-cons}
use Rattle.line.specs.Places.{first_place}
use Rattle.line.proofs.Either.{below_or_not, either}

module _ {A : Type 0} (test : A → Bool) where
  first_here : {x : A} (xs : List A) → test x ≡ true → first_place test (x ∷ xs) ≡ 0
  unfolding first_place
  first_here xs e = simp e

  pub first_later : {x : A} (xs : List A) → test x ≡ false → first_place test (x ∷ xs) ≡ first_place test xs + 1
  unfolding first_place
  first_later xs e = simp e

  pub first_nil : first_place test [] ≡ 0
  unfolding first_place
  first_nil = refl

  pub first_le : (xs : List A) → first_place test xs ≤ length xs
  first_le [] = omega (arith, first_nil)
  first_le (x ∷ xs) =
      ⊎_elim (λ t. omega (arith, first_here xs t)) (λ f. omega (arith, first_later xs f, first_le xs))
      (either (test x))

  -- the place found holds what was looked for, and no place before it does
  pub first_holds : (xs : List A) (d : A) → first_place test xs < length xs
      → test (get_or xs (first_place test xs) d) ≡ true
  first_holds [] d h = absurd (omega (arith, first_nil))
  first_holds (x ∷ xs) d h =
      ⊎_elim (λ t. rw (first_here xs t) t) (λ f. rw (first_later xs f, add-one)
      (first_holds xs d (omega (arith, first_later xs f))))
      (either (test x))

  pub first_none : (xs : List A) (d : A) (i : ℕ) → i < first_place test xs → test (get_or xs i d) ≡ false
  first_none [] d i h = absurd (omega (arith, first_nil))
  first_none (x ∷ xs) d zero h = ⊎_elim (λ t. absurd (omega (arith, first_here xs t))) (λ f. f) (either (test x))
  first_none (x ∷ xs) d (suc i) h =
      ⊎_elim (λ t. absurd (omega (arith, first_here xs t))) (λ f. first_none xs d i (omega (arith, first_later xs f)))
      (either (test x))

  -- the first is at no later place than any where the test holds
  pub first_at_most : (xs : List A) (d : A) (p : ℕ) → test (get_or xs p d) ≡ true → first_place test xs ≤ p
  first_at_most xs d p holds =
      ⊎_elim (λ h. absurd (false≢true (sym (first_none xs d p h) ∙ holds))) (λ h. h)
      (below_or_not p (first_place test xs))

  -- a search has come to the place i, and what it looks for lies no nearer
  pub record Passed (xs : List A) (found i : ℕ) : Type 0 where
    pub ahead : found ≡ i + first_place test (drop i xs)
    pub within : i ≤ length xs

  pub passed_one : {xs : List A} {found i : ℕ} (d : A) → Passed xs found i → i < length xs
      → test (get_or xs i d) ≡ false
      → Passed xs found (i + 1)
  passed_one {xs} {found} {i} d p h e =
      let next : first_place test (drop i xs) ≡ first_place test (drop (i + 1) xs) + 1
      = ap (first_place test) (drop-cons xs i d h) ∙ first_later (drop (suc i) xs) e ∙ rw (add-one i) in
      record { ahead = omega (arith, p.ahead, next); within = omega arith }

  pub passed_here : {xs : List A} {found i : ℕ} (d : A) → Passed xs found i → i < length xs
      → test (get_or xs i d) ≡ true → i ≡ found
  passed_here {xs} {found} {i} d p h e =
      let here : first_place test (drop i xs) ≡ 0 = ap (first_place test) (drop-cons xs i d h)
      ∙ first_here (drop (suc i) xs) e in
      omega (arith, p.ahead, here)

  pub passed_all : {xs : List A} {found i : ℕ} → Passed xs found i → length xs ≤ i → i ≡ found
  passed_all {xs} {found} {i} p h =
      let none : first_place test (drop i xs) ≡ 0 = ap (first_place test) (drop_of_length-le xs h) ∙ first_nil in
      omega (arith, p.ahead, none)

  pub passed_none : (xs : List A) → Passed xs (first_place test xs) 0
  passed_none xs = record { ahead = omega arith; within = omega arith }

  -- a place where the test holds, and holds at none before it, is the first
  pub first_is : (xs : List A) (d : A) (p : ℕ) → p < length xs → test (get_or xs p d) ≡ true
      → ((i : ℕ) → i < p → test (get_or xs i d) ≡ false) → p ≡ first_place test xs
  first_is xs d p h here before = passed_here d (up p (omega arith)) h here
    where
      up : (i : ℕ) → i ≤ p → Passed xs (first_place test xs) i
      up zero le = passed_none xs
      up (suc i) le = rw (← add-one i) (passed_one d (up i (omega arith)) (omega arith) (before i (omega arith)))

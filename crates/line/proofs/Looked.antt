-- A loop that looks at every element of a list and notes whether it has found what is looked for.
use mathlib.Core.Bool.{Bool, false, ◌||◌, or_assoc, or-false}
use mathlib.Core.List.{List, [], ◌∷◌}
use mathlib.Core.Path.{◌≡◌, refl, sym, ap, ◌∙◌}
use Prim.Native.Nat.{ℕ, ◌+◌, ◌<◌, ◌≤◌}
use native.Mathlib.Omega.{arith}
use lib.ListN.{drop, drop_of_length-le, get_or, length}
use Rattle.line.proofs.Places.{cut}

-- i elements have been looked at; `some` says of a list whether one of its elements is looked for
pub record Looked (some : List ℕ → Bool) (l : List ℕ) (found : Bool) (i : ℕ) : Type 0 where
  pub within : i ≤ length l
  pub rest : some l ≡ (found || some (drop i l))

pub looked_none : (some : List ℕ → Bool) (l : List ℕ) → Looked some l false 0
looked_none some l = record { within = omega arith; rest = refl }

pub looked_one : {some : List ℕ → Bool} {l : List ℕ} {found : Bool} {i : ℕ} (one : ℕ → Bool) (here : Bool)
    → ((x : ℕ) (xs : List ℕ) → some (x ∷ xs) ≡ (one x || some xs)) → Looked some l found i → i < length l
    → here ≡ one (get_or l i 0) → Looked some l (found || here) (i + 1)
looked_one {some} {l} {found} {i} one here more k h e = record {
  within = omega arith;
  rest = k.rest
      ∙ ap (λ (xs : List ℕ). found || some xs) (cut l i h)
      ∙ ap (λ (b : Bool). found || b) (more (get_or l i 0) (drop (i + 1) l))
      ∙ rw (← e) (sym (or_assoc found here (some (drop (i + 1) l))));
}

pub looked_all : {some : List ℕ → Bool} {l : List ℕ} {found : Bool} {i : ℕ} → some [] ≡ false → Looked some l found i
    → length l ≤ i → found ≡ some l
looked_all {some} {l} {found} {i} none k end =
    sym (k.rest ∙ ap (λ (xs : List ℕ). found || some xs) (drop_of_length-le l end) ∙ rw none (or-false found))

-- A list by its places.
use mathlib.Core.List.{List, [], ◌∷◌, map}
use mathlib.Core.Logic.{⊎_elim}
use mathlib.Core.Path.{◌≡◌, refl, sym, ap, ◌∙◌}
use Prim.Native.Nat.{ℕ, zero, suc, ◌+◌, ◌<◌, ◌≤◌, min}
use native.Mathlib.Numerals.{add-one}
use native.Mathlib.Omega.{arith}
use lib.ListN.{drop, get_or, length, take}
use lib.Seq.{drop-cons, take_all}
use Rattle.line.proofs.Either.{below_or_not}

-- from a place on: what stands there, and the list from the next place on
pub cut : (l : List ℕ) (i : ℕ) → i < length l → drop i l ≡ get_or l i 0 ∷ drop (i + 1) l
cut l i h = drop-cons l i 0 h ∙ rw (add-one i)

-- one place of a list that is made of another
pub get_or_map : {A B : Type 0} (f : A → B) (l : List A) (i : ℕ) (a : A) (b : B) → i < length l
    → get_or (map f l) i b ≡ f (get_or l i a)
get_or_map f [] i a b h = absurd (omega arith)
get_or_map f (x ∷ l) zero a b h = refl
get_or_map f (x ∷ l) (suc i) a b h = get_or_map f l i a b (omega arith)

-- so many elements, cut at the list's end
pub take_min : (l : List ℕ) (n : ℕ) → take (min n (length l)) l ≡ take n l
take_min l n =
    ⊎_elim
    (λ (h : length l < n).
    let end : length l ≤ min n (length l) = omega arith in
    let past : length l ≤ n = omega arith in
    take_all (min n (length l)) l end ∙ sym (take_all n l past))
    (λ (h : n ≤ length l).
    let is : min n (length l) ≡ n = omega arith in
    ap (λ (k : ℕ). take k l) is)
    (below_or_not (length l) n)

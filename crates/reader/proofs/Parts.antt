-- Parts of a list: a part by its ends, and a part with one element more.
use mathlib.Core.Path.{◌≡◌, sym, ap, ◌∙◌}
use mathlib.Core.List.{List, [], ◌∷◌, ◌++◌}
use Prim.Native.Nat.{ℕ, ◌+◌, ◌<◌, ◌≤◌}
use native.Mathlib.Numerals.{add-one}
use native.Mathlib.Omega.{arith}
use lib.ListN.{drop, get_or, length, take}
use lib.Seq.{drop-append-le, drop_at, length-take-le, slice, take-add, take-suc}

-- so many elements from a place on are those of the front that ends with them
pub part : (l : List ℕ) (place count : ℕ) → place ≤ length l
    → take count (drop place l) ≡ slice place (place + count) l
part l place count inside =
    sym (ap (drop place) (take-add place count l)
    ∙ drop_at (take place l) (take count (drop place l)) place (length-take-le place l inside))

pub slice_more : (l : List ℕ) (from i : ℕ) → from ≤ i → i < length l
    → slice from (i + 1) l ≡ slice from i l ++ get_or l i 0 ∷ []
slice_more l from i ahead more =
    let long : length (take i l) ≡ i = length-take-le i l (omega arith) in
    ap (λ (n : ℕ). drop from (take n l)) (add-one i)
    ∙ ap (drop from) (take-suc l i 0 more)
    ∙ drop-append-le from (take i l) (get_or l i 0 ∷ []) (omega (arith, long))

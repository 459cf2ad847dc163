-- A lent list that is written from the front, each element by its place.
use mathlib.Core.List.{List, [], ◌∷◌, ◌++◌}
use mathlib.Core.Logic.{⊎_elim}
use mathlib.Core.Path.{◌≡◌, refl, sym, ap, ◌∙◌}
use Prim.Native.Nat.{ℕ, zero, suc, ◌+◌, ◌<◌}
use native.Mathlib.Numerals.{add-one}
use native.Mathlib.Omega.{arith}
use lib.ListN.{get_or-append, drop, get_or, length, length-append, length-set, set, take, take-append-drop}
use lib.Seq.{drop-drop, drop-set-lt, get_or-append_seam, take-suc-set}
use Rattle.line.specs.Places.{placed}
use Rattle.line.proofs.Either.{below_or_not}

-- the first i elements of a list have been written over `first`
pub record Placed (f : ℕ → ℕ) (first now : List ℕ) (i : ℕ) : Type 0 where
  pub front : take i now ≡ placed f i
  pub kept : drop i now ≡ drop i first
  pub long : length now ≡ length first

pub none_placed : (f : ℕ → ℕ) (first : List ℕ) → Placed f first first 0
unfolding placed
none_placed f first = record { front = refl; kept = refl; long = refl }

pub one_placed : {f : ℕ → ℕ} {first now : List ℕ} {i : ℕ} (v : ℕ) → Placed f first now i → i < length now → v ≡ f i
    → Placed f first (set now i v) (i + 1)
unfolding placed
one_placed {f} {first} {now} {i} v p room is =
    record {
      front = ap (λ (n : ℕ). take n (set now i v)) (add-one i)
          ∙ take-suc-set now i v room
          ∙ ap (λ (l : List ℕ). l ++ v ∷ []) p.front
          ∙ ap (λ (w : ℕ). placed f i ++ w ∷ []) is
          ∙ ap (placed f) (sym (add-one i));
      kept = drop-set-lt (i + 1) now i v (omega arith) ∙ rw (← drop-drop 1 i now, p.kept, drop-drop 1 i first);
      long = length-set now i v ∙ p.long;
    }

pub all_placed : {f : ℕ → ℕ} {first now : List ℕ} {i : ℕ} → Placed f first now i → now ≡ placed f i ++ drop i first
all_placed {f} {first} {now} {i} p = sym (take-append-drop i now) ∙ rw (p.front, p.kept)

pub placed_length : (f : ℕ → ℕ) (n : ℕ) → length (placed f n) ≡ n
unfolding placed
placed_length f zero = refl
placed_length f (suc n) =
    length-append (placed f n) (f n ∷ []) ∙ omega (arith, placed_length f n, add-one n)

-- the place of each
pub placed_at : (f : ℕ → ℕ) (n i : ℕ) → i < n → get_or (placed f n) i 0 ≡ f i
unfolding placed
placed_at f zero i inside = absurd (omega (arith, inside))
placed_at f (suc n) i inside =
    ⊎_elim
    (λ h. get_or-append (placed f n) (f n ∷ []) 0 i (omega (arith, h, placed_length f n)) ∙ placed_at f n i h)
    (λ h. let here : i ≡ length (placed f n) = omega (arith, h, inside, placed_length f n) in
    ap (λ (k : ℕ). get_or (placed f n ++ f n ∷ []) k 0) here
    ∙ get_or-append_seam (placed f n) (f n) [] 0 ∙ ap f (omega (arith, h, inside)))
    (below_or_not i n)

-- The count goes on from slot to slot: a slot comes, and the one that came w before it leaves.
use mathlib.Core.List.{List, [], ◌∷◌, ◌++◌}
use mathlib.Core.Logic.{⊎_elim}
use mathlib.Core.Path.{◌≡◌, refl, sym, ap, ◌∙◌}
use Prim.Native.Nat.{ℕ, ◌+◌, ◌-◌, ◌<◌, ◌≤◌}
use native.Mathlib.Numerals.{add-one}
use native.Mathlib.Omega.{arith}
use borrow.Author.Tests.{le-leb, lt-leb}
use lib.ListN.{get_or, length, take}
use lib.Seq.{drop-nil, get_or-take, length-take-le, take-suc}
use Rattle.line.proofs.Either.{below_or_not}
use Rattle.loads.proofs.Windows.{none_idle, now_full, still_open, window_most}
use Rattle.loads.specs.Figures.{busy, busy_of, figure_at, latest}
use Rattle.meter.specs.Counting.{count_at, leaving_at}

pub count_none : (w : ℕ) (slots : List ℕ) → count_at w slots 0 ≡ 0
count_none w slots = ap busy_of (drop-nil (0 - w)) ∙ none_idle

pub count_most : (w : ℕ) (slots : List ℕ) (i : ℕ) → count_at w slots i ≤ w
count_most w slots i = window_most w (take i slots)

pub count_step : (w : ℕ) (slots : List ℕ) (i : ℕ) → 0 < w → i < length slots
    → figure_at w slots i + leaving_at w slots i ≡ count_at w slots i + busy (get_or slots i 0)
count_step w slots i some inside =
    let l : List ℕ = take i slots in
    let slot : ℕ = get_or slots i 0 in
    let long : length l ≡ i = length-take-le i slots (omega arith) in
    let next : figure_at w slots i ≡ busy_of (latest w (l ++ slot ∷ [])) =
    ap (λ (n : ℕ). busy_of (latest w (take n slots))) (add-one i)
    ∙ ap (λ (k : List ℕ). busy_of (latest w k)) (take-suc slots i 0 inside)
    in
    ⊎_elim
    (λ (h : i < w).
    let stays : leaving_at w slots i ≡ 0 = rw (lt-leb w i h) refl in
    omega (arith, next, stays, still_open w l slot (omega (arith, long, h))))
    (λ (h : w ≤ i).
    let from : length l - w ≡ i - w = omega (arith, long) in
    let same : get_or l (i - w) 0 ≡ get_or slots (i - w) 0 = get_or-take i slots (i - w) 0 (omega (arith, h)) in
    let oldest : get_or l (length l - w) 0 ≡ get_or slots (i - w) 0 = ap (λ (n : ℕ). get_or l n 0) from ∙ same in
    let leaves : leaving_at w slots i ≡ busy (get_or l (length l - w) 0) =
    rw (le-leb w i h) (ap busy (sym oldest))
    in
    omega (arith, next, leaves, now_full w l slot some (omega (arith, long, h))))
    (below_or_not i w)

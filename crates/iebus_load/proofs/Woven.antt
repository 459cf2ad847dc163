-- A form byte by byte, and how long it is with its numbers.
use mathlib.Core.Bool.{Bool, true, false}
use mathlib.Core.List.{List, [], ◌∷◌, ◌++◌}
use mathlib.Core.Path.{◌≡◌, refl, ap, ◌∙◌}
use Prim.Native.Nat.{ℕ, ◌+◌, ◌*◌, ◌<◌, ◌≤◌}
use native.Mathlib.Omega.{arith}
use lib.Dec.{eqb}
use denote.Ref.{Bor}
use Rattle.std.specs.Option.{option_copied, unwrap_or}
use Rattle.std.specs.Prelude.{Option, None, Some}
use Rattle.std.specs.Slice.Iter.{iter_rest, iter_steps}
use Rattle.std.specs.declared.slice.Iter.{Iter}
use lib.ListN.{drop, drop_of_length-le, get_or, length, length-append}
use Rattle.line.proofs.Places.{cut}
use Rattle.line.specs.Choice.{pick}
use Rattle.pieces.proofs.Pieces.{UpTo, up_to_all, up_to_none, up_to_one}
use Rattle.pieces.specs.Pieces.{Put}
use Rattle.iebus_load.specs.Forms.{column_of, count_by, mark, piece_by, woven}

woven_none : (numbers : List ℕ) → woven [] numbers ≡ []
unfolding woven
woven_none numbers = refl

-- the first byte, and the rest
woven_one : (b : ℕ) (bs numbers : List ℕ)
    → woven (b ∷ bs) numbers ≡ piece_by b (get_or numbers 0 0) ++ woven bs (drop (count_by b) numbers)
unfolding woven
woven_one b bs numbers = refl

-- ---- put_form: i bytes of the form stand in the text, and `left` are the numbers that are left for the rest

pub record Woven (text : List ℕ) (at : ℕ) (form numbers left : List ℕ) (i end : ℕ) (after : List ℕ) : Type 0 where
  pub within : i ≤ length form
  pub up : UpTo text at (woven form numbers) (woven (drop i form) left) end after

pub woven_begun : (text : List ℕ) (at : ℕ) (form numbers : List ℕ) → Woven text at form numbers numbers 0 at text
woven_begun text at form numbers = record {
  within = omega arith;
  up = up_to_none text at (woven form numbers);
}

-- one byte more: a mark takes a number, another byte none
pub woven_more : {text form numbers left after later : List ℕ} {at i end further : ℕ} (marked : Bool)
    → Woven text at form numbers left i end after → i < length form → eqb (get_or form i 0) mark ≡ marked
    → Put after end (pick marked (column_of (get_or left 0 0)) (get_or form i 0 ∷ [])) further later
    → Woven text at form numbers (drop (pick marked 1 0) left) (i + 1) further later
woven_more {text} {form} {numbers} {left} {after} {later} {at} {i} {end} {further} marked w h is put =
    let byte : ℕ = get_or form i 0 in
    let rest : Bool → List ℕ = λ t. woven (drop (i + 1) form) (drop (pick t 1 0) left) in
    let whole : woven (drop i form) left ≡ pick marked (column_of (get_or left 0 0)) (byte ∷ []) ++ rest marked =
    ap (λ (l : List ℕ). woven l left) (cut form i h) ∙ woven_one byte (drop (i + 1) form) left
    ∙ ap (λ (t : Bool). pick t (column_of (get_or left 0 0)) (byte ∷ []) ++ rest t) is
    in
    record { within = omega arith; up = up_to_one (rw whole at w.up) put }

-- the next number, and what is then left
pub taken : (s : Iter ℕ) (r : Option (Bor ℕ)) (t : Iter ℕ) → iter_steps s r t
    → (unwrap_or (option_copied r) 0 ≡ get_or (iter_rest s) 0 0) × (iter_rest t ≡ drop 1 (iter_rest s))
taken s None t steps =
    let none : length (iter_rest s) ≤ 0 = omega (arith, steps.0) in
    let empty : iter_rest s ≡ [] = drop_of_length-le (iter_rest s) none in
    (rw empty refl, rw (steps.1, empty) refl)
taken s (Some x) t steps = (rw steps refl, rw steps refl)

pub woven_all : {text form numbers left after : List ℕ} {at i end : ℕ}
    → Woven text at form numbers left i end after → length form ≤ i → Put text at (woven form numbers) end after
woven_all {text} {form} {numbers} {left} {after} {at} {i} {end} w h =
    let none : woven (drop i form) left ≡ [] =
    ap (λ (l : List ℕ). woven l left) (drop_of_length-le form h) ∙ woven_none left
    in
    up_to_all (rw none at w.up)

-- ---- how long it is: a number has four bytes more than its mark

abbrev pub marks_in : List ℕ → ℕ
marks_in [] = 0
marks_in (b ∷ bs) = count_by b + marks_in bs

pub woven_length : (form numbers : List ℕ) → length (woven form numbers) ≡ length form + marks_in form * 4
unfolding column_of
woven_length [] numbers = ap length (woven_none numbers)
woven_length (b ∷ bs) numbers =
    let piece : List ℕ = piece_by b (get_or numbers 0 0) in
    let rest : List ℕ = woven bs (drop (count_by b) numbers) in
    ap length (woven_one b bs numbers) ∙ length-append piece rest
    ∙ omega (arith, by_test (get_or numbers 0 0) (eqb b mark), woven_length bs (drop (count_by b) numbers))
  where
    by_test : (n : ℕ) (t : Bool) → length (pick t (column_of n) (b ∷ [])) ≡ 1 + pick t 1 0 * 4
    by_test n true = refl
    by_test n false = refl

-- The bytes and the lines that stand in a text, one more, and all of them.
use mathlib.Core.Bool.{Bool}
use mathlib.Core.Logic.{⊎_elim}
use mathlib.Core.Path.{◌≡◌, ◌∙◌, ap, sym, refl}
use mathlib.Core.List.{List, [], ◌∷◌, ◌++◌, append_assoc, append-nil}
use Prim.Native.Nat.{ℕ, ◌+◌, ◌-◌, ◌/◌, ◌%◌, ◌≤◌, ◌<◌, min}
use native.Mathlib.Numerals.{add-one}
use native.Mathlib.Omega.{arith}
use borrow.Author.Tests.{eq-eqb}
use lib.ListN.{length, take, drop, get_or, length-drop, drop_of_length-le}
use lib.Seq.{drop-cons, take_all, take-suc}
use Rattle.line.specs.Choice.{pick}
use Rattle.line.specs.Numbers.{slot_start}
use Rattle.line.proofs.Either.{below_or_not}
use Rattle.line.proofs.Places.{take_min}
use Rattle.text.specs.Hex.{digit_of, hex_of}
use Rattle.iebus_dump.specs.Line.{bytes_column, ending_column, fields_of, line_of, mark_column}
use Rattle.iebus_dump.specs.Writing.{acked_by, ahead_by, frame_by, frame_in, lines_in}
use Rattle.iebus_dump.specs.Writing.{slot_line, used_by}
use Rattle.pieces.specs.Pieces.{Put}
use Rattle.iebus_dump.proofs.Digits.{hex_two}
use Rattle.pieces.proofs.Pieces.{UpTo, up_to_all, up_to_none, up_to_one}

bytes_behind : (bs : List ℕ) (b : ℕ) → bytes_column (bs ++ b ∷ []) ≡ bytes_column bs ++ (0x20 ∷ hex_of 2 b)
unfolding bytes_column
bytes_behind [] b = append-nil (0x20 ∷ hex_of 2 b)
bytes_behind (x ∷ bs) b =
    ap (λ (l : List ℕ). 0x20 ∷ hex_of 2 x ++ l) (bytes_behind bs b)
    ∙ sym (append_assoc (0x20 ∷ hex_of 2 x) (bytes_column bs) (0x20 ∷ hex_of 2 b))

pub no_bytes : bytes_column [] ≡ []
unfolding bytes_column
no_bytes = refl

-- a byte more, as the code writes it
pub bytes_more : (bytes : List ℕ) (i : ℕ) → i < length bytes
    → bytes_column (take i bytes) ++ (0x20 ∷ digit_of (get_or bytes i 0 / 0x10) ∷ digit_of (get_or bytes i 0) ∷ [])
    ≡ bytes_column (take (i + 1) bytes)
bytes_more bytes i more =
    ap (λ (l : List ℕ). bytes_column (take i bytes) ++ (0x20 ∷ l)) (sym (hex_two (get_or bytes i 0)))
    ∙ sym (bytes_behind (take i bytes) (get_or bytes i 0))
    ∙ ap bytes_column (sym (take-suc bytes i 0 more))
    ∙ ap (λ (n : ℕ). bytes_column (take n bytes)) (sym (add-one i))

-- what is left of a list behind a place, cut at the list's end
pub from_place : (l : List ℕ) (n : ℕ) → take (length l - n) (drop n l) ≡ drop n l
from_place l n = take_all (length l - n) (drop n l) (omega (arith, length-drop n l))

pub drop_min : (l : List ℕ) (n : ℕ) → drop (min n (length l)) l ≡ drop n l
drop_min l n =
    ⊎_elim
    (λ (h : length l < n).
    let end : length l ≤ min n (length l) = omega arith in
    let past : length l ≤ n = omega arith in
    drop_of_length-le l end ∙ sym (drop_of_length-le l past))
    (λ (h : n ≤ length l).
    let is : min n (length l) ≡ n = omega arith in
    ap (λ (k : ℕ). drop k l) is)
    (below_or_not (length l) n)

-- so many elements from a place on, cut at the list's end
pub part_cut : (l : List ℕ) (from count : ℕ)
    → take (min (min from (length l) + count) (length l) - min from (length l)) (drop (min from (length l)) l)
    ≡ take count (drop from l)
part_cut l from count =
    let rest : length (drop from l) ≡ length l - from = length-drop from l in
    let so-many
    : min (min from (length l) + count) (length l) - min from (length l) ≡ min count (length (drop from l)) =
    omega arith
    in
    ap (λ (r : List ℕ). take (min (min from (length l) + count) (length l) - min from (length l)) r) (drop_min l from)
    ∙ ap (λ (n : ℕ). take n (drop from l)) so-many
    ∙ take_min (drop from l) count

line_by : (place first second : ℕ) (bytes : List ℕ)
    → fields_of place (frame_by first second []) ++ bytes_column bytes
    ++ (ending_column (first % 0x10) ++ mark_column (frame_by first 0 []).again)
    ≡ line_of place (frame_by first second bytes)
unfolding line_of fields_of
line_by place first second bytes =
    sym (append_assoc (fields_of place (frame_by first second []) ++ bytes_column bytes) (ending_column (first % 0x10)) _)

-- what is written for a start, from its columns
pub line_made : (place slot : ℕ) (words : List ℕ) {first second : ℕ} {bytes : List ℕ} → slot ≡ slot_start
    → first ≡ get_or words 0 0 → second ≡ get_or words 1 0
    → bytes ≡ take (acked_by first) (drop (ahead_by first) words)
    → fields_of place (frame_by first second []) ++ bytes_column bytes
    ++ (ending_column (first % 0x10) ++ mark_column (frame_by first 0 []).again)
    ≡ slot_line place slot words
unfolding frame_in slot_line
line_made place slot words {first} {second} {bytes} starts is-first is-second is-bytes =
    line_by place first second bytes
    ∙ ap (λ (l : List ℕ). line_of place (frame_by first second l)) is-bytes
    ∙ ap (λ (n : ℕ). line_of place (frame_by first n (take (acked_by first) (drop (ahead_by first) words)))) is-second
    ∙ ap (λ (n : ℕ). line_of place (frame_by n (get_or words 1 0) (take (acked_by n) (drop (ahead_by n) words)))) is-first
    ∙ ap (λ (b : Bool). pick b (line_of place (frame_in words)) []) (sym (eq-eqb slot slot_start starts))

-- the lines from a place on: what is written for the word there, and the lines behind it
next_line : (slots words : List ℕ) (i : ℕ) → i < length slots
    → lines_in i (drop i slots) words
    ≡ slot_line i (get_or slots i 0) words
    ++ lines_in (i + 1) (drop (i + 1) slots) (drop (used_by (get_or slots i 0) words) words)
unfolding lines_in
next_line slots words i more =
    ap (λ (l : List ℕ). lines_in i l words) (drop-cons slots i 0 more)
    ∙ ap (λ (n : ℕ). slot_line i (get_or slots i 0) words
    ++ lines_in n (drop n slots) (drop (used_by (get_or slots i 0) words) words)) (sym (add-one i))

no_lines : (place : ℕ) (words : List ℕ) → lines_in place [] words ≡ []
unfolding lines_in
no_lines place words = refl

-- the first lines of slots stand behind what was written before; `left` are the words of the records behind them
pub record LinesUpTo (slots words text : List ℕ) (at place : ℕ) (left : List ℕ) (end : ℕ) (after : List ℕ)
    : Type 0 where
  pub up : UpTo text at (lines_in 0 slots words) (lines_in place (drop place slots) left) end after

pub begun : (slots words text : List ℕ) (at : ℕ) → LinesUpTo slots words text at 0 words at text
begun slots words text at = record { up = up_to_none text at (lines_in 0 slots words) }

pub one_more : {slots words text after later left : List ℕ} {at i end further used : ℕ}
    → LinesUpTo slots words text at i left end after → i < length slots
    → Put after end (slot_line i (get_or slots i 0) left) further later
    → used ≡ used_by (get_or slots i 0) left
    → LinesUpTo slots words text at (i + 1)
    (take (length left - min used (length left)) (drop (min used (length left)) left)) further later
one_more {slots} {words} {text} {after} {later} {left} {at} {i} {end} {further} {used} up more line is =
    let slot : ℕ = get_or slots i 0 in
    let rest : take (length left - min used (length left)) (drop (min used (length left)) left)
    ≡ drop (used_by slot left) left =
    from_place left (min used (length left)) ∙ drop_min left used ∙ ap (λ (n : ℕ). drop n left) is in
    rw rest (record { up = up_to_one (rw (next_line slots left i more) at up.up) line })

pub all_lines : {slots words text after left : List ℕ} {at i end : ℕ}
    → LinesUpTo slots words text at i left end after → length slots ≤ i
    → Put text at (lines_in 0 slots words) end after
all_lines {slots} {words} {text} {after} {left} {at} {i} {end} up over =
    let none : lines_in i (drop i slots) left ≡ [] =
    ap (λ (l : List ℕ). lines_in i l left) (drop_of_length-le slots over) ∙ no_lines i left
    in
    up_to_all (rw none at up.up)

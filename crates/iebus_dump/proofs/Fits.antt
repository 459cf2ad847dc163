-- Every dump has room: a line has at most 80 bytes for each word of its record, and a log no more of them than slots.
use mathlib.Core.Bool.{Bool, true, false}
use mathlib.Core.Path.{◌≡◌, ◌∙◌, ap, refl}
use mathlib.Core.List.{List, [], ◌∷◌, ◌++◌, map}
use Prim.Native.Nat.{ℕ, ◌+◌, ◌*◌, ◌≤◌}
use native.Mathlib.Omega.{arith}
use lib.Dec.{eqb, ltb}
use lib.ListN.{get_or, length, length-append, length-map, length-take, replicate}
use Rattle.line.specs.Choice.{pick}
use Rattle.logs.specs.Data.{Acked}
use Rattle.logs.specs.Frames.{stray_in}
use Rattle.logs.specs.Relied.{Relied}
use Rattle.logs.specs.Records.{Record, byte_word, record_words, records_of, second_word, words_behind}
use Rattle.logs.specs.Records.{words_of as recordsWords}
use Rattle.std.specs.Prelude.{Option, Some, None}
use Rattle.words.specs.declared.LeftOver.{LeftOver}
use Rattle.words.specs.declared.LeftOver.TheVariants.{Short, More}
use Rattle.text.specs.Last.{last_text}
use Rattle.pieces.specs.Pieces.{bytes_of}
use Rattle.iebus_dump.specs.Line.{Frame, bit_column, bytes_column, control_column, control_name, controls}
use Rattle.iebus_dump.specs.Line.{ending_column, fields_of, frame_of, length_column, line_of, mark_column, padded}
use Rattle.iebus_dump.specs.Line.{route_column}
use Rattle.iebus_dump.specs.Dump.{dump_bytes, header, last_of, lines_of, refused, slots_of, starts_from, whole_of}
use Rattle.iebus_dump.proofs.Digits.{control_list, hex_two, length_list, route_list}
use Rattle.iebus_dump.proofs.Frames.{Sound}
use Rattle.iebus_dump.proofs.Tables.{ending_short}
use Rattle.iebus_dump.proofs.Texts.{AllSound, also, relied_sound, slots_length}

bit_short : (given bit : ℕ) → length (bit_column given bit) ≡ 3
unfolding bit_column
bit_short given bit = by_tests (ltb 0 given) (eqb bit 0) where
  by_tests : (some zero : Bool)
      → length (pick some (pick zero (bytes_of "all") (bytes_of "one")) (bytes_of "---")) ≡ 3
  by_tests true true = refl
  by_tests true false = refl
  by_tests false zero = refl

padded_short : (column : List ℕ) → length (padded 13 column) ≤ 13
padded_short column = omega (arith, length-take 13 (column ++ replicate 13 0x20))

control_short : (given control : ℕ) → length (control_column given control) ≤ 16
unfolding control_name
control_short given control =
    let name : List ℕ = pick (ltb 3 given) (control_name control) (padded 13 (bytes_of "-")) in
    let short : length name ≤ 13 = by_test (ltb 3 given) in
    omega (arith, ap length (control_list given control))
  where
    by_test : (b : Bool) → length (pick b (control_name control) (padded 13 (bytes_of "-"))) ≤ 13
    by_test true = padded_short (bytes_of (get_or controls control ""))
    by_test false = padded_short (bytes_of "-")

mark_short : (again : Bool) → length (mark_column again) ≤ 8
unfolding mark_column
mark_short true = omega arith
mark_short false = omega arith

bytes_length : (bytes : List ℕ) → length (bytes_column bytes) ≡ length bytes * 3
unfolding bytes_column
bytes_length [] = refl
bytes_length (b ∷ bytes) =
    let rest : length (bytes_column bytes) ≡ length bytes * 3 = bytes_length bytes in
    ap (λ (l : List ℕ). length (0x20 ∷ l ++ bytes_column bytes)) (hex_two b) ∙ omega arith

fields_short : (place : ℕ) (f : Frame) → length (fields_of place f) ≤ 41
unfolding fields_of
fields_short place f =
    let route : List ℕ = route_column place f.given f.master f.slave in
    let bit : List ℕ = bit_column f.given f.bit in
    let control : List ℕ = control_column f.given f.control in
    let size : List ℕ = length_column f.given f.length in
    omega (
      arith,
      length-append (route ++ bit ++ control) size,
      length-append (route ++ bit) control,
      length-append route bit,
      ap length (route_list place f.given f.master f.slave),
      bit_short f.given f.bit,
      control_short f.given f.control,
      ap length (length_list f.given f.length),
    )

line_short : (place : ℕ) (f : Frame) → length (ending_column f.ending) ≤ 30
    → length (line_of place f) ≤ 79 + length f.bytes * 3
unfolding line_of
line_short place f short =
    let fields : List ℕ = fields_of place f in
    let bytes : List ℕ = bytes_column f.bytes in
    let ending : List ℕ = ending_column f.ending in
    omega (
      arith,
      length-append (fields ++ bytes ++ ending) (mark_column f.again),
      length-append (fields ++ bytes) ending,
      length-append fields bytes,
      fields_short place f,
      bytes_length f.bytes,
      mark_short f.again,
    )

words_enough : (r : Record) → 1 + length r.reading.text.acked ≤ length (record_words r)
unfolding record_words words_behind
words_enough r =
    let second : List ℕ = pick (ltb (length r.reading.given) 2) [] (second_word r.reading ∷ []) in
    let bytes : List ℕ = map byte_word r.reading.text.acked in
    omega (arith, length-append second bytes, length-map r.reading.text.acked byte_word)

record_short : (place : ℕ) {r : Record} → Sound r → length (line_of place (frame_of r)) ≤ length (record_words r) * 80
record_short place {r} sound =
    let below : r.reading.text.ending ≤ 15 = omega (arith, sound.apart.ending) in
    omega (
      arith,
      line_short place (frame_of r) (ending_short r.reading.text.ending (omega arith)),
      length-map r.reading.text.acked (λ (a : Acked). a.byte),
      words_enough r,
    )

lines_short : (ps : List ℕ) (rs : List Record) → AllSound rs → length (lines_of ps rs) ≤ length (recordsWords rs) * 80
unfolding lines_of recordsWords
lines_short [] rs sounds = omega arith
lines_short (p ∷ ps) [] sounds = omega arith
lines_short (p ∷ ps) (r ∷ rs) (also sound sounds) =
    omega (
      arith,
      length-append (line_of p (frame_of r)) (lines_of ps rs),
      length-append (record_words r) (recordsWords rs),
      record_short p sound,
      lines_short ps rs sounds,
    )

last_short : (last : Option LeftOver) → length (last_text last) ≤ 6
unfolding last_text
last_short None = omega arith
last_short (Some Short) = omega arith
last_short (Some More) = omega arith

-- all that is printed has room in a text of so many bytes
pub fits : {long : Bool} → Relied long → (input : List ℕ) → length (whole_of long input) ≤ dump_bytes
unfolding whole_of
fits {long} relied input =
    let slots : List ℕ = slots_of input in
    let lines : List ℕ = lines_of (starts_from 0 slots) (records_of long slots) in
    let last : List ℕ = last_text (last_of (length input)) in
    let short : length (header ++ lines ++ last) ≤ dump_bytes =
    omega (
      arith,
      length-append (header ++ lines) last,
      length-append header lines,
      lines_short (starts_from 0 slots) (records_of long slots) (relied_sound relied slots),
      relied.fits slots,
      slots_length input,
      last_short (last_of (length input)),
    )
    in
    by_test (header ++ lines ++ last) short (stray_in slots)
  where
    by_test : (whole : List ℕ) → length whole ≤ dump_bytes → (stray : Bool)
        → length (pick stray (header ++ refused) whole) ≤ dump_bytes
    by_test whole short true = omega arith
    by_test whole short false = short

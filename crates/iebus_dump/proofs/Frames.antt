-- The line by a record's words is the line of its frame.
use mathlib.Core.Bool.{Bool, true, false}
use mathlib.Core.Logic.{⊎_elim}
use mathlib.Core.Path.{◌≡◌, ◌∙◌, ap, sym, refl}
use mathlib.Core.List.{List, [], ◌∷◌, ◌++◌, map}
use Prim.Native.Nat.{ℕ, suc, ◌+◌, ◌/◌, ◌%◌}
use native.Mathlib.Omega.{arith}
use borrow.Author.Tests.{le-ltb, ltb-true}
use lib.Dec.{eqb, ltb}
use lib.ListN.{length, take, drop, get_or, length-map}
use lib.Seq.{take_at, drop_at, drop-drop}
use Rattle.line.proofs.Either.{either}
use Rattle.line.specs.Choice.{bit_of, pick}
use Rattle.logs.specs.Data.{Acked, no_byte}
use Rattle.logs.specs.Relied.{TakenApart, fields_at}
use Rattle.logs.specs.Readings.{master_in, slave_in}
use Rattle.logs.specs.Records.{Record, byte_word, first_word, record_words, second_word, words_behind}
use Rattle.text.specs.Hex.{digit_of, hex_of}
use Rattle.iebus_dump.specs.Line.{bytes_column, fields_of, frame_of, line_of, route_column}
use Rattle.iebus_dump.specs.Writing.{acked_by, ahead_by, frame_by, frame_in, given_by}
use Rattle.iebus_dump.proofs.Digits.{hex_two}

-- what is relied on of a record
pub record Sound (r : Record) : Type 0 where
  pub apart : TakenApart r
  pub fields : length r.reading.given ≡ fields_at r.reading.text.ending

-- two digits show the lowest eight bits
digits_low : (w b : ℕ) → w % 0x100 ≡ b → hex_of 2 w ≡ hex_of 2 b
digits_low w b is =
    let high : w / 0x10 % 16 ≡ b / 0x10 % 16 = omega arith in
    let low : w % 16 ≡ b % 16 = omega arith in
    hex_two w ∙ ap (λ (n : ℕ). pick (ltb n 10) (0x30 + n) (0x37 + n) ∷ digit_of w ∷ []) high
    ∙ ap (λ (n : ℕ). digit_of (b / 0x10) ∷ pick (ltb n 10) (0x30 + n) (0x37 + n) ∷ []) low ∙ sym (hex_two b)

bytes_shown : (ls : List Acked)
    → ((i : ℕ) → byte_word (get_or ls i no_byte) % 0x100 ≡ (get_or ls i no_byte).byte)
    → bytes_column (map byte_word ls) ≡ bytes_column (map (λ (a : Acked). a.byte) ls)
unfolding bytes_column
bytes_shown [] each = refl
bytes_shown (a ∷ ls) each =
    ap (λ (l : List ℕ). 0x20 ∷ l ++ bytes_column (map byte_word ls)) (digits_low (byte_word a) a.byte (each 0))
    ∙ ap (λ (l : List ℕ). 0x20 ∷ hex_of 2 a.byte ++ l) (bytes_shown ls (λ (i : ℕ). each (suc i)))

again_shown : (again : Bool) → eqb (bit_of again) 1 ≡ again
again_shown true = refl
again_shown false = refl

-- addresses that are not given are not shown
no_route : (place given m s m₁ s₁ : ℕ) → ltb given 2 ≡ true
    → route_column place given m s ≡ route_column place given m₁ s₁
unfolding route_column hex_of
no_route place given m s m₁ s₁ few =
    let none : ltb 1 given ≡ false = le-ltb 1 given (omega (arith, ltb-true given 2 few)) in
    let neither : ltb 2 given ≡ false = le-ltb 2 given (omega (arith, ltb-true given 2 few)) in
    simp (none, neither)

given_is : {r : Record} → Sound r → given_by (first_word r) ≡ length r.reading.given
given_is sound = ap fields_at sound.apart.ending ∙ sym sound.fields

-- the line by the words, where the second is the record's own or its addresses are not shown
line_by : (place second : ℕ) {r : Record} → Sound r
    → route_column place (length r.reading.given) (second % 0x1000) (second / 0x1000)
    ≡ route_column place (length r.reading.given) (master_in r.reading) (slave_in r.reading)
    → line_of place (frame_by (first_word r) second (map byte_word r.reading.text.acked)) ≡ line_of place (frame_of r)
unfolding line_of fields_of
line_by place second {r} sound route =
    let again : eqb (first_word r / 0x10 % 2) 1 ≡ r.again =
    ap (λ (n : ℕ). eqb n 1) sound.apart.again ∙ again_shown r.again
    in
    rw (
      given_is sound,
      route,
      sound.apart.bit,
      sound.apart.control,
      sound.apart.bytes,
      sound.apart.ending,
      again,
      bytes_shown r.reading.text.acked sound.apart.byte,
    )

-- the bytes' words, behind those ahead of them
acked_front : {r : Record} (more : List ℕ) → Sound r
    → take (acked_by (first_word r)) (map byte_word r.reading.text.acked ++ more)
    ≡ map byte_word r.reading.text.acked
acked_front {r} more sound =
    take_at (map byte_word r.reading.text.acked) more (acked_by (first_word r))
    (length-map r.reading.text.acked byte_word ∙ sym sound.apart.acked)

acked_past : {r : Record} (more : List ℕ) → Sound r
    → drop (acked_by (first_word r)) (map byte_word r.reading.text.acked ++ more) ≡ more
acked_past {r} more sound =
    drop_at (map byte_word r.reading.text.acked) more (acked_by (first_word r))
    (length-map r.reading.text.acked byte_word ∙ sym sound.apart.acked)

-- a record's words, by whether it has a second one
words_few : (r : Record) (more : List ℕ) → ltb (length r.reading.given) 2 ≡ true
    → record_words r ++ more ≡ first_word r ∷ (map byte_word r.reading.text.acked ++ more)
unfolding record_words words_behind
words_few r more few = simp few

words_both : (r : Record) (more : List ℕ) → ltb (length r.reading.given) 2 ≡ false
    → record_words r ++ more ≡ first_word r ∷ second_word r.reading ∷ (map byte_word r.reading.text.acked ++ more)
unfolding record_words words_behind
words_both r more both = simp both

ahead_is : {r : Record} → Sound r → (few : Bool) → ltb (length r.reading.given) 2 ≡ few
    → ahead_by (first_word r) ≡ pick few 1 2
ahead_is sound few is =
    ap (λ (n : ℕ). pick (ltb n 2) 1 2) (given_is sound) ∙ ap (λ (b : Bool). pick b 1 2) is

line_few : (place : ℕ) {r : Record} (more : List ℕ) → Sound r → ltb (length r.reading.given) 2 ≡ true
    → line_of place (frame_in (record_words r ++ more)) ≡ line_of place (frame_of r)
unfolding frame_in
line_few place {r} more sound few =
    let bytes : List ℕ = map byte_word r.reading.text.acked in
    let next : ℕ = get_or (bytes ++ more) 0 0 in
    ap (λ (l : List ℕ). line_of place (frame_in l)) (words_few r more few)
    ∙ ap (λ (n : ℕ). line_of place (frame_by (first_word r) next
    (take (acked_by (first_word r)) (drop n (first_word r ∷ (bytes ++ more))))))
    (ahead_is sound true few)
    ∙ ap (λ (l : List ℕ). line_of place (frame_by (first_word r) next l)) (acked_front more sound)
    ∙ line_by place next sound
    (no_route place (length r.reading.given) (next % 0x1000) (next / 0x1000) (master_in r.reading)
    (slave_in r.reading) few)

line_both : (place : ℕ) {r : Record} (more : List ℕ) → Sound r → ltb (length r.reading.given) 2 ≡ false
    → line_of place (frame_in (record_words r ++ more)) ≡ line_of place (frame_of r)
unfolding frame_in
line_both place {r} more sound both =
    let bytes : List ℕ = map byte_word r.reading.text.acked in
    let second : ℕ = second_word r.reading in
    let given : ℕ = length r.reading.given in
    ap (λ (l : List ℕ). line_of place (frame_in l)) (words_both r more both)
    ∙ ap (λ (n : ℕ). line_of place (frame_by (first_word r) second
    (take (acked_by (first_word r)) (drop n (first_word r ∷ second ∷ (bytes ++ more))))))
    (ahead_is sound false both)
    ∙ ap (λ (l : List ℕ). line_of place (frame_by (first_word r) second l)) (acked_front more sound)
    ∙ line_by place second sound
    (ap (λ (n : ℕ). route_column place given n (second / 0x1000)) sound.apart.master
    ∙ ap (λ (n : ℕ). route_column place given (master_in r.reading) n) sound.apart.slave)

pub line_right : (place : ℕ) (r : Record) (more : List ℕ) → Sound r
    → line_of place (frame_in (record_words r ++ more)) ≡ line_of place (frame_of r)
line_right place r more sound =
    ⊎_elim (line_few place more sound) (line_both place more sound) (either (ltb (length r.reading.given) 2))

past_few : {r : Record} (more : List ℕ) → Sound r → ltb (length r.reading.given) 2 ≡ true
    → drop (ahead_by (first_word r) + acked_by (first_word r)) (record_words r ++ more) ≡ more
past_few {r} more sound few =
    ap (drop (ahead_by (first_word r) + acked_by (first_word r))) (words_few r more few)
    ∙ sym (drop-drop (acked_by (first_word r)) (ahead_by (first_word r)) _)
    ∙ ap (λ (n : ℕ). drop (acked_by (first_word r))
    (drop n (first_word r ∷ (map byte_word r.reading.text.acked ++ more))))
    (ahead_is sound true few)
    ∙ acked_past more sound

past_both : {r : Record} (more : List ℕ) → Sound r → ltb (length r.reading.given) 2 ≡ false
    → drop (ahead_by (first_word r) + acked_by (first_word r)) (record_words r ++ more) ≡ more
past_both {r} more sound both =
    ap (drop (ahead_by (first_word r) + acked_by (first_word r))) (words_both r more both)
    ∙ sym (drop-drop (acked_by (first_word r)) (ahead_by (first_word r)) _)
    ∙ ap (λ (n : ℕ). drop (acked_by (first_word r))
    (drop n (first_word r ∷ second_word r.reading ∷ (map byte_word r.reading.text.acked ++ more))))
    (ahead_is sound false both)
    ∙ acked_past more sound

pub past_right : (r : Record) (more : List ℕ) → Sound r
    → drop (ahead_by (first_word r) + acked_by (first_word r)) (record_words r ++ more) ≡ more
past_right r more sound =
    ⊎_elim (past_few more sound) (past_both more sound) (either (ltb (length r.reading.given) 2))

-- What is read of a frame: how large each number of it is, and that its words are no more than its slots.
use mathlib.Core.Bool.{Bool, true, false, ◌&&◌}
use mathlib.Core.List.{List}
use mathlib.Core.Logic.{⊎_elim}
use mathlib.Core.Path.{◌≡◌, refl, sym, ap, ◌∙◌}
use Prim.Native.Nat.{ℕ, ◌+◌, ◌≤◌, ◌<◌}
use native.Mathlib.Omega.{arith}
use borrow.Author.Tests.{eqb-true, lt-ltb}
use lib.Dec.{eqb, ltb}
use lib.ListN.{get_or, length, length-append, length-map}
use Rattle.line.specs.Choice.{pick}
use Rattle.line.specs.Numbers.{end_broken_data}
use Rattle.logs.specs.Frames.{Low}
use Rattle.logs.specs.Data.{Text, attempts_of, no_byte}
use Rattle.logs.specs.Fields.{data_place, end_in, given_in, header}
use Rattle.logs.specs.Relied.{fields_at}
use Rattle.logs.specs.Readings.{Reading, bit_in, control_in, data_of, length_of, master_in, read_of, slave_in}
use Rattle.logs.specs.Records.{record_words, second_word, words_behind}
use Rattle.logs.proofs.Data.{Within, ended, text_within, weaker}
use Rattle.logs.proofs.Fields.{at_most_one, bytes_least, fields_given, given_most, header_end, length_most}
use Rattle.logs.proofs.Fields.{master_slots, number_at_low}

-- a frame makes at most 32 attempts
attempts_most : (long broadcast : Bool) (bytes : ℕ) → attempts_of long broadcast bytes ≤ 32
attempts_most true true bytes = omega arith
attempts_most true false bytes = omega arith
attempts_most false true bytes = omega arith
attempts_most false false bytes = omega arith

-- where a choice rests on two tests, its first part is met only with the first test
chosen : (P : Text → Type 0) (first second : Bool) {one other : Text} → (first ≡ true → P one) → P other
    → P (pick (first && second) one other)
chosen P true true f g = f refl
chosen P true false f g = g
chosen P false second f g = g

pub all_given : (levels : List ℕ) → end_in header levels ≡ end_broken_data → length (given_in header levels) ≡ 5
unfolding fields_at
all_given levels e = fields_given levels ∙ ap fields_at e

pub data_within : (long : Bool) (levels : List ℕ)
    → Within (length (given_in header levels)) 32 0 levels (read_of long levels).text
unfolding data_of read_of
data_within long levels =
    let most = attempts_most long (eqb (get_or (given_in header levels) 0 0) 0) (get_or (given_in header levels) 4 0) in
    chosen (Within (length (given_in header levels)) 32 0 levels) _ _
    (λ e.
    rw (all_given levels (eqb-true (end_in header levels) end_broken_data e))
    (weaker data_place most (omega arith) (text_within _ _ _ _ _)))
    (rw (fields_given levels) (ended 32 0 (end_in header levels) levels (header_end levels)))

-- how many fields are given of a frame, and how large its numbers are
pub record Bounded (r : Reading) : Type 0 where
  pub fields : length r.given ≡ fields_at r.text.ending
  pub bit : bit_in r < 2
  pub master : master_in r < 0x1000
  pub slave : slave_in r < 0x1000
  pub control : control_in r < 0x10
  pub bytes : length_of r ≤ 0x100
  pub bytes_one : length r.given ≡ 5 → 1 ≤ length_of r
  pub ending : r.text.ending ≤ 10
  pub acked : length r.text.acked ≤ 32
  pub unacked : r.text.unacked ≤ 32
  pub byte : (i : ℕ) → (get_or r.text.acked i no_byte).byte < 0x100
  pub took : (i : ℕ) → (get_or r.text.acked i no_byte).attempts ≤ 32
  pub took_one : (i : ℕ) → i < length r.text.acked → 1 ≤ (get_or r.text.acked i no_byte).attempts

pub reading_bounded : (long : Bool) (levels : List ℕ) → Low levels → Bounded (read_of long levels)
unfolding read_of
reading_bounded long levels low =
    let most = given_most levels header in
    let text = data_within long levels in
    record {
      fields = sym text.given;
      bit = omega (arith, most 0, number_at_low 0 1 levels low);
      master = omega (arith, most 1, number_at_low 1 12 levels low);
      slave = omega (arith, most 2, number_at_low 14 12 levels low);
      control = omega (arith, most 3, number_at_low 28 4 levels low);
      bytes = omega (arith, most 4, length_most _ (number_at_low 34 8 levels low));
      bytes_one = bytes_least levels;
      ending = text.ending;
      acked = text.acked;
      unacked = omega arith;
      byte = text.byte low;
      took = λ i. omega (arith, text.took i);
      took_one = text.took_one;
    }

-- a second word has the slots of the master address, and a byte its attempt's
pub record_fits : (long : Bool) (levels : List ℕ) (again : Bool)
    → length (record_words (record { again = again; reading = read_of long levels })) ≤ 1 + length levels
unfolding read_of record_words words_behind
record_fits long levels again =
    let text = data_within long levels in
    let given = length (given_in header levels) in
    let second = at_most_one (ltb given 2) (second_word (read_of long levels)) in
    ⊎_elim (λ few. simp (length-append, length-map, lt-ltb given 2 few) (omega arith))
    (λ (there : 14 ≤ length levels). simp (length-append, length-map) (omega arith)) (master_slots levels)

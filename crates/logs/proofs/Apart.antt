-- A record's words taken apart again, and the ranges of what they say.
use mathlib.Core.Logic.{⊎_elim}
use mathlib.Core.List.{[], ◌∷◌, ◌++◌, map}
use mathlib.Core.Path.{◌≡◌, refl, sym, ap, ◌∙◌}
use Prim.Native.Nat.{ℕ, ◌+◌, ◌/◌, ◌%◌}
use native.Mathlib.Omega.{arith}
use borrow.Author.Tests.{le-ltb, lt-ltb}
use lib.Dec.{ltb}
use lib.ListN.{length, length-append, length-map}
use Rattle.line.proofs.Either.{below_or_not}
use Rattle.line.proofs.Levels.{bit_le}
use Rattle.line.specs.Choice.{bit_of, pick}
use Rattle.logs.specs.Relied.{Ranges, TakenApart, fields_at, size_by}
use Rattle.logs.specs.Readings.{Reading}
use Rattle.logs.specs.Records.{Record, byte_word, first_word, record_words, second_word, words_behind}
use Rattle.logs.proofs.Readings.{Bounded}

-- a second word is there where two fields are
second_there : (fields word : ℕ) → length (pick (ltb fields 2) [] (word ∷ [])) ≡ bit_of (ltb 1 fields)
second_there fields word =
    ⊎_elim (λ few. rw (lt-ltb fields 2 few, le-ltb 1 fields (omega arith)))
    (λ more. rw (le-ltb fields 2 more, lt-ltb 1 fields more)) (below_or_not fields 2)

sized : (r : Record) → length (record_words r)
    ≡ 1 + bit_of (ltb 1 (length r.reading.given)) + length r.reading.text.acked
unfolding record_words words_behind
sized r =
    let second = second_there (length r.reading.given) (second_word r.reading) in
    simp (length-append, length-map) (omega arith)

ending_told : (r : Record) → Bounded r.reading → first_word r % 0x10 ≡ r.reading.text.ending
unfolding first_word
ending_told r b =
    let again = bit_le r.again in
    omega arith

acked_told : (r : Record) → Bounded r.reading
    → first_word r / 0x8_0000 % 0x40 ≡ length r.reading.text.acked
unfolding first_word
acked_told r b =
    let again = bit_le r.again in
    omega arith

size_told : (r : Record) → Bounded r.reading → length (record_words r) ≡ size_by (first_word r)
unfolding size_by
size_told r b =
    rw (ap fields_at (ending_told r b) ∙ sym b.fields, acked_told r b) (sized r)

laid_out : (r : Record)
    → record_words r
    ≡ first_word r ∷ pick (ltb (length r.reading.given) 2) [] (second_word r.reading ∷ [])
    ++ map byte_word r.reading.text.acked
unfolding record_words words_behind
laid_out r = refl

pub taken_apart : (r : Record) → Bounded r.reading → TakenApart r
unfolding first_word
taken_apart r b =
    let again = bit_le r.again in
    record {
      words = laid_out r;
      first_within = omega arith;
      ending = ending_told r b;
      again = omega arith;
      bit = omega arith;
      control = omega arith;
      bytes = omega arith;
      acked = acked_told r b;
      unacked = omega arith;
      second_within = omega arith;
      master = omega arith;
      slave = omega arith;
      byte_within = λ i. omega (arith, b.byte i, b.took i);
      byte = λ i. omega (arith, b.byte i);
      attempts = λ i. omega (arith, b.byte i);
      size = size_told r b;
      size_most = omega (arith, sized r, bit_le (ltb 1 (length r.reading.given)));
    }

pub in-range : (r : Reading) → Bounded r → Ranges r
in-range r b = record {
  bytes_least = b.bytes_one;
  bytes_most = b.bytes;
  acked_most = b.acked;
  unacked_most = b.unacked;
  attempts_least = b.took_one;
  attempts_most = b.took;
}

-- The record of a frame: what its writing comes to, and that its entry stands for the next frame.
use mathlib.Core.Bool.{Bool, true, false}
use mathlib.Core.Path.{◌≡◌, refl, sym, ap, ap₂, ◌∙◌}
use mathlib.Core.List.{List, [], ◌∷◌, ◌++◌, map}
use Prim.Native.Nat.{ℕ, ◌+◌, ◌<◌, ◌≤◌}
use native.Mathlib.Omega.{arith}
use lib.Dec.{ltb}
use lib.ListN.{drop, length, length-append, length-map, take}
use lib.Seq.{take_at}
use Rattle.line.specs.Choice.{pick}
use Rattle.logs.proofs.Readings.{Bounded, reading_bounded, record_fits}
use Rattle.logs.specs.Fields.{Field, given_in, header, nak_at, value_in}
use Rattle.logs.specs.Frames.{Low}
use Rattle.logs.specs.Readings.{Reading, bit_in, control_in, data_of, length_of, master_in, read_of, slave_in}
use Rattle.logs.specs.Records.{Record, again_after, byte_word, first_word, record_words, words_behind}
use Rattle.std.proofs.Common.{Option, None, Some}
use Rattle.reader.proofs.Endings.{numbered}
use Rattle.reader.proofs.Entries.{entries_alike}
use Rattle.reader.proofs.Parts.{part}
use Rattle.reader.proofs.Pasting.{paste_before, paste_behind, paste_front, paste_length, paste_there}
use Rattle.reader.specs.declared.entry.Entry.{Entry}
use Rattle.reader.specs.declared.head.Front.{Front}
use Rattle.reader.specs.declared.head.Head.{Head}
use Rattle.reader.specs.declared.text.Body.{Body}
use Rattle.reader.specs.Endings.{ending_number}
use Rattle.reader.specs.Entries.{EndsBy, Stands, acked_in, alike_entries, bytes_from, said_of}
use Rattle.reader.specs.Heads.{Values, head_of}
use Rattle.reader.specs.Records.{RecordPut, StandsBefore, entry_with, first_with, front_of, front_words}
use Rattle.reader.specs.Texts.{Wrote, body_of, pasted}

-- the record of a frame of these levels, with its mark
abbrev pub record_of : Bool → List ℕ → Bool → Record
record_of long levels again = record { again = again; reading = read_of long levels }

-- the words of its bytes
abbrev byte_words : Bool → List ℕ → List ℕ
byte_words long levels = map byte_word (read_of long levels).text.acked

-- and the entry of such a frame whose bytes stand at a place
abbrev entry_in : Bool → List ℕ → ℕ → Entry
entry_in long levels bytes = entry_with (head_of levels) (body_of (read_of long levels).text) bytes

front_length : (front : Front) (first : ℕ) → length (front_of front first) ≡ front_words front.given
front_length front first = by (ltb front.given 2)
  where
    by : (few : Bool) → length (first ∷ pick few [] (front.addresses ∷ [])) ≡ pick few 1 2
    by true = refl
    by false = refl

pub front_two_most : (given : ℕ) → front_words given ≤ 2
front_two_most given = by (ltb given 2)
  where
    by : (few : Bool) → pick few 1 2 ≤ 2
    by true = omega arith
    by false = omega arith

-- ---- the bytes of the records, beside a piece that is written

-- bytes that end before a piece
kept_before : (records piece : List ℕ) (at place count : ℕ) → place + count ≤ at → at + length piece ≤ length records
    → bytes_from (pasted records at piece) place count ≡ bytes_from records place count
kept_before records piece at place count ahead room =
    let long = paste_length records piece at room in
    part (pasted records at piece) place count (omega arith)
    ∙ ap (drop place) (paste_before records piece at (place + count) ahead (omega arith))
    ∙ sym (part records place count (omega arith))

-- bytes that begin at the end of a piece
kept_behind : (records piece : List ℕ) (at count : ℕ) → at ≤ length records
    → bytes_from (pasted records at piece) (at + length piece) count ≡ bytes_from records (at + length piece) count
kept_behind records piece at count inside =
    ap (take count) (paste_behind records piece at inside)

-- ---- put_record

given_few : (fs : List Field) (levels : List ℕ) → length (given_in fs levels) ≤ length fs
unfolding given_in
given_few [] levels = omega arith
given_few (f ∷ fs) levels = by (ltb (length levels) f.end) (nak_at levels f) (given_few fs levels)
  where
    by : (short nak : Bool) → length (given_in fs levels) ≤ length fs
        → length (pick short [] (value_in levels f ∷ pick nak [] (given_in fs levels))) ≤ length (f ∷ fs)
    by true nak few = omega arith
    by false true few = omega arith
    by false false few = omega arith

-- the words of a record: those before the bytes, and the bytes
record-words : (long : Bool) (levels : List ℕ) (again : Bool) (bytes : ℕ)
    → record_words (record_of long levels again)
    ≡ front_of (entry_in long levels bytes).front (first_word (record_of long levels again)) ++ byte_words long levels
unfolding record_words words_behind read_of head_of
record-words long levels again bytes = refl

words_counted : (long : Bool) (levels : List ℕ) (again : Bool)
    → length (record_words (record_of long levels again))
    ≡ front_words (head_of levels).front.given + length (read_of long levels).text.acked
words_counted long levels again =
    let first = first_word (record_of long levels again) in
    let front = front_of (entry_in long levels 0).front first in
    let all = ap length (record-words long levels again 0) ∙ length-append front (byte_words long levels) in
    let bytes = length-map (read_of long levels).text.acked byte_word in
    omega (arith, all, bytes, front_length (entry_in long levels 0).front first)

-- the words before the bytes have their slots
pub front_most : (levels : List ℕ) {head : Head} → head ≡ head_of levels → front_words head.front.given ≤ 1 + length levels
front_most levels {head} is =
    rw is (omega (arith, words_counted false levels false, record_fits false levels false))

-- a record is being put from a place on: its bytes are written, behind room for the words that stand before them
pub record Putting (long : Bool) (levels : List ℕ) (at : ℕ) (before : List ℕ) (head : Head) (front : ℕ) (body : Body)
    (middle : List ℕ) : Type 0 where
  pub low : Low levels
  pub room : at + 1 + length levels ≤ length before
  pub is_head : head ≡ head_of levels
  pub is_front : front ≡ front_words head.front.given
  pub wrote : Wrote (data_of long (given_in header levels) levels) (at + front) before body middle

module _ {long : Bool} {levels : List ℕ} {at : ℕ} {before : List ℕ} {head : Head} {front : ℕ} {body : Body}
    {middle : List ℕ} (p : Putting long levels at before head front body middle) where
  -- the bytes' words, as they were written
  written : Wrote (read_of long levels).text (at + front) before body middle
  unfolding read_of
  written = p.wrote

  count : body.acked ≡ length (read_of long levels).text.acked
  count = ap (λ (b : Body). b.acked) written.told

  words_long : length (byte_words long levels) ≡ body.acked
  words_long = length-map (read_of long levels).text.acked byte_word ∙ sym count

  abbrev entry : Entry
  entry = entry_with head body (at + front)

  entry_is : entry ≡ entry_in long levels (at + front)
  entry_is = ap₂ (λ (h : Head) (b : Body). entry_with h b (at + front)) p.is_head written.told

  bounded : Bounded (read_of long levels)
  bounded = reading_bounded long levels p.low

  values : Values (bit_in (read_of long levels)) (master_in (read_of long levels)) (slave_in (read_of long levels))
      (control_in (read_of long levels)) (length_of (read_of long levels))
  values =
      record {
        bit_low = bounded.bit;
        master_low = bounded.master;
        slave_low = bounded.slave;
        control_low = bounded.control;
        bytes_most = bounded.bytes;
      }

  said_is : entry.front.said ≡ said_of (read_of long levels)
  unfolding read_of head_of
  said_is = ap (λ (e : Entry). e.front.said) entry_is

  pub said_fits : head.front.said < 0x8_0000
  unfolding read_of head_of
  said_fits = rw p.is_head (omega (arith, bounded.bit, bounded.control, bounded.bytes))

  pub few : (body.acked ≤ 32) × (body.unacked ≤ 32)
  few = (omega (arith, count, bounded.acked), rw written.told bounded.unacked)

  acked_is : acked_in entry ≡ body.acked
  acked_is = omega (arith, said_fits, few.0)

  front_long : (first : ℕ) → at + length (front_of entry.front first) ≡ at + front
  front_long first = ap (λ (n : ℕ). at + n) (front_length entry.front first ∙ sym p.is_front)

  record_ends : (again : Bool)
      → at + front + acked_in entry ≡ at + length (record_words (record_of long levels again))
  record_ends again =
      let same : front ≡ front_words (head_of levels).front.given =
      p.is_front ∙ ap (λ (h : Head). front_words h.front.given) p.is_head in
      omega (arith, words_counted long levels again, count, same, acked_is)

  record_room : at + front + body.acked ≤ length before
  record_room = omega (arith, record_ends false, record_fits long levels false, p.room, acked_is)

  words_room : at + front + length (byte_words long levels) ≤ length before
  words_room = omega (arith, record_room, words_long)

  middle_long : length middle ≡ length before
  middle_long = ap length written.written ∙ paste_length before (byte_words long levels) (at + front) words_room

  pub first_fits : entry.front.said < 0x8000_0000
  first_fits = omega (arith, said_fits, few.0, few.1)

  pub front_fits : at + front_words head.front.given ≤ length middle
  front_fits = omega (arith, record_room, middle_long, p.is_front)

  bytes_there : bytes_from middle (at + front) body.acked ≡ byte_words long levels
  bytes_there =
      let words = byte_words long levels in
      let place = at + front in
      ap (λ (l : List ℕ). bytes_from l place body.acked) written.written
      ∙ ap (take body.acked) (paste_there before words place (omega (arith, words_room)))
      ∙ take_at words (drop (place + length words) before) body.acked words_long

  pub stands_middle : Stands (read_of long levels) entry middle
  unfolding read_of head_of
  stands_middle =
      record {
        given = ap (λ (e : Entry). e.front.given) entry_is;
        said = said_is;
        addresses = ap (λ (e : Entry). e.front.addresses) entry_is;
        few = given_few header levels;
        values = values;
        acked_most = bounded.acked;
        bytes_low = bounded.byte;
        bytes = rw acked_is bytes_there;
        inside = omega (arith, record_room, middle_long, acked_is);
      }

  ending_is : ending_number body.ending ≡ (read_of long levels).text.ending
  ending_is = ap (λ (b : Body). ending_number b.ending) written.told ∙ numbered _ (omega (arith, bounded.ending))

  first_is : (again : Bool) → first_with entry.front.said body.ending again ≡ first_word (record_of long levels again)
  unfolding first_word
  first_is again = rw (said_is, ending_is) (omega arith)

  module _ {first : ℕ} (again : Bool) {after : List ℕ}
      (is-first : first ≡ first_with entry.front.said body.ending again)
      (put : after ≡ pasted middle at (front_of entry.front first)) where
    record_written : after ≡ pasted before at (record_words (record_of long levels again))
    record_written =
        let words = byte_words long levels in
        let piece = front_of entry.front first in
        let ends = front_long first in
        put
        ∙ ap (λ (m : List ℕ). pasted m at piece) (written.written ∙ ap (λ (n : ℕ). pasted before n words) (sym ends))
        ∙ paste_front before piece words at (omega (arith, words_room, ends))
        ∙ ap₂ (λ (e : Entry) (n : ℕ). pasted before at (front_of e.front n ++ words)) entry_is
        (is-first ∙ first_is again)
        ∙ ap (pasted before at) (sym (record-words long levels again (at + front)))

    stands_after : Stands (read_of long levels) entry after
    stands_after =
        let piece = front_of entry.front first in
        let ends = front_long first in
        let inside : at + length piece ≤ length middle = omega (arith, front_fits, front_length entry.front first) in
        let kept : bytes_from (pasted middle at piece) (at + front) (acked_in entry)
        ≡ bytes_from middle (at + front) (acked_in entry)
        = rw (← ends) (kept_behind middle piece at (acked_in entry) (omega arith)) in
        record {
          given = stands_middle.given;
          said = stands_middle.said;
          addresses = stands_middle.addresses;
          few = stands_middle.few;
          values = stands_middle.values;
          acked_most = stands_middle.acked_most;
          bytes_low = stands_middle.bytes_low;
          bytes = rw put (kept ∙ stands_middle.bytes);
          inside = rw put (omega (arith, paste_length middle piece at inside, stands_middle.inside));
        }

  -- the frame before has its entry in the middle, too
  stands_kept : {r : Reading} {old : Entry} → old.bytes + acked_in old ≤ at → Stands r old before → Stands r old middle
  stands_kept {r} {old} ahead s =
      record {
        given = s.given;
        said = s.said;
        addresses = s.addresses;
        few = s.few;
        values = s.values;
        acked_most = s.acked_most;
        bytes_low = s.bytes_low;
        bytes =
            ap (λ (l : List ℕ). bytes_from l old.bytes (acked_in old)) written.written
            ∙ kept_before before (byte_words long levels) (at + front) old.bytes (acked_in old) (omega arith)
            words_room
            ∙ s.bytes;
        inside = omega (arith, s.inside, middle_long);
      }

  again_is : (b : Option Reading) (old : Option Entry) → EndsBy old at → StandsBefore b old before
      → alike_entries middle old entry ≡ again_after b (read_of long levels)
  unfolding alike_entries
  again_is None None ahead stood = refl
  again_is None (Some old) ahead stood = absurd stood
  again_is (Some r) None ahead stood = absurd stood
  again_is (Some r) (Some old) ahead stood = entries_alike (stands_kept ahead stood) stands_middle

  -- the frame before and this one have their bytes in the middle
  pub ends_middle : (old : Option Entry) → EndsBy old at
      → EndsBy old (length middle) × EndsBy (Some entry) (length middle)
  ends_middle None ahead = (tt, stands_middle.inside)
  ends_middle (Some old) ahead = (omega (arith, front_fits), stands_middle.inside)

  pub record_put : {kept : Entry} → kept ≡ entry → (old : Option Entry) (again : Bool) → EndsBy old at
      → again ≡ alike_entries middle old kept
      → {first : ℕ} {after : List ℕ} → first ≡ first_with kept.front.said body.ending again
      → after ≡ pasted middle at (front_of kept.front first)
      → RecordPut long levels at old before kept after
  record_put {kept} is-entry old again ahead is {first} {after} is-first put =
      let marked = rw is-entry at is-first in
      let front = rw is-entry at put in
      rw is-entry
      (record {
        written = λ b stood.
            record_written again marked front
            ∙ ap (λ (mark : Bool). pasted before at (record_words (record_of long levels mark)))
            (is ∙ ap (alike_entries middle old) is-entry ∙ again_is b old ahead stood);
        stands = stands_after again marked front;
        ends = record_ends;
      })

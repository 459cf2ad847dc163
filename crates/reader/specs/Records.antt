-- The record of a frame as the code writes it.
use Rattle.std.specs.Prelude.{Bool, ◌≡◌, List, [], ◌∷◌, ℕ, ◌+◌, ◌*◌, Option, None, Some, ltb, length}
use Rattle.line.specs.Choice.{bit_of, pick}
use Rattle.logs.specs.Readings.{Reading, read_of}
use Rattle.logs.specs.Records.{again_after, record_words}
use Rattle.reader.specs.declared.ending.Ending.{Ending}
use Rattle.reader.specs.declared.entry.Entry.{Entry}
use Rattle.reader.specs.declared.head.Front.{Front}
use Rattle.reader.specs.declared.head.Head.{Head}
use Rattle.reader.specs.declared.text.Body.{Body}
use Rattle.reader.specs.Endings.{ending_number}
use Rattle.reader.specs.Entries.{Stands, acked_in}
use Rattle.reader.specs.Texts.{pasted}

-- the entry of a frame with a header and data
abbrev pub entry_with : Head → Body → ℕ → Entry
entry_with head body bytes =
    record {
      front = record {
        given = head.front.given;
        said = head.front.said + body.acked * 0x8_0000 + body.unacked * 0x200_0000;
        addresses = head.front.addresses;
      };
      bytes = bytes;
    }

abbrev pub first_with : ℕ → Ending → Bool → ℕ
first_with said ending again = ending_number ending + bit_of again * 0x10 + said

-- how many words stand before the bytes, and which
abbrev pub front_words : ℕ → ℕ
front_words given = pick (ltb given 2) 1 2

abbrev pub front_of : Front → ℕ → List ℕ
front_of front first = first ∷ pick (ltb front.given 2) [] (front.addresses ∷ [])

-- the frame before has its entry, or there is neither
abbrev pub StandsBefore : Option Reading → Option Entry → List ℕ → Type 0
StandsBefore None None records = Unit {0}
StandsBefore None (Some entry) records = ⊥
StandsBefore (Some r) None records = ⊥
StandsBefore (Some r) (Some entry) records = Stands r entry records

-- the record of a frame is written from a place on, and its entry stands for the next frame
pub record RecordPut (long : Bool) (levels : List ℕ) (at : ℕ) (old : Option Entry) (before : List ℕ)
    (entry : Entry) (after : List ℕ) : Type 0 where
  pub written : (b : Option Reading) → StandsBefore b old before
      → after
      ≡ pasted before at
      (record_words (record { again = again_after b (read_of long levels); reading = read_of long levels }))
  pub stands : Stands (read_of long levels) entry after
  pub ends : (again : Bool)
      → entry.bytes + acked_in entry
      ≡ at + length (record_words (record { again = again; reading = read_of long levels }))

-- What the reader keeps of a frame whose bytes it has written.
use Rattle.std.specs.Prelude.{Bool, false, ◌&&◌, ◌≡◌, List, map, ℕ, ◌+◌, ◌*◌, ◌/◌, ◌%◌, ◌<◌, ◌≤◌, Option, None, Some, eqb, drop, get_or, length, take}
use Rattle.std.specs.Str.{bytes_eq}
use Rattle.logs.specs.Data.{no_byte}
use Rattle.logs.specs.Readings.{Reading, bit_in, control_in, length_of, master_in, slave_in}
use Rattle.logs.specs.Records.{byte_word, second_word}
use Rattle.reader.specs.declared.entry.Entry.{Entry}
use Rattle.reader.specs.declared.head.Front.{Front}
use Rattle.reader.specs.Heads.{Values}

-- how many bytes were ACKed
abbrev pub acked_in : Entry → ℕ
acked_in entry = entry.front.said / 0x8_0000 % 0x40

-- so many words from a place of the records on, each a byte with its attempts
abbrev pub bytes_from : List ℕ → ℕ → ℕ → List ℕ
bytes_from records place count = take count (drop place records)

-- the bytes of an entry, if there is one, end up to a place
abbrev pub EndsBy : Option Entry → ℕ → Type 0
EndsBy None at = Unit {0}
EndsBy (Some entry) at = entry.bytes + acked_in entry ≤ at

-- whether two frames have the same fields given, with equal values, as many bytes, and as many attempts after them
abbrev pub alike_fronts : Front → Front → Bool
alike_fronts a b = eqb a.given b.given && (eqb a.said b.said && eqb a.addresses b.addresses)

-- whether the frame before is there and says the same
unfoldable pub alike_entries : List ℕ → Option Entry → Entry → Bool
alike_entries records None b = false
alike_entries records (Some a) b =
    alike_fronts a.front b.front
    && bytes_eq (bytes_from records a.bytes (acked_in a)) (bytes_from records b.bytes (acked_in b))

-- what a first word says of a frame, save its ending and its mark
abbrev pub said_of : Reading → ℕ
said_of r =
    bit_in r * 0x20 + control_in r * 0x40 + length_of r * 0x400 + length r.text.acked * 0x8_0000
    + r.text.unacked * 0x200_0000

-- an entry is that of a frame whose bytes stand in the records
pub record Stands (r : Reading) (entry : Entry) (records : List ℕ) : Type 0 where
  pub given : entry.front.given ≡ length r.given
  pub said : entry.front.said ≡ said_of r
  pub addresses : entry.front.addresses ≡ second_word r
  pub few : length r.given ≤ 5
  pub values : Values (bit_in r) (master_in r) (slave_in r) (control_in r) (length_of r)
  pub acked_most : length r.text.acked ≤ 32
  pub bytes_low : (i : ℕ) → (get_or r.text.acked i no_byte).byte < 0x100
  pub bytes : bytes_from records entry.bytes (acked_in entry) ≡ map byte_word r.text.acked
  pub inside : entry.bytes + acked_in entry ≤ length records

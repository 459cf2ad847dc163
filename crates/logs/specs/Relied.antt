-- What a user relies on, of every log: laws of the definitions before, told in the words of tickets 1 and 11 and by
-- document 01's order of slots, so that a definition that says something else is refused. Bits, fields and levels are
-- defined here again: what the laws speak of is then in one file, which is what a fingerprint takes in.
use Rattle.std.specs.Prelude.{Bool, true, false, ◌&&◌, ◌||◌, ◌≡◌, List, [], ◌∷◌, ◌++◌, map, ℕ, zero, suc, ◌+◌, ◌*◌, ◌/◌, ◌%◌, ◌^◌, ◌<◌, ◌≤◌, Ok, Err, Option, None, Some, min, eqb, ltb, drop, get_or, length, take}
use Rattle.line.specs.Choice.{bit_of, pick}
use Rattle.line.specs.Numbers.{end_broken_bit, end_broken_control, end_broken_data, end_broken_length, end_broken_master}
use Rattle.line.specs.Numbers.{end_broken_slave, end_nak_control, end_nak_length, end_nak_slave, end_short, end_whole, slot_start}
use Rattle.line.specs.Parity.{parity_holds}
use Rattle.logs.specs.declared.LogError.TheVariants.{ShortList, NoSlot}
use Rattle.logs.specs.Frames.{frames_of, levels_from}
use Rattle.logs.specs.Data.{Acked, byte_in, counts, no_byte}
use Rattle.logs.specs.Log.{end_of}
use Rattle.logs.specs.Readings.{Reading, equal_said, read_of}
use Rattle.logs.specs.Records.{Record, again_after, byte_word, first_word, records_by}
use Rattle.logs.specs.Records.{records_of, record_words, second_word, words_of}

-- how many words of a list are starts
unfoldable pub starts_in : List ℕ → ℕ
starts_in [] = 0
starts_in (w ∷ ws) = bit_of (eqb w slot_start) + starts_in ws

-- records with the mark of the first one changed
unfoldable pub remarked : Bool → List Record → List Record
remarked again [] = []
remarked again (r ∷ rs) = record { again = again; reading = r.reading } ∷ rs

-- the frame before what follows some frames
unfoldable pub last_frame : List Reading → Option Reading
last_frame [] = None
last_frame (r ∷ []) = Some r
last_frame (r ∷ s ∷ rs) = last_frame (s ∷ rs)

-- "From a start word on, the reader gives what it gives on a fresh list, save the mark of the first frame there."
abbrev pub Fresh : Bool → Type 0
Fresh long =
    (earlier later : List ℕ) → records_of long (earlier ++ slot_start ∷ later)
    ≡ records_of long earlier
    ++ remarked (again_after (last_frame (map (read_of long) (frames_of earlier))) (read_of long (levels_from later)))
    (records_of long (slot_start ∷ later))

-- ticket 1: "the same fields are given in it as in the frame before, and they and the ACKed bytes are equal"
pub record SaysSame (before r : Reading) : Type 0 where
  pub fields : length r.given ≡ length before.given
  pub values : (i : ℕ) → get_or r.given i 0 ≡ get_or before.given i 0
  pub as_many : length r.text.acked ≡ length before.text.acked
  pub bytes : (i : ℕ) → (get_or r.text.acked i no_byte).byte ≡ (get_or before.text.acked i no_byte).byte

-- ticket 11: "the numbers of complete attempts up to each ACKed byte, from the one before, and after the last (or in
-- all, where there is none) are equal as well"
pub record TookSame (before r : Reading) : Type 0 where
  pub each : (i : ℕ) → (get_or r.text.acked i no_byte).attempts ≡ (get_or before.text.acked i no_byte).attempts
  pub after : r.text.unacked ≡ before.text.unacked

-- what "again" means
pub record SaysAgain (before r : Reading) : Type 0 where
  pub said : SaysSame before r
  pub took : TookSame before r

-- a mark is set exactly if something holds
pub record Exactly (mark : Bool) (Holds : Type 0) : Type 0 where
  pub only : mark ≡ true → Holds
  pub always : Holds → mark ≡ true

-- the mark at a place of some records, none past the last, and the frame there in a list of slots
abbrev pub mark_at : List Record → ℕ → Bool
mark_at records i = get_or (map (λ (r : Record). r.again) records) i false

abbrev pub frame_at : Bool → List ℕ → ℕ → Reading
frame_at long slots i = read_of long (get_or (frames_of slots) i [])

-- a list's records beside those that ticket 1 gave it: the same frames, with old marks that say what ticket 1 says
pub record Narrower (long : Bool) (slots : List ℕ) : Type 0 where
  pub readings : map (λ (r : Record). r.reading) (records_of long slots)
      ≡ map (λ (r : Record). r.reading) (records_by equal_said long slots)
  pub old_first : mark_at (records_by equal_said long slots) 0 ≡ false
  pub old_again : (i : ℕ) → suc i < starts_in slots
      → Exactly (mark_at (records_by equal_said long slots) (suc i))
      (SaysSame (frame_at long slots i) (frame_at long slots (suc i)))
  -- "Each mark given under the new meaning was given under the old, and one is lost only where these numbers differ"
  pub none_new : (i : ℕ) → mark_at (records_of long slots) i ≡ true → mark_at (records_by equal_said long slots) i ≡ true
  pub lost : (i : ℕ) → mark_at (records_by equal_said long slots) (suc i) ≡ true
      → mark_at (records_of long slots) (suc i) ≡ false
      → TookSame (frame_at long slots i) (frame_at long slots (suc i)) → ⊥

-- a field of a frame: broadcast bit, master address, slave address, control, length; "else it is 0"
abbrev pub field_in : ℕ → Reading → ℕ
field_in i r = get_or r.given i 0

-- how many fields are given, of a frame that ended so
unfoldable pub fields_at : ℕ → ℕ
fields_at ending = get_or (5 ∷ 5 ∷ 3 ∷ 4 ∷ 5 ∷ 0 ∷ 1 ∷ 2 ∷ 3 ∷ 4 ∷ 5 ∷ []) ending 0

-- "length (1 to 256)", where it is given; how many bytes and attempts there can be; an ACKed byte took one at least
pub record Ranges (r : Reading) : Type 0 where
  pub bytes_least : length r.given ≡ 5 → 1 ≤ field_in 4 r
  pub bytes_most : field_in 4 r ≤ 256
  pub acked_most : length r.text.acked ≤ 32
  pub unacked_most : r.text.unacked ≤ 32
  pub attempts_least : (i : ℕ) → i < length r.text.acked → 1 ≤ (get_or r.text.acked i no_byte).attempts
  pub attempts_most : (i : ℕ) → (get_or r.text.acked i no_byte).attempts ≤ 32

-- how many words a record has, by its first one: a second where two fields are given, and one for each byte
unfoldable pub size_by : ℕ → ℕ
size_by first = 1 + bit_of (ltb 1 (fields_at (first % 0x10))) + first / 0x8_0000 % 0x40

-- a record taken apart: which words it has, in which order, what each bit field of them says, and that they have no
-- other bits
pub record TakenApart (r : Record) : Type 0 where
  pub words : record_words r
      ≡ first_word r ∷ pick (ltb (length r.reading.given) 2) [] (second_word r.reading ∷ [])
      ++ map byte_word r.reading.text.acked
  pub first_within : first_word r < 0x8000_0000
  pub ending : first_word r % 0x10 ≡ r.reading.text.ending
  pub again : first_word r / 0x10 % 2 ≡ bit_of r.again
  pub bit : first_word r / 0x20 % 2 ≡ field_in 0 r.reading
  pub control : first_word r / 0x40 % 0x10 ≡ field_in 3 r.reading
  pub bytes : first_word r / 0x400 % 0x200 ≡ field_in 4 r.reading
  pub acked : first_word r / 0x8_0000 % 0x40 ≡ length r.reading.text.acked
  pub unacked : first_word r / 0x200_0000 ≡ r.reading.text.unacked
  pub second_within : second_word r.reading < 0x100_0000
  pub master : second_word r.reading % 0x1000 ≡ field_in 1 r.reading
  pub slave : second_word r.reading / 0x1000 ≡ field_in 2 r.reading
  pub byte_within : (i : ℕ) → byte_word (get_or r.reading.text.acked i no_byte) < 0x4000
  pub byte : (i : ℕ) → byte_word (get_or r.reading.text.acked i no_byte) % 0x100
      ≡ (get_or r.reading.text.acked i no_byte).byte
  pub attempts : (i : ℕ) → byte_word (get_or r.reading.text.acked i no_byte) / 0x100
      ≡ (get_or r.reading.text.acked i no_byte).attempts
  pub size : length (record_words r) ≡ size_by (first_word r)
  pub size_most : length (record_words r) ≤ 34

-- ---- the header of a frame once more, by document 01's order of its slots and not by a table of fields

-- the levels of a number on the line, "highest bit first"
unfoldable pub bits_of : ℕ → ℕ → List ℕ
bits_of zero n = []
bits_of (suc bits) n = n / 2 ^ bits % 2 ∷ bits_of bits n

-- a header as it stands there behind its start, with any P and A
abbrev pub header_of : (bit master slave control byte : ℕ) (p a : ℕ → ℕ) → List ℕ
header_of bit master slave control byte p a =
    bit ∷ bits_of 12 master ++ p 1 ∷ bits_of 12 slave ++ p 2 ∷ a 2 ∷ bits_of 4 control ++ p 3 ∷ a 3
    ∷ bits_of 8 byte ++ p 4 ∷ a 4 ∷ []

-- what its fields say; "length 00H means 256"
abbrev pub fields_of : (bit master slave control byte : ℕ) → List ℕ
fields_of bit master slave control byte = bit ∷ master ∷ slave ∷ control ∷ pick (eqb byte 0) 256 byte ∷ []

-- what is given of a frame is the first of such fields, as many as its ending says
pub record Gives (fields : List ℕ) (r : Reading) : Type 0 where
  pub first : r.given ≡ take (fields_at r.text.ending) fields

-- the A at such a place is there and 1, in a frame to one slave
abbrev pub nak_in : List ℕ → ℕ → Bool
nak_in levels place = eqb (get_or levels 0 0) 1 && eqb (get_or levels place 0) 1

-- how a header ends: by its first NAK, else by how many levels there are
unfoldable pub header_end : List ℕ → ℕ
header_end levels =
    pick (nak_in levels 27) end_nak_slave
    (pick (nak_in levels 33) end_nak_control
    (pick (nak_in levels 43) end_nak_length
    (pick (ltb (length levels) 1) end_broken_bit
    (pick (ltb (length levels) 14) end_broken_master
    (pick (ltb (length levels) 28) end_broken_slave
    (pick (ltb (length levels) 34) end_broken_control
    (pick (ltb (length levels) 44) end_broken_length end_broken_data)))))))

-- a frame that ended so has no data
pub record HeaderSays (ending : ℕ) (r : Reading) : Type 0 where
  pub ended : r.text.ending ≡ ending
  pub acked : r.text.acked ≡ []
  pub unacked : r.text.unacked ≡ 0

-- ---- the data of a frame once more, by its complete attempts and not by what is left of it

-- an attempt as it stands on the line, with any P and A: the byte, and whether it counts as ACKed
pub record AttemptSays (byte p a : ℕ) (levels : List ℕ) : Type 0 where
  pub said : byte_in levels ≡ byte
  pub by_answer : counts false levels ≡ eqb a 0
  pub by_parity : counts true levels ≡ parity_holds byte (eqb p 1)

-- the first so many complete attempts, ten slots each, as the levels from their places on
unfoldable pub attempts_in : ℕ → List ℕ → List (List ℕ)
attempts_in zero levels = []
attempts_in (suc n) levels =
    pick (ltb (length levels) 10) [] (levels ∷ attempts_in n (drop 10 levels))

-- the bytes of those that count
unfoldable pub counted_in : Bool → List (List ℕ) → List ℕ
counted_in broadcast [] = []
counted_in broadcast (a ∷ more) =
    pick (counts broadcast a) (byte_in a ∷ counted_in broadcast more) (counted_in broadcast more)

-- their numbers among the attempts, where the first has this one
unfoldable pub numbers_in : ℕ → Bool → List (List ℕ) → List ℕ
numbers_in n broadcast [] = []
numbers_in n broadcast (a ∷ more) =
    pick (counts broadcast a) (n ∷ numbers_in (n + 1) broadcast more) (numbers_in (n + 1) broadcast more)

-- the attempts that ACKed bytes took, added up from the first one on, behind so many; and all of them
unfoldable pub sums_from : ℕ → List Acked → List ℕ
sums_from n [] = []
sums_from n (a ∷ more) = (n + a.attempts) ∷ sums_from (n + a.attempts) more

unfoldable pub sum_of : List Acked → ℕ
sum_of [] = 0
sum_of (a ∷ more) = a.attempts + sum_of more

-- how many attempts a frame may make, "at most 16 (mode 0) or 32 (mode 1)", and those of them that are there
abbrev pub limit_of : Bool → ℕ
limit_of long = pick long 32 16

abbrev pub most_of : Bool → Reading → ℕ
most_of long r = pick (eqb (field_in 0 r) 0) (min (field_in 4 r) (limit_of long)) (limit_of long)

abbrev pub made_of : Bool → Reading → List ℕ → List (List ℕ)
made_of long r levels = attempts_in (most_of long r) levels

-- a frame stops after a complete attempt: it may make no more, or no slot is left behind the last one, which there is
abbrev pub stops : ℕ → ℕ → ℕ → Bool
stops most made slots = eqb made most || (ltb 0 made && eqb slots (made * 10))

-- of a frame with such levels behind its header: ACKed are the first bytes that count, as many as its length says; the
-- attempts of each are counted from the one before it on, and the others made come after the last; the frame is whole
-- if its bytes are all there, else short if it stops after a complete attempt, else broken off
pub record DataSays (long : Bool) (levels : List ℕ) (r : Reading) : Type 0 where
  pub acked : map (λ (a : Acked). a.byte) r.text.acked
      ≡ take (field_in 4 r) (counted_in (eqb (field_in 0 r) 0) (made_of long r levels))
  pub took : sums_from 0 r.text.acked
      ≡ take (field_in 4 r) (numbers_in 1 (eqb (field_in 0 r) 0) (made_of long r levels))
  pub unacked : sum_of r.text.acked + r.text.unacked
      ≡ pick (eqb (length r.text.acked) (field_in 4 r)) (sum_of r.text.acked) (length (made_of long r levels))
  pub ending : r.text.ending
      ≡ pick (eqb (length r.text.acked) (field_in 4 r)) end_whole
      (pick (stops (most_of long r) (length (made_of long r levels)) (length levels)) end_short end_broken_data)

-- every word of a list is a level
abbrev pub Levels : List ℕ → Type 0
Levels slots = (i : ℕ) → get_or slots i 0 < 2

-- what a user relies on, of every list
pub record Relied (long : Bool) : Type 0 where
  -- "12, ahead of it, a lent answer list shorter than the slot list"; "16, a word that is no slot word", wherever it
  -- stands; else every frame is read
  pub short_list : (room : ℕ) (slots : List ℕ) → room < length slots → end_of room slots ≡ Err ShortList
  pub no_slot : (room : ℕ) (slots : List ℕ) (i : ℕ) → length slots ≤ room → 3 < get_or slots i 0
      → end_of room slots ≡ Err NoSlot
  pub all_slots : (room : ℕ) (slots : List ℕ) → length slots ≤ room → ((i : ℕ) → get_or slots i 0 ≤ 3)
      → end_of room slots ≡ Ok (starts_in slots)
  -- a frame's levels go on up to the next start or idle; "the list's end breaks a frame off as idle does"
  pub levels_end : (levels : List ℕ) (w : ℕ) (later : List ℕ) → Levels levels → 2 ≤ w
      → levels_from (levels ++ w ∷ later) ≡ levels
  pub list_end : (levels : List ℕ) → Levels levels → levels_from levels ≡ levels
  -- a start begins one, wherever it stands, and nothing else does
  pub begins : (earlier later : List ℕ)
      → frames_of (earlier ++ slot_start ∷ later) ≡ frames_of earlier ++ levels_from later ∷ frames_of later
  pub counted : (slots : List ℕ) → length (frames_of slots) ≡ starts_in slots
  -- "in order, one record for each": that of the frame at its place
  pub one_each : (slots : List ℕ) → length (records_of long slots) ≡ starts_in slots
  pub in_order : (slots : List ℕ) (done : List Record) (r : Record) (rs : List Record)
      → records_of long slots ≡ done ++ r ∷ rs → r.reading ≡ read_of long (get_or (frames_of slots) (length done) [])
  pub fresh : Fresh long
  -- the marks
  pub first : (slots : List ℕ) (r : Record) (rs : List Record) → records_of long slots ≡ r ∷ rs → r.again ≡ false
  pub again : (slots : List ℕ) (done : List Record) (before r : Record) (rs : List Record)
      → records_of long slots ≡ done ++ before ∷ r ∷ rs
      → Exactly r.again (SaysAgain before.reading r.reading)
  pub narrower : (slots : List ℕ) → Narrower long slots
  -- the fields given say what was sent, whatever P and A are; of a frame that is cut, what the longer one says
  pub sent : (bit master slave control byte : ℕ) (p a : ℕ → ℕ) (more : List ℕ) → master < 0x1000 → slave < 0x1000
      → control < 0x10 → byte < 0x100
      → Gives (fields_of bit master slave control byte)
      (read_of long (header_of bit master slave control byte p a ++ more))
  pub cut : (levels more : List ℕ) → Gives (read_of long (levels ++ more)).given (read_of long levels)
  pub attempt : (byte p a : ℕ) (more : List ℕ) → byte < 0x100
      → AttemptSays byte p a (bits_of 8 byte ++ p ∷ a ∷ more)
  -- of a frame that ended in its header, and of any other
  pub header_says : (levels : List ℕ) → header_end levels < end_broken_data
      → HeaderSays (header_end levels) (read_of long levels)
  pub data_says : (levels : List ℕ) → header_end levels ≡ end_broken_data
      → DataSays long (drop 44 levels) (read_of long levels)
  pub fields : (slots : List ℕ) (done : List Record) (r : Record) (rs : List Record)
      → records_of long slots ≡ done ++ r ∷ rs → length r.reading.given ≡ fields_at r.reading.text.ending
  pub ranges : (slots : List ℕ) (done : List Record) (r : Record) (rs : List Record)
      → records_of long slots ≡ done ++ r ∷ rs → Ranges r.reading
  -- its words, those of the records one behind the other, and that n words hold the records of n slots
  pub apart : (slots : List ℕ) (done : List Record) (r : Record) (rs : List Record)
      → records_of long slots ≡ done ++ r ∷ rs → TakenApart r
  pub behind : (r : Record) (rs : List Record) → words_of (r ∷ rs) ≡ record_words r ++ words_of rs
  pub fits : (slots : List ℕ) → length (words_of (records_of long slots)) ≤ length slots

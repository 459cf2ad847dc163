-- A roll as bytes that a host keeps: "101 bytes. Byte 0 the count; then 50 requests of two bytes, low byte first, each
-- bit * 4096 + address, those past the count 0"; and what each call does to them.
use Rattle.std.specs.Prelude.{Bool, not, List, [], ◌∷◌, map, ◌≡◌, ℕ, zero, suc, ◌+◌, ◌*◌, ◌/◌, ◌%◌, min, eqb, get_or, length}
use Rattle.line.specs.Choice.{pick}
use Rattle.line.specs.Numbers.{bad_size, most_contenders, refused_contender_range, refused_roll_absent, refused_roll_alike}
use Rattle.line.specs.Numbers.{refused_roll_full, roll_bytes}
use Rattle.line.specs.Places.{placed}
use Rattle.contenders.specs.Contest.{number_of, out_of_range}
use Rattle.contenders.specs.declared.Contender.{Contender}
use Rattle.rolls.specs.Roll.{Absent, Alike, BadSize, Call, Change, Done, Full, Next, Nobody, OutOfRange, Shown}
use Rattle.rolls.specs.Roll.{begin, done, join, join_end, joined, leave, leave_end, left, look, shown_of}

-- ---- The bytes of a roll

-- so many requests of two bytes, those past the last 0
unfoldable pub pairs : ℕ → List ℕ → List ℕ
pairs zero numbers = []
pairs (suc n) [] = 0 ∷ 0 ∷ pairs n []
pairs (suc n) (x ∷ xs) = x % 256 ∷ x / 256 ∷ pairs n xs

unfoldable pub bytes_of : List Contender → List ℕ
bytes_of roll = length roll ∷ pairs most_contenders (map number_of roll)

-- ---- The roll of bytes: any are some roll

-- "a count over 50 is 50"
abbrev pub count_in : List ℕ → ℕ
count_in bytes = min (get_or bytes 0 0) most_contenders

-- "a request is taken modulo 8192"
abbrev pub request_at : List ℕ → ℕ → ℕ
request_at bytes place = (get_or bytes (2 * place + 1) 0 + get_or bytes (2 * place + 2) 0 * 256) % 8192

abbrev pub requests_in : List ℕ → List ℕ
requests_in bytes = placed (request_at bytes) (count_in bytes)

abbrev pub request_in : ℕ → Contender
request_in number = record { bit = number / 4096; address = number % 4096 }

unfoldable pub roll_in : List ℕ → List Contender
roll_in bytes = map request_in (requests_in bytes)

-- a request as a host gives it, of any two numbers
abbrev pub asked : ℕ → ℕ → Contender
asked b a = record { bit = b; address = a }

-- ---- How a call over bytes ends: "14, 100, 22, 21 in this order", "14, 100, 23"

abbrev pub other_size : List ℕ → Bool
other_size bytes = not (eqb (length bytes) roll_bytes)

-- to begin a roll, or to look at it
unfoldable pub size_end_in : List ℕ → Change
size_end_in bytes = pick (other_size bytes) BadSize Done

unfoldable pub join_end_in : Contender → List ℕ → Change
join_end_in c bytes = pick (out_of_range c) OutOfRange (pick (other_size bytes) BadSize (join_end c (roll_in bytes)))

unfoldable pub leave_end_in : Contender → List ℕ → Change
leave_end_in c bytes = pick (out_of_range c) OutOfRange (pick (other_size bytes) BadSize (leave_end c (roll_in bytes)))

-- ---- The bytes afterwards: "A refusal writes nothing"

-- those of the roll that a call leaves, where it ends as r says
abbrev pub kept_of : Change → List Contender → List ℕ → List ℕ
kept_of r roll bytes = pick (done r) (bytes_of roll) bytes

abbrev pub bytes_after : List ℕ → Call → List ℕ
bytes_after bytes begin = kept_of (size_end_in bytes) [] bytes
bytes_after bytes (join c) = kept_of (join_end_in c bytes) (joined c (roll_in bytes)) bytes
bytes_after bytes (leave c) = kept_of (leave_end_in c bytes) (left c (roll_in bytes)) bytes
bytes_after bytes look = bytes

-- ---- What is given back

unfoldable pub number_for : Change → ℕ
number_for Done = 0
number_for OutOfRange = refused_contender_range
number_for BadSize = bad_size
number_for Alike = refused_roll_alike
number_for Full = refused_roll_full
number_for Absent = refused_roll_absent

-- "0 for none, 0x8000 | bit << 12 | address for the winner"
unfoldable pub word_for : Shown → ℕ
word_for Nobody = 0
word_for (Next c) = 0x8000 + c.bit * 4096 + c.address

-- .. in a number that is lent, and keeps its value where the call is refused
unfoldable pub word_after : List ℕ → ℕ → ℕ
word_after bytes word = pick (done (size_end_in bytes)) (word_for (shown_of (roll_in bytes))) word

-- ---- Calls, each on the bytes `before`, with the number r that it gives back and the bytes `after` that it leaves

pub record Begins (before : List ℕ) (r : ℕ) (after : List ℕ) : Type 0 where
  pub ends : r ≡ number_for (size_end_in before)
  pub kept : after ≡ bytes_after before begin

pub record Joins (c : Contender) (before : List ℕ) (r : ℕ) (after : List ℕ) : Type 0 where
  pub ends : r ≡ number_for (join_end_in c before)
  pub kept : after ≡ bytes_after before (join c)

pub record Leaves (c : Contender) (before : List ℕ) (r : ℕ) (after : List ℕ) : Type 0 where
  pub ends : r ≡ number_for (leave_end_in c before)
  pub kept : after ≡ bytes_after before (leave c)

-- `word` is what a host lends for who is shown, `word'` what stands there afterwards
pub record Shows (bytes : List ℕ) (word r word' : ℕ) : Type 0 where
  pub ends : r ≡ number_for (size_end_in bytes)
  pub told : word' ≡ word_after bytes word

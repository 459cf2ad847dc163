-- What private functions promise each other. The public contracts rest on none of this.
use Rattle.std.specs.Prelude.{true, false, Result, Ok, Err, MatchResult, List, ◌∷◌, ◌≡◌, ℕ, ◌+◌, ◌*◌, ◌/◌, ◌%◌, ◌≤◌, ◌<◌, eqb, leb, ltb, get_or, length, set}
use Rattle.line.specs.Choice.{bit_of, pick}
use Rattle.line.specs.Numbers.{most_contenders}
use Rattle.line.specs.Places.{first_place}
use Rattle.rolls.specs.Kept.{pairs, request_at, requests_in}
use Rattle.rolls.specs.Roll.{Absent, Alike, BadSize, Change, Done, Full, OutOfRange, without}
use Rattle.contenders.specs.Contest.{in_range, number_of}
use Rattle.contenders.specs.declared.Contender.{Contender}
use Rattle.roll_keeper.specs.declared.RollError.{RollError}
use Rattle.roll_keeper.specs.declared.RollError.TheVariants as error

-- a refusal of the code as that of a roll
abbrev pub refused_as : RollError → Change
refused_as error.OutOfRange = OutOfRange
refused_as error.Size = BadSize
refused_as error.Alike = Alike
refused_as error.Full = Full
refused_as error.Absent = Absent

-- how a call ends, done or refused
abbrev pub change_of : {A : Type 0} → Result A RollError → Change
change_of (Ok _) = Done
change_of (Err e) = refused_as e

-- a request's number, or that it is out of range
abbrev pub Asked : Contender → Result ℕ RollError → Type 0
Asked c r =
    MatchResult r (λ n. (in_range c ≡ true) × (n ≡ number_of c)) (λ e. (in_range c ≡ false) × (e ≡ error.OutOfRange))

-- the first place of a number among some
abbrev pub number_place : ℕ → List ℕ → ℕ
number_place n numbers = first_place (λ x. eqb x n) numbers

-- the lowest of some numbers
pub record Lowest (numbers : List ℕ) (n : ℕ) : Type 0 where
  pub place : ℕ
  pub within : place < length numbers
  pub is : get_or numbers place 0 ≡ n
  pub low : (i : ℕ) → i < length numbers → n ≤ get_or numbers i 0

-- the bytes with a request written at a place
abbrev pub put_of : ℕ → ℕ → List ℕ → List ℕ
put_of place n bytes = set (set bytes (2 * place + 1) (n % 256)) (2 * place + 2) (n / 256)

-- the place at which a request stood before that at `gone` left
abbrev pub from_place : ℕ → ℕ → ℕ
from_place gone place = place + bit_of (leb gone place)

-- the request at a place then, 0 past the last of so many
abbrev pub left_at : List ℕ → ℕ → ℕ → ℕ → ℕ
left_at bytes end gone place = pick (ltb (from_place gone place) end) (request_at bytes (from_place gone place)) 0

-- the count as it was, and all requests but that at `gone`
abbrev pub written_of : ℕ → List ℕ → List ℕ
written_of gone bytes = get_or bytes 0 0 ∷ pairs most_contenders (without gone (requests_in bytes))

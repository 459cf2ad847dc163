-- A decimal number of a text, which goes up to 65,535.
use Rattle.std.specs.Option.{option_and_then}
use Rattle.std.specs.Prelude.{Bool, ◌&&◌, List, [], ◌∷◌, Option, Some, None, ℕ, ◌+◌, ◌*◌, ◌-◌, leb}
use Rattle.line.specs.Choice.{pick}

-- "up to 65,535"
abbrev pub most_number : ℕ
most_number = 0xFFFF

abbrev pub is_digit : ℕ → Bool
is_digit byte = leb 0x30 byte && leb byte 0x39

-- a number with a digit more, none where the byte is no digit or the number too great
unfoldable pub grown : ℕ → ℕ → Option ℕ
grown n byte =
    pick (is_digit byte)
    (pick (leb (n * 10 + (byte - 0x30)) most_number) (Some (n * 10 + (byte - 0x30))) None) None

unfoldable pub number_from : ℕ → List ℕ → Option ℕ
number_from n [] = Some n
number_from n (b ∷ bs) = option_and_then (λ (m : ℕ). number_from m bs) (grown n b)

-- the number that a text says, none where there is no digit
unfoldable pub number_of : List ℕ → Option ℕ
number_of [] = None
number_of (b ∷ bs) = number_from 0 (b ∷ bs)

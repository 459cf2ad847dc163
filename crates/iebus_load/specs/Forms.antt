-- A form: a text in which each @ stands for a number.
use Rattle.std.specs.Prelude.{List, [], ◌∷◌, ◌++◌, ℕ, ◌+◌, ◌/◌, ◌%◌, eqb, ltb, drop, get_or}
use Rattle.line.specs.Choice.{pick}

-- a decimal digit of a number, a blank where the number is too small to have it
abbrev pub digit_at : ℕ → ℕ → ℕ
digit_at unit n = pick (ltb n unit) 0x20 (0x30 + n / unit % 10)

-- a number in five columns
unfoldable pub column_of : ℕ → List ℕ
column_of n = digit_at 10000 n ∷ digit_at 1000 n ∷ digit_at 100 n ∷ digit_at 10 n ∷ (0x30 + n % 10) ∷ []

abbrev pub mark : ℕ
mark = 0x40

-- a byte of a form, or the number that it stands for; and how many numbers that are
abbrev pub piece_by : ℕ → ℕ → List ℕ
piece_by byte n = pick (eqb byte mark) (column_of n) (byte ∷ [])

abbrev pub count_by : ℕ → ℕ
count_by byte = pick (eqb byte mark) 1 0

-- a form with its numbers, in order; one that is missing is 0
unfoldable pub woven : List ℕ → List ℕ → List ℕ
woven [] numbers = []
woven (b ∷ bs) numbers = piece_by b (get_or numbers 0 0) ++ woven bs (drop (count_by b) numbers)

-- Document 01, "Frame": "P makes the number of ones in the field and P even." "Highest bit first."
use Rattle.std.specs.Prelude.{Bool, ◌≡◌, List, [], ◌∷◌, ◌++◌, ℕ, zero, suc, ◌+◌, ◌/◌, ◌%◌, ◌^◌, ◌<◌, eqb}
use Rattle.std.specs.Int.Count.{ones}
use Rattle.line.specs.Choice.{bit_of}

-- "count of ones of the field's number, remainder by two"
unfoldable pub parity_of : ℕ → ℕ
parity_of field = ones field % 2

-- whether the level read in the P slot is the one that the field asks for
unfoldable pub parity_holds : ℕ → Bool → Bool
parity_holds field p = eqb (parity_of field) (bit_of p)

-- the level in the slot of a field after which n more of its slots come
unfoldable pub level_of : ℕ → ℕ → ℕ
level_of n field = field / 2 ^ n % 2

-- the levels of a field that is n slots wide, in the order of the line: highest bit first
unfoldable pub levels_of : ℕ → ℕ → List ℕ
levels_of zero field = []
levels_of (suc n) field = level_of n field ∷ levels_of n field

-- how many of some levels are 1
unfoldable pub ones_among : List ℕ → ℕ
ones_among [] = 0
ones_among (level ∷ levels) = level + ones_among levels

-- whatever the width of the field, its slots and then P have an even number of ones
abbrev pub EvenAtEveryWidth : ℕ → ℕ → Type 0
EvenAtEveryWidth field p = (width : ℕ) → field < 2 ^ width → ones_among (levels_of width field ++ p ∷ []) % 2 ≡ 0

-- whatever the width of the field, a judgement of the level in its P slot says whether the ones are even
abbrev pub HoldsAtEveryWidth : ℕ → Bool → Bool → Type 0
HoldsAtEveryWidth field p holds =
    (width : ℕ) → field < 2 ^ width → holds ≡ eqb (ones_among (levels_of width field ++ bit_of p ∷ []) % 2) 0

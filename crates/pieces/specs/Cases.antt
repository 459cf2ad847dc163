-- Numbers that are computed.
use Rattle.std.specs.Option.{option_to_list}
use Rattle.std.specs.Prelude.{true, List, [], ◌∷◌, ◌++◌, ◌≡◌, refl, ℕ}
use Rattle.line.specs.Cases.{Case, ◌gives◌, all_given}
use Rattle.pieces.specs.Decimal.{grown, number_from, number_of}

-- the number of a text, or nothing
abbrev said : List ℕ → List ℕ
said text = option_to_list (number_of text)

-- "0", "9", "65535", "00023"; then nothing, "65536", "/", ":", "-1", "1 ", "99999"
abbrev number_cases : List Case
number_cases =
    (said (0x30 ∷ []) ++ said (0x39 ∷ []) ++ said (0x36 ∷ 0x35 ∷ 0x35 ∷ 0x33 ∷ 0x35 ∷ [])
    ++ said (0x30 ∷ 0x30 ∷ 0x30 ∷ 0x32 ∷ 0x33 ∷ [])
    gives 0 ∷ 9 ∷ 65535 ∷ 23 ∷ [])
    ∷ (said [] ++ said (0x36 ∷ 0x35 ∷ 0x35 ∷ 0x33 ∷ 0x36 ∷ []) ++ said (0x2F ∷ []) ++ said (0x3A ∷ [])
    ++ said (0x2D ∷ 0x31 ∷ []) ++ said (0x31 ∷ 0x20 ∷ []) ++ said (0x39 ∷ 0x39 ∷ 0x39 ∷ 0x39 ∷ 0x39 ∷ [])
    gives [])
    ∷ []

pub number-cases : all_given number_cases ≡ true
unfolding all_given grown number_from number_of
number-cases = refl

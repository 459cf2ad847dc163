-- Words that are computed: the lowest byte is the first.
use Rattle.std.specs.Prelude.{true, List, [], ◌∷◌, ◌≡◌, refl}
use Rattle.line.specs.Cases.{Case, ◌gives◌, all_given}
use Rattle.line.specs.Places.{placed}
use Rattle.words.specs.Words.{bytes_of, words_of}

-- read, also where bytes are left over or missing, and written, also in part
abbrev word_cases : List Case
word_cases =
    (words_of (1 ∷ 2 ∷ 3 ∷ 4 ∷ 255 ∷ 0 ∷ 0 ∷ 128 ∷ 7 ∷ []) 2 gives 0x0403_0201 ∷ 0x8000_00FF ∷ [])
    ∷ (words_of (1 ∷ 2 ∷ []) 1 gives 0x0201 ∷ [])
    ∷ (bytes_of (0x0403_0201 ∷ 0x8000_00FF ∷ []) 8 gives 1 ∷ 2 ∷ 3 ∷ 4 ∷ 255 ∷ 0 ∷ 0 ∷ 128 ∷ [])
    ∷ (bytes_of (0x0403_0201 ∷ []) 3 gives 1 ∷ 2 ∷ 3 ∷ [])
    ∷ []

pub word-cases : all_given word_cases ≡ true
unfolding all_given placed
word-cases = refl

-- Document 01, "Words": "The same run from a reset unit is exported to the bench host, written in C, over byte slices,
-- each word little-endian; it returns 0 or a refusal."
use Rattle.std.specs.Prelude.{List, [], ◌∷◌, ◌++◌, ◌≡◌, ℕ, ◌+◌, ◌*◌, ◌/◌, ◌%◌, eqb, ltb, length, drop}
use Rattle.line.specs.Choice.{pick}
use Rattle.line.specs.Numbers.{refused_byte_count, refused_short_list}
use Rattle.isolation.specs.Runs.{Protected, run, answers}
use Rattle.rules.specs.Machine.{unit}
use Rattle.rules.specs.State.{State}
use Rattle.lists.specs.Rulings.{AllRuled}

-- a word from its bytes, the lowest first
abbrev pub word_from : ℕ → ℕ → ℕ → ℕ → ℕ
word_from a b c d = a + b * 0x100 + c * 0x1_0000 + d * 0x100_0000

-- the words that a list of bytes spells
unfoldable pub words_of : List ℕ → List ℕ
words_of [] = []
words_of (a ∷ []) = []
words_of (a ∷ b ∷ []) = []
words_of (a ∷ b ∷ c ∷ []) = []
words_of (a ∷ b ∷ c ∷ d ∷ rest) = word_from a b c d ∷ words_of rest

-- a word's bytes, and those of a list of words
abbrev pub bytes_of_word : ℕ → List ℕ
bytes_of_word w = w % 256 ∷ w / 0x100 % 256 ∷ w / 0x1_0000 % 256 ∷ w / 0x100_0000 % 256 ∷ []

unfoldable pub bytes_of : List ℕ → List ℕ
bytes_of [] = []
bytes_of (w ∷ ws) = bytes_of_word w ++ bytes_of ws

-- 11: "count not a multiple of 4"; 12: "answer .. list shorter than its input"; else 0. It rests on the two counts of
-- bytes alone
unfoldable pub count_refusal : ℕ → ℕ → ℕ
count_refusal words out = pick (eqb (words % 4) 0) (pick (ltb out words) refused_short_list 0) refused_byte_count

abbrev pub byte_refusal : List ℕ → List ℕ → ℕ
byte_refusal words out = count_refusal (length words) (length out)

-- the unit afterwards; a run that is refused leaves it as it was
unfoldable pub state_after : State → List ℕ → List ℕ → State
state_after s words out = pick (eqb (byte_refusal words out) 0) (run unit s (words_of words)) s

-- the answer bytes afterwards; "11 and above write nothing"
unfoldable pub bytes_after : State → List ℕ → List ℕ → List ℕ
bytes_after s words out =
    pick (eqb (byte_refusal words out) 0) (bytes_of (answers unit s (words_of words)) ++ drop (length words) out) out

-- what a run over bytes from the state s promises, which returns a number and leaves the answer bytes `after`: that of
-- `run_bytes`, and of `iebus_run` from a reset unit; the last two are demands 1 and 3
pub record CalledBytes (s : State) (words before : List ℕ) (number : ℕ) (after : List ℕ) : Type 0 where
  pub ends : number ≡ byte_refusal words before
  pub written : after ≡ bytes_after s words before
  pub ruled : number ≡ 0 → AllRuled s (words_of words) (words_of after)
  pub protected : Protected unit

-- The paper's number for a run, a unit after a list of words, and what private functions over lent buffers promise
-- each other.
use Rattle.std.specs.Prelude.{List, [], ◌∷◌, ◌++◌, ◌≡◌, ℕ, ◌+◌, eqb, length, drop, get_or, take, Ok, Err, Result}
use Rattle.line.specs.Choice.{pick}
use Rattle.line.specs.Numbers.{rbf_bytes, tbf_bytes}
use Rattle.isolation.specs.Runs.{run, answers}
use Rattle.lists.specs.Bytes.{bytes_of, bytes_of_word, word_from, words_of}
use Rattle.lent.specs.Both.{state_in}
use Rattle.rules.specs.Machine.{unit}
use Rattle.lent.specs.declared.step.Lent.{Lent}
use Rattle.unit.specs.Unit.{unit_by, unit_in}
use Rattle.unit.specs.declared.step.Unit.{Unit}
use Rattle.answers.specs.Refused.{error_number}
use Rattle.answers.specs.declared.ListError.{ListError}

-- the paper's number for a run, 0 where it is not refused
abbrev pub number_of : Result Unit ListError → ℕ
number_of (Ok u) = 0
number_of (Err error) = error_number error

-- the unit afterwards; a run that is refused leaves the one that was given
abbrev pub unit_or : Unit → Result Unit ListError → Unit
unit_or from (Ok u) = u
unit_or from (Err error) = from

-- a unit after a list of words, whole, each place of its arrays included
unfoldable pub unit_over : Unit → List ℕ → Unit
unit_over u [] = u
unit_over u (w ∷ ws) = unit_over (unit_by u w) ws

-- .. where the run is not refused; one that is leaves the unit as it was
unfoldable pub unit_left : ℕ → Unit → List ℕ → Unit
unit_left number u words = pick (eqb number 0) (unit_over u words) u

-- the word at a place of a list of bytes, and the list once a word is written there
abbrev pub word_at : List ℕ → ℕ → ℕ
word_at s at = word_from (get_or s at 0) (get_or s (at + 1) 0) (get_or s (at + 2) 0) (get_or s (at + 3) 0)

abbrev pub word_put : List ℕ → ℕ → ℕ → List ℕ
word_put s at w = take at s ++ (bytes_of_word w ++ drop 4 (drop at s))

-- ---- a unit whose buffers are lent: the bytes of TBF and of RBF

-- they are lent with all their bytes
abbrev pub Whole : List ℕ → List ℕ → Type 0
Whole t r = (length t ≡ tbf_bytes) × (length r ≡ rbf_bytes)

-- what a run of it promises where there is room for the answers; a name with a dash is what is left afterwards
pub record RunsLent (u : Lent) (words out out' t t' r r' : List ℕ) (u' : Lent) : Type 0 where
  pub state : state_in u' t' r' ≡ run unit (state_in u t r) words
  pub written : out' ≡ answers unit (state_in u t r) words ++ drop (length words) out
  pub whole : unit_in u' t' r' ≡ unit_over (unit_in u t r) words

-- what a run of it promises where the bytes are whole words, with room for the answers; a name with a dash is what is
-- left afterwards
pub record RunsSpelled (u : Lent) (words out out' t t' r r' : List ℕ) (u' : Lent) : Type 0 where
  pub state : state_in u' t' r' ≡ run unit (state_in u t r) (words_of words)
  pub written : out' ≡ bytes_of (answers unit (state_in u t r) (words_of words)) ++ drop (length words) out
  pub whole : unit_in u' t' r' ≡ unit_over (unit_in u t r) (words_of words)

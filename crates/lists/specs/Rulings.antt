-- Demand 1 for a list: each word meets the state that the words before it left, and is accepted or refused there as the
-- two tables say, a refused one with the unit unchanged. In the order's words, "each list of words, lent an answer list
-- no shorter, ends with one answer word per word".
use Rattle.std.specs.Prelude.{List, ◌≡◌, ℕ, suc, ◌≤◌, ◌<◌, length, take, get_or}
use Rattle.isolation.specs.Runs.{run}
use Rattle.rules.specs.Answers.{Answer}
use Rattle.rules.specs.Machine.{unit}
use Rattle.rules.specs.Refusals.{Ruled}
use Rattle.rules.specs.State.{State}
use Rattle.rules.specs.Step.{word_of}

-- the word i of a list that runs from the state s: what stands at its place of the answer list is an answer, and that
-- answer is the one of the tables
pub record RuledAt (s : State) (words after : List ℕ) (i : ℕ) : Type 0 where
  pub answer : Answer
  pub stands : get_or after i 0 ≡ word_of answer
  pub as_tabled : Ruled (run unit s (take i words)) (get_or words i 0) (run unit s (take (suc i) words)) answer

-- all words of the list, whose answers stand at the front of the list `after`
pub record AllRuled (s : State) (words after : List ℕ) : Type 0 where
  pub one_each : length words ≤ length after
  pub each : (i : ℕ) → i < length words → RuledAt s words after i

-- Document 01, "Words": "A list run takes a lent list of words and writes each answer into a second lent list, from a
-- given state." "Places past the last answer keep their contents."
use Rattle.std.specs.Prelude.{List, ◌++◌, ◌≡◌, ℕ, eqb, ltb, length, drop}
use Rattle.line.specs.Choice.{pick}
use Rattle.line.specs.Numbers.{refused_short_list}
use Rattle.isolation.specs.Runs.{Protected, run, answers}
use Rattle.rules.specs.Machine.{unit}
use Rattle.rules.specs.State.{State}
use Rattle.lists.specs.Rulings.{AllRuled}

-- number 12: "answer .. list shorter than its input"; 0 is no refusal
unfoldable pub list_refusal : List ℕ → List ℕ → ℕ
list_refusal words out = pick (ltb (length out) (length words)) refused_short_list 0

-- the unit afterwards; a run that is refused leaves it as it was
unfoldable pub unit_after : State → List ℕ → List ℕ → State
unit_after s words out = pick (eqb (list_refusal words out) 0) (run unit s words) s

-- the answer list afterwards; "11 and above write nothing"
unfoldable pub answers_after : State → List ℕ → List ℕ → List ℕ
answers_after s words out = pick (eqb (list_refusal words out) 0) (answers unit s words ++ drop (length words) out) out

-- what a call of `run` from the state s promises, which ends with a number and leaves the state t and the answer list
-- `after`; the last two are demands 1 and 3
pub record Called (s : State) (words before : List ℕ) (number : ℕ) (t : State) (after : List ℕ) : Type 0 where
  pub ends : number ≡ list_refusal words before
  pub left : t ≡ unit_after s words before
  pub written : after ≡ answers_after s words before
  pub ruled : number ≡ 0 → AllRuled s words after
  pub protected : Protected unit

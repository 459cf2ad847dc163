-- Runs one after the other are one run: "A list may go over any number of list runs, each from the state that the
-- last one left."
use mathlib.Core.Path.{◌≡◌, sym, ap, ◌∙◌}
use mathlib.Core.List.{List, ◌++◌}
use Prim.Native.Nat.{ℕ}
use lib.ListN.{length, take}
use Rattle.isolation.specs.Runs.{run}
use Rattle.isolation.proofs.Appended.{run_append, answers_append}
use Rattle.rules.specs.Machine.{unit}
use Rattle.rules.specs.State.{State}
use Rattle.lists.specs.Run.{Called}
use Rattle.lists.proofs.Called.{state_left, answers_first}

-- two calls, the second from the unit that the first left, against one call for the two lists as one
module _ {s t t' u : State} {A B first first' second second' both both' : List ℕ}
    (one : Called s A first 0 t first') (two : Called t B second 0 t' second')
    (whole : Called s (A ++ B) both 0 u both') where
  pub two_runs : u ≡ t'
  two_runs =
      state_left whole ∙ run_append unit s A B ∙ ap (λ (x : State). run unit x B) (sym (state_left one))
      ∙ sym (state_left two)

  pub two_lists : take (length (A ++ B)) both' ≡ take (length A) first' ++ take (length B) second'
  two_lists =
      answers_first whole ∙ answers_append unit s A B
      ∙ rw (answers_first one, answers_first two, state_left one)

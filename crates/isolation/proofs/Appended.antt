-- A list may go over any number of runs, each from the state that the last one left: the state and the answers of a
-- list that is cut in two.
use mathlib.Core.Path.{◌≡◌, refl, ap}
use mathlib.Core.List.{List, [], ◌∷◌, ◌++◌}
use Prim.Native.Nat.{ℕ}
use Rattle.isolation.specs.Runs.{Machine, run, answers}

-- the second part runs from the state that the first one left
pub run_append : (M : Machine) (s : M.State) (A B : List ℕ) → run M s (A ++ B) ≡ run M (run M s A) B
unfolding run
run_append M s [] B = refl
run_append M s (w ∷ A) B = run_append M (M.step s w) A B

-- the answers are those of the first part, then those of the second from the state that the first one left
pub answers_append : (M : Machine) (s : M.State) (A B : List ℕ)
    → answers M s (A ++ B) ≡ answers M s A ++ answers M (run M s A) B
unfolding run answers
answers_append M s [] B = refl
answers_append M s (w ∷ A) B = ap (λ (l : List ℕ). M.answer s w ∷ l) (answers_append M (M.step s w) A B)

-- Lists by their places: a list that is given place by place, and where something first stands in one.
use Rattle.std.specs.Prelude.{Bool, List, [], ◌∷◌, ◌++◌, ℕ, zero, suc, ◌+◌}
use Rattle.line.specs.Choice.{pick}

-- so many elements, each by its place
unfoldable pub placed : (ℕ → ℕ) → ℕ → List ℕ
placed f zero = []
placed f (suc n) = placed f n ++ f n ∷ []

-- the first place at which a test holds, the length where it holds at none
unfoldable pub first_place : {A : Type 0} → (A → Bool) → List A → ℕ
first_place test [] = 0
first_place test (x ∷ xs) = pick (test x) 0 (first_place test xs + 1)

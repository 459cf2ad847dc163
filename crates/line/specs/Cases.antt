-- The marked cases of document 01, "Proved and run cases", as one computed check over a list. The libraries above add
-- their own cases to the list.
use Rattle.std.specs.Prelude.{Bool, true, false, ◌&&◌, ◌≡◌, refl, List, [], ◌∷◌, ℕ, eqb}
use Rattle.std.specs.Int.Count.{ones, ones_in}
use Rattle.line.specs.Parity.{parity_of}

-- what the definitions give, and what the paper says
pub record Case : Type 0 where
  pub given : List ℕ
  pub said : List ℕ

infix 4 ◌gives◌
abbrev pub ◌gives◌ : List ℕ → List ℕ → Case
◌gives◌ a b = record { given = a; said = b }

-- whether two lists of numbers are the same
abbrev pub same : List ℕ → List ℕ → Bool
same [] [] = true
same [] (y ∷ ys) = false
same (x ∷ xs) [] = false
same (x ∷ xs) (y ∷ ys) = eqb x y && same xs ys

-- whether every case comes out as the paper says
unfoldable pub all_given : List Case → Bool
all_given [] = true
all_given (c ∷ cs) = same c.given c.said && all_given cs

-- "parity of 525H is 1, of 000H is 0"
unfoldable pub line_cases : List Case
line_cases = (parity_of 0x525 ∷ parity_of 0x000 ∷ [] gives 1 ∷ 0 ∷ []) ∷ []

pub line-cases : all_given line_cases ≡ true
unfolding all_given line_cases parity_of ones ones_in
line-cases = refl

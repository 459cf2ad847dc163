-- How the code decides a contest: what private functions promise each other. The public contract rests on none of
-- this; proofs/Winner.antt shows that it comes to what the slots of Contest.antt say.
use Rattle.std.specs.Prelude.{Option, MatchOption, ◌≡◌, List, ◌++◌, map, ℕ, zero, suc, ◌-◌, ◌≤◌, ◌<◌, eqb, length, drop, get_or}
use Rattle.line.specs.Choice.{pick}
use Rattle.line.specs.Parity.{level_of}
use Rattle.line.specs.Numbers.{contest_slots, last_contest_slot}
use Rattle.contenders.specs.Contest.{nobody, first_out, first_twin, number_of}
use Rattle.contenders.specs.declared.Contender.{Contender}

-- the first of the last n slots in which x and w differ, 0 where they differ in none
unfoldable pub differs : ℕ → ℕ → ℕ → ℕ
differs zero w x = 0
differs (suc n) w x = pick (eqb (level_of n x) (level_of n w)) (differs n w x) (last_contest_slot - n)

-- what a search for a place gives: that place, none where it lies past the last
abbrev pub Found : {A : Type 0} → List A → ℕ → Option ℕ → Type 0
Found xs place found = MatchOption found (length xs ≤ place) (λ p. (p < length xs) × (p ≡ place))

-- contenders for which neither number 14 nor number 15 is given
pub record Fair (cs : List Contender) : Type 0 where
  pub in-range : length cs ≤ first_out cs
  pub unlike : length cs ≤ first_twin cs

-- the place of a contender whose number is the lowest of all
pub record Least (cs : List Contender) (place : ℕ) : Type 0 where
  pub within : place < length cs
  pub low : (i : ℕ) → i < length cs → number_of (get_or cs place nobody) ≤ number_of (get_or cs i nobody)

-- for each contender the slot in which it first differs from the number w
unfoldable pub differences : ℕ → List Contender → List ℕ
differences w cs = map (λ (c : Contender). differs contest_slots w (number_of c)) cs

-- the number list with those slots at the contenders' places, and the rest as before
abbrev pub Losses : ℕ → List Contender → List ℕ → List ℕ → Type 0
Losses w cs numbers after = after ≡ differences w cs ++ drop (length cs) numbers

-- What private functions of the reader promise each other, in terms of crate `logs`.
use Rattle.std.specs.Prelude.{◌≡◌, List, ℕ, ◌+◌, ◌-◌, ◌^◌, ◌<◌, ◌≤◌, drop, get_or, length, take}
use Rattle.line.specs.Numbers.{slot_start}
use Rattle.logs.specs.Frames.{frames_of, levels_from}

-- a place to which a search has come from another one
pub record Within (slots : List ℕ) (from place : ℕ) : Type 0 where
  pub ahead : from ≤ place
  pub inside : place ≤ length slots

-- the first so many words laid over each other: no word is greater, and it has no more digits than all of them
pub record Overlaid (words : List ℕ) (count digits : ℕ) : Type 0 where
  pub most : (k : ℕ) → k < count → get_or words k 0 ≤ digits
  pub fits : (width : ℕ) → ((k : ℕ) → k < count → get_or words k 0 < 2 ^ width) → digits < 2 ^ width

-- the first start from a place on
pub record NextStart (slots : List ℕ) (from place : ℕ) : Type 0 where
  pub ahead : from ≤ place
  pub inside : place < length slots
  pub passed : frames_of (drop from slots) ≡ frames_of (drop place slots)
  pub there : get_or slots place 0 ≡ slot_start

-- so many slots from a place on are there, and all are levels
pub record LevelsAhead (count : ℕ) (slots : List ℕ) (place : ℕ) : Type 0 where
  pub there : place + count ≤ length slots
  pub low : (k : ℕ) → k < count → get_or slots (place + k) 0 < slot_start

-- where the levels from a place on end
pub record LevelsEnd (slots : List ℕ) (from place : ℕ) : Type 0 where
  pub within : Within slots from place
  pub passed : frames_of (drop from slots) ≡ frames_of (drop place slots)
  pub levels : levels_from (drop from slots) ≡ take (place - from) (drop from slots)

-- The marked cases of the contest, each refusal, and the places that number 15 names.
use Rattle.std.specs.Prelude.{true, ◌≡◌, refl, List, [], ◌∷◌, ◌++◌, ℕ, zero, suc, replicate}
use Rattle.line.specs.Cases.{Case, ◌gives◌, all_given}
use Rattle.line.specs.Parity.{level_of}
use Rattle.contenders.specs.Contest.{number_of, settled, remaining, loss_of, losses_of, winner_of}
use Rattle.line.specs.Places.{first_place}
use Rattle.contenders.specs.Contest.{alike, contest_of, first_twin, in_range, numbers_after}
use Rattle.contenders.specs.Contest.{verdict_of}
use Rattle.contenders.specs.declared.Contender.{Contender}

abbrev pub broadcast : ℕ → Contender
broadcast a = record { bit = 0; address = a }

abbrev pub ordinary : ℕ → Contender
ordinary a = record { bit = 1; address = a }

-- "0FFH beats 100H, which loses in slot 6; broadcast FFFH beats ordinary 000H, which loses in slot 2"
unfoldable pub contest_cases : List Case
contest_cases =
    (winner_of (ordinary 0x100 ∷ ordinary 0x0FF ∷ []) ∷ losses_of (ordinary 0x100 ∷ ordinary 0x0FF ∷ []) gives 1 ∷ 6
    ∷ 0 ∷ [])
    ∷ (winner_of (ordinary 0x000 ∷ broadcast 0xFFF ∷ []) ∷ losses_of (ordinary 0x000 ∷ broadcast 0xFFF ∷ []) gives 1 ∷ 2
    ∷ 0 ∷ [])
    ∷ []

-- so many contenders, from an address on
abbrev pub row : ℕ → ℕ → List Contender
row zero a = []
row (suc n) a = ordinary a ∷ row n (suc a)

-- what a contest comes to over a list of numbers: the refusal, the place that it names, and the list afterwards
abbrev pub outcome : List Contender → List ℕ → List ℕ
outcome cs numbers =
    let v = verdict_of (contest_of cs numbers) in v.number ∷ v.place ∷ numbers_after cs numbers v

-- 12 to 15 with nothing written, each where those before it do not hold; and a contest with two numbers more
unfoldable pub refusal_cases : List Case
refusal_cases =
    (outcome (row 2 0) (7 ∷ []) gives 12 ∷ 0 ∷ 7 ∷ [])
    ∷ (outcome [] (7 ∷ []) gives 13 ∷ 0 ∷ 7 ∷ [])
    ∷ ((verdict_of (contest_of (row 51 0) (replicate 51 7))).number ∷ [] gives 13 ∷ [])
    ∷ ((verdict_of (contest_of (row 50 0) (replicate 51 7))).number ∷ [] gives 0 ∷ [])
    ∷ (outcome (ordinary 5 ∷ ordinary 0x1000 ∷ ordinary 0x1001 ∷ []) (7 ∷ 7 ∷ 7 ∷ []) gives 14 ∷ 1 ∷ 7 ∷ 7 ∷ 7 ∷ [])
    ∷ (outcome (record { bit = 2; address = 5 } ∷ []) (7 ∷ []) gives 14 ∷ 0 ∷ 7 ∷ [])
    ∷ (outcome (ordinary 5 ∷ broadcast 5 ∷ ordinary 5 ∷ []) (7 ∷ 7 ∷ 7 ∷ []) gives 15 ∷ 0 ∷ 7 ∷ 7 ∷ 7 ∷ [])
    -- "The lowest number wins"; and two are alike "in bit and address"
    ∷ ((verdict_of (contest_of (row 51 0) (7 ∷ []))).number ∷ [] gives 12 ∷ [])
    ∷ (outcome (ordinary 5 ∷ ordinary 5 ∷ ordinary 0x1000 ∷ []) (7 ∷ 7 ∷ 7 ∷ []) gives 14 ∷ 2 ∷ 7 ∷ 7 ∷ 7 ∷ [])
    ∷ (outcome (ordinary 5 ∷ broadcast 5 ∷ []) (7 ∷ 7 ∷ []) gives 0 ∷ 1 ∷ 2 ∷ 0 ∷ [])
    ∷ (outcome (ordinary 0x100 ∷ ordinary 0x0FF ∷ []) (7 ∷ 7 ∷ 8 ∷ 9 ∷ []) gives 0 ∷ 1 ∷ 6 ∷ 0 ∷ 8 ∷ 9 ∷ [])
    ∷ []

-- the place that number 15 names
abbrev pub place_alike : List Contender → List ℕ
place_alike cs = let v = verdict_of (contest_of cs (replicate 50 7)) in v.number ∷ v.place ∷ []

-- "the lowest place whose contender occurs again later": of two pairs the one that begins first, though the other
-- closes first; neither the later of a pair nor one with an equal before it alone; the whole address counts, and all 50
unfoldable pub alike_cases : List Case
alike_cases =
    (place_alike (ordinary 5 ∷ ordinary 6 ∷ ordinary 6 ∷ ordinary 5 ∷ []) gives 15 ∷ 0 ∷ [])
    ∷ (place_alike (ordinary 4 ∷ ordinary 5 ∷ ordinary 6 ∷ ordinary 6 ∷ ordinary 5 ∷ []) gives 15 ∷ 1 ∷ [])
    ∷ (place_alike (ordinary 5 ∷ broadcast 5 ∷ ordinary 6 ∷ broadcast 5 ∷ []) gives 15 ∷ 1 ∷ [])
    ∷ (place_alike (ordinary 4 ∷ ordinary 5 ∷ ordinary 5 ∷ ordinary 5 ∷ []) gives 15 ∷ 1 ∷ [])
    ∷ (place_alike (ordinary 0x005 ∷ ordinary 0x805 ∷ ordinary 0x006 ∷ ordinary 0x006 ∷ []) gives 15 ∷ 2 ∷ [])
    ∷ (place_alike (row 49 0 ++ (ordinary 48 ∷ [])) gives 15 ∷ 48 ∷ [])
    ∷ (place_alike (row 49 0 ++ (ordinary 0 ∷ [])) gives 15 ∷ 0 ∷ [])
    ∷ []

pub contest-cases : all_given (contest_cases ++ refusal_cases ++ alike_cases) ≡ true
unfolding all_given contest_cases refusal_cases alike_cases losses_of loss_of settled remaining level_of number_of first_place
    contest_of numbers_after in_range alike first_twin
contest-cases = refl

-- Five units on a line, each brought there from reset by words of its own. Four ask: ordinary frames of 000H and of
-- FFFH, broadcasts of 100H and of 0FFH; 000H is still inside a frame in which it lost. The fifth only listens. They
-- meet the conditions, by computation, and the theorem is applied, so that nobody can make the conditions unmeetable
-- unnoticed.
use mathlib.Core.Bool.{true, false}
use mathlib.Core.Path.{◌≡◌, refl, ap, ◌∙◌}
use mathlib.Core.List.{List, [], ◌∷◌, ◌++◌, map}
use Prim.Native.Nat.{ℕ, suc, ◌/◌, ◌%◌, ◌*◌, ◌≤◌}
use lib.Dec.{lit≤}
use Rattle.line.specs.Numbers.{contest_slots}
use Rattle.line.specs.Parity as parity
use Rattle.contenders.specs.Contest.{alike, first_out, first_twin, in_range, loss_of, losses_of, number_of}
use Rattle.contenders.specs.Contest.{remaining, settled}
use Rattle.contenders.specs.Cases.{broadcast, ordinary}
use Rattle.contenders.specs.declared.Contender.{Contender}
use Rattle.line.specs.Places.{first_place}
use Rattle.isolation.specs.Runs.{run}
use Rattle.rules.specs.State.{State, reset}
use Rattle.rules.specs.Machine.{unit}
use Rattle.rules.specs.Opened.{all_rules}
use Rattle.rules.specs.Stories.{write}
use Rattle.arbitration.specs.Group.{Contending, OneRule, after, contenders, leading, levels, remains, settles}
use Rattle.arbitration.proofs.OneRule.{one_rule}

-- a unit with an address that asks to write AAH to FFEH, by an MCR, in the state that further words leave it in
abbrev asking : ℕ → ℕ → List ℕ → State
asking own mcr words =
    run unit reset (
    write 0x2 (own % 16 * 16)
    ∷ write 0x3 (own / 16)
    ∷ write 0x4 0xE0
    ∷ write 0x5 0xFF
    ∷ write 0x6 mcr
    ∷ write 0xE 1
    ∷ write 0xE 0xAA
    ∷ write 0x1 0x08
    ∷ 3
    ∷ words
    )

-- MCR: the broadcast bit, no retry or one, FH
pub asked : List State
asked = asking 0x000 0x9F (2 ∷ 0 ∷ []) ∷ asking 0x100 0x0F [] ∷ asking 0x0FF 0x0F [] ∷ asking 0xFFF 0x8F [] ∷ []

pub listening : List State
listening = reset ∷ []

abbrev four : List Contender
four = ordinary 0x000 ∷ broadcast 0x100 ∷ broadcast 0x0FF ∷ ordinary 0xFFF ∷ []

-- what the words of the host and the slots up to the start come to
record Begun : Type 0 where
  take_part : leading (after 0 asked) ≡ true ∷ true ∷ true ∷ true ∷ []
  stand_by : leading (after 0 listening) ≡ false ∷ []
  named : contenders asked ≡ four

begun : Begun
unfolding asked listening after levels settles all_rules
begun = record { take_part = refl; stand_by = refl; named = refl }

-- neither 14 nor 15 is given for them
fair : (4 ≤ first_out four) × (4 ≤ first_twin four)
unfolding first_place first_twin in_range alike
fair = (lit≤ tt, lit≤ tt)

pub contending : Contending asked listening
unfolding asked listening
contending =
    record {
      take_part = begun.take_part;
      stand_by = begun.stand_by;
      some = lit≤ tt;
      in-range = rw begun.named fair.0;
      unlike = rw begun.named fair.1;
    }

-- ---- the theorem, applied

pub decided : OneRule asked listening
decided = one_rule asked listening contending

-- what the contest says of the four
losses_four : losses_of four ≡ 2 ∷ 6 ∷ 0 ∷ 2 ∷ []
unfolding losses_of loss_of settled remaining number_of parity.level_of
losses_four = refl

leading_at : (k : ℕ) → k ≤ contest_slots
    → leading (after k (asked ++ listening)) ≡ map (remains (suc k)) (2 ∷ 6 ∷ 0 ∷ 2 ∷ []) ++ false ∷ []
unfolding listening
leading_at k h =
    decided.losses k h
    ∙ ap (λ (cs : List Contender). map (remains (suc k)) (losses_of cs) ++ false ∷ []) begun.named
    ∙ ap (λ (l : List ℕ). map (remains (suc k)) l ++ false ∷ []) losses_four

-- the broadcasts lead after slot 2, both still after slot 5, and then 0FFH alone
pub example : (leading (after 1 (asked ++ listening)) ≡ false ∷ true ∷ true ∷ false ∷ false ∷ [])
    × (leading (after 4 (asked ++ listening)) ≡ false ∷ true ∷ true ∷ false ∷ false ∷ [])
    × (leading (after 5 (asked ++ listening)) ≡ false ∷ false ∷ true ∷ false ∷ false ∷ [])
    × (leading (after 13 (asked ++ listening)) ≡ false ∷ false ∷ true ∷ false ∷ false ∷ [])
example = (leading_at 1 (lit≤ tt), leading_at 4 (lit≤ tt), leading_at 5 (lit≤ tt), leading_at 13 (lit≤ tt))

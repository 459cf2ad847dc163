-- Several units on one line that begin a frame with the same start slot. What each of them drives, and when it loses,
-- is said by the rules of one unit alone; here is the line between them, and what it is for them to keep the contest's
-- rule: "a broadcast beats an ordinary frame, then the lowest address wins".
use Rattle.std.specs.Prelude.{Bool, true, false, ◌||◌, ◌≡◌, List, [], ◌∷◌, ◌++◌, map, ℕ, zero, suc, ◌-◌, ◌≤◌, ◌<◌, min, eqb, ltb, length, get_or, replicate}
use Rattle.line.specs.Choice.{bit_of}
use Rattle.line.specs.Numbers.{contest_slots, drive_released, drive_start}
use Rattle.line.specs.Parity.{level_of}
use Rattle.contenders.specs.Contest.{Wins, first_out, first_twin, losses_of, nobody, number_of, winner_of}
use Rattle.contenders.specs.declared.Contender.{Contender}
use Rattle.rules.specs.State.{State}
use Rattle.rules.specs.Step.{answer_of, next_drive, step_of}
use Rattle.std.specs.Prelude.{Ok}
use Rattle.rules.specs.declared.answer.Reply.TheVariants.{Taken}

-- ---- the line

-- the word of the slot in which the units drive what their states say: 0 as soon as one of them drives 0, else 1
unfoldable pub settles : List State → ℕ
settles [] = drive_released
settles (s ∷ ss) = min (next_drive s) (settles ss)

-- each unit takes the word, losers too
abbrev pub fed : ℕ → List State → List State
fed w ss = map (λ (s : State). step_of s w) ss

-- so many levels, each settled by what all of them drive then
unfoldable pub levels : ℕ → List State → List State
levels zero ss = ss
levels (suc k) ss = levels k (fed (settles ss) ss)

-- the units after a start slot and k levels, so after slot k + 1, "start being 1"
unfoldable pub after : ℕ → List State → List State
after k units = levels k (fed drive_start units)

-- ---- the units as contenders

-- the broadcast bit of MCR "as on the wire", and the address of UAR
abbrev pub contender_of : State → Contender
contender_of s = record { bit = bit_of s.core.regs.bit; address = s.core.regs.own }

abbrev pub contenders : List State → List Contender
contenders units = map contender_of units

-- a master in the frame that took part from the start slot and has not lost
abbrev pub leads : State → Bool
leads s = s.core.frame.leads

abbrev pub leading : List State → List Bool
leading units = map leads units

-- who loses in one slot, or in none (0), still leads after another
abbrev pub remains : ℕ → ℕ → Bool
remains slot lost = eqb lost 0 || ltb slot lost

-- ---- the claim

-- units that one start slot makes masters, and others on the line that it does not. "Any start slot lets it take
-- part": a unit that waits for one becomes a master where MARQ is set and it does not hold back (`start-leads` in
-- proofs/Start.antt). Of the conditions under which a contest is refused none holds of the masters but, perhaps, that
-- they are over 50, which is no matter of the line's
pub record Contending (masters others : List State) : Type 0 where
  pub take_part : leading (after 0 masters) ≡ replicate (length masters) true
  pub stand_by : leading (after 0 others) ≡ replicate (length others) false
  -- 13, "no contender"
  pub some : 0 < length masters
  -- 14, "broadcast bit over 1 or address over FFFH"
  pub in-range : length masters ≤ first_out (contenders masters)
  -- 15, "two contenders alike in bit and address"
  pub unlike : length masters ≤ first_twin (contenders masters)

-- what the units do by their own rules is what the contest says of the masters among them
pub record OneRule (masters others : List State) : Type 0 where
  -- a master leads through the slots before the one in which the contest says that it loses, and then no more
  pub losses : (k : ℕ) → k ≤ contest_slots
      → leading (after k (masters ++ others))
      ≡ map (remains (suc k)) (losses_of (contenders masters)) ++ replicate (length others) false
  -- after slot 14 the winner leads, and nobody else
  pub winner : (i : ℕ)
      → get_or (leading (after contest_slots (masters ++ others))) i false ≡ eqb i (winner_of (contenders masters))
  -- the winner is a broadcast before an ordinary frame, and then the lowest address
  pub before : Wins (contenders masters) (winner_of (contenders masters))
  -- the levels that settle are the winner's: everybody on the line reads its bit and its address
  pub heard : (k : ℕ) → k < contest_slots
      → settles (after k (masters ++ others))
      ≡ level_of (contest_slots - suc k) (number_of (get_or (contenders masters) (winner_of (contenders masters)) nobody))
  -- every unit takes every level: number 5 cannot come. The answer says what it drives next
  pub taken : (k : ℕ)
      → map (λ (s : State). answer_of s (settles (after k (masters ++ others)))) (after k (masters ++ others))
      ≡ map (λ (s : State). Ok (Taken (next_drive s))) (after (suc k) (masters ++ others))

-- The winner of a contest that nothing is wrong with: after slot 14 it alone has not lost.
use mathlib.Core.Logic.{⊎_elim}
use mathlib.Core.Path.{◌≡◌, sym, ap, ◌∙◌}
use mathlib.Core.List.{List}
use Prim.Native.Nat.{ℕ, ◌<◌}
use native.Mathlib.Omega.{arith}
use borrow.Author.Tests.{eq-eqb, ne_eqb}
use lib.Dec.{eqb}
use lib.ListN.{get_or, length}
use Rattle.line.specs.Numbers.{last_contest_slot}
use Rattle.line.proofs.Either.{same_or_not}
use Rattle.contenders.specs.Contest.{Wins, losses_of}
use Rattle.contenders.specs.declared.Contender.{Contender}
use Rattle.arbitration.specs.Group.{remains}
use Rattle.arbitration.proofs.Remaining.{gone}

-- after slot 14 those remain that have lost in none
pub winner_remains : (cs : List Contender) (p : ℕ) → Wins cs p → (i : ℕ) → i < length cs
    → remains last_contest_slot (get_or (losses_of cs) i 0) ≡ eqb i p
winner_remains cs p w i h =
    ⊎_elim
    (λ e. ap (remains last_contest_slot) (ap (λ (j : ℕ). get_or (losses_of cs) j 0) e ∙ w.unbeaten) ∙ sym (eq-eqb i p e))
    (λ ne. let lost = w.alone i h ne in
    gone last_contest_slot (get_or (losses_of cs) i 0) (omega arith) lost.1 ∙ sym (ne_eqb i p ne))
    (same_or_not i p)

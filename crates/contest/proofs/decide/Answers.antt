use native.Mathlib.Omega.{arith}
use Rattle.contest.proofs.Endings.{ends_won, winner_named}
use Rattle.contest.proofs.Winner.{wins}
use Rattle.contest.proofs.decide.Goals as goal

pub returns-clause-whole : goal.returns-clause-whole
returns-clause-whole c =
    ends_won _ _ c.requires.room (λ e. omega arith) c.requires.few c.requires.fair c.least-best.ensures
    (rw c.number.ensures at c.put_losses.ensures)

pub returns-clause-named : goal.returns-clause-named
returns-clause-named c =
    winner_named c.requires.fair (wins _ _ c.requires.fair c.least-best.ensures)

use Rattle.contest.proofs.Loops.{Untwinned}
use Rattle.contest.proofs.first_twin.Given as goal

-- no contender that was passed occurs again
abbrev pub invariant-loop-place : goal.invariant-loop-place
invariant-loop-place l = Untwinned l.contenders l.place

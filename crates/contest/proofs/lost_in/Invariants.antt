use Rattle.contest.proofs.Loops.{Compared}
use Rattle.contest.proofs.lost_in.Given as goal

-- the slots that have been passed are alike
abbrev pub invariant-loop-left : goal.invariant-loop-left
invariant-loop-left l = Compared l.winner l.number l.left

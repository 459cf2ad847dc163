use Rattle.line.specs.Parity.{level_of}
use Rattle.contest.proofs.Loops.{compared_one, compared_here, compared_all}
use Rattle.contest.proofs.lost_in.Goals as goal

pub returns-then-number-left : goal.returns-then-number-left
unfolding level_of
returns-then-number-left c =
    compared_here c.loop-left.invariant c.loop-left-test.true c.if-number-left.true

pub loop-left-preserved : goal.loop-left-preserved
unfolding level_of
loop-left-preserved c =
    compared_one c.loop-left.invariant c.loop-left-test.true c.if-number-left.false

pub returns : goal.returns
unfolding level_of
returns c =
    compared_all c.loop-left.invariant c.loop-left-test.false

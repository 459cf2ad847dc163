use mathlib.Core.Path.{sym, ◌∙◌}
use Rattle.contenders.specs.Contest.{alike}
use Rattle.contest.proofs.Loops.{untwinned_one, twin_at}
use Rattle.contest.proofs.first_twin.Goals as goal

pub returns-then-contains : goal.returns-then-contains
unfolding alike
returns-then-contains c =
    twin_at c.loop-place.invariant c.loop-place-test.true (sym c.contains.ensures.value ∙ c.if-contains.true)

pub loop-place-preserved : goal.loop-place-preserved
unfolding alike
loop-place-preserved c =
    untwinned_one c.loop-place.invariant c.loop-place-test.true (sym c.contains.ensures.value ∙ c.if-contains.false)

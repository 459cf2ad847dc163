use Rattle.records.proofs.Lists.{contest_listed, outcome_named}
use Rattle.records.proofs.contest.Goals as goal

pub returns-clause-whole : goal.returns-clause-whole
returns-clause-whole c = contest_listed c.args.records.now (rw c.gathered.ensures at c.contest.ensures.whole)

pub returns-clause-named : goal.returns-clause-named
returns-clause-named c =
    outcome_named c.args.records.now (rw c.gathered.ensures at c.contest.ensures.whole)
    (rw c.gathered.ensures at c.contest.ensures.named)

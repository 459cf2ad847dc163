use Rattle.records.proofs.Lists.{word_listed, word_named}
use Rattle.line_exports.proofs.iebus_contest.Goals as goal

pub returns-clause-whole : goal.returns-clause-whole
returns-clause-whole c = word_listed c.args.records.now (rw c.gathered.ensures at c.contest_word.ensures.whole)

pub returns-clause-named : goal.returns-clause-named
returns-clause-named c =
    word_named c.args.records.now (rw c.gathered.ensures at c.contest_word.ensures.whole)
    (rw c.gathered.ensures at c.contest_word.ensures.named)

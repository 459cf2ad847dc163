use native.Mathlib.Omega.{arith}
use Rattle.records.proofs.Words.{place_fits, contest_told, word_told}
use Rattle.line_exports.proofs.contest_word.Goals as goal

pub overflow_cast-result : goal.overflow_cast-result
overflow_cast-result c =
    record { fits = omega (arith, place_fits c.of-verdict.ensures c.contest.ensures.whole c.contest.ensures.named) }

pub overflow_add-result : goal.overflow_add-result
overflow_add-result c =
    record { fits = omega (arith, place_fits c.of-verdict.ensures c.contest.ensures.whole c.contest.ensures.named) }

pub returns-clause-whole : goal.returns-clause-whole
returns-clause-whole c =
    contest_told c.of-verdict.ensures c.contest.ensures.whole c.contest.ensures.named (omega arith)

pub returns-clause-named : goal.returns-clause-named
returns-clause-named c =
    word_told c.of-verdict.ensures c.contest.ensures.whole c.contest.ensures.named (omega arith)

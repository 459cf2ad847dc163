use mathlib.Core.Path.{refl, sym, ◌∙◌}
use Rattle.line.proofs.Either.{both}
use Rattle.lent.proofs.Joins.{runs, runs_said}
use Rattle.lent.proofs.Listening.{agreed_word, plain_word}
use Rattle.lent.specs.Both.{loan_in}
use Rattle.lent.proofs.step.Lent.step.Goals as goal

pub returns-then-word-plain : goal.returns-then-word-plain
returns-then-word-plain c =
    let tests = both _ _ c.if-word-plain.true in
    runs refl refl (λ ft fr. rw c.plainly.ensures
    (plain_word (loan_in c.args.self c.args.tbf.now c.args.rbf.now) c.args.word tests.0
    (sym c.plain.ensures ∙ tests.1)))

pub returns-then-word-agrees : goal.returns-then-word-agrees
returns-then-word-agrees c =
    let tests = both _ _ c.if-word-agrees.true in
    let met = both _ _ (sym (c.agrees.ensures c.args.tbf.now c.args.rbf.now) ∙ tests.1) in
    runs refl refl (λ ft fr. c.agreed.ensures c.args.tbf.now c.args.rbf.now
    ∙ agreed_word (loan_in c.args.self c.args.tbf.now c.args.rbf.now) c.args.word tests.0 met.0 met.1)

pub returns : goal.returns
returns c = runs_said c.word-after.result _ c.word-after.ensures (c.drive.ensures _ _) c.answer_to.ensures

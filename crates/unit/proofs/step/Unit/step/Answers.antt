use Rattle.std.proofs.Common.{sym, ap, ◌∙◌, rules}
use Rattle.lent.specs.Both.{Left}
use Rattle.rules.proofs.Ruled.{ruled}
use Rattle.unit.specs.Unit.{unit_by, unit_in}
use Rattle.unit.proofs.Refusal.{refused_whole}
use Rattle.unit.proofs.step.Unit.step.Goals as goal

pub returns-clause-refusals : goal.returns-clause-refusals
returns-clause-refusals c =
    let ran = rw c.lent.ensures at c.step-after.ensures in
    rw c.from_lent.ensures
    (ruled _ _ _ _ (ran.state (search rules) (search rules)) (ran.answer (search rules) (search rules)))

pub returns-clause-unchanged : goal.returns-clause-unchanged
unfolding unit_by
returns-clause-unchanged c =
    let ran = rw c.lent.ensures at c.step-after.ensures in
    λ n refused. c.from_lent.ensures
    ∙ ap (λ (left : Left). unit_in left.lent left.tbf left.rbf) (ran.whole (search rules) (search rules))
    ∙ refused_whole c.args.self c.args.word n (sym (ran.answer (search rules) (search rules)) ∙ refused)

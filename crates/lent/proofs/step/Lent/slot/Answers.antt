use mathlib.Core.Path.{refl, ◌∙◌}
use Rattle.std.proofs.Common.{Ok, Err}
use Rattle.lent.proofs.Joins.{slot_came}
use Rattle.lent.specs.Both.{loan_in}
use Rattle.lent.proofs.step.Lent.slot.Goals as goal

pub returns-in-Err : goal.returns-in-Err
returns-in-Err c = (
  refl,
  λ full. rw c.done.ensures
      (slot_came (loan_in c.args.self c.args.tbf.now c.args.rbf.now) c.args.slot (Err _)
      (c.in-Err.ensures c.args.tbf.now c.args.rbf.now)),
)

pub returns : goal.returns
returns c = (
  c.acted_on.ensures.0,
  λ full. c.acted_on.ensures.1 c.args.tbf.now full
      ∙ rw (c.slot_acted.ensures c.args.rbf.now)
      (slot_came (loan_in c.args.self c.args.tbf.now c.args.rbf.now) c.args.slot (Ok tt)
      (c.in_default.ensures c.args.tbf.now c.args.rbf.now)),
)

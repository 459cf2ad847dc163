use mathlib.Core.Path.{refl, ◌∙◌}
use Rattle.std.proofs.Common.{Ok, Err}
use Rattle.lent.proofs.Joins.{write_came}
use Rattle.lent.specs.Both.{loan_in}
use Rattle.lent.proofs.step.Lent.write.Goals as goal

pub returns-in-Err : goal.returns-in-Err
returns-in-Err c = (
  refl,
  λ r full. rw c.done.ensures
      (write_came (loan_in c.args.self c.args.tbf.now r) c.args.register c.args.v (Err _)
      (rw (c.count_of-waiting.ensures c.args.tbf.now) at c.in-Err.ensures)),
)

pub returns : goal.returns
returns c = (
  c.write_done.ensures.0,
  λ r full. c.write_done.ensures.1 r full
      ∙ write_came (loan_in c.args.self c.args.tbf.now r) c.args.register c.args.v (Ok tt)
      (rw (c.count_of-waiting.ensures c.args.tbf.now) at c.in_default.ensures),
)

use mathlib.Core.Path.{◌∙◌}
use borrow.Author.Tests.{eq-eqb, ne_eqb}
use Rattle.lent.proofs.Joins.{read_byte, read_other, read_refused}
use Rattle.lent.specs.Both.{loan_in}
use Rattle.lent.proofs.step.Lent.read.Goals as goal

pub returns-in-Err : goal.returns-in-Err
returns-in-Err c =
    λ t v. rw c.done.ensures
    (read_refused (loan_in c.args.self t c.args.rbf.now) c.args.register v _
    (rw (c.is_clear.ensures c.args.rbf.now) at c.in-Err.ensures))

pub returns-then-register-eq-REG_RBF : goal.returns-then-register-eq-REG_RBF
returns-then-register-eq-REG_RBF c =
    λ t v. c.read_rbf.ensures t
    ∙ read_byte (loan_in c.args.self t c.args.rbf.now) c.args.register v
    (rw (c.is_clear.ensures c.args.rbf.now) at c.in_default.ensures)
    (eq-eqb _ _ c.if-register-eq-REG_RBF.true)

pub returns : goal.returns
returns c =
    λ t v. rw (
      c.done-2.ensures,
      c.read_value-value.ensures,
      c.count_of-stored.ensures c.args.rbf.now,
      c.count_of-waiting.ensures t,
    )
    (read_other (loan_in c.args.self t c.args.rbf.now) c.args.register v
    (rw (c.is_clear.ensures c.args.rbf.now) at c.in_default.ensures)
    (ne_eqb _ _ c.if-register-eq-REG_RBF.false))

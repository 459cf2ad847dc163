use borrow.Author.Tests.{eq-eqb, ne_eqb}
use mathlib.Core.Path.{refl, ◌∙◌}
use Rattle.lent.proofs.Joins.{told_read, told_read_stray, told_refused, told_write, told_write_stray}
use Rattle.lent.specs.Both.{loan_in}
use Rattle.lent.proofs.step.Lent.told.Goals as goal

pub returns-then-word-eq0 : goal.returns-then-word-eq0
returns-then-word-eq0 c = (
  c.write.ensures.0,
  λ full. c.write.ensures.1 c.args.rbf.now full
      ∙ told_write (loan_in c.args.self c.args.tbf.now c.args.rbf.now) c.args.word (eq-eqb _ _
      c.if-kind-eq-KIND_WRITE.true) (eq-eqb _ _ c.if-word-eq0.true),
)

pub returns-then-kind-eq-KIND_WRITE : goal.returns-then-kind-eq-KIND_WRITE
returns-then-kind-eq-KIND_WRITE c = (
  refl,
  λ full. rw c.done.ensures
      (told_write_stray (loan_in c.args.self c.args.tbf.now c.args.rbf.now) c.args.word (eq-eqb _ _
      c.if-kind-eq-KIND_WRITE.true) (ne_eqb _ _ c.if-word-eq0.false)),
)

pub returns-then-word-eq0-2 : goal.returns-then-word-eq0-2
returns-then-word-eq0-2 c = (
  refl,
  λ full. c.read.ensures c.args.tbf.now _
      ∙ told_read (loan_in c.args.self c.args.tbf.now c.args.rbf.now) c.args.word (ne_eqb _ _
      c.if-kind-eq-KIND_WRITE.false) (eq-eqb _ _ c.if-kind-eq-KIND_READ.true)
      (eq-eqb _ _ c.if-word-eq0-2.true),
)

pub returns-then-kind-eq-KIND_READ : goal.returns-then-kind-eq-KIND_READ
returns-then-kind-eq-KIND_READ c = (
  refl,
  λ full. rw c.done-then-kind-eq-KIND_READ.ensures
      (told_read_stray (loan_in c.args.self c.args.tbf.now c.args.rbf.now) c.args.word (ne_eqb _ _
      c.if-kind-eq-KIND_WRITE.false) (eq-eqb _ _ c.if-kind-eq-KIND_READ.true)
      (ne_eqb _ _ c.if-word-eq0-2.false)),
)

pub returns : goal.returns
returns c = (
  refl,
  λ full. rw c.done-2.ensures
      (told_refused (loan_in c.args.self c.args.tbf.now c.args.rbf.now) c.args.word (ne_eqb _ _
      c.if-kind-eq-KIND_WRITE.false) (ne_eqb _ _ c.if-kind-eq-KIND_READ.false)),
)

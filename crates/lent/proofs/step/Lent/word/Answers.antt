use borrow.Author.Tests.{eq-eqb, ne_eqb}
use mathlib.Core.Path.{refl, ◌∙◌}
use Rattle.lent.proofs.Joins.{step_host, step_slot, step_stray}
use Rattle.lent.specs.Both.{loan_in}
use Rattle.lent.proofs.step.Lent.word.Goals as goal

pub returns-then-word-ne-KIND_SLOT : goal.returns-then-word-ne-KIND_SLOT
returns-then-word-ne-KIND_SLOT c = (
  c.told.ensures.0,
  refl,
  λ ft fr. c.told.ensures.1 ft ∙ step_host (loan_in c.args.self c.args.tbf.now c.args.rbf.now) c.args.word
      (ne_eqb _ _ c.if-word-ne-KIND_SLOT.true),
)

pub returns-in_default : goal.returns-in_default
returns-in_default c = (
  refl,
  refl,
  λ ft fr. rw c.done.ensures (step_stray (loan_in c.args.self c.args.tbf.now c.args.rbf.now) c.args.word
      (eq-eqb _ _ c.if-word-ne-KIND_SLOT.false) c.in_default.ensures),
)

pub returns : goal.returns
returns c = (
  refl,
  c.slot.ensures.0,
  λ ft fr. c.slot.ensures.1 fr
      ∙ step_slot (loan_in c.args.self c.args.tbf.now c.args.rbf.now) c.args.word c.in-Some.slot
      (eq-eqb _ _ c.if-word-ne-KIND_SLOT.false) c.in-Some.ensures,
)

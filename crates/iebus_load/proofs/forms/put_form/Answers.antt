use mathlib.Core.Bool.{true, false}
use mathlib.Core.Path.{ap, ◌∙◌}
use borrow.Author.Tests.{eq-eqb, ne_eqb}
use Rattle.pieces.proofs.Pieces.{named}
use Rattle.iebus_load.specs.Forms.{column_of}
use Rattle.iebus_load.proofs.Woven.{taken, woven_all, woven_begun, woven_more}
use Rattle.iebus_load.proofs.forms.put_form.Goals as goal
use Rattle.iebus_load.proofs.forms.put_form.Goals.{then-byte-eq-MARK, else-byte-eq-MARK}

pub loop-byte-init : goal.loop-byte-init
loop-byte-init c = rw c.iter-left.ensures.rest (woven_begun _ _ _ _)

pub loop-byte-preserved : goal.loop-byte-preserved
loop-byte-preserved c =
    elim c.if-byte-eq-MARK.branch [
      | then-byte-eq-MARK w ↦
          let number = taken _ _ _ w.next.ensures.steps in
          rw (w.text-is, w.left-is, w.end-is, number.1)
          (woven_more true c.loop-byte.invariant c.loop-byte-test.true (eq-eqb _ _ w.if-byte-eq-MARK.true)
          (named w.put-end.ensures
          (w.column.ensures ∙ ap column_of (rw (w.unwrap_or.ensures, w.copied.ensures) number.0))))
      | else-byte-eq-MARK w ↦
          rw (w.text-is, w.left-is, w.end-is)
          (woven_more false c.loop-byte.invariant c.loop-byte-test.true (ne_eqb _ _ w.if-byte-eq-MARK.false)
          w.put-end-else-byte-eq-MARK.ensures)
    ]

pub returns : goal.returns
returns c = woven_all c.loop-byte.invariant c.loop-byte-test.false

use native.Mathlib.Omega.{arith}
use mathlib.Core.Path.{sym, ap, ◌∙◌}
use Prim.Native.Nat.{◌+◌}
use Rattle.rules.specs.Step.{word_of}
use Rattle.answers.proofs.Words.{word_by_ten}
use Rattle.list_run.proofs.Spelled.{none_spelled_in, one_spelled_in, all_spelled_in}
use Rattle.list_run.proofs.bytes.run_spelled.Goals as goal

pub loop-at-init : goal.loop-at-init
loop-at-init c =
    none_spelled_in _ _ _ _ _ c.requires (c.told-tbf, c.told-rbf)

pub loop-at-preserved-in_default : goal.loop-at-preserved-in_default
loop-at-preserved-in_default c =
    rw c.put_word.ensures
    (one_spelled_in c.loop-at.invariant c.loop-at-test.true c.word_at.ensures c.step-after.ensures _
    (c.answer_word.ensures ∙ word_by_ten _))

pub loop-at-preserved : goal.loop-at-preserved
loop-at-preserved c =
    rw c.put_word-in-loop-at.ensures
    (one_spelled_in c.loop-at.invariant c.loop-at-test.true c.word_at.ensures c.step-after.ensures _
    (c.answer_word-in-loop-at.ensures ∙ sym (ap word_of c.in-Ok.is)))

-- after the last word there is no further place
pub returns-in_default : goal.returns-in_default
returns-in_default c =
    all_spelled_in {at = c.loop-at.at + 4}
    (rw c.put_word.ensures
    (one_spelled_in c.loop-at.invariant c.loop-at-test.true c.word_at.ensures c.step-after.ensures _
    (c.answer_word.ensures ∙ word_by_ten _)))
    (omega arith)

pub returns-in-Ok : goal.returns-in-Ok
returns-in-Ok c =
    all_spelled_in {at = c.loop-at.at + 4}
    (rw c.put_word-in-loop-at.ensures
    (one_spelled_in c.loop-at.invariant c.loop-at-test.true c.word_at.ensures c.step-after.ensures _
    (c.answer_word-in-loop-at.ensures ∙ sym (ap word_of c.in-Ok.is))))
    (omega arith)

pub returns : goal.returns
returns c =
    all_spelled_in c.loop-at.invariant c.loop-at-test.false

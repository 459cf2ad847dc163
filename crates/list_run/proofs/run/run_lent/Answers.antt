use mathlib.Core.Path.{sym, ap, ◌∙◌}
use Rattle.rules.specs.Step.{word_of}
use Rattle.answers.proofs.Words.{word_by_ten}
use Rattle.list_run.proofs.Underway.{one_run_in, all_over, all_run}
use Rattle.list_run.proofs.run.run_lent.Goals as goal

pub loop-i-preserved-in_default : goal.loop-i-preserved-in_default
loop-i-preserved-in_default c =
    one_run_in c.loop-i.invariant c.loop-i-test.true c.requires
    c.step-after.ensures _ (c.answer_word.ensures ∙ word_by_ten _)

pub loop-i-preserved : goal.loop-i-preserved
loop-i-preserved c =
    one_run_in c.loop-i.invariant c.loop-i-test.true c.requires
    c.step-after.ensures _ (c.answer_word-in-loop-i.ensures ∙ sym (ap word_of c.in-Ok.is))

pub returns : goal.returns
returns c =
    let done = all_run c.loop-i.invariant.ran c.loop-i-test.false in
    record { state = done.0; written = done.1; whole = all_over c.loop-i.invariant c.loop-i-test.false }

use borrow.Author.Rules.{rules}
use mathlib.Core.Path.{sym, ◌∙◌}
use native.Mathlib.Omega.{arith}
use Rattle.pieces.proofs.Digits.{all_read, no_digit, one_read, some_digit}
use Rattle.pieces.proofs.number.Goals as goal

pub returns-then-is_empty : goal.returns-then-is_empty
returns-then-is_empty c = no_digit _ (search rules)

pub returns-in_err-n : goal.returns-in_err-n
returns-in_err-n c =
    c.from_residual.ensures
    ∙ sym (c.loop-byte.invariant ∙ one_read _ _ _ c.loop-byte-test.true c.in_err-n.ensures)
    ∙ some_digit _ (omega arith)

pub loop-byte-preserved : goal.loop-byte-preserved
loop-byte-preserved c = c.loop-byte.invariant ∙ one_read _ _ _ c.loop-byte-test.true c.in_ok-n.ensures

pub returns : goal.returns
returns c =
    sym (all_read _ _ _ c.loop-byte-test.false) ∙ sym c.loop-byte.invariant ∙ some_digit _ (search rules)

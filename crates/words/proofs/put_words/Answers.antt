use native.Mathlib.Omega.{arith}
use mathlib.Core.Path.{◌≡◌}
use Rattle.line.proofs.Placed.{all_placed, none_placed, one_placed}
use Rattle.words.proofs.put_words.Goals as goal

pub loop-i-init : goal.loop-i-init
loop-i-init c = none_placed _ _

pub loop-i-preserved : goal.loop-i-preserved
loop-i-preserved c =
    one_placed _ c.loop-i.invariant (omega (arith, c.loop-i.invariant.long)) c.word_at.ensures

pub returns-clause-written : goal.returns-clause-written
returns-clause-written c =
    let all : c.loop-i.i ≡ c.min-count.result = omega arith in
    rw all at (all_placed c.loop-i.invariant)

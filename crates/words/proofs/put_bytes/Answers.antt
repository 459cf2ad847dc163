use native.Mathlib.Omega.{arith}
use mathlib.Core.Path.{◌∙◌}
use Rattle.words.proofs.Words.{no_bytes, word_more}
use Rattle.words.proofs.put_bytes.Goals as goal

pub loop-i-init : goal.loop-i-init
loop-i-init c = no_bytes _ _

pub loop-i-preserved : goal.loop-i-preserved
loop-i-preserved c =
    word_more _ _ c.loop-i.i (omega arith) (c.copy_from_slice.ensures.after ∙ c.to_le_bytes.ensures) c.loop-i.invariant

-- `text::listing::put_lines` meets its contract. The loop's invariant: so many lines stand behind the header.
use native.Mathlib.Omega.{arith}
use Rattle.text.proofs.Lines.{begun, one_more}
use Rattle.text.proofs.listing.put_lines.Goals as goal

pub loop-i-init : goal.loop-i-init
loop-i-init c =
    rw c.put.ensures (begun _ _ _)

pub loop-i-preserved : goal.loop-i-preserved
loop-i-preserved c =
    let is = rw (c.whole_word_at.ensures, c.word_at.ensures) at c.line-listed.ensures in
    rw c.put-in-loop-i.ensures (one_more c.loop-i.invariant is (omega arith))

use mathlib.Core.Path.{◌∙◌, sym}
use native.Mathlib.Omega.{arith}
use lib.ListN.{length-drop}
use Rattle.reader.proofs.Slots.{few_low}
use Rattle.reader.proofs.Texts.{goes, going_acked, going_all, going_missed, going_none, going_room}
use Rattle.reader.proofs.text.put_text.Goals as goal
use Rattle.reader.proofs.text.put_text.Goals.{then-is_acked, else-is_acked}

pub loop-left-init : goal.loop-left-init
loop-left-init c =
    going_none _ _ _ _ _ _ c.requires.low.0

pub number-byte-requires : goal.number-byte-requires
number-byte-requires c =
    few_low _ 8 0 c.loop-left.invariant.low (omega arith)

pub bounds-records-at : goal.bounds-records-at
bounds-records-at c =
    going_room c.loop-left.invariant (goes c.loop-left-test.true) (omega (arith, length-drop 44 c.args.levels.now))

pub loop-left-preserved : goal.loop-left-preserved
loop-left-preserved c =
    let turn = goes c.loop-left-test.true in
    let counted = sym c.is_acked.ensures in
    elim c.if-is_acked.branch [
      | then-is_acked w ↦ rw (w.records-is, w.missing-is, w.since-is, w.acked-is)
          (going_acked c.loop-left.invariant turn (counted ∙ w.if-is_acked.true) c.number-byte.ensures.0
          (going_room c.loop-left.invariant turn (omega (arith, length-drop 44 c.args.levels.now))))
      | else-is_acked w ↦ rw (w.records-is, w.missing-is, w.since-is, w.acked-is)
          (going_missed c.loop-left.invariant turn (counted ∙ w.if-is_acked.false))
    ]

pub returns : goal.returns
returns c =
    going_all c.loop-left.invariant c.loop-left-test.false (rw (← c.is_empty.ensures) c.text_ending.ensures)

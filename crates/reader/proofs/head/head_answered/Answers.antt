use mathlib.Core.Path.{sym}
use native.Mathlib.Nat.{add-zero}
use native.Mathlib.Omega.{arith}
use Rattle.reader.proofs.Heads.{nak_control, nak_length, no_control, no_length, whole_header}
use Rattle.reader.proofs.Slots.{few_low}
use Rattle.reader.proofs.head.head_answered.Goals as goal

pub returns-then-count-lt34 : goal.returns-then-count-lt34
returns-then-count-lt34 c =
    rw (c.ended.ensures, c.requires.2.is_front)
    (simp add-zero at (no_control _ c.requires.1 c.requires.2.no_nak c.if-count-lt34.true))

pub number-control-requires : goal.number-control-requires
number-control-requires c =
    few_low _ 4 28 c.requires.0 (omega arith)

pub returns-then-is_nak : goal.returns-then-is_nak
returns-then-is_nak c =
    rw (c.ended-then-is_nak.ensures, c.requires.2.is_front, c.number-control.ensures.0)
    (simp add-zero at (nak_control _ c.requires.1 c.requires.2.no_nak c.if-count-lt34.false (sym c.if-is_nak.ensures)))

pub returns-then-count-lt44 : goal.returns-then-count-lt44
returns-then-count-lt44 c =
    rw (c.ended-then-count-lt44.ensures, c.requires.2.is_front, c.number-control.ensures.0)
    (simp add-zero at (no_length _ c.requires.1 c.requires.2.no_nak c.if-count-lt34.false (sym c.if-is_nak.ensures)
    c.if-count-lt44.true))

pub number-requires : goal.number-requires
number-requires c =
    few_low _ 8 34 c.requires.0 (omega arith)

pub returns-then-is_nak-2 : goal.returns-then-is_nak-2
returns-then-is_nak-2 c =
    rw (
      c.ended-then-is_nak-2.ensures,
      c.requires.2.is_front,
      c.number-control.ensures.0,
      c.length_in-bytes.ensures.0,
      c.number.ensures.0,
    )
    (nak_length _ c.requires.1 c.requires.2.no_nak c.if-count-lt34.false (sym c.if-is_nak.ensures)
    c.if-count-lt44.false (sym c.if-is_nak-2.ensures))

pub returns : goal.returns
returns c =
    rw (
      c.ended-2.ensures,
      c.requires.2.is_front,
      c.number-control.ensures.0,
      c.length_in-bytes.ensures.0,
      c.number.ensures.0,
    )
    (whole_header _ c.requires.1 c.requires.2.no_nak c.if-count-lt34.false (sym c.if-is_nak.ensures)
    c.if-count-lt44.false (sym c.if-is_nak-2.ensures))

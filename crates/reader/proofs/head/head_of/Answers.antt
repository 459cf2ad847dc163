use mathlib.Core.Path.{◌∙◌, sym}
use native.Mathlib.Nat.{add-zero}
use native.Mathlib.Omega.{arith}
use Rattle.reader.proofs.Heads.{nak_slave, no_bit, no_master, no_slave}
use Rattle.reader.proofs.Slots.{few_low}
use Rattle.reader.proofs.head.head_of.Goals as goal

pub returns-then-count-lt1 : goal.returns-then-count-lt1
returns-then-count-lt1 c =
    c.ended.ensures ∙ no_bit _ c.if-count-lt1.true

pub returns-then-count-lt14 : goal.returns-then-count-lt14
returns-then-count-lt14 c =
    c.ended-then-count-lt14.ensures ∙ simp add-zero at (no_master _ c.if-count-lt1.false c.if-count-lt14.true)

pub number-master-requires : goal.number-master-requires
number-master-requires c =
    few_low _ 12 1 c.requires (omega arith)

pub returns-then-count-lt28 : goal.returns-then-count-lt28
returns-then-count-lt28 c =
    rw (c.ended-then-count-lt28.ensures, c.number-master.ensures.0)
    (simp add-zero at (no_slave _ c.if-count-lt14.false c.if-count-lt28.true))

pub number-slave-requires : goal.number-slave-requires
number-slave-requires c =
    few_low _ 12 14 c.requires (omega arith)

pub returns-then-is_nak : goal.returns-then-is_nak
returns-then-is_nak c =
    rw (c.ended-then-is_nak.ensures, c.number-master.ensures.0, c.number-slave.ensures.0)
    (simp add-zero at (nak_slave _ c.if-count-lt28.false (sym c.if-is_nak.ensures)))

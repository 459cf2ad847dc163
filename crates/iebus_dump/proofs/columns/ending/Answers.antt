use mathlib.Core.Path.{ap, sym}
use native.Mathlib.Omega.{arith}
use Rattle.iebus_dump.proofs.Tables.{no_ending}
use Rattle.iebus_dump.specs.Line.{ending_column}
use Rattle.iebus_dump.proofs.columns.ending.Goals as goal

pub returns-in-0 : goal.returns-in-0
unfolding ending_column
returns-in-0 c =
    ap ending_column (sym c.in-0.is)

pub returns-in-1 : goal.returns-in-1
unfolding ending_column
returns-in-1 c =
    ap ending_column (sym c.in-1.is)

pub returns-in-2 : goal.returns-in-2
unfolding ending_column
returns-in-2 c =
    ap ending_column (sym c.in-2.is)

pub returns-in-3 : goal.returns-in-3
unfolding ending_column
returns-in-3 c =
    ap ending_column (sym c.in-3.is)

pub returns-in-4 : goal.returns-in-4
unfolding ending_column
returns-in-4 c =
    ap ending_column (sym c.in-4.is)

pub returns-in-5 : goal.returns-in-5
unfolding ending_column
returns-in-5 c =
    ap ending_column (sym c.in-5.is)

pub returns-in-6 : goal.returns-in-6
unfolding ending_column
returns-in-6 c =
    ap ending_column (sym c.in-6.is)

pub returns-in-7 : goal.returns-in-7
unfolding ending_column
returns-in-7 c =
    ap ending_column (sym c.in-7.is)

pub returns-in-8 : goal.returns-in-8
unfolding ending_column
returns-in-8 c =
    ap ending_column (sym c.in-8.is)

pub returns-in-9 : goal.returns-in-9
unfolding ending_column
returns-in-9 c =
    ap ending_column (sym c.in-9.is)

pub returns-in-10 : goal.returns-in-10
unfolding ending_column
returns-in-10 c =
    ap ending_column (sym c.in-10.is)

pub returns-in_default : goal.returns-in_default
returns-in_default c =
    no_ending _ (omega arith)

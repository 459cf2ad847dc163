use mathlib.Core.Path.{refl, sym, ◌∙◌}
use native.Mathlib.Omega.{arith}
use Rattle.std.proofs.lemmas.Result.{err_from_is_err_and}
use Rattle.contest.proofs.Loops.{found_none, found_some}
use Rattle.roll_keeper.proofs.Ends.{array_long, joins_alike, joins_done, joins_full, joins_other, joins_out}
use Rattle.roll_keeper.proofs.join.Goals as goal

pub returns-in_err-number : goal.returns-in_err-number
returns-in_err-number c =
    let p = err_from_is_err_and c.from_residual.result c.from_residual.ensures.1 in
    let out = c.in_err-number.ensures in
    rw (p.1, p.2, out.1) (joins_out _ _ out.0)

pub returns-in_default : goal.returns-in_default
returns-in_default c =
    joins_other _ _ c.in_ok-number.ensures.0 c.in_default.ensures.cases

pub returns-then-is_some : goal.returns-then-is_some
returns-then-is_some c =
    let whole = c.in-Some.ensures.cases in
    let asked = c.in_ok-number.ensures in
    let found = rw asked.1 at c.place_of.ensures in
    let there = found_some _ _ _ found (sym c.is_some.ensures ∙ c.if-is_some.true) in
    rw (← whole.same) (joins_alike _ _ asked.0 (array_long whole) there)

pub returns-then-end-ge-MOST_CONTENDERS : goal.returns-then-end-ge-MOST_CONTENDERS
returns-then-end-ge-MOST_CONTENDERS c =
    let whole = c.in-Some.ensures.cases in
    let asked = c.in_ok-number.ensures in
    let found = rw asked.1 at c.place_of.ensures in
    let absent = found_none _ _ _ found (sym c.is_some.ensures ∙ c.if-is_some.false) in
    rw (← whole.same) (joins_full _ _ asked.0 (array_long whole) absent (omega arith))

pub returns : goal.returns
returns c =
    let whole = c.in-Some.ensures.cases in
    let asked = c.in_ok-number.ensures in
    let found = rw asked.1 at c.place_of.ensures in
    let absent = found_none _ _ _ found (sym c.is_some.ensures ∙ c.if-is_some.false) in
    rw (← whole.same) (joins_done _ _ asked.0 (array_long whole) absent (omega arith)
    (rw (c.put_request.ensures, c.put_without.ensures, asked.1, c.count-end.ensures) refl))

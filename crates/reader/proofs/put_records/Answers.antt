use native.Mathlib.Omega.{arith}
use Rattle.reader.proofs.Log.{frame_fits, nearer, sought_all, sought_none, sought_one, start_inside}
use Rattle.reader.proofs.put_records.Goals as goal

pub loop-start-init : goal.loop-start-init
loop-start-init c =
    sought_none _ _ _ _ c.next_start-start.ensures

pub overflow_add-at : goal.overflow_add-at
overflow_add-at c =
    let inside = start_inside (rw c.in-Some.is at c.loop-start.invariant) in omega (arith, inside)

pub levels_end-end-requires : goal.levels_end-end-requires
levels_end-end-requires c =
    let inside = start_inside (rw c.in-Some.is at c.loop-start.invariant) in omega (arith, inside)

pub put_record-entry-requires-clause-low : goal.put_record-entry-requires-clause-low
put_record-entry-requires-clause-low c =
    frame_fits (rw c.in-Some.is at c.loop-start.invariant) c.requires c.levels_end-end.ensures

pub loop-start-smaller : goal.loop-start-smaller
loop-start-smaller c =
    let s = rw c.in-Some.is at c.loop-start.invariant in
    let later = c.next_start-start-in-Some in
    rw c.in-Some.is (nearer s c.requires c.levels_end-end.ensures later.result later.ensures)

pub loop-start-preserved : goal.loop-start-preserved
loop-start-preserved c =
    rw c.acked.ensures
    (sought_one (rw c.in-Some.is at c.loop-start.invariant) c.requires c.levels_end-end.ensures
    c.put_record-entry.ensures _ c.next_start-start-in-Some.ensures)

pub returns-clause-records_after : goal.returns-clause-records_after
returns-clause-records_after c =
    let s = rw c.in_default.is at c.loop-start.invariant in (sought_all s c.requires).1

-- Ticket 11: the marks of a list beside those that ticket 1 gave it.
use mathlib.Core.Bool.{Bool, true, false, false≢true}
use mathlib.Core.List.{List, [], map}
use mathlib.Core.Path.{◌≡◌, sym, ap₂, ◌∙◌}
use Prim.Native.Nat.{ℕ, zero, suc, ◌<◌}
use native.Mathlib.Omega.{arith}
use lib.ListN.{get_or-map, get_or, length, length-map}
use Rattle.std.specs.Prelude.{None}
use Rattle.logs.specs.Frames.{frames_of}
use Rattle.logs.specs.Readings.{Reading, equal_frames, equal_said, read_of}
use Rattle.logs.specs.Records.{records_by, records_of}
use Rattle.logs.specs.Relied.{Exactly, Narrower, TookSame, frame_at, mark_at, starts_in}
use Rattle.logs.proofs.Again.{equal_exactly, said_exactly}
use Rattle.logs.proofs.Frames.{frames_counted}
use Rattle.logs.proofs.Marks.{mark_first, mark_next, mark_within, readings_marked}

module _ (long : Bool) (slots : List ℕ) where
  abbrev frames : List Reading
  frames = map (read_of long) (frames_of slots)

  counted : length frames ≡ starts_in slots
  counted = length-map (frames_of slots) (read_of long) ∙ frames_counted slots

  there : (i : ℕ) → get_or frames i (read_of long []) ≡ frame_at long slots i
  there i = get_or-map (read_of long) (frames_of slots) i []

  mark-at : (equal : Reading → Reading → Bool) (i : ℕ) → suc i < length frames
      → mark_at (records_by equal long slots) (suc i) ≡ equal (frame_at long slots i) (frame_at long slots (suc i))
  unfolding records_by
  mark-at equal i inside = mark_next equal (read_of long []) frames i inside ∙ ap₂ equal (there i) (there (suc i))

  -- a mark says what its meaning of equal says
  says : (equal : Reading → Reading → Bool) {Says : Reading → Reading → Type 0}
      → ((before r : Reading) → Exactly (equal before r) (Says before r)) → (i : ℕ) → suc i < length frames
      → Exactly (mark_at (records_by equal long slots) (suc i)) (Says (frame_at long slots i) (frame_at long slots (suc i)))
  says equal exactly i inside =
      rw (mark-at equal i inside) (exactly (frame_at long slots i) (frame_at long slots (suc i)))

  none_new : (i : ℕ) → mark_at (records_of long slots) i ≡ true → mark_at (records_by equal_said long slots) i ≡ true
  unfolding records_by
  none_new zero marked = absurd (false≢true (sym (mark_first equal_frames frames) ∙ marked))
  none_new (suc i) marked =
      let inside = mark_within equal_frames None frames (suc i) marked in
      (says equal_said said_exactly i inside).always ((says equal_frames equal_exactly i inside).only marked).said

  lost : (i : ℕ) → mark_at (records_by equal_said long slots) (suc i) ≡ true
      → mark_at (records_of long slots) (suc i) ≡ false
      → TookSame (frame_at long slots i) (frame_at long slots (suc i)) → ⊥
  unfolding records_by
  lost i marked unmarked took =
      let inside = mark_within equal_said None frames (suc i) marked in
      let said = (says equal_said said_exactly i inside).only marked in
      let is = (says equal_frames equal_exactly i inside).always (record { said = said; took = took }) in
      false≢true (sym unmarked ∙ is)

  pub narrower : Narrower long slots
  unfolding records_by
  narrower =
      record {
        readings = readings_marked equal_frames None frames ∙ sym (readings_marked equal_said None frames);
        old_first = mark_first equal_said frames;
        old_again = λ i inside. says equal_said said_exactly i (omega (arith, inside, counted));
        none_new = none_new;
        lost = lost;
      }

-- The records of some frames: one for each, and the mark of each by the frame before it.
use mathlib.Core.Bool.{Bool, true, false, false≢true}
use mathlib.Core.List.{List, [], ◌∷◌, ◌++◌, map}
use mathlib.Core.Path.{◌≡◌, refl, ap, subst}
use Prim.Native.Nat.{ℕ, zero, suc, ◌<◌}
use native.Mathlib.Omega.{arith}
use lib.Dec.{eqb}
use lib.ListN.{get_or, length}
use Rattle.std.specs.Prelude.{Option, None, Some}
use Rattle.line.specs.Choice.{pick}
use Rattle.line.specs.Numbers.{slot_start}
use Rattle.logs.specs.Frames.{frames_of, levels_from}
use Rattle.logs.specs.Relied.{last_frame, mark_at, remarked}
use Rattle.logs.specs.Readings.{Reading, equal_frames, read_of}
use Rattle.logs.specs.Records.{Record, again_after, marked_after, marked_by}

pub marked_length : (before : Option Reading) (rs : List Reading) → length (marked_after before rs) ≡ length rs
unfolding marked_by
marked_length before [] = refl
marked_length before (r ∷ rs) = ap suc (marked_length (Some r) rs)

-- ---- by any meaning of equal frames, at each place

-- marks change nothing else
pub readings_marked : (equal : Reading → Reading → Bool) (before : Option Reading) (rs : List Reading)
    → map (λ (r : Record). r.reading) (marked_by equal before rs) ≡ rs
unfolding marked_by
readings_marked equal before [] = refl
readings_marked equal before (r ∷ rs) = ap (λ (l : List Reading). r ∷ l) (readings_marked equal (Some r) rs)

-- behind a frame, the mark at a place is by the frame there and the one before it
mark_behind : (equal : Reading → Reading → Bool) (past b : Reading) (rs : List Reading) (i : ℕ) → i < length rs
    → mark_at (marked_by equal (Some b) rs) i ≡ equal (get_or (b ∷ rs) i past) (get_or rs i past)
unfolding marked_by
mark_behind equal past b [] i inside = absurd (omega arith)
mark_behind equal past b (r ∷ rs) zero inside = refl
mark_behind equal past b (r ∷ rs) (suc i) inside = mark_behind equal past r rs i (omega arith)

pub mark_first : (equal : Reading → Reading → Bool) (rs : List Reading) → mark_at (marked_by equal None rs) 0 ≡ false
unfolding marked_by
mark_first equal [] = refl
mark_first equal (r ∷ rs) = refl

pub mark_next : (equal : Reading → Reading → Bool) (past : Reading) (rs : List Reading) (i : ℕ) → suc i < length rs
    → mark_at (marked_by equal None rs) (suc i) ≡ equal (get_or rs i past) (get_or rs (suc i) past)
unfolding marked_by
mark_next equal past [] i inside = absurd (omega arith)
mark_next equal past (r ∷ rs) i inside = mark_behind equal past r rs i (omega arith)

-- past the last frame there is none
pub mark_within : (equal : Reading → Reading → Bool) (before : Option Reading) (rs : List Reading) (i : ℕ)
    → mark_at (marked_by equal before rs) i ≡ true → i < length rs
unfolding marked_by
mark_within equal before [] i marked = absurd (false≢true marked)
mark_within equal before (r ∷ rs) zero marked = omega arith
mark_within equal before (r ∷ rs) (suc i) marked = omega (arith, mark_within equal (Some r) rs i marked)

-- ---- by the present one, in the list

-- records of frames after others are those of the frames alone, save the first mark
marked_behind : (before : Option Reading) (last : Reading) (rs : List Reading) (r : Reading) (later : List Reading)
    → marked_after before (last ∷ rs ++ r ∷ later)
    ≡ marked_after before (last ∷ rs)
    ++ remarked (again_after (last_frame (last ∷ rs)) r) (marked_after None (r ∷ later))
unfolding last_frame marked_by remarked
marked_behind before last [] r later = refl
marked_behind before last (s ∷ rs) r later =
    ap (λ (l : List Record). record { again = again_after before last; reading = last } ∷ l)
    (marked_behind (Some last) s rs r later)

pub marked_cut : (rs : List Reading) (r : Reading) (later : List Reading)
    → marked_after None (rs ++ r ∷ later)
    ≡ marked_after None rs ++ remarked (again_after (last_frame rs) r) (marked_after None (r ∷ later))
unfolding last_frame marked_by remarked
marked_cut [] r later = refl
marked_cut (s ∷ rs) r later = marked_behind None s rs r later

pub marked_next : (before : Option Reading) (frames : List Reading) (done : List Record) (one r : Record) (rs : List Record)
    → marked_after before frames ≡ done ++ one ∷ r ∷ rs → r.again ≡ equal_frames one.reading r.reading
unfolding marked_by
marked_next before [] [] one r rs e = cc
marked_next before [] (d ∷ done) one r rs e = cc
marked_next before (f ∷ []) [] one r rs e = cc
marked_next before (f ∷ g ∷ frames) [] one r rs e = cc
marked_next before (f ∷ frames) (d ∷ done) one r rs e = marked_next (Some f) frames done one r rs cc

pub marked_place : (long : Bool) (before : Option Reading) (frames : List (List ℕ)) (done : List Record) (r : Record)
    (rs : List Record) → marked_after before (map (read_of long) frames) ≡ done ++ r ∷ rs
    → r.reading ≡ read_of long (get_or frames (length done) [])
unfolding marked_by
marked_place long before [] [] r rs e = cc
marked_place long before [] (d ∷ done) r rs e = cc
marked_place long before (f ∷ frames) [] r rs e = cc
marked_place long before (f ∷ frames) (d ∷ done) r rs e =
    marked_place long (Some (read_of long f)) frames done r rs cc

-- what holds of the frame at every start holds of every record's
module _ (long : Bool) (P : Reading → Type 0) (holds : (ws : List ℕ) → P (read_of long (levels_from ws))) where
  pub each_record : (slots : List ℕ) (before : Option Reading) (done : List Record) (r : Record) (rs : List Record)
      → marked_after before (map (read_of long) (frames_of slots)) ≡ done ++ r ∷ rs → P r.reading
  unfolding frames_of marked_by
  each_record [] before [] r rs e = absurd (let z : ◌≡◌ {A = ℕ} 0 1 = cc in omega arith)
  each_record [] before (d ∷ done) r rs e = absurd (let z : ◌≡◌ {A = ℕ} 0 1 = cc in omega arith)
  each_record (w ∷ ws) before done r rs e =
      by (eqb w slot_start) done e (λ before done. each_record ws before done r rs)
    where
      by : (t : Bool) (done : List Record)
          → marked_after before (map (read_of long) (pick t (levels_from ws ∷ frames_of ws) (frames_of ws)))
          ≡ done ++ r ∷ rs
          → ((before : Option Reading) (done : List Record)
          → marked_after before (map (read_of long) (frames_of ws)) ≡ done ++ r ∷ rs → P r.reading)
          → P r.reading
      by true [] e later =
          let here : read_of long (levels_from ws) ≡ r.reading = cc in
          subst P here (holds ws)
      by true (d ∷ done) e later = later (Some (read_of long (levels_from ws))) done cc
      by false done e later = later before done e

-- What a user relies on, of every list.
use mathlib.Core.Bool.{Bool, true, false}
use mathlib.Core.List.{List, [], ◌∷◌, ◌++◌, map, map-append}
use mathlib.Core.Path.{◌≡◌, refl, sym, ap, ◌∙◌}
use Prim.Native.Nat.{ℕ, ◌+◌, ◌≤◌}
use native.Mathlib.Omega.{arith}
use borrow.Author.Tests.{eqb-true, ltb-true}
use lib.Dec.{eqb, ltb}
use lib.ListN.{length, length-append, length-map}
use Rattle.std.specs.Prelude.{Option, None, Some}
use Rattle.line.specs.Choice.{pick}
use Rattle.line.specs.Numbers.{slot_start}
use Rattle.logs.specs.Frames.{frames_of, levels_from}
use Rattle.logs.specs.Relied.{Fresh, Relied, mark_at}
use Rattle.logs.specs.Readings.{equal_frames, Reading, read_of}
use Rattle.logs.specs.Records.{Record, again_after, marked_after, marked_by, records_by}
use Rattle.logs.specs.Records.{records_of, words_of}
use Rattle.logs.proofs.Again.{equal_exactly}
use Rattle.logs.proofs.Apart.{in-range, taken_apart}
use Rattle.logs.proofs.Attempts.{data_says}
use Rattle.logs.proofs.Frames.{all_slots, frames_counted, frames_cut, levels_end, levels_low, list_end}
use Rattle.logs.proofs.Frames.{no_slot, short_list}
use Rattle.logs.proofs.Headers.{attempt_says, cut, header_ends, header_says, sent}
use Rattle.logs.proofs.Marks.{each_record, mark_first, marked_cut, marked_length, marked_next, marked_place}
use Rattle.logs.proofs.Narrower.{narrower}
use Rattle.logs.proofs.Readings.{Bounded, reading_bounded, record_fits}

-- how many words the records of frames have
abbrev word_count : Bool → Option Reading → List (List ℕ) → ℕ
word_count long before frames = length (words_of (marked_after before (map (read_of long) frames)))

-- they are no more than the list's, even with the levels at its front, which may be those of a frame before it
words_fit : (long : Bool) (slots : List ℕ) (before : Option Reading)
    → length (levels_from slots) + word_count long before (frames_of slots) ≤ length slots
unfolding frames_of levels_from marked_by words_of
words_fit long [] before = omega arith
words_fit long (w ∷ ws) before = by (ltb w slot_start) (eqb w slot_start) refl refl (words_fit long ws)
  where
    by : (level start : Bool) → ltb w slot_start ≡ level → eqb w slot_start ≡ start
        → ((before : Option Reading) → length (levels_from ws) + word_count long before (frames_of ws) ≤ length ws)
        → length (pick level (w ∷ levels_from ws) [])
        + word_count long before (pick start (levels_from ws ∷ frames_of ws) (frames_of ws))
        ≤ length (w ∷ ws)
    by true true l s later = absurd (omega (arith, ltb-true w _ l, eqb-true w _ s))
    by true false l s later = omega (arith, later before)
    by false true l s later =
        let r = read_of long (levels_from ws) in
        simp length-append (omega (arith, record_fits long (levels_from ws) (again_after before r), later (Some r)))
    by false false l s later = omega (arith, later before)

fresh : (long : Bool) → Fresh long
unfolding frames_of records_by
fresh long earlier later =
    rw (frames_cut earlier later, map-append)
    (marked_cut (map (read_of long) (frames_of earlier)) (read_of long (levels_from later))
    (map (read_of long) (frames_of later)))

-- of every record, its numbers and its fields
bounded : (long : Bool) (slots : List ℕ) (done : List Record) (r : Record) (rs : List Record)
    → records_of long slots ≡ done ++ r ∷ rs → Bounded r.reading
unfolding records_by
bounded long slots =
    each_record long Bounded (λ ws. reading_bounded long (levels_from ws) (levels_low ws)) slots None

pub relied : (long : Bool) → Relied long
unfolding records_by words_of
relied long = record {
  short_list = short_list;
  no_slot = no_slot;
  all_slots = all_slots;
  levels_end = levels_end;
  list_end = list_end;
  begins = frames_cut;
  counted = frames_counted;
  one_each = λ slots. marked_length None _ ∙ length-map (frames_of slots) (read_of long) ∙ frames_counted slots;
  in_order = λ slots. marked_place long None (frames_of slots);
  fresh = fresh long;
  first = λ slots r rs e.
      ap (λ (l : List Record). mark_at l 0) (sym e) ∙ mark_first equal_frames (map (read_of long) (frames_of slots));
  again = λ slots done before r rs e.
      rw (marked_next None (map (read_of long) (frames_of slots)) done before r rs e)
      (equal_exactly before.reading r.reading);
  narrower = narrower long;
  sent = sent long;
  cut = cut long;
  attempt = attempt_says;
  header_says = header_says long;
  data_says = λ levels e. data_says long levels (header_ends levels ∙ e);
  fields = λ slots done r rs e. (bounded long slots done r rs e).fields;
  ranges = λ slots done r rs e. in-range r.reading (bounded long slots done r rs e);
  apart = λ slots done r rs e. taken_apart r (bounded long slots done r rs e);
  behind = λ r rs. refl;
  fits = λ slots. omega (arith, words_fit long slots None);
}

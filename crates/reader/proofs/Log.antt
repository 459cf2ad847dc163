-- What the loop over the frames of a log keeps from turn to turn.
use mathlib.Core.Bool.{Bool, true, false}
use mathlib.Core.Path.{◌≡◌, refl, sym, ap, ap₂, ◌∙◌}
use mathlib.Core.List.{List, [], ◌∷◌, ◌++◌, append_assoc, append-nil, map}
use Prim.Native.Nat.{ℕ, ◌+◌, ◌-◌, ◌<◌, ◌≤◌}
use native.Mathlib.Omega.{arith}
use borrow.Author.Tests.{eq-eqb, le-ltb, lt-ltb}
use lib.ListN.{drop, get_or, length, length-drop, take}
use lib.Seq.{drop-drop, length-take-le, take_at}
use Rattle.std.specs.Option.{unwrap_or}
use Rattle.std.proofs.Common.{Err, MatchOption, None, Ok, Option, Some}
use Rattle.line.proofs.Filled.{Filled, all_filled, nothing_filled}
use Rattle.line.proofs.Places.{cut}
use Rattle.line.specs.Numbers.{slot_start}
use Rattle.logs.proofs.Frames.{levels_low}
use Rattle.logs.proofs.Readings.{record_fits}
use Rattle.logs.specs.declared.LogError.TheVariants.{NoSlot, ShortList}
use Rattle.logs.specs.Frames.{Low, frames_of, stray_in}
use Rattle.logs.specs.Log.{ReadLog, end_of, written_of}
use Rattle.logs.specs.Readings.{Reading, read_of}
use Rattle.logs.specs.Records.{again_after, marked_after, marked_by, record_words, records_by}
use Rattle.logs.specs.Records.{records_of, words_of}
use Rattle.reader.proofs.Pasting.{paste_behind, paste_end, paste_length}
use Rattle.reader.proofs.Records.{record_of}
use Rattle.reader.specs.declared.entry.Entry.{Entry}
use Rattle.reader.specs.Entries.{EndsBy, acked_in}
use Rattle.reader.specs.Reading.{LevelsEnd, NextStart}
use Rattle.reader.specs.Records.{RecordPut, StandsBefore}
use Rattle.reader.specs.Texts.{pasted}

-- a piece that is written over the next places
piece_filled : {whole first now rest : List ℕ} {i : ℕ} (piece : List ℕ) → Filled whole first now (piece ++ rest) i
    → i + length piece ≤ length now
    → Filled whole first (pasted now i piece) rest (i + length piece)
piece_filled {whole} {first} {now} {rest} {i} piece f room =
    let place = i + length piece in
    record {
      split =
          f.split ∙ sym (append_assoc (take i now) piece rest)
          ∙ ap (λ (l : List ℕ). l ++ rest)
          (sym (take_at (take i now ++ piece) (drop place now) place (paste_end now piece i (omega arith))));
      kept =
          paste_behind now piece i (omega arith)
          ∙ sym (drop-drop (length piece) i now) ∙ ap (drop (length piece)) f.kept
          ∙ drop-drop (length piece) i first;
      long = paste_length now piece i room ∙ f.long;
    }

-- the words of the frames from a place on, behind the frame before
abbrev words_from : Bool → Option Reading → List ℕ → ℕ → List ℕ
words_from long before slots at = words_of (marked_after before (map (read_of long) (frames_of (drop at slots))))

pub record SoFar (long : Bool) (slots first records : List ℕ) (frames next : ℕ) (entry : Option Entry)
    (from : ℕ) : Type 0 where
  pub before : Option Reading
  pub stands : StandsBefore before entry records
  pub filled : Filled (words_of (records_of long slots)) first records (words_from long before slots from) next
  pub count : length (frames_of slots) ≡ frames + length (frames_of (drop from slots))
  pub ahead : next ≤ from
  pub few : frames ≤ from
  pub inside : from ≤ length slots
  pub behind : EndsBy entry next

pub so_far_none : (long : Bool) (slots first : List ℕ) → SoFar long slots first first 0 0 None 0
unfolding records_by
so_far_none long slots first =
    record {
      before = None;
      stands = tt;
      filled = nothing_filled (words_of (records_of long slots)) first;
      count = omega arith;
      ahead = omega arith;
      few = omega arith;
      inside = omega arith;
      behind = tt;
    }

module _ {long : Bool} {slots first records : List ℕ} {frames next : ℕ} {entry : Option Entry} {from : ℕ}
    (s : SoFar long slots first records frames next entry from) {at : ℕ} (start : NextStart slots from at)
    (room : length slots ≤ length first) {end : ℕ} (e : LevelsEnd slots (at + 1) end) where
  abbrev levels : List ℕ
  levels = take (end - (at + 1)) (drop (at + 1) slots)

  pub levels_there : Low levels
  levels_there = rw (← e.levels) (levels_low (drop (at + 1) slots))

  levels_long : length levels ≡ end - (at + 1)
  levels_long =
      length-take-le (end - (at + 1)) (drop (at + 1) slots)
      (omega (arith, length-drop (at + 1) slots, e.within.inside))

  pub record_room : next + 1 + length levels ≤ length records
  record_room =
      omega (arith, levels_long, s.ahead, s.filled.long, start.ahead, start.inside, e.within.ahead, e.within.inside)

  -- the frame at hand, and those behind it
  frames_there : frames_of (drop from slots) ≡ levels ∷ frames_of (drop end slots)
  unfolding frames_of
  frames_there =
      start.passed ∙ ap frames_of (cut slots at start.inside)
      ∙ simp (eq-eqb (get_or slots at 0) slot_start start.there)
      (ap₂ (λ (l : List ℕ) (ls : List (List ℕ)). l ∷ ls) e.levels e.passed)

  words_there : words_from long s.before slots from
      ≡ record_words (record_of long levels (again_after s.before (read_of long levels)))
      ++ words_from long (Some (read_of long levels)) slots end
  unfolding words_of marked_by
  words_there = ap (λ (ls : List (List ℕ)). words_of (marked_after s.before (map (read_of long) ls))) frames_there

  pub next_ahead : {newer : Entry} {after : List ℕ}
      → RecordPut long levels next entry records newer after
      → newer.bytes + acked_in newer ≤ end
  next_ahead put =
      omega (
        arith,
        put.ends false,
        record_fits long levels false,
        levels_long,
        s.ahead,
        start.ahead,
        e.within.ahead,
      )

  pub so_far_one : {newer : Entry} {after : List ℕ}
      → RecordPut long levels next entry records newer after
      → SoFar long slots first after (frames + 1) (newer.bytes + acked_in newer) (Some newer) end
  so_far_one {newer} {after} put =
      let mark = again_after s.before (read_of long levels) in
      let words = record_words (record_of long levels mark) in
      record {
        before = Some (read_of long levels);
        stands = put.stands;
        filled =
            rw (put.ends mark, put.written s.before s.stands)
            (piece_filled words (rw words_there at s.filled)
            (omega (arith, record_room, record_fits long levels mark)));
        count = omega (arith, s.count, ap length frames_there);
        ahead = next_ahead put;
        few = omega (arith, s.few, start.ahead, e.within.ahead);
        inside = e.within.inside;
        behind = omega arith;
      }

pub so_far_all : {long : Bool} {slots first records : List ℕ} {frames next : ℕ} {entry : Option Entry} {from : ℕ}
    → SoFar long slots first records frames next entry from → frames_of (drop from slots) ≡ []
    → length slots ≤ length first
    → (frames ≡ length (frames_of slots))
    × (records ≡ words_of (records_of long slots) ++ drop (length (words_of (records_of long slots))) first)
unfolding words_of marked_by
so_far_all {long} {slots} {first} {records} {frames} {next} {entry} {from} s over room =
    let whole = words_of (records_of long slots) in
    let done : Filled whole first records [] next = rw (ap (λ (ls : List (List ℕ)). words_of
    (marked_after s.before (map (read_of long) ls))) over) at s.filled in
    let long-whole : length whole ≡ next =
    ap length (done.split ∙ append-nil (take next records))
    ∙ length-take-le next records (omega (arith, s.ahead, s.inside, s.filled.long)) in
    (omega (arith, s.count, ap length over), rw long-whole (all_filled done))

-- ---- the next start

-- the frames before the start that is found, if there is one, are written
pub record Sought (long : Bool) (slots first records : List ℕ) (frames next : ℕ) (entry : Option Entry)
    (start : Option ℕ) : Type 0 where
  pub from : ℕ
  pub found : MatchOption start (frames_of (drop from slots) ≡ []) (NextStart slots from)
  pub so_far : SoFar long slots first records frames next entry from

pub sought_none : (long : Bool) (slots first : List ℕ) (start : Option ℕ)
    → MatchOption start (frames_of (drop 0 slots) ≡ []) (NextStart slots 0)
    → Sought long slots first first 0 0 None start
sought_none long slots first start found =
    record { from = 0; found = found; so_far = so_far_none long slots first }

-- the start that is found is in the log
pub start_inside : {long : Bool} {slots first records : List ℕ} {frames next : ℕ} {entry : Option Entry} {at : ℕ}
    → Sought long slots first records frames next entry (Some at) → at < length slots
start_inside {long} {slots} {first} {records} {frames} {next} {entry} {at} s =
    let start : NextStart slots s.from at = s.found in start.inside

module _ {long : Bool} {slots first records : List ℕ} {frames next : ℕ} {entry : Option Entry} {at : ℕ}
    (s : Sought long slots first records frames next entry (Some at)) (room : length slots ≤ length first) {end : ℕ}
    (e : LevelsEnd slots (at + 1) end) where
  abbrev start : NextStart slots s.from at
  start = s.found

  -- the starts behind the frame are nearer to the end
  pub nearer : (later : Option ℕ) → MatchOption later (frames_of (drop end slots) ≡ []) (NextStart slots end)
      → length slots - unwrap_or later (length slots) < length slots - at
  nearer None over = omega (arith, start.inside)
  nearer (Some place) next = omega (arith, start.inside, e.within.ahead, next.ahead, next.inside)

  -- the levels of the frame at hand; there is room for its record
  abbrev frame : List ℕ
  frame = levels s.so_far start room e

  pub frame_fits : Low frame × (next + 1 + length frame ≤ length records)
  frame_fits = (levels_there s.so_far start room e, record_room s.so_far start room e)

  pub sought_one : {newer : Entry} {after : List ℕ}
      → RecordPut long frame next entry records newer after
      → (later : Option ℕ) → MatchOption later (frames_of (drop end slots) ≡ []) (NextStart slots end)
      → Sought long slots first after (frames + 1) (newer.bytes + acked_in newer) (Some newer) later
  sought_one put later found = record { from = end; found = found; so_far = so_far_one s.so_far start room e put }

pub sought_all : {long : Bool} {slots first records : List ℕ} {frames next : ℕ} {entry : Option Entry}
    → Sought long slots first records frames next entry None → length slots ≤ length first
    → (frames ≡ length (frames_of slots))
    × (records ≡ words_of (records_of long slots) ++ drop (length (words_of (records_of long slots))) first)
sought_all s room = so_far_all s.so_far s.found room

-- ---- read_log

module _ (long : Bool) (slots before : List ℕ) where
  pub log_short : length before < length slots → ReadLog long slots before (Err ShortList) before
  unfolding end_of written_of
  log_short short = record { ends = simp (lt-ltb (length before) (length slots) short); written = refl }

  pub log_stray : length slots ≤ length before → stray_in slots ≡ true → ReadLog long slots before (Err NoSlot) before
  unfolding end_of written_of
  log_stray room stray =
      record { ends = simp (le-ltb (length before) (length slots) room, stray); written = refl }

  pub log_read : length slots ≤ length before → stray_in slots ≡ false → {count : ℕ} {after : List ℕ}
      → count ≡ length (frames_of slots)
      → after ≡ words_of (records_of long slots) ++ drop (length (words_of (records_of long slots))) before
      → ReadLog long slots before (Ok count) after
  unfolding end_of written_of
  log_read room clean {count} {after} is put =
      record {
        ends = simp (le-ltb (length before) (length slots) room, clean) (ap (λ (n : ℕ). Ok n) is);
        written = put;
      }

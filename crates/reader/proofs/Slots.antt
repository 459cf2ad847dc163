-- What each loop over the slots of a log keeps from turn to turn.
use mathlib.Core.Logic.{⊎_elim}
use mathlib.Core.Path.{◌≡◌, refl, sym, ap, ◌∙◌}
use mathlib.Core.List.{List, [], ◌∷◌, ◌++◌, append_assoc, append-nil}
use Prim.Native.Nat.{ℕ, zero, suc, ◌+◌, ◌*◌, ◌-◌, ◌^◌, ◌<◌, ◌≤◌}
use native.Mathlib.Nat.{add-zero, pow-suc}
use native.Mathlib.Numerals.{add-one}
use native.Mathlib.Omega.{arith}
use borrow.Author.Count.{below_more}
use borrow.Author.Tests.{le-ltb, lt-ltb, ne_eqb}
use lib.Bits.{and_le_l, and_le_r, bit_or, or_add_and, or_lt}
use lib.ListN.{get_or-eq_default, drop, drop_of_length-le, get_or, length, length-drop, length-take, take}
use lib.Seq.{get_or-drop, get_or-take, slice, slice_empty, take-suc, take_all}
use Rattle.std.specs.List.{AllWithin, HoldsAt}
use Rattle.std.specs.Slice.Iter.{iter_rest}
use Rattle.std.proofs.iter.Yields.{fronts}
use Rattle.std.proofs.lemmas.Iterator.{YieldsList, YieldsList-from_slice}
use Rattle.line.proofs.Either.{below_or_not}
use Rattle.line.proofs.Places.{cut}
use Rattle.line.specs.Numbers.{slot_start}
use Rattle.logs.specs.Fields.{number_from}
use Rattle.logs.specs.Frames.{Low, frames_of, levels_from}
use Rattle.reader.proofs.Parts.{part, slice_more}
use Rattle.reader.specs.Reading.{LevelsAhead, LevelsEnd, NextStart, Overlaid, Within}

-- ---- overlaid

pub overlaid_one : {words : List ℕ} {digits i : ℕ} → Overlaid words i digits
    → Overlaid words (i + 1) (bit_or digits (get_or words i 0))
overlaid_one {words} {digits} {i} o =
    let word = get_or words i 0 in
    let sum = or_add_and digits word in
    record {
      most = below_more (λ (k : ℕ). get_or words k 0 ≤ bit_or digits word) i
          (λ k before. omega (arith, sum, and_le_r digits word, o.most k before))
          (omega (arith, sum, and_le_l digits word));
      fits = λ width low. or_lt width digits word (o.fits width (λ k before. low k (omega arith)))
          (low i (omega arith));
    }

-- ---- next_start

pub record Searched (slots : List ℕ) (from i : ℕ) : Type 0 where
  pub within : Within slots from i
  pub passed : frames_of (drop from slots) ≡ frames_of (drop i slots)

pub searched_none : (slots : List ℕ) (from : ℕ) → from ≤ length slots → Searched slots from from
searched_none slots from h = record { within = record { ahead = omega arith; inside = h }; passed = refl }

pub searched_one : {slots : List ℕ} {from i : ℕ} → Searched slots from i → i < length slots
    → (get_or slots i 0 ≡ slot_start → ⊥) → Searched slots from (i + 1)
unfolding frames_of
searched_one {slots} {from} {i} s more other =
    record {
      within = record { ahead = omega (arith, s.within.ahead); inside = omega arith };
      passed = s.passed ∙ ap frames_of (cut slots i more) ∙ simp (ne_eqb (get_or slots i 0) slot_start other);
    }

pub searched_all : {slots : List ℕ} {from i : ℕ} → Searched slots from i → length slots ≤ i
    → frames_of (drop from slots) ≡ []
unfolding frames_of
searched_all {slots} {from} {i} s over = s.passed ∙ ap frames_of (drop_of_length-le slots {i = i} over)

-- so many slots more are no starts
searched_ahead : (count : ℕ) {slots : List ℕ} {from i : ℕ} → Searched slots from i → i + count ≤ length slots
    → AllWithin (λ x. x ≡ slot_start → ⊥) (drop i slots) 0 count → Searched slots from (i + count)
searched_ahead zero {slots} {from} {i} s room none = rw (add-zero i) s
searched_ahead (suc count) {slots} {from} {i} s room none =
    let one : i + suc count ≡ i + count + 1 = omega arith in
    rw one
    (searched_one
    (searched_ahead count s (omega (arith, room)) (λ k d from below. none k d from (omega (arith, below))))
    (omega (arith, room)) (λ e. none count 0 (omega arith) (omega arith) (get_or-drop i slots count 0 ∙ e)))

-- what an iterator gives over the slots from a place on
pub yields_behind : {s : _} (slots : List ℕ) (from : ℕ) → iter_rest s ≡ take (length slots - from) (drop from slots)
    → YieldsList fronts (λ y. y.now) s (drop from slots)
yields_behind slots from rest =
    YieldsList-from_slice (drop from slots)
    (rest ∙ take_all (length slots - from) (drop from slots) (omega (arith, length-drop from slots)))

module _ (slots : List ℕ) (from : ℕ) (inside : from ≤ length slots) where
  pub start_there : {k : ℕ} → (k < length (drop from slots)) × HoldsAt (λ x. x ≡ slot_start) (drop from slots) k
      × AllWithin (λ x. x ≡ slot_start → ⊥) (drop from slots) 0 k → NextStart slots from (from + k)
  start_there {k} (there, is, none) =
      let within : from + k < length slots = omega (arith, there, length-drop from slots) in
      record {
        ahead = omega arith;
        inside = within;
        passed = (searched_ahead k (searched_none slots from inside) (omega (arith, within)) none).passed;
        there = sym (get_or-drop from slots k 0) ∙ is 0;
      }

  pub start_nowhere : AllWithin (λ x. x ≡ slot_start → ⊥) (drop from slots) 0 (length (drop from slots))
      → frames_of (drop from slots) ≡ []
  start_nowhere none =
      let all : from + length (drop from slots) ≡ length slots = omega (arith, inside, length-drop from slots) in
      let s = searched_ahead (length (drop from slots)) (searched_none slots from inside) (omega (arith, all)) none in
      searched_all s (omega (arith, all))

-- ---- levels_end

pub record Followed (slots : List ℕ) (from i : ℕ) : Type 0 where
  pub searched : Searched slots from i
  pub levels : levels_from (drop from slots) ≡ slice from i slots ++ levels_from (drop i slots)

pub followed_none : (slots : List ℕ) (from : ℕ) → from ≤ length slots → Followed slots from from
followed_none slots from h =
    record {
      searched = searched_none slots from h;
      levels = ap (λ (l : List ℕ). l ++ levels_from (drop from slots)) (sym (slice_empty from slots));
    }

pub followed_one : {slots : List ℕ} {from i : ℕ} → Followed slots from i → i < length slots
    → get_or slots i 0 < slot_start → Followed slots from (i + 1)
unfolding levels_from
followed_one {slots} {from} {i} f more low =
    let level = get_or slots i 0 in
    let next : levels_from (drop i slots) ≡ level ∷ levels_from (drop (i + 1) slots)
    = ap levels_from (cut slots i more) ∙ simp (lt-ltb level slot_start low) in
    record {
      searched = searched_one f.searched more (λ is. omega arith);
      levels =
          f.levels ∙ ap (λ (l : List ℕ). slice from i slots ++ l) next
          ∙ sym (append_assoc (slice from i slots) (level ∷ []) (levels_from (drop (i + 1) slots)))
          ∙ ap (λ (l : List ℕ). l ++ levels_from (drop (i + 1) slots))
          (sym (slice_more slots from i f.searched.within.ahead more));
    }

pub followed_ahead : (count : ℕ) {slots : List ℕ} {from i : ℕ} → Followed slots from i → LevelsAhead count slots i
    → Followed slots from (i + count)
followed_ahead zero {slots} {from} {i} f a = rw (add-zero i) f
followed_ahead (suc count) {slots} {from} {i} f a =
    let one : i + suc count ≡ i + count + 1 = omega arith in
    let there = a.there in
    rw one
    (followed_one
    (followed_ahead count f (record { there = omega arith; low = λ k below. a.low k (omega arith) }))
    (omega arith) (a.low count (omega arith)))

ended : {slots : List ℕ} {from i : ℕ} → Followed slots from i → levels_from (drop i slots) ≡ [] → LevelsEnd slots from i
ended {slots} {from} {i} f none =
    let within = f.searched.within in
    let all : from + (i - from) ≡ i = omega (arith, within.ahead) in
    record {
      within = f.searched.within;
      passed = f.searched.passed;
      levels =
          f.levels ∙ ap (λ (l : List ℕ). slice from i slots ++ l) none
          ∙ append-nil (slice from i slots)
          ∙ sym (part slots from (i - from) (omega arith) ∙ ap (λ (n : ℕ). slice from n slots) all);
    }

pub followed_here : {slots : List ℕ} {from i : ℕ} → Followed slots from i → i < length slots
    → slot_start ≤ get_or slots i 0 → LevelsEnd slots from i
unfolding levels_from
followed_here {slots} {from} {i} f more high =
    ended f (ap levels_from (cut slots i more) ∙ simp (le-ltb (get_or slots i 0) slot_start high))

pub followed_all : {slots : List ℕ} {from i : ℕ} → Followed slots from i → length slots ≤ i → LevelsEnd slots from i
unfolding levels_from
followed_all {slots} {from} {i} f over = ended f (ap levels_from (drop_of_length-le slots {i = i} over))

-- ---- number

-- the first so many levels make a number
pub record Counted (levels : List ℕ) (n i : ℕ) : Type 0 where
  pub number : n ≡ number_from 0 (take i levels)
  pub low : n < 2 ^ i

pub counted_none : (levels : List ℕ) → Counted levels 0 0
unfolding number_from
counted_none levels = record { number = refl; low = omega arith }

number_snoc : (n : ℕ) (levels : List ℕ) (level : ℕ)
    → number_from n (levels ++ level ∷ []) ≡ number_from n levels * 2 + level
unfolding number_from
number_snoc n [] level = refl
number_snoc n (l ∷ levels) level = number_snoc (n * 2 + l) levels level

pub counted_one : {levels : List ℕ} {n i : ℕ} → Counted levels n i → Low levels → i < length levels
    → Counted levels (n * 2 + get_or levels i 0) (i + 1)
counted_one {levels} {n} {i} c low more =
    let level = get_or levels i 0 in
    let next : take (i + 1) levels ≡ take i levels ++ level ∷ [] = rw (add-one i) (take-suc levels i 0 more) in
    let doubled : 2 ^ (i + 1) ≡ 2 ^ i * 2 = rw (add-one i) (pow-suc 2 i) in
    record {
      number =
          ap (λ (k : ℕ). k * 2 + level) c.number
          ∙ sym (number_snoc 0 (take i levels) level) ∙ ap (number_from 0) (sym next);
      low = omega (arith, c.low, low i, doubled);
    }

low_part : (levels : List ℕ) (count place : ℕ) → Low levels → Low (take count (drop place levels))
low_part levels count place low i =
    ⊎_elim
    (λ (below : i < count). rw (get_or-take count (drop place levels) i 0 below, get_or-drop place levels i 0)
    (low (place + i)))
    (λ (over : count ≤ i).
    let past : length (take count (drop place levels)) ≤ i = omega (arith, length-take count (drop place levels)) in
    rw (get_or-eq_default (take count (drop place levels)) 0 past) (omega arith))
    (below_or_not i count)

-- a part of levels of so few has a number
pub few_low : (levels : List ℕ) (count place : ℕ) → Low levels → count ≤ 12
    → (length (take count (drop place levels)) ≤ 12) × Low (take count (drop place levels))
few_low levels count place low few =
    (omega (arith, length-take count (drop place levels)), low_part levels count place low)

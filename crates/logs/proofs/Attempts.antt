-- The data of a frame by its complete attempts: which bytes are ACKed, and how it ends.
use mathlib.Core.Bool.{Bool, true, false, false≢true, ◌||◌}
use mathlib.Core.List.{List, [], ◌∷◌, map}
use mathlib.Core.Logic.{⊎_elim}
use mathlib.Core.Path.{◌≡◌, refl, ap, ap₂, sym, ◌∙◌}
use Prim.Native.Nat.{ℕ, zero, suc, ◌+◌, ◌*◌, ◌-◌, ◌≤◌, ◌<◌}
use native.Mathlib.Omega.{arith}
use borrow.Author.Tests.{eq-eqb, eqb-true, le-ltb, lt-ltb, ltb-false, ne_eqb}
use lib.Dec.{eqb, eqb-suc-suc, eqb-suc-zero, eqb-zero-suc, ltb}
use lib.ListN.{drop, drop_of_length-le, get_or, length, length-drop, take}
use lib.Seq.{take-nil}
use Rattle.line.proofs.Either.{below_or_not, eqb_alike}
use Rattle.line.specs.Choice.{pick}
use Rattle.line.specs.Numbers.{end_broken_data, end_short, end_whole}
use Rattle.logs.specs.Data.{Text, attempt_slots, attempts_of, behind, byte_in, counts, cut_off, text_from, text_of}
use Rattle.logs.specs.Fields.{data_place, end_in, given_in, header}
use Rattle.logs.specs.Readings.{data_of, read_of}
use Rattle.logs.specs.Relied.{DataSays, attempts_in, counted_in, numbers_in, stops, sum_of, sums_from}
use Rattle.logs.proofs.Again.{byte_of}
use Rattle.logs.proofs.Fields.{bytes_least}
use Rattle.logs.proofs.Readings.{all_given}

-- data of so many slots, of which so many bytes are missing and at most so many attempts left, so many since the last
-- byte, by the attempts made
record Says (broadcast : Bool) (missing most since : ℕ) (made : List (List ℕ)) (slots : ℕ) (t : Text) : Type 0 where
  pub acked : map byte_of t.acked ≡ take missing (counted_in broadcast made)
  pub took : (n : ℕ) → sums_from n t.acked ≡ take missing (numbers_in (n + since + 1) broadcast made)
  pub none_left : eqb (length t.acked) missing ≡ true → t.unacked ≡ pick (eqb missing 0) since 0
  pub left : eqb (length t.acked) missing ≡ false → sum_of t.acked + t.unacked ≡ since + length made
  pub ending : t.ending
      ≡ pick (eqb (length t.acked) missing) end_whole
      (pick (eqb (length made) most || eqb slots (length made * attempt_slots)) end_short end_broken_data)

either_way : (b : Bool) (n : ℕ) → pick b n n ≡ n
either_way true n = refl
either_way false n = refl

-- none is there
none_made : (broadcast : Bool) (missing most since : ℕ) (levels : List ℕ)
    → Says broadcast (suc missing) (suc most) since [] (length levels) (text_of [] since (cut_off levels))
unfolding counted_in numbers_in sum_of sums_from
none_made broadcast missing most since levels = record {
  acked = refl;
  took = λ n. refl;
  none_left = λ e. absurd (omega (arith, eqb-true 0 (suc missing) e));
  left = λ e. omega arith;
  ending = rw (eqb-zero-suc missing, eqb-zero-suc most);
}

-- the one at the front: what is made and what is there grow together
as_before : (made most : ℕ) (levels : List ℕ) → attempt_slots ≤ length levels
    → (eqb made most || eqb (length (drop attempt_slots levels)) (made * attempt_slots))
    ≡ (eqb (suc made) (suc most) || eqb (length levels) (suc made * attempt_slots))
as_before made most levels there =
    let left = length-drop attempt_slots levels in
    ap₂ ◌||◌ (sym (eqb-suc-suc made most))
    (eqb_alike (length (drop attempt_slots levels)) (made * attempt_slots) (length levels) (suc made * attempt_slots)
    (λ e. omega arith) (λ e. omega arith))

module _ {broadcast : Bool} {missing most : ℕ} {levels : List ℕ} {made : List (List ℕ)} {t : Text} where
  one_counts : (since : ℕ) → attempt_slots ≤ length levels → counts broadcast levels ≡ true
      → Says broadcast missing most 0 made (length (drop attempt_slots levels)) t
      → Says broadcast (suc missing) (suc most) since (levels ∷ made) (length levels)
      (behind (byte_in levels) (since + 1) t)
  unfolding counted_in numbers_in sum_of sums_from
  one_counts since there counted s = record {
    acked = rw counted (ap (λ (l : List ℕ). byte_in levels ∷ l) s.acked);
    took = λ n.
        let here : n + (since + 1) ≡ n + since + 1 = omega arith in
        let next : n + since + 1 + 0 + 1 ≡ n + since + 1 + 1 = omega arith in
        rw (counted, here, ← next) (ap (λ (l : List ℕ). (n + since + 1) ∷ l) (s.took (n + since + 1)));
    none_left = λ e.
        rw (eqb-suc-zero missing)
        (s.none_left (sym (eqb-suc-suc (length t.acked) missing) ∙ e) ∙ either_way (eqb missing 0) 0);
    left = λ e. omega (arith, s.left (sym (eqb-suc-suc (length t.acked) missing) ∙ e));
    ending = rw (eqb-suc-suc (length t.acked) missing, ← as_before (length made) most levels there) s.ending;
  }

  one_missed : (since : ℕ) → attempt_slots ≤ length levels → counts broadcast levels ≡ false
      → Says broadcast (suc missing) most (since + 1) made (length (drop attempt_slots levels)) t
      → Says broadcast (suc missing) (suc most) since (levels ∷ made) (length levels) t
  unfolding counted_in numbers_in
  one_missed since there missed s = record {
    acked = rw missed s.acked;
    took = λ n.
        let next : n + (since + 1) + 1 ≡ n + since + 1 + 1 = omega arith in
        rw (missed, ← next) (s.took n);
    none_left = λ e. s.none_left e ∙ rw (eqb-suc-zero missing);
    left = λ e. omega (arith, s.left e);
    ending = rw (← as_before (length made) most levels there) s.ending;
  }

text_says : (most : ℕ) (broadcast : Bool) (missing since : ℕ) (levels : List ℕ)
    → Says broadcast missing most since (attempts_in most levels) (length levels)
    (text_from most broadcast missing since levels)
unfolding text_from attempts_in counted_in numbers_in sum_of sums_from
text_says zero broadcast zero since levels = record {
  acked = refl;
  took = λ n. refl;
  none_left = λ e. refl;
  left = λ e. omega arith;
  ending = refl;
}
text_says zero broadcast (suc missing) since levels = record {
  acked = refl;
  took = λ n. refl;
  none_left = λ e. absurd (omega (arith, eqb-true 0 (suc missing) e));
  left = λ e. omega arith;
  ending = rw (eqb-suc-zero missing, eqb-zero-suc missing);
}
text_says (suc most) broadcast zero since levels = record {
  acked = refl;
  took = λ n. refl;
  none_left = λ e. refl;
  left = λ e. absurd (false≢true (sym e));
  ending = refl;
}
text_says (suc most) broadcast (suc missing) since levels =
    let less : suc missing - 1 ≡ missing = omega arith in
    rw (eqb-suc-zero missing, less)
    (by (ltb (length levels) attempt_slots) (counts broadcast levels) refl refl
    (text_says most broadcast missing 0 (drop attempt_slots levels))
    (text_says most broadcast (suc missing) (since + 1) (drop attempt_slots levels)))
  where
    by : (cut here : Bool) → ltb (length levels) attempt_slots ≡ cut → counts broadcast levels ≡ here
        → {made : List (List ℕ)} {one none : Text}
        → Says broadcast missing most 0 made (length (drop attempt_slots levels)) one
        → Says broadcast (suc missing) most (since + 1) made (length (drop attempt_slots levels)) none
        → Says broadcast (suc missing) (suc most) since (pick cut [] (levels ∷ made)) (length levels)
        (pick cut (text_of [] since (cut_off levels)) (pick here (behind (byte_in levels) (since + 1) one) none))
    by true here e c s t = none_made broadcast missing most since levels
    by false true e c s t = one_counts since (ltb-false _ _ e) c s
    by false false e c s t = one_missed since (ltb-false _ _ e) c t

-- no attempt is left untold
all_told : {broadcast : Bool} {missing most slots : ℕ} {made : List (List ℕ)} {t : Text}
    → Says broadcast missing most 0 made slots t
    → sum_of t.acked + t.unacked ≡ pick (eqb (length t.acked) missing) (sum_of t.acked) (length made)
all_told {missing = missing} {made = made} {t = t} s = by (eqb (length t.acked) missing) refl
  where
    by : (whole : Bool) → eqb (length t.acked) missing ≡ whole
        → sum_of t.acked + t.unacked ≡ pick whole (sum_of t.acked) (length made)
    by true e = omega (arith, s.none_left e, either_way (eqb missing 0) 0)
    by false e = omega (arith, s.left e)

-- ---- a frame's

attempts_least : (long broadcast : Bool) (bytes : ℕ) → 1 ≤ bytes → 1 ≤ attempts_of long broadcast bytes
attempts_least true true bytes h = omega arith
attempts_least true false bytes h = omega arith
attempts_least false true bytes h = omega arith
attempts_least false false bytes h = omega arith

-- where slots are there, the last of them is an attempt's only if there is one
one_there : (most made slots : ℕ) → 0 < slots
    → (eqb made most || eqb slots (made * attempt_slots)) ≡ stops most made slots
one_there most zero slots some = ap (◌||◌ (eqb 0 most)) (ne_eqb slots 0 (λ e. omega arith))
one_there most (suc made) slots some = rw (lt-ltb 0 (suc made) (omega arith))

none_in : (most : ℕ) → attempts_in most [] ≡ []
unfolding attempts_in
none_in zero = refl
none_in (suc most) = refl

module _ (long : Bool) (levels : List ℕ) (come : end_in header levels ≡ end_broken_data) where
  abbrev bytes : ℕ
  bytes = get_or (given_in header levels) 4 0

  abbrev broadcast : Bool
  broadcast = eqb (get_or (given_in header levels) 0 0) 0

  abbrev most : ℕ
  most = attempts_of long broadcast bytes

  with_data : data_place < length levels → DataSays long (drop data_place levels) (read_of long levels)
  unfolding data_of read_of
  with_data there =
      let s = text_says most broadcast bytes 0 (drop data_place levels) in
      let left = length-drop data_place levels in
      rw (eq-eqb (end_in header levels) end_broken_data come, lt-ltb data_place (length levels) there)
      (record {
        acked = s.acked;
        took = s.took 0;
        unacked = all_told s;
        ending = rw (← one_there most
            (length (attempts_in most (drop data_place levels)))
            (length (drop data_place levels)) (omega arith)) s.ending;
      })

  without : length levels ≤ data_place → DataSays long (drop data_place levels) (read_of long levels)
  unfolding counted_in numbers_in sum_of sums_from data_of read_of
  without over =
      let some = bytes_least levels (all_given levels come) in
      let least = attempts_least long broadcast bytes some in
      rw (drop_of_length-le levels over, le-ltb data_place (length levels) over, come)
      (record {
        acked = rw (none_in most) (sym (take-nil bytes));
        took = rw (none_in most) (sym (take-nil bytes));
        unacked = rw (none_in most, ne_eqb 0 bytes (λ e. omega arith));
        ending = rw (none_in most, ne_eqb 0 bytes (λ e. omega arith), ne_eqb 0 most (λ e. omega arith));
      })

  pub data_says : DataSays long (drop data_place levels) (read_of long levels)
  data_says = ⊎_elim with_data without (below_or_not data_place (length levels))

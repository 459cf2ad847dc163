-- What each loop keeps from turn to turn.
use mathlib.Core.List.{List, [], ◌∷◌, ◌++◌, map}
use mathlib.Core.Logic.{⊎_elim}
use mathlib.Core.Path.{◌≡◌, refl, sym, ap, ◌∙◌}
use Prim.Native.Nat.{ℕ, zero, suc, min, ◌+◌, ◌-◌, ◌*◌, ◌/◌, ◌%◌, ◌≤◌, ◌<◌}
use native.Mathlib.Omega.{arith}
use borrow.Author.Tests.{eq-eqb, eqb-true, le-leb, le-ltb, lt-leb, lt-ltb, ne_eqb}
use lib.Dec.{eqb, ltb}
use lib.ListN.{get_or-append, get_or-eq_default, drop, get_or, get_or-replicate, length}
use lib.ListN.{length-append, length-drop, length-replicate, length-set, length-take, replicate, set, take}
use borrow.Rule.Slice.PartMut.{mid_len, mid_of, put_mid, same_len_mid}
use Rattle.std.specs.List.{fold, range_with_len, reduce}
use Rattle.std.specs.Prelude.{MatchOption, None, Option, Some}
use Rattle.std.proofs.lemmas.List.FromFn.{get_or-map-range_with_len, length-map-range_with_len}
use Rattle.std.proofs.lemmas.Slice.{take-put_mid}
use lib.Seq.{take_all, ext_get_or, get_or-append-add, get_or-set_other, get_or-set_same, get_or-take, length-take-le}
use Rattle.line.specs.Choice.{pick}
use Rattle.line.specs.Numbers.{most_contenders, roll_bytes}
use Rattle.line.proofs.Either.{below_or_not, same_or_not}
use Rattle.line.proofs.First.{first_holds, first_is}
use Rattle.contest.specs.Deciding.{Found}
use Rattle.rolls.specs.Kept.{count_in, pairs, request_at, requests_in}
use Rattle.rolls.specs.Roll.{without}
use Rattle.rolls.proofs.Bytes.{pair_high, pair_low, pairs_length, past_count, requests_at, requests_length}
use Rattle.roll_keeper.specs.Keeping.{Lowest, from_place, left_at, number_place, put_of}

-- ---- place_of: what std's `find` finds

pub place_found : (bytes : List ℕ) (n : ℕ) (r : Option ℕ)
    → MatchOption r ((k : ℕ) → 0 ≤ k → k < count_in bytes → request_at bytes k ≡ n → ⊥)
    (λ i. (0 ≤ i) × (i < count_in bytes) × (request_at bytes i ≡ n)
    × ((k : ℕ) → 0 ≤ k → k < i → request_at bytes k ≡ n → ⊥))
    → Found (requests_in bytes) (number_place n (requests_in bytes)) r
place_found bytes n None none =
    let place = number_place n (requests_in bytes) in
    let many = requests_length bytes in
    ⊎_elim
    (λ h. let inside : place < count_in bytes = omega (arith, h, many) in
    absurd (none place (omega arith) inside (sym (requests_at bytes place inside)
    ∙ eqb-true _ n (first_holds (λ x. eqb x n) (requests_in bytes) 0 h))))
    (λ h. h)
    (below_or_not place (length (requests_in bytes)))
place_found bytes n (Some i) (_, inside, here, before) =
    let many = requests_length bytes in (
      omega (arith, inside, many),
      first_is (λ x. eqb x n) (requests_in bytes) 0 i (omega (arith, inside, many))
          (eq-eqb _ n (requests_at bytes i inside ∙ here))
          (λ k h. let at = requests_at bytes k (omega (arith, h, inside)) in
          ne_eqb _ n (λ e. before k (omega arith) h (sym at ∙ e))),
    )

-- ---- lowest: what std's `min` finds

-- the lowest of some is that of the lower of the first two and the others
module _ (x y : ℕ) (ys : List ℕ) (n : ℕ) (low : (i : ℕ) → i < suc (length ys) → n ≤ get_or (min x y ∷ ys) i 0) where
  low_both : (i : ℕ) → i < suc (suc (length ys)) → n ≤ get_or (x ∷ y ∷ ys) i 0
  low_both zero h = omega (arith, low 0 (omega arith))
  low_both (suc zero) h = omega (arith, low 0 (omega arith))
  low_both (suc (suc i)) h = low (suc i) (omega (arith, h))

  lowest_both : (p : ℕ) → p < suc (length ys) → get_or (min x y ∷ ys) p 0 ≡ n → Lowest (x ∷ y ∷ ys) n
  lowest_both zero h is =
      ⊎_elim (λ lt. record { place = 1; within = omega arith; is = omega (arith, is, lt); low = low_both })
      (λ le. record { place = 0; within = omega arith; is = omega (arith, is, le); low = low_both })
      (below_or_not y x)
  lowest_both (suc p) h is =
      record { place = suc (suc p); within = omega (arith, h); is = is; low = low_both }

lowest_from : (x : ℕ) (xs : List ℕ) → Lowest (x ∷ xs) (fold min x xs)
lowest_from x [] = record { place = 0; within = omega arith; is = refl; low = go }
  where
    go : (i : ℕ) → i < 1 → x ≤ get_or (x ∷ []) i 0
    go zero h = omega arith
    go (suc i) h = absurd (omega (arith, h))
lowest_from x (y ∷ ys) =
    let l = lowest_from (min x y) ys in
    lowest_both x y ys (fold min (min x y) ys) l.low l.place l.within l.is

lowest_found : (ns : List ℕ) {many : ℕ} {r : Option ℕ} → length ns ≡ many → r ≡ reduce min ns
    → MatchOption r (many ≡ 0) (λ n. Lowest ns n)
lowest_found [] long e = rw e (sym long)
lowest_found (x ∷ xs) long e = rw e (lowest_from x xs)

-- the requests as the code reads them, place by place
requests_read : (bytes : List ℕ) → map (request_at bytes) (range_with_len 0 (count_in bytes)) ≡ requests_in bytes
requests_read bytes =
    let read = map (request_at bytes) (range_with_len 0 (count_in bytes)) in
    let many : length read ≡ count_in bytes = length-map-range_with_len (request_at bytes) 0 (count_in bytes) in
    ext_get_or 0 read (requests_in bytes) (many ∙ sym (requests_length bytes))
    (λ i h. let inside : i < count_in bytes = omega (arith, h, many) in
    get_or-map-range_with_len (request_at bytes) 0 (count_in bytes) i i 0 inside (omega arith)
    ∙ sym (requests_at bytes i inside))

pub lowest_read : (bytes : List ℕ) {r : Option ℕ}
    → r ≡ reduce min (map (request_at bytes) (range_with_len 0 (count_in bytes)))
    → MatchOption r (count_in bytes ≡ 0) (λ n. Lowest (requests_in bytes) n)
lowest_read bytes {r} e =
    lowest_found (requests_in bytes) (requests_length bytes) (e ∙ ap (reduce min) (requests_read bytes))

-- ---- put_without: what is read

-- a list without what stands at `gone`, place by place
without_front : (gone : ℕ) (l : List ℕ) (i : ℕ) → i < gone → get_or (without gone l) i 0 ≡ get_or l i 0
without_front zero l i h = absurd (omega (arith, h))
without_front (suc gone) [] i h = refl
without_front (suc gone) (x ∷ xs) zero h = refl
without_front (suc gone) (x ∷ xs) (suc i) h = without_front gone xs i (omega (arith, h))

without_behind : (gone : ℕ) (l : List ℕ) (i : ℕ) → gone ≤ i → get_or (without gone l) i 0 ≡ get_or l (i + 1) 0
without_behind zero [] i h = refl
without_behind zero (x ∷ xs) i h = sym (past_count x xs (i + 1) i refl)
without_behind (suc gone) [] i h = refl
without_behind (suc gone) (x ∷ xs) zero h = absurd (omega (arith, h))
without_behind (suc gone) (x ∷ xs) (suc i) h =
    without_behind gone xs i (omega (arith, h)) ∙ sym (past_count x xs (suc i + 1) (i + 1) (omega arith))

-- what stands at a place, 0 past the end
or_none : (bytes : List ℕ) (p : ℕ) → pick (ltb p (count_in bytes)) (request_at bytes p) 0 ≡ get_or (requests_in bytes) p 0
or_none bytes p =
    ⊎_elim (λ h. rw (lt-ltb p (count_in bytes) h) (sym (requests_at bytes p h)))
    (λ h. rw (le-ltb p (count_in bytes) h)
    (sym (get_or-eq_default (requests_in bytes) 0 (omega (arith, h, requests_length bytes)))))
    (below_or_not p (count_in bytes))

from_front : (gone i : ℕ) → i < gone → from_place gone i ≡ i
from_front gone i h = rw (lt-leb gone i h) (omega arith)

from_behind : (gone i : ℕ) → gone ≤ i → from_place gone i ≡ i + 1
from_behind gone i h = rw (le-leb gone i h) refl

left-at : (bytes : List ℕ) (gone i : ℕ)
    → left_at bytes (count_in bytes) gone i ≡ get_or (without gone (requests_in bytes)) i 0
left-at bytes gone i =
    or_none bytes (from_place gone i)
    ∙ ⊎_elim
    (λ h. ap (λ (p : ℕ). get_or (requests_in bytes) p 0) (from_front gone i h)
    ∙ sym (without_front gone (requests_in bytes) i h))
    (λ h. ap (λ (p : ℕ). get_or (requests_in bytes) p 0) (from_behind gone i h)
    ∙ sym (without_behind gone (requests_in bytes) i h))
    (below_or_not i gone)

-- no request is read from in front of its place
pub from_on : (gone i : ℕ) → i ≤ from_place gone i
from_on gone i = omega arith

-- ---- put_without: i requests have been written

pub record Spelled (ns first now : List ℕ) (i : ℕ) : Type 0 where
  pub long : length now ≡ length first
  pub count : get_or now 0 0 ≡ get_or first 0 0
  pub low : (j : ℕ) → j < i → get_or now (2 * j + 1) 0 ≡ get_or ns j 0 % 256
  pub high : (j : ℕ) → j < i → get_or now (2 * j + 2) 0 ≡ get_or ns j 0 / 256
  pub kept : (m : ℕ) → 2 * i < m → get_or now m 0 ≡ get_or first m 0

module _ (l : List ℕ) (p n : ℕ) where
  put_other : (m : ℕ) → (m ≡ 2 * p + 1 → ⊥) → (m ≡ 2 * p + 2 → ⊥) → get_or (put_of p n l) m 0 ≡ get_or l m 0
  put_other m ne nor =
      get_or-set_other (set l (2 * p + 1) (n % 256)) (2 * p + 2) m (n / 256) 0 nor
      ∙ get_or-set_other l (2 * p + 1) m (n % 256) 0 ne

  put_low : 2 * p + 1 < length l → get_or (put_of p n l) (2 * p + 1) 0 ≡ n % 256
  put_low h =
      get_or-set_other (set l (2 * p + 1) (n % 256)) (2 * p + 2) (2 * p + 1) (n / 256) 0 (λ e. omega (arith, e))
      ∙ get_or-set_same l (2 * p + 1) (n % 256) 0 h

  put_high : 2 * p + 2 < length l → get_or (put_of p n l) (2 * p + 2) 0 ≡ n / 256
  put_high h =
      get_or-set_same (set l (2 * p + 1) (n % 256)) (2 * p + 2) (n / 256) 0
      (omega (arith, h, length-set l (2 * p + 1) (n % 256)))

  put_length : length (put_of p n l) ≡ length l
  put_length = length-set (set l (2 * p + 1) (n % 256)) (2 * p + 2) (n / 256) ∙ length-set l (2 * p + 1) (n % 256)

pub one_spelled : {ns first now : List ℕ} {i n : ℕ} → Spelled ns first now i → 2 * i + 2 < length now
    → n ≡ get_or ns i 0 → Spelled ns first (put_of i n now) (i + 1)
one_spelled {ns} {first} {now} {i} {n} s room is = record {
  long = put_length now i n ∙ s.long;
  count = put_other now i n 0 (λ e. omega (arith, e)) (λ e. omega (arith, e)) ∙ s.count;
  low = λ j h. ⊎_elim
      (λ (e : j ≡ i). rw (e) (put_low now i n (omega (arith, room)) ∙ ap (λ (x : ℕ). x % 256) is))
      (λ ne. put_other now i n (2 * j + 1) (λ e. ne (omega (arith, e))) (λ e. omega (arith, e))
      ∙ s.low j (omega (arith, h, ne)))
      (same_or_not j i);
  high = λ j h. ⊎_elim
      (λ (e : j ≡ i). rw (e) (put_high now i n room ∙ ap (λ (x : ℕ). x / 256) is))
      (λ ne. put_other now i n (2 * j + 2) (λ e. omega (arith, e)) (λ e. ne (omega (arith, e)))
      ∙ s.high j (omega (arith, h, ne)))
      (same_or_not j i);
  kept = λ m h. put_other now i n m (λ e. omega (arith, e, h)) (λ e. omega (arith, e, h))
      ∙ s.kept m (omega (arith, h));
}

-- one less, or as many
pub fewer : (gone : ℕ) (l : List ℕ) → length (without gone l) ≤ length l
fewer gone l =
    omega (arith, length-append (take gone l) (drop (suc gone) l), length-take gone l, length-drop (suc gone) l)

-- what is read next is as it was
request_kept : {ns first now : List ℕ} {i : ℕ} → Spelled ns first now i → (p : ℕ) → i ≤ p
    → request_at now p ≡ request_at first p
request_kept s p h =
    omega (arith, s.kept (2 * p + 1) (omega (arith, h)), s.kept (2 * p + 2) (omega (arith, h)))

pub left_read : {ns first now : List ℕ} {i : ℕ} (gone : ℕ) → Spelled ns first now i
    → left_at now (count_in first) gone i ≡ get_or (without gone (requests_in first)) i 0
left_read {ns} {first} {now} {i} gone s =
    rw (request_kept s (from_place gone i) (from_on gone i)) (left-at first gone i)

-- ---- put_without: 0 behind the last

abbrev pub cleared_of : ℕ → List ℕ → List ℕ
cleared_of from bytes = take from bytes ++ replicate (length bytes - from) 0

-- what `fill` leaves of all bytes, where it has filled those from a place on
pub filled_behind : (from : ℕ) (bytes ys : List ℕ) → length bytes ≡ roll_bytes → from ≤ roll_bytes
    → ys ≡ replicate (length (mid_of from (roll_bytes - from) bytes)) 0
    → put_mid from (roll_bytes - from) bytes ys ≡ cleared_of from bytes
filled_behind from bytes ys size h e =
    let mid = mid_len from roll_bytes bytes (omega (arith, size)) in
    let many : length ys ≡ length (mid_of from (roll_bytes - from) bytes)
    = ap (length {A = ℕ}) e ∙ length-replicate _ 0 in
    let long = same_len_mid from (roll_bytes - from) bytes ys many in
    sym (take_all roll_bytes (put_mid from (roll_bytes - from) bytes ys) (omega (arith, long, size)))
    ∙ take-put_mid from (roll_bytes - from) bytes ys roll_bytes (omega (arith, many, mid, h)) (omega (arith, size, h))
    ∙ ap (λ (l : List ℕ). take from bytes ++ l) (e ∙ ap (λ (n : ℕ). replicate n 0) (omega (arith, mid, size)))

-- ---- put_without: where so many are written, 0 behind them is what stands for no request

module _ {ns first now : List ℕ} {i : ℕ} (end : ℕ) (s : Spelled ns first now i) (all : end ≤ i) (few : length ns ≤ end)
    (most : end ≤ most_contenders) (size : length first ≡ roll_bytes) where
  abbrev from : ℕ
  from = 2 * end + 1

  abbrev zeros : List ℕ
  zeros = replicate (length now - from) 0

  front : length (take from now) ≡ from
  front = length-take-le from now (omega (arith, most, s.long, size))

  long : length (cleared_of from now) ≡ length now
  long =
      length-append (take from now) zeros
      ∙ omega (arith, front, length-replicate {A = ℕ} (length now - from) 0, most, s.long, size)

  -- a place that was written, and one behind
  written : (m : ℕ) → m < from → get_or (cleared_of from now) m 0 ≡ get_or now m 0
  written m h = get_or-append (take from now) zeros 0 m (omega (arith, h, front)) ∙ get_or-take from now m 0 h

  behind : (m : ℕ) → from ≤ m → m < roll_bytes → get_or (cleared_of from now) m 0 ≡ 0
  behind m h inside =
      ap (λ (k : ℕ). get_or (cleared_of from now) k 0) (omega (arith, h, front))
      ∙ get_or-append-add (take from now) zeros (m - from) 0
      ∙ get_or-replicate (length now - from) (m - from) 0 0 (omega (arith, h, inside, s.long, size))

  none_at : (j : ℕ) → end ≤ j → get_or ns j 0 ≡ 0
  none_at j h = get_or-eq_default ns 0 (omega (arith, few, h))

  pub cleared_spelled : Spelled ns first (cleared_of from now) most_contenders
  cleared_spelled = record {
    long = long ∙ s.long;
    count = written 0 (omega arith) ∙ s.count;
    low = λ j h. ⊎_elim (λ lt. written (2 * j + 1) (omega (arith, lt)) ∙ s.low j (omega (arith, lt, all)))
        (λ le. behind (2 * j + 1) (omega (arith, le)) (omega (arith, h)) ∙ sym (ap (λ (x : ℕ). x % 256) (none_at j le)))
        (below_or_not j end);
    high = λ j h. ⊎_elim (λ lt. written (2 * j + 2) (omega (arith, lt)) ∙ s.high j (omega (arith, lt, all)))
        (λ le. behind (2 * j + 2) (omega (arith, le)) (omega (arith, h)) ∙ sym (ap (λ (x : ℕ). x / 256) (none_at j le)))
        (below_or_not j end);
    kept = λ m h. get_or-eq_default (cleared_of from now) 0 (omega (arith, h, long, s.long, size))
        ∙ sym (get_or-eq_default first 0 (omega (arith, h, size)));
  }

pub all_spelled : {ns first now : List ℕ} → Spelled ns first now most_contenders → length first ≡ roll_bytes
    → now ≡ get_or first 0 0 ∷ pairs most_contenders ns
all_spelled {ns} {first} {now} s size =
    ext_get_or 0 now (get_or first 0 0 ∷ pairs most_contenders ns)
    (omega (arith, s.long, size, pairs_length most_contenders ns)) at
  where
    at : (m : ℕ) → m < length now → get_or now m 0 ≡ get_or (get_or first 0 0 ∷ pairs most_contenders ns) m 0
    at zero h = s.count
    at (suc k) h =
        let j = k / 2 in
        let inside : j < 50 = omega (arith, h, s.long, size) in
        ⊎_elim
        (λ (e : k ≡ 2 * j). ap (λ (m : ℕ). get_or now m 0) (omega (arith, e)) ∙ s.low j inside
        ∙ sym (ap (λ (m : ℕ). get_or (pairs most_contenders ns) m 0) e ∙ pair_low most_contenders ns j inside))
        (λ ne. let e : k ≡ 2 * j + 1 = omega (arith, ne) in
        ap (λ (m : ℕ). get_or now m 0) (omega (arith, e)) ∙ s.high j inside
        ∙ sym (ap (λ (m : ℕ). get_or (pairs most_contenders ns) m 0) e ∙ pair_high most_contenders ns j inside))
        (same_or_not k (2 * j))

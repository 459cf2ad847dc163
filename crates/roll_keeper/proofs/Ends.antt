-- What each call comes to, one law for each way that it ends.
use mathlib.Core.Bool.{true, false, not}
use mathlib.Core.List.{List, [], ◌∷◌, ◌++◌, append-nil, map}
use mathlib.Core.Path.{◌≡◌, refl, sym, ap, ap₂, ◌∙◌}
use Prim.Native.Nat.{ℕ, zero, suc, ◌+◌, ◌-◌, ◌*◌, ◌/◌, ◌%◌, ◌≤◌, ◌<◌}
use native.Mathlib.Omega.{arith}
use borrow.Author.Tests.{le-leb, le-ltb, lt-leb, lt-ltb}
use lib.ListN.{drop, drop_of_length-le, get_or, length, length-append, length-drop, length-take, replicate, set, take}
use lib.Seq.{take_all}
use Rattle.std.specs.Array.{IsWholeChunk}
use Rattle.line.specs.Numbers.{most_contenders, roll_bytes}
use Rattle.line.specs.Places.{placed}
use Rattle.contenders.specs.Contest.{in_range, number_of}
use Rattle.contenders.specs.declared.Contender.{Contender}
use Rattle.rolls.specs.Kept.{Begins, Joins, Leaves, Shows, bytes_of, count_in, join_end_in, kept_of, leave_end_in, number_for}
use Rattle.rolls.specs.Kept.{pairs, request_at, request_in, requests_in, roll_in, size_end_in, word_after, word_for}
use Rattle.rolls.specs.Roll.{Absent, Alike, BadSize, Change, Done, Full, OutOfRange, done, join_end, joined, leave_end}
use Rattle.rolls.specs.Roll.{left, place_of, there, without}
use Rattle.rolls.proofs.Bytes.{requests_length}
use Rattle.rolls.proofs.Changes.{in-range}
use Rattle.rolls.proofs.Relied.{other-size, right_size}
use Rattle.rolls.proofs.Winner.{shown_none}
use Rattle.roll_keeper.specs.Keeping.{Lowest, number_place, put_of, written_of}
use Rattle.roll_keeper.proofs.Numbers.{numbers_joined, numbers_left, number-place, roll_length, shown_lowest}

-- a roll's bytes as an array are as many
pub array_long : {xs ys : List ℕ} → IsWholeChunk xs ys roll_bytes → length ys ≡ roll_bytes
array_long whole = ap (length {A = ℕ}) whole.same ∙ whole.long

-- ---- a request written behind the last

-- a store two places further on, or one
set_past_pair : (a b : ℕ) (l : List ℕ) (v i p : ℕ) → i ≡ p + 2 → set (a ∷ b ∷ l) i v ≡ a ∷ b ∷ set l p v
set_past_pair a b l v i p e = let is : i ≡ suc (suc p) = omega (arith, e) in rw (is) refl

pairs_put : (k : ℕ) (ns : List ℕ) (n : ℕ) → length ns < k
    → set (set (pairs k ns) (2 * length ns) (n % 256)) (2 * length ns + 1) (n / 256) ≡ pairs k (ns ++ n ∷ [])
unfolding pairs
pairs_put zero ns n h = absurd (omega (arith, h))
pairs_put (suc k) [] n h = refl
pairs_put (suc k) (x ∷ xs) n h =
    let m = length xs in
    ap (λ (l : List ℕ). set l (2 * suc m + 1) (n / 256))
    (set_past_pair (x % 256) (x / 256) (pairs k xs) (n % 256) (2 * suc m) (2 * m) (omega arith))
    ∙ set_past_pair (x % 256) (x / 256) (set (pairs k xs) (2 * m) (n % 256)) (n / 256) (2 * suc m + 1) (2 * m + 1)
    (omega arith)
    ∙ ap (λ (l : List ℕ). x % 256 ∷ x / 256 ∷ l) (pairs_put k xs n (omega (arith, h)))

set_past_one : (a : ℕ) (l : List ℕ) (v i p : ℕ) → i ≡ p + 1 → set (a ∷ l) i v ≡ a ∷ set l p v
set_past_one a l v i p e = let is : i ≡ suc p = omega (arith, e) in rw (is) refl

put_last : (count : ℕ) (ns : List ℕ) (n p : ℕ) → p ≡ length ns → p < most_contenders
    → put_of p n (count ∷ pairs most_contenders ns) ≡ count ∷ pairs most_contenders (ns ++ n ∷ [])
put_last count ns n p is room =
    let all = pairs most_contenders ns in
    ap (λ (l : List ℕ). set l (2 * p + 2) (n / 256))
    (set_past_one count all (n % 256) (2 * p + 1) (2 * p) (omega arith))
    ∙ set_past_one count (set all (2 * p) (n % 256)) (n / 256) (2 * p + 2) (2 * p + 1) (omega arith)
    ∙ ap (λ (l : List ℕ). count ∷ l) (rw (is) (pairs_put most_contenders ns n (omega (arith, is, room))))

-- without what stands past the end
without_none : (ns : List ℕ) (p : ℕ) → length ns ≤ p → without p ns ≡ ns
without_none ns p h =
    ap₂ (λ (x y : List ℕ). x ++ y) (take_all p ns h) (drop_of_length-le ns {i = suc p} (omega (arith, h)))
    ∙ append-nil ns

-- ---- a call by how it ends

begins_as : {before after : List ℕ} (r : Change) → size_end_in before ≡ r → after ≡ kept_of r [] before
    → Begins before (number_for r) after
begins_as {before} {after} r e kept =
    record { ends = sym (ap number_for e); kept = kept ∙ sym (ap (λ (x : Change). kept_of x [] before) e) }

joins_as : {c : Contender} {before after : List ℕ} (r : Change) → join_end_in c before ≡ r
    → after ≡ kept_of r (joined c (roll_in before)) before → Joins c before (number_for r) after
joins_as {c} {before} {after} r e kept = record {
  ends = sym (ap number_for e);
  kept = kept ∙ sym (ap (λ (x : Change). kept_of x (joined c (roll_in before)) before) e);
}

leaves_as : {c : Contender} {before after : List ℕ} (r : Change) → leave_end_in c before ≡ r
    → after ≡ kept_of r (left c (roll_in before)) before → Leaves c before (number_for r) after
leaves_as {c} {before} {after} r e kept = record {
  ends = sym (ap number_for e);
  kept = kept ∙ sym (ap (λ (x : Change). kept_of x (left c (roll_in before)) before) e);
}

-- ---- begin

pub begins_not : (before : List ℕ) → (length before ≡ roll_bytes → ⊥) → Begins before (number_for BadSize) before
unfolding size_end_in done
begins_not before ne = begins_as BadSize (rw (other-size before ne) refl) refl

pub begins : {before after : List ℕ} → length before ≡ roll_bytes → after ≡ replicate roll_bytes 0
    → Begins before (number_for Done) after
unfolding size_end_in done bytes_of pairs
begins {before} {after} size e =
    begins_as Done (rw (right_size before size) refl) e

-- ---- join and leave: a request out of range, bytes of another size

module _ (c : Contender) (before : List ℕ) where
  pub joins_out : in_range c ≡ false → Joins c before (number_for OutOfRange) before
  unfolding join_end_in done
  joins_out out = joins_as OutOfRange (rw (out) refl) refl

  pub leaves_out : in_range c ≡ false → Leaves c before (number_for OutOfRange) before
  unfolding leave_end_in done
  leaves_out out = leaves_as OutOfRange (rw (out) refl) refl

  pub joins_other : in_range c ≡ true → (length before ≡ roll_bytes → ⊥) → Joins c before (number_for BadSize) before
  unfolding join_end_in done
  joins_other right ne = joins_as BadSize (rw (right, other-size before ne) refl) refl

  pub leaves_other : in_range c ≡ true → (length before ≡ roll_bytes → ⊥) → Leaves c before (number_for BadSize) before
  unfolding leave_end_in done
  leaves_other right ne = leaves_as BadSize (rw (right, other-size before ne) refl) refl

  -- ---- the others, by the place of the request's number
  module _ (right : in_range c ≡ true) (size : length before ≡ roll_bytes) where
    abbrev numbers : List ℕ
    numbers = requests_in before

    abbrev place : ℕ
    place = number_place (number_of c) numbers

    abbrev roll : List Contender
    roll = roll_in before

    place_found : place_of c roll ≡ place
    place_found = number-place before c (in-range c (ap not right))

    counted : length roll ≡ count_in before
    counted = roll_length before ∙ requests_length before

    is_there : place < length numbers → there c roll ≡ true
    is_there h = lt-ltb (place_of c roll) (length roll) (omega (arith, h, place_found, roll_length before))

    not_there : length numbers ≤ place → there c roll ≡ false
    not_there h = le-ltb (place_of c roll) (length roll) (omega (arith, h, place_found, roll_length before))

    pub joins_alike : place < length numbers → Joins c before (number_for Alike) before
    unfolding join_end_in join_end done
    joins_alike h = joins_as Alike (rw (right, right_size before size, is_there h) refl) refl

    pub joins_full : length numbers ≤ place → most_contenders ≤ count_in before
        → Joins c before (number_for Full) before
    unfolding join_end_in join_end done
    joins_full h many =
        let full = le-leb most_contenders (length roll) (omega (arith, many, counted)) in
        joins_as Full (rw (right, right_size before size, not_there h, full) refl) refl

    pub leaves_absent : length numbers ≤ place → Leaves c before (number_for Absent) before
    unfolding leave_end_in leave_end done
    leaves_absent h = leaves_as Absent (rw (right, right_size before size, not_there h) refl) refl

    -- the roll that a request has joined
    bytes_joined : bytes_of (roll ++ c ∷ [])
        ≡ (count_in before + 1) ∷ pairs most_contenders (numbers ++ number_of c ∷ [])
    unfolding bytes_of
    bytes_joined =
        ap₂ (λ (n : ℕ) (l : List ℕ). n ∷ pairs most_contenders l)
        (omega (arith, length-append roll (c ∷ []), counted)) (numbers_joined before c)

    written_joined : count_in before < most_contenders
        → set (put_of (count_in before) (number_of c) (written_of (count_in before) before)) 0 (count_in before + 1)
        ≡ bytes_of (roll ++ c ∷ [])
    written_joined room =
        let all : without (count_in before) numbers ≡ numbers
        = without_none numbers (count_in before) (omega (arith, requests_length before)) in
        ap (λ (l : List ℕ). set (put_of (count_in before) (number_of c) (get_or before 0 0 ∷ pairs most_contenders l)) 0
        (count_in before + 1)) all
        ∙ ap (λ (l : List ℕ). set l 0 (count_in before + 1))
        (put_last (get_or before 0 0) numbers (number_of c) (count_in before) (sym (requests_length before)) room)
        ∙ sym bytes_joined

    pub joins_done : {after : List ℕ} → length numbers ≤ place → count_in before < most_contenders
        → after ≡ set (put_of (count_in before) (number_of c) (written_of (count_in before) before)) 0 (count_in before + 1)
        → Joins c before (number_for Done) after
    unfolding join_end_in join_end joined done
    joins_done {after} h room e =
        let taken = lt-leb most_contenders (length roll) (omega (arith, room, counted)) in
        joins_as Done (rw (right, right_size before size, not_there h, taken) refl)
        (e ∙ written_joined room ∙ rw (right, not_there h, taken) refl)

    -- .. and that it has left
    bytes_left : place < length numbers
        → (count_in before - 1) ∷ pairs most_contenders (without place numbers) ≡ bytes_of (without place roll)
    unfolding bytes_of
    bytes_left h =
        let parts = length-append (take place roll) (drop (suc place) roll) in
        ap₂ (λ (n : ℕ) (l : List ℕ). n ∷ pairs most_contenders l)
        (omega (arith, parts, length-take place roll, length-drop (suc place) roll, counted, roll_length before, h))
        (sym (numbers_left before place))

    pub leaves_done : {after : List ℕ} → place < length numbers
        → after ≡ set (written_of place before) 0 (count_in before - 1) → Leaves c before (number_for Done) after
    unfolding leave_end_in leave_end left done
    leaves_done {after} h e =
        leaves_as Done (rw (right, right_size before size, is_there h) refl)
        (e ∙ bytes_left h ∙ rw (right, is_there h, place_found) refl)

-- ---- shown

module _ (bytes : List ℕ) (word : ℕ) where
  pub shows_other : (length bytes ≡ roll_bytes → ⊥) → Shows bytes word (number_for BadSize) word
  unfolding size_end_in word_after done
  shows_other ne = record { ends = rw (other-size bytes ne) refl; told = rw (other-size bytes ne) refl }

  module _ (size : length bytes ≡ roll_bytes) where
    roll_none : count_in bytes ≡ 0 → roll_in bytes ≡ []
    unfolding roll_in placed
    roll_none none = ap (λ (n : ℕ). map request_in (placed (request_at bytes) n)) none

    pub shows_nobody : count_in bytes ≡ 0 → Shows bytes word (number_for Done) 0
    unfolding size_end_in word_after done word_for
    shows_nobody none = record {
      ends = rw (right_size bytes size) refl;
      told = rw (right_size bytes size) (sym (ap word_for (shown_none (roll_in bytes) (roll_none none))));
    }

    pub shows_next : {n : ℕ} → Lowest (requests_in bytes) n → Shows bytes word (number_for Done) (0x8000 + n)
    unfolding size_end_in word_after done word_for
    shows_next {n} low = record {
      ends = rw (right_size bytes size) refl;
      told = rw (right_size bytes size) (sym (ap word_for (shown_lowest bytes low) ∙ whole n));
    }
      where
        whole : (n : ℕ) → 0x8000 + n / 4096 * 4096 + n % 4096 ≡ 0x8000 + n
        whole n = omega arith

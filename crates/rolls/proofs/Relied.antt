-- What a display relies on, of every roll and of every list of calls.
use mathlib.Core.Bool.{Bool, true, false, not, false≢true}
use mathlib.Core.List.{List, [], ◌∷◌, foldl}
use mathlib.Core.Logic.{⊎_elim}
use mathlib.Core.Path.{◌≡◌, refl, sym, ap, ◌∙◌}
use Prim.Native.Nat.{ℕ, suc, ◌+◌, ◌<◌}
use native.Mathlib.Omega.{arith}
use borrow.Author.Tests.{eq-eqb, ltb-true, ne_eqb}
use lib.ListN.{drop, length, length-append, length-drop, length-take, take}
use Rattle.line.specs.Choice.{pick}
use Rattle.line.specs.Numbers.{roll_bytes}
use Rattle.line.proofs.Either.{either, pick_same}
use Rattle.contenders.specs.Contest.{Ranged, out_of_range}
use Rattle.contenders.specs.declared.Contender.{Contender}
use Rattle.contest.proofs.Places.{none_again}
use Rattle.rolls.specs.Roll.{Call, begin, changed, done, join, join_end, joined, leave, leave_end, left, look}
use Rattle.rolls.specs.Roll.{BadSize, Change, Done, OutOfRange, place_of, roll_of}
use Rattle.rolls.specs.Kept.{bytes_after, bytes_of, join_end_in, kept_of, leave_end_in, other_size, roll_in, size_end_in}
use Rattle.rolls.specs.Kept.{word_after, word_for}
use Rattle.rolls.specs.Relied.{After, InBytes, Relied, Tells}
use Rattle.rolls.proofs.Bytes.{bytes_length, roll_again}
use Rattle.rolls.proofs.Changes.{done_or_not, joins, kept, leave_taken, leaves, left_is, on_there, range_false}
use Rattle.rolls.proofs.Changes.{range_true}
use Rattle.rolls.proofs.Made.{Made, changed_made, made_fair, made_none, roll_made}
use Rattle.rolls.proofs.Winner.{shown_none, shown_won}

-- ---- calls on the bytes of a roll

pub right_size : (bytes : List ℕ) → length bytes ≡ roll_bytes → other_size bytes ≡ false
right_size bytes e = ap not (eq-eqb (length bytes) roll_bytes e)

pub other-size : (bytes : List ℕ) → (length bytes ≡ roll_bytes → ⊥) → other_size bytes ≡ true
other-size bytes ne = ap not (ne_eqb (length bytes) roll_bytes ne)

-- what a call leaves, changed or not
kept_either : (r : Change) (after roll : List Contender) → ((r ≡ Done → ⊥) → after ≡ roll)
    → kept_of r after (bytes_of roll) ≡ bytes_of after
unfolding done
kept_either r after roll same =
    ⊎_elim (λ e. ap (λ (x : Change). kept_of x after (bytes_of roll)) e)
    (λ ne. ap (λ (l : List Contender). kept_of r after (bytes_of l)) (sym (same ne)) ∙ pick_same (done r) (bytes_of after))
    (done_or_not r)

judged : (out other : Bool) (r : Change) → out ≡ false → other ≡ false → pick out OutOfRange (pick other BadSize r) ≡ r
judged out other r right size = rw (right, size) refl

out-of-range : (c : Contender) → out_of_range c ≡ true → Ranged c → ⊥
out-of-range c out r = false≢true (sym (range_true c r) ∙ out)

module _ (bytes : List ℕ) where
  joins_in : length bytes ≡ roll_bytes → (c : Contender) → join_end_in c bytes ≡ join_end c (roll_in bytes)
  unfolding join_end_in
  joins_in size c =
      ⊎_elim (λ out. rw (out) (sym ((joins c (roll_in bytes)).out_of_range (out-of-range c out))))
      (λ right. judged (out_of_range c) (other_size bytes) _ right (right_size bytes size))
      (either (out_of_range c))

  leaves_in : length bytes ≡ roll_bytes → (c : Contender) → leave_end_in c bytes ≡ leave_end c (roll_in bytes)
  unfolding leave_end_in
  leaves_in size c =
      ⊎_elim (λ out. rw (out) (sym ((leaves c (roll_in bytes)).out_of_range (out-of-range c out))))
      (λ right. judged (out_of_range c) (other_size bytes) _ right (right_size bytes size))
      (either (out_of_range c))

  in_bytes : InBytes bytes
  unfolding size_end_in join_end_in leave_end_in word_after done
  in_bytes = record {
    begins = λ size. rw (right_size bytes size) refl;
    joins = joins_in;
    leaves = leaves_in;
    told = λ size word. rw (right_size bytes size) refl;
    out_of_range = λ c out. (rw (range_false c out) refl, rw (range_false c out) refl);
    other-size = λ ne. (
      rw (other-size bytes ne) refl,
      λ c r.
          (rw (range_true c r, other-size bytes ne) refl, rw (range_true c r, other-size bytes ne) refl),
    );
    begin_refused = kept (bytes_of []) bytes (size_end_in bytes);
    join_refused = λ c. kept (bytes_of (joined c (roll_in bytes))) bytes (join_end_in c bytes);
    leave_refused = λ c. kept (bytes_of (left c (roll_in bytes))) bytes (leave_end_in c bytes);
    untold = λ ne word. rw (other-size bytes ne) refl;
  }

tells : (c : Contender) → Ranged c → Tells c
unfolding word_for
tells c r = record {
  somebody = omega (arith, r.bit_le, r.address_le);
  broadcast_bit = omega (arith, r.bit_le, r.address_le);
  own_address = omega (arith, r.bit_le, r.address_le);
}

module _ (roll : List Contender) (made : Made roll) where
  join_ends : (c : Contender) → join_end_in c (bytes_of roll) ≡ join_end c roll
  join_ends c = joins_in (bytes_of roll) (bytes_length roll) c ∙ ap (join_end c) (roll_again roll made)

  leave_ends : (c : Contender) → leave_end_in c (bytes_of roll) ≡ leave_end c roll
  leave_ends c = leaves_in (bytes_of roll) (bytes_length roll) c ∙ ap (leave_end c) (roll_again roll made)

  begin_kept : bytes_after (bytes_of roll) begin ≡ bytes_of []
  unfolding size_end_in done
  begin_kept = rw (right_size (bytes_of roll) (bytes_length roll)) refl

  call_kept : (call : Call) → bytes_after (bytes_of roll) call ≡ bytes_of (changed roll call)
  call_kept begin = begin_kept
  call_kept (join c) =
      rw (join_ends c, roll_again roll made)
      (kept_either (join_end c roll) (joined c roll) roll (joins c roll).unchanged)
  call_kept (leave c) =
      rw (leave_ends c, roll_again roll made)
      (kept_either (leave_end c roll) (left c roll) roll (leaves c roll).unchanged)
  call_kept look = refl

calls_kept : (roll : List Contender) (calls : List Call) → Made roll
    → foldl bytes_after (bytes_of roll) calls ≡ bytes_of (foldl changed roll calls)
calls_kept roll [] made = refl
calls_kept roll (call ∷ calls) made =
    ap (λ (bytes : List ℕ). foldl bytes_after bytes calls) (call_kept roll made call)
    ∙ calls_kept (changed roll call) calls (changed_made roll call made)

-- whatever stood there, of the size of a roll
begun : (bytes : List ℕ) → length bytes ≡ roll_bytes → bytes_after bytes begin ≡ bytes_of []
unfolding size_end_in done
begun bytes size = rw (right_size bytes size) refl

after : (calls : List Call) → After calls
after calls =
    let made = roll_made calls in
    record {
      few = made.few;
      unlike = none_again (roll_of calls) (made_fair made).unlike;
      none = shown_none (roll_of calls);
      winner = λ numbers some room. shown_won (roll_of calls) numbers made some room;
      kept = λ bytes size. ap (λ (l : List ℕ). foldl bytes_after l calls) (begun bytes size)
          ∙ calls_kept [] calls made_none;
      again = roll_again (roll_of calls) made;
    }

-- ---- room

left_length : (c : Contender) (roll : List Contender) → leave_end c roll ≡ Done → length (left c roll) + 1 ≡ length roll
left_length c roll e =
    let inside : place_of c roll < length roll
    = ltb-true _ _ (on_there c roll (leave_taken c roll e).1) in
    let p = place_of c roll in
    let parts = length-append (take p roll) (drop (suc p) roll) in
    let is = ap (length {A = Contender}) (left_is c roll e) in
    omega (arith, is, parts, length-take p roll, length-drop (suc p) roll, inside)

pub relied : Relied
relied = record {
  joins = joins;
  leaves = leaves;
  in_bytes = in_bytes;
  tells = tells;
  after = after;
  room = λ c d roll full e ranged out.
      let less = left_length c roll e in
      let taken = (joins d (left c roll)).taken ranged out (omega (arith, less, full)) in
      let more = ap (length {A = Contender}) ((joins d (left c roll)).last taken) in
      (taken, omega (arith, more, length-append (left c roll) (d ∷ []), less, full));
}

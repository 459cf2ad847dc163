-- Joining and leaving, in the words of ticket 10.
use mathlib.Core.Bool.{Bool, true, false, not, false≢true}
use mathlib.Core.List.{List, [], ◌∷◌, ◌++◌}
use mathlib.Core.Logic.{◌⊎◌, inl, inr, ⊎_elim}
use mathlib.Core.Path.{◌≡◌, refl, sym, ap, ap₂, ◌∙◌}
use Prim.Native.Nat.{suc, ◌+◌, ◌≤◌, ◌<◌}
use native.Mathlib.Numerals.{add-one}
use native.Mathlib.Omega.{arith}
use borrow.Author.Tests.{le-leb, leb-false, lt-leb, lt-ltb, ltb-false, ltb-true, not-false}
use lib.Dec.{leb}
use lib.ListN.{get_or-append, drop, get_or, length, length-append, take}
use lib.Seq.{drop-append-add, get_or_at, split_at, take-append_seam}
use Rattle.line.specs.Numbers.{highest_address, most_contenders}
use Rattle.line.proofs.Either.{either}
use Rattle.line.proofs.First.{first_at_most, first_holds, first_is, first_none}
use Rattle.contenders.specs.Contest.{Ranged, alike, in_range, nobody, out_of_range}
use Rattle.contenders.specs.declared.Contender.{Contender}
use Rattle.contest.proofs.Places.{alike_same, same_alike}
use Rattle.contest.proofs.Winner.{ranged}
use Rattle.line.specs.Choice.{pick}
use Rattle.rolls.specs.Roll.{Absent, Alike, BadSize, Change, Done, Full, OutOfRange}
use Rattle.rolls.specs.Roll.{done, join_end, joined, leave_end, left, place_of, there, without}
use Rattle.rolls.specs.Relied.{On, RightlyJoins, RightlyLeaves}

-- ---- in range

pub range_true : (c : Contender) → Ranged c → out_of_range c ≡ false
unfolding in_range
range_true c r = rw (le-leb c.bit 1 r.bit_le, le-leb c.address highest_address r.address_le) refl

pub range_false : (c : Contender) → (Ranged c → ⊥) → out_of_range c ≡ true
range_false c out =
    ⊎_elim (λ t. absurd (out (ranged c t))) (λ f. ap not f) (either (in_range c))

pub in-range : (c : Contender) → out_of_range c ≡ false → Ranged c
in-range c e = ranged c (not-false (in_range c) e)

-- ---- on a roll

pub on_there : (c : Contender) (roll : List Contender) → On c roll → there c roll ≡ true
on_there c roll o =
    let at : get_or roll (length o.before) nobody ≡ c
    = rw o.is (get_or_at o.before c o.after nobody (length o.before) refl) in
    let long : length roll ≡ length o.before + length (c ∷ o.after)
    = rw o.is (length-append o.before (c ∷ o.after)) in
    lt-ltb (place_of c roll) (length roll) (omega (
      arith,
      long,
      first_at_most (alike c) roll nobody (length o.before) (same_alike c _ at),
    ))

pub there_on : (c : Contender) (roll : List Contender) → there c roll ≡ true → On c roll
there_on c roll t =
    let inside : place_of c roll < length roll = ltb-true _ _ t in
    let same = alike_same c _ (first_holds (alike c) roll nobody inside) in
    record {
      before = take (place_of c roll) roll;
      after = drop (suc (place_of c roll)) roll;
      is = split_at roll (place_of c roll) nobody inside
          ∙ ap (λ (d : Contender). take (place_of c roll) roll ++ d ∷ drop (suc (place_of c roll)) roll) same;
    }

pub not_on : (c : Contender) (roll : List Contender) → (On c roll → ⊥) → there c roll ≡ false
not_on c roll out = ⊎_elim (λ t. absurd (out (there_on c roll t))) (λ f. f) (either (there c roll))

-- one that stands behind others like none of which it is stands there first
pub place_is : (c : Contender) (before after : List Contender) → (On c before → ⊥)
    → place_of c (before ++ c ∷ after) ≡ length before
place_is c before after out =
    sym (first_is (alike c) (before ++ c ∷ after) nobody (length before)
    (omega (arith, length-append before (c ∷ after)))
    (same_alike c _ (get_or_at before c after nobody (length before) refl))
    (λ i h. let none : length before ≤ place_of c before = ltb-false _ _ (not_on c before out) in
    ap (alike c) (get_or-append before (c ∷ after) nobody i h)
    ∙ first_none (alike c) before nobody i (omega (arith, h, none))))

-- ---- a call that is refused changes nothing

pub kept : {A : Type 0} (after before : A) (r : Change) → (r ≡ Done → ⊥) → pick (done r) after before ≡ before
unfolding done
kept after before Done ne = absurd (ne refl)
kept after before OutOfRange ne = refl
kept after before BadSize ne = refl
kept after before Alike ne = refl
kept after before Full ne = refl
kept after before Absent ne = refl

pub done_or_not : (r : Change) → (r ≡ Done) ⊎ (r ≡ Done → ⊥)
unfolding done
done_or_not Done = inl refl
done_or_not OutOfRange = inr (λ e. false≢true (ap done e))
done_or_not BadSize = inr (λ e. false≢true (ap done e))
done_or_not Alike = inr (λ e. false≢true (ap done e))
done_or_not Full = inr (λ e. false≢true (ap done e))
done_or_not Absent = inr (λ e. false≢true (ap done e))

-- ---- joining

join_judged : (out alike full : Bool) → pick out OutOfRange (pick alike Alike (pick full Full Done)) ≡ Done
    → (out ≡ false) × (alike ≡ false) × (full ≡ false)
unfolding done
join_judged false false false e = (refl, refl, refl)
join_judged true alike full e = absurd (false≢true (ap done e))
join_judged false true full e = absurd (false≢true (ap done e))
join_judged false false true e = absurd (false≢true (ap done e))

-- who joins was in range and not there, and had room
pub join_taken : (c : Contender) (roll : List Contender) → join_end c roll ≡ Done
    → Ranged c × (On c roll → ⊥) × (length roll < most_contenders)
unfolding join_end
join_taken c roll e =
    let judged = join_judged (out_of_range c) (there c roll) (leb most_contenders (length roll)) e in (
      in-range c judged.0,
      (λ o. false≢true (sym judged.1 ∙ on_there c roll o)),
      leb-false most_contenders (length roll) judged.2,
    )

pub joins : (c : Contender) (roll : List Contender) → RightlyJoins c roll
unfolding join_end joined done
joins c roll = record {
  out_of_range = λ out. rw (range_false c out) refl;
  alike = λ r o. rw (range_true c r, on_there c roll o) refl;
  full = λ r out many. rw (range_true c r, not_on c roll out, le-leb most_contenders (length roll) many) refl;
  taken = λ r out few. rw (range_true c r, not_on c roll out, lt-leb most_contenders (length roll) few) refl;
  last = λ e. ap (λ (r : Change). pick (done r) (roll ++ c ∷ []) roll) e;
  unchanged = λ ne. kept (roll ++ c ∷ []) roll (join_end c roll) ne;
}

-- ---- leaving

pub left_is : (c : Contender) (roll : List Contender) → leave_end c roll ≡ Done
    → left c roll ≡ without (place_of c roll) roll
unfolding left done
left_is c roll e = ap (λ (r : Change). pick (done r) (without (place_of c roll) roll) roll) e

leave_judged : (out on : Bool) → pick out OutOfRange (pick on Done Absent) ≡ Done → (out ≡ false) × (on ≡ true)
unfolding done
leave_judged false true e = (refl, refl)
leave_judged true on e = absurd (false≢true (ap done e))
leave_judged false false e = absurd (false≢true (ap done e))

-- who leaves was in range and there
pub leave_taken : (c : Contender) (roll : List Contender) → leave_end c roll ≡ Done → Ranged c × On c roll
unfolding leave_end
leave_taken c roll e =
    let judged = leave_judged (out_of_range c) (there c roll) e in
    (in-range c judged.0, there_on c roll judged.1)

-- without what stands behind some
seam : (before : List Contender) (c : Contender) (after : List Contender)
    → without (length before) (before ++ c ∷ after) ≡ before ++ after
seam before c after =
    ap₂ (λ (x y : List Contender). x ++ y) (take-append_seam before (c ∷ after))
    (rw (← add-one (length before)) (drop-append-add before (c ∷ after) 1))

closes : (c : Contender) (before after : List Contender) → (On c before → ⊥)
    → without (place_of c (before ++ c ∷ after)) (before ++ c ∷ after) ≡ before ++ after
closes c before after out = rw (place_is c before after out) (seam before c after)

leaves_on : (c : Contender) (roll : List Contender) → Ranged c → On c roll → leave_end c roll ≡ Done
unfolding leave_end
leaves_on c roll r o = rw (range_true c r, on_there c roll o) refl

closes_up : (c : Contender) (before after : List Contender) → (On c before → ⊥) → Ranged c
    → left c (before ++ c ∷ after) ≡ before ++ after
closes_up c before after out r =
    left_is c (before ++ c ∷ after)
    (leaves_on c (before ++ c ∷ after) r (record { before = before; after = after; is = refl }))
    ∙ closes c before after out

pub leaves : (c : Contender) (roll : List Contender) → RightlyLeaves c roll
unfolding leave_end left done
leaves c roll = record {
  out_of_range = λ out. rw (range_false c out) refl;
  absent = λ r out. rw (range_true c r, not_on c roll out) refl;
  taken = leaves_on c roll;
  closed_up = λ before after is out r. ap (left c) is ∙ closes_up c before after out r;
  unchanged = λ ne. kept (without (place_of c roll) roll) roll (leave_end c roll) ne;
}

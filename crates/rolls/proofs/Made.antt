-- What joining and leaving keep of a roll: it has at most 50 requests, each in range, no two alike.
use mathlib.Core.List.{List, [], ◌∷◌, ◌++◌, foldl}
use mathlib.Core.Logic.{◌⊎◌, inl, inr, ⊎_elim}
use mathlib.Core.Path.{◌≡◌, refl, sym, ap, subst}
use Prim.Native.Nat.{◌≤◌}
use native.Mathlib.Omega.{arith}
use borrow.Author.Tests.{ltb-false}
use lib.ListN.{length, length-append}
use Rattle.line.specs.Numbers.{most_contenders}
use Rattle.line.specs.Places.{first_place}
use Rattle.line.proofs.First.{first_later, first_nil}
use Rattle.contenders.specs.Contest.{Ranged, alike, first_out, first_twin, out_of_range}
use Rattle.contenders.specs.declared.Contender.{Contender}
use Rattle.contest.proofs.Places.{twin_later, twin_nil}
use Rattle.contest.proofs.Slots.{Among}
use Rattle.contest.specs.Deciding.{Fair}
use Rattle.rolls.specs.Roll.{Call, Done, begin, changed, join, join_end, joined, leave, leave_end, left, look}
use Rattle.rolls.specs.Roll.{roll_of}
use Rattle.rolls.specs.Relied.{On}
use Rattle.rolls.proofs.Changes.{done_or_not, join_taken, joins, leave_taken, leaves, not_on, range_true}

-- ---- among some requests

module _ (c : Contender) where
  among_behind : (xs ys : List Contender) → Among c ys → Among c (xs ++ ys)
  among_behind [] ys a = a
  among_behind (x ∷ xs) ys a = inr (among_behind xs ys a)

  among_last : (xs : List Contender) (d : Contender) → Among c (xs ++ d ∷ []) → Among c xs ⊎ (d ≡ c)
  among_last [] d (inl e) = inr e
  among_last [] d (inr a) = inl a
  among_last (x ∷ xs) d (inl e) = inl (inl e)
  among_last (x ∷ xs) d (inr a) = ⊎_elim (λ h. inl (inr h)) (λ e. inr e) (among_last xs d a)

  among_more : (xs : List Contender) (d : Contender) (ys : List Contender) → Among c (xs ++ ys) → Among c (xs ++ d ∷ ys)
  among_more [] d ys a = inr a
  among_more (x ∷ xs) d ys (inl e) = inl e
  among_more (x ∷ xs) d ys (inr a) = inr (among_more xs d ys a)

  on_among : (roll : List Contender) → On c roll → Among c roll
  on_among roll o = subst (Among c) (sym o.is) (among_behind o.before (c ∷ o.after) (inl refl))

  among_on : (roll : List Contender) → Among c roll → On c roll
  among_on [] a = absurd a
  among_on (x ∷ xs) (inl e) = record { before = []; after = xs; is = ap (λ (y : Contender). y ∷ xs) e }
  among_on (x ∷ xs) (inr a) =
      let o = among_on xs a in
      record { before = x ∷ o.before; after = o.after; is = ap (λ (l : List Contender). x ∷ l) o.is }

-- ---- each in range, and like none behind it

abbrev pub Good : List Contender → Type 0
Good [] = Unit {0}
Good (c ∷ cs) = Ranged c × (Among c cs → ⊥) × Good cs

good_more : (cs : List Contender) (c : Contender) → Good cs → Ranged c → (Among c cs → ⊥) → Good (cs ++ c ∷ [])
good_more [] c g r out = (r, (λ a. a), tt)
good_more (x ∷ xs) c g r out = (
  g.0,
  (λ a. ⊎_elim (λ h. g.1 h) (λ e. out (inl (sym e))) (among_last x xs c a)),
  good_more xs c g.2 r (λ a. out (inr a)),
)

good_fewer : (before : List Contender) (c : Contender) (after : List Contender) → Good (before ++ c ∷ after)
    → Good (before ++ after)
good_fewer [] c after g = g.2
good_fewer (x ∷ xs) c after g = (
  g.0,
  (λ a. g.1 (among_more x xs c after a)),
  good_fewer xs c after g.2,
)

good_ranged : (cs : List Contender) → Good cs → length cs ≤ first_out cs
good_ranged [] g = omega (arith, first_nil out_of_range)
good_ranged (c ∷ cs) g =
    omega (arith, first_later out_of_range {x = c} cs (range_true c g.0), good_ranged cs g.2)

good_unlike : (cs : List Contender) → Good cs → length cs ≤ first_twin cs
good_unlike [] g = omega (arith, twin_nil)
good_unlike (c ∷ cs) g =
    let none : length cs ≤ first_place (alike c) cs
    = ltb-false _ _ (not_on c cs (λ o. g.1 (on_among c cs o))) in
    omega (arith, twin_later c cs none, good_unlike cs g.2)

-- ---- what calls make

pub record Made (roll : List Contender) : Type 0 where
  pub few : length roll ≤ most_contenders
  pub good : Good roll

pub made_fair : {roll : List Contender} → Made roll → Fair roll
made_fair {roll} m = record { in-range = good_ranged roll m.good; unlike = good_unlike roll m.good }

pub made_none : Made []
made_none = record { few = omega arith; good = tt }

joined_made : (c : Contender) (roll : List Contender) → Made roll → Made (joined c roll)
joined_made c roll m =
    ⊎_elim
    (λ (e : join_end c roll ≡ Done).
    let ok = join_taken c roll e in
    subst Made (sym ((joins c roll).last e)) (record {
      few = omega (arith, length-append roll (c ∷ []), ok.2);
      good = good_more roll c m.good ok.0 (λ a. ok.1 (among_on c roll a));
    }))
    (λ ne. subst Made (sym ((joins c roll).unchanged ne)) m)
    (done_or_not (join_end c roll))

-- nobody alike stands before who leaves
first_on : (c : Contender) (before after : List Contender) → Good (before ++ c ∷ after) → On c before → ⊥
first_on c [] after g o = on_among c [] o
first_on c (x ∷ xs) after g o =
    ⊎_elim (λ e. g.1 (among_behind x xs (c ∷ after) (inl (sym e))))
    (λ a. first_on c xs after g.2 (among_on c xs a))
    (on_among c (x ∷ xs) o)

left_parts : (c : Contender) (roll : List Contender) (o : On c roll) → Good roll → Ranged c
    → left c roll ≡ o.before ++ o.after
left_parts c roll o g r =
    (leaves c roll).closed_up o.before o.after o.is (first_on c o.before o.after (subst Good o.is g)) r

left_made : (c : Contender) (roll : List Contender) → Made roll → Made (left c roll)
left_made c roll m =
    ⊎_elim
    (λ (e : leave_end c roll ≡ Done).
    let ok = leave_taken c roll e in
    let o = ok.1 in
    let whole = length-append o.before (c ∷ o.after) in
    let less = length-append o.before o.after in
    subst Made (sym (left_parts c roll o m.good ok.0)) (record {
      few = omega (arith, m.few, ap (length {A = Contender}) o.is, whole, less);
      good = good_fewer o.before c o.after (subst Good o.is m.good);
    }))
    (λ ne. subst Made (sym ((leaves c roll).unchanged ne)) m)
    (done_or_not (leave_end c roll))

pub changed_made : (roll : List Contender) (call : Call) → Made roll → Made (changed roll call)
changed_made roll begin m = made_none
changed_made roll (join c) m = joined_made c roll m
changed_made roll (leave c) m = left_made c roll m
changed_made roll look m = m

from_made : (roll : List Contender) (calls : List Call) → Made roll → Made (foldl changed roll calls)
from_made roll [] m = m
from_made roll (call ∷ calls) m = from_made (changed roll call) calls (changed_made roll call m)

pub roll_made : (calls : List Call) → Made (roll_of calls)
roll_made calls = from_made [] calls made_none

-- The winner of a contest: who is the lowest of contenders that are in range, no two of them alike, is the only one
-- that the slots leave, and comes before all others.
use mathlib.Core.Bool.{true}
use mathlib.Core.Logic.{inl, inr, ⊎_elim}
use mathlib.Core.Path.{◌≡◌, refl, sym, ap, ap₂, subst, ◌∙◌}
use mathlib.Core.List.{List, [], ◌∷◌, map}
use Prim.Native.Nat.{ℕ, zero, suc, ◌^◌, ◌≤◌, ◌<◌}
use native.Mathlib.Nat.{div-eq_of_lt, eq-or-lt_of_le}
use native.Mathlib.Omega.{arith}
use borrow.Author.Tests.{eq-eqb, eqb-true, leb-true, not-false}
use lib.Dec.{eqb, leb}
use lib.ListN.{length, get_or, length-map}
use Rattle.line.specs.Numbers.{highest_address, last_contest_slot}
use Rattle.contenders.specs.Contest.{Ranged, first_out, in_range, nobody, number_of, out_of_range}
use Rattle.contenders.specs.Contest.{loss_of, losses_of, winner_of, Before, Wins}
use Rattle.contest.specs.Deciding.{differs, differences, Fair, Least}
use Rattle.contenders.specs.declared.Contender.{Contender}
use Rattle.line.proofs.Either.{below_or_not, both, same_or_not}
use Rattle.line.proofs.Places.{get_or_map}
use Rattle.line.proofs.First.{first_at_most, first_holds, first_none}
use Rattle.contest.proofs.Places.{none_again}
use Rattle.contest.proofs.Slots.{Close, AllClose, Among, loss_differs, differs_self, differs_none}
use Rattle.contest.proofs.Slots.{differs_slot}

-- ---- one contender and two

pub ranged : (c : Contender) → in_range c ≡ true → Ranged c
unfolding in_range
ranged c e =
    let parts = both (leb c.bit 1) (leb c.address highest_address) e in
    record { bit_le = leb-true _ _ parts.0; address_le = leb-true _ _ parts.1 }

number_lt : {c : Contender} → Ranged c → number_of c < 2 ^ 13
unfolding number_of
number_lt {c} r = omega (arith, r.bit_le, r.address_le)

-- contenders in range with one number are the same
same_number : (c d : Contender) → Ranged c → Ranged d → number_of c ≡ number_of d → c ≡ d
unfolding number_of
same_number c d r q e = ap₂ (λ (b a : ℕ). record { bit = b; address = a }) (omega arith) (omega arith)

lower_before : (c d : Contender) → Ranged c → Ranged d → number_of c < number_of d → Before c d
unfolding number_of
lower_before c d r q lt =
    let bits : c.bit ≤ d.bit = omega arith in
    ⊎_elim (λ e. inr (e, omega arith)) (λ l. inl l) (eq-or-lt_of_le bits)

-- ---- lists of contenders, place by place

all_close : (n w : ℕ) (cs : List Contender) → ((i : ℕ) → i < length cs → Close n w (number_of (get_or cs i nobody)))
    → AllClose n w (map number_of cs)
all_close n w [] f = tt
all_close n w (c ∷ cs) f = (f 0 (omega arith), all_close n w cs (λ i h. f (suc i) (omega arith)))

among : (cs : List Contender) (i : ℕ) → i < length cs → Among (number_of (get_or cs i nobody)) (map number_of cs)
among [] i h = absurd (omega arith)
among (c ∷ cs) zero h = inl refl
among (c ∷ cs) (suc i) h = inr (among cs i (omega arith))

mapped_alike : (f : ℕ → ℕ) (g : Contender → ℕ) (cs : List Contender)
    → ((i : ℕ) → i < length cs → f (number_of (get_or cs i nobody)) ≡ g (get_or cs i nobody))
    → map f (map number_of cs) ≡ map g cs
mapped_alike f g [] e = refl
mapped_alike f g (c ∷ cs) e = rw (e 0 (omega arith), mapped_alike f g cs (λ i h. e (suc i) (omega arith)))

pub length_losses : (cs : List Contender) → length (losses_of cs) ≡ length cs
unfolding losses_of
length_losses cs = simp length-map

-- ---- the lowest wins

-- of contenders in range: the slot in which each loses is the first in which it differs from the lowest
module _ (cs : List Contender) (in-range : length cs ≤ first_out cs) (p : ℕ) (least : Least cs p) where
  abbrev w : ℕ
  w = number_of (get_or cs p nobody)

  pub ranged_at : (i : ℕ) → i < length cs → Ranged (get_or cs i nobody)
  ranged_at i h =
      ranged (get_or cs i nobody) (not-false (in_range (get_or cs i nobody))
      (first_none out_of_range cs nobody i (omega (arith, in-range))))

  close_at : (i : ℕ) → i < length cs → Close 13 w (number_of (get_or cs i nobody))
  close_at i h =
      record {
        low = least.low i h;
        alike = div-eq_of_lt (number_lt (ranged_at i h))
            ∙ sym (div-eq_of_lt (number_lt (ranged_at p least.within)));
      }

  pub losses_are : losses_of cs ≡ differences w cs
  unfolding losses_of differences
  losses_are =
      mapped_alike (loss_of 13 (map number_of cs)) (λ (c : Contender). differs 13 w (number_of c)) cs
      (λ i h. loss_differs 13 w (map number_of cs) (number_of (get_or cs i nobody)) (all_close 13 w cs close_at)
      (among cs p least.within) (close_at i h))

  loss_at : (i : ℕ) → i < length cs → get_or (losses_of cs) i 0 ≡ differs 13 w (number_of (get_or cs i nobody))
  unfolding differences
  loss_at i h = ap (λ (l : List ℕ). get_or l i 0) losses_are
      ∙ get_or_map (λ (c : Contender). differs 13 w (number_of c)) cs i nobody 0 h

  unbeaten : get_or (losses_of cs) p 0 ≡ 0
  unbeaten = loss_at p least.within ∙ differs_self 13 w

  -- whoever loses in no slot has the lowest number
  lowest : (i : ℕ) → i < length cs → get_or (losses_of cs) i 0 ≡ 0 → number_of (get_or cs i nobody) ≡ w
  lowest i h none =
      differs_none 13 w (number_of (get_or cs i nobody)) (omega arith) (close_at i h).alike (sym (loss_at i h) ∙ none)

  lost_slot : (i : ℕ) → i < length cs → (number_of (get_or cs i nobody) ≡ w → ⊥)
      → (2 ≤ get_or (losses_of cs) i 0) × (get_or (losses_of cs) i 0 ≤ last_contest_slot)
  lost_slot i h ne =
      rw (loss_at i h)
      (⊎_elim
      (λ z. absurd (ne (lowest i h (loss_at i h ∙ z))))
      (λ slot. slot)
      (differs_slot 13 w (number_of (get_or cs i nobody)) (omega arith)))

  -- so the winner's number is the lowest, also where several have it
  pub winner_within : winner_of cs < length cs
  winner_within =
      omega (arith, least.within, first_at_most (λ lost. eqb lost 0) (losses_of cs) 0 p (eq-eqb _ 0 unbeaten))

  pub winner_lowest : number_of (get_or cs (winner_of cs) nobody) ≡ w
  winner_lowest =
      let inside : winner_of cs < length (losses_of cs) = omega (arith, winner_within, length_losses cs) in
      lowest (winner_of cs) winner_within (eqb-true _ 0 (first_holds (λ lost. eqb lost 0) (losses_of cs) 0 inside))

-- of those no two of which are alike: only one has it
module _ (cs : List Contender) (p : ℕ) (fair : Fair cs) (least : Least cs p) where
  abbrev all_ranged : (i : ℕ) → i < length cs → Ranged (get_or cs i nobody)
  all_ranged = ranged_at cs fair.in-range p least

  -- no other contender has the winner's number
  unequal : (i : ℕ) → i < length cs → (i ≡ p → ⊥) → number_of (get_or cs i nobody) ≡ number_of (get_or cs p nobody) → ⊥
  unequal i h ne e =
      let same = same_number _ _ (all_ranged i h) (all_ranged p least.within) e in
      ⊎_elim
      (λ lt. none_again cs fair.unlike i
      (record { later = p; behind = lt; later_within = least.within; same = sym same }))
      (λ le. none_again cs fair.unlike p
      (record { later = i; behind = omega arith; later_within = h; same = same }))
      (below_or_not i p)

  pub wins : Wins cs p
  wins =
      record {
        within = least.within;
        unbeaten = unbeaten cs fair.in-range p least;
        before = λ i h ne.
            lower_before (get_or cs p nobody) (get_or cs i nobody) (all_ranged p least.within) (all_ranged i h)
            (omega (arith, least.low i h, unequal i h ne));
        alone = λ i h ne. lost_slot cs fair.in-range p least i h (unequal i h ne);
      }

  pub winner_is : p ≡ winner_of cs
  winner_is =
      let won = winner_within cs fair.in-range p least in
      ⊎_elim (λ e. sym e) (λ ne. absurd (unequal (winner_of cs) won ne (winner_lowest cs fair.in-range p least)))
      (same_or_not (winner_of cs) p)

-- ---- one of them is the lowest

-- one contender more before the others: it is the least, or the least of the others stays it
module _ (c : Contender) (cs : List Contender) (p : ℕ) (l : Least cs p) where
  least_here : number_of c ≤ number_of (get_or cs p nobody) → Least (c ∷ cs) 0
  least_here le = record { within = omega arith; low = go }
    where
      go : (i : ℕ) → i < suc (length cs) → number_of c ≤ number_of (get_or (c ∷ cs) i nobody)
      go zero h = omega arith
      go (suc i) h = omega (arith, l.low i (omega arith))

  least_later : number_of (get_or cs p nobody) < number_of c → Least (c ∷ cs) (suc p)
  least_later lt = record { within = omega (arith, l.within); low = go }
    where
      go : (i : ℕ) → i < suc (length cs) → number_of (get_or cs p nobody) ≤ number_of (get_or (c ∷ cs) i nobody)
      go zero h = omega arith
      go (suc i) h = l.low i (omega arith)

-- one of the contenders is the least
pub least_of : (c : Contender) (cs : List Contender) → (p : ℕ) × Least (c ∷ cs) p
least_of c [] = (0, record { within = omega arith; low = go })
  where
    go : (i : ℕ) → i < 1 → number_of c ≤ number_of (get_or (c ∷ []) i nobody)
    go zero h = omega arith
    go (suc i) h = absurd (omega arith)
least_of c (d ∷ ds) =
    let r = least_of d ds in
    ⊎_elim (λ lt. (suc r.0, least_later c (d ∷ ds) r.0 r.1 lt))
    (λ le. (0, least_here c (d ∷ ds) r.0 r.1 le))
    (below_or_not (number_of (get_or (d ∷ ds) r.0 nobody)) (number_of c))

-- and so there is a winner
pub winner_wins : (cs : List Contender) → 0 < length cs → Fair cs → Wins cs (winner_of cs)
winner_wins [] some fair = absurd (omega arith)
winner_wins (c ∷ cs) some fair =
    let r = least_of c cs in
    subst (Wins (c ∷ cs)) (winner_is (c ∷ cs) r.0 fair r.1) (wins (c ∷ cs) r.0 fair r.1)

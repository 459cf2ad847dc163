-- The largest of some figures and the first place where it was reached, and what one figure more makes of them.
use mathlib.Core.Logic.{⊎_elim}
use mathlib.Core.List.{List, [], ◌∷◌, ◌++◌}
use mathlib.Core.Path.{◌≡◌, refl, sym, ap, ◌∙◌}
use Prim.Native.Nat.{ℕ, zero, suc, ◌+◌, ◌<◌, ◌≤◌, max}
use native.Mathlib.Omega.{arith}
use borrow.Author.Tests.{eq-eqb, eqb-false, eqb-true, ne_eqb}
use lib.Dec.{eqb}
use lib.ListN.{get_or-append, get_or, length, length-append}
use lib.Seq.{get_or-append_seam}
use Rattle.line.proofs.Either.{below_or_not}
use Rattle.line.proofs.First.{first_at_most, first_holds, first_is, first_le, first_none}
use Rattle.line.specs.Places.{first_place}
use Rattle.std.specs.Prelude.{Some}
use Rattle.loads.specs.Figures.{largest_of, place_of}
use Rattle.loads.specs.Load.{peak_of}
use Rattle.loads.specs.Relied.{Peaks}

-- ---- the largest

largest_none : largest_of [] ≡ 0
unfolding largest_of
largest_none = refl

largest_more : (f : ℕ) (fs : List ℕ) → largest_of (f ∷ fs) ≡ max f (largest_of fs)
unfolding largest_of
largest_more f fs = refl

pub largest_behind : (l : List ℕ) (c : ℕ) → largest_of (l ++ c ∷ []) ≡ max (largest_of l) c
largest_behind [] c = omega (arith, largest_more c [], largest_none)
largest_behind (f ∷ l) c = omega (arith, largest_more f (l ++ c ∷ []), largest_more f l, largest_behind l c)

largest_most : (l : List ℕ) (i : ℕ) → i < length l → get_or l i 0 ≤ largest_of l
largest_most [] i h = absurd (omega (arith, h))
largest_most (f ∷ l) zero h = omega (arith, largest_more f l)
largest_most (f ∷ l) (suc i) h = omega (arith, largest_more f l, largest_most l i (omega (arith, h)))

-- ---- it is reached

record At (l : List ℕ) (x : ℕ) : Type 0 where
  pub place : ℕ
  pub within : place < length l
  pub is : get_or l place 0 ≡ x

reached : (l : List ℕ) → 0 < length l → At l (largest_of l)
reached [] h = absurd (omega (arith, h))
reached (f ∷ []) h = record { place = 0; within = omega arith; is = omega (arith, largest_more f [], largest_none) }
reached (f ∷ g ∷ l) h =
    let rest = reached (g ∷ l) (omega arith) in
    let more = largest_more f (g ∷ l) in
    ⊎_elim
    (λ (less : f < largest_of (g ∷ l)).
    record {
      place = suc rest.place;
      within = omega (arith, rest.within);
      is = rest.is ∙ omega (arith, more, less);
    })
    (λ (most : largest_of (g ∷ l) ≤ f).
    record { place = 0; within = omega arith; is = omega (arith, more, most) })
    (below_or_not f (largest_of (g ∷ l)))

place_within : (l : List ℕ) → 0 < length l → place_of l < length l
place_within l some =
    let at = reached l some in
    let test = eqb (largest_of l) in
    omega (arith, at.within, first_at_most test l 0 at.place (eq-eqb (largest_of l) _ (sym at.is)))

-- "the largest such number with the first place where it was reached"
pub peaks : (l : List ℕ) → 0 < length l → Peaks l (largest_of l) (place_of l)
peaks l some =
    let test = eqb (largest_of l) in
    record {
      within = place_within l some;
      reached = sym (eqb-true (largest_of l) _ (first_holds test l 0 (place_within l some)));
      most = largest_most l;
      first = λ i before.
          let unlike = eqb-false (largest_of l) (get_or l i 0) (first_none test l 0 i before) in
          omega (arith, unlike, largest_most l i (omega (arith, before, first_le test l)));
    }

pub peak_told : (l : List ℕ) → 0 < length l → peak_of l ≡ Some (record { largest = largest_of l; place = place_of l })
unfolding peak_of
peak_told [] h = absurd (omega (arith, h))
peak_told (f ∷ l) h = refl

-- ---- one figure more

pub record Most (l : List ℕ) (largest place : ℕ) : Type 0 where
  pub largest_is : largest ≡ largest_of l
  pub place_is : place ≡ place_of l

pub most_none : Most [] 0 0
unfolding first_place
most_none = record { largest_is = sym largest_none; place_is = refl }

-- a place at which a figure stands that is met at none before it
placed_first : (l : List ℕ) {largest place : ℕ} → largest ≡ largest_of l → place < length l
    → get_or l place 0 ≡ largest → ((i : ℕ) → i < place → get_or l i 0 ≡ largest → ⊥) → Most l largest place
placed_first l {largest} {place} is inside here before = record {
  largest_is = is;
  place_is = first_is (eqb (largest_of l)) l 0 place inside (eq-eqb (largest_of l) _ (sym (here ∙ is)))
      (λ i h. ne_eqb (largest_of l) _ (λ e. before i h (sym (is ∙ e))));
}

module _ {l : List ℕ} {largest place : ℕ} (c : ℕ) (m : Most l largest place) where
  abbrev longer : List ℕ
  longer = l ++ c ∷ []

  long : length longer ≡ length l + 1
  long = length-append l (c ∷ [])

  kept : (i : ℕ) → i < length l → get_or longer i 0 ≡ get_or l i 0
  kept i h = get_or-append l (c ∷ []) 0 i h

  pub most_new : largest < c → Most longer c (length l)
  most_new more =
      placed_first longer (omega (arith, largest_behind l c, m.largest_is, more)) (omega (arith, long))
      (get_or-append_seam l c [] 0)
      (λ i h e. absurd (omega (arith, e, kept i h, largest_most l i h, m.largest_is, more)))

  pub most_kept : c ≤ largest → Most longer largest place
  most_kept less =
      let is : largest ≡ largest_of longer = omega (arith, largest_behind l c, m.largest_is, less) in
      ⊎_elim
      (λ (some : 0 < length l).
      let p = peaks l some in
      let at : place < length l = omega (arith, p.within, m.place_is) in
      let here : get_or l place 0 ≡ largest = rw (m.place_is, m.largest_is) p.reached in
      placed_first longer is (omega (arith, long, at)) (kept place at ∙ here)
      (λ i h e. absurd
      (omega (arith, e, kept i (omega (arith, h, at)), p.first i (omega (arith, h, m.place_is)), m.largest_is))))
      (λ (none : length l ≤ 0). only l none m is)
      (below_or_not 0 (length l))
    where
      only : (k : List ℕ) → length k ≤ 0 → Most k largest place → largest ≡ largest_of (k ++ c ∷ [])
          → Most (k ++ c ∷ []) largest place
      only [] none n is =
          let zero : place ≡ 0 = n.place_is ∙ sym most_none.place_is in
          let same : c ≡ largest = omega (arith, less, n.largest_is, largest_none) in
          placed_first (c ∷ []) is (omega (arith, zero)) (ap (λ (i : ℕ). get_or (c ∷ []) i 0) zero ∙ same)
          (λ i h e. absurd (omega (arith, h, zero)))
      only (f ∷ k) none n is = absurd (omega (arith, none))

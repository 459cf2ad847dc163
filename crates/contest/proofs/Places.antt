-- Places in a list of contenders: who stands where, and whose contender occurs again.
use mathlib.Core.Bool.{true, false, false≢true}
use mathlib.Core.Logic.{⊎_elim}
use mathlib.Core.Path.{◌≡◌, refl, sym, ap, ap₂, ◌∙◌}
use mathlib.Core.List.{List, [], ◌∷◌}
use Prim.Native.Nat.{ℕ, zero, suc, ◌+◌, ◌≤◌, ◌<◌}
use native.Mathlib.Numerals.{add-one}
use native.Mathlib.Omega.{arith}
use borrow.Author.Tests.{lt-ltb, le-ltb, eq-eqb, eqb-true}
use lib.Dec.{eqb}
use lib.ListN.{length, get_or, take}
use Rattle.contenders.specs.Contest.{nobody, contenders_of, first_of, first_twin, alike, OccursAgain, LowestAgain}
use Rattle.contenders.specs.declared.Contender.{Contender}
use Rattle.contenders.specs.declared.Contenders.{Contenders}
use Rattle.line.specs.Places.{first_place}
use Rattle.line.proofs.Either.{below_or_not, both, eqb_alike}
use Rattle.line.proofs.First.{first_holds, first_none}

pub length_first_of : (n : ℕ) (cs : List Contender) → length (first_of n cs) ≡ n
unfolding first_of
length_first_of zero cs = refl
length_first_of (suc n) [] = ap suc (length_first_of n [])
length_first_of (suc n) (c ∷ cs) = ap suc (length_first_of n cs)

first_of_few : (n : ℕ) (cs : List Contender) → n ≤ length cs → first_of n cs ≡ take n cs
unfolding first_of
first_of_few zero cs h = refl
first_of_few (suc n) [] h = absurd (omega arith)
first_of_few (suc n) (c ∷ cs) h = ap (λ (ds : List Contender). c ∷ ds) (first_of_few n cs (omega arith))

-- the contenders of a value with room for as many as it counts
pub contenders_are : (all : Contenders) → all.count ≤ length all.list → contenders_of all ≡ take all.count all.list
unfolding contenders_of
contenders_are all h = first_of_few all.count all.list h

pub contenders_length : (all : Contenders) → length (contenders_of all) ≡ all.count
unfolding contenders_of
contenders_length all = length_first_of all.count all.list

-- ---- contenders alike

pub alike_same : (c d : Contender) → alike c d ≡ true → d ≡ c
unfolding alike
alike_same c d e =
    let parts = both (eqb c.bit d.bit) (eqb c.address d.address) e in
    ap₂ (λ (b a : ℕ). record { bit = b; address = a }) (sym (eqb-true _ _ parts.0)) (sym (eqb-true _ _ parts.1))

pub same_alike : (c d : Contender) → d ≡ c → alike c d ≡ true
unfolding alike
same_alike c d e = rw e (simp (eq-eqb c.bit c.bit refl, eq-eqb c.address c.address refl))

pub alike_back : (c d : Contender) → alike c d ≡ alike d c
unfolding alike
alike_back c d =
    rw (eqb_alike c.bit d.bit d.bit c.bit sym sym, eqb_alike c.address d.address d.address c.address sym sym)
    refl

pub twin_here : (c : Contender) (cs : List Contender) → first_place (alike c) cs < length cs → first_twin (c ∷ cs) ≡ 0
unfolding first_twin
twin_here c cs h = simp (lt-ltb _ _ h)

pub twin_later : (c : Contender) (cs : List Contender) → length cs ≤ first_place (alike c) cs
    → first_twin (c ∷ cs) ≡ first_twin cs + 1
unfolding first_twin
twin_later c cs h = simp (le-ltb _ _ h)

pub twin_nil : first_twin [] ≡ 0
unfolding first_twin
twin_nil = refl

-- one contender more before the others
again_shifted : {c : Contender} {cs : List Contender} {p : ℕ} → OccursAgain cs p → OccursAgain (c ∷ cs) (p + 1)
again_shifted {c} {cs} {p} t =
    record {
      later = t.later + 1;
      behind = omega (arith, t.behind);
      later_within = omega (arith, t.later_within);
      same = rw (add-one p, add-one t.later) t.same;
    }

again_found : (cs : List Contender) → first_twin cs < length cs → OccursAgain cs (first_twin cs)
again_found [] h = absurd (omega (arith, twin_nil))
again_found (c ∷ cs) h =
    ⊎_elim
    (λ y. rw (twin_here c cs y) (record {
      later = first_place (alike c) cs + 1;
      behind = omega arith;
      later_within = omega arith;
      same = rw (add-one (first_place (alike c) cs)) (alike_same c _ (first_holds (alike c) cs nobody y));
    }))
    (λ n. rw (twin_later c cs n) (again_shifted (again_found cs (omega (arith, twin_later c cs n)))))
    (below_or_not (first_place (alike c) cs) (length cs))

-- whoever stands before the place found has nobody alike behind it
unlike_before : (cs : List Contender) (i j : ℕ) → i < first_twin cs → i < j → j < length cs
    → alike (get_or cs i nobody) (get_or cs j nobody) ≡ false
unlike_before [] i j before lt h = absurd (omega arith)
unlike_before (c ∷ cs) i zero before lt h = absurd (omega arith)
unlike_before (c ∷ cs) zero (suc j) before lt h =
    ⊎_elim (λ y. absurd (omega (arith, twin_here c cs y))) (λ n. first_none (alike c) cs nobody j (omega arith))
    (below_or_not (first_place (alike c) cs) (length cs))
unlike_before (c ∷ cs) (suc i) (suc j) before lt h =
    ⊎_elim (λ y. absurd (omega (arith, twin_here c cs y)))
    (λ n. unlike_before cs i j (omega (arith, twin_later c cs n)) (omega arith) (omega arith))
    (below_or_not (first_place (alike c) cs) (length cs))

none_before : (cs : List Contender) (i : ℕ) → i < first_twin cs → OccursAgain cs i → ⊥
none_before cs i lt t =
    false≢true (sym (unlike_before cs i t.later lt t.behind t.later_within) ∙ same_alike _ _ t.same)

-- what ticket 6 says of the place that number 15 names
pub lowest_again : (cs : List Contender) → first_twin cs < length cs → LowestAgain cs (first_twin cs)
lowest_again cs h = record { within = h; again = again_found cs h; lowest = none_before cs }

-- and where number 15 is not given, nobody occurs again
pub none_again : (cs : List Contender) → length cs ≤ first_twin cs → (i : ℕ) → OccursAgain cs i → ⊥
none_again cs none i t = none_before cs i (omega (arith, t.behind, t.later_within)) t

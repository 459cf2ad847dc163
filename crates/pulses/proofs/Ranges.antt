-- A setting is refused exactly if something is wrong with it.
use mathlib.Core.Bool.{true, false, false≢true}
use mathlib.Core.Logic.{⊎_elim}
use mathlib.Core.Path.{◌≡◌, refl, sym, ◌∙◌}
use Prim.Native.Nat.{◌≤◌}
use native.Mathlib.Omega.{arith}
use native.Mathlib.Nat.{le_refl}
use borrow.Author.Tests.{le-leb, le-ltb, leb-true, ltb-false}
use lib.Dec.{leb}
use Rattle.line.proofs.Either.{below_or_not, both, either, neither, none_of}
use Rattle.pulses.specs.declared.Range.{Range}
use Rattle.pulses.specs.declared.Setting.{Setting}
use Rattle.pulses.specs.Ranges.{bad_ranges, meet, turned}
use Rattle.pulses.specs.Relied.{Apart, Sound}

-- ranges that do not meet share no tick
apart : (a b : Range) → meet a b ≡ false → Apart a b
apart a b e width in_a in_b = false≢true (sym e ∙ rw (first, second) refl)
  where
    first : leb a.least b.most ≡ true
    first = le-leb a.least b.most (omega (arith, in_a.above, in_b.below))

    second : leb b.least a.most ≡ true
    second = le-leb b.least a.most (omega (arith, in_b.above, in_a.below))

-- those that meet share the tick at which the later one begins
meet_in : (a b : Range) → a.least ≤ a.most → b.least ≤ b.most → Apart a b → meet a b ≡ true → ⊥
meet_in a b orderA orderB e m =
    ⊎_elim
    (λ l. e b.least (record { above = omega (arith, l); below = second })
    (record { above = le_refl b.least; below = orderB }))
    (λ l. e a.least (record { above = le_refl a.least; below = orderA })
    (record { above = l; below = first }))
    (below_or_not a.least b.least)
  where
    first : a.least ≤ b.most
    first = leb-true a.least b.most (both (leb a.least b.most) (leb b.least a.most) m).0

    second : b.least ≤ a.most
    second = leb-true b.least a.most (both (leb a.least b.most) (leb b.least a.most) m).1

not_met : (a b : Range) → a.least ≤ a.most → b.least ≤ b.most → Apart a b → meet a b ≡ false
not_met a b orderA orderB e =
    ⊎_elim (λ m. absurd (meet_in a b orderA orderB e m)) (λ f. f) (either (meet a b))

-- "19, a range with least above most, or two that meet"
pub sound : (s : Setting) → bad_ranges s ≡ false → Sound s
unfolding bad_ranges
sound s e =
    let five = neither _ (meet s.one s.start) e in
    let four = neither _ (meet s.zero s.start) five.0 in
    let three = neither _ (meet s.zero s.one) four.0 in
    let two = neither _ (turned s.start) three.0 in
    let one = neither (turned s.zero) (turned s.one) two.0 in
    record {
      zero = ltb-false _ _ one.0;
      one = ltb-false _ _ one.1;
      start = ltb-false _ _ two.1;
      disjoint = record {
        zero_one = apart _ _ three.1;
        zero_start = apart _ _ four.1;
        one_start = apart _ _ five.1;
      };
    }

pub not_bad : (s : Setting) → Sound s → bad_ranges s ≡ false
unfolding bad_ranges
not_bad s w =
    none_of
    (none_of
    (none_of
    (none_of (none_of (le-ltb _ _ w.zero) (le-ltb _ _ w.one)) (le-ltb _ _ w.start))
    (not_met _ _ w.zero w.one w.disjoint.zero_one))
    (not_met _ _ w.zero w.start w.disjoint.zero_start))
    (not_met _ _ w.one w.start w.disjoint.one_start)

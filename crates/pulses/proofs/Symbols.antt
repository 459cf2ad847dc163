-- A pulse's symbol, width by width.
use mathlib.Core.Bool.{Bool, true, false, false≢true}
use mathlib.Core.Logic.Iff
use mathlib.Core.Logic.{◌↔◌, ⊎_elim}
use mathlib.Core.Path.{◌≡◌, refl, sym, ◌∙◌}
use Prim.Native.Nat.{ℕ, ◌≤◌}
use native.Mathlib.Nat.{le_refl}
use native.Mathlib.Omega.{arith}
use borrow.Author.Tests.{eqb-false, le-leb, leb-true}
use lib.Dec.{leb}
use Rattle.line.proofs.Either.{both, either}
use Rattle.line.specs.Choice.{pick}
use Rattle.line.specs.Numbers.{slot_high, slot_idle, slot_low, slot_start}
use Rattle.pulses.specs.declared.Range.{Range}
use Rattle.pulses.specs.declared.Setting.{Setting}
use Rattle.pulses.specs.Relied.{Apart, Becomes, Disjoint, From, LiesIn}
use Rattle.pulses.specs.Symbols.{symbol_of, within}

-- ---- the first of three tests that holds

abbrev chosen : Bool → Bool → Bool → ℕ
chosen a b c = pick a slot_low (pick b slot_high (pick c slot_start slot_idle))

-- two tests that do not hold together
abbrev Never : Bool → Bool → Type 0
Never a b = a ≡ true → b ≡ true → ⊥

chosen_zero : (a b c : Bool) → (chosen a b c ≡ slot_low) ↔ (a ≡ true)
chosen_zero true b c = (λ e. refl, λ e. refl)
chosen_zero false true c = (λ e. absurd (eqb-false 1 0 refl e), λ e. absurd (false≢true e))
chosen_zero false false true = (λ e. absurd (eqb-false 2 0 refl e), λ e. absurd (false≢true e))
chosen_zero false false false = (λ e. absurd (eqb-false 3 0 refl e), λ e. absurd (false≢true e))

chosen_one : (a b c : Bool) → Never a b → (chosen a b c ≡ slot_high) ↔ (b ≡ true)
chosen_one true b c n = (λ e. absurd (eqb-false 0 1 refl e), λ e. absurd (n refl e))
chosen_one false true c n = (λ e. refl, λ e. refl)
chosen_one false false true n = (λ e. absurd (eqb-false 2 1 refl e), λ e. absurd (false≢true e))
chosen_one false false false n = (λ e. absurd (eqb-false 3 1 refl e), λ e. absurd (false≢true e))

chosen_start : (a b c : Bool) → Never a c → Never b c → (chosen a b c ≡ slot_start) ↔ (c ≡ true)
chosen_start true b c m n = (λ e. absurd (eqb-false 0 2 refl e), λ e. absurd (m refl e))
chosen_start false true c m n = (λ e. absurd (eqb-false 1 2 refl e), λ e. absurd (n refl e))
chosen_start false false true m n = (λ e. refl, λ e. refl)
chosen_start false false false m n = (λ e. absurd (eqb-false 3 2 refl e), λ e. absurd (false≢true e))

-- a test that does not hold
abbrev Not : Bool → Type 0
Not b = b ≡ true → ⊥

chosen_idle : (a b c : Bool) → (chosen a b c ≡ slot_idle) ↔ Not a × Not b × Not c
chosen_idle true b c = (λ e. absurd (eqb-false 0 3 refl e), λ n. absurd (n.0 refl))
chosen_idle false true c = (λ e. absurd (eqb-false 1 3 refl e), λ n. absurd (n.1 refl))
chosen_idle false false true = (λ e. absurd (eqb-false 2 3 refl e), λ n. absurd (n.2 refl))
chosen_idle false false false = (λ e. (false≢true, false≢true, false≢true), λ n. refl)

chosen_small : (a b c : Bool) → chosen a b c ≤ slot_idle
chosen_small true b c = omega arith
chosen_small false true c = omega arith
chosen_small false false true = omega arith
chosen_small false false false = omega arith

pub symbol_small : (s : Setting) (least most : ℕ) → symbol_of s least most ≤ slot_idle
unfolding symbol_of
symbol_small s least most =
    chosen_small (within s.zero least most) (within s.one least most) (within s.start least most)

-- ---- an interval in a range, by its ends and width by width

within_lies : (r : Range) (least most : ℕ) → within r least most ≡ true → LiesIn r least most
within_lies r least most e width f =
    let ends = both (leb r.least least) (leb most r.most) e in
    record {
      above = omega (arith, leb-true r.least least ends.0, f.above);
      below = omega (arith, leb-true most r.most ends.1, f.below);
    }

lies_within : (r : Range) (least most : ℕ) → least ≤ most → LiesIn r least most → within r least most ≡ true
lies_within r least most order lies =
    let first = lies least (record { above = le_refl least; below = order }) in
    let last = lies most (record { above = order; below = le_refl most }) in
    rw (le-leb r.least least first.above, le-leb most r.most last.below) refl

-- an interval lies in one of two ranges that share no tick
one_only : (a b : Range) (least most : ℕ) → least ≤ most → Apart a b → Never (within a least most) (within b least most)
one_only a b least most order e in_a in_b =
    let at : From least most least = record { above = le_refl least; below = order } in
    e least (within_lies a least most in_a least at) (within_lies b least most in_b least at)

-- ---- the symbol of a pulse

module _ (s : Setting) (d : Disjoint s) (least most : ℕ) (order : least ≤ most) where
  abbrev in_zero : Bool
  in_zero = within s.zero least most

  abbrev in_one : Bool
  in_one = within s.one least most

  abbrev in_start : Bool
  in_start = within s.start least most

  is_zero : (symbol_of s least most ≡ slot_low) ↔ (in_zero ≡ true)
  unfolding symbol_of
  is_zero = chosen_zero in_zero in_one in_start

  is_one : (symbol_of s least most ≡ slot_high) ↔ (in_one ≡ true)
  unfolding symbol_of
  is_one = chosen_one in_zero in_one in_start (one_only _ _ least most order d.zero_one)

  is_start : (symbol_of s least most ≡ slot_start) ↔ (in_start ≡ true)
  unfolding symbol_of
  is_start =
      chosen_start in_zero in_one in_start (one_only _ _ least most order d.zero_start)
      (one_only _ _ least most order d.one_start)

  is_idle : (symbol_of s least most ≡ slot_idle) ↔ Not in_zero × Not in_one × Not in_start
  unfolding symbol_of
  is_idle = chosen_idle in_zero in_one in_start

  lies : (r : Range) → (within r least most ≡ true) ↔ LiesIn r least most
  lies r = (within_lies r least most, lies_within r least most order)

  -- "exactly if its whole interval lies in that symbol's range; otherwise it becomes idle"
  pub becomes : Becomes s least most (symbol_of s least most)
  becomes = record {
    zero = Iff.trans is_zero (lies s.zero);
    one = Iff.trans is_one (lies s.one);
    start = Iff.trans is_start (lies s.start);
    idle = (
      λ e. (
        λ l. (is_idle.0 e).0 ((lies s.zero).1 l),
        λ l. (is_idle.0 e).1 ((lies s.one).1 l),
        λ l. (is_idle.0 e).2 ((lies s.start).1 l),
      ),
      λ n. is_idle.1
          (λ w. n.0 ((lies s.zero).0 w), λ w. n.1 ((lies s.one).0 w), λ w. n.2 ((lies s.start).0 w)),
    );
  }

-- a width of the interval lies where the interval does
narrowed : (r : Range) (least most width : ℕ) → From least most width → within r least most ≡ true
    → within r width width ≡ true
narrowed r least most width f e =
    lies_within r width width (le_refl width)
    (λ w g. within_lies r least most e w
    (record { above = omega (arith, f.above, g.above); below = omega (arith, f.below, g.below) }))

-- "exact measuring would give the same symbol"
pub exact_alike : (s : Setting) → Disjoint s → (least most width : ℕ) → From least most width
    → (symbol_of s least most ≡ slot_idle → ⊥) → symbol_of s width width ≡ symbol_of s least most
exact_alike s d least most width f n =
    ⊎_elim (alike s.zero (λ l m o. (is_zero s d l m o).1))
    (λ not-zero. ⊎_elim (alike s.one (λ l m o. (is_one s d l m o).1))
    (λ not-one. ⊎_elim (alike s.start (λ l m o. (is_start s d l m o).1))
    (λ not_start. absurd (n ((is_idle s d least most order).1
    (λ t. false≢true (sym not-zero ∙ t), λ t. false≢true (sym not-one ∙ t), λ t. false≢true (sym not_start ∙ t)))))
    (either (within s.start least most)))
    (either (within s.one least most)))
    (either (within s.zero least most))
  where
    order : least ≤ most
    order = omega (arith, f.above, f.below)

    alike : (r : Range) {symbol : ℕ} → ((l m : ℕ) → l ≤ m → within r l m ≡ true → symbol_of s l m ≡ symbol)
        → within r least most ≡ true → symbol_of s width width ≡ symbol_of s least most
    alike r is t = is width width (le_refl width) (narrowed r least most width f t) ∙ sym (is least most order t)

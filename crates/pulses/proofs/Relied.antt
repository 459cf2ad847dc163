-- What a user relies on, from the laws of ranges and symbols.
use mathlib.Core.Bool.{Bool, true, false}
use mathlib.Core.List.{List, [], ◌∷◌, map}
use mathlib.Core.Logic.{⊎_elim}
use mathlib.Core.Path.{◌≡◌, refl, sym, ap, ap₂, subst, ◌∙◌}
use Prim.Native.Nat.{ℕ, zero, suc, ◌+◌, ◌*◌, ◌<◌, ◌≤◌}
use native.Mathlib.Omega.{arith}
use Rattle.std.specs.Prelude.{Ok, Err}
use borrow.Author.Tests.{eqb-false, le-ltb, lt-ltb, ltb-false}
use lib.Dec.{ltb}
use lib.ListN.{get_or, length, length-map}
use Rattle.line.proofs.Either.{either, neither, none_of}
use Rattle.line.proofs.Places.{get_or_map}
use Rattle.line.specs.Choice.{pick}
use Rattle.line.specs.Numbers.{slot_idle}
use Rattle.pulses.specs.declared.Setting.{Setting}
use Rattle.pulses.specs.declared.PulsesError.TheVariants.{ShortList, BadRanges, BadPulse}
use Rattle.pulses.specs.Conversion.{Ending, end_of, number_of}
use Rattle.pulses.specs.Ranges.{bad_ranges}
use Rattle.pulses.specs.Relied.{Becomes, Disjoint, Ordered, Relied, Sound, TrueWidths, Widths, exact_slots, exactly}
use Rattle.pulses.specs.Symbols.{bad_in, bad_pulse, least_in, most_in, slots_of, symbol_of}
use Rattle.pulses.proofs.Ranges.{not_bad, sound}
use Rattle.pulses.proofs.Symbols.{becomes, exact_alike}

-- ---- "20, a pulse with least above most", wherever it stands

ordered : (pulses : List ℕ) → bad_in pulses ≡ false → Ordered pulses
ordered [] e i inside = absurd (omega (arith, inside))
ordered (p ∷ ps) e zero inside = ltb-false (most_in p) (least_in p) (neither (bad_pulse p) (bad_in ps) e).0
ordered (p ∷ ps) e (suc i) inside = ordered ps (neither (bad_pulse p) (bad_in ps) e).1 i (omega (arith, inside))

none_bad : (pulses : List ℕ) → Ordered pulses → bad_in pulses ≡ false
none_bad [] o = refl
none_bad (p ∷ ps) o =
    none_of (le-ltb (most_in p) (least_in p) (o 0 (omega arith)))
    (none_bad ps (λ i inside. o (suc i) (omega (arith, inside))))

-- ---- the answers

-- the last of four endings is chosen only where no test holds
abbrev chosen : Bool → Bool → Bool → Ending
chosen a b c = pick a (Err ShortList) (pick b (Err BadRanges) (pick c (Err BadPulse) (Ok tt)))

chosen_last : (a b c : Bool) → chosen a b c ≡ Ok tt → (b ≡ false) × (c ≡ false)
chosen_last false false false e = (refl, refl)
chosen_last true b c e = absurd (eqb-false 12 0 refl (ap number_of e))
chosen_last false true c e = absurd (eqb-false 19 0 refl (ap number_of e))
chosen_last false false true e = absurd (eqb-false 20 0 refl (ap number_of e))

module _ (s : Setting) (room : ℕ) (pulses : List ℕ) where
  short_list : room < length pulses → end_of s room pulses ≡ Err ShortList
  unfolding end_of
  short_list e = rw (lt-ltb room (length pulses) e) refl

  bad-ranges : length pulses ≤ room → (Sound s → ⊥) → end_of s room pulses ≡ Err BadRanges
  unfolding end_of
  bad-ranges e n =
      ⊎_elim (λ (t : bad_ranges s ≡ true). rw (le-ltb room (length pulses) e, t) refl) (λ f. absurd (n (sound s f)))
      (either (bad_ranges s))

  bad-pulse : length pulses ≤ room → Sound s → (Ordered pulses → ⊥) → end_of s room pulses ≡ Err BadPulse
  unfolding end_of
  bad-pulse e w n =
      ⊎_elim (λ (t : bad_in pulses ≡ true). rw (le-ltb room (length pulses) e, not_bad s w, t) refl)
      (λ f. absurd (n (ordered pulses f))) (either (bad_in pulses))

  given : length pulses ≤ room → Sound s → Ordered pulses → end_of s room pulses ≡ Ok tt
  unfolding end_of
  given e w o = rw (le-ltb room (length pulses) e, not_bad s w, none_bad pulses o) refl

  -- nothing is wrong where each pulse gets its slot
  taken : end_of s room pulses ≡ Ok tt → Sound s × Ordered pulses
  unfolding end_of
  taken e =
      let tests = chosen_last (ltb room (length pulses)) (bad_ranges s) (bad_in pulses) e in
      (sound s tests.0, ordered pulses tests.1)

-- ---- each place

-- a width as a pulse
least_said : (least most : ℕ) → least < 0x1_0000 → least_in (least + most * 0x1_0000) ≡ least
least_said least most small = omega (arith, small)

most_said : (least most : ℕ) → least < 0x1_0000 → most_in (least + most * 0x1_0000) ≡ most
most_said least most small = omega (arith, small)

measured : (s : Setting) (widths : List ℕ) → Widths widths → slots_of s (map exactly widths) ≡ exact_slots s widths
measured s [] small = refl
measured s (w ∷ ws) small =
    let here = small 0 (omega arith) in
    ap₂ (λ slot slots. slot ∷ slots) (rw (least_said w w here, most_said w w here) refl)
    (measured s ws (λ i inside. small (suc i) (omega (arith, inside))))

slot_at : (s : Setting) (pulses : List ℕ) (i : ℕ) → i < length pulses
    → get_or (slots_of s pulses) i slot_idle ≡ symbol_of s (least_in (get_or pulses i 0)) (most_in (get_or pulses i 0))
slot_at s pulses i = get_or_map (λ (p : ℕ). symbol_of s (least_in p) (most_in p)) pulses i 0 slot_idle

exact : (s : Setting) → Disjoint s → (pulses widths : List ℕ) → TrueWidths pulses widths → (i : ℕ) → i < length pulses
    → (get_or (slots_of s pulses) i slot_idle ≡ slot_idle → ⊥)
    → get_or (exact_slots s widths) i slot_idle ≡ get_or (slots_of s pulses) i slot_idle
exact s d pulses widths true_widths i inside n =
    let here = slot_at s pulses i inside in
    let width = true_widths i inside in
    get_or_map (λ (w : ℕ). symbol_of s w w) widths i 0 slot_idle width.0
    ∙ exact_alike s d _ _ (get_or widths i 0) width.1 (λ e. n (here ∙ e)) ∙ sym here

pub relied : (s : Setting) → Relied s
relied s = record {
  least = least_said;
  most = most_said;
  short_list = short_list s;
  bad-ranges = bad-ranges s;
  bad-pulse = bad-pulse s;
  given = given s;
  taken = taken s;
  as_many = λ pulses. length-map pulses _;
  becomes = λ d pulses o i inside.
      subst (Becomes s (least_in (get_or pulses i 0)) (most_in (get_or pulses i 0)))
      (sym (slot_at s pulses i inside)) (becomes s d _ _ (o i inside));
  exact = exact s;
  measured = measured s;
}

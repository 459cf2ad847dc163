-- The fields of a frame: how large their numbers are, and how many are given, by how the header ends.
use mathlib.Core.Bool.{Bool, true, false, false≢true}
use mathlib.Core.List.{List, [], ◌∷◌, map}
use mathlib.Core.Logic.{◌⊎◌, inl, inr, ⊎_elim}
use mathlib.Core.Path.{◌≡◌, refl}
use Prim.Native.Nat.{ℕ, zero, suc, ◌+◌, ◌*◌, ◌^◌, ◌≤◌, ◌<◌}
use native.Mathlib.Nat.{mul-le-mul_right, pow-suc}
use native.Mathlib.Omega.{arith}
use borrow.Author.Tests.{eqb-false, lt-ltb}
use lib.Dec.{eqb, ltb}
use lib.ListN.{get_or-eq_default, drop, get_or, length, take}
use lib.Pow.{pow_pos}
use Rattle.line.proofs.Either.{below_or_not, both, either}
use Rattle.line.specs.Choice.{pick}
use Rattle.line.specs.Numbers.{end_broken_data}
use Rattle.logs.specs.Frames.{Low}
use Rattle.logs.specs.Fields.{Field, end_in, given_in, header, length_in, nak_at, number_at, number_from, value_in}
use Rattle.logs.specs.Relied.{fields_at}
use Rattle.logs.proofs.Frames.{low_drop}

-- ---- numbers

number-from : (bits n : ℕ) (levels : List ℕ) → Low levels → number_from n (take bits levels) < (n + 1) * 2 ^ bits
unfolding number_from
number-from zero n levels low = omega arith
number-from (suc bits) n [] low = omega (arith, mul-le-mul_right (n + 1) (pow_pos (suc bits)))
number-from (suc bits) n (level ∷ levels) low =
    let rest = number-from bits (n * 2 + level) levels (λ i. low (suc i)) in
    rw (pow-suc 2 bits) (omega (arith, mul-le-mul_right (2 ^ bits) (low 0)))

pub number_low : (bits : ℕ) (levels : List ℕ) → Low levels → number_from 0 (take bits levels) < 2 ^ bits
number_low bits levels low = omega (arith, number-from bits 0 levels low)

pub number_at_low : (place bits : ℕ) (levels : List ℕ) → Low levels → number_at levels place bits < 2 ^ bits
number_at_low place bits levels low = number_low bits (drop place levels) (low_drop place levels low)

pub length_most : (n : ℕ) → n < 256 → length_in n ≤ 256
length_most n h = ⊎_elim (λ e. rw e (omega arith)) (λ e. rw e (omega arith)) (either (eqb n 0))

length_least : (n : ℕ) → 1 ≤ length_in n
length_least n =
    ⊎_elim (λ e. rw e (omega arith)) (λ e. rw e (omega (arith, eqb-false n 0 e))) (either (eqb n 0))

-- ---- what is given

-- what a field's slots say is given, or nothing
given_is : (levels : List ℕ) (fs : List Field) (i : ℕ) → i < length (given_in fs levels)
    → get_or (given_in fs levels) i 0 ≡ get_or (map (value_in levels) fs) i 0
unfolding given_in
given_is levels [] i h = refl
given_is levels (f ∷ fs) i h = by (ltb (length levels) f.end) (nak_at levels f) i h (given_is levels fs)
  where
    by : (cut nak : Bool) (i : ℕ) → i < length (pick cut [] (value_in levels f ∷ pick nak [] (given_in fs levels)))
        → ((i : ℕ) → i < length (given_in fs levels)
        → get_or (given_in fs levels) i 0 ≡ get_or (map (value_in levels) fs) i 0)
        → get_or (pick cut [] (value_in levels f ∷ pick nak [] (given_in fs levels))) i 0
        ≡ get_or (map (value_in levels) (f ∷ fs)) i 0
    by true nak i h later = absurd (omega arith)
    by false nak zero h later = refl
    by false true (suc i) h later = absurd (omega arith)
    by false false (suc i) h later = later i (omega arith)

pub given_most : (levels : List ℕ) (fs : List Field) (i : ℕ)
    → get_or (given_in fs levels) i 0 ≤ get_or (map (value_in levels) fs) i 0
given_most levels fs i =
    ⊎_elim (λ there. omega (arith, given_is levels fs i there))
    (λ past. omega (arith, get_or-eq_default (given_in fs levels) 0 past))
    (below_or_not i (length (given_in fs levels)))

-- a length that is given
pub bytes_least : (levels : List ℕ) → length (given_in header levels) ≡ 5 → 1 ≤ get_or (given_in header levels) 4 0
bytes_least levels all =
    omega (arith, given_is levels header 4 (omega arith), length_least (number_at levels 34 8))

-- what the table of endings has for fields that stand behind n others
abbrev Tabled : ℕ → List Field → Type 0
Tabled n [] = n ≡ fields_at end_broken_data
Tabled n (f ∷ fs) =
    (n ≡ fields_at f.broken) × (f.answered ≡ true → suc n ≡ fields_at f.nak) × Tabled (suc n) fs

fields_from : (levels : List ℕ) (fs : List Field) (n : ℕ) → Tabled n fs
    → n + length (given_in fs levels) ≡ fields_at (end_in fs levels)
unfolding given_in end_in
fields_from levels [] n t = omega arith
fields_from levels (f ∷ fs) n t =
    by (ltb (length levels) f.end) (nak_at levels f) refl (fields_from levels fs (suc n) t.2)
  where
    by : (cut nak : Bool) → nak_at levels f ≡ nak → suc n + length (given_in fs levels) ≡ fields_at (end_in fs levels)
        → n + length (pick cut [] (value_in levels f ∷ pick nak [] (given_in fs levels)))
        ≡ fields_at (pick cut f.broken (pick nak f.nak (end_in fs levels)))
    by true nak e later = omega arith
    by false true e later = omega (arith, t.1 (both _ _ e).0)
    by false false e later = omega arith

-- one that nobody answers gets no NAK
unanswered : {P : Type 0} → false ≡ true → P
unanswered e = absurd (false≢true e)

pub fields_given : (levels : List ℕ) → length (given_in header levels) ≡ fields_at (end_in header levels)
unfolding fields_at
fields_given levels =
    let table : Tabled 0 header =
    (refl, unanswered, (refl, unanswered, (refl, λ e. refl, (refl, λ e. refl, (refl, λ e. refl, refl))))) in
    omega (arith, fields_from levels header 0 table)

-- how a header ends is one of the ends of its fields
abbrev LowEnds : List Field → Type 0
LowEnds [] = Unit
LowEnds (f ∷ fs) = (f.broken ≤ 10) × (f.nak ≤ 10) × LowEnds fs

end_low : (levels : List ℕ) (fs : List Field) → LowEnds fs → end_in fs levels ≤ 10
unfolding end_in
end_low levels [] low = omega arith
end_low levels (f ∷ fs) low = by (ltb (length levels) f.end) (nak_at levels f) (end_low levels fs low.2)
  where
    by : (cut nak : Bool) → end_in fs levels ≤ 10 → pick cut f.broken (pick nak f.nak (end_in fs levels)) ≤ 10
    by true nak later = low.0
    by false true later = low.1
    by false false later = later

pub header_end : (levels : List ℕ) → end_in header levels ≤ 10
header_end levels = end_low levels header (omega arith)

-- a word that may be left out
pub at_most_one : (t : Bool) (x : ℕ) → length (pick t [] (x ∷ [])) < 2
at_most_one true x = omega arith
at_most_one false x = omega arith

-- a master address that is given has its slots
pub master_slots : (levels : List ℕ) → (length (given_in header levels) < 2) ⊎ (14 ≤ length levels)
unfolding given_in
master_slots levels =
    ⊎_elim (λ short. inl (rw (lt-ltb _ 14 short) (at_most_one (ltb (length levels) 1) _))) (λ long. inr long)
    (below_or_not (length levels) 14)

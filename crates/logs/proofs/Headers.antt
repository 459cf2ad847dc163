-- The header of a frame by its slots: its fields say what was sent, of a frame that is cut what the longer one says,
-- and how it ends.
use mathlib.Core.Bool.{Bool, true, false, ◌&&◌}
use mathlib.Core.List.{List, [], ◌∷◌, ◌++◌, map}
use mathlib.Core.Logic.{⊎_elim}
use mathlib.Core.Path.{◌≡◌, refl, sym, ap, ap₂, ◌∙◌}
use Prim.Native.Nat.{ℕ, zero, suc, ◌+◌, ◌*◌, ◌-◌, ◌/◌, ◌^◌, ◌≤◌, ◌<◌}
use native.Mathlib.Nat.{div-eq_of_lt, div-one}
use native.Mathlib.Omega.{arith}
use borrow.Author.Tests.{le-ltb, lt-ltb, ltb-false, ne_eqb}
use lib.Dec.{eqb, ltb}
use lib.ListN.{get_or-append, get_or-eq_default, drop, get_or, length, length-append, length-drop, take}
use lib.Seq.{drop-append-le, take-append-le}
use Rattle.line.proofs.Either.{below_or_not}
use Rattle.line.proofs.Levels.{level_split}
use Rattle.line.specs.Choice.{pick}
use Rattle.line.specs.Numbers.{end_broken_data}
use Rattle.line.specs.Parity.{level_of, parity_holds}
use Rattle.logs.specs.Fields.{Field, end_in, given_in, header, length_in, nak_at, number_at, number_from, value_in}
use Rattle.logs.specs.Readings.{data_of, read_of}
use Rattle.logs.specs.Relied.{AttemptSays, Gives, HeaderSays, bits_of, fields_of, header_end, header_of, nak_in}
use Rattle.logs.proofs.Readings.{data_within}

-- ---- what was sent

-- levels say the number that they were made of
said_from : (bits field : ℕ) → number_from (field / 2 ^ bits) (bits_of bits field) ≡ field
unfolding number_from level_of bits_of
said_from zero field = div-one field
said_from (suc bits) field =
    let split = level_split bits field in
    let next : field / 2 ^ suc bits * 2 + level_of bits field ≡ field / 2 ^ bits = omega arith in
    ap (λ (n : ℕ). number_from n (bits_of bits field)) next ∙ said_from bits field

number_said : (bits field : ℕ) → field < 2 ^ bits → number_from 0 (bits_of bits field) ≡ field
number_said bits field low =
    ap (λ (n : ℕ). number_from n (bits_of bits field)) (sym (div-eq_of_lt low)) ∙ said_from bits field

-- what is given is the first of what the slots of the fields say
given_first : (levels : List ℕ) (fs : List Field)
    → given_in fs levels ≡ take (length (given_in fs levels)) (map (value_in levels) fs)
unfolding given_in
given_first levels [] = refl
given_first levels (f ∷ fs) = by (ltb (length levels) f.end) (nak_at levels f) (given_first levels fs)
  where
    by : (cut nak : Bool) → given_in fs levels ≡ take (length (given_in fs levels)) (map (value_in levels) fs)
        → pick cut [] (value_in levels f ∷ pick nak [] (given_in fs levels))
        ≡ take (length (pick cut [] (value_in levels f ∷ pick nak [] (given_in fs levels))))
        (map (value_in levels) (f ∷ fs))
    by true nak later = refl
    by false true later = refl
    by false false later = ap (λ (l : List ℕ). value_in levels f ∷ l) later

sent_values : (bit master slave control byte : ℕ) (p a : ℕ → ℕ) (more : List ℕ) → master < 0x1000 → slave < 0x1000
    → control < 0x10 → byte < 0x100
    → map (value_in (header_of bit master slave control byte p a ++ more)) header
    ≡ fields_of bit master slave control byte
unfolding bits_of number_from
sent_values bit master slave control byte p a more m s c b =
    ap₂ ◌∷◌ (omega arith)
    (ap₂ ◌∷◌ (number_said 12 master m)
    (ap₂ ◌∷◌ (number_said 12 slave s)
    (ap₂ ◌∷◌ (number_said 4 control c) (ap₂ ◌∷◌ (ap length_in (number_said 8 byte b)) refl))))

pub attempt_says : (byte p a : ℕ) (more : List ℕ) → byte < 0x100
    → AttemptSays byte p a (bits_of 8 byte ++ p ∷ a ∷ more)
unfolding bits_of
attempt_says byte p a more b =
    let said = number_said 8 byte b in
    record { said = said; by_answer = refl; by_parity = ap (λ (n : ℕ). parity_holds n (eqb p 1)) said }

-- ---- a frame that is cut

-- slots that are there stay where they are
number_kept : (levels more : List ℕ) (place bits : ℕ) → place + bits ≤ length levels
    → number_at (levels ++ more) place bits ≡ number_at levels place bits
number_kept levels more place bits there =
    let left = length-drop place levels in
    ap (number_from 0)
    (ap (take bits) (drop-append-le place levels more (omega arith))
    ∙ take-append-le bits (drop place levels) more (omega arith))

nak_kept : (levels more : List ℕ) (f : Field) → 1 ≤ f.end → f.end ≤ length levels
    → nak_at (levels ++ more) f ≡ nak_at levels f
nak_kept levels more f some there =
    rw (get_or-append levels more 0 0 (omega arith), get_or-append levels more 0 (f.end - 1) (omega arith))

-- a field's slots are those up to its end
abbrev Ordered : List Field → Type 0
Ordered [] = Unit
Ordered (f ∷ fs) = (f.place + f.bits ≤ f.end) × (1 ≤ f.end) × Ordered fs

given_cut : (levels more : List ℕ) (fs : List Field) → Ordered fs
    → given_in fs levels ≡ take (length (given_in fs levels)) (given_in fs (levels ++ more))
unfolding given_in
given_cut levels more [] o = refl
given_cut levels more (f ∷ fs) o =
    by (ltb (length levels) f.end) (nak_at levels f) refl refl (given_cut levels more fs o.2)
  where
    by_nak : (nak : Bool) → value_in (levels ++ more) f ≡ value_in levels f
        → given_in fs levels ≡ take (length (given_in fs levels)) (given_in fs (levels ++ more))
        → value_in levels f ∷ pick nak [] (given_in fs levels)
        ≡ take (length (value_in levels f ∷ pick nak [] (given_in fs levels)))
        (value_in (levels ++ more) f ∷ pick nak [] (given_in fs (levels ++ more)))
    by_nak true v later = ap (λ (n : ℕ). n ∷ []) (sym v)
    by_nak false v later = ap₂ ◌∷◌ (sym v) later

    by : (cut nak : Bool) → ltb (length levels) f.end ≡ cut → nak_at levels f ≡ nak
        → given_in fs levels ≡ take (length (given_in fs levels)) (given_in fs (levels ++ more))
        → pick cut [] (value_in levels f ∷ pick nak [] (given_in fs levels))
        ≡ take (length (pick cut [] (value_in levels f ∷ pick nak [] (given_in fs levels))))
        (given_in (f ∷ fs) (levels ++ more))
    by true nak e n later = refl
    by false nak e n later =
        let there = ltb-false (length levels) f.end e in
        let longer = length-append levels more in
        rw (le-ltb (length (levels ++ more)) f.end (omega arith), nak_kept levels more f o.1 there, n)
        (by_nak nak (ap f.means (number_kept levels more f.place f.bits (omega arith))) later)

-- ---- how it ends

nak_past : (levels : List ℕ) (place : ℕ) → length levels ≤ place → nak_in levels place ≡ false
nak_past levels place past = rw (get_or-eq_default levels 0 past) (never (eqb (get_or levels 0 0) 1))
  where
    never : (b : Bool) → (b && false) ≡ false
    never true = refl
    never false = refl

module _ (levels : List ℕ) where
  abbrev Ends : Type 0
  Ends = end_in header levels ≡ header_end levels

  abbrev n : ℕ
  n = length levels

  -- by how many of the five fields are there
  none_there : n < 1 → Ends
  unfolding end_in header_end
  none_there h =
      rw (
        nak_past levels 27 (omega arith),
        nak_past levels 33 (omega arith),
        nak_past levels 43 (omega arith),
        lt-ltb n 1 h,
      )

  one_there : 1 ≤ n → n < 14 → Ends
  unfolding end_in header_end
  one_there g h =
      rw (
        nak_past levels 27 (omega arith),
        nak_past levels 33 (omega arith),
        nak_past levels 43 (omega arith),
        le-ltb n 1 g,
        lt-ltb n 14 h,
      )

  two_there : 14 ≤ n → n < 28 → Ends
  unfolding end_in header_end
  two_there g h =
      rw (
        nak_past levels 27 (omega arith),
        nak_past levels 33 (omega arith),
        nak_past levels 43 (omega arith),
        le-ltb n 1 (omega arith),
        le-ltb n 14 g,
        lt-ltb n 28 h,
      )

  three_there : 28 ≤ n → n < 34 → Ends
  unfolding end_in header_end
  three_there g h =
      rw (
        nak_past levels 33 (omega arith),
        nak_past levels 43 (omega arith),
        le-ltb n 1 (omega arith),
        le-ltb n 14 (omega arith),
        le-ltb n 28 g,
        lt-ltb n 34 h,
      )

  four_there : 34 ≤ n → n < 44 → Ends
  unfolding end_in header_end
  four_there g h =
      rw (
        nak_past levels 43 (omega arith),
        le-ltb n 1 (omega arith),
        le-ltb n 14 (omega arith),
        le-ltb n 28 (omega arith),
        le-ltb n 34 g,
        lt-ltb n 44 h,
      )

  all_there : 44 ≤ n → Ends
  unfolding end_in header_end
  all_there g =
      rw (
        le-ltb n 1 (omega arith),
        le-ltb n 14 (omega arith),
        le-ltb n 28 (omega arith),
        le-ltb n 34 (omega arith),
        le-ltb n 44 g,
      )

  pub header_ends : Ends
  header_ends =
      ⊎_elim none_there
      (λ g. ⊎_elim (one_there g)
      (λ g. ⊎_elim (two_there g)
      (λ g. ⊎_elim (three_there g) (λ g. ⊎_elim (four_there g) all_there (below_or_not n 44)) (below_or_not n 34))
      (below_or_not n 28)) (below_or_not n 14)) (below_or_not n 1)

-- ---- of a frame

module _ (long : Bool) where
  -- as many as the ending says
  gives : (levels fields : List ℕ) → given_in header levels ≡ take (length (given_in header levels)) fields
      → Gives fields (read_of long levels)
  unfolding read_of
  gives levels fields e =
      record { first = e ∙ ap (λ (n : ℕ). take n fields) (sym (data_within long levels).given) }

  pub sent : (bit master slave control byte : ℕ) (p a : ℕ → ℕ) (more : List ℕ) → master < 0x1000 → slave < 0x1000
      → control < 0x10 → byte < 0x100
      → Gives (fields_of bit master slave control byte)
      (read_of long (header_of bit master slave control byte p a ++ more))
  sent bit master slave control byte p a more m s c b =
      let levels = header_of bit master slave control byte p a ++ more in
      gives levels (fields_of bit master slave control byte)
      (given_first levels header
      ∙ ap (take (length (given_in header levels))) (sent_values bit master slave control byte p a more m s c b))

  pub cut : (levels more : List ℕ) → Gives (read_of long (levels ++ more)).given (read_of long levels)
  unfolding read_of
  cut levels more =
      gives levels (given_in header (levels ++ more)) (given_cut levels more header (omega arith))

  pub header_says : (levels : List ℕ) → header_end levels < end_broken_data
      → HeaderSays (header_end levels) (read_of long levels)
  unfolding data_of read_of
  header_says levels early =
      let ends = header_ends levels in
      rw (ne_eqb (end_in header levels) end_broken_data (λ e. omega arith))
      (record { ended = ends; acked = refl; unacked = refl })

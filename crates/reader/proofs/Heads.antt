-- The header of a frame, field by field: each is broken off, gets NAK, or is read on behind.
use mathlib.Core.Bool.{Bool, true, false, ◌&&◌}
use mathlib.Core.Path.{◌≡◌, refl}
use mathlib.Core.List.{List, [], ◌∷◌}
use Prim.Native.Nat.{ℕ, ◌+◌, ◌*◌, ◌<◌, ◌≤◌}
use native.Mathlib.Omega.{arith}
use borrow.Author.Tests.{le-ltb, lt-ltb}
use lib.Dec.{eqb}
use lib.ListN.{drop, get_or, length}
use Rattle.line.specs.Numbers.{end_broken_bit, end_broken_control, end_broken_data, end_broken_length, end_broken_master}
use Rattle.line.specs.Numbers.{end_broken_slave, end_nak_control, end_nak_length, end_nak_slave}
use Rattle.logs.specs.Fields.{Field, end_in, given_in, header, length_in, nak_at, number_at, number_from, value_in}
use Rattle.reader.specs.Heads.{head_in, head_of}

-- what the fields from one on give, and how the frame ends in them
pub record Told (fs : List Field) (levels given : List ℕ) (ending : ℕ) : Type 0 where
  pub gives : given_in fs levels ≡ given
  pub ends : end_in fs levels ≡ ending

module _ {levels : List ℕ} (f : Field) (fs : List Field) where
  broken_off : length levels < f.end → Told (f ∷ fs) levels [] f.broken
  unfolding given_in end_in
  broken_off short =
      let cut = lt-ltb (length levels) f.end short in
      record { gives = simp cut; ends = simp cut }

  nak_there : f.end ≤ length levels → nak_at levels f ≡ true → Told (f ∷ fs) levels (value_in levels f ∷ []) f.nak
  unfolding given_in end_in
  nak_there long nak =
      let whole = le-ltb (length levels) f.end long in
      record { gives = simp (whole, nak); ends = simp (whole, nak) }

  read_on : {given : List ℕ} {ending : ℕ} → f.end ≤ length levels → nak_at levels f ≡ false
      → Told fs levels given ending
      → Told (f ∷ fs) levels (value_in levels f ∷ given) ending
  unfolding given_in end_in
  read_on {given} {ending} long acked behind =
      let whole = le-ltb (length levels) f.end long in
      record { gives = simp (whole, acked, behind.gives); ends = simp (whole, acked, behind.ends) }

nothing_more : {levels : List ℕ} → Told [] levels [] end_broken_data
unfolding given_in end_in
nothing_more = record { gives = refl; ends = refl }

told_head : {levels given : List ℕ} {ending : ℕ} → Told header levels given ending
    → head_in given ending ≡ head_of levels
unfolding head_of
told_head {levels} {given} {ending} t = rw (t.gives, t.ends)

-- ---- the exits of the code

one_bit : (levels : List ℕ) → 1 ≤ length levels → get_or levels 0 0 ≡ number_at levels 0 1
unfolding number_from
one_bit [] long = omega arith
one_bit (l ∷ []) long = let same : l ≡ 0 * 2 + l = omega arith in same
one_bit (l ∷ m ∷ levels) long = let same : l ≡ 0 * 2 + l = omega arith in same

module _ (levels : List ℕ) where
  abbrev bit : ℕ
  bit = get_or levels 0 0

  abbrev master : ℕ
  master = number_at levels 1 12

  abbrev slave : ℕ
  slave = number_at levels 14 12

  abbrev control : ℕ
  control = number_at levels 28 4

  abbrev bytes : ℕ
  bytes = length_in (number_at levels 34 8)

  -- the A at a place is NAK
  abbrev nak_in : ℕ → Bool
  nak_in place = eqb bit 1 && eqb (get_or levels place 0) 1

  pub no_bit : length levels < 1 → head_in [] end_broken_bit ≡ head_of levels
  no_bit short = told_head (broken_off _ _ short)

  begun : {given : List ℕ} {ending : ℕ} → 1 ≤ length levels → Told (drop 1 header) levels given ending
      → head_in (bit ∷ given) ending ≡ head_of levels
  begun long t = rw (one_bit levels long) (told_head (read_on _ _ long refl t))

  pub no_master : 1 ≤ length levels → length levels < 14
      → head_in (bit ∷ []) end_broken_master ≡ head_of levels
  no_master long short = begun long (broken_off _ _ short)

  mastered : {given : List ℕ} {ending : ℕ} → 14 ≤ length levels → Told (drop 2 header) levels given ending
      → head_in (bit ∷ master ∷ given) ending ≡ head_of levels
  mastered long t = begun (omega arith) (read_on _ _ long refl t)

  pub no_slave : 14 ≤ length levels → length levels < 28
      → head_in (bit ∷ master ∷ []) end_broken_slave ≡ head_of levels
  no_slave long short = mastered long (broken_off _ _ short)

  pub nak_slave : 28 ≤ length levels → nak_in 27 ≡ true
      → head_in (bit ∷ master ∷ slave ∷ []) end_nak_slave ≡ head_of levels
  nak_slave long nak = mastered (omega arith) (nak_there _ _ long nak)

  module _ (long : 28 ≤ length levels) (slave_acked : nak_in 27 ≡ false) where
    addressed : {given : List ℕ} {ending : ℕ} → Told (drop 3 header) levels given ending
        → head_in (bit ∷ master ∷ slave ∷ given) ending ≡ head_of levels
    addressed t = mastered (omega arith) (read_on _ _ long slave_acked t)

    pub no_control : length levels < 34
        → head_in (bit ∷ master ∷ slave ∷ []) end_broken_control ≡ head_of levels
    no_control short = addressed (broken_off _ _ short)

    pub nak_control : 34 ≤ length levels → nak_in 33 ≡ true
        → head_in (bit ∷ master ∷ slave ∷ control ∷ []) end_nak_control ≡ head_of levels
    nak_control enough nak = addressed (nak_there _ _ enough nak)

    module _ (enough : 34 ≤ length levels) (control_acked : nak_in 33 ≡ false) where
      controlled : {given : List ℕ} {ending : ℕ} → Told (drop 4 header) levels given ending
          → head_in (bit ∷ master ∷ slave ∷ control ∷ given) ending ≡ head_of levels
      controlled t = addressed (read_on _ _ enough control_acked t)

      pub no_length : length levels < 44
          → head_in (bit ∷ master ∷ slave ∷ control ∷ []) end_broken_length ≡ head_of levels
      no_length short = controlled (broken_off _ _ short)

      pub nak_length : 44 ≤ length levels → nak_in 43 ≡ true
          → head_in (bit ∷ master ∷ slave ∷ control ∷ bytes ∷ []) end_nak_length ≡ head_of levels
      nak_length whole nak = controlled (nak_there _ _ whole nak)

      pub whole_header : 44 ≤ length levels → nak_in 43 ≡ false
          → head_in (bit ∷ master ∷ slave ∷ control ∷ bytes ∷ []) end_broken_data ≡ head_of levels
      whole_header whole answered = controlled (read_on _ _ whole answered nothing_more)

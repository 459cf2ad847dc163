-- What a user relies on, of every setting and every list of pulses: laws of the definitions before, told in the words
-- of ticket 8 and width by width, so that a definition that says something else is refused.
use Rattle.std.specs.Prelude.{List, map, Ok, Err, ◌↔◌, ◌≡◌, ℕ, ◌+◌, ◌*◌, ◌<◌, ◌≤◌, get_or, length}
use Rattle.line.specs.Numbers.{slot_high, slot_idle, slot_low, slot_start}
use Rattle.pulses.specs.declared.Range.{Range}
use Rattle.pulses.specs.declared.Setting.{Setting}
use Rattle.pulses.specs.declared.PulsesError.TheVariants.{ShortList, BadRanges, BadPulse}
use Rattle.pulses.specs.Conversion.{end_of}
use Rattle.pulses.specs.Symbols.{least_in, most_in, slots_of, symbol_of}

-- a width from a least to a most, both included
pub record From (least most width : ℕ) : Type 0 where
  pub above : least ≤ width
  pub below : width ≤ most

-- a width of a range
abbrev pub Holds : Range → ℕ → Type 0
Holds r width = From r.least r.most width

-- a pulse was measured from a least to a most: "its whole interval lies in that symbol's range"
abbrev pub LiesIn : Range → ℕ → ℕ → Type 0
LiesIn r least most = (width : ℕ) → From least most width → Holds r width

-- two ranges that share no tick, and "all three disjoint"
abbrev pub Apart : Range → Range → Type 0
Apart a b = (width : ℕ) → Holds a width → Holds b width → ⊥

pub record Disjoint (s : Setting) : Type 0 where
  pub zero_one : Apart s.zero s.one
  pub zero_start : Apart s.zero s.start
  pub one_start : Apart s.one s.start

-- a setting with which nothing is wrong
pub record Sound (s : Setting) : Type 0 where
  pub zero : s.zero.least ≤ s.zero.most
  pub one : s.one.least ≤ s.one.most
  pub start : s.start.least ≤ s.start.most
  pub disjoint : Disjoint s

-- and a list of pulses
abbrev pub Ordered : List ℕ → Type 0
Ordered pulses = (i : ℕ) → i < length pulses → least_in (get_or pulses i 0) ≤ most_in (get_or pulses i 0)

-- "A pulse becomes a symbol exactly if its whole interval lies in that symbol's range; otherwise it becomes idle"
pub record Becomes (s : Setting) (least most slot : ℕ) : Type 0 where
  pub zero : (slot ≡ slot_low) ↔ LiesIn s.zero least most
  pub one : (slot ≡ slot_high) ↔ LiesIn s.one least most
  pub start : (slot ≡ slot_start) ↔ LiesIn s.start least most
  pub idle : (slot ≡ slot_idle)
      ↔ (LiesIn s.zero least most → ⊥) × (LiesIn s.one least most → ⊥) × (LiesIn s.start least most → ⊥)

-- "true widths lie in the measured intervals": each pulse has one
abbrev pub TrueWidths : List ℕ → List ℕ → Type 0
TrueWidths pulses widths =
    (i : ℕ) → i < length pulses
    → (i < length widths) × From (least_in (get_or pulses i 0)) (most_in (get_or pulses i 0)) (get_or widths i 0)

-- "exact measuring": the least is the most, and both are the true width
abbrev pub exact_slots : Setting → List ℕ → List ℕ
exact_slots s widths = map (λ (width : ℕ). symbol_of s width width) widths

-- which a card would give so: both halves of the word are the width
abbrev pub exactly : ℕ → ℕ
exactly width = width + width * 0x1_0000

-- "both up to 65,535"
abbrev pub Widths : List ℕ → Type 0
Widths widths = (i : ℕ) → i < length widths → get_or widths i 0 < 0x1_0000

-- what a user relies on, of every list
pub record Relied (s : Setting) : Type 0 where
  -- a pulse is a least and a most, both in one word
  pub least : (least most : ℕ) → least < 0x1_0000 → least_in (least + most * 0x1_0000) ≡ least
  pub most : (least most : ℕ) → least < 0x1_0000 → most_in (least + most * 0x1_0000) ≡ most
  -- "12, ahead of the others"; "19", whatever the pulses are; "20 .. checked after 19 over the whole list"; else each
  -- pulse gets its slot
  pub short_list : (room : ℕ) (pulses : List ℕ) → room < length pulses → end_of s room pulses ≡ Err ShortList
  pub bad-ranges : (room : ℕ) (pulses : List ℕ) → length pulses ≤ room → (Sound s → ⊥)
      → end_of s room pulses ≡ Err BadRanges
  pub bad-pulse : (room : ℕ) (pulses : List ℕ) → length pulses ≤ room → Sound s → (Ordered pulses → ⊥)
      → end_of s room pulses ≡ Err BadPulse
  pub given : (room : ℕ) (pulses : List ℕ) → length pulses ≤ room → Sound s → Ordered pulses
      → end_of s room pulses ≡ Ok tt
  pub taken : (room : ℕ) (pulses : List ℕ) → end_of s room pulses ≡ Ok tt → Sound s × Ordered pulses
  pub as_many : (pulses : List ℕ) → length (slots_of s pulses) ≡ length pulses
  pub becomes : Disjoint s → (pulses : List ℕ) → Ordered pulses → (i : ℕ) → i < length pulses
      → Becomes s (least_in (get_or pulses i 0)) (most_in (get_or pulses i 0)) (get_or (slots_of s pulses) i slot_idle)
  -- "whatever true widths lie in the measured intervals, exact measuring would give the same symbol at each place that
  -- isn't idle"
  pub exact : Disjoint s → (pulses widths : List ℕ) → TrueWidths pulses widths → (i : ℕ) → i < length pulses
      → (get_or (slots_of s pulses) i slot_idle ≡ slot_idle → ⊥)
      → get_or (exact_slots s widths) i slot_idle ≡ get_or (slots_of s pulses) i slot_idle
  -- and that is what the conversion makes of widths that were measured so
  pub measured : (widths : List ℕ) → Widths widths → slots_of s (map exactly widths) ≡ exact_slots s widths

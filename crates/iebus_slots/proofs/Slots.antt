-- The slots of an input, as the code makes them.
use mathlib.Core.List.{List, [], ◌∷◌, ◌++◌}
use mathlib.Core.Path.{◌≡◌, refl, sym, ap, ◌∙◌}
use Prim.Native.Nat.{ℕ, zero, suc, ◌*◌, ◌-◌, ◌/◌, ◌^◌, ◌<◌, ◌≤◌, min}
use native.Mathlib.Omega.{arith}
use lib.ListN.{drop, get_or, length, length-map, take}
use lib.Seq.{take_at, take-length}
use Rattle.line.specs.Numbers.{slot_idle}
use Rattle.std.specs.Prelude.{Ok, Err}
use Rattle.pulses.specs.declared.PulsesError.TheVariants.{ShortList, BadRanges, BadPulse}
use Rattle.pulses.specs.declared.Setting.{Setting}
use Rattle.pulses.specs.Conversion.{Converted, Ending, end_of, written_of}
use Rattle.pulses.specs.Symbols.{least_in, most_in, slots_of}
use Rattle.pulses.proofs.Symbols.{symbol_small}
use Rattle.words.specs.Words.{byte_at, bytes_of, words_of}
use Rattle.words.proofs.Words.{read_again, read_count, read_front}
use Rattle.line.proofs.Placed.{placed_length}
use Rattle.iebus_slots.specs.Output.{ReadAgain, given_of, measured_of, most_pulses, output_of, pulses_of, slots_for}

-- the pulses that a list of so many places takes
pulses_read : (input list rest : List ℕ) {count room : ℕ} → count ≡ min (length input / 4) room
    → room ≡ most_pulses → list ≡ words_of input count ++ rest → take count list ≡ pulses_of input
unfolding pulses_of
pulses_read input list rest {count} counted is front =
    let all : count ≡ count - 0 = omega arith in
    ap (λ (k : ℕ). take k list) all ∙ read_front input list rest counted is front

pulses_count : (input : List ℕ) → length (pulses_of input) ≡ min (length input / 4) most_pulses
unfolding pulses_of
pulses_count input = read_count input most_pulses

given_count : (s : Setting) (m : Ending) (pulses : List ℕ) → length (written_of s m pulses) ≡ given_of m (length pulses)
unfolding written_of
given_count s (Ok done) pulses = length-map pulses _
given_count s (Err ShortList) pulses = refl
given_count s (Err BadRanges) pulses = refl
given_count s (Err BadPulse) pulses = refl

given_most : (m : Ending) (count : ℕ) → given_of m count ≤ count
given_most (Ok done) count = omega arith
given_most (Err e) count = omega arith

slots_fit : (s : Setting) (input : List ℕ) → length (slots_for s input) ≤ most_pulses
slots_fit s input =
    let m = measured_of s input in
    omega (arith, given_count s m (pulses_of input), given_most m (length (pulses_of input)), pulses_count input)

-- each is a slot word
mapped_small : (s : Setting) (pulses : List ℕ) (i : ℕ) → get_or (slots_of s pulses) i 0 ≤ slot_idle
mapped_small s [] i = omega arith
mapped_small s (p ∷ ps) zero = symbol_small s (least_in p) (most_in p)
mapped_small s (p ∷ ps) (suc i) = mapped_small s ps i

slot_small : (s : Setting) (m : Ending) (pulses : List ℕ) (i : ℕ) → get_or (written_of s m pulses) i 0 < 2 ^ 32
unfolding written_of
slot_small s (Ok done) pulses i = omega (arith, mapped_small s pulses i)
slot_small s (Err ShortList) pulses i = omega arith
slot_small s (Err BadRanges) pulses i = omega arith
slot_small s (Err BadPulse) pulses i = omega arith

pub read_again_slots : (s : Setting) (input : List ℕ) → ReadAgain s input
unfolding output_of
read_again_slots s input =
    let slots = slots_for s input in
    let all : min (length slots) (most_pulses * 4 / 4) ≡ length slots = omega (arith, slots_fit s input) in
    record {
      whole = placed_length (byte_at slots) _ ∙ ap (λ (n : ℕ). n * 4) all;
      words = ap (λ (n : ℕ). words_of (bytes_of slots (n * 4)) (length slots)) all
          ∙ read_again slots (length slots) (omega arith) (slot_small s (measured_of s input) (pulses_of input))
          ∙ take-length slots;
    }

-- those of them that a list has at its front
slots_made : (s : Setting) (input before after : List ℕ) {m : Ending} {count end : ℕ}
    → Converted s (pulses_of input) before m after → length before ≡ most_pulses → count ≡ length (pulses_of input)
    → end ≡ given_of m count → (m ≡ measured_of s input) × (take end after ≡ slots_for s input)
slots_made s input before after {m} {count} {end} c room counted is =
    let measured : m ≡ measured_of s input = c.ends ∙ ap (λ (n : ℕ). end_of s n (pulses_of input)) room in
    let long : length (written_of s m (pulses_of input)) ≡ end =
    given_count s m (pulses_of input) ∙ ap (given_of m) (sym counted) ∙ sym is
    in (
      measured,
      ap (take end) c.written
          ∙ take_at (written_of s m (pulses_of input)) _ end long
          ∙ ap (λ (r : Ending). written_of s r (pulses_of input)) measured,
    )

-- and their bytes, as they stand in a list
pub record Made (s : Setting) (input before : List ℕ) (count : ℕ) (after : List ℕ) : Type 0 where
  pub counted : count ≡ length (output_of s input (length before))
  pub written : after ≡ output_of s input (length before) ++ drop count before
  pub within : count ≤ length before

output_made : (s : Setting) (input slots before after : List ℕ) {words : ℕ} → slots ≡ slots_for s input
    → words ≡ min (length slots) (length before / 4) → after ≡ bytes_of slots (words * 4) ++ drop (words * 4) before
    → Made s input before (words * 4) after
unfolding output_of
output_made s input slots before after {words} is counted put =
    let many : words ≡ min (length (slots_for s input)) (length before / 4) =
    counted ∙ ap (λ (l : List ℕ). min (length l) (length before / 4)) is
    in
    record {
      counted = ap (λ (n : ℕ). n * 4) many ∙ sym (placed_length (byte_at (slots_for s input)) _);
      written = put ∙ ap (λ (l : List ℕ). bytes_of l (words * 4) ++ drop (words * 4) before) is
          ∙ ap (λ (n : ℕ). bytes_of (slots_for s input) (n * 4) ++ drop (words * 4) before) many;
      within = omega (arith, counted);
    }

-- all that is made of an input: `list` is what its words were read into, `places` what the slots were written into
pub record All (s : Setting) (input before : List ℕ) (ended : Ending) (count : ℕ) (after : List ℕ) : Type 0 where
  pub ends : ended ≡ measured_of s input
  pub made : Made s input before count after

pub converted : (s : Setting) (input list rest places slots before after : List ℕ) {room read end words : ℕ}
    {ended : Ending} → room ≡ most_pulses → read ≡ min (length input / 4) room → list ≡ words_of input read ++ rest
    → length places ≡ most_pulses → Converted s (take read list) places ended slots → end ≡ given_of ended read
    → words ≡ min (length (take end slots)) (length before / 4)
    → after ≡ bytes_of (take end slots) (words * 4) ++ drop (words * 4) before
    → All s input before ended (words * 4) after
converted s input list rest places slots before after {read} long counted is room made given said put =
    let pulses = pulses_read input list rest counted long is in
    let many : read ≡ length (pulses_of input) = omega (arith, pulses_count input) in
    let slots_are = slots_made s input places slots (rw pulses at made) room many given in
    record { ends = slots_are.0; made = output_made s input _ before after slots_are.1 said put }

-- What a conversion comes to: refused, or each pulse with its slot.
use mathlib.Core.List.{List, ◌++◌}
use mathlib.Core.Path.{◌≡◌, refl, ap, ◌∙◌, sym}
use Prim.Native.Nat.{ℕ}
use Rattle.std.specs.Prelude.{Ok, Err}
use lib.ListN.{drop, length, length-map}
use Rattle.pulses.specs.declared.PulsesError.{PulsesError}
use Rattle.pulses.specs.declared.PulsesError.TheVariants.{ShortList, BadRanges, BadPulse}
use Rattle.pulses.specs.declared.Setting.{Setting}
use Rattle.pulses.specs.Conversion.{Converted, end_of, written_of}
use Rattle.pulses.specs.Symbols.{slots_of}

pub refused : {s : Setting} {pulses before : List ℕ} (e : PulsesError) → Err e ≡ end_of s (length before) pulses
    → Converted s pulses before (Err e) before
unfolding written_of
refused ShortList ends = record { ends = ends; written = refl }
refused BadRanges ends = record { ends = ends; written = refl }
refused BadPulse ends = record { ends = ends; written = refl }

pub given : {s : Setting} {pulses before after : List ℕ} → Ok tt ≡ end_of s (length before) pulses
    → after ≡ slots_of s pulses ++ drop (length pulses) before → Converted s pulses before (Ok tt) after
unfolding written_of
given {s} {pulses} {before} ends put = record {
  ends = ends;
  written = put ∙ ap (λ (n : ℕ). slots_of s pulses ++ drop n before) (sym (length-map pulses _));
}

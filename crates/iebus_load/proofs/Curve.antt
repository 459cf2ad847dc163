-- The curve figure by figure, and how long the summary and the plot are.
use Rattle.iebus_load.specs.declared.arguments.View.{View}
use Rattle.iebus_load.specs.declared.arguments.View.TheVariants.{Summary, Plot}
use mathlib.Core.List.{List, [], ◌∷◌, ◌++◌}
use mathlib.Core.Path.{◌≡◌, refl, ap, ◌∙◌}
use Prim.Native.Nat.{ℕ, ◌+◌, ◌*◌, ◌<◌, ◌≤◌}
use native.Mathlib.Omega.{arith}
use lib.ListN.{drop, drop_of_length-le, get_or, length, length-append}
use Rattle.line.proofs.Places.{cut}
use Rattle.pieces.proofs.Pieces.{UpTo, up_to_all, up_to_none, up_to_one}
use Rattle.pieces.specs.Pieces.{Put, bytes_of}
use Rattle.iebus_load.specs.Forms.{woven}
use Rattle.iebus_load.specs.Output.{most_slots, text_bytes, text_of}
use Rattle.iebus_load.specs.Texts.{LogFacts, curve_of, head_form, head_numbers, plot_of, summary_form}
use Rattle.iebus_load.specs.Texts.{summary_numbers, summary_of, tail_form, tail_numbers}
use Rattle.iebus_load.proofs.Woven.{woven_length}

-- ---- put_curve: i figures stand in the text

pub record Curve (text : List ℕ) (at : ℕ) (figures : List ℕ) (i end : ℕ) (after : List ℕ) : Type 0 where
  pub within : i ≤ length figures
  pub up : UpTo text at (curve_of figures) (curve_of (drop i figures)) end after

pub curve_begun : (text : List ℕ) (at : ℕ) (figures : List ℕ) → Curve text at figures 0 at text
curve_begun text at figures = record { within = omega arith; up = up_to_none text at (curve_of figures) }

curve_one : (f : ℕ) (fs : List ℕ) → curve_of (f ∷ fs) ≡ woven (bytes_of "V@h1\n") (f ∷ []) ++ curve_of fs
unfolding curve_of
curve_one f fs = refl

curve_none : curve_of [] ≡ []
unfolding curve_of
curve_none = refl

pub curve_more : {text figures after later : List ℕ} {at i end further : ℕ}
    → Curve text at figures i end after → i < length figures
    → Put after end (woven (bytes_of "V@h1\n") (get_or figures i 0 ∷ [])) further later
    → Curve text at figures (i + 1) further later
curve_more {text} {figures} {after} {later} {at} {i} {end} {further} c h put =
    let whole : curve_of (drop i figures)
    ≡ woven (bytes_of "V@h1\n") (get_or figures i 0 ∷ []) ++ curve_of (drop (i + 1) figures) =
    ap curve_of (cut figures i h) ∙ curve_one (get_or figures i 0) (drop (i + 1) figures)
    in
    record { within = omega arith; up = up_to_one (rw whole at c.up) put }

pub curve_all : {text figures after : List ℕ} {at i end : ℕ} → Curve text at figures i end after → length figures ≤ i
    → Put text at (curve_of figures) end after
curve_all {text} {figures} c h = up_to_all (rw (ap curve_of (drop_of_length-le figures h) ∙ curve_none) at c.up)

-- ---- how long they are

curve_length : (figures : List ℕ) → length (curve_of figures) ≡ length figures * 9
curve_length [] = ap length curve_none
curve_length (f ∷ fs) =
    ap length (curve_one f fs) ∙ length-append (woven (bytes_of "V@h1\n") (f ∷ [])) (curve_of fs)
    ∙ omega (arith, woven_length (bytes_of "V@h1\n") (f ∷ []), curve_length fs)

head_length : (f : LogFacts) → length (woven head_form (head_numbers f)) ≡ 992
unfolding head_form
head_length f = woven_length head_form (head_numbers f)

tail_length : (f : LogFacts) → length (woven tail_form (tail_numbers f)) ≡ 253
unfolding tail_form
tail_length f = woven_length tail_form (tail_numbers f)

plot_length : (f : LogFacts) (figures : List ℕ) → length (plot_of f figures) ≡ 992 + length figures * 9 + 253
unfolding plot_of
plot_length f figures =
    let head : List ℕ = woven head_form (head_numbers f) in
    length-append (head ++ curve_of figures) (woven tail_form (tail_numbers f))
    ∙ omega (arith, length-append head (curve_of figures), head_length f, curve_length figures, tail_length f)

summary_length : (f : LogFacts) → length (summary_of f) ≤ text_bytes
unfolding summary_of
summary_length f = omega (arith, woven_length summary_form (summary_numbers f))

pub text_fits : (view : View) (f : LogFacts) (figures : List ℕ) → length figures ≤ most_slots
    → length (text_of view f figures) ≤ text_bytes
text_fits Plot f figures few = omega (arith, plot_length f figures, few)
text_fits Summary f figures few = summary_length f

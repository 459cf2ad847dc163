-- A number whose first digits have been read.
use mathlib.Core.List.{List, [], ◌∷◌}
use mathlib.Core.Path.{◌≡◌, refl, sym, ap, ◌∙◌}
use Prim.Native.Nat.{ℕ, ◌+◌, ◌<◌, ◌≤◌}
use native.Mathlib.Omega.{arith}
use lib.ListN.{drop, drop_of_length-le, get_or, length}
use Rattle.std.specs.Option.{option_and_then}
use Rattle.std.specs.Prelude.{Option, Some, None}
use Rattle.line.proofs.Places.{cut}
use Rattle.pieces.specs.Decimal.{grown, number_from, number_of}

pub no_digit : (text : List ℕ) → length text ≡ 0 → None ≡ number_of text
unfolding number_of
no_digit [] e = refl
no_digit (b ∷ bs) e = absurd (omega (arith, e))

pub some_digit : (text : List ℕ) → 0 < length text → number_from 0 text ≡ number_of text
unfolding number_of
some_digit [] e = absurd (omega (arith, e))
some_digit (b ∷ bs) e = refl

-- a digit more
pub one_read : (text : List ℕ) (n i : ℕ) {next : Option ℕ} → i < length text → next ≡ grown n (get_or text i 0)
    → number_from n (drop i text) ≡ option_and_then (λ (m : ℕ). number_from m (drop (i + 1) text)) next
unfolding number_from
one_read text n i more is =
    ap (number_from n) (cut text i more) ∙ ap (option_and_then (λ (m : ℕ). number_from m (drop (i + 1) text))) (sym is)

-- and no more
pub all_read : (text : List ℕ) (n i : ℕ) → length text ≤ i → number_from n (drop i text) ≡ Some n
unfolding number_from
all_read text n i end = ap (number_from n) (drop_of_length-le text end)

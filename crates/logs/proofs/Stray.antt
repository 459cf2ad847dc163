-- A word that is no slot word, among some.
use mathlib.Core.Bool.{Bool, ◌||◌}
use mathlib.Core.List.{List, [], ◌∷◌}
use mathlib.Core.Logic.{⊎_elim}
use mathlib.Core.Path.{◌≡◌, refl, sym, ap, ◌∙◌}
use Prim.Native.Nat.{ℕ, ◌+◌, ◌<◌, ◌≤◌}
use native.Mathlib.Omega.{arith}
use borrow.Author.Tests.{le-ltb, lt-ltb}
use lib.Bits.{and_le_l, and_le_r, bit_or, or_add_and, or_lt}
use lib.Dec.{ltb}
use lib.ListN.{get_or, length, take}
use Rattle.std.specs.List.{list_any}
use Rattle.std.proofs.lemmas.List.Folds.{list_any_more}
use Rattle.line.proofs.Either.{below_or_not}
use Rattle.line.specs.Numbers.{slot_idle}
use Rattle.logs.specs.Frames.{stray_in}

pub any_stray : (ws : List ℕ) → list_any (ltb slot_idle) ws ≡ stray_in ws
unfolding stray_in
any_stray [] = refl
any_stray (w ∷ ws) = ap (λ (b : Bool). ltb slot_idle w || b) (any_stray ws)

-- two words laid over each other make a slot word exactly if both are slot words
laid_over : (a b : ℕ) → ltb slot_idle (bit_or a b) ≡ (ltb slot_idle a || ltb slot_idle b)
laid_over a b =
    let sum = or_add_and a b in
    ⊎_elim
    (λ (low : a < 4). ⊎_elim
    (λ (lower : b < 4). let both = or_lt 2 a b low lower in
    rw (le-ltb slot_idle (bit_or a b) (omega arith), le-ltb slot_idle a (omega arith), le-ltb slot_idle b (omega arith))
    refl)
    (λ (high : 4 ≤ b). rw (
      lt-ltb slot_idle (bit_or a b) (omega (arith, sum, and_le_l a b)),
      le-ltb slot_idle a (omega arith),
      lt-ltb slot_idle b (omega arith),
    ) refl)
    (below_or_not b 4))
    (λ (high : 4 ≤ a). rw (
      lt-ltb slot_idle (bit_or a b) (omega (arith, sum, and_le_r a b)),
      lt-ltb slot_idle a (omega arith),
    ) refl)
    (below_or_not a 4)

-- one word more is laid over those before it
pub stray_one : (slots : List ℕ) (digits i : ℕ) → ltb slot_idle digits ≡ list_any (ltb slot_idle) (take i slots)
    → i < length slots
    → ltb slot_idle (bit_or digits (get_or slots i 0)) ≡ list_any (ltb slot_idle) (take (i + 1) slots)
stray_one slots digits i before more =
    let word = get_or slots i 0 in
    laid_over digits word
    ∙ ap (λ (b : Bool). b || ltb slot_idle word) before
    ∙ sym (list_any_more (ltb slot_idle) slots i 0 more)

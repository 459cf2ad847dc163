-- An ending and its number stand for each other.
use Rattle.std.proofs.Common.{◌≡◌, ℕ, ◌<◌, ◌≤◌, sym, ap, ◌∙◌, ⊎_elim, zero-add}
use Rattle.std.proofs.Math.ListN.{get_or-eq_default, get_or-map}
use Rattle.std.proofs.lemmas.List.FromFn.{get_or-range_with_len}
use Rattle.line.proofs.Either.{below_or_not}
use Rattle.line.specs.Numbers.{end_broken_data}
use Rattle.reader.specs.declared.ending.Ending.TheVariants.{BrokenData, Whole}
use Rattle.reader.specs.Endings.{ending_by, ending_number, endings}

pub numbered : (n : ℕ) → n < 11 → ending_number (ending_by n) ≡ n
numbered n below =
    sym (get_or-map ending_number endings n Whole) ∙ get_or-range_with_len 0 11 n 0 below ∙ zero-add n

pub broken_data : (n : ℕ) → ending_by n ≡ BrokenData → n ≡ end_broken_data
broken_data n e =
    ⊎_elim (λ (below : n < 11). sym (numbered n below) ∙ ap ending_number e)
    (λ (over : 11 ≤ n). let whole : ending_by n ≡ Whole = get_or-eq_default endings Whole over in cc)
    (below_or_not n 11)

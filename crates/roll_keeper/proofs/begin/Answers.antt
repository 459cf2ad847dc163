use mathlib.Core.Path.{◌∙◌, ap}
use Prim.Native.Nat.{ℕ}
use lib.ListN.{replicate}
use Rattle.roll_keeper.proofs.Ends.{array_long, begins, begins_not}
use Rattle.roll_keeper.proofs.begin.Goals as goal

pub returns-in_default : goal.returns-in_default
returns-in_default c =
    begins_not _ c.in_default.ensures.cases

pub returns : goal.returns
returns c =
    let whole = c.in-Some.ensures.cases in
    begins whole.long (c.fill.ensures.after (λ y e. e) ∙ ap (λ (n : ℕ). replicate n 0) (array_long whole))

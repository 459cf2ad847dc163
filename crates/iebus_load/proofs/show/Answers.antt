use Prim.Native.Nat.{ℕ, ◌≤◌}
use mathlib.Core.Path.{subst, sym}
use native.Mathlib.Omega.{arith}
use lib.ListN.{length, length-replicate, replicate}
use Rattle.iebus_load.specs.Output.{text_bytes}
use Rattle.iebus_load.proofs.show.Goals as goal

-- the array that is lent has room for every plot
room : text_bytes ≤ length (replicate {A = ℕ} 591069 0)
room =
    let fits : 591069 ≤ 591069 = omega arith in
    subst (λ (n : ℕ). text_bytes ≤ n) (sym (length-replicate {0} {A = ℕ} 591069 0)) fits

pub slice_bounds-print-end-2 : goal.slice_bounds-print-end-2
slice_bounds-print-end-2 c =
    sym (length-replicate {0} {A = ℕ} 591069 0)

pub print-requires : goal.print-requires
print-requires c =
    room

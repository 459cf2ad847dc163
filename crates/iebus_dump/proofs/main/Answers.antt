use Prim.Native.Nat.{ℕ, ◌≤◌}
use mathlib.Core.Path.{subst, sym}
use native.Mathlib.Omega.{arith}
use lib.ListN.{length, length-replicate, replicate}
use Rattle.iebus_dump.specs.Dump.{dump_bytes}
use Rattle.iebus_dump.proofs.main.Goals as goal

-- the array that is lent has room for every dump
room : dump_bytes ≤ length (replicate {A = ℕ} 1310774 0)
room =
    let fits : 1310774 ≤ 1310774 = omega arith in
    subst (λ (n : ℕ). dump_bytes ≤ n) (sym (length-replicate {0} {A = ℕ} 1310774 0)) fits

pub slice_bounds-print-end-2 : goal.slice_bounds-print-end-2
slice_bounds-print-end-2 c =
    sym (length-replicate {0} {A = ℕ} 1310774 0)

pub print-requires : goal.print-requires
print-requires c =
    room

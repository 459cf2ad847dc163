use Rattle.std.proofs.Common.{◌≡◌}
use Rattle.records.proofs.Lists.{gathered_upto}
use Rattle.records.proofs.gathered.Given as goal

-- the records before the place have been gathered
abbrev pub invariant-loop-place : goal.invariant-loop-place
invariant-loop-place l = l.all ≡ gathered_upto l.records l.place

-- The bytes of one read more.
use Rattle.std.proofs.Common.{rules, subst}
use Rattle.std.specs.Io.KnownBytes.{Consumes}
use Rattle.std.proofs.KnownBytes.{Consumes-trans}
use Rattle.pieces.proofs.Joined.{joined}
use Rattle.pieces.proofs.input.read_full.Goals as goal

pub loop-done-preserved : goal.loop-done-preserved
loop-done-preserved g c =
    let one = c.read_some-count in (
      search rules,
      search rules,
      subst (Consumes _ _)
          (joined c.loop-done.done _ one.result c.loop-done.bytes one.new.bytes c.loop-done.invariant.0 one.ensures.within)
          (Consumes-trans _ _ _ _ _ c.loop-done.invariant.2 one.ensures.read),
    )

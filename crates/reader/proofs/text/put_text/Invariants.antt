use lib.ListN.{drop}
use Rattle.logs.specs.Fields.{data_place}
use Rattle.reader.proofs.Texts.{Going}
use Rattle.reader.proofs.text.put_text.Given as goal

abbrev pub invariant-loop-left : goal.invariant-loop-left
invariant-loop-left l =
    Going (drop data_place l.levels) l.broadcast l.bytes l.most l.at l.initial.records l.records l.rest l.left l.missing
    l.since l.acked

abbrev pub decreases-loop-left : goal.decreases-loop-left
decreases-loop-left l = l.left

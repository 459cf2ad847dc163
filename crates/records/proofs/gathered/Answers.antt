use Rattle.std.proofs.Common.{ap, arith, ◌∙◌}
use Rattle.contenders.specs.declared.Contenders.{Contenders}
use Rattle.records.specs.Gathered.{with_record}
use Rattle.records.proofs.Lists.{none_gathered, one_gathered, all_gathered}
use Rattle.records.proofs.gathered.Goals as goal

pub loop-place-init : goal.loop-place-init
loop-place-init c = c.new-all.ensures ∙ none_gathered c.args.records.now

pub loop-place-preserved : goal.loop-place-preserved
loop-place-preserved c =
    c.with_record-all.ensures
    ∙ ap (λ (all : Contenders). with_record all c.args.records.now c.loop-place.place) c.loop-place.invariant
    ∙ one_gathered c.args.records.now c.loop-place.place (omega arith)

pub returns : goal.returns
returns c = c.loop-place.invariant ∙ all_gathered c.args.records.now c.loop-place.place (omega arith)

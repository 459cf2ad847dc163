use Rattle.reader.proofs.Texts.{data_text, no_body}
use Rattle.reader.proofs.record.put_data.Goals as goal

pub returns-then-levels-le-DATA_PLACE : goal.returns-then-levels-le-DATA_PLACE
returns-then-levels-le-DATA_PLACE c =
    no_body _ _ c.requires.low.1 (λ _. c.if-levels-le-DATA_PLACE.true) _ _

pub returns-in-BrokenData : goal.returns-in-BrokenData
returns-in-BrokenData c =
    rw (← data_text c.args.long c.args.levels.now c.requires.low.1 c.requires.low.0 c.in-BrokenData.is c.if-levels-le-DATA_PLACE.false
    c.most_attempts-most.ensures.0)
    c.put_text.ensures

pub returns-in_default : goal.returns-in_default
returns-in_default c =
    no_body _ _ c.requires.low.1 (λ e. absurd (c.in_default.not-BrokenData e)) _ _

use mathlib.Core.Path.{◌∙◌, sym}
use Rattle.logs.proofs.Relied.{relied}
use Rattle.reader.proofs.Log.{log_read, log_short, log_stray}
use Rattle.reader.proofs.read_log.Goals as goal

pub returns-then-records-slots-clause-whole : goal.returns-then-records-slots-clause-whole
returns-then-records-slots-clause-whole c =
    log_short _ _ _ c.if-records-slots.true

pub returns-then-records-slots-clause-relied : goal.returns-then-records-slots-clause-relied
returns-then-records-slots-clause-relied c =
    relied _

pub returns-then-strays-clause-whole : goal.returns-then-strays-clause-whole
returns-then-strays-clause-whole c =
    log_stray _ _ _ c.if-records-slots.false (sym c.strays.ensures ∙ c.if-strays.true)

pub returns-then-strays-clause-relied : goal.returns-then-strays-clause-relied
returns-then-strays-clause-relied c =
    relied _

pub returns-clause-whole : goal.returns-clause-whole
returns-clause-whole c =
    log_read _ _ _ c.if-records-slots.false (sym c.strays.ensures ∙ c.if-strays.false)
    c.put_records.ensures.value c.put_records.ensures.records_after

pub returns-clause-relied : goal.returns-clause-relied
returns-clause-relied c =
    relied _

use Rattle.iebus_load.specs.Texts.{summary_of}
use Rattle.iebus_load.proofs.texts.put_summary.Goals as goal

pub returns : goal.returns
unfolding summary_of
returns c = rw (← c.summary_numbers.ensures) c.put_form.ensures

use Rattle.iebus_load.specs.Texts.{tail_form}
use Rattle.iebus_load.proofs.texts.put_tail.Goals as goal

pub returns : goal.returns
unfolding tail_form
returns c = rw (← c.tail_numbers.ensures) c.put_form.ensures

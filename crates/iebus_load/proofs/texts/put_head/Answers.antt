use Rattle.iebus_load.specs.Texts.{head_form}
use Rattle.iebus_load.proofs.texts.put_head.Goals as goal

pub returns : goal.returns
unfolding head_form
returns c = rw (← c.head_numbers.ensures) c.put_form.ensures

use Rattle.std.specs.Slice.Iter.{iter_rest}
use Rattle.iebus_load.proofs.Woven.{Woven}
use Rattle.iebus_load.proofs.forms.put_form.Given as goal

abbrev pub invariant-loop-byte : goal.invariant-loop-byte
invariant-loop-byte l = Woven l.initial.text l.at l.form l.numbers (iter_rest l.left) l.byte-index l.end l.text

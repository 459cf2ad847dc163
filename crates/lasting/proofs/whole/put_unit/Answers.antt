use mathlib.Core.Path.{◌∙◌}
use Rattle.unit.specs.Unit.{state_of}
use Rattle.lasting.proofs.Parts.{circle_most, kept}
use Rattle.lasting.proofs.whole.put_unit.Goals as goal

pub returns : goal.returns
returns c =
    kept (state_of c.args.unit)
    (record { regs = c.registers_bytes-regs.ensures.fit; frame = c.frame_bytes-frame.ensures.fit; tbf = circle_most _ _ _; rbf = circle_most _ _ _ })
    c.args.state.now _ _ _ _ c.told-state (c.copy_from_slice.ensures.after ∙ c.registers_bytes-regs.ensures.value) (c.copy_from_slice-2.ensures.after ∙ c.frame_bytes-frame.ensures.value)
    c.put_buffer.ensures c.put_buffer-2.ensures

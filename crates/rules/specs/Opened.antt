-- One name for all definitions by which words are computed: an `unfolding` line that has it opens them.
use Rattle.std.specs.Prelude.{ℕ}
use Rattle.std.specs.Int.Count.{ones, ones_in}
use Rattle.line.specs.Parity as parity
use Rattle.line.specs.Slot.{slot_of, class_of}
use Rattle.place.specs.Frame as frame
use Rattle.place.specs.Slaves as slaves
use Rattle.place.specs.Drive as drive
use Rattle.place.specs.Masters as masters
use Rattle.place.specs.Step as level
use Rattle.isolation.specs.Runs.{run, answers}
use Rattle.rules.specs.State as state
use Rattle.rules.specs.Endings as endings
use Rattle.rules.specs.Slots as slots
use Rattle.rules.specs.Registers as registers
use Rattle.rules.specs.Step as step

unfoldable pub all_rules : ℕ
unfolding ones ones_in parity.parity_of parity.parity_holds parity.level_of parity.levels_of slot_of class_of frame.limit_of
    frame.length_of frame.shift_of frame.begun_of frame.to_field frame.done_of frame.next_of frame.shifted_of
    frame.with_length slaves.addressed_of slaves.writes_of slaves.stranger_of slaves.open_to slaves.by_value
    slaves.control_of slaves.accepted_of drive.sent_of drive.replied_of drive.drive_in drive.drive_of masters.contested_of
    masters.own_bit masters.clash_of masters.lost_of level.heard_of level.header_ack level.text_ack level.go_on
    level.after_ack level.at_broadcast level.master_of level.at_master level.with_slave level.slave_judged level.at_slave
    level.with_control level.control_judged level.at_control level.with_ack level.length_judged level.at_length
    level.data_judged level.counted_of level.acked_of level.last_of level.whole_of level.ends_of level.again_of
    level.data_acked level.at_data level.at_field level.overruled_of level.in_field level.level_of run answers state.is_empty
    state.push_of state.tbf_after state.rbf_after state.takes_part state.status_byte state.own_byte endings.end_code
    endings.draws endings.ties endings.frees endings.lock_after endings.request_ended endings.sending_ended
    endings.reception_ended endings.part_ended endings.data_ended endings.length_ended endings.ended_of endings.left_of
    endings.cut_of slots.begun slots.on_start slots.on_idle slots.on_lost slots.on_addressed slots.with_code
    slots.sending_begun slots.length_drawn slots.on_control_acked slots.wanted slots.byte_drawn slots.other_party
    slots.header_of endings.reception_code slots.with_count slots.count_of slots.reception_begun slots.on_length_acked
    slots.counted slots.next_drawn slots.on_byte_acked slots.last_acked slots.on_event slots.on_level slots.core_drive
    registers.ctr_refusal registers.cmr_refusal registers.uar_refusal registers.request_refusal registers.mcr_listed
    registers.tbf_refusal registers.write_refusal registers.lor_copied registers.requested registers.commanded
    registers.uar1_written registers.mcr_written registers.written registers.read_refusal registers.str_byte
    registers.flg_byte registers.rcr_byte registers.read_value registers.write_done registers.write_told registers.read_told
    registers.told_of step.next_drive step.clashes step.slot_on step.slot_said step.step_of step.answer_of step.word_of
all_rules = 0

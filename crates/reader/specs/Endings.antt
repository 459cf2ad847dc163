-- How a frame ended, as a case of its own, beside the number that the definitions and a record's first word have of it.
use Rattle.std.specs.Prelude.{List, [], ◌∷◌, ℕ, get_or}
use Rattle.line.specs.Numbers.{end_broken_bit, end_broken_control, end_broken_data, end_broken_length, end_broken_master}
use Rattle.line.specs.Numbers.{end_broken_slave, end_nak_control, end_nak_length, end_nak_slave, end_short, end_whole}
use Rattle.reader.specs.declared.ending.Ending.{Ending}
use Rattle.reader.specs.declared.ending.Ending.TheVariants.{BrokenBit, BrokenControl, BrokenData, BrokenLength}
use Rattle.reader.specs.declared.ending.Ending.TheVariants.{BrokenMaster, BrokenSlave, NakControl, NakLength}
use Rattle.reader.specs.declared.ending.Ending.TheVariants.{NakSlave, Short, Whole}

abbrev pub ending_number : Ending → ℕ
ending_number Whole = end_whole
ending_number Short = end_short
ending_number NakSlave = end_nak_slave
ending_number NakControl = end_nak_control
ending_number NakLength = end_nak_length
ending_number BrokenBit = end_broken_bit
ending_number BrokenMaster = end_broken_master
ending_number BrokenSlave = end_broken_slave
ending_number BrokenControl = end_broken_control
ending_number BrokenLength = end_broken_length
ending_number BrokenData = end_broken_data

-- the endings in the order of their numbers
abbrev pub endings : List Ending
endings =
    Whole ∷ Short ∷ NakSlave ∷ NakControl ∷ NakLength ∷ BrokenBit ∷ BrokenMaster ∷ BrokenSlave ∷ BrokenControl
    ∷ BrokenLength ∷ BrokenData ∷ []

abbrev pub ending_by : ℕ → Ending
ending_by number = get_or endings number Whole

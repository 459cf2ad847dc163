-- The premises of what a user relies on are met: by a frame that is said again with another P, by one that took more
-- attempts, and by frames that end in their header and in their data.
use mathlib.Core.Bool.{true, false}
use mathlib.Core.List.{List, [], ◌∷◌, ◌++◌}
use mathlib.Core.Path.{◌≡◌, refl}
use Prim.Native.Nat.{ℕ}
use native.Mathlib.Omega.{arith}
use lib.Count.{ones, ones_in}
use lib.ListN.{drop}
use Rattle.line.specs.Parity.{level_of, levels_of, parity_of}
use Rattle.logs.specs.Cases.{ack, called, late, missent, nak, one, sent, sized}
use Rattle.logs.specs.Data.{text_from}
use Rattle.logs.specs.Fields.{end_in, given_in, number_from}
use Rattle.logs.specs.Frames.{frames_of, levels_from}
use Rattle.logs.specs.Readings.{Reading, data_of, equal_frames, equal_said, read_of}
use Rattle.logs.specs.Records.{Record, marked_by, records_by}
use Rattle.logs.specs.Relied.{DataSays, HeaderSays, SaysAgain, TakenApart, TookSame, frame_at, header_end, mark_at}
use Rattle.logs.proofs.Relied.{relied}

-- a frame, and the same again
abbrev earlier : List ℕ
earlier = one 0x7B

abbrev later : List ℕ
later = sized 1 ++ missent 0x7B ack

abbrev said : List ℕ → Reading
said slots = read_of false (drop 1 slots)

abbrev first : Record
first = record { again = false; reading = said earlier }

abbrev second : Record
second = record { again = true; reading = said later }

pub said_again : SaysAgain (said earlier) (said later)
unfolding ones ones_in level_of levels_of parity_of frames_of levels_from records_by marked_by equal_frames equal_said read_of
    data_of given_in end_in number_from text_from
said_again = ((relied false).again (earlier ++ later) [] first second [] refl).only refl

-- in mode 1, frames that ticket 1 called again: one is so still, and its attempts tell the next one apart
abbrev heard : List ℕ
heard = earlier ++ late 0x7B ++ late 0x7B ++ earlier

pub mark_kept : mark_at (records_by equal_said true heard) 2 ≡ true
unfolding ones ones_in level_of levels_of parity_of frames_of levels_from records_by marked_by equal_frames equal_said read_of
    data_of given_in end_in number_from text_from
mark_kept = ((relied true).narrower heard).none_new 2 refl

pub mark_lost : TookSame (frame_at true heard 2) (frame_at true heard 3) → ⊥
unfolding ones ones_in level_of levels_of parity_of frames_of levels_from records_by marked_by equal_frames equal_said read_of
    data_of given_in end_in number_from text_from
mark_lost = ((relied true).narrower heard).lost 2 refl refl

pub second_apart : TakenApart second
unfolding ones ones_in level_of levels_of parity_of frames_of levels_from records_by marked_by equal_frames equal_said read_of
    data_of given_in end_in number_from text_from
second_apart = (relied false).apart (earlier ++ later) (first ∷ []) second [] refl

-- a frame that got NAK at its slave address
pub header_told : HeaderSays 2 (said (called 1 nak))
unfolding ones ones_in level_of levels_of parity_of header_end
header_told = (relied false).header_says (drop 1 (called 1 nak)) (omega arith)

-- one whose byte took a second attempt
pub data_told :
    DataSays false (sent 0x7B nak ++ sent 0x7B ack) (said (sized 1 ++ sent 0x7B nak ++ sent 0x7B ack))
unfolding ones ones_in level_of levels_of parity_of header_end
data_told = (relied false).data_says (drop 1 (sized 1 ++ sent 0x7B nak ++ sent 0x7B ack)) refl

-- Ticket 1: "the bytes that were ACKed in order, and how it ended (whole, short after a complete attempt, ..)".
-- "Broadcast data with good parity counts as ACKed; a bad byte is left out, the frame running on for its length's
-- attempts and then being short." Document 01, "Frame": "At most 16 attempts (mode 0) or 32 (mode 1)".
use Rattle.std.specs.Prelude.{Bool, List, [], ◌∷◌, ℕ, zero, suc, ◌+◌, ◌-◌, min, eqb, ltb, drop, get_or, length}
use Rattle.line.specs.Choice.{pick}
use Rattle.line.specs.Numbers.{attempts_mode0, attempts_mode1, end_broken_data, end_short, end_whole}
use Rattle.line.specs.Parity.{parity_holds}
use Rattle.logs.specs.Fields.{number_at}

-- a byte that was ACKed, and how many complete attempts it took from the ACKed byte before it, or the first attempt, on
pub record Acked : Type 0 where
  pub byte : ℕ
  pub attempts : ℕ

-- what stands past the last one
abbrev pub no_byte : Acked
no_byte = record { byte = 0; attempts = 0 }

-- the data of a frame: the ACKed bytes, the complete attempts after the last of them, in all where there is none, and
-- how the frame ended
pub record Text : Type 0 where
  pub acked : List Acked
  pub unacked : ℕ
  pub ending : ℕ

abbrev pub text_of : List Acked → ℕ → ℕ → Text
text_of acked unacked ending = record { acked = acked; unacked = unacked; ending = ending }

-- with an ACKed byte in front
abbrev pub behind : ℕ → ℕ → Text → Text
behind byte attempts t =
    text_of (record { byte = byte; attempts = attempts } ∷ t.acked) t.unacked t.ending

-- an attempt has ten slots: eight bits, P and A
abbrev pub attempt_slots : ℕ
attempt_slots = 10

-- the byte of the attempt at the front
abbrev pub byte_in : List ℕ → ℕ
byte_in levels = number_at levels 0 8

-- whether it counts as ACKed: in a broadcast by its parity alone, else by A alone
abbrev pub counts : Bool → List ℕ → Bool
counts broadcast levels =
    pick broadcast (parity_holds (byte_in levels) (eqb (get_or levels 8 0) 1)) (eqb (get_or levels 9 0) 0)

-- how data ends that has no further complete attempt: short where it ends with one, else broken off
abbrev pub cut_off : List ℕ → ℕ
cut_off levels = pick (eqb (length levels) 0) end_short end_broken_data

-- the data that is left at some place of a frame: at most so many attempts more, so many bytes not ACKed yet, and so
-- many attempts since the last one that was; its two ways on are named so that a log is computed by the one it takes
unfoldable pub text_from : ℕ → Bool → ℕ → ℕ → List ℕ → Text
text_from zero broadcast missing since levels = text_of [] since (pick (eqb missing 0) end_whole end_short)
text_from (suc attempts) broadcast missing since levels =
    let rest = drop attempt_slots levels in
    let counted = behind (byte_in levels) (since + 1) (text_from attempts broadcast (missing - 1) 0 rest) in
    let missed = text_from attempts broadcast missing (since + 1) rest in
    pick (eqb missing 0) (text_of [] since end_whole)
    (pick (ltb (length levels) attempt_slots) (text_of [] since (cut_off levels))
    (pick (counts broadcast levels) counted missed))

-- how many attempts a frame makes at most: a broadcast one for each byte, without repeats
abbrev pub attempts_of : Bool → Bool → ℕ → ℕ
attempts_of long broadcast bytes =
    pick broadcast (min bytes (pick long attempts_mode1 attempts_mode0)) (pick long attempts_mode1 attempts_mode0)

-- Demand 1 for one word: document 01, "Refused because of the input" and "Refused because of the state", row by row,
-- each under its own condition alone. "The lowest number wins. A refusal changes no state".
use Rattle.std.specs.Prelude.{ℕ, ◌/◌, ◌%◌, Bool, false, not, ◌&&◌, ◌||◌, List, [], ◌∷◌, ◌≡◌, eqb, leb, ltb, length, Ok, Err}
use Rattle.line.specs.Choice.{pick}
use Rattle.line.specs.Slot.{kind_of}
use Rattle.line.specs.Numbers.{kind_slot, kind_write, kind_read, drive_low, tbf_bytes}
use Rattle.line.specs.Numbers.{refused_kind, refused_stray_bit, refused_register, refused_value, refused_level}
use Rattle.line.specs.Numbers.{refused_out_of_turn, refused_full, refused_too_few, refused_empty, refused_unable}
use Rattle.line.specs.Numbers.{ctr_nothing, ctr_reset, ctr_set_slre, cmr_request, cmr_offer, cmr_clear_slre, cmr_copy_lock}
use Rattle.line.specs.Numbers.{reg_ctr, reg_cmr, reg_uar1, reg_uar2, reg_sar1, reg_sar2, reg_mcr, reg_tbf}
use Rattle.line.specs.Numbers.{reg_str, reg_flg, reg_rdr1, reg_rdr2, reg_lor1, reg_lor2, reg_rcr, reg_rbf}
use Rattle.rules.specs.declared.answer.Refusal.{Refusal}
use Rattle.rules.specs.declared.state.Registers.{Registers}
use Rattle.rules.specs.Answers.{Answer, number_of}
use Rattle.rules.specs.Registers.{register_of, value_of}
use Rattle.rules.specs.State.{State}
use Rattle.rules.specs.Step.{next_drive}

-- a word taken apart: all of it, its kind, the register that it names and its value
pub record Word : Type 0 where
  pub whole : ℕ
  pub kind : ℕ
  pub register : ℕ
  pub value : ℕ

abbrev pub apart : ℕ → Word
apart w = record { whole = w; kind = kind_of w; register = register_of w; value = value_of w }

abbrev pub writing : Word → ℕ → Bool
writing w register = eqb w.kind kind_write && eqb w.register register

abbrev pub reading : Word → ℕ → Bool
reading w register = eqb w.kind kind_read && eqb w.register register

abbrev pub commanding : Word → ℕ → Bool
commanding w command = writing w reg_cmr && eqb w.value command

unfoldable pub among : List ℕ → ℕ → Bool
among [] n = false
among (m ∷ ms) n = eqb n m || among ms n

-- "Written: 0H CTR .. EH TBF"; "Read: 0H STR .. EH RBF"
abbrev pub written_registers : List ℕ
written_registers = reg_ctr ∷ reg_cmr ∷ reg_uar1 ∷ reg_uar2 ∷ reg_sar1 ∷ reg_sar2 ∷ reg_mcr ∷ reg_tbf ∷ []

abbrev pub read_registers : List ℕ
read_registers = reg_str ∷ reg_flg ∷ reg_rdr1 ∷ reg_rdr2 ∷ reg_lor1 ∷ reg_lor2 ∷ reg_rcr ∷ reg_rbf ∷ []

-- the sixteen controls of "Slaves": 0H, 6H, 4H, 5H, 3H and 7H are read with, "AH, BH, EH, FH" written with, and
-- "1H, 2H, 8H, 9H, CH, DH: NAK" are undefined
abbrev pub read_controls : List ℕ
read_controls = 0x0 ∷ 0x3 ∷ 0x4 ∷ 0x5 ∷ 0x6 ∷ 0x7 ∷ []

abbrev pub write_controls : List ℕ
write_controls = 0xA ∷ 0xB ∷ 0xE ∷ 0xF ∷ []

abbrev pub undefined_controls : List ℕ
undefined_controls = 0x1 ∷ 0x2 ∷ 0x8 ∷ 0x9 ∷ 0xC ∷ 0xD ∷ []

-- ---- refused because of the input

-- 1: "kind not 0, 1, 2"
abbrev pub unknown_kind : Word → Bool
unknown_kind w = not (among (kind_slot ∷ kind_write ∷ kind_read ∷ []) w.kind)

-- 2: "an unnamed bit is set". A slot names bits 1-0, a write bits 27-24 and 7-0, a read bits 27-24
abbrev pub stray_bit : Word → Bool
stray_bit w =
    eqb w.kind kind_slot && leb 4 w.whole
    || eqb w.kind kind_write && not (eqb (w.whole / 256 % 65536) 0)
    || eqb w.kind kind_read && not (eqb (w.whole % 0x0100_0000) 0)

-- 3: "register not in the list for that direction"
abbrev pub unlisted_register : Word → Bool
unlisted_register w =
    eqb w.kind kind_write && not (among written_registers w.register)
    || eqb w.kind kind_read && not (among read_registers w.register)

-- "MCR (broadcast bit as on the wire, retries 0 to 7, control)": "MCR control undefined; MCR broadcast with a read
-- control", the broadcast bit of a broadcast being 0
abbrev pub unlisted_mcr : ℕ → Bool
unlisted_mcr v = among undefined_controls (v % 16) || eqb (v / 128) 0 && among read_controls (v % 16)

-- 4: "value not listed", MCR's among them
abbrev pub unlisted_value : Word → Bool
unlisted_value w =
    writing w reg_ctr && not (among (ctr_nothing ∷ ctr_reset ∷ ctr_set_slre ∷ []) w.value)
    || writing w reg_cmr && not (among (cmr_request ∷ cmr_offer ∷ cmr_clear_slre ∷ cmr_copy_lock ∷ []) w.value)
    || writing w reg_uar1 && not (eqb (w.value / 4 % 4) 0)
    || writing w reg_sar1 && not (eqb (w.value % 16) 0)
    || writing w reg_mcr && unlisted_mcr w.value

-- ---- refused because of the state

-- 5: "level 1 while the unit drives 0"
abbrev pub level_unheard : State → Word → Bool
level_unheard s w = eqb w.kind kind_slot && eqb w.whole 1 && eqb (next_drive s) drive_low

-- 6: "SAR, MCR with MARQ; CMR 08H, 0BH with MARQ or STRQ; UAR with MARQ, STRQ, SLRE or locked"
abbrev pub out_of_turn : Registers → Word → Bool
out_of_turn r w =
    (writing w reg_sar1 || writing w reg_sar2 || writing w reg_mcr) && r.marq
    || (commanding w cmr_request || commanding w cmr_offer) && (r.marq || r.strq)
    || (writing w reg_uar1 || writing w reg_uar2) && (r.marq || r.strq || r.slre || r.locked)

-- 7: "TBF write at 33 bytes"
abbrev pub tbf_full : State → Word → Bool
tbf_full s w = writing w reg_tbf && leb tbf_bytes (length s.tbf)

-- 8: "CMR 08H with a write control, or 0BH, and TBF under 2 bytes"
abbrev pub too_few : State → Word → Bool
too_few s w =
    (commanding w cmr_request && among write_controls s.core.regs.control || commanding w cmr_offer)
    && ltb (length s.tbf) 2

-- 9: "RBF read when empty"
abbrev pub rbf_empty : State → Word → Bool
rbf_empty s w = reading w reg_rbf && eqb (length s.rbf) 0

-- 10: "CMR 08H individual to the own address; 0BH with sending disabled"
abbrev pub unable : Registers → Word → Bool
unable r w =
    commanding w cmr_request && r.bit && eqb r.slave r.own
    || commanding w cmr_offer && not r.enabled

-- ---- the tables

pub record Row : Type 0 where
  pub number : ℕ
  pub when : Bool

abbrev pub row : ℕ → Bool → Row
row n b = record { number = n; when = b }

-- the rows in the order of their numbers
abbrev pub rows : State → Word → List Row
rows s w =
    row refused_kind (unknown_kind w) ∷ row refused_stray_bit (stray_bit w) ∷ row refused_register (unlisted_register w)
    ∷ row refused_value (unlisted_value w) ∷ row refused_level (level_unheard s w)
    ∷ row refused_out_of_turn (out_of_turn s.core.regs w) ∷ row refused_full (tbf_full s w)
    ∷ row refused_too_few (too_few s w) ∷ row refused_empty (rbf_empty s w) ∷ row refused_unable (unable s.core.regs w)
    ∷ []

pub data Ruling : Type 0 where
  accepted : Ruling
  refused : ℕ → Ruling

-- the number of the first row whose condition holds; where none does, the word is accepted
unfoldable pub lowest : List Row → Ruling
lowest [] = accepted
lowest (r ∷ rs) = pick r.when (refused r.number) (lowest rs)

-- what an answer says
abbrev pub ruling_of : Answer → Ruling
ruling_of (Ok reply) = accepted
ruling_of (Err refusal) = refused (number_of refusal)

-- demand 1, said of a word, the unit before and after it, and the answer: the number is the lowest whose condition
-- holds, a word is refused only under a condition of the tables, every other word is accepted; and "with the unit
-- unchanged"
pub record Ruled (s : State) (w : ℕ) (t : State) (a : Answer) : Type 0 where
  pub ruling : ruling_of a ≡ lowest (rows s (apart w))
  pub unchanged : (refusal : Refusal) → a ≡ Err refusal → t ≡ s

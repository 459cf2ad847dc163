-- Document 01, "Registers", and the refusals 3, 4 and 6 to 10: what the host's words do.
use Rattle.std.specs.Prelude.{ℕ, ◌+◌, ◌*◌, ◌/◌, ◌%◌, Bool, true, false, not, ◌&&◌, ◌||◌, List, eqb, leb, ltb, length, drop, get_or, Ok, Err}
use Rattle.line.specs.Choice.{pick, bit_of, ◌▹◌}
use Rattle.line.specs.Slot.{kind_of}
use Rattle.line.specs.Numbers.{kind_write, kind_read, rbf_bytes}
use Rattle.line.specs.Numbers.{tbf_bytes, ctr_nothing, ctr_reset, ctr_set_slre, cmr_request, cmr_offer, cmr_clear_slre}
use Rattle.line.specs.Numbers.{cmr_copy_lock, reg_ctr, reg_cmr, reg_uar1, reg_uar2, reg_sar1, reg_sar2, reg_mcr, reg_tbf}
use Rattle.line.specs.Numbers.{reg_str, reg_flg, reg_rdr1, reg_rdr2, reg_lor1, reg_lor2, reg_rcr, reg_rbf}
use Rattle.place.specs.Slaves.{writes_of}
use Rattle.rules.specs.declared.answer.Refusal.{Refusal}
use Rattle.rules.specs.declared.answer.Refusal.TheVariants.{UnknownKind, StrayBit, UnlistedRegister, UnlistedValue}
use Rattle.rules.specs.declared.answer.Refusal.TheVariants.{OutOfTurn, Full, TooFew, Empty, Unable}
use Rattle.rules.specs.declared.state.Registers.{Registers}
use Rattle.rules.specs.Answers.{Looked, fine}
use Rattle.rules.specs.Set.{registers·own, registers·enabled, registers·long, registers·slave, registers·bit}
use Rattle.rules.specs.Set.{registers·retries}
use Rattle.rules.specs.Set.{registers·control, registers·marq, registers·strq, registers·slre, registers·losses}
use Rattle.rules.specs.Set.{registers·lor1}
use Rattle.rules.specs.Set.{registers·lor2, registers·rdr1}
use Rattle.rules.specs.State.{is_empty, push_of}

-- ---- writes: what is refused, the lowest number first

-- "CTR (00H nothing, 08H reset, 10H set SLRE)"
unfoldable pub ctr_refusal : ℕ → Looked
ctr_refusal v = pick (eqb v ctr_nothing || eqb v ctr_reset || eqb v ctr_set_slre) fine (Err UnlistedValue)

-- "CMR (08H master request, 0BH offer slave data, 0FH clear SLRE, .. 40H copy the lock into LOR ..)"
unfoldable pub cmr_refusal : Registers → ℕ → ℕ → Looked
cmr_refusal r waiting v =
    pick (not (eqb v cmr_request || eqb v cmr_offer || eqb v cmr_clear_slre || eqb v cmr_copy_lock)) (Err UnlistedValue)
    (pick ((eqb v cmr_request || eqb v cmr_offer) && (r.marq || r.strq)) (Err OutOfTurn)
    (pick ((eqb v cmr_request && writes_of r.control || eqb v cmr_offer) && ltb waiting 2) (Err TooFew)
    (pick (eqb v cmr_request && r.bit && eqb r.slave r.own || eqb v cmr_offer && not r.enabled) (Err Unable)
    fine)))

-- "UAR1 (own address low 4 bits, then 0, 0, sending enabled, mode). .. UAR2 (high 8)": "UAR with MARQ, STRQ, SLRE or
-- locked"
unfoldable pub uar_refusal : Registers → Bool → Looked
uar_refusal r listed =
    pick (not listed) (Err UnlistedValue) (pick (r.marq || r.strq || r.slre || r.locked) (Err OutOfTurn) fine)

-- "SAR1 (slave low 4, then 0000). .. SAR2"; "MCR (broadcast bit as on the wire, retries 0 to 7, control)": "with
-- MARQ"
unfoldable pub request_refusal : Registers → Bool → Looked
request_refusal r listed = pick (not listed) (Err UnlistedValue) (pick r.marq (Err OutOfTurn) fine)

-- "MCR control undefined; MCR broadcast with a read control"
abbrev pub control_listed : Bool → ℕ → Bool
control_listed individual control =
    writes_of control || individual && (eqb control 0 || leb 3 control && leb control 7)

unfoldable pub mcr_listed : ℕ → Bool
mcr_listed v = control_listed (leb 0x80 v) (v % 16)

-- "TBF write at 33 bytes"
unfoldable pub tbf_refusal : ℕ → Looked
tbf_refusal waiting = pick (leb tbf_bytes waiting) (Err Full) fine

-- "Written: 0H CTR .. 1H CMR .. 2H UAR1 .. 3H UAR2 .. 4H SAR1 .. 5H SAR2. 6H MCR .. EH TBF"
unfoldable pub write_refusal : Registers → ℕ → ℕ → ℕ → Looked
write_refusal r waiting register v =
    pick (eqb register reg_ctr) (ctr_refusal v)
    (pick (eqb register reg_cmr) (cmr_refusal r waiting v)
    (pick (eqb register reg_uar1) (uar_refusal r (eqb (v / 4 % 4) 0))
    (pick (eqb register reg_uar2) (uar_refusal r true)
    (pick (eqb register reg_sar1) (request_refusal r (eqb (v % 16) 0))
    (pick (eqb register reg_sar2) (request_refusal r true)
    (pick (eqb register reg_mcr) (request_refusal r (mcr_listed v))
    (pick (eqb register reg_tbf) (tbf_refusal waiting) (Err UnlistedRegister))))))))

-- ---- writes: what is done

-- "(.. copy the lock into LOR, zeros if unlocked)"; "LOR1 (low 8), .. LOR2 (high half 0001 if locked; low half
-- address high 4)"
unfoldable pub lor_copied : Registers → Registers
lor_copied r =
    pick r.locked (r ▹ registers·lor1 (r.holder % 256) ▹ registers·lor2 (16 + r.holder / 256 % 16))
    (r ▹ registers·lor1 0 ▹ registers·lor2 0)

-- "RDR1 is 0 at a master request"; losses are counted afresh
unfoldable pub requested : Registers → Registers
requested r = r ▹ registers·marq true ▹ registers·losses 0 ▹ registers·rdr1 0

-- "0FH clear SLRE, a reception whose control was accepted going on": the frame under way is left as it is
unfoldable pub commanded : Registers → ℕ → Registers
commanded r v =
    pick (eqb v cmr_request) (requested r)
    (pick (eqb v cmr_offer) (r ▹ registers·strq true)
    (pick (eqb v cmr_clear_slre) (r ▹ registers·slre false) (lor_copied r)))

unfoldable pub uar1_written : Registers → ℕ → Registers
uar1_written r v =
    r ▹ registers·own (r.own / 16 * 16 + v / 16) ▹ registers·enabled (eqb (v / 2 % 2) 1) ▹ registers·long
    (eqb (v % 2) 1)

unfoldable pub mcr_written : Registers → ℕ → Registers
mcr_written r v =
    r ▹ registers·bit (leb 0x80 v) ▹ registers·retries (v / 16 % 8) ▹ registers·control (v % 16)

-- the registers after an accepted write but a reset's and TBF's
unfoldable pub written : Registers → ℕ → ℕ → Registers
written r register v =
    pick (eqb register reg_ctr) (pick (eqb v ctr_set_slre) (r ▹ registers·slre true) r)
    (pick (eqb register reg_cmr) (commanded r v)
    (pick (eqb register reg_uar1) (uar1_written r v)
    (pick (eqb register reg_uar2) (r ▹ registers·own (v * 16 + r.own % 16))
    (pick (eqb register reg_sar1) (r ▹ registers·slave (r.slave / 16 * 16 + v / 16))
    (pick (eqb register reg_sar2) (r ▹ registers·slave (v * 16 + r.slave % 16)) (mcr_written r v))))))

-- ---- reads

-- "Read: 0H STR .. 1H FLG .. 2H RDR1, 3H RDR2. 4H LOR1 .. 5H LOR2 .. 8H RCR .. EH RBF"; "RBF read when empty"
unfoldable pub read_refusal : ℕ → Bool → Looked
read_refusal register clear =
    pick (leb register reg_lor2 || eqb register reg_rcr) fine
    (pick (eqb register reg_rbf) (pick clear (Err Empty) fine) (Err UnlistedRegister))

-- "STR (TFL, TEP, RFL, REP in bits 7-4)"
unfoldable pub str_byte : ℕ → ℕ → ℕ
str_byte waiting stored =
    bit_of (leb tbf_bytes waiting) * 128 + bit_of (eqb waiting 0) * 64 + bit_of (leb rbf_bytes stored) * 32 + bit_of
    (eqb stored 0) * 16

-- "FLG (MARQ, STRQ, SLRE in bits 6-4)"
unfoldable pub flg_byte : Registers → ℕ
flg_byte r = bit_of r.marq * 64 + bit_of r.strq * 32 + bit_of r.slre * 16

-- "RCR (MARC high, SLRC low)"
unfoldable pub rcr_byte : Registers → ℕ
rcr_byte r = r.marc % 16 * 16 + r.slrc % 16

-- a register but RBF, from the registers and the number of bytes in each buffer
unfoldable pub read_value : Registers → ℕ → ℕ → ℕ → ℕ
read_value r waiting stored register =
    pick (eqb register reg_str) (str_byte waiting stored)
    (pick (eqb register reg_flg) (flg_byte r)
    (pick (eqb register reg_rdr1) r.rdr1
    (pick (eqb register reg_rdr2) r.rdr2
    (pick (eqb register reg_lor1) r.lor1
    (pick (eqb register reg_lor2) r.lor2 (rcr_byte r))))))

-- ---- a host word

-- what it comes to: registers and TBF afterwards; all reset; RBF afterwards and the value read; or why it is refused
pub data Told : Type 0 where
  wrote : Registers → List ℕ → Told
  restarted : Told
  gave : List ℕ → ℕ → Told
  denied : Refusal → Told

-- what an accepted word comes to, where nothing was found against it
abbrev pub unless : Looked → Told → Told
unless (Ok x) told = told
unless (Err refusal) told = denied refusal

abbrev pub register_of : ℕ → ℕ
register_of w = w / 0x0100_0000 % 16

abbrev pub value_of : ℕ → ℕ
value_of w = w % 256

-- an accepted write
unfoldable pub write_done : Registers → List ℕ → ℕ → ℕ → Told
write_done r tbf register v =
    pick (eqb register reg_tbf) (wrote r (push_of tbf_bytes tbf v))
    (pick (eqb register reg_ctr && eqb v ctr_reset) restarted (wrote (written r register v) tbf))

unfoldable pub write_told : Registers → List ℕ → ℕ → ℕ → Told
write_told r tbf register v = unless (write_refusal r (length tbf) register v) (write_done r tbf register v)

unfoldable pub read_told : Registers → List ℕ → List ℕ → ℕ → Told
read_told r tbf rbf register =
    unless (read_refusal register (is_empty rbf))
    (pick (eqb register reg_rbf) (gave (drop 1 rbf) (get_or rbf 0 0))
    (gave rbf (read_value r (length tbf) (length rbf) register)))

-- "1, register write: bits 27-24 register, bits 7-0 value. 2, register read: bits 27-24 register"; number 1, "kind
-- not 0, 1, 2", and number 2, "an unnamed bit is set"
unfoldable pub told_of : Registers → List ℕ → List ℕ → ℕ → Told
told_of r tbf rbf w =
    pick (eqb (kind_of w) kind_write)
    (pick (eqb (w / 256 % 65536) 0) (write_told r tbf (register_of w) (value_of w)) (denied StrayBit))
    (pick (eqb (kind_of w) kind_read)
    (pick (eqb (w % 0x0100_0000) 0) (read_told r tbf rbf (register_of w)) (denied StrayBit))
    (denied UnknownKind))

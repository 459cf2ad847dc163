-- The state of a unit: what lasts, the frame under way, the latest slot, and the two buffers as lists, oldest first.
use Rattle.std.specs.Prelude.{ℕ, ◌+◌, ◌*◌, ◌/◌, ◌%◌, Bool, true, false, not, ◌&&◌, ◌||◌, List, [], ◌∷◌, ◌++◌, eqb, ltb, length, drop, get_or}
use Rattle.line.specs.Choice.{pick, bit_of}
use Rattle.line.specs.Numbers.{code_at_reset, rbf_bytes}
use Rattle.place.specs.Frame.{no_frame}
use Rattle.place.specs.Slaves.{writes_of}
use Rattle.place.specs.declared.View.{View}
use Rattle.rules.specs.declared.state.Act.{Act}
use Rattle.rules.specs.declared.state.Core.{Core}
use Rattle.rules.specs.declared.state.Registers.{Registers}
use Rattle.rules.specs.declared.state.Act.TheVariants.{Nothing, Take, Empty, Header, Byte}
use Rattle.rules.specs.declared.state.Seen.{Seen}

pub record State : Type 0 where
  pub core : Core
  pub tbf : List ℕ
  pub rbf : List ℕ

-- "Reset: RCR FFH, MCR 80H, all else zero or empty, waiting for a start, idle not seen."
abbrev pub reset_registers : Registers
reset_registers =
    record {
      own = 0;
      enabled = false;
      long = false;
      slave = 0;
      bit = true;
      retries = 0;
      control = 0;
      marq = false;
      strq = false;
      slre = false;
      losses = 0;
      lor1 = 0;
      lor2 = 0;
      rdr1 = 0;
      rdr2 = 0;
      marc = code_at_reset;
      slrc = code_at_reset;
      locked = false;
      holder = 0;
    }

abbrev pub reset_core : Core
reset_core = record { regs = reset_registers; frame = no_frame; idle = false }

abbrev pub reset : State
reset = record { core = reset_core; tbf = []; rbf = [] }

-- ---- the buffers: "TBF, 33 bytes", "RBF, 40 bytes, oldest first"

unfoldable pub is_empty : List ℕ → Bool
is_empty bytes = eqb (length bytes) 0

-- a byte behind the others, where there is room; "RBF cannot fill yet", since a reception begins with RBF empty
unfoldable pub push_of : ℕ → List ℕ → ℕ → List ℕ
push_of room bytes b = pick (ltb (length bytes) room) (bytes ++ b ∷ []) bytes

-- what a slot rests on of the buffers
abbrev pub seen_of : List ℕ → List ℕ → Seen
seen_of tbf rbf = record { waiting = length tbf; front = get_or tbf 0 0; clear = is_empty rbf }

-- what a slot does to each of them
unfoldable pub tbf_after : Act → List ℕ → List ℕ
tbf_after Nothing tbf = tbf
tbf_after Take tbf = drop 1 tbf
tbf_after Empty tbf = []
tbf_after (Header a b c) tbf = tbf
tbf_after (Byte b) tbf = tbf

unfoldable pub rbf_after : Act → List ℕ → List ℕ
rbf_after Nothing rbf = rbf
rbf_after Take rbf = rbf
rbf_after Empty rbf = rbf
rbf_after (Header a b c) rbf = push_of rbf_bytes (push_of rbf_bytes (push_of rbf_bytes rbf a) b) c
rbf_after (Byte b) rbf = push_of rbf_bytes rbf b

-- ---- what is worked out from the registers

-- "AH, BH, EH, FH: only with SLRE set and RBF empty."
abbrev pub ready_of : Registers → Bool → Bool
ready_of r clear = r.slre && clear

-- what a frame sees of its unit
abbrev pub view_of : Registers → Bool → View
view_of r clear =
    record {
      own = r.own;
      bit = r.bit;
      slave = r.slave;
      control = r.control;
      strq = r.strq;
      ready = ready_of r clear;
      locked = r.locked;
      holder = r.holder;
    }

-- "A read request holds back while RBF is not empty: it neither drives start nor takes part."
unfoldable pub takes_part : Registers → Bool → Bool
takes_part r clear = r.marq && (writes_of r.control || clear)

-- "The status byte has bit 0 STRQ, bit 1 .., bit 2 locked, bit 4 sending enabled, bits 7-6 = 10"; ticket 2: "bit 1 is 0
-- when SLRE is set and RBF is empty, and otherwise 1"
unfoldable pub status_byte : Registers → Bool → ℕ
status_byte r clear =
    128 + bit_of r.enabled * 16 + bit_of r.locked * 4 + bit_of (not (ready_of r clear)) * 2 + bit_of r.strq

-- "4H, 5H: length 1 and the holder's low 8 bits, or its high 4 bits under four zeros. Unlocked, .. 5H gives 00H."
unfoldable pub own_byte : Registers → ℕ → Bool → ℕ
own_byte r control clear =
    pick (eqb control 4) (r.holder % 256)
    (pick (eqb control 5) (pick r.locked (r.holder / 256 % 16) 0) (status_byte r clear))

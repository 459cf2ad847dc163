-- What a call does to the bytes that keep a unit, and to the answer bytes.
use Rattle.std.specs.Prelude.{List, ◌++◌, ◌≡◌, ℕ, eqb, drop, length}
use Rattle.line.specs.Choice.{pick}
use Rattle.isolation.specs.Runs.{Protected, run, answers}
use Rattle.rules.specs.Machine.{unit}
use Rattle.rules.specs.State.{State, reset}
use Rattle.lists.specs.Bytes.{byte_refusal, bytes_of, words_of}
use Rattle.lists.specs.Rulings.{AllRuled}
use Rattle.keeping.specs.Layout.{state_bytes}
use Rattle.keeping.specs.Encode.{encode}
use Rattle.keeping.specs.Decode.{decode}

-- the bytes given for a state are too few or too many: a number of this library's own, outside document 01's
abbrev pub refused_state_size : ℕ
refused_state_size = 100

unfoldable pub size_refusal : List ℕ → ℕ
size_refusal bytes = pick (eqb (length bytes) state_bytes) 0 refused_state_size

-- bytes that keep the state s
pub record Keeps (s : State) (bytes : List ℕ) : Type 0 where
  pub spelled : bytes ≡ encode s
  pub again : decode bytes ≡ s

-- ---- a reset

unfoldable pub reset_bytes : List ℕ → List ℕ
reset_bytes bytes = pick (eqb (size_refusal bytes) 0) (encode reset) bytes

unfoldable pub reset_state : List ℕ → State
reset_state bytes = pick (eqb (size_refusal bytes) 0) reset (decode bytes)

-- ---- a run from the state that the bytes keep

-- "The lowest number wins": 11 and 12 come before the size
unfoldable pub run_refusal : List ℕ → List ℕ → List ℕ → ℕ
run_refusal bytes words out = pick (eqb (byte_refusal words out) 0) (size_refusal bytes) (byte_refusal words out)

-- what is left of the state; "11 and above write nothing"
unfoldable pub run_state : List ℕ → List ℕ → List ℕ → State
run_state bytes words out =
    pick (eqb (run_refusal bytes words out) 0) (run unit (decode bytes) (words_of words)) (decode bytes)

unfoldable pub run_bytes : List ℕ → List ℕ → List ℕ → List ℕ
run_bytes bytes words out =
    pick (eqb (run_refusal bytes words out) 0) (encode (run unit (decode bytes) (words_of words))) bytes

-- the answer bytes; those past the last answer keep their contents
unfoldable pub run_answers : List ℕ → List ℕ → List ℕ → List ℕ
run_answers bytes words out =
    pick (eqb (run_refusal bytes words out) 0)
    (bytes_of (answers unit (decode bytes) (words_of words)) ++ drop (length words) out) out

-- ---- what a call promises

-- `iebus_unit_reset` on the bytes `kept`, which returns a number and leaves the bytes kept'; decoding them gives the
-- unit back
pub record Reset (kept : List ℕ) (number : ℕ) (kept' : List ℕ) : Type 0 where
  pub ends : number ≡ size_refusal kept
  pub left : kept' ≡ reset_bytes kept
  pub again : decode kept' ≡ reset_state kept

-- `iebus_unit_run` on the bytes `kept` and the answer bytes `out`, and what it leaves of both; the last two are demands
-- 1 and 3
pub record Ran (kept words out : List ℕ) (number : ℕ) (kept' out' : List ℕ) : Type 0 where
  pub ends : number ≡ run_refusal kept words out
  pub written : out' ≡ run_answers kept words out
  pub left : kept' ≡ run_bytes kept words out
  pub again : decode kept' ≡ run_state kept words out
  pub ruled : number ≡ 0 → AllRuled (decode kept) (words_of words) (words_of out')
  pub protected : Protected unit

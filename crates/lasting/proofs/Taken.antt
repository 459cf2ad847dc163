-- A call of `iebus_unit_run` that is not refused.
use mathlib.Core.Path.{◌≡◌, ap, ◌∙◌}
use mathlib.Core.List.{List, ◌++◌}
use Prim.Native.Nat.{ℕ}
use lib.ListN.{length, drop}
use Rattle.isolation.specs.Runs.{run, answers}
use Rattle.rules.specs.Machine.{unit}
use Rattle.rules.specs.State.{State}
use Rattle.lists.specs.Bytes.{byte_refusal, bytes_after, bytes_of, state_after, words_of}
use Rattle.lists.specs.Rulings.{AllRuled}
use Rattle.lists.proofs.Rulings.{spelled_ruled}
use Rattle.keeping.specs.Layout.{state_bytes}
use Rattle.keeping.specs.Calls.{Keeps, run_answers, run_bytes, run_refusal, run_state, size_refusal}
use Rattle.keeping.specs.Decode.{decode}
use Rattle.keeping.specs.Encode.{encode}

-- the state and the answers of a run over bytes that is not refused
ran_state : (s t : State) (words out : List ℕ) → byte_refusal words out ≡ 0 → s ≡ t
    → state_after s words out ≡ run unit t (words_of words)
unfolding state_after
ran_state s t words out none e = rw (none, e)

ran_bytes : (s t : State) (words out : List ℕ) → byte_refusal words out ≡ 0 → s ≡ t
    → bytes_after s words out ≡ bytes_of (answers unit t (words_of words)) ++ drop (length words) out
unfolding bytes_after
ran_bytes s t words out none e = rw (none, e)

-- nothing is refused where the lists are taken and the size is right
not_refused : (bytes words out : List ℕ) → byte_refusal words out ≡ 0 → length bytes ≡ state_bytes
    → run_refusal bytes words out ≡ 0
unfolding run_refusal size_refusal
not_refused bytes words out none size = rw (none, size)

-- what the parts of the call promise each other makes what it promises
pub record Promised (bytes words out bytes' out' : List ℕ) : Type 0 where
  pub number : run_refusal bytes words out ≡ 0
  pub written : out' ≡ run_answers bytes words out
  pub left : bytes' ≡ run_bytes bytes words out
  pub again : decode bytes' ≡ run_state bytes words out
  pub ruled : AllRuled (decode bytes) (words_of words) (words_of out')

pub promised : (bytes words out bytes' out' : List ℕ) (s t : State) → byte_refusal words out ≡ 0
    → length bytes ≡ state_bytes → s ≡ decode bytes → t ≡ state_after s words out → out' ≡ bytes_after s words out
    → Keeps t bytes' → Promised bytes words out bytes' out'
unfolding run_answers run_bytes run_state
promised bytes words out bytes' out' s t none size from after written keeps =
    let zero : run_refusal bytes words out ≡ 0 = not_refused bytes words out none size in
    let said = written ∙ ran_bytes s (decode bytes) words out none from in
    let left : t ≡ run unit (decode bytes) (words_of words) = after ∙ ran_state s (decode bytes) words out none from in
    record {
      number = zero;
      written = said ∙ rw zero;
      left = keeps.spelled ∙ ap encode left ∙ rw zero;
      again = keeps.again ∙ left ∙ rw zero;
      ruled = spelled_ruled (decode bytes) (words_of words) (drop (length words) out) out' said;
    }

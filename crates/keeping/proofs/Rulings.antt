-- Demand 1 for calls of `iebus_unit_run`, by its contract alone.
use mathlib.Core.Path.{◌≡◌, sym, ◌∙◌}
use mathlib.Core.List.{List, [], append-nil}
use Prim.Native.Nat.{ℕ, ◌%◌, ◌≤◌}
use borrow.Author.Tests.{eq-eqb, le-ltb}
use lib.ListN.{length}
use Rattle.lists.specs.Bytes.{count_refusal, words_of}
use Rattle.lists.specs.Rulings.{AllRuled}
use Rattle.lists.proofs.Rulings.{spelled_ruled}
use Rattle.keeping.specs.Calls.{Ran, run_refusal, size_refusal}
use Rattle.keeping.specs.Decode.{decode}
use Rattle.keeping.specs.Layout.{state_bytes}
use Rattle.keeping.proofs.Fed.{Fed, as_one_run}

-- bytes of the right size, whole words and room for their answers are enough for one call
pub unit_answered : {kept words out kept' out' : List ℕ} {number : ℕ} → Ran kept words out number kept' out'
    → length kept ≡ state_bytes → length words % 4 ≡ 0 → length words ≤ length out
    → AllRuled (decode kept) (words_of words) (words_of out')
unfolding run_refusal size_refusal count_refusal
unit_answered call size whole room = call.ruled (call.ends ∙ rw (eq-eqb _ _ whole, le-ltb _ _ room, size))

-- the words of any number of calls, with the answers to them
pub fed_ruled : {kept words said kept' : List ℕ} → Fed kept words said kept'
    → AllRuled (decode kept) (words_of words) (words_of said)
fed_ruled {kept} {words} {said} calls =
    spelled_ruled (decode kept) (words_of words) [] said ((as_one_run calls).answered ∙ sym (append-nil _))

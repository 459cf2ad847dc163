use mathlib.Core.Path.{◌≡◌, ◌∙◌, ap}
use mathlib.Core.List.{List}
use Prim.Native.Nat.{ℕ}
use lib.ListN.{length, take, replicate}
use Rattle.lists.specs.Bytes.{bytes_after}
use Rattle.list_run.proofs.Spelled.{same_answers}
use Rattle.rules.specs.State.{State, reset}
use Rattle.text.specs.Last.{most_bytes}
use Rattle.listing.specs.Printed.{answered_of, printed_of, whole_words}
use Rattle.listing.proofs.listed.Goals as goal

-- a run over the bytes of the whole words, from a state that is that of a reset
answered : (input answers : List ℕ) (count : ℕ) (from : State) → count ≡ whole_words (length input) → from ≡ reset
    → answers ≡ bytes_after from (take count input) (replicate most_bytes 0) → answers ≡ answered_of input
answered input answers count from whole at_reset run =
    run ∙ same_answers _ _ _ _ at_reset
    ∙ ap (λ (k : ℕ). bytes_after reset (take k input) (replicate most_bytes 0)) whole

pub returns-clause-count : goal.returns-clause-count
unfolding printed_of
returns-clause-count c =
    rw (answered c.args.input.now c.run_bytes.new.answers c.whole_words.result _ c.whole_words.ensures.value
    c.reset.ensures.result_value c.run_bytes.ensures.called.written) at c.listing.ensures.count

pub returns-clause-written : goal.returns-clause-written
unfolding printed_of
returns-clause-written c =
    rw (answered c.args.input.now c.run_bytes.new.answers c.whole_words.result _ c.whole_words.ensures.value
    c.reset.ensures.result_value c.run_bytes.ensures.called.written) at c.listing.ensures.written

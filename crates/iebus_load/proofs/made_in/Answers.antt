use native.Mathlib.Omega.{arith}
use mathlib.Core.Path.{◌≡◌, ◌∙◌, ap}
use lib.ListN.{length}
use Rattle.loads.specs.Load.{Ending}
use Rattle.pieces.proofs.Pieces.{front, named}
use Rattle.iebus_load.specs.Output.{message_of, slots_of}
use Rattle.iebus_load.proofs.Inputs.{ended_is, of_log, slots_count, slots_read, whole_fits, whole_made}
use Rattle.iebus_load.proofs.made_in.Goals as goal

pub put_loaded-requires : goal.put_loaded-requires
put_loaded-requires c =
    let words = c.put_words-count.ensures in
    let read = slots_read c.args.input.now c.put_words-count.new.words _ words.count c.requires.0 words.written in
    let few = slots_count c.args.input.now in
    of_log c.args.wanted.window _ _ (rw read (omega (arith, few))) c.load-ended.ensures.whole.ends

pub returns : goal.returns
returns c =
    let input = c.args.input.now in
    let words = c.put_words-count.ensures in
    let read = slots_read input c.put_words-count.new.words _ words.count c.requires.0 words.written in
    let many : c.put_words-count.result ≡ length (slots_of c.args.input.now) =
    omega (arith, words.count, c.requires.0, slots_count c.args.input.now)
    in
    let whole = whole_made c.args.wanted.view input read c.requires.1 c.load-ended.ensures.whole many in
    let out = front (named c.put_loaded.ensures whole) in
    record {
      counted = out.count;
      written = out.written;
      message = c.told.ensures
          ∙ ap (λ (r : Ending). message_of r (length c.args.input.now))
          (ended_is input read c.requires.1 c.load-ended.ensures.whole);
      within = out.within;
      fits = whole_fits c.args.wanted.view c.args.wanted.window input;
    }

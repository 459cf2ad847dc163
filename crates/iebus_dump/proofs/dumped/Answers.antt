use Prim.Native.Nat.{ℕ, zero}
use native.Mathlib.Omega.{arith}
use mathlib.Core.Path.{◌≡◌, ◌∙◌}
use lib.ListN.{length, length-replicate, replicate}
use Rattle.iebus_dump.specs.Dump.{dump_of, most_words}
use Rattle.iebus_dump.proofs.Fits.{fits}
use Rattle.pieces.proofs.Pieces.{front, named}
use Rattle.iebus_dump.proofs.Texts.{slots_made, text_made, text_right}
use Rattle.iebus_dump.proofs.dumped.Goals as goal

pub returns : goal.returns
unfolding dump_of
returns c =
    let places : length (replicate most_words zero) ≡ most_words = length-replicate {0} {A = ℕ} most_words 0 in
    let is = slots_made c.args.input.now c.put_words-count.new.words _ c.put_words-count.ensures.count places
    c.put_words-count.ensures.written in
    let made = text_made c.read_log-read.result c.args.input.now c.put_words-count.new.words
    c.read_log-read.new.records _ c.put_words-count.ensures.count places is c.last_line-last.ensures
    c.shown-end.ensures.0 c.shown-end.ensures.1 in
    let right = text_right c.read_log-read.ensures.relied c.args.input.now
    (rw is at c.read_log-read.ensures.whole) (omega (arith, places)) in
    let dump = front (named c.put_dump.ensures (made ∙ right)) in
    record {
      count = dump.count;
      written = dump.written;
      within = dump.within;
      fits = fits c.read_log-read.ensures.relied c.args.input.now;
    }

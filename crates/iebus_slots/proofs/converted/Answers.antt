use mathlib.Core.Path.{◌≡◌, ap, ◌∙◌}
use Prim.Native.Nat.{ℕ}
use lib.ListN.{length, length-replicate, replicate}
use Rattle.pulses.specs.Conversion.{Ending}
use Rattle.iebus_slots.specs.Output.{message_of, most_pulses}
use Rattle.iebus_slots.proofs.Slots.{converted, read_again_slots}
use Rattle.iebus_slots.proofs.converted.Goals as goal

pub returns : goal.returns
returns c =
    let places : length (replicate {A = ℕ} most_pulses 0) ≡ most_pulses = length-replicate {0} {A = ℕ} most_pulses 0 in
    let words = c.put_words-count.ensures in
    let out = c.put_bytes-words.ensures in
    let all =
    converted c.args.setting c.args.input.now c.put_words-count.new.words _ _ c.slots_of_pulses-ended.new.slots
    c.args.bytes.now c.put_bytes-words.new.bytes places words.count words.written places
    c.slots_of_pulses-ended.ensures.whole c.given.ensures.0 out.count out.written
    in
    record {
      count = all.made.counted;
      written = all.made.written;
      message = c.told.ensures ∙ ap (λ (r : Ending). message_of r (length c.args.input.now)) all.ends;
      within = all.made.within;
      read = read_again_slots c.args.setting c.args.input.now;
    }

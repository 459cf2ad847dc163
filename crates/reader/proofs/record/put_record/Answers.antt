use Rattle.reader.proofs.Records.{Putting, ends_middle, first_fits, front_fits, few, said_fits}
use Rattle.reader.proofs.Records.{record_put}
use Rattle.reader.proofs.record.put_record.Goals as goal
use Rattle.reader.proofs.record.put_record.Goals.{After-put_data-body}

-- the record that is being put once its bytes are written
module _ (c : After-put_data-body) where
  putting : Putting c.args.long c.args.levels.now c.args.at c.args.records.now c.head_of-head.result
      c.front_words.result c.put_data-body.result c.put_data-body.new.records
  putting =
      record {
        low = c.requires.low.0;
        room = c.requires.low.1;
        is_head = c.head_of-head.ensures;
        is_front = c.front_words.ensures;
        wrote = c.put_data-body.ensures;
      }

pub entry_of-entry-requires : goal.entry_of-entry-requires
entry_of-entry-requires c =
    let putting = putting (goal.at.entry_of-entry-requires c).After-put_data-body in
    let (acked, unacked) = few putting in (said_fits putting, acked, unacked)

pub alike-again-requires : goal.alike-again-requires
alike-again-requires c =
    rw c.entry_of-entry.ensures
    (ends_middle (putting (goal.at.alike-again-requires c).After-put_data-body) c.args.before c.requires.before_bound)

pub first_word-first-requires : goal.first_word-first-requires
first_word-first-requires c =
    rw c.entry_of-entry.ensures (first_fits (putting (goal.at.first_word-first-requires c).After-put_data-body))

pub put_front-requires : goal.put_front-requires
put_front-requires c =
    rw c.entry_of-entry.ensures (front_fits (putting (goal.at.put_front-requires c).After-put_data-body))

pub returns : goal.returns
returns c =
    record_put (putting (goal.at.returns c).After-put_data-body) c.entry_of-entry.ensures c.args.before
    c.alike-again.result c.requires.before_bound c.alike-again.ensures
    c.first_word-first.ensures c.put_front.ensures

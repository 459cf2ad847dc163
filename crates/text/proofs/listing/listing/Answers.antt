-- `text::listing::listing` meets its contract: where there is room, the lines and then the last line stand in the text.
use Rattle.text.proofs.Lines.{with_last}
use Rattle.text.proofs.listing.listing.Goals as goal

pub returns-clause-count : goal.returns-clause-count
returns-clause-count c =
    rw (c.last_text-last.ensures.value, c.left_over.ensures)
    (with_last c.put_lines-at.ensures.lines_in c.if-text-lt-LISTING_BYTES.false).0

pub returns-clause-written : goal.returns-clause-written
returns-clause-written c =
    rw (c.put.ensures, c.last_text-last.ensures.value, c.left_over.ensures)
    (with_last c.put_lines-at.ensures.lines_in c.if-text-lt-LISTING_BYTES.false).1

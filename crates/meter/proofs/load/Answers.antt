use borrow.Author.Rules.{rules}
use Rattle.loads.proofs.Relied.{relied}
use Rattle.meter.proofs.Ends.{empty, figured}
use Rattle.meter.proofs.load.Goals as goal

pub returns-in_err-checked-clause-relied : goal.returns-in_err-checked-clause-relied
returns-in_err-checked-clause-relied c = relied _

pub returns-then-is_empty-clause-whole : goal.returns-then-is_empty-clause-whole
returns-then-is_empty-clause-whole c =
    empty _ _ _ c.in_ok-checked.ensures.window c.in_ok-checked.ensures.words (search rules)

pub returns-then-is_empty-clause-relied : goal.returns-then-is_empty-clause-relied
returns-then-is_empty-clause-relied c = relied _

pub returns-clause-whole : goal.returns-clause-whole
returns-clause-whole c =
    figured _ c.in_ok-checked.ensures.fits c.in_ok-checked.ensures.window c.in_ok-checked.ensures.words (search rules)
    c.put_figures.ensures.figures_after c.put_figures.ensures.largest_value

pub returns-clause-relied : goal.returns-clause-relied
returns-clause-relied c = relied _

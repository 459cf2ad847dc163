use Rattle.std.proofs.Common.{rules}
use borrow.Author.Tests.{tests}
use Rattle.std.proofs.lemmas.Iterator.{YieldsList-from_slice}
use Rattle.std.proofs.lemmas.Iterator.Search.{position_from_yields_List}
use Rattle.contenders.specs.Contest.{out_of_range}
use Rattle.contest.proofs.Loops.{found_position}
use Rattle.contest.proofs.first_out.Goals as goal

pub returns : goal.returns
returns c =
    found_position out_of_range c.args.contenders.now
    (position_from_yields_List out_of_range _ _ c.position.result c.position.ensures.ran
    (YieldsList-from_slice c.args.contenders.now cc) (λ x b q k. search (rules, tests)))

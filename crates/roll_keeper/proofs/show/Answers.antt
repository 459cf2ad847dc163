use Rattle.roll_keeper.proofs.Ends.{array_long, shows_next, shows_nobody, shows_other}
use Rattle.roll_keeper.proofs.show.Goals as goal

pub returns-in_default : goal.returns-in_default
returns-in_default c =
    shows_other _ _ c.in_default.ensures.cases

pub returns-in-Some-lowest : goal.returns-in-Some-lowest
returns-in-Some-lowest c =
    let whole = c.in-Some.ensures.cases in
    rw (← whole.same, c.from.ensures) (shows_next _ _ (array_long whole) c.in-Some-lowest.ensures)

pub returns-in-None : goal.returns-in-None
returns-in-None c =
    let whole = c.in-Some.ensures.cases in
    rw (← whole.same) (shows_nobody _ _ (array_long whole) c.in-None.ensures)

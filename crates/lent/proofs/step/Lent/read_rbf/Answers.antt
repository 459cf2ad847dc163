use Rattle.lent.proofs.Changed.{drawn_state}
use Rattle.lent.proofs.step.Lent.read_rbf.Goals as goal

pub returns : goal.returns
returns c =
    λ t. rw (c.done.ensures, c.without_oldest-rest.ensures, c.front-byte.ensures)
    (drawn_state c.args.self t c.args.rbf.now _)

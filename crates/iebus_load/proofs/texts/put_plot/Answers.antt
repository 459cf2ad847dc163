use Rattle.pieces.proofs.Pieces.{then}
use Rattle.iebus_load.specs.Texts.{plot_of}
use Rattle.iebus_load.proofs.texts.put_plot.Goals as goal

pub returns : goal.returns
unfolding plot_of
returns c = then (then c.put_head-at.ensures c.put_curve-at.ensures) c.put_tail.ensures

use Rattle.frame.proofs.Loss.{lead_after}
use Rattle.frame.proofs.step.led.Goals as goal

pub returns : goal.returns
returns c =
    lead_after c.args.frame c.args.lost

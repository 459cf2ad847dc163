use Rattle.frame.proofs.Loss.{goes_through, overruled_ends}
use Rattle.frame.proofs.step.in_field.Goals as goal

pub returns-then-overruled-contested : goal.returns-then-overruled-contested
returns-then-overruled-contested c =
    rw c.done.ensures
    (overruled_ends c.args.frame c.args.field c.args.n c.args.bit c.args.view
    (rw (← c.clash-overruled.ensures, ← c.contested.ensures)
    c.if-overruled-contested.true))

pub returns : goal.returns
returns c =
    rw (c.told-moved.ensures, c.at_field-moved.ensures, c.led.ensures, c.clash-overruled.ensures)
    (goes_through c.args.frame c.args.field c.args.n c.args.bit c.args.view
    (rw (← c.clash-overruled.ensures, ← c.contested.ensures)
    c.if-overruled-contested.false))

use native.Mathlib.Omega.{arith}
use Rattle.contest.proofs.Places.{contenders_are, contenders_length}
use Rattle.contest.proofs.Endings.{ends_short, ends_empty, ends_crowded, ends_out_of_range, ends_alike, twin_named}
use Rattle.contest.proofs.contest.Goals as goal

pub returns-then-lost-all-clause-whole : goal.returns-then-lost-all-clause-whole
returns-then-lost-all-clause-whole c =
    ends_short _ _ (omega (arith, contenders_length c.args.all))

pub returns-then-all-eq0-clause-whole : goal.returns-then-all-eq0-clause-whole
returns-then-all-eq0-clause-whole c =
    let count = contenders_length c.args.all in
    ends_empty _ _ (omega arith) (omega arith)

pub returns-then-all-gt-MOST_CONTENDERS-clause-whole : goal.returns-then-all-gt-MOST_CONTENDERS-clause-whole
returns-then-all-gt-MOST_CONTENDERS-clause-whole c =
    let count = contenders_length c.args.all in
    ends_crowded _ _ (omega arith) (λ e. c.if-all-eq0.false (omega arith)) (omega arith)

pub returns-in-Some-clause-whole : goal.returns-in-Some-clause-whole
returns-in-Some-clause-whole c =
    let count = contenders_length c.args.all in
    let out = rw (← contenders_are c.args.all (omega arith)) at c.in-Some.ensures in
    rw out.1 (ends_out_of_range _ _ (omega arith) (λ e. c.if-all-eq0.false (omega arith)) (omega arith) (omega arith))

pub returns-in-Some-first_twin-clause-whole : goal.returns-in-Some-first_twin-clause-whole
returns-in-Some-first_twin-clause-whole c =
    let count = contenders_length c.args.all in
    let ranged = rw (← contenders_are c.args.all (omega arith)) at c.in_default.ensures in
    let twin = rw (← contenders_are c.args.all (omega arith)) at c.in-Some-first_twin.ensures in
    rw twin.1 (ends_alike _ _ (omega arith) (λ e. c.if-all-eq0.false (omega arith)) (omega arith) ranged (omega arith))

pub returns-in-Some-first_twin-clause-named : goal.returns-in-Some-first_twin-clause-named
returns-in-Some-first_twin-clause-named c =
    let twin = rw (← contenders_are c.args.all (omega arith)) at c.in-Some-first_twin.ensures in
    rw twin.1 (twin_named _ (omega arith))

pub returns : goal.returns
returns c =
    rw (contenders_are c.args.all (omega arith)) c.decide.ensures

use mathlib.Core.Path.{◌≡◌}
use Rattle.std.proofs.Common.{rules, tests}
use Rattle.std.proofs.lemmas.Iterator.{IsFirst-from_position}
use Rattle.line.specs.Numbers.{slot_start}
use Rattle.reader.proofs.Slots.{start_nowhere, start_there, yields_behind}
use Rattle.reader.proofs.levels.next_start.Goals as goal

pub returns-in_err-ahead : goal.returns-in_err-ahead
returns-in_err-ahead c =
    let found = IsFirst-from_position _ _ c.position.result (λ x. x ≡ slot_start) (λ x. x ≡ slot_start → ⊥)
    c.position.ensures.ran (yields_behind c.args.slots.now c.args.from c.iter.ensures.rest)
    (λ x q k. search (rules, tests)) (λ x q k. search (rules, tests)) in
    rw c.from_residual.ensures (start_nowhere _ _ c.requires (rw c.in_err-ahead.was at found))

pub returns : goal.returns
returns c =
    let found = IsFirst-from_position _ _ c.position.result (λ x. x ≡ slot_start) (λ x. x ≡ slot_start → ⊥)
    c.position.ensures.ran (yields_behind c.args.slots.now c.args.from c.iter.ensures.rest)
    (λ x q k. search (rules, tests)) (λ x q k. search (rules, tests)) in
    start_there _ _ c.requires (rw c.in_ok-ahead.was at found)

use mathlib.Core.Path.{◌≡◌}
use Rattle.std.proofs.Common.{rules}
use Rattle.std.proofs.lemmas.Iterator.{first_from_Range}
use Rattle.rolls.specs.Kept.{request_at}
use Rattle.roll_keeper.proofs.Loops.{place_found}
use Rattle.roll_keeper.proofs.place_of.Goals as goal

pub returns : goal.returns
returns c =
    let bytes = c.args.roll.now in
    let number = c.args.number in
    place_found bytes number c.find.result
    (rw c.count.ensures at (first_from_Range _ _ _ c.find.result (λ i. request_at bytes i ≡ number)
    (λ i. request_at bytes i ≡ number → ⊥) c.find.ensures.ran (λ x q k. search rules)
    (λ x q k. search rules)))

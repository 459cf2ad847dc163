use mathlib.Core.Path.{◌∙◌, sym}
use native.Mathlib.Omega.{arith}
use Rattle.std.proofs.Common.{rules}
use Rattle.std.proofs.lemmas.Iterator.{YieldsList-from_map, YieldsList-from_range}
use Rattle.std.proofs.lemmas.Iterator.Adapters.{option_map_id}
use Rattle.std.proofs.lemmas.Iterator.Consumers.{min_from_yields_List}
use Rattle.rolls.specs.Kept.{count_in, request_at}
use Rattle.roll_keeper.proofs.Loops.{lowest_read}
use Rattle.roll_keeper.proofs.lowest.Goals as goal

pub returns : goal.returns
returns c =
    let bytes = c.args.roll.now in
    lowest_read bytes
    (sym (option_map_id c.min.result)
    ∙ min_from_yields_List c.map.result _ c.min.ensures.ran
    (YieldsList-from_map _ (request_at bytes)
    (YieldsList-from_range 0 _ (count_in bytes) c.map.ensures.source (omega arith))
    c.map.ensures.closure (λ x r q k. search rules)))

-- Document 01, "Slaves": the judgements that a slave makes at P.
use Rattle.std.specs.Prelude.{ℕ, ◌/◌, Bool, true, false, not, ◌&&◌, ◌||◌, List, [], ◌∷◌, eqb, get_or}
use Rattle.std.specs.Prelude.{Some, None}
use Rattle.std.specs.Bool.{then_some}
use Rattle.std.specs.declared.option.Option.{Option}
use Rattle.line.specs.Choice.{pick}
use Rattle.line.specs.Numbers.{general_broadcast}
use Rattle.place.specs.declared.Part.{Part}
use Rattle.place.specs.declared.Part.TheVariants.{Sends, Receives}
use Rattle.place.specs.declared.Frame.{Frame}
use Rattle.place.specs.declared.View.{View}

-- "Individual: ACK after the slave address if it is the unit's own and both parities hold. Group broadcast: same
-- top four address bits; FFFH is general."
unfoldable pub addressed_of : Frame → ℕ → ℕ → Bool → Bool
addressed_of f address own held =
    f.sound && held
    && (f.broadcast && (eqb address general_broadcast || eqb (address / 256) (own / 256)) || not
    f.broadcast && eqb address own)

-- the write controls: AH, BH, EH, FH
unfoldable pub writes_of : ℕ → Bool
writes_of control = eqb control 10 || eqb control 11 || eqb control 14 || eqb control 15

-- "Locked, another master .."
unfoldable pub stranger_of : View → ℕ → Bool
stranger_of v master = v.locked && not (eqb v.holder master)

-- ".. gets NAK for all but 0H, 4H, 5H."
unfoldable pub open_to : ℕ → Bool
open_to control = eqb control 0 || eqb control 4 || eqb control 5

-- NAK unless it is allowed
abbrev pub only : Bool → Part → Option Part
only allowed part = then_some allowed part

-- "Control, decided over all sixteen values", in their order: the part that the slave then has, or NAK
abbrev pub controls : Bool → Bool → Bool → List (Option Part)
controls strq ready locked =
    Some Sends  -- 0H
    ∷ None ∷ None  -- 1H, 2H
    ∷ only strq Sends  -- 3H: "only with STRQ set"
    ∷ only locked Sends  -- 4H: "unlocked, 4H is NAK"
    ∷ Some Sends ∷ Some Sends  -- 5H, 6H
    ∷ only strq Sends  -- 7H
    ∷ None ∷ None  -- 8H, 9H
    ∷ only ready Receives ∷ only ready Receives  -- AH, BH: "only with SLRE set and RBF empty"
    ∷ None ∷ None  -- CH, DH
    ∷ only ready Receives ∷ only ready Receives  -- EH, FH
    ∷ []

unfoldable pub by_value : ℕ → Bool → Bool → Bool → Option Part
by_value control strq ready locked = get_or (controls strq ready locked) control None

-- a stranger gets NAK for all but what is open to it, which no broadcast is taken with: "A locked unit passes over
-- broadcasts of others than the holder."
unfoldable pub control_of : ℕ → Bool → Bool → Bool → Bool → Option Part
control_of control strange strq ready locked =
    pick (strange && not (open_to control)) None (by_value control strq ready locked)

-- "A broadcast is taken only with AH, BH, EH, FH"
unfoldable pub accepted_of : Option Part → Bool → Bool
accepted_of None broadcast = false
accepted_of (Some Sends) broadcast = not broadcast
accepted_of (Some Receives) broadcast = true

-- The start slot: it changes neither the broadcast bit nor the address, and puts each unit before slot 2.
use mathlib.Core.Bool.{Bool, true, false}
use mathlib.Core.Path.{◌≡◌, refl, ap, ◌∙◌}
use Prim.Native.Nat.{◌<◌}
use native.Mathlib.Omega.{arith}
use Rattle.line.specs.Choice.{bit_of, ◌▹◌}
use Rattle.line.specs.Numbers.{drive_start}
use Rattle.line.specs.Slot.{slot_of, class_of}
use Rattle.contenders.specs.declared.Contender.{Contender}
use Rattle.place.specs.Frame.{begun_of}
use Rattle.place.specs.Slaves.{writes_of}
use Rattle.place.specs.declared.Field.TheVariants.{Broadcast, Master, Slave, Control, Length, Data}
use Rattle.place.specs.declared.Place.{Place}
use Rattle.place.specs.declared.Place.TheVariants.{Waiting, In}
use Rattle.rules.specs.Endings.{cut_at, cut_of, data_ended, draws, ended_of, frees, left_of, length_ended, lock_after}
use Rattle.rules.specs.Endings.{part_ended, reception_ended, request_ended, sending_ended, slave_ended, ties}
use Rattle.rules.specs.Machine.{waiting}
use Rattle.rules.specs.Set.{core·regs}
use Rattle.rules.specs.Slots.{begun, on_start}
use Rattle.rules.specs.State.{State, is_empty, takes_part}
use Rattle.rules.specs.Step.{slot_on, step_of}
use Rattle.rules.specs.declared.state.Acted.{Acted}
use Rattle.rules.specs.declared.state.Core.{Core}
use Rattle.rules.specs.declared.state.Registers.{Registers}
use Rattle.rules.proofs.Calm.{pick_ind}
use Rattle.arbitration.specs.Group.{contender_of, leads}
use Rattle.arbitration.proofs.Slot.{Stands}

-- what a contest sees of the registers
abbrev seen : Registers → Contender
seen r = record { bit = bit_of r.bit; address = r.own }

-- an end of a frame leaves it
abbrev Keeps : Core → Acted → Type 0
Keeps c a = seen a.core.regs ≡ seen c.regs

request_keeps : (c : Core) (whole : Bool) → Keeps c (request_ended c whole)
unfolding request_ended
request_keeps c whole = pick_ind (Keeps c) (writes_of c.regs.control) _ _ (λ e. refl) (λ e. refl)

length_keeps : (c : Core) → Keeps c (length_ended c)
unfolding length_ended sending_ended
length_keeps c = pick_ind (Keeps c) (draws c.frame) _ _ (λ e. refl) (λ e. refl)

part_keeps : (c : Core) (whole : Bool) → Keeps c (part_ended c whole)
unfolding part_ended sending_ended reception_ended
part_keeps c whole =
    pick_ind (Keeps c) (draws c.frame) _ _ (λ e. refl)
    (λ e. pick_ind (Keeps c) c.frame.sends _ _ (λ y. refl) (λ y. refl))

lock_keeps : (c : Core) (whole : Bool) → seen (lock_after c.frame whole c.regs) ≡ seen c.regs
unfolding lock_after
lock_keeps c whole =
    let P : Registers → Type 0 = λ r. seen r ≡ seen c.regs in
    pick_ind P (ties c.frame) _ _ (λ e. pick_ind P whole _ _ (λ y. refl) (λ y. refl))
    (λ e. pick_ind P (frees c.frame whole) _ _ (λ y. refl) (λ y. refl))

data_keeps : (c : Core) (whole : Bool) → Keeps c (data_ended c whole)
unfolding data_ended
data_keeps c whole =
    part_keeps (c ▹ core·regs (lock_after c.frame whole c.regs)) whole ∙ lock_keeps c whole

slave_keeps : (p : Place) (c : Core) (whole : Bool) → Keeps c (slave_ended p c whole)
slave_keeps Waiting c whole = refl
slave_keeps (In Broadcast n) c whole = refl
slave_keeps (In Master n) c whole = refl
slave_keeps (In Slave n) c whole = refl
slave_keeps (In Control n) c whole = refl
slave_keeps (In Length n) c whole = length_keeps c
slave_keeps (In Data n) c whole = data_keeps c whole

cut_keeps : (c : Core) → Keeps c (cut_of c)
unfolding cut_of left_of ended_of
cut_keeps c = go c.frame.place
  where
    go : (p : Place) → Keeps c (cut_at p c)
    go Waiting = refl
    go (In field n) =
        pick_ind (Keeps c) c.frame.leads _ _ (λ e. request_keeps c false)
        (λ e. slave_keeps c.frame.place c false)

-- the frame that a start slot begins
start_core : (s : State) → (step_of s drive_start).core ≡ begun (cut_of s.core).core (is_empty s.rbf)
unfolding step_of slot_on on_start class_of slot_of
start_core s = refl

pub start_same : (s : State) → contender_of (step_of s drive_start) ≡ contender_of s
unfolding begun
start_same s = ap (λ (c : Core). seen c.regs) (start_core s) ∙ cut_keeps s.core

pub start_stands : (s : State) → (leads (step_of s drive_start) ≡ true → s.core.regs.own < 4096)
    → Stands 13 (step_of s drive_start)
unfolding begun begun_of
start_stands s h =
    record {
      place = ap (λ (c : Core). c.frame.place) (start_core s);
      own_lt = λ l. omega (arith, h l, ap (λ (c : Contender). c.address) (start_same s));
    }

-- "any start slot lets it take part", with MARQ set, but for a read request that holds back: so does a unit that waits
-- become a master
pub start_leads : (s : State) → waiting s
    → leads (step_of s drive_start) ≡ takes_part s.core.regs (is_empty s.rbf)
unfolding begun begun_of cut_of
start_leads s w =
    ap (λ (c : Core). c.frame.leads) (start_core s)
    ∙ ap (λ (p : Place). takes_part (cut_at p s.core).core.regs (is_empty s.rbf)) w

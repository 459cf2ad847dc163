-- SLRE and RBF, which a reception asks for, are left as they are by every slot but those of a length or of data that
-- the unit itself receives.
use mathlib.Core.Bool.{Bool, true, false, false≢true, not, ◌&&◌}
use mathlib.Core.Path.{◌≡◌, refl, sym, ap, ◌∙◌}
use mathlib.Core.List.{List}
use Prim.Native.Nat.{ℕ, ◌%◌}
use borrow.Author.Tests.{not-false}
use lib.Dec.{eqb, ltb}
use Rattle.std.specs.Prelude.{Some, None}
use Rattle.std.specs.declared.option.Option.{Option}
use Rattle.line.specs.Choice.{pick}
use Rattle.line.specs.Slot.{class_in}
use Rattle.line.specs.declared.slot.Slot.{Slot}
use Rattle.line.specs.declared.slot.Slot.TheVariants.{Level, Start, Idle}
use Rattle.place.specs.Frame.{done_of, next_of, shifted_of, to_field, width_of}
use Rattle.place.specs.Masters.{clash_of, contested_of}
use Rattle.place.specs.Slaves.{writes_of}
use Rattle.place.specs.Step as step
use Rattle.place.specs.Step.{moved, go_on, after_ack}
use Rattle.place.specs.declared.Event.{Event}
use Rattle.place.specs.declared.Event.TheVariants.{Nothing as Quiet, Lost, Addressed, ControlAcked, LengthAcked}
use Rattle.place.specs.declared.Event.TheVariants.{ByteAcked, AllAcked, ShortAcked, Aborted}
use Rattle.place.specs.declared.Field.{Field}
use Rattle.place.specs.declared.Field.TheVariants.{Broadcast, Master, Slave, Control, Length, Data}
use Rattle.place.specs.declared.Frame.{Frame}
use Rattle.place.specs.declared.Moved.{Moved}
use Rattle.place.specs.declared.Place.{Place}
use Rattle.place.specs.declared.Place.TheVariants.{Waiting, In}
use Rattle.place.specs.declared.View.{View}
use Rattle.rules.specs.Endings.{acted, cut_at, cut_of, data_ended, draws, ended_of, left_of, length_ended, lock_after}
use Rattle.rules.specs.Endings.{frees, locked_to, part_ended, request_ended, sending_ended, slave_ended, ties}
use Rattle.rules.specs.Endings.{unlocked}
use Rattle.rules.specs.Set.{core·frame, core·idle}
use Rattle.rules.specs.Slots.{begun, byte_drawn, last_acked, length_drawn, next_drawn, on_addressed, on_byte_acked}
use Rattle.rules.specs.Slots.{on_control_acked, on_event, on_idle, on_length_acked, on_level, on_lost, on_moved, on_slot}
use Rattle.rules.specs.Slots.{on_start, sending_begun, wanted, with_code}
use Rattle.rules.specs.State.{State, rbf_after, seen_of, view_of}
use Rattle.rules.specs.Step.{acted_by, clashes, slot_on, step_as}
use Rattle.rules.specs.declared.state.Act.TheVariants.{Nothing, Take}
use Rattle.rules.specs.declared.state.Acted.{Acted}
use Rattle.rules.specs.declared.state.Core.{Core}
use Rattle.rules.specs.declared.state.Registers.{Registers}
use Rattle.rules.specs.declared.state.Seen.{Seen}
use Rattle.rules.proofs.Calm.{pick_ind}

-- the unit is in the length or the data of a frame, and another sends them
abbrev pub receives_at : Place → Frame → Bool
receives_at Waiting f = false
receives_at (In Broadcast n) f = false
receives_at (In Master n) f = false
receives_at (In Slave n) f = false
receives_at (In Control n) f = false
receives_at (In Length n) f = not f.sends
receives_at (In Data n) f = not f.sends

record Kept (c : Core) (a : Acted) : Type 0 where
  slre : a.core.regs.slre ≡ c.regs.slre
  rbf : (bytes : List ℕ) → rbf_after a.act bytes ≡ bytes

lock_slre : (f : Frame) (whole : Bool) (r : Registers) → (lock_after f whole r).slre ≡ r.slre
unfolding lock_after
lock_slre f whole r =
    pick_ind same (ties f) (pick whole (unlocked r) (locked_to f.master r)) (pick (frees f whole) (unlocked r) r)
    (λ t. pick_ind same whole (unlocked r) (locked_to f.master r) (λ u. refl) (λ u. refl))
    (λ t. pick_ind same (frees f whole) (unlocked r) r (λ u. refl) (λ u. refl))
  where
    same : Registers → Type 0
    same x = x.slre ≡ r.slre

-- ---- how a frame ends

module _ (c : Core) where
  on_request : (whole : Bool) → Kept c (request_ended c whole)
  unfolding request_ended rbf_after
  on_request whole =
      pick_ind (Kept c) (writes_of c.regs.control) _ _ (λ t. record { slre = refl; rbf = λ b. refl })
      (λ t. record { slre = refl; rbf = λ b. refl })

  on_slave : (p : Place) (whole : Bool) → receives_at p c.frame ≡ false → Kept c (slave_ended p c whole)
  unfolding rbf_after length_ended data_ended part_ended sending_ended
  on_slave Waiting whole e = record { slre = refl; rbf = λ b. refl }
  on_slave (In Broadcast n) whole e = record { slre = refl; rbf = λ b. refl }
  on_slave (In Master n) whole e = record { slre = refl; rbf = λ b. refl }
  on_slave (In Slave n) whole e = record { slre = refl; rbf = λ b. refl }
  on_slave (In Control n) whole e = record { slre = refl; rbf = λ b. refl }
  on_slave (In Length n) whole e =
      pick_ind (Kept c) (draws c.frame) _ _ (λ t. record { slre = refl; rbf = λ b. refl })
      (λ t. record { slre = refl; rbf = λ b. refl })
  on_slave (In Data n) whole e =
      pick_ind (Kept c) (draws c.frame) _ _
      (λ t. record { slre = lock_slre c.frame whole c.regs; rbf = λ b. refl })
      (λ t. pick_ind (Kept c) c.frame.sends _ _
      (λ u. record { slre = lock_slre c.frame whole c.regs; rbf = λ b. refl })
      (λ u. absurd (false≢true (sym u ∙ not-false c.frame.sends e))))

  on_ended : (whole : Bool) → receives_at c.frame.place c.frame ≡ false → Kept c (ended_of c whole)
  unfolding ended_of
  on_ended whole e =
      pick_ind (Kept c) c.frame.leads _ _ (λ t. on_request whole) (λ t. on_slave c.frame.place whole e)

  left : (a : Acted) (f : Frame) → Kept c a → Kept c (left_of a f)
  unfolding left_of
  left a f k = record { slre = k.slre; rbf = k.rbf }

  cut : receives_at c.frame.place c.frame ≡ false → Kept c (cut_of c)
  unfolding cut_of rbf_after
  cut e = go c.frame.place
    where
      go : (p : Place) → Kept c (cut_at p c)
      go Waiting = record { slre = refl; rbf = λ b. refl }
      go (In field n) = left (ended_of c false) _ (on_ended false e)

-- ---- what the events of a frame bring about

module _ (c : Core) (seen : Seen) where
  Leaves : Moved → Type 0
  Leaves m = Kept c (on_moved c m seen)

  quiet : (f : Frame) → Leaves (moved Quiet f)
  unfolding Leaves on_event rbf_after
  quiet f = record { slre = refl; rbf = λ b. refl }

  lost : (f : Frame) → Leaves (moved Lost f)
  unfolding Leaves on_event on_lost rbf_after request_ended
  lost f =
      pick_ind (Kept c) (ltb c.regs.losses c.regs.retries) _ _ (λ t. record { slre = refl; rbf = λ b. refl })
      (λ t. pick_ind (Kept c) (writes_of c.regs.control) _ _ (λ u. record { slre = refl; rbf = λ b. refl })
      (λ u. record { slre = refl; rbf = λ b. refl }))

  addressed : (f : Frame) → Leaves (moved Addressed f)
  unfolding Leaves on_event on_addressed rbf_after
  addressed f =
      pick_ind (λ (d : Core). Kept c (acted Nothing d)) (f.leads && writes_of c.regs.control) _ _
      (λ t. record { slre = refl; rbf = λ b. refl }) (λ t. record { slre = refl; rbf = λ b. refl })

  control_acked : (f : Frame) → Leaves (moved ControlAcked f)
  unfolding Leaves on_event on_control_acked length_drawn sending_begun rbf_after
  control_acked f =
      pick_ind (Kept c) (draws f) _ _
      (λ t. pick_ind (λ (d : Core). Kept c (length_drawn d seen.front)) f.leads _ _
      (λ u. record { slre = refl; rbf = λ b. refl }) (λ u. record { slre = refl; rbf = λ b. refl }))
      (λ t. pick_ind (Kept c) f.sends _ _ (λ u. record { slre = refl; rbf = λ b. refl })
      (λ u. record { slre = refl; rbf = λ b. refl }))

  drawn : (f : Frame) → Kept c (byte_drawn (core·frame f c) seen)
  unfolding byte_drawn with_code rbf_after
  drawn f =
      pick_ind (λ (d : Core). Kept c (acted Take d)) (wanted f seen) _ _
      (λ t. pick_ind (λ (d : Core). Kept c (acted Take d)) f.leads _ _ (λ u. record { slre = refl; rbf = λ b. refl })
      (λ u. record { slre = refl; rbf = λ b. refl }))
      (λ t. record { slre = refl; rbf = λ b. refl })

  module _ (f : Frame) (sends : f.sends ≡ true) where
    length_acked : Leaves (moved LengthAcked f)
    unfolding Leaves on_event on_length_acked rbf_after
    length_acked =
        pick_ind (Kept c) (draws f) _ _ (λ t. drawn f)
        (λ t. pick_ind (Kept c) f.sends _ _ (λ u. record { slre = refl; rbf = λ b. refl })
        (λ u. absurd (false≢true (sym u ∙ sends))))

    byte_acked : receives_at f.place f ≡ false → Leaves (moved ByteAcked f)
    unfolding Leaves on_event on_byte_acked next_drawn rbf_after
    byte_acked e =
        pick_ind (Kept c) (draws f) _ _
        (λ t. pick_ind (Kept c) (eqb seen.waiting 0) _ _
        (λ u. let k = cut (core·frame f c) e in record { slre = k.slre; rbf = k.rbf }) (λ u. drawn f))
        (λ t. pick_ind (Kept c) f.sends _ _ (λ u. record { slre = refl; rbf = λ b. refl })
        (λ u. absurd (false≢true (sym u ∙ sends))))

  module _ (still : receives_at c.frame.place c.frame ≡ false) where
    aborted : (f : Frame) → Leaves (moved Aborted f)
    unfolding Leaves on_event
    aborted f = left c (ended_of c false) f (on_ended c false still)

    last-acked : c.frame.sends ≡ true → (byte : ℕ) (whole : Bool) → Kept c (last_acked c byte whole)
    unfolding last_acked
    last-acked sends byte whole =
        pick_ind (Kept c) c.frame.sends _ _ (λ u. on_ended c whole still)
        (λ u. absurd (false≢true (sym u ∙ sends)))

    all_acked : c.frame.sends ≡ true → (f : Frame) → Leaves (moved AllAcked f)
    unfolding Leaves on_event
    all_acked sends f = left c (last_acked c (c.frame.shift % 256) true) f (last-acked sends _ true)

    short_acked : c.frame.sends ≡ true → (f : Frame) → Leaves (moved ShortAcked f)
    unfolding Leaves on_event
    short_acked sends f = left c (last_acked c (c.frame.shift % 256) false) f (last-acked sends _ false)

    -- ---- a level in each field

    gone_on : (f : Frame) (field : Field) (n : ℕ) (goes : Bool) → Leaves (go_on f field n goes)
    unfolding go_on
    gone_on f field n goes = pick_ind Leaves goes _ _ (λ t. quiet (next_of f field n)) (λ t. aborted (done_of f))

    after : (f : Frame) (acked : Bool) (field : Field) (e : Event) → Leaves (moved e (to_field f field))
        → Leaves (after_ack f acked field e)
    unfolding after_ack
    after f acked field e k = pick_ind Leaves acked _ _ (λ t. k) (λ t. aborted (done_of f))

    on_data : (n : ℕ) (bit : Bool) → c.frame.sends ≡ true → Leaves (step.at_data c.frame n bit)
    unfolding step.at_data step.data_judged step.data_acked step.ends_of step.again_of step.acked_of step.counted_of
        to_field
    on_data n bit sends =
        pick_ind Leaves (ltb n (width_of Data)) _ _ (λ t. quiet (shifted_of c.frame Data n bit))
        (λ t. pick_ind Leaves (eqb n (width_of Data)) _ _
        (λ u. pick_ind Leaves c.frame.sends _ _ (λ x. gone_on _ Data n _) (λ x. gone_on _ Data n _))
        (λ u. pick_ind Leaves (step.text_ack c.frame bit) _ _
        (λ x. pick_ind Leaves (step.whole_of c.frame) _ _ (λ y. all_acked sends _)
        (λ y. pick_ind Leaves (step.last_of c.frame) _ _ (λ z. short_acked sends _)
        (λ z. byte_acked _ sends (ap not sends))))
        (λ x. pick_ind Leaves (step.last_of c.frame) _ _ (λ y. aborted _) (λ y. quiet _))))

    on_length : (n : ℕ) (bit : Bool) → c.frame.sends ≡ true → Leaves (step.at_length c.frame n bit)
    unfolding step.at_length step.length_judged to_field
    on_length n bit sends =
        pick_ind Leaves (ltb n (width_of Length)) _ _ (λ t. quiet (shifted_of c.frame Length n bit))
        (λ t. pick_ind Leaves (eqb n (width_of Length)) _ _
        (λ u. pick_ind Leaves c.frame.sends _ _ (λ x. gone_on _ Length n _) (λ x. gone_on _ Length n _))
        (λ u. after c.frame _ Data LengthAcked (length_acked (to_field c.frame Data) sends)))

    on_field : (field : Field) (n : ℕ) (bit : Bool) (v : View) → receives_at (In field n) c.frame ≡ false
        → Leaves (step.at_field c.frame field n bit v)
    unfolding step.at_field step.at_broadcast step.at_master step.at_slave step.slave_judged step.at_control
        step.control_judged
    on_field Broadcast n bit v e = quiet _
    on_field Master n bit v e =
        pick_ind Leaves (ltb n (width_of Master)) _ _ (λ t. quiet (shifted_of c.frame Master n bit)) (λ t. addressed _)
    on_field Slave n bit v e =
        pick_ind Leaves (ltb n (width_of Slave)) _ _ (λ t. quiet (shifted_of c.frame Slave n bit))
        (λ t. pick_ind Leaves (eqb n (width_of Slave)) _ _ (λ u. gone_on _ Slave n _)
        (λ u. after c.frame _ Control Quiet (quiet _)))
    on_field Control n bit v e =
        pick_ind Leaves (ltb n (width_of Control)) _ _ (λ t. quiet (shifted_of c.frame Control n bit))
        (λ t. pick_ind Leaves (eqb n (width_of Control)) _ _ (λ u. gone_on _ Control n _)
        (λ u. after c.frame _ Length ControlAcked (control_acked _)))
    on_field Length n bit v e = on_length n bit (not-false c.frame.sends e)
    on_field Data n bit v e = on_data n bit (not-false c.frame.sends e)

    on_place : (p : Place) (bit : Bool) (v : View) → receives_at p c.frame ≡ false
        → Leaves (step.at_place c.frame p bit v)
    unfolding step.in_field step.overruled_of
    on_place Waiting bit v e = quiet c.frame
    on_place (In field n) bit v e =
        pick_ind Leaves (clash_of c.frame field n bit v) _ _
        (λ t. pick_ind Leaves (contested_of field n) _ _ (λ u. lost _) (λ u. aborted _))
        (λ t. on_field field n bit v e)

-- ---- a slot

abbrev pub receives : State → Bool
receives s = receives_at s.core.frame.place s.core.frame

-- what a reception rests on is the same
pub record AsReady (s t : State) : Type 0 where
  pub slre : t.core.regs.slre ≡ s.core.regs.slre
  pub rbf : t.rbf ≡ s.rbf

acted_ready : (s : State) (c : Slot) → Kept s.core (on_slot s.core (Some c) (seen_of s.tbf s.rbf))
    → AsReady s (acted_by s c)
acted_ready s c k = record { slre = k.slre; rbf = k.rbf s.rbf }

on-start : (c : Core) (clear : Bool) → receives_at c.frame.place c.frame ≡ false → Kept c (on_start c clear)
unfolding on_start begun
on-start c clear e = let k = cut c e in record { slre = k.slre; rbf = k.rbf }

on-idle : (c : Core) → receives_at c.frame.place c.frame ≡ false → Kept c (on_idle c)
unfolding on_idle
on-idle c e = let k = cut c e in record { slre = k.slre; rbf = k.rbf }

on-level : (c : Core) (bit : Bool) (seen : Seen) → receives_at c.frame.place c.frame ≡ false
    → Kept c (on_level c bit seen)
unfolding on_level step.level_of Leaves
on-level c bit seen e =
    let k = on_place (core·idle false c) seen e c.frame.place bit (view_of c.regs seen.clear) e in
    record { slre = k.slre; rbf = k.rbf }

-- also a slot word with an unnamed bit, which is no slot
pub slot_ready : (s : State) (c : Option Slot) (w : ℕ) → receives s ≡ false → AsReady s (step_as (class_in c) s w)
unfolding slot_on
slot_ready s (Some (Level bit)) w e =
    pick_ind (AsReady s) (clashes s bit) _ _ (λ t. record { slre = refl; rbf = refl })
    (λ t. acted_ready s (Level bit) (on-level s.core bit _ e))
slot_ready s (Some Start) w e = acted_ready s Start (on-start s.core _ e)
slot_ready s (Some Idle) w e = acted_ready s Idle (on-idle s.core e)
slot_ready s None w e = record { slre = refl; rbf = refl }

-- While a unit is locked, no word makes it locked to another than the holder: demand 3 rests on it.
use mathlib.Core.Bool.{Bool, true, false, not, ◌&&◌, ◌||◌, beq}
use mathlib.Core.Logic.{◌⊎◌, inl, inr, ⊎_elim}
use mathlib.Core.Path.{◌≡◌, refl, sym, ap, ap₂, ◌∙◌, subst}
use mathlib.Core.List.{List, [], ◌∷◌}
use Prim.Native.Nat.{ℕ, zero, suc, ◌/◌, ◌%◌, ◌≤◌, ◌<◌}
use native.Mathlib.Omega.{arith}
use borrow.Author.Tests.{eqb-true, eqb-false, ltb-true, ltb-false}
use lib.Dec.{T, eqb, ltb}
use lib.ListN.{length, take}
use Rattle.line.specs.Parity.{parity_holds}
use Rattle.line.specs.Slot.{Class, slot, stray, host, class_of, kind_of}
use Rattle.line.specs.declared.slot.Slot.{Slot}
use Rattle.line.specs.declared.slot.Slot.TheVariants.{Level, Start, Idle}
use Rattle.line.proofs.Either.{either}
use Rattle.place.specs.Frame.{begun_of, done_of, next_of, shifted_of, to_field, with_length}
use Rattle.place.specs.Slaves.{accepted_of, control_of, open_to, stranger_of, writes_of}
use Rattle.place.specs.Masters.{clash_of, contested_of, lost_of}
use Rattle.place.specs.Set.{frame·byte}
use Rattle.place.specs.Step as step
use Rattle.place.specs.Step.{moved}
use Rattle.place.specs.declared.Event.{Event}
use Rattle.place.specs.declared.Event.TheVariants.{Nothing as Quiet, ControlAcked}
use Rattle.place.specs.declared.Event.TheVariants.{LengthAcked}
use Rattle.place.specs.declared.Event.TheVariants.{Aborted}
use Rattle.place.specs.declared.Field.{Field}
use Rattle.place.specs.declared.Field.TheVariants.{Broadcast, Master, Slave, Control, Length, Data}
use Rattle.place.specs.declared.Frame.{Frame}
use Rattle.place.specs.declared.Moved.{Moved}
use Rattle.place.specs.declared.Place.{Place}
use Rattle.place.specs.declared.Place.TheVariants.{Waiting, In}
use Rattle.place.specs.declared.View.{View}
use Rattle.isolation.specs.Runs.{run}
use Rattle.rules.specs.Machine.{unit, waiting}
use Rattle.rules.specs.Set.{core·frame, core·idle}
use Rattle.rules.specs.State.{State, is_empty, seen_of, view_of}
use Rattle.rules.specs.Endings.{acted, cut_at, cut_of, data_ended, draws, ended_of, frees, left_of, length_ended}
use Rattle.rules.specs.Endings.{lock_after}
use Rattle.rules.specs.Endings.{part_ended, reception_ended, request_ended, sending_ended, slave_ended, ties}
use Rattle.rules.specs.Slots.{begun, byte_drawn, counted, last_acked, length_drawn, next_drawn, on_addressed}
use Rattle.rules.specs.Slots.{on_byte_acked}
use Rattle.rules.specs.Slots.{on_control_acked, on_event, on_idle, on_length_acked, on_level, on_lost, on_moved, on_start}
use Rattle.rules.specs.Slots.{reception_begun, sending_begun, wanted, with_byte, with_code, with_count}
use Rattle.rules.specs.Step.{acted_on, clashes, slot_on, step_as, step_of, told_on}
use Rattle.rules.specs.Registers as registers
use Rattle.rules.proofs.Looked.{unless_ind}
use Rattle.rules.specs.Registers.{Told, wrote, restarted, gave, denied, told_of}
use Rattle.rules.specs.declared.state.Act.{Act}
use Rattle.rules.specs.declared.state.Act.TheVariants.{Nothing, Take}
use Rattle.rules.specs.declared.state.Acted.{Acted}
use Rattle.rules.specs.declared.state.Core.{Core}
use Rattle.rules.specs.declared.state.Registers.{Registers}
use Rattle.rules.specs.declared.state.Seen.{Seen}
use Rattle.rules.proofs.Calm.{pick_ind, Harmless, harmless_ties}
use Rattle.rules.proofs.Strangers.{accepted_open, judged_harmless}

-- whose frame it may be once the control is judged: the unit's own as master, one that is harmless, or the holder's
abbrev Bound : ℕ → Frame → Type 0
Bound h f = (f.leads ≡ true) ⊎ (Harmless f ⊎ (f.master ≡ h))

abbrev TiedAt : ℕ → Place → Frame → Type 0
TiedAt h Waiting f = Unit {0}
TiedAt h (In Broadcast n) f = Unit {0}
TiedAt h (In Master n) f = Unit {0}
TiedAt h (In Slave n) f = Unit {0}
TiedAt h (In Control n) f = 4 < n → Bound h f
TiedAt h (In Length n) f = Bound h f
TiedAt h (In Data n) f = Bound h f

unfoldable pub Tied : ℕ → Frame → Type 0
Tied h f = TiedAt h f.place f

-- where it is locked, the holder is h
abbrev Fast : ℕ → Registers → Type 0
Fast h r = r.locked ≡ true → r.holder ≡ h

record Ok (h : ℕ) (a : Acted) : Type 0 where
  fast : Fast h a.core.regs
  tied : Tied h a.core.frame

-- ---- ends

module _ (h : ℕ) (c : Core) (o : c.regs.holder ≡ h) where
  request_fast : (whole : Bool) → Fast h (request_ended c whole).core.regs
  unfolding request_ended
  request_fast whole =
      pick_ind (λ (a : Acted). Fast h a.core.regs) (writes_of c.regs.control) _ _ (λ t l. o) (λ t l. o)

  length_fast : Fast h (length_ended c).core.regs
  unfolding length_ended sending_ended
  length_fast = pick_ind (λ (a : Acted). Fast h a.core.regs) (draws c.frame) _ _ (λ t l. o) (λ t l. o)

  lock_fast : (whole : Bool) → c.frame.leads ≡ false → Bound h c.frame
      → Fast h (lock_after c.frame whole c.regs)
  unfolding lock_after
  lock_fast whole f b =
      pick_ind (Fast h) (ties c.frame) _ _
      (λ t. pick_ind (Fast h) whole _ _ (λ u l. absurd (subst T (sym l) tt)) (λ u l. holder t))
      (λ t. pick_ind (Fast h) (frees c.frame whole) _ _
      (λ u l. absurd (subst T (sym l) tt))
      (λ u l. o))
    where
      holder : ties c.frame ≡ true → c.frame.master ≡ h
      holder t =
          ⊎_elim (λ l. absurd (subst T (sym l ∙ f) tt))
          (λ y. ⊎_elim (λ s. absurd (subst T (sym t ∙ harmless_ties s) tt)) (λ m. m) y) b

part_fast : (h : ℕ) (c : Core) (whole : Bool) → Fast h c.regs → Fast h (part_ended c whole).core.regs
unfolding part_ended sending_ended reception_ended
part_fast h c whole f =
    pick_ind (λ (a : Acted). Fast h a.core.regs) (draws c.frame) _ _ (λ t. f)
    (λ t. pick_ind (λ (a : Acted). Fast h a.core.regs) c.frame.sends _ _ (λ u. f) (λ u. f))

ended_fast : (h : ℕ) (c : Core) (whole : Bool) → c.regs.holder ≡ h → Tied h c.frame
    → Fast h (ended_of c whole).core.regs
unfolding ended_of data_ended Tied
ended_fast h c whole o t =
    pick_ind (λ (a : Acted). Fast h a.core.regs) c.frame.leads _ _ (λ l. request_fast h c o whole)
    (λ l. go c.frame.place l t)
  where
    go : (p : Place) → c.frame.leads ≡ false → TiedAt h p c.frame → Fast h (slave_ended p c whole).core.regs
    go Waiting l t = λ k. o
    go (In Broadcast n) l t = λ k. o
    go (In Master n) l t = λ k. o
    go (In Slave n) l t = λ k. o
    go (In Control n) l t = λ k. o
    go (In Length n) l t = length_fast h c o
    go (In Data n) l t = part_fast h _ whole (lock_fast h c o whole l t)

cut_ok : (h : ℕ) (c : Core) → c.regs.holder ≡ h → Tied h c.frame → Ok h (cut_of c)
unfolding cut_of left_of done_of Tied
cut_ok h c o t = go c.frame.place refl
  where
    go : (p : Place) → c.frame.place ≡ p → Ok h (cut_at p c)
    go Waiting e = record { fast = λ k. o; tied = t }
    go (In field n) e = record { fast = ended_fast h c false o t; tied = tt }

-- ---- what leaves lock, lead, master, direction and control of a frame as they are

bound_as : (h : ℕ) (f g : Frame) → g.leads ≡ f.leads → g.master ≡ f.master → g.sends ≡ f.sends
    → g.control ≡ f.control
    → Bound h f → Bound h g
bound_as h f g l m s k b =
    ⊎_elim (λ x. inl (l ∙ x))
    (λ y. ⊎_elim
    (λ x. inr (inl (record {
      follows = l ∙ x.follows;
      sends = s ∙ x.sends;
      open_control = ap open_to k
          ∙ x.open_control;
    })))
    (λ x. inr (inr (m ∙ x))) y)
    b

tied_as : (h : ℕ) (f g : Frame) → g.place ≡ f.place → (Bound h f → Bound h g) → Tied h f → Tied h g
unfolding Tied
tied_as h f g e b t = subst (λ (p : Place). TiedAt h p g) (sym e) (go f.place t)
  where
    go : (p : Place) → TiedAt h p f → TiedAt h p g
    go Waiting t = tt
    go (In Broadcast n) t = tt
    go (In Master n) t = tt
    go (In Slave n) t = tt
    go (In Control n) t = λ l. b (t l)
    go (In Length n) t = b t
    go (In Data n) t = b t

-- a unit with the lock h's in a frame that it may be in
record Good (h : ℕ) (c : Core) : Type 0 where
  holder : c.regs.holder ≡ h
  tied : Tied h c.frame

module _ (h : ℕ) (c : Core) (g : Good h c) where
  good_ok : (x : Act) → Ok h (acted x c)
  good_ok x = record { fast = λ k. g.holder; tied = g.tied }

  good_code : (n : ℕ) → Good h (with_code c n)
  unfolding with_code
  good_code n =
      pick_ind (Good h) c.frame.leads _ _ (λ t. record { holder = g.holder; tied = g.tied })
      (λ t. record { holder = g.holder; tied = g.tied })

  good_count : (n : ℕ) → Good h (with_count c n)
  unfolding with_count
  good_count n =
      pick_ind (Good h) c.frame.leads _ _ (λ t. record { holder = g.holder; tied = g.tied })
      (λ t. record { holder = g.holder; tied = g.tied })

  good_begun : Good h (sending_begun c)
  unfolding sending_begun
  good_begun = pick_ind (Good h) c.frame.leads _ _ (λ t. g) (λ t. record { holder = g.holder; tied = g.tied })

  good_byte : (byte : ℕ) → Good h (with_byte c byte)
  good_byte byte =
      record {
        holder = g.holder;
        tied = tied_as h c.frame (frame·byte byte c.frame) refl
            (bound_as h c.frame (frame·byte byte c.frame) refl refl refl refl) g.tied;
      }

  good_length : (byte : ℕ) → Good h (core·frame (with_length c.frame byte) c)
  unfolding with_length
  good_length byte =
      record {
        holder = g.holder;
        tied = tied_as h c.frame (with_length c.frame byte) refl
            (bound_as h c.frame (with_length c.frame byte) refl refl refl refl) g.tied;
      }

-- ---- the events

module _ (h : ℕ) (c : Core) (g : Good h c) (seen : Seen) where
  drawn_ok : Ok h (byte_drawn c seen)
  unfolding byte_drawn
  drawn_ok =
      pick_ind (λ (d : Core). Ok h (acted Take d)) (wanted c.frame seen) _ _
      (λ t. good_ok h _ (good_code h _ (good_byte h c g seen.front) 1) Take)
      (λ t. good_ok h _ (good_byte h c g seen.front) Take)

  control_acked : Ok h (on_control_acked c seen)
  unfolding on_control_acked length_drawn
  control_acked =
      pick_ind (Ok h) (draws c.frame) _ _
      (λ t. good_ok h _ (good_length h (sending_begun c) (good_begun h c g) seen.front) Take)
      (λ t. pick_ind (Ok h) c.frame.sends _ _ (λ u. good_ok h _ (good_length h c g 1) Nothing)
      (λ u. good_ok h c g Nothing))

  length_acked : Ok h (on_length_acked c seen)
  unfolding on_length_acked reception_begun
  length_acked =
      pick_ind (Ok h) (draws c.frame) _ _ (λ t. drawn_ok)
      (λ t. pick_ind (Ok h) c.frame.sends _ _ (λ u. good_ok h _ (good_byte h c g _) Nothing)
      (λ u. good_ok h _ (good_count h _ (good_code h c g _) 3) _))

  byte_acked : (byte : ℕ) → Ok h (on_byte_acked c byte seen)
  unfolding on_byte_acked next_drawn counted
  byte_acked byte =
      pick_ind (Ok h) (draws c.frame) _ _
      (λ t. pick_ind (Ok h) (eqb seen.waiting 0) _ _ (λ u. cut_ok h c g.holder g.tied) (λ u. drawn_ok))
      (λ t. pick_ind (Ok h) c.frame.sends _ _ (λ u. good_ok h c g Nothing)
      (λ u. good_ok h _ (good_count h c g _) _))

  last_fast : (byte : ℕ) (whole : Bool) → Fast h (last_acked c byte whole).core.regs
  unfolding last_acked counted
  last_fast byte whole =
      pick_ind (λ (a : Acted). Fast h a.core.regs) c.frame.sends _ _
      (λ t. ended_fast h c whole g.holder g.tied)
      (λ t. let d = good_count h c g _ in ended_fast h _ whole d.holder d.tied)

  lost_ok : Ok h (on_lost c)
  unfolding on_lost request_ended
  lost_ok =
      pick_ind (Ok h) (ltb c.regs.losses c.regs.retries) _ _
      (λ t. record { fast = λ k. g.holder; tied = g.tied })
      (λ t. pick_ind (Ok h) (writes_of c.regs.control) _ _ (λ u. record { fast = λ k. g.holder; tied = g.tied })
      (λ u. record { fast = λ k. g.holder; tied = g.tied }))

  addressed_ok : Ok h (acted Nothing (on_addressed c))
  unfolding on_addressed
  addressed_ok =
      pick_ind (λ (d : Core). Ok h (acted Nothing d)) (c.frame.leads && writes_of c.regs.control) _ _
      (λ t. record { fast = λ k. g.holder; tied = g.tied }) (λ t. good_ok h c g Nothing)

-- ---- a level

module _ (h : ℕ) (c : Core) (seen : Seen) (g : Good h c) where
  Leaves : Moved → Type 0
  Leaves m = Ok h (on_moved c m seen)

  with_frame : (f : Frame) → Tied h f → Good h (core·frame f c)
  with_frame f t = record { holder = g.holder; tied = t }

  quiet : (f : Frame) → Tied h f → Leaves (moved Quiet f)
  unfolding Leaves on_event
  quiet f t = good_ok h _ (with_frame f t) Nothing

  aborted : (f : Frame) → Leaves (moved Aborted (done_of f))
  unfolding Leaves on_event left_of done_of Tied
  aborted f = record { fast = ended_fast h c false g.holder g.tied; tied = tt }

  gone_on : (f : Frame) (field : Field) (n : ℕ) (goes : Bool) → (goes ≡ true → Tied h (next_of f field n))
      → Leaves (step.go_on f field n goes)
  unfolding step.go_on
  gone_on f field n goes t = pick_ind Leaves goes _ _ (λ y. quiet (next_of f field n) (t y)) (λ y. aborted f)

  acked_ok : (e : Event) (f : Frame) (acked : Bool) (field : Field) → Leaves (moved e (to_field f field))
      → Leaves (step.after_ack f acked field e)
  unfolding step.after_ack
  acked_ok e f acked field y = pick_ind Leaves acked _ _ (λ t. y) (λ t. aborted f)

  on_broadcast : (f : Frame) (b : Bool) → Leaves (step.at_broadcast f b)
  unfolding step.at_broadcast to_field Tied
  on_broadcast f b = quiet _ tt

  on_master : (f : Frame) (n : ℕ) (b : Bool) → Leaves (step.at_master f n b)
  unfolding step.at_master step.master_of shifted_of next_of to_field Tied Leaves on_event
  on_master f n b =
      pick_ind Leaves (ltb n 12) _ _ (λ t. quiet _ tt)
      (λ t. addressed_ok h _ (with_frame (step.master_of f (parity_holds f.shift b)) tt) seen)

  on_slave : (f : Frame) (n : ℕ) (b : Bool) (own : ℕ) → Leaves (step.at_slave f n b own)
  unfolding step.at_slave step.slave_judged shifted_of next_of to_field Tied
  on_slave f n b own =
      pick_ind Leaves (ltb n 12) _ _ (λ t. quiet _ tt)
      (λ t. pick_ind Leaves (eqb n 12) _ _ (λ y. gone_on _ Slave n _ (λ z. tt))
      (λ y. acked_ok Quiet f (step.header_ack f b) Control (quiet (to_field f Control) (λ l. absurd (omega arith)))))

  -- P of the control: who goes on is the unit's own, harmless, or the holder's
  judged_bound : (v : View) → v.locked ≡ true → v.holder ≡ h → (f : Frame) (ack : Bool) (control : ℕ) (held : Bool)
      → ack ≡ (held && accepted_of (control_of control (stranger_of v f.master) v.strq v.ready v.locked)
      f.broadcast)
      → (f.leads || ack) ≡ true → Bound h (step.with_control f control ack (beq f.leads (writes_of control)))
  unfolding step.with_control stranger_of
  judged_bound v l o f ack control held a goes =
      ⊎_elim (λ x. inl x)
      (λ x. ⊎_elim
      (λ y. inr (inr (sym (eqb-true h f.master (ap (λ (k : ℕ). eqb k f.master) (sym o) ∙ y)))))
      (λ y. inr (inl (judged_harmless f control ack x
      (accepted_open control (stranger_of v f.master) v.strq v.ready v.locked held f.broadcast
      (ap₂ (λ (p q : Bool). p && not q) l y) (sym a ∙ subst
      (λ (leads : Bool). (leads || ack) ≡ true) x goes)))))
      (either (eqb v.holder f.master)))
      (either f.leads)

  on_control : (v : View) → v.locked ≡ true → v.holder ≡ h → (f : Frame) (n : ℕ) (b : Bool) → (4 < n → Bound h f)
      → Leaves (step.at_control f n b v)
  unfolding step.at_control step.control_judged shifted_of next_of to_field Tied Leaves on_event
  on_control v l o f n b t =
      pick_ind Leaves (ltb n 4) _ _ (λ y. quiet _ (λ past. absurd (omega (arith, ltb-true n 4 y))))
      (λ y. pick_ind Leaves (eqb n 4) _ _
      (λ z. gone_on _ Control n _
      (λ goes past. bound_as h _ _ refl refl refl refl
      (judged_bound v l o f _ (f.shift % 16) (parity_holds f.shift b) refl goes)))
      (λ z. acked_ok ControlAcked f (step.header_ack f b) Length
      (control_acked h _ (with_frame (to_field f Length)
      (bound_as h f (to_field f Length) refl refl refl refl
      (t (omega (arith, ltb-false n 4 y, eqb-false n 4 z))))) seen)))

  on_length : (f : Frame) (n : ℕ) (b : Bool) → Bound h f → Leaves (step.at_length f n b)
  unfolding step.at_length step.length_judged step.with_ack with_length shifted_of next_of to_field Tied Leaves on_event
  on_length f n b t =
      pick_ind Leaves (ltb n 8) _ _ (λ y. quiet _ (bound_as h f _ refl refl refl refl t))
      (λ y. pick_ind Leaves (eqb n 8) _ _
      (λ z. pick_ind Leaves f.sends _ _ (λ u. gone_on _ Length n _ (λ w. bound_as h f _ refl refl refl refl t))
      (λ u. gone_on _ Length n _ (λ w. bound_as h f _ refl refl refl refl t)))
      (λ z. acked_ok LengthAcked f (step.text_ack f b) Data
      (length_acked h _ (with_frame (to_field f Data) (bound_as h f (to_field f Data) refl refl refl refl t))
      seen)))

  last_ok : (byte : ℕ) (whole : Bool) (f : Frame) → Tied h f → Ok h (left_of (last_acked c byte whole) f)
  unfolding left_of
  last_ok byte whole f t = record { fast = last_fast h c g seen byte whole; tied = t }

  on_data : (f : Frame) (n : ℕ) (b : Bool) → Bound h f → Leaves (step.at_data f n b)
  unfolding step.at_data step.data_judged step.data_acked step.ends_of step.again_of step.with_ack step.acked_of
      step.counted_of
      shifted_of next_of to_field done_of Tied Leaves on_event
  on_data f n b t =
      pick_ind Leaves (ltb n 8) _ _ (λ y. quiet _ (bound_as h f _ refl refl refl refl t))
      (λ y. pick_ind Leaves (eqb n 8) _ _
      (λ z. pick_ind Leaves f.sends _ _ (λ u. gone_on _ Data n _ (λ w. bound_as h f _ refl refl refl refl t))
      (λ u. gone_on _ Data n _ (λ w. bound_as h f _ refl refl refl refl t)))
      (λ z. pick_ind Leaves (step.text_ack f b) _ _
      (λ u. pick_ind Leaves (step.whole_of f) _ _ (λ w. last_ok _ true _ tt)
      (λ w. pick_ind Leaves (step.last_of f) _ _ (λ q. last_ok _ false _ tt)
      (λ q. byte_acked h _ (with_frame (to_field (step.acked_of (step.counted_of f)) Data)
      (bound_as h f _ refl refl refl refl t)) seen _)))
      (λ u. pick_ind Leaves (step.last_of f) _ _ (λ w. aborted (step.counted_of f))
      (λ w. quiet _ (bound_as h f _ refl refl refl refl t)))))

  on_field : (v : View) → v.locked ≡ true → v.holder ≡ h → (f : Frame) (field : Field) (n : ℕ) (b : Bool)
      → TiedAt h (In field n) f
      → Leaves (step.at_field f field n b v)
  unfolding step.at_field
  on_field v l o f Broadcast n b t = on_broadcast f b
  on_field v l o f Master n b t = on_master f n b
  on_field v l o f Slave n b t = on_slave f n b v.own
  on_field v l o f Control n b t = on_control v l o f n b t
  on_field v l o f Length n b t = on_length f n b t
  on_field v l o f Data n b t = on_data f n b t

  -- a contest is lost before the slave address: the frame that goes on is nobody's yet
  lost_tied : (v : View) (f : Frame) (field : Field) (n : ℕ) (b : Bool) → contested_of field n ≡ true
      → Tied h (step.at_field f field n b v).frame
  unfolding contested_of step.at_field step.at_broadcast step.at_master step.master_of shifted_of next_of to_field Tied
  lost_tied v f Broadcast n b e = tt
  lost_tied v f Master n b e =
      pick_ind (λ (m : Moved). TiedAt h m.frame.place m.frame) (ltb n 12) _ _ (λ y. tt) (λ y. tt)
  lost_tied v f Slave n b e = absurd (subst T (sym e) tt)
  lost_tied v f Control n b e = absurd (subst T (sym e) tt)
  lost_tied v f Length n b e = absurd (subst T (sym e) tt)
  lost_tied v f Data n b e = absurd (subst T (sym e) tt)

  on_place : (v : View) → v.locked ≡ true → v.holder ≡ h → (f : Frame) (p : Place) (b : Bool) → f.place ≡ p
      → TiedAt h p f
      → Leaves (step.at_place f p b v)
  unfolding step.in_field step.overruled_of Leaves on_event Tied
  on_place v l o f Waiting b e t = quiet f (subst (λ (p : Place). TiedAt h p f) (sym e) tt)
  on_place v l o f (In field n) b e t =
      pick_ind Leaves (clash_of f field n b v) _ _
      (λ y. pick_ind Leaves (contested_of field n) _ _
      (λ z. lost_ok h _ (with_frame _ (lost_tied v (lost_of f) field n b z)) seen) (λ z. aborted f))
      (λ y. on_field v l o f field n b t)

-- ---- any word

-- a state whose lock, if it is locked, names h, in a frame that it may be in
pub record Bonded (h : ℕ) (s : State) : Type 0 where
  pub fast : s.core.regs.locked ≡ true → s.core.regs.holder ≡ h
  pub tied : Tied h s.core.frame

-- one that waits is in no frame
pub waiting_bonded : (h : ℕ) (s : State) → waiting s → s.core.regs.holder ≡ h → Bonded h s
unfolding Tied
waiting_bonded h s w o =
    record { fast = λ l. o; tied = subst (λ (p : Place). TiedAt h p s.core.frame) (sym w) tt }

module _ (h : ℕ) (s : State) (bond : Bonded h s) (locked : s.core.regs.locked ≡ true) where
  named : s.core.regs.holder ≡ h
  named = bond.fast locked

  acted_bonded : (a : Acted) → Ok h a → Bonded h (acted_on s a)
  acted_bonded a ok = record { fast = ok.fast; tied = ok.tied }

  level_ok : (b : Bool) → Ok h (on_level s.core b (seen_of s.tbf s.rbf))
  unfolding on_level step.level_of Leaves Tied
  level_ok b =
      let seen = seen_of s.tbf s.rbf in
      on_place h (core·idle false s.core) seen (record { holder = named; tied = bond.tied })
      (view_of s.core.regs seen.clear) locked named s.core.frame s.core.frame.place b refl
      bond.tied

  slot_bonded : (k : Slot) → Bonded h (slot_on s k)
  unfolding slot_on on_start begun on_idle begun_of Tied
  slot_bonded (Level b) =
      pick_ind (Bonded h) (clashes s b) _ _ (λ t. bond) (λ t. acted_bonded _ (level_ok b))
  slot_bonded Start = record { fast = (cut_ok h s.core named bond.tied).fast; tied = tt }
  slot_bonded Idle =
      let ok = cut_ok h s.core named bond.tied in
      record { fast = ok.fast; tied = ok.tied }

-- ---- host words leave the lock as it is, or reset all

record SameLock (r q : Registers) : Type 0 where
  locked : q.locked ≡ r.locked
  holder : q.holder ≡ r.holder

unmoved : (r : Registers) → SameLock r r
unmoved r = record { locked = refl; holder = refl }

commanded_lock : (r : Registers) (v : ℕ) → SameLock r (registers.commanded r v)
unfolding registers.commanded registers.requested registers.lor_copied
commanded_lock r v =
    pick_ind (SameLock r) (eqb v 0x08) _ _ (λ t. record { locked = refl; holder = refl })
    (λ t. pick_ind (SameLock r) (eqb v 0x0B) _ _ (λ u. record { locked = refl; holder = refl })
    (λ u. pick_ind (SameLock r) (eqb v 0x0F) _ _ (λ w. record { locked = refl; holder = refl })
    (λ w. pick_ind (SameLock r) r.locked _ _ (λ x. record { locked = refl; holder = refl })
    (λ x. record { locked = refl; holder = refl }))))

written_lock : (r : Registers) (register v : ℕ) → SameLock r (registers.written r register v)
unfolding registers.written registers.uar1_written registers.mcr_written
written_lock r register v =
    pick_ind (SameLock r) (eqb register 0x0) _ _
    (λ t. pick_ind (SameLock r) (eqb v 0x10) _ _ (λ u. record { locked = refl; holder = refl }) (λ u. unmoved r))
    (λ t. pick_ind (SameLock r) (eqb register 0x1) _ _ (λ u. commanded_lock r v)
    (λ u. pick_ind (SameLock r) (eqb register 0x2) _ _ (λ w. record { locked = refl; holder = refl })
    (λ w. pick_ind (SameLock r) (eqb register 0x3) _ _ (λ x. record { locked = refl; holder = refl })
    (λ x. pick_ind (SameLock r) (eqb register 0x4) _ _ (λ y. record { locked = refl; holder = refl })
    (λ y. pick_ind (SameLock r) (eqb register 0x5) _ _ (λ z. record { locked = refl; holder = refl })
    (λ z. record { locked = refl; holder = refl }))))))

abbrev Tells : Registers → Told → Type 0
Tells r (wrote q tbf) = SameLock r q
Tells r restarted = Unit {0}
Tells r (gave rbf v) = Unit {0}
Tells r (denied n) = Unit {0}

told_lock : (r : Registers) (tbf rbf : List ℕ) (w : ℕ) → Tells r (told_of r tbf rbf w)
unfolding told_of registers.write_told registers.write_done registers.read_told
told_lock r tbf rbf w =
    pick_ind (Tells r) (eqb (kind_of w) 1) _ _
    (λ t. pick_ind (Tells r) (eqb (w / 256 % 65536) 0) _ _
    (λ u. unless_ind (Tells r) (registers.write_refusal r (length tbf) (registers.register_of w)
    (registers.value_of w)) _
    (pick_ind (Tells r) (eqb (registers.register_of w) 0xE) _ _ (λ y. unmoved r)
    (λ y. pick_ind (Tells r) (eqb (registers.register_of w) 0x0 && eqb (registers.value_of w) 0x08) _ _ (λ z. tt)
    (λ z. written_lock r (registers.register_of w) (registers.value_of w))))
    (λ x. tt))
    (λ u. tt))
    (λ t. pick_ind (Tells r) (eqb (kind_of w) 2) _ _
    (λ u. pick_ind (Tells r) (eqb (w % 0x0100_0000) 0) _ _
    (λ x. unless_ind (Tells r) (registers.read_refusal (registers.register_of w) (is_empty rbf)) _
    (pick_ind (Tells r) (eqb (registers.register_of w) 0xE) _ _ (λ z. tt) (λ z. tt)) (λ y. tt))
    (λ x. tt))
    (λ u. tt))

module _ (h : ℕ) (s : State) (bond : Bonded h s) (locked : s.core.regs.locked ≡ true) where
  told_bonded : (y : Told) → Tells s.core.regs y → Bonded h (told_on s y)
  unfolding Tied
  told_bonded (wrote r tbf) x = record { fast = λ l. x.holder ∙ named h s bond locked; tied = bond.tied }
  told_bonded restarted x = record { fast = λ l. absurd (subst T (sym l) tt); tied = tt }
  told_bonded (gave rbf v) x = record { fast = bond.fast; tied = bond.tied }
  told_bonded (denied n) x = bond

  word_bonded : (w : ℕ) (k : Class) → Bonded h (step_as k s w)
  word_bonded w (slot c) = slot_bonded h s bond locked c
  word_bonded w stray = bond
  word_bonded w host = told_bonded (told_of s.core.regs s.tbf s.rbf w)
      (told_lock s.core.regs s.tbf s.rbf w)

  pub step_bonded : (w : ℕ) → Bonded h (step_of s w)
  unfolding step_of
  step_bonded w = word_bonded w (class_of w)

-- ---- a list of words

bonded_run : (h : ℕ) (A : List ℕ) (i : ℕ) (s : State) → Bonded h s
    → ((k : ℕ) → k < i → (run unit s (take k A)).core.regs.locked ≡ true) → Bonded h (run unit s (take i A))
unfolding run
bonded_run h A zero s bond l = bond
bonded_run h [] (suc i) s bond l = bond
bonded_run h (w ∷ A) (suc i) s bond l =
    bonded_run h A i (step_of s w) (step_bonded h s bond (l 0 (omega arith)) w) (λ k m. l (suc k) (omega arith))

-- from a unit that waits for a start, locked to h: as long as it is locked, whatever the words, it is locked to h
pub never_another : (h : ℕ) (s : State) (A : List ℕ) (i : ℕ) → waiting s → s.core.regs.holder ≡ h
    → ((k : ℕ) → k ≤ i → (run unit s (take k A)).core.regs.locked ≡ true)
    → (run unit s (take i A)).core.regs.holder ≡ h
never_another h s A i w o l =
    (bonded_run h A i s (waiting_bonded h s w o) (λ k m. l k (omega arith))).fast (l i (omega arith))

-- One level of a stranger's frame at a locked unit: nothing that lasts is changed, and the frame goes on as a
-- stranger's.
use mathlib.Core.Bool.{Bool, true, false, not, ◌&&◌, ◌||◌, beq}
use mathlib.Core.Path.{◌≡◌, refl, sym, ap, ap₂, ◌∙◌, subst}
use mathlib.Core.List.{List, ◌∷◌}
use Prim.Native.Nat.{ℕ, suc, ◌+◌, ◌-◌, ◌%◌, ◌^◌, ◌≤◌, ◌<◌}
use native.Mathlib.Nat.{mod-eq_of_lt, pow-suc}
use native.Mathlib.Omega.{arith}
use borrow.Author.Tests.{ltb-true, ltb-false, eqb-false}
use lib.Dec.{eqb, ltb}
use lib.Pow.{pow_mono}
use Rattle.line.specs.Choice.{pick, ◌▹◌}
use Rattle.line.specs.Parity.{parity_holds}
use Rattle.line.proofs.Levels.{bit_le}
use Rattle.place.specs.Frame.{done_of, next_of, shift_of, shifted_of, to_field, with_length}
use Rattle.place.specs.Slaves.{accepted_of, by_value, control_of, open_to, stranger_of, writes_of}
use Rattle.place.specs.Masters.{clash_of, own_bit}
use Rattle.place.specs.Drive.{drive_of}
use Rattle.place.specs.Set.{frame·broadcast, frame·byte}
use Rattle.place.specs.Step.{moved, go_on, after_ack, header_ack, text_ack, at_broadcast, master_of, at_master}
use Rattle.place.specs.Step.{with_slave}
use Rattle.place.specs.Step.{slave_judged, at_slave, with_control, control_judged, at_control, length_judged, at_length}
use Rattle.place.specs.Step.{data_judged, counted_of, acked_of, last_of, whole_of, ends_of, again_of, data_acked, at_data}
use Rattle.place.specs.Step.{at_field}
use Rattle.place.specs.Step.{in_field, at_place, level_of}
use Rattle.std.specs.Prelude.{None}
use Rattle.place.specs.declared.Event.TheVariants.{Nothing as Quiet, Addressed, ControlAcked, LengthAcked}
use Rattle.place.specs.declared.Event.TheVariants.{ByteAcked, Aborted}
use Rattle.place.specs.declared.Field.{Field}
use Rattle.place.specs.declared.Field.TheVariants.{Broadcast, Master, Slave, Control, Length, Data}
use Rattle.place.specs.declared.Frame.{Frame}
use Rattle.place.specs.declared.Moved.{Moved}
use Rattle.place.specs.declared.Place.{Place}
use Rattle.place.specs.declared.Place.TheVariants.{Waiting, In}
use Rattle.place.specs.declared.View.{View}
use Rattle.isolation.specs.Words.{from_master, spells}
use Rattle.rules.specs.Set.{core·frame}
use Rattle.rules.specs.Endings.{acted, ended_of, left_of}
use Rattle.rules.specs.Slots.{on_addressed, on_control_acked, on_length_acked, on_byte_acked, last_acked, on_event}
use Rattle.rules.specs.Slots.{on_moved}
use Rattle.rules.specs.declared.state.Act.TheVariants.{Nothing}
use Rattle.rules.specs.declared.state.Acted.{Acted}
use Rattle.rules.specs.declared.state.Core.{Core}
use Rattle.rules.specs.declared.state.Seen.{Seen}
use Rattle.rules.proofs.Calm.{pick_ind, pick_yes, pick_no, Harmless, CalmAt, Calm, calm_ended, open_reads}
use Rattle.rules.proofs.Calm.{harmless_draws}

-- what lasts is as it was, nothing is done to the buffers, and the frame is still another's than h
pub record Unmoved (h : ℕ) (c : Core) (a : Acted) (bs : List Bool) : Type 0 where
  pub act : a.act ≡ Nothing
  pub regs : a.core.regs ≡ c.regs
  pub calm : Calm h a.core.frame bs

module _ (h : ℕ) (c : Core) (seen : Seen) (bs : List Bool) where
  -- what is to be shown of the frame that a level leaves
  Leaves : Moved → Type 0
  Leaves m = Unmoved h c (on_moved c m seen) bs

  quiet : (f : Frame) → Calm h f bs → Leaves (moved Quiet f)
  unfolding Leaves on_event
  quiet f x = record { act = refl; regs = refl; calm = x }

  -- what comes out as a unit with the same registers and nothing done
  same : (a : Acted) (f : Frame) → a ≡ acted Nothing (core·frame f c) → Calm h f bs → Unmoved h c a bs
  same a f e x = subst (λ (z : Acted). Unmoved h c z bs) (sym e) (record { act = refl; regs = refl; calm = x })

  addressed : (f : Frame) → f.leads ≡ false → Calm h f bs → Leaves (moved Addressed f)
  unfolding Leaves on_event on_addressed
  addressed f l x =
      same _ f (ap (acted Nothing) (pick_no (f.leads && writes_of c.regs.control) _ _
      (ap (λ (b : Bool). b && writes_of c.regs.control) l))) x

  module _ (f : Frame) (s : Harmless f) where
    control_acked : Calm h (with_length f 1) bs → Leaves (moved ControlAcked f)
    unfolding Leaves on_event on_control_acked
    control_acked x = same _ (with_length f 1) (pick_no _ _ _ (harmless_draws s) ∙ pick_yes _ _ _ s.sends) x

    length_acked : ((byte : ℕ) → Calm h (frame·byte byte f) bs) → Leaves (moved LengthAcked f)
    unfolding Leaves on_event on_length_acked
    length_acked x = same _ (frame·byte _ f) (pick_no _ _ _ (harmless_draws s) ∙ pick_yes _ _ _ s.sends) (x _)

    byte_acked : Calm h f bs → Leaves (moved ByteAcked f)
    unfolding Leaves on_event on_byte_acked
    byte_acked x = same _ f (pick_no _ _ _ (harmless_draws s) ∙ pick_yes _ _ _ s.sends) x

  module _ (field : Field) (n : ℕ) (e : c.frame.place ≡ In field n) (b : Bool)
      (x : CalmAt h (In field n) c.frame (b ∷ bs)) where
    -- the unit's part ends
    ended : (whole : Bool) (f : Frame) → Calm h f bs → Unmoved h c (left_of (ended_of c whole) f) bs
    unfolding left_of
    ended whole f y =
        subst (λ (a : Acted). Unmoved h c (left_of a f) bs) (sym (calm_ended h field n c (b ∷ bs) whole e x))
        (record { act = refl; regs = refl; calm = y })

    aborted : (f : Frame) → Leaves (moved Aborted (done_of f))
    unfolding Leaves on_event done_of Calm
    aborted f = ended false (done_of f) tt

    -- after P: the A slot, or nothing more
    gone_on : (f : Frame) (goes : Bool) → (goes ≡ true → Calm h (next_of f field n) bs) → Leaves (go_on f field n goes)
    unfolding go_on
    gone_on f goes y = pick_ind Leaves goes _ _ (λ t. quiet (next_of f field n) (y t)) (λ t. aborted f)

    -- after A of a header field: the next field, or a NAK
    after_quiet : (f : Frame) (acked : Bool) (next : Field) → Calm h (to_field f next) bs
        → Leaves (after_ack f acked next Quiet)
    unfolding after_ack
    after_quiet f acked next y = pick_ind Leaves acked _ _ (λ t. quiet (to_field f next) y) (λ t. aborted f)

-- ---- the broadcast bit and the master address

-- the next level of the address is that level of the frame
spells_next : (h n x : ℕ) (b : Bool) (bs : List Bool) → n < 12 → x < 2 ^ n → spells h (12 - n) x (b ∷ bs) ≡ false
    → spells h (12 - (n % 16 + 1)) (shift_of x b) bs ≡ false
unfolding spells shift_of
spells_next h n x b bs l m s =
    let e : 12 - n ≡ suc (12 - (n % 16 + 1)) = omega arith in
    let y : x < 2048 = omega (arith, pow_mono {i = n} {j = 11} (omega arith)) in
    let z : x % 2048 ≡ x = mod-eq_of_lt y in
    rw z (rw e at s)

spells_all : (h n x : ℕ) (bs : List Bool) → n ≤ 12 → 12 ≤ n → spells h (12 - n) x bs ≡ false → eqb h x ≡ false
unfolding spells
spells_all h n x bs l m s =
    let e : 12 - n ≡ 0 = omega arith in
    rw e at s

shifted_lt : (n x : ℕ) (b : Bool) → n < 12 → x < 2 ^ n → shift_of x b < 2 ^ (n % 16 + 1)
unfolding shift_of
shifted_lt n x b l m =
    let e : n % 16 + 1 ≡ suc n = omega arith in
    let z : x % 2048 ≤ x = omega arith in
    rw e (omega (arith, pow-suc 2 n, bit_le b))

module _ (h : ℕ) (c : Core) (seen : Seen) (b : Bool) (bs : List Bool) (n : ℕ) where
  on_broadcast : CalmAt h (In Broadcast n) c.frame (b ∷ bs) → Leaves h c seen bs (at_broadcast c.frame b)
  unfolding at_broadcast to_field Calm from_master spells
  on_broadcast x =
      quiet h c seen bs (to_field (c.frame ▹ frame·broadcast (not b)) Master) (x.0, omega arith, omega arith, x.1)

  on_master : c.frame.place ≡ In Master n → CalmAt h (In Master n) c.frame (b ∷ bs)
      → Leaves h c seen bs (at_master c.frame n b)
  unfolding at_master shifted_of next_of master_of to_field Calm
  on_master e x =
      pick_ind (Leaves h c seen bs) (ltb n 12) _ _
      (λ t.
      let l = ltb-true n 12 t in
      quiet h c seen bs (shifted_of c.frame Master n b) (
        x.0,
        omega arith,
        shifted_lt n c.frame.shift b l x.2,
        spells_next h n c.frame.shift b bs l x.2
            x.3,
      ))
      (λ t.
      addressed h c seen bs (master_of c.frame (parity_holds c.frame.shift b)) x.0
      (x.0, spells_all h n c.frame.shift (b ∷ bs) x.1 (ltb-false n 12 t) x.3))

  on_slave : (own : ℕ) → c.frame.place ≡ In Slave n → CalmAt h (In Slave n) c.frame (b ∷ bs)
      → Leaves h c seen bs (at_slave c.frame n b own)
  unfolding at_slave slave_judged shifted_of next_of with_slave to_field Calm
  on_slave own e x =
      pick_ind (Leaves h c seen bs) (ltb n 12) _ _ (λ t. quiet h c seen bs (shifted_of c.frame Slave n b) x)
      (λ t. pick_ind (Leaves h c seen bs) (eqb n 12) _ _
      (λ y. gone_on h c seen bs Slave n e b x _ _ (λ z. x))
      (λ y. after_quiet h c seen bs Slave n e b x c.frame (header_ack c.frame b) Control
      (x.0, x.1, λ l. absurd (omega arith))))

-- ---- what is harmless stays so

harmless_to : {f : Frame} (field : Field) → Harmless f → Harmless (to_field f field)
unfolding to_field
harmless_to field s = record { follows = s.follows; sends = s.sends; open_control = s.open_control }

pub harmless_next : {f : Frame} (field : Field) (n : ℕ) → Harmless f → Harmless (next_of f field n)
unfolding next_of
harmless_next field n s = record { follows = s.follows; sends = s.sends; open_control = s.open_control }

harmless_shifted : {f : Frame} (field : Field) (n : ℕ) (b : Bool) → Harmless f → Harmless (shifted_of f field n b)
unfolding shifted_of next_of
harmless_shifted field n b s = record { follows = s.follows; sends = s.sends; open_control = s.open_control }

harmless_length : {f : Frame} → Harmless f → Harmless (with_length f 1)
unfolding with_length
harmless_length s = record { follows = s.follows; sends = s.sends; open_control = s.open_control }

harmless_byte : {f : Frame} (byte : ℕ) → Harmless f → Harmless (frame·byte byte f)
harmless_byte byte s = record { follows = s.follows; sends = s.sends; open_control = s.open_control }

harmless_counted : {f : Frame} → Harmless f → Harmless (counted_of f)
unfolding counted_of
harmless_counted s = record { follows = s.follows; sends = s.sends; open_control = s.open_control }

harmless_acked : {f : Frame} → Harmless f → Harmless (acked_of (counted_of f))
unfolding acked_of counted_of
harmless_acked s = record { follows = s.follows; sends = s.sends; open_control = s.open_control }

-- ---- control

-- a slave that accepts what is open to all sends
pub judged_harmless : (f : Frame) (control : ℕ) (ack : Bool) → f.leads ≡ false → open_to control ≡ true
    → Harmless (with_control f control ack (beq f.leads (writes_of control)))
unfolding with_control
judged_harmless f control ack l o = record {
  follows = l;
  sends = ap₂ beq l
      (open_reads control o);
  open_control = o;
}

-- "Locked, another master gets NAK for all but 0H, 4H, 5H": what a locked unit accepts of a stranger
pub accepted_open : (control : ℕ) (strange strq ready locked held broadcast : Bool) → strange ≡ true
    → (held && accepted_of (control_of control strange strq ready locked) broadcast) ≡ true → open_to control ≡ true
unfolding accepted_of control_of
accepted_open control strange strq ready locked held broadcast s e = go held (open_to control) (rw s at e)
  where
    go : (held free : Bool) → (held && accepted_of (pick (true && not free) None (by_value control strq ready locked))
        broadcast) ≡ true
        → free ≡ true
    go held true e = refl
    go true false e = e
    go false false e = e

module _ (h : ℕ) (c : Core) (seen : Seen) (b : Bool) (bs : List Bool) (n : ℕ) where
  stranger : (v : View) → v.locked ≡ true → v.holder ≡ h → eqb h c.frame.master ≡ false
      → stranger_of v c.frame.master ≡ true
  unfolding stranger_of
  stranger v l o m = rw (l, o, m)

  -- P of the control
  on_judged : (v : View) → v.locked ≡ true → v.holder ≡ h → c.frame.place ≡ In Control n
      → CalmAt h (In Control n) c.frame (b ∷ bs) → Leaves h c seen bs (control_judged c.frame n b v)
  unfolding control_judged next_of with_control Calm
  on_judged v l o e x =
      let f = c.frame in
      let control = f.shift % 16 in
      let strange = stranger_of v f.master in
      let ack = parity_holds f.shift b && accepted_of (control_of control strange v.strq v.ready v.locked)
      f.broadcast in
      gone_on h c seen bs Control n e b x (with_control f control ack (beq f.leads (writes_of control)))
      (f.leads || ack)
      (λ z.
      let goes : ack ≡ true = subst (λ (leads : Bool). (leads || ack) ≡ true) x.0 z in
      let open_control
      = accepted_open control strange v.strq v.ready v.locked (parity_holds f.shift b)
      f.broadcast (stranger v l o x.1) goes in
      (x.0, x.1, λ past. harmless_next Control n (judged_harmless f control ack x.0 open_control)))

  on_control : (v : View) → v.locked ≡ true → v.holder ≡ h → c.frame.place ≡ In Control n
      → CalmAt h (In Control n) c.frame (b ∷ bs) → Leaves h c seen bs (at_control c.frame n b v)
  unfolding at_control shifted_of next_of to_field after_ack Calm with_length
  on_control v l o e x =
      pick_ind (Leaves h c seen bs) (ltb n 4) _ _
      (λ t. quiet h c seen bs (shifted_of c.frame Control n b)
      (x.0, x.1, λ past. absurd (omega (arith, ltb-true n 4 t))))
      (λ t. pick_ind (Leaves h c seen bs) (eqb n 4) _ _ (λ y. on_judged v l o e x)
      (λ y. pick_ind (Leaves h c seen bs) (header_ack c.frame b) _ _
      (λ z.
      let s = harmless_to Length (x.2 (omega (arith, ltb-false n 4 t, eqb-false n 4 y))) in
      control_acked h c seen bs (to_field c.frame Length) s (harmless_length s))
      (λ z. aborted h c seen bs Control n e b x c.frame)))

-- ---- length and data

module _ (h : ℕ) (c : Core) (seen : Seen) (b : Bool) (bs : List Bool) (n : ℕ) (s : Harmless c.frame) where
  on_length : c.frame.place ≡ In Length n → Leaves h c seen bs (at_length c.frame n b)
  unfolding at_length length_judged shifted_of next_of to_field after_ack Calm
  on_length e =
      pick_ind (Leaves h c seen bs) (ltb n 8) _ _
      (λ t. quiet h c seen bs (shifted_of c.frame Length n b) (harmless_shifted Length n b s))
      (λ t. pick_ind (Leaves h c seen bs) (eqb n 8) _ _
      (λ y. subst (Leaves h c seen bs) (sym (pick_yes _ _ _ s.sends))
      (gone_on h c seen bs Length n e b s c.frame true (λ z. harmless_next Length n s)))
      (λ y. pick_ind (Leaves h c seen bs) (text_ack c.frame b) _ _
      (λ z. length_acked h c seen bs (to_field c.frame Data) (harmless_to Data s)
      (λ byte. harmless_byte byte (harmless_to Data s)))
      (λ z. aborted h c seen bs Length n e b s c.frame)))

  -- the last byte, or a byte in the last attempt
  on_last : c.frame.place ≡ In Data n → (whole : Bool) (f : Frame) → Calm h f bs
      → Unmoved h c (left_of (last_acked c (c.frame.shift % 256) whole) f) bs
  unfolding last_acked
  on_last e whole f y =
      subst (λ (a : Acted). Unmoved h c (left_of a f) bs) (sym (pick_yes _ _ _ s.sends))
      (ended h c seen bs Data n e b s whole f y)

  on_data : c.frame.place ≡ In Data n → Leaves h c seen bs (at_data c.frame n b)
  unfolding at_data data_judged data_acked ends_of again_of shifted_of next_of to_field done_of acked_of counted_of Calm Leaves
      on_event
  on_data e =
      pick_ind (Leaves h c seen bs) (ltb n 8) _ _
      (λ t. quiet h c seen bs (shifted_of c.frame Data n b) (harmless_shifted Data n b s))
      (λ t. pick_ind (Leaves h c seen bs) (eqb n 8) _ _
      (λ y. subst (Leaves h c seen bs) (sym (pick_yes _ _ _ s.sends))
      (gone_on h c seen bs Data n e b s c.frame true (λ z. harmless_next Data n s)))
      (λ y. pick_ind (Leaves h c seen bs) (text_ack c.frame b) _ _
      (λ z. pick_ind (Leaves h c seen bs) (whole_of c.frame) _ _
      (λ q. on_last e true (done_of (acked_of (counted_of c.frame))) tt)
      (λ q. pick_ind (Leaves h c seen bs) (last_of c.frame) _ _
      (λ r. on_last e false (done_of (acked_of (counted_of c.frame))) tt)
      (λ r. byte_acked h c seen bs (to_field (acked_of (counted_of c.frame)) Data)
      (harmless_to Data (harmless_acked s)) (harmless_to Data (harmless_acked s)))))
      (λ z. pick_ind (Leaves h c seen bs) (last_of c.frame) _ _
      (λ q. aborted h c seen bs Data n e b s (counted_of c.frame))
      (λ q. quiet h c seen bs (to_field (counted_of c.frame) Data) (harmless_to Data (harmless_counted s))))))

-- ---- any place

module _ (h : ℕ) (c : Core) (seen : Seen) (b : Bool) (bs : List Bool) (v : View) (l : v.locked ≡ true)
    (o : v.holder ≡ h) where
  on_field : (field : Field) (n : ℕ) → c.frame.place ≡ In field n → CalmAt h (In field n) c.frame (b ∷ bs)
      → Leaves h c seen bs (at_field c.frame field n b v)
  unfolding at_field
  on_field Broadcast n e x = on_broadcast h c seen b bs n x
  on_field Master n e x = on_master h c seen b bs n e x
  on_field Slave n e x = on_slave h c seen b bs n v.own e x
  on_field Control n e x = on_control h c seen b bs n v l o e x
  on_field Length n e x = on_length h c seen b bs n x e
  on_field Data n e x = on_data h c seen b bs n x e

  follows : (field : Field) (n : ℕ) → CalmAt h (In field n) c.frame (b ∷ bs) → c.frame.leads ≡ false
  follows Broadcast n x = x.0
  follows Master n x = x.0
  follows Slave n x = x.0
  follows Control n x = x.0
  follows Length n x = x.follows
  follows Data n x = x.follows

  -- who is no master in the frame compares nothing
  no_clash : (field : Field) (n : ℕ) → c.frame.leads ≡ false → clash_of c.frame field n b v ≡ false
  unfolding clash_of
  no_clash field n e = ap (λ (leads : Bool). leads && own_bit c.frame field n && drive_of c.frame v && not b) e

  on_place : (p : Place) → c.frame.place ≡ p → CalmAt h p c.frame (b ∷ bs)
      → Leaves h c seen bs (at_place c.frame p b v)
  unfolding in_field Calm
  on_place Waiting e x = quiet h c seen bs c.frame (subst (λ (p : Place). CalmAt h p c.frame bs) (sym e) tt)
  on_place (In field n) e x =
      subst (Leaves h c seen bs) (sym (pick_no (clash_of c.frame field n b v) _ _
      (no_clash field n (follows field n x)))) (on_field field n e x)

  pub on-level : Calm h c.frame (b ∷ bs) → Unmoved h c (on_moved c (level_of c.frame b v) seen) bs
  unfolding level_of Calm Leaves
  on-level x = on_place c.frame.place refl x

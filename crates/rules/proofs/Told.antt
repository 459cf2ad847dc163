-- Ticket 2, "A desk saw bit 1 at 0, wrote, and got NAK": the byte that a desk reads is the status as the data field
-- began, and its bit 1 is what the desk's write meets, until the host or a reception comes between.
use mathlib.Core.Bool.{Bool, true, false, false≢true, ◌&&◌, ◌||◌, and-false}
use mathlib.Core.List.{List}
use mathlib.Core.Logic.{◌⊎◌, inl, inr}
use mathlib.Core.Path.{◌≡◌, refl, sym, ap, ap₂, subst, ◌∙◌}
use Prim.Native.Nat.{ℕ, suc, ◌+◌, ◌*◌, ◌/◌, ◌%◌, ◌<◌}
use native.Mathlib.Omega.{arith}
use borrow.Author.Tests.{eqb-false, ltb-false}
use lib.Dec.{eqb, ltb}
use Rattle.line.specs.Choice.{bit_of, pick}
use Rattle.line.specs.Slot.{Class, host, class_of, slot_of}
use Rattle.place.specs.Drive.{drive_in, drive_of, sent_of}
use Rattle.place.specs.Frame.{done_of, next_of, shifted_of, to_field, width_of}
use Rattle.place.specs.Masters.{clash_of}
use Rattle.place.specs.Step.{acked_of, after_ack, again_of, at_data, at_field, at_length, at_place, counted_of, data_acked}
use Rattle.place.specs.Step.{data_judged, ends_of, go_on, heard_of, in_field, last_of, level_of, moved, text_ack, whole_of}
use Rattle.place.specs.declared.Event.TheVariants.{Nothing as Quiet, LengthAcked, ByteAcked, AllAcked, ShortAcked}
use Rattle.place.specs.declared.Event.TheVariants.{Aborted}
use Rattle.place.specs.declared.Field.TheVariants.{Length, Data}
use Rattle.place.specs.declared.Frame.{Frame}
use Rattle.place.specs.declared.Moved.{Moved}
use Rattle.place.specs.declared.Place.{Place}
use Rattle.place.specs.declared.Place.TheVariants.{In}
use Rattle.place.specs.declared.View.{View}
use Rattle.isolation.specs.Runs.{run}
use Rattle.rules.specs.Endings.{draws, left_of}
use Rattle.rules.specs.Machine.{unit}
use Rattle.rules.specs.Slots.{core_drive, on_byte_acked, on_event, on_length_acked, on_level}
use Rattle.rules.specs.Registers.{Told, wrote, restarted, gave, denied, told_of}
use Rattle.rules.specs.State.{State, is_empty, own_byte, reset, status_byte, view_of}
use Rattle.rules.specs.Step.{acted_on, clashes, next_drive, slot_on, step_as, step_of, told_on}
use Rattle.rules.proofs.Calm.{pick_ind, pick_no, pick_yes}
use Rattle.rules.proofs.Status.{WriteComes, after, closed, level_word, status_bits, write_answered}
use Rattle.rules.proofs.Undisturbed.{stays_ready, step_ready, undisturbed}

-- ---- the byte goes out

-- the unit is at a place of a frame in which it answers 0H or 6H
pub record SendsStatus (s : State) (p : Place) : Type 0 where
  pub place : s.core.frame.place ≡ p
  pub slave : s.core.frame.leads ≡ false
  pub sends : s.core.frame.sends ≡ true
  pub asked : (s.core.frame.control ≡ 0) ⊎ (s.core.frame.control ≡ 6)

-- no bytes of TBF are sent with these
own_bytes : (f : Frame) → f.leads ≡ false → (f.control ≡ 0) ⊎ (f.control ≡ 6) → draws f ≡ false
unfolding draws
own_bytes f l (inl e) = rw (l, e) (and-false f.sends)
own_bytes f l (inr e) = rw (l, e) (and-false f.sends)

module _ (s : State) (n : ℕ) (x : SendsStatus s (In Data n)) where
  abbrev h : Frame
  h = s.core.frame

  -- what is driven in each slot of the field
  pub byte_driven : next_drive s ≡ bit_of (sent_of 8 s.core.frame.byte n)
  unfolding next_drive core_drive drive_of drive_in
  byte_driven = rw (x.place, x.sends)

  Stays : Moved → Type 0
  Stays m = (after s m).core.frame.byte ≡ h.byte

  quiet : (f : Frame) → f.byte ≡ h.byte → Stays (moved Quiet f)
  unfolding Stays on_event
  quiet f e = e

  aborted : (f : Frame) → f.byte ≡ h.byte → Stays (moved Aborted f)
  unfolding Stays on_event left_of
  aborted f e = e

  all_acked : (f : Frame) → f.byte ≡ h.byte → Stays (moved AllAcked f)
  unfolding Stays on_event left_of
  all_acked f e = e

  short_acked : (f : Frame) → f.byte ≡ h.byte → Stays (moved ShortAcked f)
  unfolding Stays on_event left_of
  short_acked f e = e

  byte_acked : (f : Frame) → f.byte ≡ h.byte → draws f ≡ false → f.sends ≡ true → Stays (moved ByteAcked f)
  unfolding Stays on_event on_byte_acked
  byte_acked f e d q = rw (d, q) e

  on_data : (bit : Bool) → Stays (at_data h n bit)
  unfolding at_data data_judged data_acked ends_of again_of go_on acked_of counted_of to_field next_of shifted_of done_of
  on_data bit =
      pick_ind Stays (ltb n (width_of Data)) _ _ (λ t. quiet _ refl)
      (λ t. pick_ind Stays (eqb n (width_of Data)) _ _
      (λ u. pick_ind Stays h.sends _ _ (λ y. quiet _ refl) (λ y. absurd (false≢true (sym y ∙ x.sends))))
      (λ u. pick_ind Stays (text_ack h bit) _ _
      (λ y. pick_ind Stays (whole_of h) _ _ (λ z. all_acked _ refl)
      (λ z. pick_ind Stays (last_of h) _ _ (λ k. short_acked _ refl)
      (λ k. byte_acked _ refl (own_bytes _ x.slave x.asked) x.sends)))
      (λ y. pick_ind Stays (last_of h) _ _ (λ z. aborted _ refl) (λ z. quiet _ refl))))

  -- a level leaves the byte, a NAK too: "a repeated byte is an attempt"
  pub byte_stays : (bit : Bool) → (unit.step s (bit_of bit)).core.frame.byte ≡ s.core.frame.byte
  unfolding step_of slot_on on_level level_of in_field clash_of at_field Stays
  byte_stays bit =
      ap (λ (k : Class). (step_as k s (bit_of bit)).core.frame.byte) (level_word bit)
      ∙ pick_ind (λ (t : State). t.core.frame.byte ≡ h.byte) (clashes s bit) _ _ (λ t. refl)
      (λ t. ap (λ (m : Moved). (after s m).core.frame.byte)
      (ap (λ (p : Place). at_place h p bit (view_of s.core.regs (is_empty s.rbf))) x.place
      ∙ pick_no (clash_of h Data n bit (view_of s.core.regs (is_empty s.rbf))) _ _ (rw x.slave))
      ∙ on_data bit)

  -- and the unit goes on to the next slot of the field, up to the one of the ACK
  Goes : Moved → Type 0
  Goes m = SendsStatus (acted_on s (after s m)) (In Data (suc n))

  on : (f : Frame) → f.place ≡ In Data (suc n) → f.leads ≡ false → f.sends ≡ true → f.control ≡ h.control
      → Goes (moved Quiet f)
  unfolding Goes on_event
  on f p l q c = record { place = p; slave = l; sends = q; asked = rw c x.asked }

  next_slot : n < 9 → (bit : Bool) → Goes (at_data h n bit)
  unfolding at_data data_judged go_on next_of shifted_of
  next_slot l bit =
      let e : n % 16 + 1 ≡ suc n = omega arith in
      pick_ind Goes (ltb n (width_of Data)) _ _ (λ t. on _ (ap (In Data) e) x.slave x.sends refl)
      (λ t. pick_ind Goes (eqb n (width_of Data)) _ _
      (λ u. pick_ind Goes h.sends _ _ (λ y. on _ (ap (In Data) e) x.slave x.sends refl)
      (λ y. absurd (false≢true (sym y ∙ x.sends))))
      (λ u. absurd (omega (arith, ltb-false n 8 t, eqb-false n 8 u))))

  pub sends_on : n < 9 → (bit : Bool) → clashes s bit ≡ false
      → SendsStatus (unit.step s (bit_of bit)) (In Data (suc n))
  unfolding step_of slot_on on_level level_of in_field clash_of at_field Goes
  sends_on l bit free =
      let v = view_of s.core.regs (is_empty s.rbf) in
      subst (λ (t : State). SendsStatus t (In Data (suc n)))
      (sym (ap (λ (k : Class). step_as k s (bit_of bit)) (level_word bit) ∙ pick_no (clashes s bit) _ _ free
      ∙ ap (λ (m : Moved). acted_on s (after s m)) (ap (λ (p : Place). at_place h p bit v) x.place
      ∙ pick_no (clash_of h Data n bit v) _ _ (rw x.slave))))
      (next_slot l bit)

-- ---- the byte is fixed

-- an ACK is heard by whoever sends
acked : (f : Frame) → f.sends ≡ true → text_ack f false ≡ true
unfolding text_ack heard_of
acked f e = rw e (go f.broadcast)
  where
    go : (b : Bool) → ((b || true) || false) ≡ true
    go true = refl
    go false = refl

-- the master ACKs the length, and with that word the data field begins
module _ (s : State) (x : SendsStatus s (In Length 9)) where
  abbrev g : Frame
  g = s.core.frame

  begins : (v : View) → level_of g false v ≡ moved LengthAcked (to_field g Data)
  unfolding level_of in_field clash_of at_field at_length after_ack
  begins v =
      ap (λ (p : Place). at_place g p false v) x.place
      ∙ pick_no (clash_of g Length 9 false v) _ _ (rw x.slave)
      ∙ pick_yes (text_ack g false) _ _ (acked g x.sends)

  own_status : (g.control ≡ 0) ⊎ (g.control ≡ 6)
      → (after s (moved LengthAcked (to_field g Data))).core.frame.byte
      ≡ status_byte s.core.regs (is_empty s.rbf)
  unfolding on_event on_length_acked to_field draws own_byte
  own_status (inl e) = rw (x.slave, x.sends, e)
  own_status (inr e) = rw (x.slave, x.sends, e)

  -- the byte is the status of that moment
  pub status_told : (unit.step s 0).core.frame.byte ≡ status_byte s.core.regs (is_empty s.rbf)
  unfolding step_of slot_on clashes class_of slot_of on_level
  status_told =
      ap (λ (m : Moved). (after s m).core.frame.byte) (begins (view_of s.core.regs (is_empty s.rbf)))
      ∙ own_status x.asked

  first_slot : SendsStatus (acted_on s (after s (moved LengthAcked (to_field g Data)))) (In Data 0)
  unfolding on_event on_length_acked to_field
  first_slot =
      let own : draws (to_field g Data) ≡ false = own_bytes (to_field g Data) x.slave x.asked in
      record {
        place = rw (own, x.sends);
        slave = rw (own, x.sends) x.slave;
        sends = rw (own, x.sends);
        asked = rw (own, x.sends) x.asked;
      }

  -- the unit is then in its first slot
  pub sends_first : SendsStatus (unit.step s 0) (In Data 0)
  unfolding step_of slot_on clashes class_of slot_of on_level
  sends_first =
      subst (λ (m : Moved). SendsStatus (acted_on s (after s m)) (In Data 0))
      (sym (begins (view_of s.core.regs (is_empty s.rbf)))) first_slot

  -- and its bit 1 holds as long as the host leaves SLRE and RBF, and the unit receives nothing
  pub told_stays : (A : List ℕ) → undisturbed (unit.step s 0) A ≡ true
      → closed (run unit (unit.step s 0) A) ≡ (unit.step s 0).core.frame.byte / 2 % 2
  unfolding class_of slot_of
  told_stays A e =
      let t = run unit (unit.step s 0) A in
      let first = step_ready s 0 (rw (x.place, x.sends)) in
      let rest = stays_ready (unit.step s 0) A e in
      (status_bits t.core.regs (is_empty t.rbf)).bit_1
      ∙ ap₂ (λ (b : Bool) (bytes : List ℕ). pick (b && is_empty bytes) 0 1) (rest.slre ∙ first.slre)
      (rest.rbf ∙ first.rbf)
      ∙ sym (ap (λ (n : ℕ). n / 2 % 2) status_told ∙ (status_bits s.core.regs (is_empty s.rbf)).bit_1)

  -- so that a write that comes then is answered by what was told
  pub desk_served : (A : List ℕ) (bit : Bool) → undisturbed (unit.step s 0) A ≡ true
      → WriteComes (run unit (unit.step s 0) A) bit → (run unit (unit.step s 0) A).core.frame.broadcast ≡ false
      → unit.answer (run unit (unit.step s 0) A) (bit_of bit)
      ≡ 0x8000_0000 + (unit.step s 0).core.frame.byte / 2 % 2 * 256
  desk_served A bit e y single =
      write_answered (run unit (unit.step s 0) A) bit y single
      ∙ ap (λ (n : ℕ). 0x8000_0000 + n * 256) (told_stays A e)

-- ---- the host

-- a word of the host's leaves the frame as it is, the byte too, or resets the unit
pub frame_stays : (s : State) (w : ℕ) → class_of w ≡ host
    → ((unit.step s w).core.frame ≡ s.core.frame) ⊎ (unit.step s w ≡ reset)
unfolding step_of
frame_stays s w e = rw e (told (told_of s.core.regs s.tbf s.rbf w))
  where
    told : (y : Told) → ((told_on s y).core.frame ≡ s.core.frame) ⊎ (told_on s y ≡ reset)
    told (wrote r tbf) = inl refl
    told restarted = inr refl
    told (gave rbf v) = inl refl
    told (denied n) = inl refl

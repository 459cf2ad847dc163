-- The status byte, and the judgement of a write: bit 1 is what a write would meet of a master that the lock lets in.
use mathlib.Core.Bool.{Bool, true, false, not, ◌&&◌, ◌||◌, beq, and-false}
use mathlib.Core.Logic.{◌⊎◌, inl, inr}
use mathlib.Core.Path.{◌≡◌, refl, sym, ap, ◌∙◌, subst}
use Prim.Native.Nat.{ℕ, ◌+◌, ◌*◌, ◌/◌, ◌%◌, ◌<◌}
use native.Mathlib.Omega.{arith}
use borrow.Author.Tests.{eq-eqb, eqb-true}
use lib.Dec.{T, eqb}
use Rattle.line.specs.Choice.{bit_of, pick}
use Rattle.line.specs.Parity.{parity_holds}
use Rattle.line.specs.Slot.{Class, slot, class_of, slot_of}
use Rattle.line.specs.declared.slot.Slot.TheVariants.{Level}
use Rattle.line.proofs.Levels.{bit_le}
use Rattle.place.specs.Drive.{drive_in, drive_of, replied_of}
use Rattle.place.specs.Frame.{done_of, next_of}
use Rattle.place.specs.Masters.{clash_of}
use Rattle.place.specs.Slaves.{accepted_of, by_value, control_of, stranger_of, writes_of}
use Rattle.place.specs.Step.{at_control, at_field, control_judged, go_on, in_field, level_of, with_control}
use Rattle.place.specs.declared.Field.TheVariants.{Control}
use Rattle.place.specs.declared.Frame.{Frame}
use Rattle.place.specs.declared.Moved.{Moved}
use Rattle.place.specs.declared.Place.TheVariants.{Waiting, In}
use Rattle.place.specs.declared.View.{View}
use Rattle.rules.specs.Endings.{ended_of, left_of}
use Rattle.rules.specs.Machine.{unit}
use Rattle.rules.specs.Set.{core·idle}
use Rattle.rules.specs.Slots.{core_drive, on_event, on_level, on_moved}
use Rattle.rules.specs.State.{State, is_empty, ready_of, seen_of, status_byte, view_of}
use Rattle.rules.specs.Step.{acted_by, acted_on, answer_of, clashes, next_drive, said_as, slot_on, slot_said, step_as}
use Rattle.rules.specs.Step.{step_of, word_of}
use Rattle.std.specs.Prelude.{Ok}
use Rattle.rules.specs.declared.answer.Reply.TheVariants.{Taken}
use Rattle.rules.specs.declared.state.Acted.{Acted}
use Rattle.rules.specs.declared.state.Registers.{Registers}
use Rattle.rules.proofs.Calm.{pick_no}

-- "bit 0 STRQ, bit 1 .., bit 2 locked, bit 4 sending enabled, bits 7-6 = 10"; "bit 1 is 0 when SLRE is set and RBF is
-- empty, and otherwise 1"
pub record StatusBits (r : Registers) (clear : Bool) (byte : ℕ) : Type 0 where
  pub bit_0 : byte % 2 ≡ bit_of r.strq
  pub bit_1 : byte / 2 % 2 ≡ pick (r.slre && clear) 0 1
  pub bit_2 : byte / 4 % 2 ≡ bit_of r.locked
  pub bit_3 : byte / 8 % 2 ≡ 0
  pub bit_4 : byte / 16 % 2 ≡ bit_of r.enabled
  pub bit_5 : byte / 32 % 2 ≡ 0
  pub bits_7_6 : byte / 64 ≡ 2

pub status_bits : (r : Registers) (clear : Bool) → StatusBits r clear (status_byte r clear)
unfolding status_byte
status_bits r clear =
    let e = bit_le r.enabled in
    let l = bit_le r.locked in
    let c = bit_le (not (ready_of r clear)) in
    let q = bit_le r.strq in
    record {
      bit_0 = omega (arith, e, l, c, q);
      bit_1 = omega (arith, e, l, c, q) ∙ go (r.slre && clear);
      bit_2 = omega (arith, e, l, c, q);
      bit_3 = omega (arith, e, l, c, q);
      bit_4 = omega (arith, e, l, c, q);
      bit_5 = omega (arith, e, l, c, q);
      bits_7_6 = omega (arith, e, l, c, q);
    }
  where
    go : (b : Bool) → bit_of (not b) ≡ pick b 0 1
    go true = refl
    go false = refl

-- bit 1 is 0 exactly where the judgement of AH, BH, EH and FH finds the unit ready
pub status_tells : (r : Registers) (clear : Bool) → eqb (status_byte r clear / 2 % 2) 0 ≡ (view_of r clear).ready
status_tells r clear = ap (λ (n : ℕ). eqb n 0) (status_bits r clear).bit_1 ∙ go (ready_of r clear)
  where
    go : (b : Bool) → eqb (pick b 0 1) 0 ≡ b
    go true = refl
    go false = refl

-- ---- the judgement

write_is : (P : ℕ → Type 0) → P 10 → P 11 → P 14 → P 15 → (control : ℕ) → writes_of control ≡ true → P control
unfolding writes_of
write_is P at_a at_b at-e at_f control e =
    go (eqb control 10) (eqb control 11) (eqb control 14) (eqb control 15) refl refl refl refl e
  where
    go : (a b c d : Bool) → eqb control 10 ≡ a → eqb control 11 ≡ b → eqb control 14 ≡ c → eqb control 15 ≡ d
        → (a || b || c || d) ≡ true → P control
    go true b c d p q r s e = subst P (sym (eqb-true control 10 p)) at_a
    go false true c d p q r s e = subst P (sym (eqb-true control 11 q)) at_b
    go false false true d p q r s e = subst P (sym (eqb-true control 14 r)) at-e
    go false false false true p q r s e = subst P (sym (eqb-true control 15 s)) at_f
    go false false false false p q r s e = absurd (subst T (sym e) tt)

accepted_ready : (control : ℕ) (strq ready locked broadcast : Bool) → writes_of control ≡ true
    → accepted_of (control_of control false strq ready locked) broadcast ≡ ready
unfolding control_of by_value accepted_of
accepted_ready control strq ready locked broadcast =
    write_is (λ (k : ℕ). accepted_of (control_of k false strq ready locked) broadcast ≡ ready)
    (only ready) (only ready) (only ready) (only ready) control
  where
    only : (b : Bool) → accepted_of (control_of 10 false strq b locked) broadcast ≡ b
    only true = refl
    only false = refl

-- ---- a write on the line

-- the word of the P slot comes behind AH, BH, EH or FH, with the right parity, at a slave and of a master that the lock
-- lets in
pub record WriteComes (s : State) (bit : Bool) : Type 0 where
  pub at_p : s.core.frame.place ≡ In Control 4
  pub slave : s.core.frame.leads ≡ false
  pub writes : writes_of (s.core.frame.shift % 16) ≡ true
  pub sound : parity_holds s.core.frame.shift bit ≡ true
  pub let_in : (s.core.regs.locked ≡ false) ⊎ (s.core.regs.holder ≡ s.core.frame.master)

-- bit 1 of the status byte as it would be told now
abbrev pub closed : State → ℕ
closed s = status_byte s.core.regs (is_empty s.rbf) / 2 % 2

pub level_word : (bit : Bool) → class_of (bit_of bit) ≡ slot (Level bit)
unfolding class_of slot_of
level_word true = refl
level_word false = refl

-- what comes of it where a level makes this of the frame
abbrev pub after : State → Moved → Acted
after s m = on_moved (core·idle false s.core) m (seen_of s.tbf s.rbf)

module _ (s : State) (bit : Bool) (x : WriteComes s bit) where
  abbrev f : Frame
  f = s.core.frame

  abbrev v : View
  v = view_of s.core.regs (is_empty s.rbf)

  abbrev judged : Bool → Moved
  judged ready = go_on (with_control f (f.shift % 16) ready (beq f.leads true)) Control 4 ready

  no_stranger : stranger_of v f.master ≡ false
  unfolding stranger_of
  no_stranger = go x.let_in
    where
      go : (s.core.regs.locked ≡ false) ⊎ (s.core.regs.holder ≡ f.master) → stranger_of v f.master ≡ false
      go (inl e) = rw e
      go (inr e) = rw (eq-eqb s.core.regs.holder f.master e) (and-false s.core.regs.locked)

  ack_is : (parity_holds f.shift bit
      && accepted_of (control_of (f.shift % 16) (stranger_of v f.master) v.strq v.ready v.locked)
      f.broadcast) ≡ v.ready
  ack_is =
      rw (x.sound, no_stranger)
      (accepted_ready (f.shift % 16) v.strq v.ready v.locked f.broadcast x.writes)

  moves : level_of f bit v ≡ judged v.ready
  unfolding level_of in_field clash_of at_field at_control control_judged
  moves = rw (x.at_p, x.slave, ack_is, x.writes)

  released : next_drive s ≡ 1
  unfolding next_drive core_drive drive_of drive_in replied_of
  released = rw (x.at_p, x.slave)

  no_clash : clashes s bit ≡ false
  unfolding clashes
  no_clash = rw released (and-false bit)

  stepped : step_of s (bit_of bit) ≡ acted_by s (Level bit)
  unfolding step_of slot_on
  stepped =
      ap (λ (k : Class). step_as k s (bit_of bit)) (level_word bit) ∙ pick_no (clashes s bit) s _ no_clash

  comes_to : step_of s (bit_of bit) ≡ acted_on s (after s (judged v.ready))
  unfolding on_level
  comes_to = stepped ∙ ap (λ (m : Moved). acted_on s (after s m)) moves

  place_of : (ready : Bool)
      → (acted_on s (after s (judged ready))).core.frame.place ≡ pick ready (In Control 5) Waiting
  unfolding go_on on_event left_of next_of done_of with_control
  place_of true = refl
  place_of false = refl

  drive-of : (ready : Bool) → f.broadcast ≡ false
      → next_drive (acted_on s (after s (judged ready))) ≡ pick ready 0 1
  unfolding go_on on_event left_of next_of done_of with_control next_drive core_drive drive_of drive_in replied_of ended_of
  drive-of true e = rw (x.slave, e)
  drive-of false e = rw (x.at_p, x.slave)

  -- the unit goes on to the ACK slot exactly where bit 1 is 0
  pub write_taken : (unit.step s (bit_of bit)).core.frame.place ≡ pick (eqb (closed s) 0) (In Control 5) Waiting
  write_taken =
      ap (λ (t : State). t.core.frame.place) comes_to ∙ place_of v.ready
      ∙ ap (λ (b : Bool). pick b (In Control 5) Waiting) (sym (status_tells s.core.regs (is_empty s.rbf)))

  -- and in an individual frame that slot carries bit 1 itself
  pub write_answered : f.broadcast ≡ false → unit.answer s (bit_of bit) ≡ 0x8000_0000 + closed s * 256
  unfolding answer_of slot_said word_of
  write_answered e =
      ap (λ (k : Class). word_of (said_as k s (step_of s (bit_of bit)) (bit_of bit))) (level_word bit)
      ∙ ap word_of (pick_no (clashes s bit) _ _ no_clash)
      ∙ ap (λ (d : ℕ). word_of (Ok (Taken d)))
      (ap next_drive comes_to ∙ drive-of v.ready e ∙ sym (status_bits s.core.regs (is_empty s.rbf)).bit_1)
      ∙ said (closed s) (omega arith)
    where
      said : (d : ℕ) → d < 4 → word_of (Ok (Taken d)) ≡ 0x8000_0000 + d * 256
      said d l = omega arith

-- What the definitions of a word say of the plainest ones: the level is not refused, its bit is shifted in, and nothing
-- comes of it. Where the unit only listens, the line is released before and after.
use Prim.Native.Nat.{ℕ, ◌+◌, ◌%◌, ◌<◌, ◌≤◌}
use mathlib.Core.Bool.{Bool, true, false, not, ◌&&◌, and-false}
use mathlib.Core.Path.{◌≡◌, refl, sym, ap, subst, ◌∙◌}
use native.Mathlib.Omega.{arith}
use borrow.Author.Tests.{eqb-false, eqb-true, le-leb, leb-true, ltb-true, not-true}
use lib.Dec.{T, eqb, leb}
use Rattle.line.specs.Choice.{pick, bit_of}
use Rattle.line.specs.Numbers.{drive_low, drive_released, drive_start}
use Rattle.line.specs.Slot.{class_of, slot_of}
use Rattle.line.specs.declared.slot.Slot.TheVariants.{Level}
use Rattle.line.proofs.Either.{both, by_value}
use Rattle.place.specs.Drive.{drive_at as inFrame, drive_in, drive_of, replied_of}
use Rattle.place.specs.Frame.{next_of, shifted_of, width_of}
use Rattle.place.specs.Masters.{clash_of, own_bit}
use Rattle.place.specs.Step.{at_control, at_data, at_field, at_length, at_master, at_place, at_slave, in_field, level_of, moved}
use Rattle.place.specs.declared.Event.TheVariants.{Nothing as Quiet}
use Rattle.place.specs.declared.Field.{Field}
use Rattle.place.specs.declared.Field.TheVariants.{Broadcast, Master, Slave, Control, Length, Data}
use Rattle.place.specs.declared.Frame.{Frame}
use Rattle.place.specs.declared.Place.{Place}
use Rattle.place.specs.declared.Place.TheVariants.{Waiting, In}
use Rattle.place.specs.declared.View.{View}
use Rattle.std.specs.Prelude.{Ok}
use Rattle.rules.specs.declared.answer.Reply.TheVariants.{Taken}
use Rattle.rules.specs.declared.state.Act.TheVariants.{Nothing}
use Rattle.rules.specs.declared.state.Acted.{Acted}
use Rattle.rules.specs.declared.state.Core.{Core}
use Rattle.rules.specs.declared.state.Seen.{Seen}
use Rattle.circles.specs.Buffers.{sent_by, stored_by, word_calls}
use Rattle.lent.specs.Both.{Loan, after_slot, after_word, loan_acted, slot_refusal, taken_in}
use Rattle.rules.specs.Endings.{acted}
use Rattle.lent.specs.Plain.{amid_at, amid_of, inside_of, listened_at, listened_of, plain_at, plain_core, plain_of}
use Rattle.lent.specs.Plain.{loan_took}
use Rattle.rules.specs.Slots.{core_drive, drive_at, on_event, on_level}
use Rattle.rules.specs.State.{is_empty, rbf_after, seen_of, takes_part, tbf_after, view_of}
use Rattle.rules.specs.Step.{answer_of, clashes, next_drive, step_of}
use Rattle.rules.proofs.Calm.{pick_no, pick_yes}
use Rattle.lent.proofs.Joins.{slot_came}
use Rattle.rules.specs.Answers.{fine}

-- ---- the frame

-- the unit neither leads nor sends, and the level is a bit of the field
record Listens (f : Frame) (field : Field) (n : ℕ) : Type 0 where
  follows : f.leads ≡ false
  receives : f.sends ≡ false
  inside : inside_of field n ≡ true

listens : (f : Frame) (field : Field) (n : ℕ) → plain_at (In field n) f ≡ true → Listens f field n
listens f field n e =
    let a = both (not f.leads && not f.sends) (inside_of field n) e in
    let b = both (not f.leads) (not f.sends) a.0 in
    record { follows = not-true f.leads b.0; receives = not-true f.sends b.1; inside = a.1 }

shifted_in : (f : Frame) (field : Field) (n : ℕ) (bit : Bool) (v : View) → inside_of field n ≡ true
    → at_field f field n bit v ≡ moved Quiet (shifted_of f field n bit)
unfolding inside_of at_field at_master at_slave at_control at_length at_data
shifted_in f Broadcast n bit v e = absurd (subst T (sym e) tt)
shifted_in f Master n bit v e = pick_yes _ _ _ e
shifted_in f Slave n bit v e = pick_yes _ _ _ e
shifted_in f Control n bit v e = pick_yes _ _ _ e
shifted_in f Length n bit v e = pick_yes _ _ _ e
shifted_in f Data n bit v e = pick_yes _ _ _ e

level_at : (p : Place) (f : Frame) (bit : Bool) (v : View) → plain_at p f ≡ true
    → at_place f p bit v ≡ moved Quiet (listened_at p f bit)
unfolding in_field clash_of
level_at Waiting f bit v e = refl
level_at (In field n) f bit v e =
    let l = listens f field n e in
    pick_no (clash_of f field n bit v) _ _ (rw l.follows refl) ∙ shifted_in f field n bit v l.inside

-- ---- the line

inside_below : (field : Field) (n : ℕ) → inside_of field n ≡ true → n < width_of field
unfolding inside_of
inside_below Broadcast n e = absurd (subst T (sym e) tt)
inside_below Master n e = ltb-true n _ e
inside_below Slave n e = ltb-true n _ e
inside_below Control n e = ltb-true n _ e
inside_below Length n e = ltb-true n _ e
inside_below Data n e = ltb-true n _ e

replied : (f : Frame) (width n : ℕ) → n ≤ width → replied_of f width n ≡ true
unfolding replied_of
replied f width n h = rw (le-leb n width h) refl

-- a unit that neither leads nor sends drives nothing up to P
released_in : (f : Frame) (field : Field) (n : ℕ) (v : View) → f.leads ≡ false → f.sends ≡ false
    → n ≤ width_of field → drive_in f field n v ≡ true
unfolding drive_in
released_in f Broadcast n v l s h = rw l refl
released_in f Master n v l s h = pick_no f.leads _ _ l
released_in f Slave n v l s h = pick_no f.leads _ _ l ∙ replied f _ n h
released_in f Control n v l s h = pick_no f.leads _ _ l ∙ replied f _ n h
released_in f Length n v l s h = pick_no f.sends _ _ s ∙ replied f _ n h
released_in f Data n v l s h = pick_no f.sends _ _ s ∙ replied f _ n h

-- ---- the unit

start_or_released : (b : Bool) → eqb (pick b drive_start drive_released) drive_low ≡ false
start_or_released true = refl
start_or_released false = refl

module _ (c : Core) (clear : Bool) where
  abbrev view : View
  view = view_of c.regs clear

  -- "level 1 while the unit drives 0" does not hold of it
  not_low : plain_of c.frame ≡ true → eqb (core_drive c clear) drive_low ≡ false
  unfolding core_drive plain_of drive_of
  not_low e = go c.frame.place refl e
    where
      go : (p : Place) → c.frame.place ≡ p → plain_at p c.frame ≡ true
          → eqb (drive_at p c clear) drive_low ≡ false
      go Waiting at e = start_or_released (c.idle && takes_part c.regs clear)
      go (In field n) at e =
          let l = listens c.frame field n e in
          let below = inside_below field n l.inside in
          ap (λ (d : Bool). eqb (bit_of d) drive_low) (ap (λ (p : Place). inFrame c.frame p view) at
          ∙ released_in c.frame field n view l.follows l.receives (omega arith))

  released_after : (bit : Bool) → plain_of c.frame ≡ true → core_drive (plain_core c bit) clear ≡ drive_released
  unfolding core_drive plain_of listened_of drive_of shifted_of next_of
  released_after bit e = go c.frame.place refl e
    where
      go : (p : Place) → c.frame.place ≡ p → plain_at p c.frame ≡ true
          → core_drive (plain_core c bit) clear ≡ drive_released
      go Waiting at e = rw at refl
      go (In field n) at e =
          let l = listens c.frame field n e in
          let below = inside_below field n l.inside in
          let next : n % 16 + 1 ≤ width_of field = omega arith in
          rw at (ap bit_of (released_in (shifted_of c.frame field n bit) field (n % 16 + 1) view l.follows
          l.receives next))

acts_plainly : (c : Core) (bit : Bool) (seen : Seen) → plain_of c.frame ≡ true
    → on_level c bit seen ≡ acted Nothing (plain_core c bit)
unfolding on_level on_event level_of plain_of listened_of
acts_plainly c bit seen e =
    rw (level_at c.frame.place c.frame bit (view_of c.regs seen.clear) e) refl

-- a bit of a field is shifted in by whoever drives it and finds it on the line
agrees_at : (p : Place) (f : Frame) (bit : Bool) (v : View) → f.place ≡ p → amid_at p ≡ true
    → drive_of f v ≡ bit → at_place f p bit v ≡ moved Quiet (listened_at p f bit)
unfolding in_field clash_of
agrees_at Waiting f bit v at e d = absurd (subst T (sym e) tt)
agrees_at (In field n) f bit v at e d =
    pick_no (clash_of f field n bit v) _ _
    (ap (λ (b : Bool). f.leads && own_bit f field n && b && not bit) d ∙ no_clash (f.leads && own_bit f field n) bit)
    ∙ shifted_in f field n bit v e
  where
    no_clash : (x b : Bool) → x && b && not b ≡ false
    no_clash x true = and-false (x && true)
    no_clash x false = rw (and-false x) refl

driven_as : (c : Core) (clear bit : Bool) → amid_of c.frame ≡ true → core_drive c clear ≡ bit_of bit
    → drive_of c.frame (view_of c.regs clear) ≡ bit
unfolding core_drive amid_of
driven_as c clear bit e d = go c.frame.place refl e d
  where
    alike : (a b : Bool) → bit_of a ≡ bit_of b → a ≡ b
    alike true true h = refl
    alike false false h = refl
    alike true false h = absurd (subst T (ap (λ (k : ℕ). eqb k 1) h) tt)
    alike false true h = absurd (subst T (ap (λ (k : ℕ). eqb k 0) h) tt)

    go : (p : Place) → c.frame.place ≡ p → amid_at p ≡ true → drive_at p c clear ≡ bit_of bit
        → drive_of c.frame (view_of c.regs clear) ≡ bit
    go Waiting at e d = absurd (subst T (sym e) tt)
    go (In field n) at e d = alike _ bit d

acts_agreeing : (c : Core) (bit : Bool) (seen : Seen) → amid_of c.frame ≡ true
    → core_drive c seen.clear ≡ bit_of bit → on_level c bit seen ≡ acted Nothing (plain_core c bit)
unfolding on_level on_event level_of listened_of amid_of
acts_agreeing c bit seen e d =
    rw (agrees_at c.frame.place c.frame bit (view_of c.regs seen.clear) refl e
    (driven_as c seen.clear bit e d)) refl

-- ---- the word

-- a level that is not refused and is only taken in
only_taken_in : (l : Loan) (bit : Bool) → clashes l.state bit ≡ false
    → on_level l.state.core bit (seen_of l.state.tbf l.state.rbf)
    ≡ acted Nothing (plain_core l.state.core bit)
    → taken_in (loan_took l bit) ≡ after_slot l (Level bit)
unfolding slot_refusal tbf_after rbf_after sent_by stored_by
only_taken_in l bit free acts =
    ap (λ (a : Acted). taken_in (loan_acted l a)) (sym acts) ∙ slot_came l (Level bit) fine (rw free refl)

level_word : (P : ℕ → Type 0) (w : ℕ) → leb w 1 ≡ true → P 0 → P 1 → P w
level_word P w level low high =
    by_value P w 0 low (λ other. subst P (omega (arith, leb-true w 1 level, eqb-false w 0 other)) high)

plain_slot : (l : Loan) (bit : Bool) → plain_of l.state.core.frame ≡ true
    → record { loan = loan_took l bit; answer = Ok (Taken drive_released) } ≡ after_slot l (Level bit)
unfolding clashes next_drive
plain_slot l bit e =
    let s = l.state in
    let clear = is_empty s.rbf in
    ap (λ (d : ℕ). record { loan = loan_took l bit; answer = Ok (Taken d) })
    (sym (released_after s.core clear bit e))
    ∙ only_taken_in l bit (rw (not_low s.core clear e) (and-false bit))
    (acts_plainly s.core bit (seen_of s.tbf s.rbf) e)

agreed_slot : (l : Loan) (bit : Bool) → amid_of l.state.core.frame ≡ true → next_drive l.state ≡ bit_of bit
    → taken_in (loan_took l bit) ≡ after_slot l (Level bit)
unfolding clashes next_drive
agreed_slot l bit e d =
    only_taken_in l bit (free bit d)
    (acts_agreeing l.state.core bit (seen_of l.state.tbf l.state.rbf) e d)
  where
    free : (b : Bool) → core_drive l.state.core (is_empty l.state.rbf) ≡ bit_of b
        → b && eqb (core_drive l.state.core (is_empty l.state.rbf)) drive_low ≡ false
    free true d = rw d refl
    free false d = refl

pub plain_word : (l : Loan) (w : ℕ) → leb w 1 ≡ true → plain_of l.state.core.frame ≡ true
    → record { loan = loan_took l (eqb w 1); answer = Ok (Taken drive_released) } ≡ after_word l w
unfolding step_of answer_of word_calls class_of slot_of
plain_word l w level e =
    level_word (λ (k : ℕ). record { loan = loan_took l (eqb k 1); answer = Ok (Taken drive_released) } ≡ after_word l k)
    w level (plain_slot l false e) (plain_slot l true e)

pub agreed_word : (l : Loan) (w : ℕ) → leb w 1 ≡ true → amid_of l.state.core.frame ≡ true
    → eqb (next_drive l.state) w ≡ true → taken_in (loan_took l (eqb w 1)) ≡ after_word l w
unfolding step_of answer_of word_calls class_of slot_of
agreed_word l w level e d =
    level_word (λ (k : ℕ). eqb (next_drive l.state) k ≡ true → taken_in (loan_took l (eqb k 1)) ≡ after_word l k) w
    level (λ zero. agreed_slot l false e (eqb-true _ _ zero)) (λ one. agreed_slot l true e (eqb-true _ _ one)) d

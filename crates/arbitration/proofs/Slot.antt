-- One unit in one slot of the contest: what it drives, and where a level leaves it.
use mathlib.Core.Bool.{Bool, true, false, not, ◌&&◌, ◌||◌}
use mathlib.Core.Logic.{◌⊎◌, inl, inr, ⊎_elim}
use mathlib.Core.Path.{◌≡◌, refl, sym, ap, ap₂, ◌∙◌, subst}
use Prim.Native.Nat.{ℕ, zero, suc, ◌+◌, ◌*◌, ◌-◌, ◌/◌, ◌%◌, ◌^◌, ◌≤◌, ◌<◌}
use native.Mathlib.Nat.{mul-add-div_right, mul_assoc, pow-succ'}
use native.Mathlib.Omega.{arith}
use borrow.Author.Tests.{lt-ltb, le-ltb, ne_eqb}
use lib.Dec.{eqb, ltb}
use lib.Pow.{pow-add, pow_pos}
use Rattle.line.specs.Choice.{pick, bit_of}
use Rattle.line.specs.Parity as parity
use Rattle.line.specs.Slot.{Class, slot, slot_of, class_of}
use Rattle.line.specs.declared.slot.Slot.TheVariants.{Level}
use Rattle.line.proofs.Either.{below_or_not, both}
use Rattle.line.proofs.Levels.{level_le}
use Rattle.contenders.specs.Contest.{loses, number_of}
use Rattle.place.specs.Frame.{next_of, shifted_of, to_field}
use Rattle.place.specs.Drive.{drive_in, drive_of, sent_of}
use Rattle.place.specs.Drive as drive
use Rattle.place.specs.Masters.{clash_of, contested_of, lost_of, own_bit}
use Rattle.place.specs.Slaves.{writes_of}
use Rattle.place.specs.Step.{at_broadcast, at_field, at_master, at_place, in_field, level_of, overruled_of}
use Rattle.place.specs.declared.Event.{Event}
use Rattle.place.specs.declared.Event.TheVariants.{Nothing, Lost}
use Rattle.place.specs.declared.Field.{Field}
use Rattle.place.specs.declared.Field.TheVariants.{Broadcast, Master}
use Rattle.place.specs.declared.Frame.{Frame}
use Rattle.place.specs.declared.Moved.{Moved}
use Rattle.place.specs.declared.Place.{Place}
use Rattle.place.specs.declared.Place.TheVariants.{In}
use Rattle.place.specs.declared.View.{View}
use Rattle.rules.specs.Endings.{request_ended}
use Rattle.rules.specs.Set.{core·idle}
use Rattle.rules.specs.Slots.{core_drive, drive_at, on_event, on_level, on_lost}
use Rattle.rules.specs.State.{State, is_empty, seen_of, view_of}
use Rattle.rules.specs.Step.{answer_of, clashes, next_drive, said_as, slot_on, slot_said, step_as, step_of}
use Rattle.std.specs.Prelude.{Ok}
use Rattle.rules.specs.declared.answer.Reply.TheVariants.{Taken}
use Rattle.rules.specs.declared.state.Acted.{Acted}
use Rattle.rules.specs.declared.state.Core.{Core}
use Rattle.rules.specs.declared.state.Seen.{Seen}
use Rattle.rules.proofs.Calm.{pick_ind, pick_no}
use Rattle.arbitration.specs.Group.{contender_of, leads}

-- ---- the slots of the contest

-- where a unit stands with so many of these slots to come
abbrev pub place_at : ℕ → Place
place_at n = pick (ltb 12 n) (In Broadcast 0) (In Master (12 - n))

-- a slot that takes one bit in, of the unit's own if it leads: the next place, whatever comes
record OneBit (field : Field) (count : ℕ) (next : Place) : Type 0 where
  contested : contested_of field count ≡ true
  own : (f : Frame) → own_bit f field count ≡ true
  quiet : (f : Frame) (bit : Bool) (v : View) → (at_field f field count bit v).event ≡ Nothing
  place : (f : Frame) (bit : Bool) (v : View) → (at_field f field count bit v).frame.place ≡ next
  leads : (f : Frame) (bit : Bool) (v : View) → (at_field f field count bit v).frame.leads ≡ f.leads

at-broadcast : OneBit Broadcast 0 (In Master 0)
unfolding contested_of own_bit at_field at_broadcast to_field
at-broadcast =
    record { contested = refl; own = λ f. refl; quiet = λ f b v. refl; place = λ f b v. refl; leads = λ f b v. refl }

at-master : (m : ℕ) → m < 12 → OneBit Master m (In Master (suc m))
unfolding contested_of own_bit at_field at_master shifted_of next_of
at-master m h =
    let within = lt-ltb m 12 h in
    record {
      contested = within;
      own = λ f. refl;
      quiet = λ f b v. simp within;
      place = λ f b v. simp within (ap (In Master) (omega arith));
      leads = λ f b v. simp within;
    }

-- ---- a level

-- a unit that leads is beaten where it drives 1 and reads 0
abbrev beaten : Bool → Bool → Bool
beaten drives bit = drives && not bit

clash_beaten : (l o d b : Bool) → o ≡ true → (l && o && d && not b) ≡ (l && beaten d b)
clash_beaten true o d b e = rw e
clash_beaten false o d b e = refl

beaten_follows : (l t : Bool) → (l && t) ≡ true → (l && not t) ≡ false
beaten_follows true true e = refl
beaten_follows true false e = sym e
beaten_follows false t e = refl

unbeaten_stays : (l t : Bool) → (l && t) ≡ false → (l && not t) ≡ l
unbeaten_stays true true e = sym e
unbeaten_stays true false e = refl
unbeaten_stays false t e = refl

record Passes (next : Place) (lead : Bool) (m : Moved) : Type 0 where
  place : m.frame.place ≡ next
  leads : m.frame.leads ≡ lead
  event : (m.event ≡ Lost) ⊎ (m.event ≡ Nothing)

module _ {field : Field} {count : ℕ} {next : Place} (x : OneBit field count next) (f : Frame) (bit : Bool)
    (v : View) where
  overruled : clash_of f field count bit v ≡ true
      → Passes next (f.leads && not (beaten (drive_of f v) bit)) (overruled_of f field count bit v)
  unfolding clash_of overruled_of lost_of
  overruled e =
      let lost : (f.leads && beaten (drive_of f v) bit) ≡ true
      = sym (clash_beaten f.leads (own_bit f field count) (drive_of f v) bit (x.own f)) ∙ e in
      rw x.contested (record {
        place = x.place (lost_of f) bit v;
        leads = x.leads (lost_of f) bit v ∙ sym (beaten_follows f.leads _ lost);
        event = inl refl;
      })

  goes_on : clash_of f field count bit v ≡ false
      → Passes next (f.leads && not (beaten (drive_of f v) bit)) (at_field f field count bit v)
  unfolding clash_of
  goes_on e =
      let free : (f.leads && beaten (drive_of f v) bit) ≡ false
      = sym (clash_beaten f.leads (own_bit f field count) (drive_of f v) bit (x.own f)) ∙ e in
      record {
        place = x.place f bit v;
        leads = x.leads f bit v ∙ sym (unbeaten_stays f.leads _ free);
        event = inr (x.quiet f bit v);
      }

  level_passes : f.place ≡ In field count
      → Passes next (f.leads && not (beaten (drive_of f v) bit)) (level_of f bit v)
  unfolding level_of in_field
  level_passes at =
      subst (Passes next (f.leads && not (beaten (drive_of f v) bit)))
      (sym (ap (λ (p : Place). at_place f p bit v) at))
      (pick_ind (Passes next (f.leads && not (beaten (drive_of f v) bit))) (clash_of f field count bit v) _ _ overruled
      goes_on)

-- what is left of the registers that a contest sees, whatever the slot brings about
record Same (c : Core) (f : Frame) (d : Core) : Type 0 where
  frame : d.frame ≡ f
  own : d.regs.own ≡ c.regs.own
  bit : d.regs.bit ≡ c.regs.bit

on-event : (e : Event) (c : Core) (f : Frame) (seen : Seen) → (e ≡ Lost) ⊎ (e ≡ Nothing)
    → Same c f (on_event e c f seen).core
unfolding on_event on_lost request_ended
on-event e c f seen (inr q) =
    subst (λ (y : Event). Same c f (on_event y c f seen).core) (sym q)
    (record { frame = refl; own = refl; bit = refl })
on-event e c f seen (inl q) =
    subst (λ (y : Event). Same c f (on_event y c f seen).core) (sym q)
    (pick_ind (λ (a : Acted). Same c f a.core) (ltb c.regs.losses c.regs.retries) _ _
    (λ l. record { frame = refl; own = refl; bit = refl })
    (λ l. pick_ind (λ (a : Acted). Same c f a.core) (writes_of c.regs.control) _ _
    (λ w. record { frame = refl; own = refl; bit = refl }) (λ w. record { frame = refl; own = refl; bit = refl })))

record Onward (next : Place) (lead : Bool) (c d : Core) : Type 0 where
  place : d.frame.place ≡ next
  leads : d.frame.leads ≡ lead
  own : d.regs.own ≡ c.regs.own
  bit : d.regs.bit ≡ c.regs.bit

on-level : {field : Field} {count : ℕ} {next : Place} → OneBit field count next → (c : Core) (b : Bool) (seen : Seen)
    → c.frame.place ≡ In field count
    → Onward next (c.frame.leads && not (beaten (drive_of c.frame (view_of c.regs seen.clear)) b)) c
    (on_level c b seen).core
unfolding on_level
on-level x c b seen at =
    let v = view_of c.regs seen.clear in
    let m = level_of c.frame b v in
    let p = level_passes x c.frame b v at in
    let k = on-event m.event (core·idle false c) m.frame seen p.event in
    record {
      place = ap (λ (f : Frame). f.place) k.frame ∙ p.place;
      leads = ap (λ (f : Frame). f.leads) k.frame ∙ p.leads;
      own = k.own;
      bit = k.bit;
    }

-- ---- the word of a level

word_level : (w : ℕ) → w ≤ 1 → class_of w ≡ slot (Level (eqb w 1))
unfolding class_of slot_of
word_level zero h = refl
word_level (suc zero) h = refl
word_level (suc (suc w)) h = absurd (omega arith)

-- number 5 cannot come where the level is no higher than what the unit drives
no_clash : (s : State) (w : ℕ) → w ≤ 1 → w ≤ next_drive s → clashes s (eqb w 1) ≡ false
unfolding clashes
no_clash s zero h l = refl
no_clash s (suc zero) h l = ne_eqb (next_drive s) 0 (λ e. omega arith)
no_clash s (suc (suc w)) h l = absurd (omega arith)

module _ (s : State) (w : ℕ) (low : w ≤ 1) (under : w ≤ next_drive s) where
  stepped : (step_of s w).core ≡ (on_level s.core (eqb w 1) (seen_of s.tbf s.rbf)).core
  unfolding step_of slot_on
  stepped =
      ap (λ (k : Class). (step_as k s w).core) (word_level w low)
      ∙ ap (λ (t : State). t.core) (pick_no (clashes s (eqb w 1)) s _ (no_clash s w low under))

  pub answered : answer_of s w ≡ Ok (Taken (next_drive (step_of s w)))
  unfolding answer_of slot_said
  answered =
      ap (λ (k : Class). said_as k s (step_of s w) w) (word_level w low)
      ∙ pick_no (clashes s (eqb w 1)) _ _ (no_clash s w low under)

-- ---- what is driven

-- the levels that a unit drives from slot 2 on, read as one number
abbrev pub number : State → ℕ
number s = number_of (contender_of s)

-- with so many slots of the contest to come
pub record Stands (n : ℕ) (s : State) : Type 0 where
  pub place : s.core.frame.place ≡ place_at n
  -- an address over FFFH is of no account where it is not driven
  pub own_lt : leads s ≡ true → s.core.regs.own < 4096

-- the broadcast bit stands above the twelve of the address, and alters none of them
below_bit : (n k x : ℕ) → n < 12 → parity.level_of n (k * 4096 + x) ≡ parity.level_of n x
unfolding parity.level_of
below_bit n k x h =
    let high = 2 ^ suc (11 - n) in
    let twelve : 12 ≡ suc (11 - n) + n = omega arith in
    let whole : 2 ^ 12 ≡ high * 2 ^ n = ap (λ (e : ℕ). 2 ^ e) twelve ∙ pow-add 2 (suc (11 - n)) n in
    let apart : k * 4096 + x ≡ k * high * 2 ^ n + x
    = ap (λ (e : ℕ). k * e + x) whole ∙ ap (λ (e : ℕ). e + x) (sym (mul_assoc k high (2 ^ n))) in
    let above : (k * 4096 + x) / 2 ^ n ≡ k * high + x / 2 ^ n
    = ap (λ (e : ℕ). e / 2 ^ n) apart ∙ mul-add-div_right (pow_pos n) (k * high) x in
    let even : k * high ≡ 2 * (k * 2 ^ (11 - n)) = ap (λ (e : ℕ). k * e) (pow-succ' 2 (11 - n)) ∙ omega arith in
    omega (arith, above, even)

bit_level : (y : ℕ) → y ≤ 1 → bit_of (eqb y 1) ≡ y
bit_level zero h = refl
bit_level (suc zero) h = refl
bit_level (suc (suc y)) h = absurd (omega arith)

abbrev drives : State → Bool
drives s = drive_of s.core.frame (view_of s.core.regs (is_empty s.rbf))

drive-in : (s : State) (field : Field) (count : ℕ) → s.core.frame.place ≡ In field count
    → next_drive s ≡ bit_of (drives s)
unfolding next_drive core_drive
drive-in s field count at = ap (λ (p : Place). drive_at p s.core (is_empty s.rbf)) at

drives_in : (s : State) (field : Field) (count : ℕ) → s.core.frame.place ≡ In field count
    → drives s ≡ drive_in s.core.frame field count (view_of s.core.regs (is_empty s.rbf))
unfolding drive_of
drives_in s field count at =
    ap (λ (p : Place). drive.drive_at s.core.frame p (view_of s.core.regs (is_empty s.rbf))) at

-- a unit that leads drives the levels of its number, and one that does not is silent
abbrev Drives : ℕ → State → Type 0
Drives n s = bit_of (drives s) ≡ pick (leads s) (parity.level_of n (number s)) 1

module _ (s : State) (own_lt : leads s ≡ true → s.core.regs.own < 4096) where
  drive_bit : s.core.frame.place ≡ In Broadcast 0 → Drives 12 s
  unfolding drive_in number_of parity.level_of
  drive_bit at = ap bit_of (drives_in s Broadcast 0 at) ∙ go (leads s) s.core.regs.bit own_lt
    where
      go : (l b : Bool) → (l ≡ true → s.core.regs.own < 4096)
          → bit_of (not l || b) ≡ pick l ((bit_of b * 4096 + s.core.regs.own) / 2 ^ 12 % 2) 1
      go true true h = omega (arith, h refl)
      go true false h = omega (arith, h refl)
      go false b h = refl

  drive_address : (n : ℕ) → n < 12 → s.core.frame.place ≡ In Master (11 - n) → Drives n s
  unfolding drive_in sent_of number_of
  drive_address n lt at = ap bit_of (drives_in s Master (11 - n) at) ∙ go (leads s) own_lt
    where
      go : (l : Bool) → (l ≡ true → s.core.regs.own < 4096)
          → bit_of (pick l (sent_of 12 (s.core.regs.own % 4096) (11 - n)) true)
          ≡ pick l (parity.level_of n (bit_of s.core.regs.bit * 4096 + s.core.regs.own)) 1
      go true h =
          let here : 12 - 1 - (11 - n) ≡ n = omega arith in
          let whole : s.core.regs.own % 4096 ≡ s.core.regs.own = omega (arith, h refl) in
          simp (lt-ltb (11 - n) 12 (omega arith), here, whole)
          (bit_level _ (level_le n s.core.regs.own) ∙ sym (below_bit n _ s.core.regs.own lt))
      go false h = refl

-- ---- one slot of the contest

-- the slot after which n more come
record At (n : ℕ) (s : State) : Type 0 where
  field : Field
  count : ℕ
  one : OneBit field count (place_at n)
  at : s.core.frame.place ≡ In field count
  level : Drives n s

bit_at : (s : State) → Stands 13 s → At 12 s
bit_at s t =
    record {
      field = Broadcast;
      count = 0;
      one = at-broadcast;
      at = t.place;
      level = drive_bit s t.own_lt t.place;
    }

address_at : (n : ℕ) (s : State) → n < 12 → Stands (suc n) s → At n s
address_at n s h t =
    let here : place_at (suc n) ≡ In Master (11 - n)
    = pick_no _ _ _ (le-ltb 12 (suc n) h) ∙ ap (In Master) (omega arith) in
    let there : In Master (suc (11 - n)) ≡ place_at n
    = ap (In Master) (omega arith) ∙ sym (pick_no _ _ _ (le-ltb 12 n (omega arith))) in
    record {
      field = Master;
      count = 11 - n;
      one = subst (OneBit Master (11 - n)) there (at-master (11 - n) (omega arith));
      at = t.place ∙ here;
      level = drive_address s t.own_lt n h (t.place ∙ here);
    }

at_slot : (n : ℕ) (s : State) → n ≤ 12 → Stands (suc n) s → At n s
at_slot n s h t =
    ⊎_elim (λ lt. address_at n s lt t)
    (λ le. let last : n ≡ 12 = omega arith in
    subst (λ (k : ℕ). Stands (suc k) s → At k s) (sym last) (bit_at s) t) (below_or_not n 12)

beaten_loses : (d : Bool) (w level : ℕ) → w ≤ 1 → bit_of d ≡ level → beaten d (eqb w 1) ≡ ltb w level
beaten_loses d w level h e = subst (λ (k : ℕ). beaten d (eqb w 1) ≡ ltb w k) e (go d w h)
  where
    go : (d : Bool) (w : ℕ) → w ≤ 1 → beaten d (eqb w 1) ≡ ltb w (bit_of d)
    go true zero h = refl
    go true (suc zero) h = refl
    go true (suc (suc w)) h = absurd (omega arith)
    go false w h = sym (le-ltb w 0 (omega arith))

-- what a settled level does to a unit
pub record Steps (n w : ℕ) (s : State) : Type 0 where
  pub lead : leads (step_of s w) ≡ (leads s && not (loses n w (number s)))
  pub same : contender_of (step_of s w) ≡ contender_of s
  pub stands : Stands n (step_of s w)
  pub said : answer_of s w ≡ Ok (Taken (next_drive (step_of s w)))

module _ (n : ℕ) (s : State) (h : n ≤ 12) (t : Stands (suc n) s) where
  pub drive_number : next_drive s ≡ pick (leads s) (parity.level_of n (number s)) 1
  drive_number = let a = at_slot n s h t in drive-in s a.field a.count a.at ∙ a.level

  pub steps : (w : ℕ) → w ≤ 1 → w ≤ next_drive s → Steps n w s
  steps w low under =
      let a = at_slot n s h t in
      let o = on-level a.one s.core (eqb w 1) (seen_of s.tbf s.rbf) a.at in
      let e = stepped s w low under in
      let lead : leads (step_of s w) ≡ (leads s && not (loses n w (number s)))
      = ap (λ (c : Core). c.frame.leads) e ∙ o.leads ∙ go (leads s) a.level in
      record {
        lead = lead;
        same = ap (λ (c : Core). record { bit = bit_of c.regs.bit; address = c.regs.own }) e
            ∙ ap₂ (λ (b : Bool) (own : ℕ). record { bit = bit_of b; address = own }) o.bit o.own;
        stands = record {
          place = ap (λ (c : Core). c.frame.place) e ∙ o.place;
          own_lt = λ l.
              omega (
                arith,
                t.own_lt (both (leads s) _ (sym lead ∙ l)).0,
                ap (λ (c : Core). c.regs.own) e ∙ o.own,
              );
        };
        said = answered s w low under;
      }
    where
      go : (l : Bool) → bit_of (drives s) ≡ pick l (parity.level_of n (number s)) 1
          → (l && not (beaten (drives s) (eqb w 1))) ≡ (l && not (loses n w (number s)))
      go true e = ap not (beaten_loses (drives s) w (parity.level_of n (number s)) low e)
      go false e = refl

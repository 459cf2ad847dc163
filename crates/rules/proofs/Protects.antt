-- The unit, word by word: what a stranger's word keeps, and what a kept word rests on. So the holder of its lock is
-- protected (demand 3).
use mathlib.Core.Bool.{Bool, true, false, not, ◌&&◌, ◌||◌}
use mathlib.Core.Path.{◌≡◌, refl, sym, ap, ap₂, ◌∙◌, subst}
use mathlib.Core.List.{List, [], ◌∷◌}
use Prim.Native.Nat.{ℕ, ◌%◌}
use lib.Dec.{T, eqb}
use Rattle.line.specs.Choice.{bit_of, ◌▹◌}
use Rattle.line.specs.Slot.{Class, slot, stray, host, class_of}
use Rattle.line.specs.declared.slot.Slot.TheVariants.{Level, Start, Idle}
use Rattle.place.specs.Frame.{begun_of, done_of}
use Rattle.place.specs.Drive as drive
use Rattle.place.specs.Slaves.{writes_of}
use Rattle.place.specs.Step as step
use Rattle.place.specs.declared.Field.TheVariants.{Broadcast, Master, Slave, Control, Length, Data}
use Rattle.place.specs.declared.Place.{Place}
use Rattle.place.specs.declared.Place.TheVariants.{Waiting, In}
use Rattle.isolation.specs.Words.{from_master}
use Rattle.isolation.specs.Runs.{shown, latest, Protected}
use Rattle.isolation.proofs.Unwind.{protected}
use Rattle.isolation.proofs.Unwinding.{Unwinding}
use Rattle.rules.specs.Set.{acted·core, core·idle}
use Rattle.rules.specs.State.{State, reset, is_empty, seen_of, takes_part, tbf_after, rbf_after, view_of}
use Rattle.rules.specs.Endings.{acted, cut_at, cut_of, left_of}
use Rattle.rules.specs.Slots.{core_drive, drive_at, on_event, on_idle, on_level, on_moved, on_start}
use Rattle.rules.specs.Slots as slots
use Rattle.rules.specs.Registers.{Told, wrote, restarted, gave, denied, told_of}
use Rattle.rules.specs.Step.{acted_on, answer_of, clashes, next_drive, said_as, slot_on, slot_said, step_as, step_of}
use Rattle.rules.specs.Step.{told_on, told_said}
use Rattle.rules.specs.Step.{word_of}
use Rattle.rules.specs.Machine.{observed, unit, waiting}
use Rattle.rules.specs.Answers.{Answer}
use Rattle.std.specs.Prelude.{Ok, Err}
use Rattle.rules.specs.declared.answer.Refusal.TheVariants.{StrayBit}
use Rattle.rules.specs.declared.answer.Reply.TheVariants.{Taken}
use Rattle.rules.specs.declared.state.Act.{Act}
use Rattle.rules.specs.declared.state.Act.TheVariants.{Nothing}
use Rattle.rules.specs.declared.state.Acted.{Acted}
use Rattle.rules.specs.declared.state.Core.{Core}
use Rattle.rules.specs.declared.state.Registers.{Registers}
use Rattle.rules.specs.declared.state.Seen.{Seen}
use Rattle.rules.proofs.Answers.{latest_taken, latest_written, latest_read, latest_refused, shown_written}
use Rattle.rules.proofs.Answers.{shown_read}
use Rattle.rules.proofs.Calm.{pick_ind, pick_no, CalmAt, Calm, calm_ended}
use Rattle.rules.proofs.Locks.{Bonded, step_bonded, waiting_bonded}
use Rattle.rules.proofs.Strangers.{on-level}

-- what lasts: all of the state but the frame under way and the latest slot
pub record Lasting : Type 0 where
  pub regs : Registers
  pub tbf : List ℕ
  pub rbf : List ℕ

abbrev lasting : State → Lasting
lasting s = record { regs = s.core.regs; tbf = s.tbf; rbf = s.rbf }

-- ---- a unit that waits and asks for nothing

no_part : (r : Registers) (clear : Bool) → r.marq ≡ false → takes_part r clear ≡ false
unfolding takes_part
no_part r clear q = ap (λ (marq : Bool). marq && (writes_of r.control || clear)) q

never : (b : Bool) → (b && false) ≡ false
never true = refl
never false = refl

-- it drives 1
drive_waiting : (s : State) → waiting s → s.core.regs.marq ≡ false → next_drive s ≡ 1
unfolding next_drive core_drive
drive_waiting s e q =
    ap (λ (p : Place). drive_at p s.core (is_empty s.rbf)) e
    ∙ pick_no (s.core.idle && takes_part s.core.regs (is_empty s.rbf)) 2 1
    (ap (λ (b : Bool). s.core.idle && b) (no_part s.core.regs (is_empty s.rbf) q) ∙ never s.core.idle)

-- no level is refused of one that drives 1
no_refusal : (s : State) (b : Bool) → next_drive s ≡ 1 → clashes s b ≡ false
unfolding clashes
no_refusal s b e = ap (λ (d : ℕ). b && eqb d 0) e ∙ never b

-- a cut leaves it as it is
cut_waiting : (c : Core) → c.frame.place ≡ Waiting → cut_of c ≡ acted Nothing c
unfolding cut_of
cut_waiting c e = ap (λ (p : Place). cut_at p c) e

-- a cut leaves any unit waiting
cut_waits : (c : Core) → (cut_of c).core.frame.place ≡ Waiting
unfolding cut_of left_of done_of
cut_waits c = go c.frame.place refl
  where
    go : (p : Place) → c.frame.place ≡ p → (cut_at p c).core.frame.place ≡ Waiting
    go Waiting e = e
    go (In field n) e = refl

-- a cut of a stranger's frame changes nothing that lasts
cut_calm : (h : ℕ) (c : Core) (bs : List Bool) → Calm h c.frame bs
    → ((cut_of c).core.regs ≡ c.regs) × ((cut_of c).act ≡ Nothing)
unfolding cut_of left_of Calm
cut_calm h c bs x = go c.frame.place refl x
  where
    go : (p : Place) → c.frame.place ≡ p → CalmAt h p c.frame bs
        → ((cut_at p c).core.regs ≡ c.regs) × ((cut_at p c).act ≡ Nothing)
    go Waiting e y = (refl, refl)
    go (In field n) e y =
        subst (λ (a : Acted). ((left_of a (done_of c.frame)).core.regs ≡ c.regs)
        × ((left_of a (done_of c.frame)).act ≡ Nothing))
        (sym (calm_ended h field n c bs false e y)) (refl, refl)

-- ---- a word by its class

stepped : (s : State) (w : ℕ) (k : Class) → class_of w ≡ k → step_of s w ≡ step_as k s w
unfolding step_of
stepped s w k r = ap (λ (c : Class). step_as c s w) r

said : (s : State) (w : ℕ) (k : Class) → class_of w ≡ k → answer_of s w ≡ said_as k s (step_of s w) w
unfolding answer_of
said s w k r = ap (λ (c : Class). said_as c s (step_of s w) w) r

-- what lasts after something was done
after : Acted → State → Lasting
after a s = record { regs = a.core.regs; tbf = tbf_after a.act s.tbf; rbf = rbf_after a.act s.rbf }

after_same : (a : Acted) (s : State) → a.core.regs ≡ s.core.regs → a.act ≡ Nothing
    → lasting (acted_on s a) ≡ lasting s
unfolding after tbf_after rbf_after
after_same a s e q = ap₂ (λ (r : Registers) (x : Act). record
    { regs = r; tbf = tbf_after x s.tbf; rbf = rbf_after x s.rbf }) e q

-- what is driven after a slot that is taken
taken_drive : (d : ℕ) (t : State) → waiting t → t.core.regs.marq ≡ false
    → latest d (word_of (Ok (Taken (next_drive t)))) ≡ 1
taken_drive d t e q = latest_taken d (next_drive t) ∙ ap (λ (x : ℕ). x % 4) (drive_waiting t e q)

-- ---- stray bits, idle slots

stray_word : (s : State) (w : ℕ) → class_of w ≡ stray
    → (step_of s w ≡ s) × ((d : ℕ) → latest d (word_of (answer_of s w)) ≡ d)
unfolding slot_on slot_said
stray_word s w r = (
  stepped s w stray r,
  λ d. ap (λ (a : Answer). latest d (word_of a)) (said s w stray r)
      ∙ latest_refused d StrayBit,
)

idle_waits : (s : State) (w : ℕ) → class_of w ≡ slot Idle → waiting (step_of s w)
unfolding slot_on on_idle
idle_waits s w r = subst waiting (sym (stepped s w (slot Idle) r)) (cut_waits s.core)

idle_word : (s : State) (w : ℕ) → class_of w ≡ slot Idle
    → waiting (step_of s w) × ((step_of s w).core.regs.marq ≡ false → (d : ℕ) → latest d (word_of (answer_of s w)) ≡ 1)
unfolding slot_said
idle_word s w r = (
  idle_waits s w r,
  λ q d. ap (λ (a : Answer). latest d (word_of a)) (said s w (slot Idle) r)
      ∙ taken_drive d (step_of s w) (idle_waits s w r) q,
)

idle_keeps : (s : State) (w : ℕ) → class_of w ≡ slot Idle → (cut_of s.core).core.regs ≡ s.core.regs
    → (cut_of s.core).act ≡ Nothing
    → lasting (step_of s w) ≡ lasting s
unfolding slot_on on_idle
idle_keeps s w r e q = ap lasting (stepped s w (slot Idle) r) ∙ after_same (on_idle s.core) s e q

wait_idle_word : (s : State) (w : ℕ) → class_of w ≡ slot Idle → waiting s → lasting (step_of s w) ≡ lasting s
wait_idle_word s w r e =
    idle_keeps s w r (ap (λ (a : Acted). a.core.regs) (cut_waiting s.core e))
    (ap (λ (a : Acted). a.act) (cut_waiting s.core e))

-- ---- a level while the unit waits

level_waiting : (c : Core) (b : Bool) (seen : Seen) → c.frame.place ≡ Waiting
    → on_level c b seen ≡ acted Nothing (core·idle false c)
unfolding on_level step.level_of on_event
level_waiting c b seen e =
    ap (λ (p : Place). on_moved (core·idle false c)
    (step.at_place c.frame p b (view_of c.regs seen.clear)) seen) e

module _ (s : State) (w : ℕ) (b : Bool) (r : class_of w ≡ slot (Level b)) (e : waiting s)
    (q : s.core.regs.marq ≡ false) where
  free : clashes s b ≡ false
  free = no_refusal s b (drive_waiting s e q)

  wait_stepped : step_of s w ≡ acted_on s (acted Nothing (core·idle false s.core))
  unfolding slot_on
  wait_stepped =
      stepped s w (slot (Level b)) r ∙ pick_no (clashes s b) s _ free
      ∙ ap (acted_on s) (level_waiting s.core b (seen_of s.tbf s.rbf) e)

  wait_level_word : waiting (step_of s w) × (lasting (step_of s w) ≡ lasting s) × (latest 1 (word_of (answer_of s w)) ≡ 1)
  unfolding slot_said tbf_after rbf_after
  wait_level_word =
      let waits : waiting (step_of s w) = subst waiting (sym wait_stepped) e in
      let same : lasting (step_of s w) ≡ lasting s = ap lasting wait_stepped in (
        waits,
        same,
        ap (λ (a : Answer). latest 1 (word_of a)) (said s w (slot (Level b)) r ∙ pick_no (clashes s b) _ _ free)
            ∙ taken_drive 1 (step_of s w) waits (ap (λ (k : Lasting). k.regs.marq) same ∙ q),
      )

-- ---- host words

told_waits : (y : Told) (s : State) → waiting s
    → waiting (told_on s y) × ((told_on s y).core.regs.marq ≡ false → latest 1 (word_of (told_said (told_on s y) y)) ≡ 1)
told_waits (wrote r tbf) s e =
    (e, λ q. latest_written 1 _ ∙ ap (λ (x : ℕ). x % 4) (drive_waiting (told_on s (wrote r tbf)) e q))
told_waits restarted s e = (refl, λ q. latest_written 1 _ ∙ ap (λ (x : ℕ). x % 4) (drive_waiting reset refl refl))
told_waits (gave rbf v) s e =
    (e, λ q. latest_read 1 v _ ∙ ap (λ (x : ℕ). x % 4) (drive_waiting (told_on s (gave rbf v)) e q))
told_waits (denied n) s e = (e, λ q. latest_refused 1 n)

host_told : (s : State) (w : ℕ) → class_of w ≡ host
    → answer_of s w ≡ told_said (told_on s (told_of s.core.regs s.tbf s.rbf w))
    (told_of s.core.regs s.tbf s.rbf w)
host_told s w r =
    said s w host r ∙ ap (λ (t : State). told_said t (told_of s.core.regs s.tbf s.rbf w)) (stepped s w host r)

wait_host_word : (s : State) (w : ℕ) → class_of w ≡ host → waiting s
    → waiting (step_of s w) × ((step_of s w).core.regs.marq ≡ false → latest 1 (word_of (answer_of s w)) ≡ 1)
wait_host_word s w r e =
    let y = told_waits (told_of s.core.regs s.tbf s.rbf w) s e in (
      subst waiting (sym (stepped s w host r)) y.0,
      λ q. ap (λ (a : Answer). latest 1 (word_of a)) (host_told s w r)
          ∙ y.1 (ap (λ (t : State). t.core.regs.marq) (sym (stepped s w host r)) ∙ q),
    )

told_same : (y : Told) (s t : State) → lasting s ≡ lasting t
    → (lasting (told_on s y) ≡ lasting (told_on t y))
    × (shown host (word_of (told_said (told_on s y) y)) ≡ shown host (word_of (told_said (told_on t y) y)))
told_same (wrote r tbf) s t e = (
  ap (λ (k : Lasting). record { regs = r; tbf = tbf; rbf = k.rbf }) e,
  shown_written _
      _,
)
told_same restarted s t e = (refl, refl)
told_same (gave rbf v) s t e = (
  ap (λ (k : Lasting). record { regs = k.regs; tbf = k.tbf; rbf = rbf }) e,
  shown_read
      v _ _,
)
told_same (denied n) s t e = (e, refl)

host_word : (s t : State) (w : ℕ) → class_of w ≡ host → lasting s ≡ lasting t
    → (lasting (step_of s w) ≡ lasting (step_of t w))
    × (shown host (word_of (answer_of s w)) ≡ shown host (word_of (answer_of t w)))
host_word s t w r e =
    let told : told_of s.core.regs s.tbf s.rbf w ≡ told_of t.core.regs t.tbf t.rbf w
    = ap (λ (k : Lasting). told_of k.regs k.tbf k.rbf w) e in
    let y = told_same (told_of t.core.regs t.tbf t.rbf w) s t e in (
      ap lasting (stepped s w host r ∙ ap (told_on s) told) ∙ y.0 ∙ sym (ap lasting (stepped t w host r)),
      ap (λ (a : Answer). shown host (word_of a)) (host_told s w r ∙ ap (λ (z : Told). told_said (told_on s z) z) told)
          ∙ y.1 ∙ sym (ap (λ (a : Answer). shown host (word_of a)) (host_told t w r)),
    )

-- ---- start slots

-- the state that a start slot gives a waiting unit rests on what lasts
begun : Lasting → State
begun k =
    record {
      core = record {
        regs = k.regs;
        frame = begun_of (takes_part k.regs (is_empty k.rbf))
            k.regs.long;
        idle = false;
      };
      tbf = k.tbf;
      rbf = k.rbf;
    }

start_stepped : (s : State) (w : ℕ) → class_of w ≡ slot Start → waiting s → step_of s w ≡ begun (lasting s)
unfolding slot_on on_start begun slots.begun tbf_after rbf_after
start_stepped s w r e =
    stepped s w (slot Start) r
    ∙ ap (λ (a : Acted). acted_on s (a ▹ acted·core (slots.begun a.core (is_empty s.rbf))))
    (cut_waiting s.core e)

start_said : (s : State) (w : ℕ) → class_of w ≡ slot Start → answer_of s w ≡ Ok (Taken (next_drive (step_of s w)))
unfolding slot_said
start_said s w r = said s w (slot Start) r

start_word : (s t : State) (w : ℕ) → class_of w ≡ slot Start → waiting s → waiting t → lasting s ≡ lasting t
    → s.core.regs.marq ≡ false
    → (step_of s w ≡ step_of t w) × (word_of (answer_of s w) ≡ word_of (answer_of t w))
    × ((d e : ℕ) → latest d (word_of (answer_of s w)) ≡ latest e (word_of (answer_of s w)))
start_word s t w r ws wt e q =
    let same : step_of s w ≡ step_of t w = start_stepped s w r ws ∙ ap begun e ∙ sym (start_stepped t w r wt) in (
      same,
      ap word_of (start_said s w r ∙ ap (λ (z : State). Ok (Taken (next_drive z))) same ∙ sym (start_said t w r)),
      λ d n. ap (λ (a : Answer). latest d (word_of a)) (start_said s w r) ∙ latest_taken d _ ∙ sym (latest_taken n _)
          ∙ sym (ap (λ (a : Answer). latest n (word_of a)) (start_said s w r)),
    )

-- ---- a stranger's frame

module _ (h : ℕ) where
  calm_start_word : (s : State) (w : ℕ) (bs : List Bool) → class_of w ≡ slot Start → waiting s
      → s.core.regs.marq ≡ false
      → from_master h bs ≡ false → Calm h (step_of s w).core.frame bs × (lasting (step_of s w) ≡ lasting s)
  unfolding Calm begun begun_of
  calm_start_word s w bs r e q x = (
    subst (λ (t : State). Calm h t.core.frame bs) (sym (start_stepped s w r e))
        (no_part s.core.regs (is_empty s.rbf) q, x),
    ap lasting (start_stepped s w r e),
  )

  -- it drives 1 up to the master address
  drive_broadcast : (s : State) (n : ℕ) → s.core.frame.place ≡ In Broadcast n → s.core.frame.leads ≡ false
      → next_drive s ≡ 1
  unfolding next_drive core_drive drive.drive_of drive.drive_in
  drive_broadcast s n e l =
      let view = view_of s.core.regs (is_empty s.rbf) in
      ap (λ (p : Place). drive_at p s.core (is_empty s.rbf)) e
      ∙ ap (λ (p : Place). bit_of (drive.drive_at s.core.frame p view)) e
      ∙ ap (λ (leads : Bool). bit_of (not leads || view.bit)) l

  drive_master : (s : State) (n : ℕ) → s.core.frame.place ≡ In Master n → s.core.frame.leads ≡ false
      → next_drive s ≡ 1
  unfolding next_drive core_drive drive.drive_of drive.drive_in
  drive_master s n e l =
      let view = view_of s.core.regs (is_empty s.rbf) in
      ap (λ (p : Place). drive_at p s.core (is_empty s.rbf)) e
      ∙ ap (λ (p : Place). bit_of (drive.drive_at s.core.frame p view)) e
      ∙ ap bit_of (pick_no s.core.frame.leads (drive.sent_of 12 (view.own % 4096) n) true l)

  -- a level that is refused: the unit drives 0, so the address lies behind
  refused_calm : (s : State) (b : Bool) (bs : List Bool) → clashes s b ≡ true → Calm h s.core.frame (b ∷ bs)
      → Calm h s.core.frame bs
  unfolding Calm
  refused_calm s b bs e x = go s.core.frame.place refl x
    where
      go : (p : Place) → s.core.frame.place ≡ p → CalmAt h p s.core.frame (b ∷ bs)
          → CalmAt h p s.core.frame bs
      go Waiting q y = tt
      go (In Broadcast n) q y = absurd (subst T (sym e ∙ no_refusal s b (drive_broadcast s n q y.0)) tt)
      go (In Master n) q y = absurd (subst T (sym e ∙ no_refusal s b (drive_master s n q y.0)) tt)
      go (In Slave n) q y = y
      go (In Control n) q y = y
      go (In Length n) q y = y
      go (In Data n) q y = y

  calm_level_word : (s : State) (w : ℕ) (b : Bool) (bs : List Bool) → class_of w ≡ slot (Level b)
      → Calm h s.core.frame (b ∷ bs)
      → s.core.regs.locked ≡ true → s.core.regs.holder ≡ h
      → Calm h (step_of s w).core.frame bs × (lasting (step_of s w) ≡ lasting s)
  unfolding slot_on on_level
  calm_level_word s w b bs r x l o =
      subst (λ (t : State). Calm h t.core.frame bs × (lasting t ≡ lasting s))
      (sym (stepped s w (slot (Level b)) r))
      (pick_ind (λ (t : State). Calm h t.core.frame bs × (lasting t ≡ lasting s)) (clashes s b) s _
      (λ e. (refused_calm s b bs e x, refl))
      (λ e.
      let seen = seen_of s.tbf s.rbf in
      let y = on-level h (core·idle false s.core) seen b bs (view_of s.core.regs seen.clear) l o
      x in
      (y.calm, after_same (on_level s.core b seen) s y.regs y.act)))

  calm_idle_word : (s : State) (w : ℕ) → class_of w ≡ slot Idle → Calm h s.core.frame []
      → lasting (step_of s w) ≡ lasting s
  calm_idle_word s w r x = let y = cut_calm h s.core [] x in idle_keeps s w r y.0 y.1

  told_calm : (y : Told) (s : State) (bs : List Bool) → Calm h s.core.frame bs
      → Calm h (told_on s y).core.frame bs
  unfolding Calm
  told_calm (wrote r tbf) s bs x = x
  told_calm restarted s bs x = tt
  told_calm (gave rbf v) s bs x = x
  told_calm (denied n) s bs x = x

  calm_host_word : (s : State) (w : ℕ) (bs : List Bool) → class_of w ≡ host → Calm h s.core.frame bs
      → Calm h (step_of s w).core.frame bs
  calm_host_word s w bs r x =
      subst (λ (t : State). Calm h t.core.frame bs) (sym (stepped s w host r))
      (told_calm (told_of s.core.regs s.tbf s.rbf w) s bs x)

  -- ---- all conditions together

  pub unwinding : Unwinding unit h
  unfolding begun
  unwinding =
      record {
        Kept = Lasting;
        keep = lasting;
        sees = λ s t e. ap (λ (k : Lasting). observed (begun k)) e;
        asks = λ s t e. ap (λ (k : Lasting). k.regs.marq) e;
        calm = λ s bs. Calm h s.core.frame bs;
        bound = Bonded h;
        bound_waiting = waiting_bonded h;
        bound_word = λ s w bond l. step_bonded h s bond l w;
        bound_names = λ s bond l. bond.fast l;
        on_stray = stray_word;
        on-idle = idle_word;
        wait_level = wait_level_word;
        wait_idle = wait_idle_word;
        wait_host = wait_host_word;
        calm_start = calm_start_word;
        calm_level = λ s w b bs r x l o q. calm_level_word s w b bs r x l o;
        calm_idle = λ s w r x l o q. calm_idle_word s w r x;
        calm_host = calm_host_word;
        host_same = host_word;
        start_same = start_word;
      }

-- demand 3
pub holds : Protected unit
holds = protected unit unwinding

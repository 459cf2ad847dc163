-- Demand 1: the answer to a word is what the tables of refusals say, and a refusal leaves the unit as it was.
use Prim.Native.Nat.{ℕ, suc, ◌/◌, ◌%◌, ◌≤◌, ◌<◌}
use mathlib.Core.Bool.{Bool, true, false, not, ◌&&◌, ◌||◌}
use mathlib.Core.Logic.{⊎_elim}
use mathlib.Core.List.{List}
use mathlib.Core.Path.{◌≡◌, refl, sym, ap, ◌∙◌, subst}
use borrow.Author.Tests.{eq-eqb, eqb-false, le-leb, lt-leb, ne_eqb}
use native.Mathlib.Omega.{arith}
use lib.Dec.{T, eqb, leb, ltb}
use lib.ListN.{drop, get_or, length, get_or-eq_default}
use Rattle.std.specs.Prelude.{Ok, Err, Some, None}
use Rattle.std.specs.declared.option.Option.{Option}
use Rattle.line.specs.Choice.{pick}
use Rattle.line.specs.Slot.{Class, slot, stray, host, class_in, class_of, kind_of, slot_of, slots}
use Rattle.line.proofs.Either.{below_or_not, by_value, either, same_or_not}
use Rattle.line.specs.declared.slot.Slot.{Slot}
use Rattle.line.specs.declared.slot.Slot.TheVariants.{Level, Start, Idle}
use Rattle.place.specs.Slaves.{writes_of}
use Rattle.rules.specs.declared.answer.Refusal.{Refusal}
use Rattle.rules.specs.declared.answer.Refusal.TheVariants.{UnknownKind, StrayBit, UnlistedRegister, UnlistedValue}
use Rattle.rules.specs.declared.answer.Refusal.TheVariants.{LevelUnheard, OutOfTurn, Full, TooFew, Empty, Unable}
use Rattle.rules.specs.declared.answer.Reply.{Reply}
use Rattle.rules.specs.declared.answer.Reply.TheVariants.{Taken}
use Rattle.rules.specs.declared.state.Registers.{Registers}
use Rattle.rules.specs.Answers.{Answer, Looked, fine, number_of}
use Rattle.rules.specs.Refusals.{Ruling, accepted, refused, Ruled, Word, among, apart, lowest, rows, ruling_of}
use Rattle.rules.specs.Refusals.{read_controls, write_controls, undefined_controls, unlisted_mcr}
use Rattle.rules.specs.Registers.{Told, wrote, restarted, gave, denied, unless, told_of, write_told, write_done, read_told}
use Rattle.rules.specs.Registers.{write_refusal, read_refusal, ctr_refusal, cmr_refusal, uar_refusal, tbf_refusal}
use Rattle.rules.specs.Registers.{request_refusal, control_listed, mcr_listed, read_value, register_of, value_of}
use Rattle.rules.specs.State.{State, is_empty}
use Rattle.rules.specs.Step.{answer_of, clashes, next_drive, said_as, slot_on, slot_said, step_as, step_of}
use Rattle.rules.specs.Step.{told_on, told_said}
use Rattle.rules.proofs.Calm.{pick_ind}

-- a refusal, or none, as a ruling
abbrev of_looked : Looked → Ruling
of_looked (Ok x) = accepted
of_looked (Err e) = refused (number_of e)

-- a host word's outcome as a ruling
abbrev of_told : Told → Ruling
of_told (wrote r tbf) = accepted
of_told restarted = accepted
of_told (gave rbf v) = accepted
of_told (denied e) = refused (number_of e)

told_ruling : (t : State) (told : Told) → ruling_of (told_said t told) ≡ of_told told
told_ruling t (wrote r tbf) = refl
told_ruling t restarted = refl
told_ruling t (gave rbf v) = refl
told_ruling t (denied e) = refl

-- ---- a few rows

-- a refusal by its conditions, and the rows of those conditions as they stand in the tables
one_row : (e : Refusal) (x : Bool) → of_looked (pick x (Err e) fine) ≡ pick x (refused (number_of e)) accepted
one_row e true = refl
one_row e false = refl

ctr_rows : (a b c : Bool) → of_looked (pick (a || b || c) fine (Err UnlistedValue))
    ≡ pick (not (a || (b || (c || false))) || false || false || false || false) (refused 4) accepted
ctr_rows true b c = refl
ctr_rows false true c = refl
ctr_rows false false true = refl
ctr_rows false false false = refl

four_rows : (x y z u : Bool) → of_looked (pick (not x) (Err UnlistedValue) (pick y (Err OutOfTurn) (pick z (Err TooFew) (pick u (Err Unable) fine))))
    ≡ pick (not x || false || false || false) (refused 4)
    (pick (y || false) (refused 6) (pick z (refused 8) (pick u (refused 10) accepted)))
four_rows false y z u = refl
four_rows true true z u = refl
four_rows true false true u = refl
four_rows true false false u = one_row Unable u

listed_four : (a b c d : Bool) → (a || b || c || d) ≡ (a || (b || (c || (d || false))))
listed_four true b c d = refl
listed_four false true c d = refl
listed_four false false true d = refl
listed_four false false false true = refl
listed_four false false false false = refl

uar1_rows : (x y : Bool) → of_looked (pick (not x) (Err UnlistedValue) (pick y (Err OutOfTurn) fine))
    ≡ pick (not x || false || false) (refused 4) (pick y (refused 6) accepted)
uar1_rows false y = refl
uar1_rows true y = one_row OutOfTurn y

request_row : (y : Bool) → of_looked (pick y (Err OutOfTurn) fine) ≡ pick (y || false || false) (refused 6) accepted
request_row true = refl
request_row false = refl

sar1_rows : (x y : Bool) → of_looked (pick (not x) (Err UnlistedValue) (pick y (Err OutOfTurn) fine))
    ≡ pick (not x || false) (refused 4) (pick (y || false || false) (refused 6) accepted)
sar1_rows false y = refl
sar1_rows true y = request_row y

mcr_rows : (x y : Bool) → of_looked (pick (not x) (Err UnlistedValue) (pick y (Err OutOfTurn) fine))
    ≡ pick (not x) (refused 4) (pick (y || false || false) (refused 6) accepted)
mcr_rows false y = refl
mcr_rows true y = request_row y

-- ---- the controls

-- the write controls that a frame goes by are those of the tables
writes_agreed : (control : ℕ) → writes_of control ≡ among write_controls control
unfolding writes_of among
writes_agreed control = listed_four (eqb control 0xA) (eqb control 0xB) (eqb control 0xE) (eqb control 0xF)

-- MCR's control is listed where the tables do not refuse it
abbrev Agreed : Bool → ℕ → Type 0
Agreed individual control =
    not (control_listed individual control)
    ≡ (among undefined_controls control || not individual && among read_controls control)

abbrev BothAgreed : ℕ → Type 0
BothAgreed control = Agreed true control × Agreed false control

-- what holds at n and, where k is less, at k holds at each k up to n
up_to : (P : ℕ → Type 0) (n k : ℕ) → P n → (k < n → P k) → k < suc n → P k
up_to P n k at less h =
    ⊎_elim (λ (e : k ≡ n). subst P (sym e) at) (λ (o : k ≡ n → ⊥). less (omega (arith, h, o))) (same_or_not k n)

-- each of the sixteen
agreed : (control : ℕ) → control < 16 → BothAgreed control
unfolding writes_of among
agreed k =
    let P = BothAgreed in
    up_to P 15 k (refl, refl) (up_to P 14 k (refl, refl) (up_to P 13 k (refl, refl) (up_to P 12 k (refl, refl)
    (up_to P 11 k (refl, refl) (up_to P 10 k (refl, refl) (up_to P 9 k (refl, refl) (up_to P 8 k (refl, refl)
    (up_to P 7 k (refl, refl) (up_to P 6 k (refl, refl) (up_to P 5 k (refl, refl) (up_to P 4 k (refl, refl)
    (up_to P 3 k (refl, refl) (up_to P 2 k (refl, refl) (up_to P 1 k (refl, refl) (up_to P 0 k (refl, refl)
    (λ h. absurd (omega (arith, h))))))))))))))))))

mcr_agreed : (v : ℕ) → not (mcr_listed v) ≡ unlisted_mcr v
unfolding mcr_listed
mcr_agreed v =
    let below : v % 16 < 16 = omega arith in
    ⊎_elim (λ (low : v < 0x80).
    rw (lt-leb 0x80 v low, eq-eqb (v / 128) 0 (omega (arith, low))) (agreed (v % 16) below).1)
    (λ (high : 0x80 ≤ v).
    rw (le-leb 0x80 v high, ne_eqb (v / 128) 0 (λ e. omega (arith, high, e))) (agreed (v % 16) below).0)
    (below_or_not v 0x80)

-- ---- writes

-- a word that writes, with no stray bit
abbrev writes : ℕ → ℕ → ℕ → Word
writes w register v = record { whole = w; kind = 1; register = register; value = v }

done_accepted : (r : Registers) (tbf : List ℕ) (register v : ℕ) → of_told (write_done r tbf register v) ≡ accepted
unfolding write_done
done_accepted r tbf register v =
    pick_ind (λ (t : Told). of_told t ≡ accepted) (eqb register 0xE) _ _ (λ e. refl)
    (λ e. pick_ind (λ (t : Told). of_told t ≡ accepted) (eqb register 0 && eqb v 0x08) _ _ (λ f. refl) (λ f. refl))

looked_ruling : (looked : Looked) (told : Told) → of_told told ≡ accepted → of_told (unless looked told) ≡ of_looked looked
looked_ruling (Ok x) told done = done
looked_ruling (Err e) told done = refl

write_ruling : (r : Registers) (tbf : List ℕ) (register v : ℕ) → of_told (write_told r tbf register v)
    ≡ of_looked (write_refusal r (length tbf) register v)
unfolding write_told
write_ruling r tbf register v =
    looked_ruling (write_refusal r (length tbf) register v) (write_done r tbf register v)
    (done_accepted r tbf register v)

module _ (s : State) (w v : ℕ) (clean : eqb (w / 256 % 65536) 0 ≡ true) where
  abbrev Right : ℕ → Type 0
  Right register =
      of_looked (write_refusal s.core.regs (length s.tbf) register v) ≡ lowest (rows s (writes w register v))

  -- what keeps UAR from being written
  abbrev busy : Bool
  busy = s.core.regs.marq || s.core.regs.strq || s.core.regs.slre || s.core.regs.locked

  at_ctr : Right 0x0
  unfolding write_refusal ctr_refusal lowest among
  at_ctr = rw clean (ctr_rows (eqb v 0x00) (eqb v 0x08) (eqb v 0x10))

  at_cmr : Right 0x1
  unfolding write_refusal cmr_refusal lowest among
  at_cmr =
      let r = s.core.regs in
      let y = (eqb v 0x08 || eqb v 0x0B) && (r.marq || r.strq) in
      let z = (eqb v 0x08 && among write_controls r.control || eqb v 0x0B) && ltb (length s.tbf) 2 in
      let u = eqb v 0x08 && r.bit && eqb r.slave r.own || eqb v 0x0B && not r.enabled in
      rw (clean, writes_agreed r.control) (four_rows (eqb v 0x08 || eqb v 0x0B || eqb v 0x0F || eqb v 0x40) y z u
      ∙ ap (λ (x : Bool). pick (not x || false || false || false) (refused 4) (pick (y || false) (refused 6)
      (pick z (refused 8) (pick u (refused 10) accepted))))
      (listed_four (eqb v 0x08) (eqb v 0x0B) (eqb v 0x0F) (eqb v 0x40)))

  at_uar1 : Right 0x2
  unfolding write_refusal uar_refusal lowest among
  at_uar1 = rw clean (uar1_rows (eqb (v / 4 % 4) 0) busy)

  at_uar2 : Right 0x3
  unfolding write_refusal uar_refusal lowest among
  at_uar2 = rw clean (one_row OutOfTurn busy)

  at_sar1 : Right 0x4
  unfolding write_refusal request_refusal lowest among
  at_sar1 = rw clean (sar1_rows (eqb (v % 16) 0) s.core.regs.marq)

  at_sar2 : Right 0x5
  unfolding write_refusal request_refusal lowest among
  at_sar2 = rw clean (request_row s.core.regs.marq)

  at_mcr : Right 0x6
  unfolding write_refusal request_refusal lowest among
  at_mcr =
      let marq = s.core.regs.marq in
      rw clean (mcr_rows (mcr_listed v) marq
      ∙ ap (λ (x : Bool). pick x (refused 4) (pick (marq || false || false) (refused 6) accepted)) (mcr_agreed v))

  at_tbf : Right 0xE
  unfolding write_refusal tbf_refusal lowest among
  at_tbf = rw clean (one_row Full (leb 33 (length s.tbf)))

  write_right : (register : ℕ) → Right register
  unfolding write_refusal lowest among
  write_right register =
      by_value Right register 0x0 at_ctr (λ a. by_value Right register 0x1 at_cmr (λ b.
      by_value Right register 0x2 at_uar1 (λ c. by_value Right register 0x3 at_uar2 (λ d.
      by_value Right register 0x4 at_sar1 (λ e. by_value Right register 0x5 at_sar2 (λ f.
      by_value Right register 0x6 at_mcr (λ g. by_value Right register 0xE at_tbf (λ h.
      rw (clean, a, b, c, d, e, f, g, h)))))))))

-- ---- reads

-- a word that reads, with no stray bit
abbrev reads : ℕ → ℕ → ℕ → Word
reads w register v = record { whole = w; kind = 2; register = register; value = v }

read_ruling : (r : Registers) (tbf rbf : List ℕ) (register : ℕ) → of_told (read_told r tbf rbf register)
    ≡ of_looked (read_refusal register (is_empty rbf))
unfolding read_told
read_ruling r tbf rbf register =
    looked_ruling (read_refusal register (is_empty rbf)) _ (go (eqb register 0xE))
  where
    go : (c : Bool) → of_told (pick c (gave (drop 1 rbf) (get_or rbf 0 0))
        (gave rbf (read_value r (length tbf) (length rbf) register))) ≡ accepted
    go true = refl
    go false = refl

module _ (s : State) (w v : ℕ) (clean : eqb (w % 0x0100_0000) 0 ≡ true) where
  abbrev RightRead : ℕ → Type 0
  RightRead register = of_looked (read_refusal register (is_empty s.rbf)) ≡ lowest (rows s (reads w register v))

  at_rbf : RightRead 0xE
  unfolding read_refusal lowest among is_empty
  at_rbf = rw clean (one_row Empty (is_empty s.rbf))

  read_right : (register : ℕ) → RightRead register
  unfolding read_refusal lowest among
  read_right register =
      by_value RightRead register 0x0 (rw clean) (λ a. by_value RightRead register 0x1 (rw clean) (λ b.
      by_value RightRead register 0x2 (rw clean) (λ c. by_value RightRead register 0x3 (rw clean) (λ d.
      by_value RightRead register 0x4 (rw clean) (λ e. by_value RightRead register 0x5 (rw clean) (λ f.
      by_value RightRead register 0x8 (rw clean) (λ g. by_value RightRead register 0xE at_rbf (λ h.
      let high : leb register 5 ≡ false = lt-leb register 5 (omega (
        arith,
        eqb-false register 0 a,
        eqb-false register 1 b,
        eqb-false register 2 c,
        eqb-false register 3 d,
        eqb-false register 4 e,
        eqb-false register 5 f,
      )) in
      rw (clean, high, a, b, c, d, e, f, g, h)))))))))

-- ---- slots

module _ (s t : State) (register v : ℕ) where
  abbrev said_slot : Option Slot → Answer
  said_slot (Some c) = slot_said s t c
  said_slot None = Err StrayBit

  abbrev RightSlot : ℕ → Type 0
  RightSlot w =
      ruling_of (said_slot (slot_of w))
      ≡ lowest (rows s (record { whole = w; kind = 0; register = register; value = v }))

  level_right : RightSlot 1
  unfolding slot_of slot_said clashes lowest among
  level_right =
      go (eqb (next_drive s) 0)
    where
      go : (b : Bool) → ruling_of (pick b (Err LevelUnheard) (Ok (Taken (next_drive t)))) ≡ pick b (refused 5) accepted
      go true = refl
      go false = refl

  slot_right : (w : ℕ) → RightSlot w
  unfolding slot_of slot_said clashes lowest among
  slot_right w =
      by_value RightSlot w 0 refl (λ a. by_value RightSlot w 1 level_right (λ b.
      by_value RightSlot w 2 refl (λ c. by_value RightSlot w 3 refl (λ d.
      let past : 4 ≤ w = omega (arith, eqb-false w 0 a, eqb-false w 1 b, eqb-false w 2 c, eqb-false w 3 d) in
      rw (get_or-eq_default slots None {n = w} past, le-leb 4 w past)))))

-- ---- any word

module _ (s t : State) (w : ℕ) where
  abbrev told_as : ℕ → Told
  told_as kind =
      let r = s.core.regs in
      pick (eqb kind 1) (pick (eqb (w / 256 % 65536) 0) (write_told r s.tbf (register_of w) (value_of w)) (denied StrayBit))
      (pick (eqb kind 2) (pick (eqb (w % 0x0100_0000) 0) (read_told r s.tbf s.rbf (register_of w)) (denied StrayBit))
      (denied UnknownKind))

  abbrev said_by : Class → ℕ → Answer
  said_by (slot c) kind = slot_said s t c
  said_by stray kind = Err StrayBit
  said_by host kind = told_said t (told_as kind)

  abbrev RightKind : ℕ → Type 0
  RightKind kind =
      ruling_of (said_by (pick (eqb kind 0) (class_in (slot_of w)) host) kind)
      ≡ lowest (rows s (record { whole = w; kind = kind; register = register_of w; value = value_of w }))

  right_write : RightKind 1
  unfolding lowest among
  right_write =
      let told = write_told s.core.regs s.tbf (register_of w) (value_of w) in
      ⊎_elim (λ clean. ap (λ (b : Bool). ruling_of (told_said t (pick b told (denied StrayBit)))) clean ∙ told_ruling t told
      ∙ write_ruling s.core.regs s.tbf (register_of w) (value_of w)
      ∙ write_right s w (value_of w) clean (register_of w)) (λ stray. rw stray) (either (eqb (w / 256 % 65536) 0))

  right_read : RightKind 2
  unfolding lowest among
  right_read =
      let told = read_told s.core.regs s.tbf s.rbf (register_of w) in
      ⊎_elim (λ clean. ap (λ (b : Bool). ruling_of (told_said t (pick b told (denied StrayBit)))) clean ∙ told_ruling t told
      ∙ read_ruling s.core.regs s.tbf s.rbf (register_of w)
      ∙ read_right s w (value_of w) clean (register_of w)) (λ stray. rw stray) (either (eqb (w % 0x0100_0000) 0))

  said_in : (c : Option Slot) → said_by (class_in c) 0 ≡ said_slot s t (register_of w) (value_of w) c
  said_in (Some c) = refl
  said_in None = refl

  right_kind : (kind : ℕ) → RightKind kind
  unfolding lowest among
  right_kind kind =
      by_value RightKind kind 0 (ap ruling_of (said_in (slot_of w)) ∙ slot_right s t (register_of w) (value_of w) w) (λ a.
      by_value RightKind kind 1 right_write (λ b. by_value RightKind kind 2 right_read (λ c. rw (a, b, c))))

said-by : (s t : State) (w : ℕ) (k : Class) → said_as k s t w ≡ said_by s t w k (kind_of w)
unfolding told_of
said-by s t w (slot c) = refl
said-by s t w stray = refl
said-by s t w host = refl

-- the answer to a word is what the tables say
pub ruling_right : (s : State) (w : ℕ) → ruling_of (answer_of s w) ≡ lowest (rows s (apart w))
unfolding answer_of class_of
ruling_right s w = ap ruling_of (said-by s (step_of s w) w (class_of w)) ∙ right_kind s (step_of s w) w (kind_of w)

-- ---- "A refusal changes no state"

abbrev is_given : Ruling → Bool
is_given accepted = true
is_given (refused n) = false

pub given_is_none : (reply : Reply) (n : Refusal) → (Ok reply) ≡ (Err n) → ⊥
given_is_none reply n e = subst T (ap (λ (a : Answer). is_given (ruling_of a)) e) tt

told_unchanged : (s t : State) (told : Told) (n : Refusal) → told_said t told ≡ Err n → told_on s told ≡ s
told_unchanged s t (wrote r tbf) n e = absurd (given_is_none _ n e)
told_unchanged s t restarted n e = absurd (given_is_none _ n e)
told_unchanged s t (gave rbf v) n e = absurd (given_is_none _ n e)
told_unchanged s t (denied m) n e = refl

level_unchanged : (b : Bool) (s t : State) (reply : Reply) (n : Refusal) → pick b (Err LevelUnheard) (Ok reply) ≡ Err n
    → pick b s t ≡ s
level_unchanged true s t reply n e = refl
level_unchanged false s t reply n e = absurd (given_is_none reply n e)

slot_unchanged : (s t : State) (c : Slot) (n : Refusal) → slot_said s t c ≡ Err n → slot_on s c ≡ s
unfolding slot_said slot_on
slot_unchanged s t (Level bit) n e = level_unchanged (clashes s bit) s _ _ n e
slot_unchanged s t Start n e = absurd (given_is_none _ n e)
slot_unchanged s t Idle n e = absurd (given_is_none _ n e)

as_unchanged : (s : State) (w : ℕ) (k : Class) (n : Refusal) → said_as k s (step_as k s w) w ≡ Err n → step_as k s w ≡ s
as_unchanged s w (slot c) n e = slot_unchanged s (slot_on s c) c n e
as_unchanged s w stray n e = refl
as_unchanged s w host n e = told_unchanged s _ (told_of s.core.regs s.tbf s.rbf w) n e

pub refused_unchanged : (s : State) (w : ℕ) (n : Refusal) → answer_of s w ≡ Err n → step_of s w ≡ s
unfolding answer_of step_of
refused_unchanged s w n e = as_unchanged s w (class_of w) n e

-- demand 1 for a state and an answer that are those of the definitions
pub ruled : (s : State) (w : ℕ) (t : State) (a : Answer) → t ≡ step_of s w → a ≡ answer_of s w → Ruled s w t a
ruled s w t a same said =
    record {
      ruling = ap ruling_of said ∙ ruling_right s w;
      unchanged = λ n e. same ∙ refused_unchanged s w n (sym said ∙ e);
    }

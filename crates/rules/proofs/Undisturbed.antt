-- SLRE and RBF over a list of words, in which the host leaves them and the unit receives nothing.
use mathlib.Core.Bool.{Bool, true, false, false≢true, not, ◌&&◌, ◌||◌}
use mathlib.Core.List.{List, [], ◌∷◌}
use mathlib.Core.Path.{◌≡◌, refl, sym, ap₂, ◌∙◌}
use Prim.Native.Nat.{ℕ, ◌/◌, ◌%◌}
use native.Mathlib.Omega.{arith}
use borrow.Author.Tests.{eqb-true, not-true}
use lib.Dec.{eqb}
use lib.ListN.{length}
use Rattle.std.specs.Prelude.{Some, None}
use Rattle.line.specs.Numbers.{cmr_clear_slre, ctr_nothing, ctr_reset, ctr_set_slre, kind_read, kind_write, reg_cmr, reg_ctr}
use Rattle.line.specs.Numbers.{reg_rbf, reg_sar1, reg_sar2, reg_tbf, reg_uar1, reg_uar2}
use Rattle.line.specs.Slot.{Class, slot, stray, host, class_of, kind_of}
use Rattle.line.proofs.Either.{both, neither}
use Rattle.isolation.specs.Runs.{run}
use Rattle.rules.specs.Machine.{unit}
use Rattle.rules.proofs.Looked.{unless_ind}
use Rattle.rules.specs.declared.answer.Refusal.{Refusal}
use Rattle.rules.specs.Registers.{Told, wrote, gave, denied, commanded, lor_copied, mcr_written, read_told}
use Rattle.rules.specs.Registers.{read_refusal, register_of, requested, told_of, uar1_written, value_of, write_done}
use Rattle.rules.specs.Registers.{write_refusal, write_told, written}
use Rattle.rules.specs.State.{State, is_empty}
use Rattle.rules.specs.Step.{step_as, step_of, told_on}
use Rattle.rules.specs.declared.state.Registers.{Registers}
use Rattle.rules.proofs.Calm.{pick_ind}
use Rattle.rules.proofs.Ready.{AsReady, receives, slot_ready}

-- ---- a host word

-- CTR but for "00H nothing", "0FH clear SLRE", and a read of RBF
unfoldable pub touches : ℕ → Bool
touches w =
    eqb (kind_of w) kind_write && eqb (register_of w) reg_ctr && not (eqb (value_of w) ctr_nothing)
    || eqb (kind_of w) kind_write && eqb (register_of w) reg_cmr && eqb (value_of w) cmr_clear_slre
    || eqb (kind_of w) kind_read && eqb (register_of w) reg_rbf

-- tests of a word that do not all hold: how the others come out if these do
not_both : (a b : Bool) → (a && b) ≡ false → a ≡ true → b ≡ true → ⊥
not_both true true e p q = false≢true (sym e)
not_both true false e p q = false≢true q
not_both false b e p q = false≢true p

unless : (a b c : Bool) → (a && b && not c) ≡ false → a ≡ true → b ≡ true → c ≡ true
unless true true true e p q = refl
unless true true false e p q = absurd (false≢true (sym e))
unless true false c e p q = absurd (false≢true q)
unless false b c e p q = absurd (false≢true p)

module _ (r : Registers) where
  Same : Registers → Type 0
  Same x = x.slre ≡ r.slre

  command_same : (v : ℕ) → (eqb v cmr_clear_slre ≡ true → ⊥) → Same (commanded r v)
  unfolding Same commanded requested lor_copied
  command_same v other =
      pick_ind Same (eqb v 0x08) _ _ (λ t. refl)
      (λ t. pick_ind Same (eqb v 0x0B) _ _ (λ u. refl)
      (λ u. pick_ind Same (eqb v cmr_clear_slre) _ _ (λ x. absurd (other x))
      (λ x. pick_ind Same r.locked _ _ (λ y. refl) (λ y. refl))))

  written_same : (register v : ℕ) → (eqb register reg_ctr ≡ true → v ≡ ctr_nothing)
      → (eqb register reg_cmr ≡ true → eqb v cmr_clear_slre ≡ true → ⊥) → Same (written r register v)
  unfolding Same written uar1_written mcr_written
  written_same register v ctr cmr =
      pick_ind Same (eqb register reg_ctr) _ _
      (λ t. pick_ind Same (eqb v ctr_set_slre) _ _ (λ u. absurd (omega (arith, eqb-true v ctr_set_slre u, ctr t)))
      (λ u. refl))
      (λ t. pick_ind Same (eqb register reg_cmr) _ _ (λ u. command_same v (cmr u))
      (λ u. pick_ind Same (eqb register reg_uar1) _ _ (λ x. refl)
      (λ x. pick_ind Same (eqb register reg_uar2) _ _ (λ y. refl)
      (λ y. pick_ind Same (eqb register reg_sar1) _ _ (λ z. refl)
      (λ z. pick_ind Same (eqb register reg_sar2) _ _ (λ k. refl) (λ k. refl))))))

module _ (s : State) where
  Spares : Told → Type 0
  Spares t = AsReady s (told_on s t)

  wrote_spares : (r : Registers) (tbf : List ℕ) → r.slre ≡ s.core.regs.slre → Spares (wrote r tbf)
  unfolding Spares
  wrote_spares r tbf e = record { slre = e; rbf = refl }

  gave_spares : (v : ℕ) → Spares (gave s.rbf v)
  unfolding Spares
  gave_spares v = record { slre = refl; rbf = refl }

  denied_spares : (e : Refusal) → Spares (denied e)
  unfolding Spares
  denied_spares e = record { slre = refl; rbf = refl }

  on_write : (register v : ℕ) → (eqb register reg_ctr ≡ true → v ≡ ctr_nothing)
      → (eqb register reg_cmr ≡ true → eqb v cmr_clear_slre ≡ true → ⊥)
      → Spares (write_told s.core.regs s.tbf register v)
  unfolding write_told write_done Same
  on_write register v ctr cmr =
      unless_ind Spares (write_refusal s.core.regs (length s.tbf) register v) _
      (pick_ind Spares (eqb register reg_tbf) _ _ (λ u. wrote_spares _ _ refl)
      (λ u. pick_ind Spares (eqb register reg_ctr && eqb v ctr_reset) _ _
      (λ x.
      let y = both (eqb register reg_ctr) (eqb v ctr_reset) x in
      absurd (omega (arith, eqb-true v ctr_reset y.1, ctr y.0)))
      (λ x. wrote_spares _ _ (written_same s.core.regs register v ctr cmr))))
      denied_spares

  on_read : (register : ℕ) → (eqb register reg_rbf ≡ true → ⊥)
      → Spares (read_told s.core.regs s.tbf s.rbf register)
  unfolding read_told
  on_read register other =
      unless_ind Spares (read_refusal register (is_empty s.rbf)) _
      (pick_ind Spares (eqb register reg_rbf) _ _ (λ u. absurd (other u)) (λ u. gave_spares _))
      denied_spares

  host_ready : (w : ℕ) → touches w ≡ false → Spares (told_of s.core.regs s.tbf s.rbf w)
  unfolding told_of touches
  host_ready w e =
      let writes = eqb (kind_of w) kind_write in
      let sets = eqb (register_of w) reg_ctr in
      let nothing = eqb (value_of w) ctr_nothing in
      let commands = eqb (register_of w) reg_cmr in
      let clears = eqb (value_of w) cmr_clear_slre in
      let reads = eqb (kind_of w) kind_read in
      let takes = eqb (register_of w) reg_rbf in
      let last = neither (writes && sets && not nothing || writes && commands && clears) (reads && takes) e in
      let first = neither (writes && sets && not nothing) (writes && commands && clears) last.0 in
      pick_ind Spares writes _ _
      (λ t. pick_ind Spares (eqb (w / 256 % 65536) 0) _ _
      (λ u. on_write (register_of w) (value_of w)
      (λ x. eqb-true (value_of w) ctr_nothing (unless writes sets nothing first.0 t x))
      (λ x y. not_both (writes && commands) clears first.1 (ap₂ ◌&&◌ t x) y))
      (λ u. denied_spares _))
      (λ t. pick_ind Spares reads _ _
      (λ u. pick_ind Spares (eqb (w % 0x0100_0000) 0) _ _
      (λ x. on_read (register_of w) (λ y. not_both reads takes last.1 u y)) (λ x. denied_spares _))
      (λ u. denied_spares _))

-- ---- a list of words

-- a slot in which the unit receives nothing, or a word of the host's that leaves SLRE and RBF
abbrev pub spares : Class → State → ℕ → Bool
spares (slot c) s w = not (receives s)
spares stray s w = not (receives s)
spares host s w = not (touches w)

unfoldable pub undisturbed : State → List ℕ → Bool
undisturbed s [] = true
undisturbed s (w ∷ ws) = spares (class_of w) s w && undisturbed (unit.step s w) ws

pub step_ready : (s : State) (w : ℕ) → spares (class_of w) s w ≡ true → AsReady s (unit.step s w)
unfolding step_of Spares
step_ready s w e = go (class_of w) e
  where
    go : (k : Class) → spares k s w ≡ true → AsReady s (step_as k s w)
    go (slot c) e = slot_ready s (Some c) w (not-true (receives s) e)
    go stray e = slot_ready s None w (not-true (receives s) e)
    go host e = host_ready s w (not-true (touches w) e)

pub stays_ready : (s : State) (A : List ℕ) → undisturbed s A ≡ true → AsReady s (run unit s A)
unfolding undisturbed run
stays_ready s [] e = record { slre = refl; rbf = refl }
stays_ready s (w ∷ A) e =
    let now = both (spares (class_of w) s w) _ e in
    let first = step_ready s w now.0 in
    let rest = stays_ready (unit.step s w) A now.1 in
    record { slre = rest.slre ∙ first.slre; rbf = rest.rbf ∙ first.rbf }

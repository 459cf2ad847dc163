-- A stranger's frame at a locked unit: what it may come to at each place, and that it ends without a trace.
use mathlib.Core.Bool.{Bool, true, false, not, ◌&&◌, ◌||◌}
use mathlib.Core.Logic.{◌⊎◌, inl, inr, ⊎_elim}
use mathlib.Core.Path.{◌≡◌, refl, sym, ap, ap₂, ◌∙◌, subst}
use mathlib.Core.List.{List}
use Prim.Native.Nat.{ℕ, ◌-◌, ◌^◌, ◌≤◌, ◌<◌}
use borrow.Author.Tests.{eqb-true}
use lib.Dec.{T, eqb}
use Rattle.line.specs.Choice.{pick}
use Rattle.place.specs.Set.{frame·control}
use Rattle.place.specs.Slaves.{writes_of, open_to}
use Rattle.place.specs.declared.Field.{Field}
use Rattle.place.specs.declared.Field.TheVariants.{Broadcast, Master, Slave, Control, Length, Data}
use Rattle.place.specs.declared.Frame.{Frame}
use Rattle.place.specs.declared.Place.{Place}
use Rattle.place.specs.declared.Place.TheVariants.{Waiting, In}
use Rattle.isolation.specs.Words.{from_master, spells}
use Rattle.rules.specs.Endings.{acted, draws, ties, lock_after, part_ended, data_ended, length_ended, ended_of}
use Rattle.rules.specs.Endings.{frees, request_ended, slave_ended}
use Rattle.rules.specs.Set.{core·regs}
use Rattle.rules.specs.declared.state.Act.TheVariants.{Nothing}
use Rattle.rules.specs.declared.state.Core.{Core}
use Rattle.rules.specs.declared.state.Registers.{Registers}

-- either way of a choice
pub pick_ind : {A : Type 0} (P : A → Type 0) (b : Bool) (x y : A) → (b ≡ true → P x) → (b ≡ false → P y)
    → P (pick b x y)
pick_ind P true x y f g = f refl
pick_ind P false x y f g = g refl

pub pick_yes : {A : Type 0} (b : Bool) (x y : A) → b ≡ true → pick b x y ≡ x
pick_yes b x y e = rw e

pub pick_no : {A : Type 0} (b : Bool) (x y : A) → b ≡ false → pick b x y ≡ y
pick_no b x y e = rw e

-- a slave that sends its status or its lock: what a stranger may come to
pub record Harmless (f : Frame) : Type 0 where
  pub follows : f.leads ≡ false
  pub sends : f.sends ≡ true
  pub open_control : open_to f.control ≡ true

-- at each place, a frame of another's than h, of which the levels bs are still to come
abbrev pub CalmAt : ℕ → Place → Frame → List Bool → Type 0
CalmAt h Waiting f bs = Unit {0}
CalmAt h (In Broadcast n) f bs = (f.leads ≡ false) × (from_master h bs ≡ false)
CalmAt h (In Master n) f bs =
    (f.leads ≡ false) × (n ≤ 12) × (f.shift < 2 ^ n) × (spells h (12 - n) f.shift bs ≡ false)
CalmAt h (In Slave n) f bs = (f.leads ≡ false) × (eqb h f.master ≡ false)
CalmAt h (In Control n) f bs = (f.leads ≡ false) × (eqb h f.master ≡ false) × (4 < n → Harmless f)
CalmAt h (In Length n) f bs = Harmless f
CalmAt h (In Data n) f bs = Harmless f

unfoldable pub Calm : ℕ → Frame → List Bool → Type 0
Calm h f bs = CalmAt h f.place f bs

-- the three controls that are open to all are none that draws from TBF, ties the lock, unlocks or receives
open_is : (control : ℕ) → open_to control ≡ true → (control ≡ 0) ⊎ ((control ≡ 4) ⊎ (control ≡ 5))
unfolding open_to
open_is control e =
    go (eqb control 0) (eqb control 4) (eqb control 5) refl refl refl e
  where
    go : (p q r : Bool) → eqb control 0 ≡ p → eqb control 4 ≡ q → eqb control 5 ≡ r → (p || q || r) ≡ true
        → (control ≡ 0) ⊎ ((control ≡ 4) ⊎ (control ≡ 5))
    go true q r a b c e = inl (eqb-true control 0 a)
    go false true r a b c e = inr (inl (eqb-true control 4 b))
    go false false true a b c e = inr (inr (eqb-true control 5 c))
    go false false false a b c e = absurd (subst T (sym e) tt)

module _ (P : ℕ → Type 0) (at-0 : P 0) (at-4 : P 4) (at_5 : P 5) where
  open_each : (control : ℕ) → open_to control ≡ true → P control
  open_each control e =
      ⊎_elim (λ z. subst P (sym z) at-0) (λ y. ⊎_elim (λ z. subst P (sym z) at-4) (λ z. subst P (sym z) at_5) y)
      (open_is control e)

pub open_reads : (control : ℕ) → open_to control ≡ true → writes_of control ≡ false
unfolding writes_of
open_reads = open_each (λ (k : ℕ). writes_of k ≡ false) refl refl refl

pub harmless_draws : {f : Frame} → Harmless f → draws f ≡ false
unfolding draws
harmless_draws {f} s =
    open_each (λ (k : ℕ). draws (frame·control k f) ≡ false) (rw (s.sends, s.follows)) (rw (s.sends, s.follows))
    (rw (s.sends, s.follows)) f.control s.open_control

never : (b : Bool) → (b && false) ≡ false
never true = refl
never false = refl

pub harmless_ties : {f : Frame} → Harmless f → ties f ≡ false
unfolding ties
harmless_ties {f} s =
    open_each (λ (k : ℕ). ties (frame·control k f) ≡ false) (never (not f.broadcast)) (never (not f.broadcast))
    (never (not f.broadcast)) f.control s.open_control

-- it moves no lock
harmless_lock : {f : Frame} → Harmless f → (whole : Bool) (r : Registers) → lock_after f whole r ≡ r
unfolding lock_after ties frees
harmless_lock {f} s whole r =
    let untied = never (not f.broadcast) in
    let kept = ap (λ (b : Bool). b && whole) untied in
    open_each (λ (k : ℕ). lock_after (frame·control k f) whole r ≡ r)
    (pick_no (ties (frame·control 0 f)) _ _ untied ∙ pick_no _ _ _ kept)
    (pick_no (ties (frame·control 4 f)) _ _ untied ∙ pick_no _ _ _ kept)
    (pick_no (ties (frame·control 5 f)) _ _ untied ∙ pick_no _ _ _ kept) f.control s.open_control

-- ---- the end of a stranger's frame leaves no trace

module _ (c : Core) (s : Harmless c.frame) where
  length-ended : length_ended c ≡ acted Nothing c
  unfolding length_ended
  length-ended = rw (harmless_draws s)

  data-ended : (whole : Bool) → data_ended c whole ≡ acted Nothing c
  unfolding data_ended part_ended
  data-ended whole =
      ap (λ (r : Registers). part_ended (core·regs r c) whole) (harmless_lock s whole c.regs)
      ∙ pick_no (draws c.frame) _ _ (harmless_draws s) ∙ pick_yes c.frame.sends _ _ s.sends

-- how a part ends rests on the lead and on the place
ended_at : (c : Core) (p : Place) (whole : Bool) → c.frame.leads ≡ false → c.frame.place ≡ p
    → ended_of c whole ≡ slave_ended p c whole
unfolding ended_of
ended_at c p whole l e =
    ap₂ (λ (leads : Bool) (q : Place). pick leads (request_ended c whole) (slave_ended q c whole)) l e

-- at any place inside it
pub calm_ended : (h : ℕ) (field : Field) (n : ℕ) (c : Core) (bs : List Bool) (whole : Bool)
    → c.frame.place ≡ In field n → CalmAt h (In field n) c.frame bs → ended_of c whole ≡ acted Nothing c
calm_ended h Broadcast n c bs whole e x = ended_at c (In Broadcast n) whole x.0 e
calm_ended h Master n c bs whole e x = ended_at c (In Master n) whole x.0 e
calm_ended h Slave n c bs whole e x = ended_at c (In Slave n) whole x.0 e
calm_ended h Control n c bs whole e x = ended_at c (In Control n) whole x.0 e
calm_ended h Length n c bs whole e x = ended_at c (In Length n) whole x.follows e ∙ length-ended c x
calm_ended h Data n c bs whole e x = ended_at c (In Data n) whole x.follows e ∙ data-ended c x whole

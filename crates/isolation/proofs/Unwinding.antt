-- What is asked of a machine, word by word, so that the holder of its lock is protected. `keep` is all of the state
-- but what belongs to the frame under way; `calm s bs`: the unit is in a frame that is not h's, of which the levels
-- bs are still to come; `bound s`: no word can make the lock, as long as it lasts, name another than h.
use mathlib.Core.Bool.{Bool, true, false}
use mathlib.Core.Path.{◌≡◌}
use mathlib.Core.List.{List, [], ◌∷◌}
use Prim.Native.Nat.{ℕ}
use Rattle.line.specs.Slot.{slot, stray, host, class_of}
use Rattle.line.specs.declared.slot.Slot.TheVariants.{Level, Start, Idle}
use Rattle.isolation.specs.Words.{from_master}
use Rattle.isolation.specs.Runs.{Machine, shown, latest}

pub record Unwinding (M : Machine) (h : ℕ) : Type 1 where
  pub Kept : Type 0
  pub keep : M.State → Kept
  pub sees : (s t : M.State) → keep s ≡ keep t → M.observed s ≡ M.observed t
  pub asks : (s t : M.State) → keep s ≡ keep t → M.requesting s ≡ M.requesting t
  pub calm : M.State → List Bool → Type 0
  -- the lock names one master until it ends
  pub bound : M.State → Type 0
  pub bound_waiting : (s : M.State) → M.waiting s → M.holder s ≡ h → bound s
  pub bound_word : (s : M.State) (w : ℕ) → bound s → M.locked s ≡ true → bound (M.step s w)
  pub bound_names : (s : M.State) → bound s → M.locked s ≡ true → M.holder s ≡ h
  -- a word with a stray bit is refused, and changes nothing
  pub on_stray : (s : M.State) (w : ℕ) → class_of w ≡ stray
      → (M.step s w ≡ s) × ((d : ℕ) → latest d (M.answer s w) ≡ d)
  -- idle ends any frame, and releases the line
  pub on-idle : (s : M.State) (w : ℕ) → class_of w ≡ slot Idle
      → M.waiting (M.step s w) × (M.requesting (M.step s w) ≡ false → (d : ℕ) → latest d (M.answer s w) ≡ 1)
  -- a unit that waits
  pub wait_level : (s : M.State) (w : ℕ) (b : Bool) → class_of w ≡ slot (Level b) → M.waiting s
      → M.requesting s ≡ false
      → M.waiting (M.step s w) × (keep (M.step s w) ≡ keep s) × (latest 1 (M.answer s w) ≡ 1)
  pub wait_idle : (s : M.State) (w : ℕ) → class_of w ≡ slot Idle → M.waiting s → keep (M.step s w) ≡ keep s
  pub wait_host : (s : M.State) (w : ℕ) → class_of w ≡ host → M.waiting s
      → M.waiting (M.step s w) × (M.requesting (M.step s w) ≡ false → latest 1 (M.answer s w) ≡ 1)
  -- a frame of another's
  pub calm_start : (s : M.State) (w : ℕ) (bs : List Bool) → class_of w ≡ slot Start → M.waiting s
      → M.requesting s ≡ false → from_master h bs ≡ false
      → calm (M.step s w) bs × (keep (M.step s w) ≡ keep s)
  pub calm_level : (s : M.State) (w : ℕ) (b : Bool) (bs : List Bool) → class_of w ≡ slot (Level b) → calm s (b ∷ bs)
      → M.locked s ≡ true → M.holder s ≡ h → M.requesting s ≡ false
      → calm (M.step s w) bs × (keep (M.step s w) ≡ keep s)
  pub calm_idle : (s : M.State) (w : ℕ) → class_of w ≡ slot Idle → calm s [] → M.locked s ≡ true → M.holder s ≡ h
      → M.requesting s ≡ false → keep (M.step s w) ≡ keep s
  pub calm_host : (s : M.State) (w : ℕ) (bs : List Bool) → class_of w ≡ host → calm s bs → calm (M.step s w) bs
  -- the words that are kept
  pub host_same : (s t : M.State) (w : ℕ) → class_of w ≡ host → keep s ≡ keep t
      → (keep (M.step s w) ≡ keep (M.step t w)) × (shown host (M.answer s w) ≡ shown host (M.answer t w))
  pub start_same : (s t : M.State) (w : ℕ) → class_of w ≡ slot Start → M.waiting s → M.waiting t → keep s ≡ keep t
      → M.requesting s ≡ false
      → (M.step s w ≡ M.step t w) × (M.answer s w ≡ M.answer t w)
      × ((d e : ℕ) → latest d (M.answer s w) ≡ latest e (M.answer s w))

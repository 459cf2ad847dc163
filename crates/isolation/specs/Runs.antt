-- Demand 3: two runs of a machine on two lists of words, and what it is for the holder of the lock to be protected
-- from everybody else's frames.
use Rattle.std.specs.Prelude.{Bool, true, false, ◌≡◌, List, [], ◌∷◌, map, ℕ, suc, ◌+◌, ◌*◌, ◌/◌, ◌%◌, ◌≤◌, ◌<◌, eqb, take, get_or}
use Rattle.line.specs.Choice.{pick}
use Rattle.line.specs.Numbers.{drive_released, kind_refused}
use Rattle.line.specs.Slot.{Class, slot, stray, host, class_of, kind_of}
use Rattle.isolation.specs.Words.{spaced, count, keeps, kept}

-- a machine that takes words: the state after a word and its answer, and what the claim speaks of
pub record Machine : Type 1 where
  pub State : Type 0
  pub step : State → ℕ → State
  pub answer : State → ℕ → ℕ
  -- "the buffers, the lock and the return codes"
  pub Observed : Type 0
  pub observed : State → Observed
  pub waiting : State → Type 0
  -- the lock, and the master that it names
  pub locked : State → Bool
  pub holder : State → ℕ
  -- "a master request stands while MARQ is set"
  pub requesting : State → Bool

-- ---- answers

-- an answer as it is compared: "a host word's apart from its drive bits"
unfoldable pub shown : Class → ℕ → ℕ
shown (slot c) a = a
shown stray a = a
shown host a = a / 0x400 * 0x400 + a % 0x100

-- "The slot driven is bits 9-8 of the latest answer before that slot's word that is no refusal": after one answer
-- more, and after a list of them
unfoldable pub latest : ℕ → ℕ → ℕ
latest d a = pick (eqb (kind_of a) kind_refused) d (a / 0x100 % 4)

unfoldable pub driven : ℕ → List ℕ → ℕ
driven d [] = d
driven d (a ∷ l) = driven (latest d a) l

-- ---- places

-- "wherever equally many of those words lie behind both": i words of A and j of B
abbrev pub Behind : ℕ → List ℕ → List ℕ → ℕ → ℕ → Type 0
Behind h A B i j = count (take i (keeps h A)) ≡ count (take j (keeps h B))

-- "like places among them": the words i of A and j of B are kept, with equally many before them
pub record Places (h : ℕ) (A B : List ℕ) (i j : ℕ) : Type 0 where
  pub first : get_or (keeps h A) i false ≡ true
  pub second : get_or (keeps h B) j false ≡ true
  pub behind : Behind h A B i j

-- ---- runs

module _ (M : Machine) where
  -- "each word meeting the state that the one before left"; a list may go over any number of runs
  unfoldable pub run : M.State → List ℕ → M.State
  run s [] = s
  run s (w ∷ ws) = run (M.step s w) ws

  unfoldable pub answers : M.State → List ℕ → List ℕ
  answers s [] = []
  answers s (w ∷ ws) = M.answer s w ∷ answers (M.step s w) ws

  -- how far the comparison goes, i words: "until the lock ends", and "up to and with that word", so the unit is locked
  -- before each of them, to whomever; and "no master request standing then or accepted later"
  pub record Compared (s : M.State) (A : List ℕ) (i : ℕ) : Type 0 where
    pub held : (k : ℕ) → k < i → M.locked (run s (take k A)) ≡ true
    pub unasked : (k : ℕ) → k ≤ i → M.requesting (run s (take k A)) ≡ false

  -- "Both begin in one state, waiting for a start .. with an idle slot between any two starts"; "The holder is the
  -- master that the lock names at the beginning"; "the words kept are one and the same list". That the unit is locked,
  -- and asks for nothing, is in `Compared`
  pub record Given (h : ℕ) (s : M.State) (A B : List ℕ) : Type 0 where
    pub waits : M.waiting s
    pub names : M.holder s ≡ h
    pub spaced_first : spaced false (map class_of A) ≡ true
    pub spaced_second : spaced false (map class_of B) ≡ true
    pub same : kept h A ≡ kept h B

  -- "the two runs are alike in every slot driven in the holder's frames, in every answer to those words .. and ..
  -- in the buffers, the lock and the return codes"
  pub record Alike (h : ℕ) (s : M.State) (A B : List ℕ) : Type 0 where
    pub states : (i j : ℕ) → Behind h A B i j → Compared s A i → Compared s B j
        → M.observed (run s (take i A)) ≡ M.observed (run s (take j B))
    pub words : (i j : ℕ) → Places h A B i j → get_or A i 0 ≡ get_or B j 0
    pub replies : (i j : ℕ) → Places h A B i j → Compared s A (suc i) → Compared s B (suc j)
        → shown (class_of (get_or A i 0)) (get_or (answers s A) i 0)
        ≡ shown (class_of (get_or B j 0)) (get_or (answers s B) j 0)
    pub slots : (i j : ℕ) → Places h A B i j → Compared s A (suc i) → Compared s B (suc j)
        → (class_of (get_or A i 0) ≡ host → ⊥)
        → driven drive_released (take i (answers s A)) ≡ driven drive_released (take j (answers s B))

  -- the claim: the holder of the lock is protected
  unfoldable pub Protected : Type 0
  Protected = (h : ℕ) (s : M.State) (A B : List ℕ) → Given h s A B → Alike h s A B

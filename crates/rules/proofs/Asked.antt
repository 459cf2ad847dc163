-- What an auditor asks next, said of the unit: what is compared is all of buffers, lock and codes; nothing of a
-- stranger's frame is seen in them; and the lock goes on as far in both lists.
use mathlib.Core.Bool.{true, false}
use mathlib.Core.Path.{◌≡◌, ap}
use mathlib.Core.List.{List, [], ◌∷◌, ◌++◌, map}
use Prim.Native.Nat.{ℕ, suc, ◌≤◌, ◌<◌}
use lib.ListN.{length, take, get_or}
use Rattle.line.specs.Numbers.{drive_released}
use Rattle.line.specs.Slot.{class_of, host}
use Rattle.place.specs.declared.Place.TheVariants.{Waiting}
use Rattle.isolation.specs.Words.{count, keeps, kept, spaced}
use Rattle.isolation.specs.Runs.{Alike, Behind, Compared, Given, Places, Protected, answers, driven, run, shown}
use Rattle.isolation.proofs.Ends.{as_far, ends_alike, next_driven, struck_unseen}
use Rattle.rules.specs.State.{State}
use Rattle.rules.specs.Machine.{Observed, observed, unit, waiting}
use Rattle.rules.proofs.Protects.{holds}

-- ---- what is compared

-- "the buffers, the lock and the return codes" of two states, each for itself
pub record SameSeen (s t : State) : Type 0 where
  pub tbf : s.tbf ≡ t.tbf
  pub rbf : s.rbf ≡ t.rbf
  pub locked : s.core.regs.locked ≡ t.core.regs.locked
  pub holder : s.core.regs.holder ≡ t.core.regs.holder
  pub marc : s.core.regs.marc ≡ t.core.regs.marc
  pub slrc : s.core.regs.slrc ≡ t.core.regs.slrc

-- states that are observed alike have all of these alike
pub observed_all : (s t : State) → observed s ≡ observed t → SameSeen s t
observed_all s t e =
    record {
      tbf = ap (λ (o : Observed). o.tbf) e;
      rbf = ap (λ (o : Observed). o.rbf) e;
      locked = ap (λ (o : Observed). o.locked) e;
      holder = ap (λ (o : Observed). o.holder) e;
      marc = ap (λ (o : Observed). o.marc) e;
      slrc = ap (λ (o : Observed). o.slrc) e;
    }

-- and nothing else is observed
pub observed_only : (s t : State) → SameSeen s t → observed s ≡ observed t
observed_only s t e =
    λ i. record {
      tbf = e.tbf i;
      rbf = e.rbf i;
      locked = e.locked i;
      holder = e.holder i;
      marc = e.marc i;
      slrc = e.slrc i;
    }

-- ---- a stranger's words, and the lock

-- no word of kind 0 outside the holder's frames puts a byte into RBF, takes one from TBF, or changes the lock or a code
pub stranger_unseen : (h : ℕ) (s : State) (A : List ℕ) → waiting s → s.core.regs.holder ≡ h
    → spaced false (map class_of A) ≡ true → (i : ℕ) → Compared unit s A (suc i) → get_or (keeps h A) i false ≡ false
    → observed (run unit s (take i A)) ≡ observed (run unit s (take (suc i) A))
stranger_unseen h s A = struck_unseen unit holds h s A

module _ (h : ℕ) (s : State) (A B : List ℕ) (given : Given unit h s A B) (i j : ℕ) (a : Compared unit s A (suc i)) where
  locks : (t u : State) → observed t ≡ observed u → t.core.regs.locked ≡ u.core.regs.locked
  locks t u e = (observed_all t u e).locked

  -- the lock that outlives a word of the one list outlives it in the other
  pub lock_alike : Compared unit s B (suc j) → Places h A B i j
      → (run unit s (take (suc i) A)).core.regs.locked ≡ true
      → (run unit s (take (suc j) B)).core.regs.locked ≡ true
  lock_alike b x l = ends_alike unit holds h s A B given i j a locks x b l

  -- behind equally many kept words the comparison has gone as far in the second list as in the first: the lock alone
  -- never cuts it short there, only a master request does
  pub lock_as_far : Behind h A B i j
      → ((k : ℕ) → k ≤ suc j → (run unit s (take k B)).core.regs.marq ≡ false) → Compared unit s B (suc j)
  lock_as_far n u = as_far unit holds h s A B given i j a locks n u

-- what the unit drives in a slot of the holder's frames follows from the words before it: behind P and Q, which one
-- slot w would go on alike, it is the same, whatever words C and D come then
pub next_alike : (h : ℕ) (s : State) (P Q : List ℕ) (w : ℕ) → Given unit h s (P ++ w ∷ []) (Q ++ w ∷ [])
    → Places h (P ++ w ∷ []) (Q ++ w ∷ []) (length P) (length Q) → (class_of w ≡ host → ⊥)
    → Compared unit s (P ++ w ∷ []) (suc (length P)) → Compared unit s (Q ++ w ∷ []) (suc (length Q))
    → (C D : List ℕ) → driven drive_released (take (length P) (answers unit s (P ++ C)))
    ≡ driven drive_released (take (length Q) (answers unit s (Q ++ D)))
next_alike = next_driven unit holds

-- ---- the claim without its records

-- how far two lists are compared, said of the registers
pub record Lasts (s : State) (A : List ℕ) (i : ℕ) : Type 0 where
  pub locked : (k : ℕ) → k < i → (run unit s (take k A)).core.regs.locked ≡ true
  pub unasked : (k : ℕ) → k ≤ i → (run unit s (take k A)).core.regs.marq ≡ false

compared : {s : State} {A : List ℕ} {i : ℕ} → Lasts s A i → Compared unit s A i
compared l = record { held = l.locked; unasked = l.unasked }

-- Demand 3 of the unit, with every condition and every conclusion spelled out: no condition can be added to `Given`,
-- `Compared` or `Places`, as a bound on the lists, and nothing left out of `Alike`, but a law here fails
module _ (s : State) (h : ℕ) (A B : List ℕ) (waits : s.core.frame.place ≡ Waiting)
    (names : s.core.regs.holder ≡ h) (g : spaced false (map class_of A) ≡ true)
    (g' : spaced false (map class_of B) ≡ true) (same : kept h A ≡ kept h B) (i j : ℕ)
    (behind : count (take i (keeps h A)) ≡ count (take j (keeps h B))) where
  whole : Alike unit h s A B
  unfolding Protected
  whole =
      holds h s A B record { waits = waits; names = names; spaced_first = g; spaced_second = g'; same = same }

  pub seen_alike : Lasts s A i → Lasts s B j → SameSeen (run unit s (take i A)) (run unit s (take j B))
  seen_alike a b =
      observed_all (run unit s (take i A)) (run unit s (take j B))
      (whole.states i j behind (compared a) (compared b))

  module _ (first : get_or (keeps h A) i false ≡ true) (second : get_or (keeps h B) j false ≡ true)
      (a : Lasts s A (suc i)) (b : Lasts s B (suc j)) where
    pub answer_alike : shown (class_of (get_or A i 0)) (get_or (answers unit s A) i 0)
        ≡ shown (class_of (get_or B j 0)) (get_or (answers unit s B) j 0)
    answer_alike =
        whole.replies i j record { first = first; second = second; behind = behind } (compared a) (compared b)

    pub drive_alike : (class_of (get_or A i 0) ≡ host → ⊥)
        → driven drive_released (take i (answers unit s A)) ≡ driven drive_released (take j (answers unit s B))
    drive_alike =
        whole.slots i j record { first = first; second = second; behind = behind } (compared a) (compared b)

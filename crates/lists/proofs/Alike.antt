-- Demand 3 for two calls, by their contracts alone: what a call cites is enough to compare its answers and the unit
-- that it leaves with another call's.
use mathlib.Core.Bool.{Bool, true, false, false≢true}
use mathlib.Core.Path.{◌≡◌, refl, sym, ap, ◌∙◌}
use mathlib.Core.List.{List, [], ◌∷◌, ◌++◌, map}
use Prim.Native.Nat.{ℕ, zero, suc, ◌<◌}
use native.Mathlib.Omega.{arith}
use lib.ListN.{length, take, drop, get_or, length-map}
use lib.Seq.{get_or-take, take-take}
use Rattle.line.specs.Numbers.{drive_released}
use Rattle.line.specs.Slot.{Class, slot, stray, host, class_of}
use Rattle.line.specs.declared.slot.Slot.TheVariants.{Level, Start, Idle}
use Rattle.isolation.specs.Words.{framed, keeps, marks}
use Rattle.isolation.specs.Runs.{Behind, Compared, Given, Places, Protected, answers, driven, run, shown}
use Rattle.rules.specs.Machine.{observed, unit}
use Rattle.rules.specs.State.{State, reset}
use Rattle.lists.specs.Bytes.{CalledBytes, words_of}
use Rattle.lists.specs.Run.{Called}
use Rattle.lists.proofs.Called.{state_left, answers_first, answers_later}

-- ---- a word that is kept lies in its list

marks_length : (h : ℕ) (mine : Bool) (cs : List Class) → length (marks h mine cs) ≡ length cs
unfolding marks
marks_length h mine [] = refl
marks_length h mine (slot (Level b) ∷ cs) = ap suc (marks_length h mine cs)
marks_length h mine (slot Start ∷ cs) = ap suc (marks_length h (framed h cs) cs)
marks_length h mine (slot Idle ∷ cs) = ap suc (marks_length h false cs)
marks_length h mine (stray ∷ cs) = ap suc (marks_length h mine cs)
marks_length h mine (host ∷ cs) = ap suc (marks_length h mine cs)

set_within : (ms : List Bool) (i : ℕ) → get_or ms i false ≡ true → i < length ms
set_within [] i e = absurd (false≢true e)
set_within (m ∷ ms) zero e = omega arith
set_within (m ∷ ms) (suc i) e = omega (arith, set_within ms i e)

pub kept_within : (h : ℕ) (A : List ℕ) (i : ℕ) → get_or (keeps h A) i false ≡ true → i < length A
unfolding keeps
kept_within h A i e =
    omega (arith, set_within (keeps h A) i e, marks_length h false (map class_of A), length-map A class_of)

-- ---- the answers that two lists begin with

-- the claim of `Alike` about answers, of the lists `out` and `out'` that hold them
pub record AlikeIn (h : ℕ) (s : State) (A B out out' : List ℕ) : Type 0 where
  pub replies : (i j : ℕ) → Places h A B i j → Compared unit s A (suc i) → Compared unit s B (suc j)
      → shown (class_of (get_or A i 0)) (get_or out i 0) ≡ shown (class_of (get_or B j 0)) (get_or out' j 0)
  pub slots : (i j : ℕ) → Places h A B i j → Compared unit s A (suc i) → Compared unit s B (suc j)
      → (class_of (get_or A i 0) ≡ host → ⊥) → driven drive_released (take i out) ≡ driven drive_released (take j out')

-- where `out` begins with the answers to the words, it has them at their places
answer_at : (s : State) (A out : List ℕ) (i : ℕ) → take (length A) out ≡ answers unit s A → i < length A
    → get_or out i 0 ≡ get_or (answers unit s A) i 0
answer_at s A out i e l = sym (get_or-take (length A) out i 0 l) ∙ ap (λ (x : List ℕ). get_or x i 0) e

answers_before : (s : State) (A out : List ℕ) (i : ℕ) → take (length A) out ≡ answers unit s A → i < length A
    → take i out ≡ take i (answers unit s A)
answers_before s A out i e l = sym (take-take i (length A) out (omega arith)) ∙ ap (take i) e

pub answers_alike : Protected unit → (h : ℕ) (s : State) (A B out out' : List ℕ) → Given unit h s A B
    → take (length A) out ≡ answers unit s A → take (length B) out' ≡ answers unit s B → AlikeIn h s A B out out'
unfolding Protected
answers_alike claim h s A B out out' given e e' =
    let alike = claim h s A B given in
    record {
      replies = λ i j p c c'.
          ap (shown (class_of (get_or A i 0))) (answer_at s A out i e (kept_within h A i p.first))
          ∙ alike.replies i j p c c'
          ∙ sym (ap (shown (class_of (get_or B j 0))) (answer_at s B out' j e' (kept_within h B j p.second)));
      slots = λ i j p c c' n.
          ap (driven drive_released) (answers_before s A out i e (kept_within h A i p.first))
          ∙ alike.slots i j p c c' n
          ∙ sym (ap (driven drive_released) (answers_before s B out' j e' (kept_within h B j p.second)));
    }

-- ---- two calls of `run` from one state

module _ {h : ℕ} {s : State} {A B : List ℕ} (given : Given unit h s A B) where
  pub calls_alike : {t t' : State} {first first' second second' : List ℕ} → Called s A first 0 t first'
      → Called s B second 0 t' second' → AlikeIn h s A B first' second'
  calls_alike one two = answers_alike one.protected h s A B _ _ given (answers_first one) (answers_first two)

  -- the units that are left after i words of the one list and j of the other
  pub units_alike : {t t' : State} {first first' second second' : List ℕ} (i j : ℕ)
      → Called s (take i A) first 0 t first' → Called s (take j B) second 0 t' second' → Behind h A B i j
      → Compared unit s A i → Compared unit s B j → observed t ≡ observed t'
  unfolding Protected
  units_alike i j one two behind c c' =
      ap observed (state_left one) ∙ (one.protected h s A B given).states i j behind c c'
      ∙ sym (ap observed (state_left two))

-- ---- two calls of `iebus_run` whose first words are the same, up to the state in which the comparison begins

pub exports_alike : {h : ℕ} {words words' first first' second second' : List ℕ} (P A B : List ℕ)
    → words_of words ≡ P ++ A → words_of words' ≡ P ++ B → Given unit h (run unit reset P) A B
    → CalledBytes reset words first 0 first' → CalledBytes reset words' second 0 second'
    → AlikeIn h (run unit reset P) A B (drop (length P) (words_of first')) (drop (length P) (words_of second'))
exports_alike {h} P A B e e' given one two =
    answers_alike one.protected h (run unit reset P) A B _ _ given (answers_later P A one e)
    (answers_later P B two e')

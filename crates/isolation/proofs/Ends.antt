-- What follows for a machine that protects the holder of its lock: a word that is struck changes nothing that is
-- seen, and the lock, where what is seen tells whether it is locked, goes on as long in both lists and ends at like
-- places.
use mathlib.Core.Bool.{Bool, true, false, false≢true}
use mathlib.Core.Logic.{◌⊎◌, inl, inr}
use mathlib.Core.Path.{◌≡◌, refl, sym, ap, ◌∙◌}
use mathlib.Core.List.{List, [], ◌∷◌, ◌++◌, map}
use Prim.Native.Nat.{ℕ, zero, suc, ◌≤◌, ◌<◌}
use native.Mathlib.Nat.{eq-or-lt_of_le}
use native.Mathlib.Omega.{arith}
use lib.ListN.{length, take, get_or}
use Rattle.line.specs.Numbers.{drive_released}
use Rattle.line.specs.Slot.{host, class_of}
use Rattle.isolation.specs.Words.{spaced, count, keeps}
use Rattle.isolation.specs.Runs.{Machine, Behind, Places, answers, driven, run, Compared, Given, Protected}
use Rattle.isolation.proofs.Unwind.{shorter}

-- ---- counting

-- one mark more that is not set counts nothing
count_unset : (ms : List Bool) (i : ℕ) → get_or ms i false ≡ false → count (take i ms) ≡ count (take (suc i) ms)
unfolding count
count_unset [] zero e = refl
count_unset [] (suc i) e = refl
count_unset (true ∷ ms) zero e = absurd (false≢true (sym e))
count_unset (false ∷ ms) zero e = refl
count_unset (true ∷ ms) (suc i) e = ap suc (count_unset ms i e)
count_unset (false ∷ ms) (suc i) e = count_unset ms i e

-- one that is set counts one more
count_set : (ms : List Bool) (i : ℕ) → get_or ms i false ≡ true → count (take (suc i) ms) ≡ suc (count (take i ms))
unfolding count
count_set [] i e = absurd (false≢true e)
count_set (true ∷ ms) zero e = refl
count_set (false ∷ ms) zero e = absurd (false≢true e)
count_set (true ∷ ms) (suc i) e = ap suc (count_set ms i e)
count_set (false ∷ ms) (suc i) e = count_set ms i e

-- fewer marks count no more
count_fewer : (ms : List Bool) (k i : ℕ) → k ≤ i → count (take k ms) ≤ count (take i ms)
unfolding count
count_fewer ms zero i l = omega arith
count_fewer ms (suc k) zero l = absurd (omega arith)
count_fewer [] (suc k) (suc i) l = omega arith
count_fewer (true ∷ ms) (suc k) (suc i) l = omega (arith, count_fewer ms k i (omega arith))
count_fewer (false ∷ ms) (suc k) (suc i) l = count_fewer ms k i (omega arith)

-- a place up to i where n are counted
record Counted (ms : List Bool) (i n : ℕ) : Type 0 where
  place : ℕ
  no_later : place ≤ i
  counts : count (take place ms) ≡ n

-- every number up to the count at i is counted at such a place
counted : (ms : List Bool) (i n : ℕ) → n ≤ count (take i ms) → Counted ms i n
unfolding count
counted ms zero n l = record { place = 0; no_later = omega arith; counts = omega arith }
counted [] (suc i) n l = record { place = 0; no_later = omega arith; counts = omega arith }
counted (true ∷ ms) (suc i) zero l = record { place = 0; no_later = omega arith; counts = refl }
counted (true ∷ ms) (suc i) (suc n) l =
    let x = counted ms i n (omega arith) in
    record { place = suc x.place; no_later = omega arith; counts = ap suc x.counts }
counted (false ∷ ms) (suc i) n l =
    let x = counted ms i n l in
    record { place = suc x.place; no_later = omega arith; counts = x.counts }

-- ---- what is seen

module _ (M : Machine) (protects : Protected M) (h : ℕ) (s : M.State) where
  -- a word that is not kept changes nothing that is seen
  pub struck_unseen : (A : List ℕ) → M.waiting s → M.holder s ≡ h → spaced false (map class_of A) ≡ true → (i : ℕ)
      → Compared M s A (suc i) → get_or (keeps h A) i false ≡ false
      → M.observed (run M s (take i A)) ≡ M.observed (run M s (take (suc i) A))
  unfolding Protected
  struck_unseen A v o g i c e =
      let given : Given M h s A A
      = record { waits = v; names = o; spaced_first = g; spaced_second = g; same = refl } in
      let c' = shorter M s A (suc i) i (omega arith) c in
      (protects h s A A given).states i (suc i) (count_unset (keeps h A) i e) c' c

  module _ (A B : List ℕ) (given : Given M h s A B) (i j : ℕ) (a : Compared M s A (suc i)) where
    -- after the words at like places the states are seen alike, also if the lock ends with them
    pub after_alike : Places h A B i j → Compared M s B (suc j)
        → M.observed (run M s (take (suc i) A)) ≡ M.observed (run M s (take (suc j) B))
    unfolding Protected
    after_alike x b =
        let n = count_set (keeps h A) i x.first ∙ ap suc x.behind ∙ sym (count_set (keeps h B) j x.second) in
        (protects h s A B given).states (suc i) (suc j) n a b

    module _ (tells : (t u : M.State) → M.observed t ≡ M.observed u → M.locked t ≡ M.locked u) where
      -- if the lock does not end with the one, it does not end with the other
      pub ends_alike : Places h A B i j → Compared M s B (suc j) → M.locked (run M s (take (suc i) A)) ≡ true
          → M.locked (run M s (take (suc j) B)) ≡ true
      ends_alike x b l = sym (tells (run M s (take (suc i) A)) (run M s (take (suc j) B)) (after_alike x b)) ∙ l

      module _ (n : Behind h A B i j) (u : (k : ℕ) → k ≤ suc j → M.requesting (run M s (take k B)) ≡ false) where
        -- behind no more kept words than lie behind i words of the first list, the second is locked too
        locked_too : (k : ℕ) → k ≤ j → ((l : ℕ) → l < k → M.locked (run M s (take l B)) ≡ true)
            → M.locked (run M s (take k B)) ≡ true
        unfolding Protected
        locked_too k g before =
            let f = count_fewer (keeps h B) k j g in
            let x = counted (keeps h A) i (count (take k (keeps h B))) (omega arith) in
            let c = shorter M s A (suc i) x.place (omega arith) a in
            let d : Compared M s B k = record { held = before; unasked = λ l m. u l (omega arith) } in
            let e = (protects h s A B given).states x.place k x.counts c d in
            sym (tells (run M s (take x.place A)) (run M s (take k B)) e) ∙ a.held x.place (omega arith)

        -- so it is before each of the words up to there
        one_more : (k : ℕ) → k ≤ j → ((l : ℕ) → l < k → M.locked (run M s (take l B)) ≡ true) → (l : ℕ)
            → (suc l ≡ suc k) ⊎ (suc l < suc k) → M.locked (run M s (take l B)) ≡ true
        one_more k g before l (inl e) = let e' : k ≡ l = omega arith in rw e' at (locked_too k g before)
        one_more k g before l (inr m) = before l (omega arith)

        held_too : (k : ℕ) → k ≤ suc j → (l : ℕ) → l < k → M.locked (run M s (take l B)) ≡ true
        held_too zero g l m = absurd (omega arith)
        held_too (suc k) g l m = one_more k (omega arith) (held_too k (omega arith)) l (eq-or-lt_of_le m)

        -- the comparison goes as far in the second list as in the first, unless a master request comes
        pub as_far : Compared M s B (suc j)
        as_far = record { held = held_too (suc j) (omega arith); unasked = u }

-- ---- what is driven next

-- the answers to the first words do not depend on what comes then
answers_first : (M : Machine) (s : M.State) (P C : List ℕ) → take (length P) (answers M s (P ++ C)) ≡ answers M s P
unfolding answers
answers_first M s [] C = refl
answers_first M s (w ∷ P) C = ap (λ (l : List ℕ). M.answer s w ∷ l) (answers_first M (M.step s w) P C)

-- That the holder's frames are the same is no circle, though what the machine drives is among what settles there:
-- behind P and Q, which one slot w would go on alike, the same is driven, whatever words C and D come then
module _ (M : Machine) (protects : Protected M) (h : ℕ) (s : M.State) (P Q : List ℕ) (w : ℕ)
    (given : Given M h s (P ++ w ∷ []) (Q ++ w ∷ []))
    (there : Places h (P ++ w ∷ []) (Q ++ w ∷ []) (length P) (length Q)) (n : class_of w ≡ host → ⊥)
    (a : Compared M s (P ++ w ∷ []) (suc (length P))) (b : Compared M s (Q ++ w ∷ []) (suc (length Q))) where
  at_end : (l : List ℕ) → get_or (l ++ w ∷ []) (length l) 0 ≡ w
  at_end [] = refl
  at_end (x ∷ l) = at_end l

  pub next_driven : (C D : List ℕ) → driven drive_released (take (length P) (answers M s (P ++ C)))
      ≡ driven drive_released (take (length Q) (answers M s (Q ++ D)))
  unfolding Protected
  next_driven C D =
      let alike = (protects h s (P ++ w ∷ []) (Q ++ w ∷ []) given).slots (length P) (length Q) there a b
      (λ e. n (sym (ap class_of (at_end P)) ∙ e)) in
      ap (driven drive_released) (answers_first M s P C ∙ sym (answers_first M s P (w ∷ []))) ∙ alike
      ∙ ap (driven drive_released) (answers_first M s Q (w ∷ []) ∙ sym (answers_first M s Q D))

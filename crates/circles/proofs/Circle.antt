-- The laws of a circle of bytes against a list, once for every room.
use Prim.Native.Nat.{ℕ, zero, suc, ◌+◌, ◌-◌, ◌≤◌, ◌<◌}
use native.Mathlib.Omega.{arith}
use mathlib.Core.Bool.{Bool, true, false}
use mathlib.Core.List.{List, [], ◌∷◌, ◌++◌}
use mathlib.Core.Logic.{◌⊎◌, inl, inr, ⊎_elim}
use mathlib.Core.Path.{◌≡◌, refl, sym, ap, ap₂, subst, ◌∙◌}
use borrow.Author.Tests.{eqb-false, eqb-true, le-ltb, lt-ltb, ltb-false, ltb-true}
use lib.Dec.{eqb, ltb}
use lib.ListN.{length, set, drop}
use lib.Seq.{get_or-set_same, get_or-set_other}
use Rattle.line.specs.Choice.{pick}
use Rattle.circles.specs.Calls.{fewer, popped, pushed, put}
use Rattle.circles.specs.Circle.{Buffer, circle_of, held_of, items, list_of, start_of, wrap}
use Rattle.circles.specs.declared.Span.{Span}
use Rattle.rules.specs.State.{push_of}
use Rattle.rules.proofs.Calm.{pick_no}

-- ---- places

-- which of two numbers a test picks
picked : (i n a b : ℕ) → ((i < n) × (pick (ltb i n) a b ≡ a)) ⊎ ((n ≤ i) × (pick (ltb i n) a b ≡ b))
picked i n a b = by (ltb i n) refl
  where
    by : (t : Bool) → ltb i n ≡ t → ((i < n) × (pick t a b ≡ a)) ⊎ ((n ≤ i) × (pick t a b ≡ b))
    by true e = inl (ltb-true i n e, refl)
    by false e = inr (ltb-false i n e, refl)

wrap_within : (n i : ℕ) → i < n → wrap n i ≡ i
wrap_within n i h = ⊎_elim (λ w. w.1) (λ w. omega arith) (picked i n i (i - n))

wrap_past : (n i : ℕ) → n ≤ i → wrap n i ≡ i - n
wrap_past n i h = ⊎_elim (λ w. omega arith) (λ w. w.1) (picked i n i (i - n))

pub wrap_less : (n f k : ℕ) → f < n → k ≤ n → wrap n (f + k) < n
wrap_less n f k hf hk = ⊎_elim (λ w. omega arith) (λ w. omega arith) (picked (f + k) n (f + k) (f + k - n))

pub wrap_none : (n f : ℕ) → f < n → wrap n (f + 0) ≡ f
wrap_none n f h = wrap_within n (f + 0) (omega arith) ∙ omega arith

-- places that lie behind one by different numbers differ
pub wrap_apart : (n f j k : ℕ) → f < n → j < k → k < n → wrap n (f + j) ≡ wrap n (f + k) → ⊥
wrap_apart n f j k hf hj hk e =
    ⊎_elim
    (λ w. ⊎_elim (λ v. omega arith) (λ v. omega arith) (picked (f + k) n (f + k) (f + k - n)))
    (λ w. ⊎_elim (λ v. omega arith) (λ v. omega arith) (picked (f + k) n (f + k) (f + k - n)))
    (picked (f + j) n (f + j) (f + j - n))

-- behind by k + 1 is behind the next place by k
pub wrap_next : (n f k : ℕ) → f < n → suc k < n → wrap n (f + suc k) ≡ wrap n (wrap n (f + 1) + k)
wrap_next n f k hf hk =
    ⊎_elim
    (λ w.
    let e : wrap n (f + 1) + k ≡ f + suc k = omega arith in
    ap (wrap n) (sym e))
    (λ w.
    let e : wrap n (f + 1) + k ≡ k = omega arith in
    let d : f + suc k - n ≡ k = omega arith in
    wrap_past n (f + suc k) (omega arith) ∙ d ∙ sym (wrap_within n k (omega arith)) ∙ ap (wrap n) (sym e))
    (picked (f + 1) n (f + 1) (f + 1 - n))

pub start_less : (n f : ℕ) → 0 < n → start_of n f < n
start_less n f h = ⊎_elim (λ w. omega arith) (λ w. omega arith) (picked f n f 0)

pub start_same : (n f : ℕ) → f < n → start_of n f ≡ f
start_same n f h = ⊎_elim (λ w. w.1) (λ w. omega arith) (picked f n f 0)

pub held_same : (n k : ℕ) → k ≤ n → held_of n k ≡ k
held_same n k h = ⊎_elim (λ w. w.1) (λ w. omega arith) (picked k n k n)

held_full : (n k : ℕ) → n ≤ k → held_of n k ≡ n
held_full n k h = ⊎_elim (λ w. omega arith) (λ w. w.1) (picked k n k n)

pub held_most : (n k : ℕ) → held_of n k ≤ n
held_most n k = ⊎_elim (λ w. omega arith) (λ w. omega arith) (picked k n k n)

pub held_some : (n k : ℕ) → 0 < n → 0 < k → 0 < held_of n k
held_some n k h j = ⊎_elim (λ w. omega arith) (λ w. omega arith) (picked k n k n)

-- ---- bytes

pub items_length : (n : ℕ) (bytes : List ℕ) (k f : ℕ) → length (items n bytes f k) ≡ k
unfolding items
items_length n bytes zero f = refl
items_length n bytes (suc k) f = ap suc (items_length n bytes k (wrap n (f + 1)))

-- a byte stored behind the last one is one byte more at the end
items_more : (n : ℕ) (bytes : List ℕ) (x : ℕ) → length bytes ≡ n → (k f : ℕ) → f < n → k < n
    → items n (set bytes (wrap n (f + k)) x) f (suc k) ≡ items n bytes f k ++ x ∷ []
unfolding items
items_more n bytes x l zero f hf hk =
    rw (wrap_none n f hf) (ap (λ (v : ℕ). v ∷ []) (get_or-set_same bytes f x 0 (omega arith)))
items_more n bytes x l (suc k) f hf hk =
    let apart : f ≡ wrap n (f + suc k) → ⊥ = λ e. wrap_apart n f 0 (suc k) hf (omega arith) hk (wrap_none n f hf ∙ e) in
    let rest = items_more n bytes x l k (wrap n (f + 1)) (wrap_less n f 1 hf (omega arith)) (omega arith) in
    ap₂ ◌∷◌ (get_or-set_other bytes (wrap n (f + suc k)) f x 0 apart)
    (subst (λ (w : ℕ). items n (set bytes w x) (wrap n (f + 1)) (suc k) ≡ items n bytes (wrap n (f + 1)) k ++ x ∷ [])
    (sym (wrap_next n f k hf hk)) rest)

items_rest : (n : ℕ) (bytes : List ℕ) (f k : ℕ) → 0 < k
    → items n bytes (wrap n (f + 1)) (k - 1) ≡ drop 1 (items n bytes f k)
unfolding items
items_rest n bytes f zero h = absurd (let b : ⊥ = omega arith in b)
items_rest n bytes f (suc k) h = let e : suc k - 1 ≡ k = omega arith in ap (items n bytes (wrap n (f + 1))) e

-- ---- buffers

circle_push : (n : ℕ) (bytes : List ℕ) (f k x : ℕ) → length bytes ≡ n → k < n
    → items n (set bytes (wrap n (start_of n f + k)) x) (start_of n f) (held_of n (k + 1))
    ≡ push_of n (items n bytes (start_of n f) (held_of n k)) x
unfolding push_of
circle_push n bytes f k x l h =
    let e : held_of n (k + 1) ≡ suc k = held_same n (k + 1) (omega arith) ∙ omega arith in
    rw (e, held_same n k (omega arith), items_length n bytes k (start_of n f), lt-ltb k n h)
    (items_more n bytes x l k (start_of n f) (start_less n f (omega arith)) h)

circle_pop : (n : ℕ) (bytes : List ℕ) (f k m : ℕ) → m ≡ held_of n k → 0 < m
    → items n bytes (start_of n (wrap n (start_of n f + 1))) (held_of n (m - 1))
    ≡ drop 1 (items n bytes (start_of n f) (held_of n k))
circle_pop n bytes f k m e j =
    let b : m ≤ n = omega (arith, held_most n k) in
    let s : start_of n f < n = start_less n f (omega arith) in
    rw (
      held_same n (m - 1) (omega arith),
      start_same n (wrap n (start_of n f + 1)) (wrap_less n (start_of n f) 1 s (omega arith)),
      ← e,
    )
    (items_rest n bytes (start_of n f) m j)

-- without bytes there is none to leave
none_left : (bytes : List ℕ) → length bytes ≡ 0 → bytes ≡ drop 1 bytes
none_left [] h = refl
none_left (x ∷ bytes) h = absurd (let b : ⊥ = omega arith in b)

pub push_list : (n : ℕ) (b : Buffer) (x : ℕ) → length b.bytes ≡ n
    → list_of n (pushed n b x) ≡ push_of n (list_of n b) x
unfolding circle_of pushed push_of
push_list n b x l = by (ltb b.span.count n) refl
  where
    by : (t : Bool) → ltb b.span.count n ≡ t → list_of n (pick t (put n b x) b) ≡ push_of n (list_of n b) x
    by true e = circle_push n b.bytes b.span.first b.span.count x l (ltb-true _ n e)
    by false e =
        let full : length (list_of n b) ≡ n = items_length n b.bytes _ _ ∙ held_full n _ (ltb-false _ n e) in
        sym (pick_no (ltb (length (list_of n b)) n) _ _ (ap (λ (k : ℕ). ltb k n) full ∙ le-ltb n n (omega arith)))

pub push_alike : (n x : ℕ) {a b : Buffer} → a ≡ b → pushed n a x ≡ pushed n b x
push_alike n x e = ap (λ (c : Buffer). pushed n c x) e

pub pop_list : (n : ℕ) (bytes : List ℕ) (span : Span)
    → circle_of n bytes (popped n span) ≡ drop 1 (circle_of n bytes span)
unfolding circle_of popped
pop_list n bytes span = by (eqb (held_of n span.count) 0) refl
  where
    by : (t : Bool) → eqb (held_of n span.count) 0 ≡ t
        → circle_of n bytes (pick t span (fewer n span)) ≡ drop 1 (circle_of n bytes span)
    by true e = none_left _ (items_length n bytes _ _ ∙ eqb-true _ 0 e)
    by false e =
        circle_pop n bytes span.first span.count (held_of n span.count) refl
        (omega (arith, eqb-false (held_of n span.count) 0 e))

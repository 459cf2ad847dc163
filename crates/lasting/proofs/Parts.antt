-- Lists that are written part by part.
use mathlib.Core.Path.{◌≡◌, refl, sym, ap, ◌∙◌}
use mathlib.Core.List.{List, [], ◌∷◌, ◌++◌, append_assoc, append-nil}
use mathlib.Core.Logic.{⊎_elim}
use Prim.Native.Nat.{ℕ, zero, suc, ◌+◌, ◌-◌, ◌≤◌, min}
use native.Mathlib.Omega.{arith}
use borrow.Author.Tests.{lt-ltb, le-ltb}
use lib.ListN.{length, take, drop, get_or, set, replicate, length-append, length-drop, length-replicate}
use lib.ListN.{drop_of_length-le}
use lib.Dec.{ltb}
use lib.Seq.{length-take-le, take_all, take_at, drop_at}
use borrow.Rule.Slice.PartMut.{put_mid}
use Rattle.line.specs.Choice.{bit_of}
use Rattle.line.specs.Numbers.{rbf_bytes, tbf_bytes}
use Rattle.line.proofs.Either.{below_or_not, pick_same}
use Rattle.line.proofs.Places.{cut}
use Rattle.circles.proofs.Circle.{held_most}
use Rattle.circles.proofs.Places.{list_length}
use Rattle.circles.specs.Circle.{buffer, circle_of, held_of, items, start_of, wrap}
use Rattle.circles.specs.declared.Span.{Span}
use Rattle.place.specs.declared.Frame.{Frame}
use Rattle.rules.specs.State.{State}
use Rattle.rules.specs.declared.state.Registers.{Registers}
use Rattle.keeping.specs.Calls.{Keeps}
use Rattle.keeping.specs.Decode.{buffer_in, decode}
use Rattle.keeping.specs.Encode.{Fits, buffer_bytes, encode, frame_bytes, register_bytes}
use Rattle.keeping.specs.Layout.{state_bytes}
use Rattle.keeping.proofs.Again.{buffer_length, decoded}

-- ---- parts of a list, one behind the other

-- a part lent behind those that are written, and given back
pub placed : (done old part : List ℕ) (n m : ℕ) → length done ≡ n → length part ≡ m
    → take n (done ++ old) ++ (part ++ drop m (drop n (done ++ old))) ≡ (done ++ part) ++ drop m old
placed done old part n m e h = rw (take_at done old n e, drop_at done old n e, append_assoc)

-- ---- circles

items_nil : (n : ℕ) (bytes : List ℕ) (f : ℕ) → items n bytes f 0 ≡ []
unfolding items
items_nil n bytes f = refl

items_next : (n : ℕ) (bytes : List ℕ) (f k k' : ℕ) → k ≡ suc k'
    → items n bytes f k ≡ get_or bytes f 0 ∷ items n bytes (wrap n (f + 1)) k'
unfolding items
items_next n bytes f k k' e = rw e

held_min : (n k : ℕ) → held_of n k ≡ min n k
held_min n k = ⊎_elim (λ h. rw (lt-ltb k n h) (omega arith)) (λ h. rw (le-ltb k n h) (omega arith)) (below_or_not k n)

-- a circle is a list as far as it does not go past its last place
straight : (n : ℕ) (bytes : List ℕ) → length bytes ≡ n → (k f : ℕ) → f + k ≤ n
    → items n bytes f k ≡ take k (drop f bytes)
straight n bytes l zero f h = items_nil n bytes f
straight n bytes l (suc k) f h =
    let behind : items n bytes (wrap n (f + 1)) k ≡ take k (drop (f + 1) bytes)
    = ⊎_elim (λ i. rw (lt-ltb (f + 1) n i) (straight n bytes l k (f + 1) (omega arith)))
    (λ i. let e : k ≡ 0 = omega arith in rw e (items_nil n bytes _)) (below_or_not (f + 1) n) in
    items_next n bytes f (suc k) k refl ∙ ap (λ (r : List ℕ). get_or bytes f 0 ∷ r) behind
    ∙ sym (ap (take (suc k)) (cut bytes f (omega arith)))

-- a circle holds no more bytes than there is room for
pub circle_most : (n : ℕ) (bytes : List ℕ) (span : Span) → length (circle_of n bytes span) ≤ n
circle_most n bytes span = rw (list_length n (buffer bytes span)) (held_most n span.count)

-- ---- a buffer's bytes

-- what a copy of all but the first byte holds, with a span that begins at place 0
pub buffer_read : (n : ℕ) (l bytes : List ℕ) → bytes ≡ take (length l - 1) (drop 1 l) → length l ≡ n + 1
    → circle_of n bytes (record { first = 0; count = get_or l 0 0 }) ≡ buffer_in n l
unfolding circle_of buffer_in
buffer_read n l bytes e size =
    let all : take (length l - 1) (drop 1 l) ≡ drop 1 l
    = take_all (length l - 1) (drop 1 l) (omega (arith, length-drop 1 l)) in
    let begins : start_of n 0 ≡ 0 = pick_same (ltb 0 n) 0 in
    rw (begins, e, all)
    (straight n (drop 1 l) (omega (arith, length-drop 1 l)) (held_of n (get_or l 0 0)) 0
    (omega (arith, held_most n (get_or l 0 0)))
    ∙ ap (λ (k : ℕ). take k (drop 1 l)) (held_min n (get_or l 0 0)))

-- the parts of a buffer's bytes, lent and given back one after the other: the count, the bytes, then the zeros
pub buffer_put : (room count k m : ℕ) (t l U Z : List ℕ) → length t ≡ room + 1 → U ≡ l → length l ≡ count
    → count ≤ room → k ≡ count → m ≡ length (put_mid 1 k (set t 0 count) U) - (count + 1)
    → Z ≡ replicate {A = ℕ} (length (take m (drop (count + 1) (put_mid 1 k (set t 0 count) U)))) 0
    → put_mid (count + 1) m (put_mid 1 k (set t 0 count) U) Z ≡ buffer_bytes room l
unfolding buffer_bytes
buffer_put room count k m [] l U Z size e held most same left zeros = absurd (let b : ⊥ = omega arith in b)
buffer_put room count k m (x ∷ xs) l U Z size e held most same left zeros =
    let rest = drop count xs in
    let first : put_mid 1 k (count ∷ xs) U ≡ (count ∷ l) ++ rest
    = rw e (ap (λ (n : ℕ). count ∷ (l ++ drop n xs)) same) in
    let front : length (count ∷ l) ≡ count + 1 = omega (arith, held) in
    let room-left : length rest ≡ room - count = omega (arith, length-drop count xs) in
    let free : m ≡ room - count = left ∙ omega (arith, ap length first, length-append (count ∷ l) rest) in
    let behind : drop (count + 1) (put_mid 1 k (count ∷ xs) U) ≡ rest
    = ap (drop (count + 1)) first ∙ drop_at (count ∷ l) rest (count + 1) front in
    let size-Z : length (take m (drop (count + 1) (put_mid 1 k (count ∷ xs) U))) ≡ room - count
    = ap (λ (r : List ℕ). length (take m r)) behind ∙ length-take-le m rest (omega arith) ∙ free in
    let Z-is : Z ≡ replicate {A = ℕ} (room - count) 0
    = zeros ∙ ap (λ (n : ℕ). replicate {A = ℕ} n 0) size-Z in
    let long-Z : length Z ≡ m = ap length Z-is ∙ length-replicate {A = ℕ} (room - count) 0 ∙ sym free in
    let none : drop m rest ≡ [] = drop_of_length-le rest {i = m} (omega arith) in
    ap (λ (r : List ℕ). put_mid (count + 1) m r Z) first ∙ placed (count ∷ l) rest Z (count + 1) m front long-Z
    ∙ ap (λ (r : List ℕ). ((count ∷ l) ++ Z) ++ r) none ∙ append-nil ((count ∷ l) ++ Z) ∙ rw (Z-is, held)

-- ---- the parts of a state, lent and given back one after the other

put_parts : (t R F T B : List ℕ) → length t ≡ state_bytes → length R ≡ 22 → length F ≡ 22 → length T ≡ 34
    → length B ≡ 41
    → put_mid 78 41 (put_mid 44 34 (put_mid 22 22 (R ++ drop 22 t) F) T) B ≡ R ++ (F ++ (T ++ B))
put_parts t R F T B size r f l b =
    let two : put_mid 22 22 (R ++ drop 22 t) F ≡ (R ++ F) ++ drop 22 (drop 22 t) = placed R (drop 22 t) F 22 22 r f in
    let n : length (R ++ F) ≡ 44 = omega (arith, length-append R F) in
    let m : length ((R ++ F) ++ T) ≡ 78 = omega (arith, n, length-append (R ++ F) T) in
    let d = drop 22 (drop 22 t) in
    let gone : length (drop 34 d) ≤ 41
    = omega (arith, length-drop 34 d, length-drop 22 (drop 22 t), length-drop 22 t) in
    ap (λ (x : List ℕ). put_mid 78 41 (put_mid 44 34 x T) B) two
    ∙ ap (λ (x : List ℕ). put_mid 78 41 x B) (placed (R ++ F) d T 44 34 n l)
    ∙ placed ((R ++ F) ++ T) (drop 34 d) B 78 41 m b
    ∙ ap (λ (x : List ℕ). (((R ++ F) ++ T) ++ B) ++ x) (drop_of_length-le (drop 34 d) gone)
    ∙ append-nil (((R ++ F) ++ T) ++ B) ∙ simp append_assoc

registers_length : (r : Registers) → length (register_bytes r) ≡ 22
unfolding register_bytes
registers_length r = refl

frame_length : (f : Frame) (idle : ℕ) → length (frame_bytes f ++ idle ∷ []) ≡ 22
unfolding frame_bytes
frame_length f idle = refl

-- bytes over which the parts of a state were written keep it
pub kept : (s : State) → Fits s → (t R F T B : List ℕ) → length t ≡ state_bytes → R ≡ register_bytes s.core.regs
    → F ≡ frame_bytes s.core.frame ++ bit_of s.core.idle ∷ [] → T ≡ buffer_bytes tbf_bytes s.tbf
    → B ≡ buffer_bytes rbf_bytes s.rbf
    → Keeps s (put_mid 78 41 (put_mid 44 34 (put_mid 22 22 (R ++ drop 22 t) F) T) B)
unfolding encode
kept s fits t R F T B size r f l b =
    let whole : put_mid 78 41 (put_mid 44 34 (put_mid 22 22 (R ++ drop 22 t) F) T) B ≡ encode s
    = put_parts t R F T B size (ap length r ∙ registers_length s.core.regs)
    (ap length f ∙ frame_length s.core.frame (bit_of s.core.idle))
    (ap length l ∙ buffer_length tbf_bytes s.tbf fits.tbf)
    (ap length b ∙ buffer_length rbf_bytes s.rbf fits.rbf)
    ∙ rw (r, f, l, b) (simp append_assoc) in
    record { spelled = whole; again = ap decode whole ∙ decoded s fits }

-- Where the bytes of a circle lie, and that neither push, take nor emptying moves one.
use Prim.Native.Nat.{ℕ, zero, suc, ◌+◌, ◌-◌, ◌≤◌, ◌<◌}
use native.Mathlib.Omega.{arith}
use mathlib.Core.List.{List}
use mathlib.Core.Path.{◌≡◌, refl, sym, ap, ◌∙◌}
use borrow.Author.Tests.{eqb-false, ltb-true}
use lib.Dec.{eqb, ltb}
use lib.ListN.{get_or, length, length-set}
use lib.Seq.{ext_get_or, get_or-set_other}
use Rattle.rules.proofs.Calm.{pick_ind}
use Rattle.circles.specs.Calls.{Call, push, take, empty, fewer, popped, pushed, put, turned}
use Rattle.circles.specs.Circle.{Buffer, Unmoved, buffer, circle_of, gone_from, held_in, held_of, items, list_of}
use Rattle.circles.specs.Circle.{place_in, start_of, wrap}
use Rattle.circles.specs.declared.Span.{Span}
use Rattle.circles.proofs.Circle.{held_most, held_same, held_some, items_length, start_less}
use Rattle.circles.proofs.Circle.{start_same, wrap_apart, wrap_less, wrap_next, wrap_none}

-- ---- places

pub place_within : (room : ℕ) (b : Buffer) (k : ℕ) → k < room → place_in room b k < room
place_within room b k h = wrap_less room _ k (start_less room b.span.first (omega arith)) (omega arith)

items_at : (room : ℕ) (bytes : List ℕ) (k f count : ℕ) → f < room → count ≤ room → k < count
    → get_or (items room bytes f count) k 0 ≡ get_or bytes (wrap room (f + k)) 0
unfolding items
items_at room bytes k f zero hf hc hk = absurd (let b : ⊥ = omega arith in b)
items_at room bytes zero f (suc count) hf hc hk =
    ap (λ (place : ℕ). get_or bytes place 0) (sym (wrap_none room f hf))
items_at room bytes (suc k) f (suc count) hf hc hk =
    items_at room bytes k (wrap room (f + 1)) count (wrap_less room f 1 hf (omega arith)) (omega arith) (omega arith)
    ∙ ap (λ (place : ℕ). get_or bytes place 0) (sym (wrap_next room f k hf (omega arith)))

-- the list has at each place of it the byte that lies there
pub byte_at : (room : ℕ) (b : Buffer) (k : ℕ) → k < held_in room b
    → get_or (list_of room b) k 0 ≡ get_or b.bytes (place_in room b k) 0
unfolding circle_of
byte_at room b k h =
    let most = held_most room b.span.count in
    items_at room b.bytes k (start_of room b.span.first) (held_in room b)
    (start_less room b.span.first (omega arith)) most h

-- the oldest lies in the first place
pub front_at : (room : ℕ) (b : Buffer) → 0 < room → 0 < b.span.count
    → get_or b.bytes (start_of room b.span.first) 0 ≡ get_or (list_of room b) 0 0
front_at room b h some =
    let none = wrap_none room _ (start_less room b.span.first h) in
    sym (byte_at room b 0 (held_some room b.span.count h some) ∙ ap (λ (place : ℕ). get_or b.bytes place 0) none)

-- and there are no more in the list
pub list_length : (room : ℕ) (b : Buffer) → length (list_of room b) ≡ held_in room b
unfolding circle_of
list_length room b = items_length room b.bytes (held_in room b) (start_of room b.span.first)

-- no two bytes lie in one place
pub places_apart : (room : ℕ) (b : Buffer) (j k : ℕ) → j < k → k < room → place_in room b j ≡ place_in room b k → ⊥
places_apart room b j k h i = wrap_apart room _ j k (start_less room b.span.first (omega arith)) h i

-- ---- calls

pub same_unmoved : (room : ℕ) (b : Buffer) → Unmoved room b b
same_unmoved room b =
    record {
      stayed = λ k h. ap (place_in room b) (omega arith);
      as_long = refl;
      unwritten = λ place new. refl;
    }

put_unmoved : (room : ℕ) (b : Buffer) (x : ℕ) → b.span.count < room → Unmoved room b (put room b x)
put_unmoved room b x h =
    let before : held_in room b ≡ b.span.count = held_same room _ (omega arith) in
    let after : held_in room (put room b x) ≡ b.span.count + 1 = held_same room _ (omega arith) in
    record {
      stayed = λ k j. ap (place_in room b) (let e : k ≡ gone_from room b (put room b x) + k = omega arith in e);
      as_long = length-set b.bytes _ x;
      unwritten =
          λ place new. get_or-set_other b.bytes (place_in room b b.span.count) place x 0
          (new b.span.count (omega arith) (omega arith));
    }

push_unmoved : (room : ℕ) (b : Buffer) (x : ℕ) → Unmoved room b (pushed room b x)
unfolding pushed
push_unmoved room b x =
    pick_ind (Unmoved room b) (ltb b.span.count room) _ _
    (λ e. put_unmoved room b x (ltb-true _ room e)) (λ e. same_unmoved room b)

take_unmoved : (room : ℕ) (b : Buffer) → 0 < held_in room b → Unmoved room b (buffer b.bytes (fewer room b.span))
take_unmoved room b some =
    let most = held_most room b.span.count in
    let start = start_less room b.span.first (omega arith) in
    let after : held_of room (held_in room b - 1) ≡ held_in room b - 1 = held_same room _ (omega arith) in
    record {
      stayed =
          λ k j. let next : suc k ≡ gone_from room b (buffer b.bytes (fewer room b.span)) + k = omega arith in
          rw (start_same room _ (wrap_less room _ 1 start (omega arith)))
          (sym (wrap_next room _ k start (omega arith)) ∙ ap (place_in room b) next);
      as_long = refl;
      unwritten = λ place new. refl;
    }

pub call_unmoved : (room : ℕ) (b : Buffer) (call : Call) → Unmoved room b (turned room b call)
unfolding pushed popped
call_unmoved room b (push byte) = push_unmoved room b byte
call_unmoved room b take =
    pick_ind (λ (span : Span). Unmoved room b (buffer b.bytes span)) (eqb (held_in room b) 0) _ _
    (λ e. same_unmoved room b) (λ e. take_unmoved room b (omega (arith, eqb-false (held_in room b) 0 e)))
call_unmoved room b empty =
    let none : held_of room 0 ≡ 0 = held_same room 0 (omega arith) in
    record {
      stayed = λ k h. absurd (let b : ⊥ = omega arith in b);
      as_long = refl;
      unwritten = λ place new. refl;
    }

-- ---- several bytes

-- bytes came in, and then more did
grown_unmoved : (room : ℕ) (b c d : Buffer) → Unmoved room b c → Unmoved room c d → held_in room b ≤ held_in room c
    → held_in room c ≤ held_in room d → Unmoved room b d
grown_unmoved room b c d one two hc hd =
    record {
      stayed =
          λ k h. later k (omega arith) ∙ one.stayed k (omega arith)
          ∙ ap (place_in room b) (let e : gone_from room b c + k ≡ gone_from room b d + k = omega arith in e);
      as_long = two.as_long ∙ one.as_long;
      unwritten =
          λ place new. two.unwritten place (λ k h j. new k (omega arith) j)
          ∙ one.unwritten place (λ k h j e. new k h (omega arith) (e ∙ sym (later k j)));
    }
  where
    later : (k : ℕ) → k < held_in room c → place_in room d k ≡ place_in room c k
    later k h =
        two.stayed k (omega arith) ∙ ap (place_in room c) (let e : gone_from room c d + k ≡ k = omega arith in e)

put_grows : (room : ℕ) (b : Buffer) (x : ℕ) → b.span.count < room → held_in room b ≤ held_in room (put room b x)
put_grows room b x h =
    let before : held_in room b ≡ b.span.count = held_same room _ (omega arith) in
    let after : held_in room (put room b x) ≡ b.span.count + 1 = held_same room _ (omega arith) in
    omega arith

push_grows : (room : ℕ) (b : Buffer) (x : ℕ) → held_in room b ≤ held_in room (pushed room b x)
unfolding pushed
push_grows room b x =
    pick_ind (λ (c : Buffer). held_in room b ≤ held_in room c) (ltb b.span.count room) _ _
    (λ e. put_grows room b x (ltb-true _ room e)) (λ e. omega arith)

-- three bytes, as a reception begins
pub three_unmoved : (room : ℕ) (b : Buffer) (x y z : ℕ)
    → Unmoved room b (pushed room (pushed room (pushed room b x) y) z)
three_unmoved room b x y z =
    let c = pushed room b x in
    let d = pushed room c y in
    let one = push_grows room b x in
    let two = push_grows room c y in
    grown_unmoved room b d (pushed room d z)
    (grown_unmoved room b c d (push_unmoved room b x) (push_unmoved room c y) one two)
    (push_unmoved room d z) (omega arith) (push_grows room d z)

-- ---- what is written

-- by a take, no place of the array; by a push, one
pub take_writes_none : (room : ℕ) (b : Buffer) → (turned room b take).bytes ≡ b.bytes
take_writes_none room b = refl

pub push_writes_one : (room : ℕ) (b : Buffer) (byte place : ℕ) → (place ≡ place_in room b (held_in room b) → ⊥)
    → get_or (turned room b (push byte)).bytes place 0 ≡ get_or b.bytes place 0
unfolding pushed
push_writes_one room b byte place other =
    pick_ind (λ (after : Buffer). get_or after.bytes place 0 ≡ get_or b.bytes place 0) (ltb b.span.count room) _ _
    (λ e. let held = held_same room b.span.count (omega (arith, ltb-true _ room e)) in
    get_or-set_other b.bytes _ place byte 0 (λ p. other (p ∙ ap (place_in room b) (sym held)))) (λ e. refl)

-- where none came in, no place of the array
pub none_written : {room : ℕ} {b after : Buffer} → Unmoved room b after → held_in room after ≤ held_in room b
    → after.bytes ≡ b.bytes
none_written unmoved fewer =
    ext_get_or 0 _ _ unmoved.as_long (λ place h. unmoved.unwritten place (λ k i j e. omega arith))

-- where one did, the place where it lies
pub one_written : {room : ℕ} {b after : Buffer} → Unmoved room b after → held_in room after ≡ held_in room b + 1
    → (place : ℕ) → (place ≡ place_in room after (held_in room b) → ⊥)
    → get_or after.bytes place 0 ≡ get_or b.bytes place 0
one_written {room} {b} {after} unmoved one place other =
    unmoved.unwritten place
    (λ k h i e. other (e ∙ ap (place_in room after) (let same : k ≡ held_in room b = omega arith in same)))

-- where one has left, each of the others lies where it lay
pub one_left : {room : ℕ} {b after : Buffer} → Unmoved room b after → held_in room b ≡ held_in room after + 1
    → (k : ℕ) → k < held_in room after → place_in room after k ≡ place_in room b (k + 1)
one_left {room} {b} {after} unmoved one k h =
    unmoved.stayed k (omega arith)
    ∙ ap (place_in room b) (let e : gone_from room b after + k ≡ k + 1 = omega arith in e)

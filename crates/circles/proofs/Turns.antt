-- A circle is the queue that it stands for, after each of any calls.
use Prim.Native.Nat.{ℕ}
use native.Mathlib.Omega.{arith}
use mathlib.Core.List.{List, [], ◌∷◌, map}
use mathlib.Core.Path.{◌≡◌, refl, ap, ◌∙◌}
use lib.ListN.{length}
use Rattle.circles.specs.Calls.{AsQueue, Call, push, take, empty, after_all, after_each, queued, turned}
use Rattle.circles.specs.Calls.{turns, vacant}
use Rattle.circles.specs.Circle.{Buffer, buffer, circle_of, items, list_of}
use Rattle.circles.proofs.Circle.{held_same, pop_list, push_list}
use Rattle.circles.proofs.Places.{call_unmoved}

pub calls_length : (room : ℕ) (calls : List Call) (b : Buffer)
    → length (turns room b calls).bytes ≡ length b.bytes
calls_length room [] b = refl
calls_length room (call ∷ calls) b =
    calls_length room calls (turned room b call) ∙ (call_unmoved room b call).as_long

-- one call
one_call : (room : ℕ) (b : Buffer) (call : Call) → length b.bytes ≡ room
    → list_of room (turned room b call) ≡ queued room (list_of room b) call
unfolding queued circle_of items
one_call room b (push byte) full = push_list room b byte full
one_call room b take full = pop_list room b.bytes b.span
one_call room b empty full = ap (items room b.bytes _) (held_same room 0 (omega arith))

after-all : (room : ℕ) (calls : List Call) (b : Buffer) → length b.bytes ≡ room
    → list_of room (turns room b calls) ≡ after_all (queued room) (list_of room b) calls
after-all room [] b full = refl
after-all room (call ∷ calls) b full =
    after-all room calls (turned room b call) ((call_unmoved room b call).as_long ∙ full)
    ∙ ap (λ (queue : List ℕ). after_all (queued room) queue calls) (one_call room b call full)

each_call : (room : ℕ) (calls : List Call) (b : Buffer) → length b.bytes ≡ room
    → map (list_of room) (after_each (turned room) b calls) ≡ after_each (queued room) (list_of room b) calls
unfolding after_each
each_call room [] b full = refl
each_call room (call ∷ calls) b full =
    rw (← one_call room b call full)
    (ap (λ (rest : List (List ℕ)). list_of room (turned room b call) ∷ rest)
    (each_call room calls (turned room b call) ((call_unmoved room b call).as_long ∙ full)))

-- any calls, from any span of any array
pub any_calls : (room : ℕ) (b : Buffer) (calls : List Call) → length b.bytes ≡ room
    → AsQueue room b (list_of room b) calls
any_calls room b calls full =
    record { after-each = each_call room calls b full; after-all = after-all room calls b full }

-- .. and from an empty one
pub from_empty : (bytes : List ℕ) (calls : List Call) → AsQueue (length bytes) (buffer bytes vacant) [] calls
unfolding circle_of items
from_empty bytes calls =
    let none : list_of (length bytes) (buffer bytes vacant) ≡ [] = ap (items (length bytes) bytes _) (held_same
    (length bytes) 0 (omega arith)) in
    rw (← none) (any_calls (length bytes) (buffer bytes vacant) calls refl)

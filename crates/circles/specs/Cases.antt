-- Circles that go round their end, call by call.
use Rattle.std.specs.Prelude.{ℕ, zero, suc, true, List, [], ◌∷◌, ◌++◌, map, ◌≡◌, refl, get_or, length, replicate}
use Rattle.line.specs.Cases.{Case, ◌gives◌, all_given}
use Rattle.line.specs.Numbers.{rbf_bytes, tbf_bytes}
use Rattle.rules.specs.State.{push_of}
use Rattle.circles.specs.Calls.{Call, push, take, empty, after_each, popped, pushed, queued, turned, vacant}
use Rattle.circles.specs.Circle.{Buffer, buffer, circle_of, items, list_of}

-- an empty buffer, as a reset leaves it
abbrev pub clear : ℕ → Buffer
clear room = buffer (replicate room 0) vacant

-- the first place, the count, and the array
abbrev pub laid : Buffer → List ℕ
laid b = b.span.first ∷ b.span.count ∷ b.bytes

-- several lists as one, each behind its length
abbrev pub joined : List (List ℕ) → List ℕ
joined [] = []
joined (l ∷ lists) = length l ∷ l ++ joined lists

-- ---- every call written out

-- what the calls leave in a circle, as lists; what they leave in a queue; and how the circle lies
abbrev pub leaves : ℕ → Buffer → List Call → List (List ℕ) → List (List ℕ) → List Case
leaves room b calls lists places =
    (joined (map (list_of room) (after_each (turned room) b calls)) gives joined lists)
    ∷ (joined (after_each (queued room) (list_of room b) calls) gives joined lists)
    ∷ (joined (map laid (after_each (turned room) b calls)) gives joined places)
    ∷ []

-- Three places. A push to a full circle and a take from an empty one leave all as it was; 4, 7 and 10 go to place 0;
-- the circle is full, and empty, with its first place at 0 and at 1.
unfoldable pub three_times : List Case
three_times =
    leaves 3 (clear 3)
    (take ∷ push 1 ∷ push 2 ∷ push 3 ∷ push 99 ∷ take ∷ push 4 ∷ take ∷ take ∷ push 5 ∷ push 6 ∷ take ∷ take ∷ take
    ∷ take ∷ push 7 ∷ take ∷ push 8 ∷ push 9 ∷ push 10 ∷ empty ∷ push 11 ∷ [])
    ([] ∷ (1 ∷ []) ∷ (1 ∷ 2 ∷ []) ∷ (1 ∷ 2 ∷ 3 ∷ []) ∷ (1 ∷ 2 ∷ 3 ∷ []) ∷ (2 ∷ 3 ∷ []) ∷ (2 ∷ 3 ∷ 4 ∷ [])
    ∷ (3 ∷ 4 ∷ []) ∷ (4 ∷ []) ∷ (4 ∷ 5 ∷ []) ∷ (4 ∷ 5 ∷ 6 ∷ []) ∷ (5 ∷ 6 ∷ []) ∷ (6 ∷ []) ∷ [] ∷ [] ∷ (7 ∷ []) ∷ []
    ∷ (8 ∷ []) ∷ (8 ∷ 9 ∷ []) ∷ (8 ∷ 9 ∷ 10 ∷ []) ∷ [] ∷ (11 ∷ []) ∷ [])
    ((0 ∷ 0 ∷ 0 ∷ 0 ∷ 0 ∷ []) ∷ (0 ∷ 1 ∷ 1 ∷ 0 ∷ 0 ∷ []) ∷ (0 ∷ 2 ∷ 1 ∷ 2 ∷ 0 ∷ []) ∷ (0 ∷ 3 ∷ 1 ∷ 2 ∷ 3 ∷ [])
    ∷ (0 ∷ 3 ∷ 1 ∷ 2 ∷ 3 ∷ []) ∷ (1 ∷ 2 ∷ 1 ∷ 2 ∷ 3 ∷ []) ∷ (1 ∷ 3 ∷ 4 ∷ 2 ∷ 3 ∷ []) ∷ (2 ∷ 2 ∷ 4 ∷ 2 ∷ 3 ∷ [])
    ∷ (0 ∷ 1 ∷ 4 ∷ 2 ∷ 3 ∷ []) ∷ (0 ∷ 2 ∷ 4 ∷ 5 ∷ 3 ∷ []) ∷ (0 ∷ 3 ∷ 4 ∷ 5 ∷ 6 ∷ []) ∷ (1 ∷ 2 ∷ 4 ∷ 5 ∷ 6 ∷ [])
    ∷ (2 ∷ 1 ∷ 4 ∷ 5 ∷ 6 ∷ []) ∷ (0 ∷ 0 ∷ 4 ∷ 5 ∷ 6 ∷ []) ∷ (0 ∷ 0 ∷ 4 ∷ 5 ∷ 6 ∷ []) ∷ (0 ∷ 1 ∷ 7 ∷ 5 ∷ 6 ∷ [])
    ∷ (1 ∷ 0 ∷ 7 ∷ 5 ∷ 6 ∷ []) ∷ (1 ∷ 1 ∷ 7 ∷ 8 ∷ 6 ∷ []) ∷ (1 ∷ 2 ∷ 7 ∷ 8 ∷ 9 ∷ []) ∷ (1 ∷ 3 ∷ 10 ∷ 8 ∷ 9 ∷ [])
    ∷ (0 ∷ 0 ∷ 10 ∷ 8 ∷ 9 ∷ []) ∷ (0 ∷ 1 ∷ 11 ∷ 8 ∷ 9 ∷ []) ∷ [])

-- one place, none, and a span that nothing here makes: past the end is place 0, and over the room is full
unfoldable pub odd_circles : List Case
odd_circles =
    leaves 1 (clear 1) (push 1 ∷ push 99 ∷ take ∷ take ∷ push 2 ∷ [])
    ((1 ∷ []) ∷ (1 ∷ []) ∷ [] ∷ [] ∷ (2 ∷ []) ∷ [])
    ((0 ∷ 1 ∷ 1 ∷ []) ∷ (0 ∷ 1 ∷ 1 ∷ []) ∷ (0 ∷ 0 ∷ 1 ∷ []) ∷ (0 ∷ 0 ∷ 1 ∷ []) ∷ (0 ∷ 1 ∷ 2 ∷ []) ∷ [])
    ++ leaves 0 (clear 0) (push 1 ∷ take ∷ []) ([] ∷ [] ∷ []) ((0 ∷ 0 ∷ []) ∷ (0 ∷ 0 ∷ []) ∷ [])
    ++ leaves 3 (buffer (1 ∷ 2 ∷ 3 ∷ []) (record { first = 7; count = 9 })) (push 99 ∷ take ∷ push 4 ∷ [])
    ((1 ∷ 2 ∷ 3 ∷ []) ∷ (2 ∷ 3 ∷ []) ∷ (2 ∷ 3 ∷ 4 ∷ []) ∷ [])
    ((7 ∷ 9 ∷ 1 ∷ 2 ∷ 3 ∷ []) ∷ (1 ∷ 2 ∷ 1 ∷ 2 ∷ 3 ∷ []) ∷ (1 ∷ 3 ∷ 4 ∷ 2 ∷ 3 ∷ []) ∷ [])

-- ---- TBF and RBF

-- so many numbers, from one on
abbrev pub upward : ℕ → ℕ → List ℕ
upward zero a = []
upward (suc n) a = a ∷ upward n (suc a)

-- so many come in, from a byte on, and so many leave
abbrev pub in_and_out : ℕ → ℕ → ℕ → List Call
in_and_out n a m = map push (upward n a) ++ replicate m take

-- the bytes that leave, and then how the circle lies
abbrev pub passing : ℕ → Buffer → List Call → List ℕ
passing room b [] = laid b
passing room b (push x ∷ calls) = passing room (turned room b (push x)) calls
passing room b (take ∷ calls) = get_or (list_of room b) 0 0 ∷ passing room (turned room b take) calls
passing room b (empty ∷ calls) = passing room (turned room b empty) calls

-- full, refused, a part taken, full again across the end, all taken, and once more as many as there is room for
unfoldable pub long_rounds : List Case
long_rounds =
    (passing tbf_bytes (clear tbf_bytes)
    (in_and_out 33 1 0 ++ push 99 ∷ in_and_out 0 0 20 ++ in_and_out 20 34 33 ++ in_and_out 33 54 33)
    gives upward 86 1 ++ 20 ∷ 0 ∷ upward 20 67 ++ upward 13 54)
    ∷ (passing rbf_bytes (clear rbf_bytes)
    (in_and_out 40 1 0 ++ push 99 ∷ in_and_out 0 0 35 ++ in_and_out 35 41 40 ++ in_and_out 40 76 40)
    gives upward 115 1 ++ 35 ∷ 0 ∷ upward 35 81 ++ upward 5 76)
    ∷ []

pub circle_cases : all_given (three_times ++ odd_circles ++ long_rounds) ≡ true
unfolding all_given three_times odd_circles long_rounds after_each queued pushed popped push_of circle_of items
circle_cases = refl

-- What is done to a buffer, call by call: to the circle, and to the queue that it stands for.
use Rattle.std.specs.Prelude.{ℕ, ◌+◌, ◌-◌, List, [], ◌∷◌, map, ◌≡◌, eqb, ltb, drop, length, set}
use Rattle.line.specs.Choice.{pick}
use Rattle.rules.specs.State.{push_of}
use Rattle.circles.specs.Circle.{Buffer, Unmoved, buffer, held_of, list_of, place_in, start_of, wrap}
use Rattle.circles.specs.declared.Span.{Span}

-- a byte behind the others
abbrev pub put : ℕ → Buffer → ℕ → Buffer
put room b byte =
    record {
      bytes = set b.bytes (place_in room b b.span.count) byte;
      span = record { first = b.span.first; count = b.span.count + 1 };
    }

-- .. where there is room
unfoldable pub pushed : ℕ → Buffer → ℕ → Buffer
pushed room b byte = pick (ltb b.span.count room) (put room b byte) b

-- without the oldest byte
abbrev pub fewer : ℕ → Span → Span
fewer room span =
    record { first = wrap room (start_of room span.first + 1); count = held_of room span.count - 1 }

-- .. where there is one
unfoldable pub popped : ℕ → Span → Span
popped room span = pick (eqb (held_of room span.count) 0) span (fewer room span)

-- with none
abbrev pub vacant : Span
vacant = record { first = 0; count = 0 }

-- ---- calls

pub data Call : Type 0 where
  push : ℕ → Call
  take : Call
  empty : Call

-- the circle after a call
abbrev pub turned : ℕ → Buffer → Call → Buffer
turned room b (push byte) = pushed room b byte
turned room b take = buffer b.bytes (popped room b.span)
turned room b empty = buffer b.bytes vacant

-- "the old one": the queue of the rules, after a call
unfoldable pub queued : ℕ → List ℕ → Call → List ℕ
queued room bytes (push byte) = push_of room bytes byte
queued room bytes take = drop 1 bytes
queued room bytes empty = []

-- "after each call", and after all of them
unfoldable pub after_each : {A : Type 0} → (A → Call → A) → A → List Call → List A
after_each step a [] = []
after_each step a (call ∷ calls) = step a call ∷ after_each step (step a call) calls

abbrev pub after_all : {A : Type 0} → (A → Call → A) → A → List Call → A
after_all step a [] = a
after_all step a (call ∷ calls) = after_all step (step a call) calls

abbrev pub turns : ℕ → Buffer → List Call → Buffer
turns room b calls = after_all (turned room) b calls

-- "Read as a list, oldest first, the buffer equals the old one after each call"
pub record AsQueue (room : ℕ) (b : Buffer) (queue : List ℕ) (calls : List Call) : Type 0 where
  pub after-each : map (list_of room) (after_each (turned room) b calls) ≡ after_each (queued room) queue calls
  pub after-all : list_of room (turns room b calls) ≡ after_all (queued room) queue calls

-- what calls have made of a buffer: after each of them it was read as the old queue, and no byte of it was moved
pub record ByCalls (room : ℕ) (b : Buffer) (calls : List Call) (after : Buffer) : Type 0 where
  pub made : after ≡ turns room b calls
  pub as_queue : length b.bytes ≡ room → AsQueue room b (list_of room b) calls
  pub unmoved : Unmoved room b after

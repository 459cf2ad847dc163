-- A buffer in a circle: an array of bytes and a span, read as a list, oldest first; and what it is to move no byte.
use Rattle.std.specs.Prelude.{ℕ, zero, suc, ◌+◌, ◌-◌, ◌≤◌, ◌<◌, List, [], ◌∷◌, ◌≡◌, ltb, get_or, length}
use Rattle.line.specs.Choice.{pick}
use Rattle.circles.specs.declared.Span.{Span}

-- a place in a circle of so many places, for places below twice as many
abbrev pub wrap : ℕ → ℕ → ℕ
wrap room place = pick (ltb place room) place (place - room)

-- the first place: one past the end counts as 0
abbrev pub start_of : ℕ → ℕ → ℕ
start_of room first = pick (ltb first room) first 0

-- how many bytes are held: a count over the room counts as full
abbrev pub held_of : ℕ → ℕ → ℕ
held_of room count = pick (ltb count room) count room

-- so many bytes of a circle, from a place on
unfoldable pub items : ℕ → List ℕ → ℕ → ℕ → List ℕ
items room bytes place zero = []
items room bytes place (suc count) = get_or bytes place 0 ∷ items room bytes (wrap room (place + 1)) count

-- the bytes that a span says, oldest first
unfoldable pub circle_of : ℕ → List ℕ → Span → List ℕ
circle_of room bytes span = items room bytes (start_of room span.first) (held_of room span.count)

-- ---- an array with its span

pub record Buffer : Type 0 where
  pub bytes : List ℕ
  pub span : Span

abbrev pub buffer : List ℕ → Span → Buffer
buffer bytes span = record { bytes = bytes; span = span }

-- "Read as a list, oldest first"
abbrev pub list_of : ℕ → Buffer → List ℕ
list_of room b = circle_of room b.bytes b.span

abbrev pub held_in : ℕ → Buffer → ℕ
held_in room b = held_of room b.span.count

-- where the byte lies that is so many behind the oldest
abbrev pub place_in : ℕ → Buffer → ℕ → ℕ
place_in room b k = wrap room (start_of room b.span.first + k)

-- how many bytes fewer there are than there were
abbrev pub gone_from : ℕ → Buffer → Buffer → ℕ
gone_from room b after = held_in room b - held_in room after

-- "Taking a byte shall move no other": a buffer, and what it is after bytes have left or have come in. Those that have
-- stayed lie where they lay; and no place of the array is written but those of bytes that came in
pub record Unmoved (room : ℕ) (b after : Buffer) : Type 0 where
  pub stayed : (k : ℕ) → gone_from room b after + k < held_in room b
      → place_in room after k ≡ place_in room b (gone_from room b after + k)
  pub as_long : length after.bytes ≡ length b.bytes
  pub unwritten : (place : ℕ)
      → ((k : ℕ) → held_in room b ≤ k → k < held_in room after → place ≡ place_in room after k → ⊥)
      → get_or after.bytes place 0 ≡ get_or b.bytes place 0

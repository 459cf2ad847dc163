-- The frames of a list of words, and which of its words are kept when two lists are compared for the holder of a lock
-- (document 01, "Over what is demand 3 stated?").
use Rattle.std.specs.Prelude.{Bool, true, false, List, [], ◌∷◌, map, ℕ, zero, suc, ◌+◌, ◌*◌, eqb, drop}
use Rattle.line.specs.Choice.{bit_of}
use Rattle.line.specs.Slot.{Class, slot, stray, host, class_of}
use Rattle.line.specs.declared.slot.Slot.TheVariants.{Level, Start, Idle}

-- "A frame of a list goes from a start slot through the next idle slot, or to the list's end; a word of kind 0 with a
-- stray bit may lie in it but is no slot": the levels of a frame, from the words that follow its start slot
unfoldable pub levels : List Class → List Bool
levels [] = []
levels (slot (Level b) ∷ ws) = b ∷ levels ws
levels (slot Start ∷ ws) = levels ws
levels (slot Idle ∷ ws) = []
levels (stray ∷ ws) = levels ws
levels (host ∷ ws) = levels ws

-- n levels more are there and, behind the bits x, highest first, they spell h
unfoldable pub spells : ℕ → ℕ → ℕ → List Bool → Bool
spells h zero x bs = eqb h x
spells h (suc n) x [] = false
spells h (suc n) x (b ∷ bs) = spells h n (x * 2 + bit_of b) bs

-- "The first level is the broadcast bit, the next 12 are the master address; with fewer it is cut short": a frame with
-- these levels is h's. "Its frames are those with its address, parity right or wrong"
unfoldable pub from_master : ℕ → List Bool → Bool
from_master h bs = spells h 12 0 (drop 1 bs)

-- the same, from the words that follow its start slot
unfoldable pub framed : ℕ → List Class → Bool
framed h ws = from_master h (levels ws)

-- which words are kept: "host words are all words of another kind than 0"; of kind 0 those in h's frames, the idle
-- slot that closes one among them. `mine` says that a frame of h's is open at the beginning
unfoldable pub marks : ℕ → Bool → List Class → List Bool
marks h mine [] = []
marks h mine (slot (Level b) ∷ ws) = mine ∷ marks h mine ws
marks h mine (slot Start ∷ ws) = framed h ws ∷ marks h (framed h ws) ws
marks h mine (slot Idle ∷ ws) = mine ∷ marks h false ws
marks h mine (stray ∷ ws) = mine ∷ marks h mine ws
marks h mine (host ∷ ws) = true ∷ marks h mine ws

-- "with an idle slot between any two starts". `busy` says that a start slot lies behind, and no idle slot since
unfoldable pub spaced : Bool → List Class → Bool
spaced busy [] = true
spaced busy (slot (Level b) ∷ ws) = spaced busy ws
spaced true (slot Start ∷ ws) = false
spaced false (slot Start ∷ ws) = spaced true ws
spaced busy (slot Idle ∷ ws) = spaced false ws
spaced busy (stray ∷ ws) = spaced busy ws
spaced busy (host ∷ ws) = spaced busy ws

-- the words that are marked, and how many marks there are
unfoldable pub marked : List Bool → List ℕ → List ℕ
marked [] ws = []
marked (m ∷ ms) [] = []
marked (true ∷ ms) (w ∷ ws) = w ∷ marked ms ws
marked (false ∷ ms) (w ∷ ws) = marked ms ws

unfoldable pub count : List Bool → ℕ
count [] = 0
count (true ∷ ms) = suc (count ms)
count (false ∷ ms) = count ms

-- of a whole list: each word's mark, and "the words kept"
unfoldable pub keeps : ℕ → List ℕ → List Bool
keeps h ws = marks h false (map class_of ws)

unfoldable pub kept : ℕ → List ℕ → List ℕ
kept h ws = marked (keeps h ws) ws

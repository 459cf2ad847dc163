-- A text as bytes, and pieces written into one behind each other, as far as there is room.
use Rattle.std.specs.Prelude.{◌≡◌, List, [], ◌∷◌, ℕ, ◌+◌, ◌-◌, min, length}
use Prim.Native.Char.{code}
use Prim.Native.String.{String, [] as no-character, ◌∷◌ as ◌and_then◌}
use Rattle.std.proofs.Math.Seq.{paste}

-- a text as bytes
abbrev pub bytes_of : String → List ℕ
bytes_of no-character = []
bytes_of (c and_then s) = code c ∷ bytes_of s

-- how many bytes of a piece have room in a text from a place on
abbrev pub fitting : List ℕ → ℕ → List ℕ → ℕ
fitting text at piece = min (length piece) (length text - at)

-- a piece has been written over a text from a place on, up to another, as far as there was room
pub record Put (text : List ℕ) (at : ℕ) (piece : List ℕ) (end : ℕ) (after : List ℕ) : Type 0 where
  pub ends : end ≡ at + fitting text at piece
  pub written : after ≡ paste text at piece (fitting text at piece)

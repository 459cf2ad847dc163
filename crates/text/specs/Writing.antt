-- What private functions of the listing cite.
use Rattle.std.specs.Prelude.{◌≡◌, List, ◌++◌, ℕ, ◌+◌, ◌*◌, length, take, drop}
use Rattle.text.specs.Listing.{lines_of, words_listed}

-- a text with a piece written over it from a place on
abbrev pub pasted : List ℕ → ℕ → List ℕ → List ℕ
pasted text at piece = take at text ++ piece ++ drop (at + length piece) text

-- the header and the first lines stand at the front of a text, up to a place; the rest is as before
pub record LinesUpTo (input answers before : List ℕ) (lines place : ℕ) (after : List ℕ) : Type 0 where
  pub ends : place ≡ 12 + lines * 18
  pub written : after ≡ lines_of input answers lines ++ drop place before

-- all the lines of the input
abbrev pub LinesIn : List ℕ → List ℕ → List ℕ → ℕ → List ℕ → Type 0
LinesIn input answers before place after = LinesUpTo input answers before (words_listed (length input)) place after

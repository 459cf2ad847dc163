-- The data of a frame as the code has it, and the records that it is written to.
use Rattle.std.specs.Prelude.{Bool, ◌≡◌, List, ◌++◌, map, ℕ, ◌+◌, eqb, drop, length, take}
use Rattle.line.specs.Choice.{pick}
use Rattle.line.specs.Numbers.{end_broken_data, end_short, end_whole}
use Rattle.logs.specs.Data.{Text}
use Rattle.logs.specs.Records.{byte_word}
use Rattle.reader.specs.declared.text.Body.{Body}
use Rattle.reader.specs.Endings.{ending_by}

-- a list with a piece written over it from a place on
abbrev pub pasted : List ℕ → ℕ → List ℕ → List ℕ
pasted list at piece = take at list ++ piece ++ drop (at + length piece) list

-- how data ends where there is no attempt more, as a number
abbrev pub ending_in : ℕ → ℕ → Bool → ℕ
ending_in missing left cut =
    pick (eqb missing 0) end_whole (pick (eqb left 0) end_short (pick cut end_broken_data end_short))

abbrev pub body_of : Text → Body
body_of t = record { acked = length t.acked; unacked = t.unacked; ending = ending_by t.ending }

-- the data of a frame is written down, and told
pub record Wrote (t : Text) (at : ℕ) (before : List ℕ) (body : Body) (after : List ℕ) : Type 0 where
  pub told : body ≡ body_of t
  pub written : after ≡ pasted before at (map byte_word t.acked)

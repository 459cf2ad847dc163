-- Document 01, "Refused because of the input" and "Refused because of the state": a refusal by its number, and what an
-- answer is.
use Rattle.std.specs.Prelude.{ℕ, ⊤, Ok, Err, Result}
use Rattle.line.specs.Numbers.{refused_kind, refused_stray_bit, refused_register, refused_value, refused_level}
use Rattle.line.specs.Numbers.{refused_out_of_turn, refused_full, refused_too_few, refused_empty, refused_unable}
use Rattle.rules.specs.declared.answer.Refusal.{Refusal}
use Rattle.rules.specs.declared.answer.Refusal.TheVariants.{UnknownKind, StrayBit, UnlistedRegister, UnlistedValue}
use Rattle.rules.specs.declared.answer.Refusal.TheVariants.{LevelUnheard, OutOfTurn, Full, TooFew, Empty, Unable}
use Rattle.rules.specs.declared.answer.Reply.{Reply}

abbrev pub number_of : Refusal → ℕ
number_of UnknownKind = refused_kind
number_of StrayBit = refused_stray_bit
number_of UnlistedRegister = refused_register
number_of UnlistedValue = refused_value
number_of LevelUnheard = refused_level
number_of OutOfTurn = refused_out_of_turn
number_of Full = refused_full
number_of TooFew = refused_too_few
number_of Empty = refused_empty
number_of Unable = refused_unable

-- to an accepted word, or why it is refused
abbrev pub Answer : Type 0
Answer = Result Reply Refusal

-- what is looked for in a word: why it is refused, or nothing against it
abbrev pub Looked : Type 0
Looked = Result ⊤ Refusal

abbrev pub fine : Looked
fine = Ok tt

-- the number, 0 where there is none
abbrev pub number_in : Looked → ℕ
number_in (Ok x) = 0
number_in (Err refusal) = number_of refusal

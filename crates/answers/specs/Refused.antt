-- Numbers 11 and 12 of a run over bytes, and the word of an answer whose refusals have any numbers.
use Rattle.std.specs.Prelude.{ℕ, ⊤, Ok, Err, Result}
use Rattle.rules.specs.Step.{refused_word, word_of}
use Rattle.rules.specs.declared.answer.Reply.{Reply}
use Rattle.line.specs.Numbers.{refused_byte_count, refused_short_list}
use Rattle.answers.specs.declared.ListError.{ListError}
use Rattle.answers.specs.declared.ListError.TheVariants.{ByteCount, ShortList}

abbrev pub error_number : ListError → ℕ
error_number ByteCount = refused_byte_count
error_number ShortList = refused_short_list

-- 0 where a run can be
abbrev pub number_in : Result ⊤ ListError → ℕ
number_in (Ok x) = 0
number_in (Err error) = error_number error

-- the ten, or numbers themselves
abbrev pub word_by : {E : Type 0} → (E → ℕ) → Result Reply E → ℕ
word_by number (Ok reply) = word_of (Ok reply)
word_by number (Err refusal) = refused_word (number refusal)

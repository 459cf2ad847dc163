-- An answer of a unit's has the word of the rules: its refusals are the ten.
use mathlib.Core.Path.{◌≡◌, refl}
use Rattle.std.specs.Prelude.{Ok, Err}
use Rattle.rules.specs.Answers.{Answer, number_of}
use Rattle.rules.specs.Step.{word_of}
use Rattle.answers.specs.Refused.{word_by}

pub word_by_ten : (a : Answer) → word_by number_of a ≡ word_of a
unfolding word_of
word_by_ten (Ok reply) = refl
word_by_ten (Err refusal) = refl

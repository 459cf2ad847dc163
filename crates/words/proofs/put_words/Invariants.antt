use Rattle.line.proofs.Placed.{Placed}
use Rattle.words.specs.Words.{word_at}
use Rattle.words.proofs.put_words.Given as goal

abbrev pub invariant-loop-i : goal.invariant-loop-i
invariant-loop-i l = Placed (word_at l.input) l.initial.words l.words l.i

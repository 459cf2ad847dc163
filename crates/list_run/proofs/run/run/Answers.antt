use native.Mathlib.Omega.{arith}
use borrow.Author.Tests.{lt-ltb, le-ltb}
use mathlib.Core.Path.{ap, ◌∙◌}
use Rattle.rules.proofs.Protects.{holds}
use Rattle.unit.specs.Unit.{state_of}
use Rattle.lists.specs.Run.{answers_after, list_refusal, unit_after}
use Rattle.lists.proofs.Rulings.{listed_ruled}
use Rattle.list_run.specs.Run.{unit_left}
use Rattle.list_run.proofs.run.run.Goals as goal

pub returns-then-answers-words-clause-called : goal.returns-then-answers-words-clause-called
unfolding unit_left list_refusal unit_after answers_after
returns-then-answers-words-clause-called c =
    let short = lt-ltb _ _ c.if-answers-words.true in
    record {
      ends = simp short;
      left = simp short;
      written = simp short;
      ruled = λ zero. absurd (let b : ⊥ = omega (arith, zero) in b);
      protected = holds;
    }

pub returns-clause-called : goal.returns-clause-called
unfolding unit_left list_refusal unit_after answers_after
returns-clause-called c =
    let room = le-ltb _ _ c.if-answers-words.false in
    let ran = rw c.lent.ensures at c.run_lent-left.ensures in
    record {
      ends = simp room;
      left = ap state_of c.from_lent.ensures ∙ ran.state ∙ simp room;
      written = ran.written ∙ simp room;
      ruled = λ _. listed_ruled _ _ _ _ ran.written;
      protected = holds;
    }

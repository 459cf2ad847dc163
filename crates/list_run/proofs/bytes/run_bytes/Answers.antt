use borrow.Author.Tests.{eqb-false}
use mathlib.Core.Path.{◌∙◌}
use Rattle.std.proofs.lemmas.Result.{err_from_is_err_and}
use Rattle.rules.proofs.Protects.{holds}
use Rattle.lists.specs.Bytes.{bytes_after}
use Rattle.lists.proofs.Rulings.{spelled_ruled}
use Rattle.list_run.proofs.Spelled.{error_some}
use Rattle.list_run.proofs.bytes.run_bytes.Goals as goal

pub returns-in_err-check_bytes-clause-called : goal.returns-in_err-check_bytes-clause-called
unfolding bytes_after
returns-in_err-check_bytes-clause-called c =
    let p = err_from_is_err_and c.from_residual.result c.from_residual.ensures.1 in
    let some = error_some c.in_err-check_bytes.field-0.0 in
    rw (p.1, p.2)
    (record {
      ends = c.in_err-check_bytes.ensures;
      written = simp (← c.in_err-check_bytes.ensures, some);
      ruled = λ none. absurd (eqb-false _ 0 some none);
      protected = holds;
    })

pub returns-clause-called : goal.returns-clause-called
unfolding bytes_after
returns-clause-called c =
    let ran = rw c.lent.ensures at c.run_spelled-left.ensures in
    record {
      ends = c.in_ok-check_bytes.ensures;
      written = ran.written ∙ simp (← c.in_ok-check_bytes.ensures);
      ruled = λ _. spelled_ruled _ _ _ _ ran.written;
      protected = holds;
    }

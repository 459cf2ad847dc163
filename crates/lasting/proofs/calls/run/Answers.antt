use native.Mathlib.Omega.{arith}
use borrow.Author.Tests.{eqb-false, ne_eqb}
use mathlib.Core.Path.{sym}
use Rattle.std.proofs.lemmas.Result.{err_from_is_err_and}
use Rattle.rules.proofs.Protects.{holds}
use Rattle.keeping.specs.Calls.{run_answers, run_bytes, run_refusal, run_state, size_refusal}
use Rattle.list_run.proofs.Spelled.{error_some}
use Rattle.lasting.proofs.Taken.{promised}
use Rattle.lasting.proofs.calls.run.Goals as goal

pub returns-in_err-check_bytes : goal.returns-in_err-check_bytes
unfolding run_refusal run_answers run_bytes run_state
returns-in_err-check_bytes c =
    let p = err_from_is_err_and c.from_residual.result c.from_residual.ensures.1 in
    let short = c.in_err-check_bytes.ensures in
    let some = error_some c.in_err-check_bytes.field-0.0 in
    rw (p.1, p.2)
    (record {
      ends = simp (← short, some);
      written = simp (← short, some);
      left = simp (← short, some);
      again = simp (← short, some);
      ruled = λ none. absurd (eqb-false _ 0 some none);
      protected = holds;
    })

pub returns-in_default : goal.returns-in_default
unfolding run_refusal run_answers run_bytes run_state size_refusal
returns-in_default c =
    let none = c.in_ok-check_bytes.ensures in
    let wrong = ne_eqb _ _ c.in_default.ensures.cases in
    record {
      ends = simp (← none, wrong);
      written = simp (← none, wrong);
      left = simp (← none, wrong);
      again = simp (← none, wrong);
      ruled = λ zero. absurd (let b : ⊥ = omega (arith, zero) in b);
      protected = holds;
    }

pub returns : goal.returns
returns c =
    let whole = c.in-Some.ensures.cases in
    let all = promised _ _ _ _ _ _ _ (sym c.in_ok-check_bytes.ensures)
    whole.long (rw whole.same at c.unit_from.ensures) c.in_ok-left.ensures.left c.in_ok-left.ensures.called.written
    c.put_unit.ensures in
    record {
      ends = sym all.number;
      written = all.written;
      left = all.left;
      again = all.again;
      ruled = λ _. all.ruled;
      protected = holds;
    }

-- What is done to the lent buffers is what the rules do to the lists that they hold.
use Prim.Native.Nat.{ℕ}
use mathlib.Core.List.{List}
use mathlib.Core.Path.{◌≡◌, refl, ap, ap₂, ◌∙◌}
use lib.ListN.{length}
use Rattle.line.specs.Numbers.{rbf_bytes, tbf_bytes}
use Rattle.lent.specs.Both.{Loan, buffers_in, gave_in, loan_acted, loan_drawn, loan_filled, loan_in, reset_lent}
use Rattle.lent.specs.Both.{taken_in, written_in}
use Rattle.circles.specs.Buffers.{Buffers, after_calls, emptied, sent_by, stored_by}
use Rattle.circles.specs.Calls.{popped, pushed, turns}
use Rattle.circles.specs.Circle.{Buffer, buffer, circle_of, items, list_of}
use Rattle.circles.specs.declared.Span.{Span}
use Rattle.lent.specs.declared.step.Lent.{Lent}
use Rattle.rules.specs.State.{reset}
use Rattle.rules.specs.declared.state.Acted.{Acted}
use Rattle.rules.specs.declared.state.Core.{Core}
use Rattle.circles.proofs.Circle.{pop_list, push_list}
use Rattle.circles.proofs.Read.{sent_list, stored_list}

-- a unit of such scalars and buffers
abbrev loan_of : Core → Buffers → Loan
loan_of core b =
    record {
      state = record { core = core; tbf = list_of tbf_bytes b.tbf; rbf = list_of rbf_bytes b.rbf };
      buffers = b;
    }

-- a slot's act is carried out
pub acted_state : (u : Lent) (acted : Acted) (t r r' : List ℕ) (sent stored : Span)
    → buffer t sent ≡ turns tbf_bytes (buffer t u.tbf) (sent_by acted.act)
    → buffer r' stored ≡ turns rbf_bytes (buffer r u.rbf) (stored_by acted.act) → length r ≡ rbf_bytes
    → taken_in (loan_in (record { core = acted.core; tbf = sent; rbf = stored }) t r')
    ≡ taken_in (loan_acted (loan_in u t r) acted)
acted_state u acted t r r' sent stored d e full =
    ap₂ (λ (tbf rbf : Buffer). taken_in (loan_of acted.core (record { tbf = tbf; rbf = rbf }))) d e
    ∙ rw (sent_list acted.act (buffer t u.tbf), stored_list acted.act (buffer r u.rbf) full) refl

-- a byte is written to TBF
pub filled_state : (u : Lent) (v : ℕ) (t t' r : List ℕ) (sent : Span)
    → buffer t' sent ≡ pushed tbf_bytes (buffer t u.tbf) v → length t ≡ tbf_bytes
    → written_in (loan_in (record { core = u.core; tbf = sent; rbf = u.rbf }) t' r)
    ≡ written_in (loan_filled (loan_in u t r) v)
filled_state u v t t' r sent e full =
    ap (λ (b : Buffer). written_in (loan_of u.core (record { tbf = b; rbf = buffer r u.rbf }))) e
    ∙ rw (push_list tbf_bytes (buffer t u.tbf) v full) refl

-- the oldest byte of RBF is read
pub drawn_state : (u : Lent) (t r : List ℕ) (v : ℕ)
    → gave_in (loan_in (record { core = u.core; tbf = u.tbf; rbf = popped rbf_bytes u.rbf }) t r) v
    ≡ gave_in (loan_drawn (loan_in u t r)) v
drawn_state u t r v = rw (pop_list rbf_bytes r u.rbf) refl

-- a reset
pub reset_state : (u : Lent) (t r : List ℕ)
    → loan_in reset_lent t r ≡ record { state = reset; buffers = after_calls emptied (buffers_in u t r) }
unfolding circle_of items
reset_state u t r = refl

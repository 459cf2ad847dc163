-- A unit that holds its buffers: as a state of the rules, and whole, each place of its arrays included.
use Rattle.std.specs.Prelude.{ℕ, List, ◌≡◌, length, replicate}
use Rattle.line.specs.Numbers.{rbf_bytes, tbf_bytes}
use Rattle.circles.specs.Buffers.{Buffers, InCircles, word_calls}
use Rattle.circles.specs.Calls.{vacant}
use Rattle.circles.specs.Circle.{buffer, circle_of}
use Rattle.lent.specs.Both.{left_by}
use Rattle.lent.specs.declared.step.Lent.{Lent}
use Rattle.rules.specs.State.{State, reset_core}
use Rattle.unit.specs.declared.buffers.Buffer.{Buffer}
use Rattle.unit.specs.declared.step.Unit.{Unit}

abbrev pub tbf_of : Buffer tbf_bytes → List ℕ
tbf_of t = circle_of tbf_bytes t.bytes t.span

abbrev pub rbf_of : Buffer rbf_bytes → List ℕ
rbf_of r = circle_of rbf_bytes r.bytes r.span

abbrev pub state_of : Unit → State
state_of u = record { core = u.core; tbf = tbf_of u.tbf; rbf = rbf_of u.rbf }

abbrev pub buffers_of : Unit → Buffers
buffers_of u = record { tbf = buffer u.tbf.bytes u.tbf.span; rbf = buffer u.rbf.bytes u.rbf.span }

-- what a word leaves in the buffers is what its calls make of circles of 33 and 40 places
pub record Circling (u : Unit) (w : ℕ) (after : Unit) : Type 0 where
  pub tbf_places : length u.tbf.bytes ≡ tbf_bytes
  pub rbf_places : length u.rbf.bytes ≡ rbf_bytes
  pub circles : InCircles (word_calls (state_of u) w) (buffers_of u) (buffers_of after)

-- ---- whole

-- its buffers apart from it, and together with it
abbrev pub lent_of : Unit → Lent
lent_of u = record { core = u.core; tbf = u.tbf.span; rbf = u.rbf.span }

abbrev pub unit_in : Lent → List ℕ → List ℕ → Unit
unit_in u t r =
    record {
      core = u.core;
      tbf = record { bytes = t; span = u.tbf };
      rbf = record { bytes = r; span = u.rbf };
    }

-- "all else zero or empty"
abbrev pub reset_unit : Unit
reset_unit =
    record {
      core = reset_core;
      tbf = record { bytes = replicate tbf_bytes 0; span = vacant };
      rbf = record { bytes = replicate rbf_bytes 0; span = vacant };
    }

-- after a word: what is left where its buffers are lent
unfoldable pub unit_by : Unit → ℕ → Unit
unit_by u w =
    let left = left_by (lent_of u) w u.tbf.bytes u.rbf.bytes in unit_in left.lent left.tbf left.rbf

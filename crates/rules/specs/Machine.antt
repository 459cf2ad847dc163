-- The unit as a machine that takes words: what demand 3 is stated over.
use Rattle.std.specs.Prelude.{Bool, ◌≡◌, List, ℕ}
use Rattle.place.specs.declared.Place.TheVariants.{Waiting}
use Rattle.isolation.specs.Runs.{Machine}
use Rattle.rules.specs.State.{State}
use Rattle.rules.specs.Step.{step_of, answer_of, word_of}

-- "the buffers, the lock and the return codes"; buffers "as lists, oldest first"
pub record Observed : Type 0 where
  pub tbf : List ℕ
  pub rbf : List ℕ
  pub locked : Bool
  pub holder : ℕ
  pub marc : ℕ
  pub slrc : ℕ

abbrev pub observed : State → Observed
observed s =
    record {
      tbf = s.tbf;
      rbf = s.rbf;
      locked = s.core.regs.locked;
      holder = s.core.regs.holder;
      marc = s.core.regs.marc;
      slrc = s.core.regs.slrc;
    }

abbrev pub waiting : State → Type 0
waiting s = s.core.frame.place ≡ Waiting

abbrev pub unit : Machine
unit =
    record {
      State = State;
      step = step_of;
      answer = λ s w. word_of (answer_of s w);
      Observed = Observed;
      observed = observed;
      waiting = waiting;
      locked = λ s. s.core.regs.locked;
      holder = λ s. s.core.regs.holder;
      requesting = λ s. s.core.regs.marq;
    }

-- A list run that is under way: some words have their answers, and the others are to come.
use mathlib.Core.Path.{◌≡◌, refl, sym, ap, ◌∙◌}
use mathlib.Core.List.{List, [], ◌∷◌, ◌++◌}
use Prim.Native.Nat.{ℕ, ◌+◌, ◌≤◌, ◌<◌}
use native.Mathlib.Omega.{arith}
use lib.ListN.{length, drop, get_or, set, drop_of_length-le}
use Rattle.line.proofs.Filled.{Filled, one_filled, all_filled}
use Rattle.line.proofs.Places.{cut}
use Rattle.isolation.specs.Runs.{run, answers}
use Rattle.lent.specs.Both.{Left, Runs, state_in}
use Rattle.rules.specs.Machine.{unit}
use Rattle.rules.specs.State.{State}
use Rattle.rules.specs.Step.{step_of, answer_of, word_of}
use Rattle.lent.specs.declared.step.Answered.{Answered}
use Rattle.lent.specs.declared.step.Lent.{Lent}
use Rattle.unit.specs.Unit.{state_of, unit_by, unit_in}
use Rattle.unit.specs.declared.step.Unit.{Unit}
use Rattle.list_run.specs.Run.{Whole, unit_over}

pub run_cons : (s : State) (w : ℕ) (ws : List ℕ) → run unit s (w ∷ ws) ≡ run unit (step_of s w) ws
unfolding run
run_cons s w ws = refl

pub answers_cons : (s : State) (w : ℕ) (ws : List ℕ)
    → answers unit s (w ∷ ws) ≡ word_of (answer_of s w) ∷ answers unit (step_of s w) ws
unfolding answers
answers_cons s w ws = refl

pub run_nil : (s : State) → run unit s [] ≡ s
unfolding run
run_nil s = refl

pub answers_nil : (s : State) → answers unit s [] ≡ []
unfolding answers
answers_nil s = refl

-- after i of the words, from the state `s₀` over the answer list `first`: the state is s, the answer list `now`
pub record Underway (s₀ : State) (words first : List ℕ) (s : State) (now : List ℕ) (i : ℕ) : Type 0 where
  pub states : run unit s₀ words ≡ run unit s (drop i words)
  pub filled : Filled (answers unit s₀ words) first now (answers unit s (drop i words)) i
  pub within : i ≤ length words

-- one word more: the state after it, and its answer at the next place
pub one_run : {s₀ s : State} {words first now : List ℕ} {i : ℕ} → Underway s₀ words first s now i
    → i < length words → length words ≤ length first
    → (s' : State) → s' ≡ step_of s (get_or words i 0) → (v : ℕ) → v ≡ word_of (answer_of s (get_or words i 0))
    → Underway s₀ words first s' (set now i v) (i + 1)
one_run {s₀} {s} {words} {first} {now} {i} d h room s' e v ev =
    record {
      states = d.states ∙ rw (cut words i h, run_cons, ← e);
      filled = one_filled v (rw (cut words i h, answers_cons, ← e, ← ev) at d.filled)
          (omega (arith, d.filled.long));
      within = omega arith;
    }

pub all_run : {s₀ s : State} {words first now : List ℕ} {i : ℕ} → Underway s₀ words first s now i
    → length words ≤ i
    → (s ≡ run unit s₀ words) × (now ≡ answers unit s₀ words ++ drop (length words) first)
all_run {s₀} {s} {words} {first} {now} {i} d h =
    let all : i ≡ length words = omega (arith, d.within) in (
      sym (d.states ∙ rw (drop_of_length-le words h, run_nil)),
      rw (← all) (all_filled (rw (drop_of_length-le words h, answers_nil) at d.filled)),
    )

-- ---- the same by a unit whose buffers are lent

over_cons : (v : Unit) (w : ℕ) (ws : List ℕ) → unit_over v (w ∷ ws) ≡ unit_over (unit_by v w) ws
unfolding unit_over
over_cons v w ws = refl

pub over_nil : (v : Unit) → unit_over v [] ≡ v
unfolding unit_over
over_nil v = refl

-- they stay whole
pub whole_after : {u : Lent} {w : ℕ} {t t' r r' : List ℕ} {a : Answered} → Whole t r → Runs u w t t' r r' a
    → Whole t' r'
whole_after whole ran = (ran.tbf_kept ∙ whole.0, ran.rbf_kept ∙ whole.1)

-- one word more of a list
pub one_over : {u : Lent} {t t' r r' : List ℕ} {a : Answered} (w : ℕ) (ws : List ℕ) → Whole t r → Runs u w t t' r r' a
    → unit_over (unit_in u t r) (w ∷ ws) ≡ unit_over (unit_in a.lent t' r') ws
unfolding unit_by
one_over {u} {t} {r = r} w ws whole ran =
    over_cons (unit_in u t r) w ws
    ∙ ap (λ (left : Left). unit_over (unit_in left.lent left.tbf left.rbf) ws)
    (sym (ran.whole whole.0 whole.1))

-- the run from a unit `v₀`
pub record UnderwayIn (v₀ : Unit) (words first : List ℕ) (u : Lent) (t r now : List ℕ) (i : ℕ) : Type 0 where
  pub ran : Underway (state_of v₀) words first (state_in u t r) now i
  pub lent : Whole t r
  pub units : unit_over v₀ words ≡ unit_over (unit_in u t r) (drop i words)

pub one_run_in : {v₀ : Unit} {words first now t t' r r' : List ℕ} {i : ℕ} {u : Lent} {a : Answered}
    → UnderwayIn v₀ words first u t r now i → i < length words → length words ≤ length first
    → Runs u (get_or words i 0) t t' r r' a → (v : ℕ) → v ≡ word_of a.answer
    → UnderwayIn v₀ words first a.lent t' r' (set now i v) (i + 1)
one_run_in {words = words} {i = i} {u = u} d h room step v e =
    let whole = d.lent in
    record {
      ran = one_run d.ran h room _ (step.state whole.0 whole.1) v
          (e ∙ ap word_of (step.answer whole.0 whole.1));
      lent = whole_after whole step;
      units = d.units ∙ ap (unit_over (unit_in u _ _)) (cut words i h) ∙ one_over _ _ whole step;
    }

pub all_over : {v₀ : Unit} {words first now t r : List ℕ} {i : ℕ} {u : Lent}
    → UnderwayIn v₀ words first u t r now i → length words ≤ i → unit_in u t r ≡ unit_over v₀ words
all_over {words = words} d h = sym (d.units ∙ rw (drop_of_length-le words h, over_nil))

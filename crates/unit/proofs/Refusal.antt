-- "A refusal changes no state", of the unit whole: each place of its arrays stays too, held or not.
use Prim.Native.Nat.{ℕ}
use mathlib.Core.Bool.{Bool, true, false}
use mathlib.Core.Path.{◌≡◌, refl, ap, ◌∙◌}
use Rattle.line.specs.Choice.{pick}
use Rattle.line.specs.Slot.{Class, slot, stray, host, class_of}
use Rattle.line.specs.declared.slot.Slot.{Slot}
use Rattle.line.specs.declared.slot.Slot.TheVariants.{Level, Start, Idle}
use Rattle.lent.specs.Both.{left_by}
use Rattle.circles.specs.Buffers.{Buffers, Calls, after_calls, calls_as, no_calls, slot_calls, told_calls}
use Rattle.circles.specs.Buffers.{word_calls}
use Rattle.rules.proofs.Ruled.{given_is_none, refused_unchanged}
use Rattle.rules.specs.Registers.{Told, wrote, restarted, gave, denied, register_of, told_of, value_of}
use Rattle.rules.specs.State.{State}
use Rattle.rules.specs.Step.{answer_of, clashes, said_as, slot_said, step_of, told_said}
use Rattle.std.specs.Prelude.{Ok, Err}
use Rattle.rules.specs.Answers.{Answer}
use Rattle.rules.specs.declared.answer.Refusal.{Refusal}
use Rattle.rules.specs.declared.answer.Reply.{Reply}
use Rattle.rules.specs.declared.state.Core.{Core}
use Rattle.unit.specs.Unit.{buffers_of, state_of, unit_by}
use Rattle.unit.specs.declared.step.Unit.{Unit}

-- ---- its buffers: a refused word makes no call on them

level_uncalled : (c : Bool) (calls : Calls) (m : Refusal) (reply : Reply) (n : Refusal)
    → pick {A = Answer} c (Err m) (Ok reply) ≡ Err n → pick c no_calls calls ≡ no_calls
level_uncalled true calls m reply n e = refl
level_uncalled false calls m reply n e = absurd (given_is_none reply n e)

slot_uncalled : (s t : State) (c : Slot) (n : Refusal) → slot_said s t c ≡ Err n → slot_calls s c ≡ no_calls
unfolding slot_said slot_calls
slot_uncalled s t (Level bit) n e = level_uncalled (clashes s bit) _ _ _ n e
slot_uncalled s t Start n e = absurd (given_is_none _ n e)
slot_uncalled s t Idle n e = absurd (given_is_none _ n e)

told_uncalled : (t : State) (told : Told) (register v : ℕ) (n : Refusal) → told_said t told ≡ Err n
    → told_calls told register v ≡ no_calls
told_uncalled t (wrote r tbf) register v n e = absurd (given_is_none _ n e)
told_uncalled t restarted register v n e = absurd (given_is_none _ n e)
told_uncalled t (gave rbf value) register v n e = absurd (given_is_none _ n e)
told_uncalled t (denied m) register v n e = refl

as_uncalled : (k : Class) (s t : State) (w : ℕ) (n : Refusal) → said_as k s t w ≡ Err n → calls_as k s w ≡ no_calls
as_uncalled (slot c) s t w n e = slot_uncalled s t c n e
as_uncalled stray s t w n e = refl
as_uncalled host s t w n e =
    told_uncalled t (told_of s.core.regs s.tbf s.rbf w) (register_of w) (value_of w) n e

word_uncalled : (s : State) (w : ℕ) (n : Refusal) → answer_of s w ≡ Err n → word_calls s w ≡ no_calls
unfolding answer_of word_calls
word_uncalled s w n e = as_uncalled (class_of w) s (step_of s w) w n e

-- ---- the unit

-- of such scalars and buffers
abbrev unit_of : Core → Buffers → Unit
unit_of core b =
    record {
      core = core;
      tbf = record { bytes = b.tbf.bytes; span = b.tbf.span };
      rbf = record { bytes = b.rbf.bytes; span = b.rbf.span };
    }

pub refused_whole : (u : Unit) (w : ℕ) (n : Refusal) → answer_of (state_of u) w ≡ Err n → unit_by u w ≡ u
unfolding unit_by left_by
refused_whole u w n e =
    let s = state_of u in
    let b = buffers_of u in
    ap (λ (t : State). unit_of t.core (after_calls (word_calls s w) b)) (refused_unchanged s w n e)
    ∙ ap (λ (calls : Calls). unit_of u.core (after_calls calls b)) (word_uncalled s w n e)

-- What a word does to TBF and RBF: its calls keep them queues, and move no byte of them.
use Prim.Native.Nat.{ℕ}
use mathlib.Core.Path.{refl}
use lib.Dec.{eqb}
use Rattle.line.specs.Numbers.{rbf_bytes, reg_rbf, reg_tbf, tbf_bytes}
use Rattle.line.specs.Slot.{Class, slot, stray, host, class_of}
use Rattle.line.specs.declared.slot.Slot.{Slot}
use Rattle.line.specs.declared.slot.Slot.TheVariants.{Level, Start, Idle}
use Rattle.rules.specs.Registers.{Told, wrote, restarted, gave, denied, register_of, told_of, value_of}
use Rattle.rules.specs.State.{State}
use Rattle.rules.specs.Step.{clashes}
use Rattle.rules.specs.declared.state.Act.{Act}
use Rattle.rules.specs.declared.state.Act.TheVariants.{Nothing, Take, Empty, Header, Byte}
use Rattle.rules.proofs.Calm.{pick_ind}
use Rattle.circles.specs.Buffers.{Buffers, Calls, InCircles, acting, after_calls, calls_as, drawn, filled, sent_by}
use Rattle.circles.specs.Buffers.{no_calls, slot_calls, slot_taken, stored_by, told_calls, word_calls}
use Rattle.circles.specs.Calls.{push, take, empty, turns}
use Rattle.circles.specs.Circle.{Buffer, Unmoved}
use Rattle.circles.proofs.Places.{call_unmoved, same_unmoved, three_unmoved}
use Rattle.circles.proofs.Turns.{any_calls}

-- ---- slots

sent_unmoved : (act : Act) (b : Buffer) → Unmoved tbf_bytes b (turns tbf_bytes b (sent_by act))
unfolding sent_by
sent_unmoved Nothing b = same_unmoved tbf_bytes b
sent_unmoved Take b = call_unmoved tbf_bytes b take
sent_unmoved Empty b = call_unmoved tbf_bytes b empty
sent_unmoved (Header x y z) b = same_unmoved tbf_bytes b
sent_unmoved (Byte x) b = same_unmoved tbf_bytes b

stored_unmoved : (act : Act) (b : Buffer) → Unmoved rbf_bytes b (turns rbf_bytes b (stored_by act))
unfolding stored_by
stored_unmoved Nothing b = same_unmoved rbf_bytes b
stored_unmoved Take b = same_unmoved rbf_bytes b
stored_unmoved Empty b = same_unmoved rbf_bytes b
stored_unmoved (Header x y z) b = three_unmoved rbf_bytes b x y z
stored_unmoved (Byte x) b = call_unmoved rbf_bytes b (push x)

-- ---- words

-- calls on TBF and on RBF that move no byte
record Still (c : Calls) : Type 0 where
  tbf : (b : Buffer) → Unmoved tbf_bytes b (turns tbf_bytes b c.tbf)
  rbf : (b : Buffer) → Unmoved rbf_bytes b (turns rbf_bytes b c.rbf)

still : Still no_calls
still = record { tbf = same_unmoved tbf_bytes; rbf = same_unmoved rbf_bytes }

acting_still : (act : Act) → Still (acting act)
acting_still act = record { tbf = sent_unmoved act; rbf = stored_unmoved act }

slot_still : (s : State) (c : Slot) → Still (slot_calls s c)
unfolding slot_calls
slot_still s (Level bit) =
    pick_ind Still (clashes s bit) no_calls (slot_taken s (Level bit)) (λ e. still) (λ e. acting_still _)
slot_still s Start = acting_still _
slot_still s Idle = acting_still _

told_still : (t : Told) (register v : ℕ) → Still (told_calls t register v)
told_still (wrote r tbf) register v =
    pick_ind Still (eqb register reg_tbf) (filled v) no_calls
    (λ e. record { tbf = λ b. call_unmoved tbf_bytes b (push v); rbf = same_unmoved rbf_bytes }) (λ e. still)
told_still restarted register v =
    record { tbf = λ b. call_unmoved tbf_bytes b empty; rbf = λ b. call_unmoved rbf_bytes b empty }
told_still (gave rbf value) register v =
    pick_ind Still (eqb register reg_rbf) drawn no_calls
    (λ e. record { tbf = same_unmoved tbf_bytes; rbf = λ b. call_unmoved rbf_bytes b take }) (λ e. still)
told_still (denied e) register v = still

word_still : (s : State) (w : ℕ) → Still (word_calls s w)
unfolding word_calls
word_still s w = by (class_of w)
  where
    by : (class : Class) → Still (calls_as class s w)
    by (slot c) = slot_still s c
    by stray = still
    by host = told_still (told_of s.core.regs s.tbf s.rbf w) (register_of w) (value_of w)

-- any word, in every state, on any arrays with any spans
pub word_circles : (s : State) (w : ℕ) (b : Buffers) → InCircles (word_calls s w) b (after_calls (word_calls s w) b)
word_circles s w b =
    record {
      tbf = record { made = refl; as_queue = any_calls tbf_bytes b.tbf _; unmoved = (word_still s w).tbf b.tbf };
      rbf = record { made = refl; as_queue = any_calls rbf_bytes b.rbf _; unmoved = (word_still s w).rbf b.rbf };
    }

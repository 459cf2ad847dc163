-- Circles that are read as the buffers of a state are so after any word: what it does to them is what the rules do to
-- the lists.
use Prim.Native.Nat.{ℕ, ◌/◌, ◌%◌}
use mathlib.Core.Bool.{Bool, true, false, ◌&&◌}
use mathlib.Core.List.{List, [], ◌∷◌}
use mathlib.Core.Path.{◌≡◌, refl, ap, ◌∙◌}
use lib.Dec.{eqb}
use lib.ListN.{drop, length}
use Rattle.line.specs.Choice.{pick}
use Rattle.line.specs.Numbers.{ctr_reset, kind_read, kind_write, rbf_bytes, reg_ctr, reg_rbf, reg_tbf, tbf_bytes}
use Rattle.line.specs.Slot.{Class, slot, stray, host, class_of, kind_of}
use Rattle.line.specs.declared.slot.Slot.{Slot}
use Rattle.line.specs.declared.slot.Slot.TheVariants.{Level, Start, Idle}
use Rattle.rules.proofs.Looked.{unless_ind}
use Rattle.rules.specs.declared.answer.Refusal.{Refusal}
use Rattle.rules.specs.Registers.{Told, wrote, restarted, gave, denied, read_refusal, read_told, register_of, told_of}
use Rattle.rules.specs.Registers.{value_of, write_done, write_refusal, write_told}
use Rattle.rules.specs.State.{State, is_empty, push_of, rbf_after, tbf_after}
use Rattle.rules.specs.Step.{acted_by, acted_on, clashes, slot_on, step_as, step_of, told_on}
use Rattle.rules.specs.declared.state.Act.{Act}
use Rattle.rules.specs.declared.state.Act.TheVariants.{Nothing, Take, Empty, Header, Byte}
use Rattle.rules.specs.declared.state.Acted.{Acted}
use Rattle.rules.specs.declared.state.Registers.{Registers}
use Rattle.rules.proofs.Calm.{pick_ind}
use Rattle.circles.specs.Buffers.{Buffers, ReadAs, acting, after_calls, calls_as, slot_calls, slot_taken}
use Rattle.circles.specs.Buffers.{no_calls, sent_by, stored_by, told_calls, word_calls}
use Rattle.circles.specs.Calls.{push, queued, turns}
use Rattle.circles.specs.Circle.{Buffer, circle_of, items, list_of}
use Rattle.circles.proofs.Circle.{pop_list, push_list}
use Rattle.circles.proofs.Turns.{any_calls}

-- ---- what a slot does

pub sent_list : (act : Act) (b : Buffer)
    → list_of tbf_bytes (turns tbf_bytes b (sent_by act)) ≡ tbf_after act (list_of tbf_bytes b)
unfolding sent_by tbf_after circle_of items
sent_list Nothing b = refl
sent_list Take b = pop_list tbf_bytes b.bytes b.span
sent_list Empty b = refl
sent_list (Header x y z) b = refl
sent_list (Byte x) b = refl

pub stored_list : (act : Act) (b : Buffer) → length b.bytes ≡ rbf_bytes
    → list_of rbf_bytes (turns rbf_bytes b (stored_by act)) ≡ rbf_after act (list_of rbf_bytes b)
unfolding stored_by rbf_after queued
stored_list Nothing b full = refl
stored_list Take b full = refl
stored_list Empty b full = refl
stored_list (Header x y z) b full = (any_calls rbf_bytes b (push x ∷ push y ∷ push z ∷ []) full).after-all
stored_list (Byte x) b full = (any_calls rbf_bytes b (push x ∷ []) full).after-all

-- arrays of 33 and 40 places, which are read as the buffers of a state
record Read (b : Buffers) (s : State) : Type 0 where
  sent : length b.tbf.bytes ≡ tbf_bytes
  stored : length b.rbf.bytes ≡ rbf_bytes
  lists : ReadAs b s

module _ (b : Buffers) (s : State) (h : Read b s) where
  -- ---- slots

  acted_read : (a : Acted) → ReadAs (after_calls (acting a.act) b) (acted_on s a)
  acted_read a =
      record {
        tbf = sent_list a.act b.tbf ∙ ap (tbf_after a.act) h.lists.tbf;
        rbf = stored_list a.act b.rbf h.stored ∙ ap (rbf_after a.act) h.lists.rbf;
      }

  level_read : (clash bit : Bool)
      → ReadAs (after_calls (pick clash no_calls (slot_taken s (Level bit))) b) (pick clash s (acted_by s (Level bit)))
  level_read true bit = h.lists
  level_read false bit = acted_read _

  slot_read : (c : Slot) → ReadAs (after_calls (slot_calls s c) b) (slot_on s c)
  unfolding slot_calls slot_on
  slot_read (Level bit) = level_read (clashes s bit) bit
  slot_read Start = acted_read _
  slot_read Idle = acted_read _

  -- ---- host words

  module _ (register v : ℕ) where
    unfoldable Fits : Told → Type 0
    Fits t = ReadAs (after_calls (told_calls t register v) b) (told_on s t)

    pushed_fits : (r : Registers) → eqb register reg_tbf ≡ true → Fits (wrote r (push_of tbf_bytes s.tbf v))
    unfolding Fits
    pushed_fits r e =
        rw e
        (record {
          tbf = push_list tbf_bytes b.tbf v h.sent ∙ ap (λ (l : List ℕ). push_of tbf_bytes l v) h.lists.tbf;
          rbf = h.lists.rbf;
        })

    wrote_fits : (r : Registers) → eqb register reg_tbf ≡ false → Fits (wrote r s.tbf)
    unfolding Fits
    wrote_fits r e = rw e (record { tbf = h.lists.tbf; rbf = h.lists.rbf })

    reset_fits : Fits restarted
    unfolding Fits circle_of items
    reset_fits = record { tbf = refl; rbf = refl }

    drawn_fits : (value : ℕ) → eqb register reg_rbf ≡ true → Fits (gave (drop 1 s.rbf) value)
    unfolding Fits
    drawn_fits value e =
        rw e
        (record {
          tbf = h.lists.tbf;
          rbf = pop_list rbf_bytes b.rbf.bytes b.rbf.span ∙ ap (drop 1) h.lists.rbf;
        })

    gave_fits : (value : ℕ) → eqb register reg_rbf ≡ false → Fits (gave s.rbf value)
    unfolding Fits
    gave_fits value e = rw e (record { tbf = h.lists.tbf; rbf = h.lists.rbf })

    denied_fits : (e : Refusal) → Fits (denied e)
    unfolding Fits
    denied_fits e = h.lists

    done_fits : Fits (write_done s.core.regs s.tbf register v)
    unfolding write_done
    done_fits =
        pick_ind Fits (eqb register reg_tbf) _ _ (pushed_fits _)
        (λ e. pick_ind Fits (eqb register reg_ctr && eqb v ctr_reset) _ _ (λ f. reset_fits) (λ f. wrote_fits _ e))

    write_fits : Fits (write_told s.core.regs s.tbf register v)
    unfolding write_told
    write_fits = unless_ind Fits (write_refusal s.core.regs (length s.tbf) register v) _ done_fits denied_fits

    read_fits : Fits (read_told s.core.regs s.tbf s.rbf register)
    unfolding read_told
    read_fits =
        unless_ind Fits (read_refusal register (is_empty s.rbf)) _
        (pick_ind Fits (eqb register reg_rbf) _ _ (drawn_fits _) (gave_fits _)) denied_fits

  told_fits : (w : ℕ) → Fits (register_of w) (value_of w) (told_of s.core.regs s.tbf s.rbf w)
  unfolding told_of
  told_fits w =
      let r = register_of w in
      let v = value_of w in
      pick_ind (Fits r v) (eqb (kind_of w) kind_write) _ _
      (λ e. pick_ind (Fits r v) (eqb (w / 256 % 65536) 0) _ _ (λ f. write_fits r v) (λ f. denied_fits r v _))
      (λ e. pick_ind (Fits r v) (eqb (kind_of w) kind_read) _ _
      (λ f. pick_ind (Fits r v) (eqb (w % 0x0100_0000) 0) _ _ (λ g. read_fits r v) (λ g. denied_fits r v _))
      (λ f. denied_fits r v _))

-- ---- any word

pub word_read : (s : State) (w : ℕ) (b : Buffers) → length b.tbf.bytes ≡ tbf_bytes
    → length b.rbf.bytes ≡ rbf_bytes → ReadAs b s → ReadAs (after_calls (word_calls s w) b) (step_of s w)
unfolding word_calls step_of Fits
word_read s w b sent stored lists = by (class_of w)
  where
    h : Read b s
    h = record { sent = sent; stored = stored; lists = lists }

    by : (class : Class) → ReadAs (after_calls (calls_as class s w) b) (step_as class s w)
    by (slot c) = slot_read b s h c
    by stray = lists
    by host = told_fits b s h w

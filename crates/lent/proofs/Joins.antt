-- How the answers that the functions of a unit give make up what the definitions say of a word, over any state.
use Prim.Native.Nat.{ℕ, ◌/◌, ◌%◌}
use mathlib.Core.Bool.{true, false, ◌&&◌}
use mathlib.Core.Logic.{⊎_elim}
use mathlib.Core.List.{List}
use mathlib.Core.Path.{◌≡◌, refl, sym, ap, subst}
use lib.Dec.{eqb}
use lib.ListN.{get_or, length}
use Rattle.line.specs.Numbers.{kind_slot, kind_read, kind_write, rbf_bytes, tbf_bytes}
use Rattle.line.specs.Slot.{class_of, kind_of, slot_of}
use Rattle.line.specs.declared.slot.Slot.{Slot}
use Rattle.line.specs.declared.slot.Slot.TheVariants.{Level, Start, Idle}
use Rattle.line.proofs.Either.{either}
use Rattle.lent.specs.Both.{after_done, after_host, after_read, after_slot, after_word, after_write}
use Rattle.lent.specs.Both.{Both, Runs, Works, buffers_in, left_as, left_by, loan_in, looked_in, state_in}
use Rattle.lent.specs.Both.{answer_to}
use Rattle.rules.specs.Answers.{Answer}
use Rattle.lent.specs.declared.step.Answered.{Answered}
use Rattle.lent.specs.declared.step.Done.{Done}
use Rattle.lent.specs.declared.step.Lent.{Lent}
use Rattle.lent.specs.Both.{Loan, gave_in, loan_acted, loan_drawn, loan_filled}
use Rattle.lent.specs.Both.{loan_written, refused_in, slot_acted, slot_refusal, taken_in, written_in}
use Rattle.circles.specs.Buffers.{InCircles, after_calls, emptied, slot_calls, word_calls}
use Rattle.circles.proofs.Words.{word_circles}
use Rattle.rules.specs.Registers.{read_refusal, read_told, read_value, register_of, told_of, value_of, write_done}
use Rattle.rules.specs.Registers.{write_refusal, write_told, written}
use Rattle.rules.specs.State.{is_empty, reset}
use Rattle.rules.specs.Answers.{Looked, fine}
use Rattle.rules.specs.declared.answer.Refusal.{Refusal}
use Rattle.rules.specs.declared.answer.Refusal.TheVariants.{StrayBit, UnknownKind}
use Rattle.std.specs.Prelude.{Some, None, Ok, Err}
use Rattle.rules.specs.Step.{answer_of, clashes, next_drive, slot_on, slot_said, step_of}

-- ---- slots

pub slot_came : (l : Loan) (c : Slot) (looked : Looked) → looked ≡ slot_refusal l.state c
    → looked_in l looked (taken_in (loan_acted l (slot_acted l.state c))) ≡ after_slot l c
unfolding slot_on slot_said slot_calls slot_refusal
slot_came l (Level bit) looked e =
    ⊎_elim (λ (clash : clashes l.state bit ≡ true). rw e (simp clash))
    (λ (free : clashes l.state bit ≡ false). rw e (simp free)) (either (clashes l.state bit))
slot_came l Start looked e = rw e refl
slot_came l Idle looked e = rw e refl

-- ---- writes

pub done_tbf : (l : Loan) (register v : ℕ) → eqb register 0xE ≡ true
    → written_in (loan_filled l v) ≡ after_done l register v
unfolding write_done
done_tbf l register v tbf = simp tbf

pub done_reset : (l : Loan) (register v : ℕ) → eqb register 0xE ≡ false → eqb register 0x0 && eqb v 0x08 ≡ true
    → written_in (record { state = reset; buffers = after_calls emptied l.buffers }) ≡ after_done l register v
unfolding write_done
done_reset l register v other again = simp (other, again)

pub done_other : (l : Loan) (register v : ℕ) → eqb register 0xE ≡ false → eqb register 0x0 && eqb v 0x08 ≡ false
    → written_in (loan_written l (written l.state.core.regs register v)) ≡ after_done l register v
unfolding write_done
done_other l register v other kept = simp (other, kept)

pub write_came : (l : Loan) (register v : ℕ) (looked : Looked)
    → looked ≡ write_refusal l.state.core.regs (length l.state.tbf) register v
    → looked_in l looked (after_done l register v) ≡ after_write l register v
unfolding write_told
write_came l register v (Ok x) e = rw (← e) refl
write_came l register v (Err refusal) e = rw (← e) refl

-- ---- reads

pub read_byte : (l : Loan) (register v : ℕ) → fine ≡ read_refusal register (is_empty l.state.rbf)
    → eqb register 0xE ≡ true
    → gave_in (loan_drawn l) (get_or l.state.rbf 0 0) ≡ after_read l register v
unfolding read_told
read_byte l register v none rbf = simp (← none, rbf)

pub read_other : (l : Loan) (register v : ℕ) → fine ≡ read_refusal register (is_empty l.state.rbf)
    → eqb register 0xE ≡ false
    → gave_in l (read_value l.state.core.regs (length l.state.tbf) (length l.state.rbf) register)
    ≡ after_read l register v
unfolding read_told
read_other l register v none other = simp (← none, other)

pub read_refused : (l : Loan) (register v : ℕ) (refusal : Refusal)
    → Err refusal ≡ read_refusal register (is_empty l.state.rbf) → refused_in l refusal ≡ after_read l register v
unfolding read_told
read_refused l register v refusal some = simp (← some)

-- ---- any word

pub told_write : (l : Loan) (w : ℕ) → eqb (kind_of w) kind_write ≡ true → eqb (w / 256 % 65536) 0 ≡ true
    → after_write l (register_of w) (value_of w) ≡ after_host l w
unfolding told_of
told_write l w kind plain = simp (kind, plain)

pub told_write_stray : (l : Loan) (w : ℕ) → eqb (kind_of w) kind_write ≡ true → eqb (w / 256 % 65536) 0 ≡ false
    → refused_in l StrayBit ≡ after_host l w
unfolding told_of
told_write_stray l w kind stray = simp (kind, stray)

pub told_read : (l : Loan) (w : ℕ) → eqb (kind_of w) kind_write ≡ false → eqb (kind_of w) kind_read ≡ true
    → eqb (w % 0x0100_0000) 0 ≡ true → after_read l (register_of w) (value_of w) ≡ after_host l w
unfolding told_of
told_read l w other kind plain = simp (other, kind, plain)

pub told_read_stray : (l : Loan) (w : ℕ) → eqb (kind_of w) kind_write ≡ false → eqb (kind_of w) kind_read ≡ true
    → eqb (w % 0x0100_0000) 0 ≡ false → refused_in l StrayBit ≡ after_host l w
unfolding told_of
told_read_stray l w other kind stray = simp (other, kind, stray)

pub told_refused : (l : Loan) (w : ℕ) → eqb (kind_of w) kind_write ≡ false → eqb (kind_of w) kind_read ≡ false
    → refused_in l UnknownKind ≡ after_host l w
unfolding told_of
told_refused l w one two = simp (one, two)

pub step_slot : (l : Loan) (w : ℕ) (c : Slot) → eqb (kind_of w) kind_slot ≡ true → Some c ≡ slot_of w
    → after_slot l c ≡ after_word l w
unfolding step_of answer_of word_calls class_of
step_slot l w c kind said = simp (kind, ← said)

pub step_stray : (l : Loan) (w : ℕ) → eqb (kind_of w) kind_slot ≡ true → None ≡ slot_of w
    → refused_in l StrayBit ≡ after_word l w
unfolding step_of answer_of word_calls class_of
step_stray l w kind said = simp (kind, ← said)

pub step_host : (l : Loan) (w : ℕ) → eqb (kind_of w) kind_slot ≡ false → after_host l w ≡ after_word l w
unfolding step_of answer_of word_calls class_of
step_host l w kind = simp kind

-- ---- all that is left

-- state, answer and arrays together are what `step` promises
pub runs : {u : Lent} {w : ℕ} {t t' r r' : List ℕ} {a : Answered} → length t' ≡ length t → length r' ≡ length r
    → (length t ≡ tbf_bytes → length r ≡ rbf_bytes
    → record { loan = loan_in a.lent t' r'; answer = a.answer } ≡ after_word (loan_in u t r) w)
    → Runs u w t t' r r' a
unfolding left_by
runs {u} {w} {t} {t'} {r} {r'} {a} sent stored word =
    record {
      tbf_kept = sent;
      rbf_kept = stored;
      state = λ ft fr. ap (λ (b : Both). b.loan.state) (word ft fr);
      answer = λ ft fr. ap (λ (b : Both). b.answer) (word ft fr);
      whole = λ ft fr. ap (λ (b : Both). left_as b.loan.state b.answer b.loan.buffers) (word ft fr);
      circles =
          λ ft fr. subst (λ (b : Both). InCircles (word_calls (state_in u t r) w) (buffers_in u t r) b.loan.buffers)
          (sym (word ft fr)) (word_circles (state_in u t r) w (buffers_in u t r));
    }

-- the answer, from what the word came to and what is then driven
pub runs_said : {u : Lent} {w : ℕ} {t t' r r' : List ℕ} (d : Done) (drive : ℕ) {answer : Answer}
    → Works u w t t' r r' d → drive ≡ next_drive (state_in d.lent t' r') → answer ≡ answer_to d.came drive
    → Runs u w t t' r r' (record { lent = d.lent; answer = answer })
runs_said d drive (sent, stored, word) driven said =
    runs sent stored (λ ft fr. rw (said, driven) (word ft fr))

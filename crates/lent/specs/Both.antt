-- A unit whose buffers are lent, as a state, with the lent arrays; and, for what its functions promise each other, all
-- that is left after a word together with the answer.
use Rattle.std.specs.Prelude.{ℕ, Bool, List, ◌≡◌, drop, get_or, length, Ok, Err, Result, Some}
use Rattle.line.specs.Choice.{pick}
use Rattle.line.specs.Numbers.{rbf_bytes, tbf_bytes}
use Rattle.line.specs.declared.slot.Slot.{Slot}
use Rattle.line.specs.declared.slot.Slot.TheVariants.{Level, Start, Idle}
use Rattle.rules.specs.Answers.{Answer, Looked, fine}
use Rattle.rules.specs.declared.answer.Refusal.{Refusal}
use Rattle.rules.specs.declared.answer.Refusal.TheVariants.{LevelUnheard}
use Rattle.rules.specs.declared.answer.Reply.{Reply}
use Rattle.circles.specs.Buffers.{Buffers, InCircles, acting, after_calls, drawn, filled, sent_by}
use Rattle.circles.specs.Buffers.{slot_calls, told_calls, word_calls}
use Rattle.circles.specs.Calls.{turns, vacant}
use Rattle.circles.specs.Circle.{buffer, circle_of}
use Rattle.circles.specs.declared.Span.{Span}
use Rattle.lent.specs.declared.answer.Outcome.{Outcome}
use Rattle.lent.specs.declared.answer.Outcome.TheVariants.{Taken as took, Written as wrote, Read as read}
use Rattle.rules.specs.declared.answer.Reply.TheVariants.{Taken, Written, Read}
use Rattle.rules.specs.declared.state.Act.{Act}
use Rattle.rules.specs.declared.state.Acted.{Acted}
use Rattle.rules.specs.declared.state.Registers.{Registers}
use Rattle.rules.specs.declared.state.Seen.{Seen}
use Rattle.lent.specs.declared.step.Answered.{Answered}
use Rattle.lent.specs.declared.step.Done.{Done}
use Rattle.lent.specs.declared.step.Lent.{Lent}
use Rattle.rules.specs.Registers.{Told, read_told, register_of, told_of, value_of, write_done, write_told}
use Rattle.rules.specs.Slots.{on_slot}
use Rattle.rules.specs.Set.{core·regs}
use Rattle.rules.specs.State.{State, is_empty, push_of, reset_core, seen_of}
use Rattle.rules.specs.Step.{acted_on, answer_of, clashes, next_drive, slot_on, slot_said, step_of, told_on, told_said}

-- a unit whose buffers are lent: the bytes of TBF and of RBF
abbrev pub state_in : Lent → List ℕ → List ℕ → State
state_in u t r = record { core = u.core; tbf = circle_of tbf_bytes t u.tbf; rbf = circle_of rbf_bytes r u.rbf }

abbrev pub buffers_in : Lent → List ℕ → List ℕ → Buffers
buffers_in u t r = record { tbf = buffer t u.tbf; rbf = buffer r u.rbf }

-- ---- all that a word leaves

pub record Left : Type 0 where
  pub lent : Lent
  pub answer : Answer
  pub tbf : List ℕ
  pub rbf : List ℕ

abbrev pub left_in : Answered → List ℕ → List ℕ → Left
left_in a t r = record { lent = a.lent; answer = a.answer; tbf = t; rbf = r }

abbrev pub left_as : State → Answer → Buffers → Left
left_as s answer b =
    record {
      lent = record { core = s.core; tbf = b.tbf.span; rbf = b.rbf.span };
      answer = answer;
      tbf = b.tbf.bytes;
      rbf = b.rbf.bytes;
    }

-- scalars and answer are those of the rules; the arrays and their spans are what the word's calls make of them
unfoldable pub left_by : Lent → ℕ → List ℕ → List ℕ → Left
left_by u w t r =
    let s = state_in u t r in left_as (step_of s w) (answer_of s w) (after_calls (word_calls s w) (buffers_in u t r))

-- ---- a state with its arrays, and an answer

pub record Loan : Type 0 where
  pub state : State
  pub buffers : Buffers

abbrev pub loan_in : Lent → List ℕ → List ℕ → Loan
loan_in u t r = record { state = state_in u t r; buffers = buffers_in u t r }

pub record Both : Type 0 where
  pub loan : Loan
  pub answer : Answer

-- what an accepted word came to, with what the unit then drives
abbrev pub reply_to : Outcome → ℕ → Reply
reply_to took drive = Taken drive
reply_to wrote drive = Written drive
reply_to (read value) drive = Read value drive

-- what any word came to
abbrev pub answer_to : Result Outcome Refusal → ℕ → Answer
answer_to (Ok outcome) drive = Ok (reply_to outcome drive)
answer_to (Err refusal) drive = Err refusal

abbrev pub done : Lent → Result Outcome Refusal → Done
done u came = record { lent = u; came = came }

abbrev pub both_in : Done → List ℕ → List ℕ → Both
both_in d t r =
    let l = loan_in d.lent t r in record { loan = l; answer = answer_to d.came (next_drive l.state) }

abbrev pub refused_in : Loan → Refusal → Both
refused_in l refusal = record { loan = l; answer = Err refusal }

-- what it comes to where something may be found against it
abbrev pub looked_in : Loan → Looked → Both → Both
looked_in l (Ok x) both = both
looked_in l (Err refusal) both = refused_in l refusal

abbrev pub taken_in : Loan → Both
taken_in l = record { loan = l; answer = Ok (Taken (next_drive l.state)) }

abbrev pub written_in : Loan → Both
written_in l = record { loan = l; answer = Ok (Written (next_drive l.state)) }

abbrev pub gave_in : Loan → ℕ → Both
gave_in l value = record { loan = l; answer = Ok (Read value (next_drive l.state)) }

abbrev pub loan_acted : Loan → Acted → Loan
loan_acted l a = record { state = acted_on l.state a; buffers = after_calls (acting a.act) l.buffers }

-- a byte more in TBF
abbrev pub loan_filled : Loan → ℕ → Loan
loan_filled l v =
    let s = l.state in
    record {
      state = record { core = s.core; tbf = push_of tbf_bytes s.tbf v; rbf = s.rbf };
      buffers = after_calls (filled v) l.buffers;
    }

-- other registers
abbrev pub loan_written : Loan → Registers → Loan
loan_written l regs =
    let s = l.state in
    record { state = record { core = core·regs regs s.core; tbf = s.tbf; rbf = s.rbf }; buffers = l.buffers }

-- the oldest byte of RBF has left
abbrev pub loan_drawn : Loan → Loan
loan_drawn l =
    let s = l.state in
    record {
      state = record { core = s.core; tbf = s.tbf; rbf = drop 1 s.rbf };
      buffers = after_calls drawn l.buffers;
    }

abbrev pub after_slot : Loan → Slot → Both
after_slot l c =
    let s = l.state in
    record {
      loan = record { state = slot_on s c; buffers = after_calls (slot_calls s c) l.buffers };
      answer = slot_said s (slot_on s c) c;
    }

-- what a host word did, the register that it names, and the value
abbrev pub after_told : Loan → Told → ℕ → ℕ → Both
after_told l t register v =
    let s = l.state in
    record {
      loan = record { state = told_on s t; buffers = after_calls (told_calls t register v) l.buffers };
      answer = told_said (told_on s t) t;
    }

abbrev pub after_done : Loan → ℕ → ℕ → Both
after_done l register v = after_told l (write_done l.state.core.regs l.state.tbf register v) register v

abbrev pub after_write : Loan → ℕ → ℕ → Both
after_write l register v = after_told l (write_told l.state.core.regs l.state.tbf register v) register v

abbrev pub after_read : Loan → ℕ → ℕ → Both
after_read l register v =
    after_told l (read_told l.state.core.regs l.state.tbf l.state.rbf register) register v

abbrev pub after_host : Loan → ℕ → Both
after_host l w =
    after_told l (told_of l.state.core.regs l.state.tbf l.state.rbf w) (register_of w) (value_of w)

abbrev pub after_word : Loan → ℕ → Both
after_word l w =
    let s = l.state in
    record {
      loan = record { state = step_of s w; buffers = after_calls (word_calls s w) l.buffers };
      answer = answer_of s w;
    }

-- ---- a slot in two steps: why it is refused, if it is, and what it does

unfoldable pub slot_refusal : State → Slot → Looked
slot_refusal s (Level bit) = pick (clashes s bit) (Err LevelUnheard) fine
slot_refusal s Start = fine
slot_refusal s Idle = fine

abbrev pub slot_acted : State → Slot → Acted
slot_acted s c = on_slot s.core (Some c) (seen_of s.tbf s.rbf)

-- ---- what the functions of a unit whose buffers are lent promise, over any bytes that they are not lent

abbrev pub reset_lent : Lent
reset_lent = record { core = reset_core; tbf = vacant; rbf = vacant }

abbrev pub Length : ℕ → Span → ℕ → Type 0
Length room span n = (bytes : List ℕ) → n ≡ length (circle_of room bytes span)

abbrev pub Clear : ℕ → Span → Bool → Type 0
Clear room span clear = (bytes : List ℕ) → clear ≡ is_empty (circle_of room bytes span)

abbrev pub Sends : Act → Span → Span → Type 0
Sends act span after = (bytes : List ℕ) → buffer bytes after ≡ turns tbf_bytes (buffer bytes span) (sent_by act)

abbrev pub Drives : Lent → ℕ → Type 0
Drives u drive = (t r : List ℕ) → drive ≡ next_drive (state_in u t r)

abbrev pub Sees : Lent → List ℕ → Seen → Type 0
Sees u t seen = (r : List ℕ) → seen ≡ seen_of (circle_of tbf_bytes t u.tbf) (circle_of rbf_bytes r u.rbf)

abbrev pub Clashes : Lent → Bool → Bool → Type 0
Clashes u bit clash = (t r : List ℕ) → clash ≡ clashes (state_in u t r) bit

abbrev pub SlotRefuses : Lent → Slot → Looked → Type 0
SlotRefuses u c looked = (t r : List ℕ) → looked ≡ slot_refusal (state_in u t r) c

abbrev pub SlotActs : Lent → Slot → List ℕ → Acted → Type 0
SlotActs u c t acted = (r : List ℕ) → acted ≡ slot_acted (state_in u t r) c

-- RBF before and after: where it is lent with all its bytes, and none is lost or added
abbrev pub Acts : Lent → Acted → List ℕ → List ℕ → Done → Type 0
Acts u acted r r' d =
    (length r' ≡ length r)
    × ((t : List ℕ) → length r ≡ rbf_bytes → both_in d t r' ≡ taken_in (loan_acted (loan_in u t r) acted))

abbrev pub SlotsOn : Lent → Slot → List ℕ → List ℕ → List ℕ → Done → Type 0
SlotsOn u c t r r' d =
    (length r' ≡ length r) × (length r ≡ rbf_bytes → both_in d t r' ≡ after_slot (loan_in u t r) c)

-- TBF before and after
abbrev pub Does : Lent → ℕ → ℕ → List ℕ → List ℕ → Done → Type 0
Does u register v t t' d =
    (length t' ≡ length t)
    × ((r : List ℕ) → length t ≡ tbf_bytes → both_in d t' r ≡ after_done (loan_in u t r) register v)

abbrev pub WritesTo : Lent → ℕ → ℕ → List ℕ → List ℕ → Done → Type 0
WritesTo u register v t t' d =
    (length t' ≡ length t)
    × ((r : List ℕ) → length t ≡ tbf_bytes → both_in d t' r ≡ after_write (loan_in u t r) register v)

abbrev pub TakesOut : Lent → List ℕ → Done → Type 0
TakesOut u r d =
    (t : List ℕ) → both_in d t r ≡ gave_in (loan_drawn (loan_in u t r)) (get_or (circle_of rbf_bytes r u.rbf) 0 0)

-- whatever value stands in the word
abbrev pub ReadsFrom : Lent → ℕ → List ℕ → Done → Type 0
ReadsFrom u register r d = (t : List ℕ) (v : ℕ) → both_in d t r ≡ after_read (loan_in u t r) register v

abbrev pub Tells : Lent → ℕ → List ℕ → List ℕ → List ℕ → Done → Type 0
Tells u word t t' r d =
    (length t' ≡ length t) × (length t ≡ tbf_bytes → both_in d t' r ≡ after_host (loan_in u t r) word)

-- ---- a word

abbrev pub Works : Lent → ℕ → List ℕ → List ℕ → List ℕ → List ℕ → Done → Type 0
Works u w t t' r r' d =
    (length t' ≡ length t) × (length r' ≡ length r)
    × (length t ≡ tbf_bytes → length r ≡ rbf_bytes → both_in d t' r' ≡ after_word (loan_in u t r) w)

-- the buffers after it have as many bytes as before; and where they are lent with all their bytes, state and answer
-- are those of the rules, all that is left is that of the definition, each place of the arrays included, and this is
-- what the word's calls make of circles
pub record Runs (u : Lent) (w : ℕ) (t t' r r' : List ℕ) (a : Answered) : Type 0 where
  pub tbf_kept : length t' ≡ length t
  pub rbf_kept : length r' ≡ length r
  pub state : length t ≡ tbf_bytes → length r ≡ rbf_bytes → state_in a.lent t' r' ≡ step_of (state_in u t r) w
  pub answer : length t ≡ tbf_bytes → length r ≡ rbf_bytes → a.answer ≡ answer_of (state_in u t r) w
  pub whole : length t ≡ tbf_bytes → length r ≡ rbf_bytes → left_in a t' r' ≡ left_by u w t r
  pub circles : length t ≡ tbf_bytes → length r ≡ rbf_bytes
      → InCircles (word_calls (state_in u t r) w) (buffers_in u t r) (buffers_in a.lent t' r')

-- Demand 1 for a call: that a run's answers are ruled as the tables say, and what a caller has of that by the contract
-- alone.
use mathlib.Core.Bool.{Bool, true, false}
use mathlib.Core.Path.{◌≡◌, refl, sym, ap, ◌∙◌, subst}
use mathlib.Core.List.{List, [], ◌∷◌, ◌++◌}
use Prim.Native.Nat.{ℕ, zero, suc, ◌%◌, ◌≤◌, ◌<◌}
use native.Mathlib.Omega.{arith}
use borrow.Author.Tests.{eq-eqb, le-ltb}
use lib.Dec.{T}
use lib.ListN.{length, take, get_or, length-append, length-take, get_or-append}
use Rattle.line.specs.Numbers.{kind_refused}
use Rattle.line.specs.Slot.{kind_of}
use Rattle.isolation.specs.Runs.{run, answers}
use Rattle.std.specs.Prelude.{Ok, Err}
use Rattle.rules.specs.Answers.{Answer, number_of}
use Rattle.rules.specs.declared.answer.Refusal.{Refusal}
use Rattle.rules.specs.declared.answer.Reply.TheVariants.{Taken, Written, Read}
use Rattle.rules.specs.Machine.{unit}
use Rattle.rules.specs.Refusals.{Ruling, accepted, refused, apart, lowest, rows, ruling_of}
use Rattle.rules.specs.State.{State}
use Rattle.rules.specs.Step.{answer_of, refused_word, step_of, word_of}
use Rattle.rules.proofs.Ruled.{ruled}
use Rattle.lists.specs.Bytes.{CalledBytes, bytes_of, count_refusal, words_of}
use Rattle.lists.specs.Rulings.{AllRuled}
use Rattle.lists.specs.Run.{Called, list_refusal}
use Rattle.lists.proofs.Called.{answers_length, answers_spelled}

-- ---- a run of the definitions

next_state : (s : State) (ws : List ℕ) (i : ℕ) → i < length ws
    → run unit s (take (suc i) ws) ≡ step_of (run unit s (take i ws)) (get_or ws i 0)
unfolding run
next_state s [] i h = absurd (omega arith)
next_state s (w ∷ ws) zero h = refl
next_state s (w ∷ ws) (suc i) h = next_state (step_of s w) ws i (omega arith)

answer_there : (s : State) (ws : List ℕ) (i : ℕ) → i < length ws
    → get_or (answers unit s ws) i 0 ≡ word_of (answer_of (run unit s (take i ws)) (get_or ws i 0))
unfolding run answers
answer_there s [] i h = absurd (omega arith)
answer_there s (w ∷ ws) zero h = refl
answer_there s (w ∷ ws) (suc i) h = answer_there (step_of s w) ws i (omega arith)

-- the answers of a run, with whatever stands behind them
answers_ruled : (s : State) (words rest : List ℕ) → AllRuled s words (answers unit s words ++ rest)
answers_ruled s words rest =
    let many = answers_length s words in
    record {
      one_each = omega (arith, many, length-append (answers unit s words) rest);
      each = λ i h. record {
        answer = answer_of (run unit s (take i words)) (get_or words i 0);
        stands = get_or-append (answers unit s words) rest 0 i (omega (arith, many)) ∙ answer_there s words i h;
        as_tabled = ruled _ _ _ _ (next_state s words i h) refl;
      };
    }

-- ---- for the proofs of the functions that run a list: what they write, as words and as bytes

pub listed_ruled : (s : State) (ws rest after : List ℕ) → after ≡ answers unit s ws ++ rest → AllRuled s ws after
listed_ruled s ws rest after e = rw e (answers_ruled s ws rest)

pub spelled_ruled : (s : State) (ws rest after : List ℕ) → after ≡ bytes_of (answers unit s ws) ++ rest
    → AllRuled s ws (words_of after)
spelled_ruled s ws rest after e = rw (e, answers_spelled s ws rest) (answers_ruled s ws (words_of rest))

-- ---- for a caller

-- an answer list no shorter than the words is enough
pub run_answered : {s t : State} {words before after : List ℕ} {number : ℕ} → Called s words before number t after
    → length words ≤ length before → AllRuled s words after
unfolding list_refusal
run_answered call room = call.ruled (call.ends ∙ rw (le-ltb _ _ room))

pub bytes_answered : {s : State} {words before after : List ℕ} {number : ℕ} → CalledBytes s words before number after
    → length words % 4 ≡ 0 → length words ≤ length before → AllRuled s (words_of words) (words_of after)
unfolding count_refusal
bytes_answered call whole room = call.ruled (call.ends ∙ rw (eq-eqb _ _ whole, le-ltb _ _ room))

-- one answer word per word
pub one_per_word : {s : State} {words after : List ℕ} → AllRuled s words after
    → length (take (length words) after) ≡ length words
one_per_word {s} {words} {after} all = omega (arith, all.one_each, length-take (length words) after)

abbrev is_refused : Ruling → Bool
is_refused accepted = false
is_refused (refused n) = true

abbrev number_in : Ruling → ℕ
number_in accepted = 0
number_in (refused n) = n

-- an answer that the tables refuse by a number: its word has that number, and whatever holds of refused words holds
record IsRefused (a : Answer) (n : ℕ) : Type 0 where
  refusal : Refusal
  is : a ≡ Err refusal
  word : word_of a ≡ refused_word n

refused_is : (a : Answer) (n : ℕ) → ruling_of a ≡ refused n → IsRefused a n
unfolding word_of
refused_is (Ok reply) n e = absurd (subst T (ap is_refused (sym e)) tt)
refused_is (Err refusal) n e = record { refusal = refusal; is = refl; word = ap refused_word (ap number_in e) }

accepted_is : (a : Answer) → ruling_of a ≡ accepted → kind_of (word_of a) < kind_refused
unfolding word_of
accepted_is (Ok (Taken d)) e = omega arith
accepted_is (Ok (Written d)) e = omega arith
accepted_is (Ok (Read v d)) e = omega arith
accepted_is (Err n) e = absurd (subst T (ap is_refused e) tt)

module _ {s : State} {words after : List ℕ} (all : AllRuled s words after) (i : ℕ) (h : i < length words) where
  -- what the tables say of the word i
  abbrev said : Ruling
  said = lowest (rows (run unit s (take i words)) (apart (get_or words i 0)))

  pub refused_there : (n : ℕ) → said ≡ refused n
      → (get_or after i 0 ≡ refused_word n) × (run unit s (take (suc i) words) ≡ run unit s (take i words))
  refused_there n e =
      let at = all.each i h in
      let is = refused_is at.answer n (at.as_tabled.ruling ∙ e) in
      (at.stands ∙ is.word, at.as_tabled.unchanged is.refusal is.is)

  pub accepted_there : said ≡ accepted → kind_of (get_or after i 0) < kind_refused
  accepted_there e =
      let at = all.each i h in
      rw at.stands (accepted_is at.answer (at.as_tabled.ruling ∙ e))

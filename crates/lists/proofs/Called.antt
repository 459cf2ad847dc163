-- What a caller makes of the contracts of `run` and `iebus_run`, knowing nothing of the code.
use mathlib.Core.Path.{◌≡◌, refl, ap, ◌∙◌}
use mathlib.Core.List.{List, [], ◌∷◌, ◌++◌, append_assoc}
use mathlib.Core.Logic.{⊎_elim}
use Prim.Native.Nat.{ℕ, suc, ◌+◌, ◌*◌, ◌/◌, ◌%◌, ◌≤◌, ◌<◌}
use native.Mathlib.Omega.{arith}
use borrow.Author.Tests.{lt-ltb, eq-eqb, ne_eqb}
use lib.ListN.{length, take, drop}
use lib.Seq.{drop_at, take_at}
use Rattle.line.proofs.Either.{below_or_not, same_or_not}
use Rattle.isolation.specs.Runs.{run, answers}
use Rattle.rules.specs.Machine.{unit}
use Rattle.rules.specs.State.{State, reset}
use Rattle.isolation.proofs.Appended.{answers_append}
use Rattle.rules.specs.Answers.{Answer}
use Rattle.std.specs.Prelude.{Ok, Err}
use Rattle.rules.specs.declared.answer.Reply.TheVariants.{Taken, Written, Read}
use Rattle.rules.specs.Step.{answer_of, step_of, word_of}
use Rattle.lists.specs.Run.{Called, answers_after, unit_after}
use Rattle.lists.specs.Bytes.{CalledBytes, bytes_after, bytes_of, count_refusal, word_from, words_of}

-- one answer for each word
pub answers_length : (s : State) (words : List ℕ) → length (answers unit s words) ≡ length words
unfolding answers
answers_length s [] = refl
answers_length s (w ∷ ws) = ap suc (answers_length (step_of s w) ws)

module _ {s t : State} {words before after : List ℕ} (call : Called s words before 0 t after) where
  pub state_left : t ≡ run unit s words
  unfolding unit_after
  state_left = call.left ∙ rw (← call.ends)

  pub answers_first : take (length words) after ≡ answers unit s words
  unfolding answers_after
  answers_first =
      rw (call.written, ← call.ends) (take_at (answers unit s words) _ (length words) (answers_length s words))

-- ---- the same over bytes

-- what a run over bytes that is not refused is given
pub taken_whole : (words out : ℕ) → count_refusal words out ≡ 0 → (words % 4 ≡ 0) × (words ≤ out)
unfolding count_refusal
taken_whole words out e =
    ⊎_elim
    (λ even.
    ⊎_elim
    (λ short. absurd (let b : ⊥ = omega (arith, simp (eq-eqb _ _ even, lt-ltb _ _ short) at e) in b))
    (λ room. (even, room)) (below_or_not out words))
    (λ odd. absurd (let b : ⊥ = omega (arith, simp (ne_eqb _ _ odd) at e) in b))
    (same_or_not (words % 4) 0)

-- an answer has 32 bits, and its four bytes spell it again
answer_fits : (a : Answer) → word_of a < 0x1_0000_0000
unfolding word_of
answer_fits (Ok (Taken d)) = omega arith
answer_fits (Ok (Written d)) = omega arith
answer_fits (Ok (Read v d)) = omega arith
answer_fits (Err n) = omega arith

spelled_again : (w : ℕ) → w < 0x1_0000_0000
    → word_from (w % 256) (w / 0x100 % 256) (w / 0x1_0000 % 256) (w / 0x100_0000 % 256) ≡ w
spelled_again w l =
    let two : w / 0x1_0000 ≡ w / 0x100 / 0x100 = omega arith in
    let three : w / 0x100_0000 ≡ w / 0x1_0000 / 0x100 = omega arith in
    let top : w / 0x100_0000 % 256 ≡ w / 0x100_0000 = omega arith in
    let high : w / 0x1_0000 % 256 + w / 0x100_0000 * 256 ≡ w / 0x1_0000 = omega (arith, three) in
    let low : w / 0x100 % 256 + w / 0x1_0000 * 256 ≡ w / 0x100 = omega (arith, two) in
    let lowest : w % 256 + w / 0x100 * 256 ≡ w = omega arith in
    omega (arith, top, high, low, lowest)

pub answers_spelled : (s : State) (ws rest : List ℕ)
    → words_of (bytes_of (answers unit s ws) ++ rest) ≡ answers unit s ws ++ words_of rest
unfolding answers bytes_of words_of
answers_spelled s [] rest = refl
answers_spelled s (w ∷ ws) rest =
    rw (spelled_again (word_of (answer_of s w)) (answer_fits (answer_of s w)), answers_spelled (step_of s w) ws rest)

-- of a list in two parts, the answers to the second stand behind those to the first
pub answers_later : {words before after : List ℕ} (P A : List ℕ) → CalledBytes reset words before 0 after
    → words_of words ≡ P ++ A
    → take (length A) (drop (length P) (words_of after)) ≡ answers unit (run unit reset P) A
unfolding bytes_after
answers_later {words} {before} {after} P A call e =
    let s = run unit reset P in
    let rest = words_of (drop (length words) before) in
    let apart : answers unit reset (words_of words) ++ rest ≡ answers unit reset P ++ (answers unit s A ++ rest)
    = rw (e, answers_append unit reset P A, append_assoc) in
    let all : words_of after ≡ answers unit reset (words_of words) ++ rest
    = rw (call.written, ← call.ends) (answers_spelled reset (words_of words) (drop (length words) before)) in
    ap (λ (l : List ℕ). take (length A) (drop (length P) l)) (all ∙ apart)
    ∙ ap (take (length A))
    (drop_at (answers unit reset P) (answers unit s A ++ rest) (length P) (answers_length reset P))
    ∙ take_at (answers unit s A) rest (length A) (answers_length s A)

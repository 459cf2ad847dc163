-- The run over bytes that is under way: words that bytes spell, and answers written four bytes at a time.
use lib.Dec.{eqb}
use mathlib.Core.Bool.{false}
use mathlib.Core.Path.{◌≡◌, refl, sym, ap, ◌∙◌}
use mathlib.Core.List.{List, [], ◌∷◌, ◌++◌, append_assoc}
use Prim.Native.Nat.{ℕ, ◌+◌, ◌-◌, ◌%◌, ◌≤◌, ◌<◌}
use native.Mathlib.Omega.{arith}
use lib.ListN.{length, drop, get_or, take, length-append, length-drop, drop_of_length-le}
use lib.Seq.{drop-drop, length-take-le}
use Rattle.std.proofs.lemmas.Slice.{drop-put_mid, take-put_mid}
use Rattle.answers.specs.Refused.{error_number}
use Rattle.answers.specs.declared.ListError.{ListError}
use Rattle.answers.specs.declared.ListError.TheVariants.{ByteCount, ShortList}
use Rattle.line.proofs.Filled.{Filled, nothing_filled, all_filled}
use Rattle.line.proofs.Places.{cut}
use Rattle.isolation.specs.Runs.{run, answers}
use Rattle.lent.specs.Both.{Runs, state_in}
use Rattle.rules.specs.Machine.{unit}
use Rattle.rules.specs.State.{State}
use Rattle.rules.specs.Step.{step_of, answer_of, word_of}
use Rattle.lent.specs.declared.step.Answered.{Answered}
use Rattle.lent.specs.declared.step.Lent.{Lent}
use Rattle.unit.specs.Unit.{state_of, unit_in}
use Rattle.unit.specs.declared.step.Unit.{Unit}
use Rattle.list_run.specs.Run.{RunsSpelled, Whole, unit_over}
use Rattle.lists.specs.Bytes.{byte_refusal, bytes_after, bytes_of, bytes_of_word, words_of}
use Rattle.lists.proofs.Called.{taken_whole}
use Rattle.list_run.specs.Run.{word_at, word_put}
use Rattle.list_run.proofs.Underway.{run_cons, run_nil, answers_cons, answers_nil, whole_after}
use Rattle.list_run.proofs.Underway.{one_over, over_nil}

-- a refusal's number is none that says that nothing is refused
pub error_some : (error : ListError) → eqb (error_number error) 0 ≡ false
error_some ByteCount = refl
error_some ShortList = refl

-- the words from a place on: the word there, and those from four bytes further on
words_cut : (s : List ℕ) (at : ℕ) → at + 4 ≤ length s → words_of (drop at s) ≡ word_at s at ∷ words_of (drop (at + 4) s)
unfolding words_of
words_cut s at h =
    let two : at + 1 + 1 ≡ at + 2 = omega arith in
    let three : at + 2 + 1 ≡ at + 3 = omega arith in
    let four : at + 3 + 1 ≡ at + 4 = omega arith in
    let b : drop (at + 1) s ≡ get_or s (at + 1) 0 ∷ drop (at + 2) s = rw two at (cut s (at + 1) (omega arith)) in
    let c : drop (at + 2) s ≡ get_or s (at + 2) 0 ∷ drop (at + 3) s = rw three at (cut s (at + 2) (omega arith)) in
    let d : drop (at + 3) s ≡ get_or s (at + 3) 0 ∷ drop (at + 4) s = rw four at (cut s (at + 3) (omega arith)) in
    rw (cut s at (omega arith), b, c, d)

bytes_cons : (w : ℕ) (ws : List ℕ) → bytes_of (w ∷ ws) ≡ bytes_of_word w ++ bytes_of ws
unfolding bytes_of
bytes_cons w ws = refl

words_nil : words_of [] ≡ []
unfolding words_of
words_nil = refl

bytes_nil : bytes_of [] ≡ []
unfolding bytes_of
bytes_nil = refl

-- several elements written at the next places
part_filled : {whole first now rest : List ℕ} {i : ℕ} (part : List ℕ) → Filled whole first now (part ++ rest) i
    → i + length part ≤ length now
    → Filled whole first (take i now ++ (part ++ drop (length part) (drop i now))) rest (i + length part)
part_filled {whole} {first} {now} {rest} {i} part f room =
    let n = length part in
    record {
      split = f.split ∙ rw (take-put_mid i n now part (i + n) refl (omega arith), append_assoc);
      kept = drop-put_mid i n now part (i + n) (omega arith) (omega arith) refl
          ∙ rw (← drop-drop n i now, f.kept, drop-drop n i first);
      long = rw (
        length-append (take i now) (part ++ drop n (drop i now)),
        length-append part (drop n (drop i now)),
        length-take-le i now (omega arith),
        length-drop n (drop i now),
        length-drop i now,
      ) (omega arith) ∙ f.long;
    }

-- a word written at the next place
word_filled : {whole first now rest : List ℕ} {at : ℕ} (w : ℕ) → Filled whole first now (bytes_of_word w ++ rest) at
    → at + 4 ≤ length first → Filled whole first (word_put now at w) rest (at + 4)
word_filled w f room = part_filled (bytes_of_word w) f (omega (arith, f.long))

-- after the words in the first `at` bytes: the state is s, the answer bytes are `now`
pub record Spelled (s₀ : State) (words first : List ℕ) (s : State) (now : List ℕ) (at : ℕ) : Type 0 where
  pub states : run unit s₀ (words_of words) ≡ run unit s (words_of (drop at words))
  pub filled : Filled (bytes_of (answers unit s₀ (words_of words))) first now
      (bytes_of (answers unit s (words_of (drop at words)))) at
  pub within : at ≤ length words
  pub whole : (length words - at) % 4 ≡ 0
  pub room : length words ≤ length first

pub none_spelled : (s₀ : State) (words first : List ℕ) → byte_refusal words first ≡ 0
    → Spelled s₀ words first s₀ first 0
none_spelled s₀ words first e =
    let taken = taken_whole (length words) (length first) e in
    record {
      states = refl;
      filled = nothing_filled _ _;
      within = omega arith;
      whole = omega (arith, taken.0);
      room = taken.1;
    }

pub one_spelled : {s₀ s : State} {words first now : List ℕ} {at : ℕ} → Spelled s₀ words first s now at
    → at < length words
    → (s' : State) → s' ≡ step_of s (word_at words at) → (v : ℕ) → v ≡ word_of (answer_of s (word_at words at))
    → Spelled s₀ words first s' (word_put now at v) (at + 4)
one_spelled {s₀} {s} {words} {first} {now} {at} d h s' e v ev =
    let inside : at + 4 ≤ length words = omega (arith, d.whole) in
    record {
      states = d.states ∙ rw (words_cut words at inside, run_cons, ← e);
      filled = word_filled v (rw (words_cut words at inside, answers_cons, ← e, ← ev, bytes_cons) at d.filled)
          (omega (arith, d.room));
      within = inside;
      whole = omega (arith, d.whole);
      room = d.room;
    }

all_spelled : {s₀ s : State} {words first now : List ℕ} {at : ℕ} → Spelled s₀ words first s now at
    → length words ≤ at
    → (s ≡ run unit s₀ (words_of words)) × (now ≡ bytes_of (answers unit s₀ (words_of words)) ++ drop (length words) first)
all_spelled {s₀} {s} {words} {first} {now} {at} d h =
    let all : at ≡ length words = omega (arith, d.within) in (
      sym (d.states ∙ rw (drop_of_length-le words h, words_nil, run_nil)),
      rw (← all) (all_filled (rw (drop_of_length-le words h, words_nil, answers_nil, bytes_nil) at d.filled)),
    )

-- ---- the same by a unit whose buffers are lent

-- the run from a unit `v₀`
pub record SpelledIn (v₀ : Unit) (words first : List ℕ) (u : Lent) (t r now : List ℕ) (at : ℕ) : Type 0 where
  pub ran : Spelled (state_of v₀) words first (state_in u t r) now at
  pub lent : Whole t r
  pub units : unit_over v₀ (words_of words) ≡ unit_over (unit_in u t r) (words_of (drop at words))

pub none_spelled_in : (u : Lent) (words first t r : List ℕ) → byte_refusal words first ≡ 0 → Whole t r
    → SpelledIn (unit_in u t r) words first u t r first 0
none_spelled_in u words first t r taken whole =
    record { ran = none_spelled _ _ _ taken; lent = whole; units = refl }

pub one_spelled_in : {v₀ : Unit} {words first now t t' r r' : List ℕ} {at w : ℕ} {u : Lent} {a : Answered}
    → SpelledIn v₀ words first u t r now at → at < length words → w ≡ word_at words at → Runs u w t t' r r' a
    → (v : ℕ) → v ≡ word_of a.answer
    → SpelledIn v₀ words first a.lent t' r' (word_put now at v) (at + 4)
one_spelled_in {words = words} {t = t} {r = r} {at = at} {w = w} {u = u} d h word step v e =
    let whole = d.lent in
    let inside : at + 4 ≤ length words = omega (arith, d.ran.whole) in
    record {
      ran = one_spelled d.ran h _ (step.state whole.0 whole.1 ∙ ap (step_of _) word) v
          (e ∙ ap word_of (step.answer whole.0 whole.1 ∙ ap (answer_of _) word));
      lent = whole_after whole step;
      units = d.units
          ∙ ap (unit_over (unit_in u t r)) (words_cut words at inside
          ∙ ap (λ (x : ℕ). x ∷ words_of (drop (at + 4) words)) (sym word))
          ∙ one_over w _ whole step;
    }

-- nothing is to come
pub all_spelled_in : {v u : Lent} {words first now t₀ t r₀ r : List ℕ} {at : ℕ}
    → SpelledIn (unit_in v t₀ r₀) words first u t r now at → length words ≤ at
    → RunsSpelled v words first now t₀ t r₀ r u
all_spelled_in {words = words} d h =
    let done = all_spelled d.ran h in
    record {
      state = done.0;
      written = done.1;
      whole = sym (d.units ∙ rw (drop_of_length-le words h, words_nil, over_nil));
    }

-- the answer bytes of runs from one state
pub same_answers : (s s' : State) (words out : List ℕ) → s ≡ s' → bytes_after s words out ≡ bytes_after s' words out
same_answers s s' words out e = ap (λ (x : State). bytes_after x words out) e

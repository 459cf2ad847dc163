-- What follows from the contracts of `iebus_unit_reset` and `iebus_unit_run` alone: a call that is refused changes
-- nothing; a list that is fed in pieces, over any number of calls, with refused ones among them, is one run; and
-- demand 3 for two such lists.
use mathlib.Core.Path.{◌≡◌, refl, sym, ap, ◌∙◌}
use mathlib.Core.List.{List, [], ◌∷◌, ◌++◌, append-nil}
use Prim.Native.Nat.{ℕ, ◌*◌, ◌%◌}
use native.Mathlib.Omega.{arith}
use mathlib.Core.Logic.{⊎_elim}
use borrow.Author.Tests.{eq-eqb, ne_eqb}
use lib.ListN.{length, take, length-append}
use lib.Seq.{take_at}
use Rattle.line.proofs.Either.{same_or_not}
use Rattle.isolation.specs.Runs.{Behind, Compared, Given, Protected, answers, run}
use Rattle.isolation.proofs.Appended.{run_append, answers_append}
use Rattle.rules.specs.Machine.{observed, unit}
use Rattle.rules.specs.State.{State, reset}
use Rattle.lists.specs.Bytes.{CalledBytes, byte_refusal, bytes_after, bytes_of, bytes_of_word, word_from, words_of}
use Rattle.lists.proofs.Alike.{AlikeIn, answers_alike}
use Rattle.lists.proofs.Called.{answers_length, answers_spelled, taken_whole}
use Rattle.keeping.specs.Calls.{Ran, Reset, reset_bytes, reset_state, run_answers, run_bytes, run_refusal}
use Rattle.keeping.specs.Calls.{run_state, size_refusal}
use Rattle.keeping.specs.Decode.{decode}
use Rattle.keeping.specs.Encode.{encode}
use Rattle.keeping.specs.Layout.{state_bytes}
use Rattle.keeping.proofs.Again.{same_size}

-- ---- calls that are refused

-- 11, 12 and 100: no byte of the state is written, and none of the answers
pub refused_run : {kept words out kept' out' : List ℕ} {number : ℕ} → Ran kept words out number kept' out'
    → (number ≡ 0 → ⊥) → (kept' ≡ kept) × (out' ≡ out)
unfolding run_bytes run_answers
refused_run call wrong =
    let some = ne_eqb _ _ (λ zero. wrong (call.ends ∙ zero)) in (call.left ∙ rw some, call.written ∙ rw some)

pub refused_reset : {kept kept' : List ℕ} {number : ℕ} → Reset kept number kept' → (number ≡ 0 → ⊥) → kept' ≡ kept
unfolding reset_bytes
refused_reset call wrong = call.left ∙ rw (ne_eqb _ _ (λ zero. wrong (call.ends ∙ zero)))

-- Any number of refused calls, one after the other, and the bytes that keep the unit before and after them. Such a call
-- may be given other bytes than these, fewer or more: `view` says where in what it was given the unit's bytes are seen.
pub data Wrong : List ℕ → List ℕ → Type 0 where
  none : {kept : List ℕ} → Wrong kept kept
  wrong_run : (view : List ℕ → List ℕ) {given words out given' out' kept' : List ℕ} {number : ℕ}
      → Ran given words out number given' out' → (number ≡ 0 → ⊥) → Wrong (view given') kept'
      → Wrong (view given) kept'
  wrong_reset : (view : List ℕ → List ℕ) {given given' kept' : List ℕ} {number : ℕ} → Reset given number given'
      → (number ≡ 0 → ⊥) → Wrong (view given') kept' → Wrong (view given) kept'

pub nothing_changed : {kept kept' : List ℕ} → Wrong kept kept' → kept' ≡ kept
nothing_changed none = refl
nothing_changed (wrong_run view call wrong calls) = nothing_changed calls ∙ ap view (refused_run call wrong).0
nothing_changed (wrong_reset view call wrong calls) = nothing_changed calls ∙ ap view (refused_reset call wrong)

-- ---- a list in pieces

-- Calls one after the other, each on the bytes that the last one left, with refused ones before, between and behind
-- those that are not: the words of the calls that are not refused, in their order, as one list, and the answers to them
pub data Fed : List ℕ → List ℕ → List ℕ → List ℕ → Type 0 where
  one : {kept begun words out left out' kept' : List ℕ} → Wrong kept begun → Ran begun words out 0 left out'
      → Wrong left kept' → Fed kept words (take (length words) out') kept'
  more : {kept begun words out middle out' words' said kept' : List ℕ} → Wrong kept begun
      → Ran begun words out 0 middle out' → Fed middle words' said kept'
      → Fed kept (words ++ words') (take (length words) out' ++ said) kept'

-- one run of the words from the state that the bytes `kept` keep
pub record OneRun (kept words said kept' : List ℕ) : Type 0 where
  pub whole : length words % 4 ≡ 0
  pub state : decode kept' ≡ run unit (decode kept) (words_of words)
  pub bytes : kept' ≡ encode (run unit (decode kept) (words_of words))
  pub answered : said ≡ bytes_of (answers unit (decode kept) (words_of words))

-- ---- words and bytes of lists in two parts

words_append : (a b : List ℕ) → length a % 4 ≡ 0 → words_of (a ++ b) ≡ words_of a ++ words_of b
unfolding words_of
words_append [] b h = refl
words_append (x ∷ []) b h = absurd (let e : ⊥ = omega arith in e)
words_append (x ∷ y ∷ []) b h = absurd (let e : ⊥ = omega arith in e)
words_append (x ∷ y ∷ z ∷ []) b h = absurd (let e : ⊥ = omega arith in e)
words_append (x ∷ y ∷ z ∷ w ∷ a) b h =
    ap (λ (l : List ℕ). word_from x y z w ∷ l) (words_append a b (omega arith))

words_length : (l : List ℕ) → length l % 4 ≡ 0 → length (words_of l) * 4 ≡ length l
unfolding words_of
words_length [] h = refl
words_length (x ∷ []) h = absurd (let e : ⊥ = omega arith in e)
words_length (x ∷ y ∷ []) h = absurd (let e : ⊥ = omega arith in e)
words_length (x ∷ y ∷ z ∷ []) h = absurd (let e : ⊥ = omega arith in e)
words_length (x ∷ y ∷ z ∷ w ∷ l) h = omega (arith, words_length l (omega arith))

bytes_append : (a b : List ℕ) → bytes_of (a ++ b) ≡ bytes_of a ++ bytes_of b
unfolding bytes_of
bytes_append [] b = refl
bytes_append (w ∷ a) b = ap (λ (l : List ℕ). bytes_of_word w ++ l) (bytes_append a b)

bytes_length : (ws : List ℕ) → length (bytes_of ws) ≡ length ws * 4
unfolding bytes_of
bytes_length [] = refl
bytes_length (w ∷ ws) = omega (arith, bytes_length ws)

spelled_length : (s : State) (words : List ℕ) → length words % 4 ≡ 0
    → length (bytes_of (answers unit s (words_of words))) ≡ length words
spelled_length s words h =
    omega (
      arith,
      bytes_length (answers unit s (words_of words)),
      answers_length s (words_of words),
      words_length words h,
    )

-- ---- one call that is not refused

module _ {kept words out kept' out' : List ℕ} (call : Ran kept words out 0 kept' out') where
  lists_taken : byte_refusal words out ≡ 0
  unfolding run_refusal
  lists_taken =
      ⊎_elim (λ e. e) (λ n. sym (call.ends ∙ rw (ne_eqb (byte_refusal words out) 0 n)))
      (same_or_not (byte_refusal words out) 0)

  pub one_call : OneRun kept words (take (length words) out') kept'
  unfolding run_state run_bytes run_answers
  one_call =
      let whole = (taken_whole (length words) (length out) lists_taken).0 in
      record {
        whole = whole;
        state = call.again ∙ rw (← call.ends);
        bytes = call.left ∙ rw (← call.ends);
        answered = rw (call.written, ← call.ends)
            (take_at (bytes_of (answers unit (decode kept) (words_of words))) _ (length words)
            (spelled_length (decode kept) words whole));
      }

-- ---- any number of calls

pub as_one_run : {kept words said kept' : List ℕ} → Fed kept words said kept' → OneRun kept words said kept'
as_one_run (one {kept} {begun} {words} {out} {left} {out'} {kept'} before call behind) =
    rw (nothing_changed behind, ← nothing_changed before) (one_call call)
as_one_run (more {kept} {begun} {words} {out} {middle} {out'} {words'} {said} {kept'} before call calls) =
    let first : OneRun kept words (take (length words) out') middle = rw (← nothing_changed before) (one_call call) in
    let rest = as_one_run calls in
    let s = decode kept in
    let A = words_of words in
    let B = words_of words' in
    let apart : words_of (words ++ words') ≡ A ++ B = words_append words words' first.whole in
    let left : run unit (decode middle) B ≡ run unit s (words_of (words ++ words'))
    = ap (λ (t : State). run unit t B) first.state ∙ sym (ap (run unit s) apart ∙ run_append unit s A B) in
    record {
      whole = omega (arith, length-append words words', first.whole, rest.whole);
      state = rest.state ∙ left;
      bytes = rest.bytes ∙ ap encode left;
      answered = rw (first.answered, rest.answered, first.state, apart, answers_append unit s A B)
          (sym (bytes_append (answers unit s A) (answers unit (run unit s A) B)));
    }

-- the bytes that the calls leave have the size of a state, so that only the lists of the next call can be refused
pub next_refusal : {kept words said kept' : List ℕ} → Fed kept words said kept' → (next out : List ℕ)
    → run_refusal kept' next out ≡ byte_refusal next out
unfolding run_refusal size_refusal
next_refusal {kept} {words} {said} {kept'} calls next out =
    let many = as_one_run calls in
    let size : length kept' ≡ state_bytes = same_size kept' (many.bytes ∙ ap encode (sym many.state)) in
    ⊎_elim (λ e. rw (eq-eqb (byte_refusal next out) 0 e, size) (sym e)) (λ n. rw (ne_eqb (byte_refusal next out) 0 n))
    (same_or_not (byte_refusal next out) 0)

-- what the calls leave and answer is what one call for all the words leaves and answers
pub pieces_are_one : {kept words said kept' out kept'' out'' : List ℕ} → Fed kept words said kept'
    → Ran kept words out 0 kept'' out'' → (kept' ≡ kept'') × (said ≡ take (length words) out'')
pieces_are_one calls call =
    let many = as_one_run calls in
    let single = one_call call in
    (many.bytes ∙ sym single.bytes, many.answered ∙ sym single.answered)

-- from a reset unit the answers are those of `iebus_run`
pub pieces_from_reset : {before kept words said kept' out out' : List ℕ} → Reset before 0 kept
    → Fed kept words said kept' → CalledBytes reset words out 0 out' → said ≡ take (length words) out'
unfolding reset_state bytes_after
pieces_from_reset {before} {kept} {words} {said} {kept'} {out} {out'} begun calls call =
    let many = as_one_run calls in
    let fresh : decode kept ≡ reset = begun.again ∙ rw (← begun.ends) in
    many.answered ∙ rw fresh
    (sym (rw (call.written, ← call.ends)
    (take_at (bytes_of (answers unit reset (words_of words))) _ (length words)
    (spelled_length reset words many.whole))))

-- ---- demand 3

fed_protected : {kept words said kept' : List ℕ} → Fed kept words said kept' → Protected unit
fed_protected (one before call behind) = call.protected
fed_protected (more before call calls) = call.protected

-- the words that the answer bytes spell
words_again : (s : State) (ws : List ℕ) → words_of (bytes_of (answers unit s ws)) ≡ answers unit s ws ++ []
unfolding words_of
words_again s ws = ap words_of (sym (append-nil (bytes_of (answers unit s ws)))) ∙ answers_spelled s ws []

answers_fed : {kept words said kept' : List ℕ} → Fed kept words said kept'
    → take (length (words_of words)) (words_of said) ≡ answers unit (decode kept) (words_of words)
answers_fed {kept} {words} calls =
    let s = decode kept in
    let many = as_one_run calls in
    rw (many.answered, words_again s (words_of words))
    (take_at (answers unit s (words_of words)) [] (length (words_of words)) (answers_length s (words_of words)))

module _ {h : ℕ} {kept : List ℕ} {A B : List ℕ} (given : Given unit h (decode kept) A B) where
  -- two lists, each fed in pieces of its own, from one state
  pub feeds_alike : {words words' said said' kept' kept'' : List ℕ} → words_of words ≡ A → words_of words' ≡ B
      → Fed kept words said kept' → Fed kept words' said' kept''
      → AlikeIn h (decode kept) A B (words_of said) (words_of said')
  feeds_alike e e' first second =
      answers_alike (fed_protected first) h (decode kept) A B _ _ given (rw e at (answers_fed first))
      (rw e' at (answers_fed second))

  -- the states that are kept after i words of the one list and j of the other
  pub kept_alike : {words words' said said' kept' kept'' : List ℕ} (i j : ℕ)
      → words_of words ≡ take i A → words_of words' ≡ take j B
      → Fed kept words said kept' → Fed kept words' said' kept'' → Behind h A B i j
      → Compared unit (decode kept) A i → Compared unit (decode kept) B j
      → observed (decode kept') ≡ observed (decode kept'')
  unfolding Protected
  kept_alike i j e e' first second behind c c' =
      ap observed ((as_one_run first).state ∙ ap (run unit (decode kept)) e)
      ∙ (fed_protected first h (decode kept) A B given).states i j behind c c'
      ∙ sym (ap observed ((as_one_run second).state ∙ ap (run unit (decode kept)) e'))

-- A list of records against what is gathered of it: the loop that gathers, turn by turn, and that a contest of what was
-- gathered is the contest of the list.
use mathlib.Core.Bool.{Bool, true, false}
use mathlib.Core.Logic.{⊎_elim}
use mathlib.Core.Path.{◌≡◌, refl, sym, subst, ap, ◌∙◌}
use mathlib.Core.List.{List, [], ◌∷◌}
use Prim.Native.Nat.{ℕ, zero, suc, ◌+◌, ◌≤◌, ◌<◌, min}
use native.Mathlib.Numerals.{add-one}
use native.Mathlib.Omega.{arith}
use borrow.Author.Tests.{lt-ltb, ne_eqb}
use Rattle.std.specs.Prelude.{Err}
use lib.Dec.{ltb}
use lib.ListN.{length, take, get_or, set, replicate}
use Rattle.line.specs.Choice.{pick}
use Rattle.line.specs.Numbers.{most_contenders}
use Rattle.contenders.specs.Contest.{nobody, first_of, contenders_of, no_contenders, verdict_of, contest_of, numbers_after}
use Rattle.contenders.specs.Contest.{Contested, ContestedWord, NamedRightly, Outcome, verdict_in}
use Rattle.records.specs.Gathered.{with_record, gathered_of}
use Rattle.contenders.specs.declared.Contender.{Contender}
use Rattle.contenders.specs.declared.Contenders.{Contenders}
use Rattle.contenders.specs.declared.Verdict.{Verdict}
use Rattle.contenders.specs.declared.ContestError.TheVariants.{ShortList, WrongCount}
use Rattle.line.proofs.Either.{below_or_not}
use Rattle.contest.proofs.Places.{length_first_of}
use Rattle.contest.proofs.Endings.{others_named}

-- ---- the loop

first_of_nil : (n : ℕ) → replicate n nobody ≡ first_of n []
unfolding first_of
first_of_nil zero = refl
first_of_nil (suc n) = ap (λ (cs : List Contender). nobody ∷ cs) (first_of_nil n)

first_of_set : (n i : ℕ) (cs : List Contender) → i < n → i < length cs
    → set (first_of n (take i cs)) i (get_or cs i nobody) ≡ first_of n (take (suc i) cs)
unfolding first_of
first_of_set zero i cs h k = absurd (omega arith)
first_of_set (suc n) i [] h k = absurd (omega arith)
first_of_set (suc n) zero (c ∷ cs) h k = refl
first_of_set (suc n) (suc i) (c ∷ cs) h k =
    ap (λ (ds : List Contender). c ∷ ds) (first_of_set n i cs (omega arith) (omega arith))

first_of_take : (n i : ℕ) (cs : List Contender) → min (length cs) n ≤ i → first_of n (take i cs) ≡ first_of n cs
unfolding first_of
first_of_take zero i cs h = refl
first_of_take (suc n) zero [] h = refl
first_of_take (suc n) (suc i) [] h = refl
first_of_take (suc n) zero (c ∷ cs) h = absurd (omega arith)
first_of_take (suc n) (suc i) (c ∷ cs) h = ap (λ (ds : List Contender). c ∷ ds) (first_of_take n i cs (omega arith))

-- what is gathered of the first i records
abbrev pub gathered_upto : List Contender → ℕ → Contenders
gathered_upto cs i = record { count = length cs; list = first_of most_contenders (take i cs) }

abbrev counted : List Contender → List Contender → Contenders
counted cs kept = record { count = length cs; list = kept }

pub none_gathered : (cs : List Contender) → no_contenders (length cs) ≡ gathered_upto cs 0
none_gathered cs = ap (counted cs) (first_of_nil most_contenders)

pub one_gathered : (cs : List Contender) (i : ℕ) → i < min (length cs) most_contenders
    → with_record (gathered_upto cs i) cs i ≡ gathered_upto cs (i + 1)
one_gathered cs i h =
    let room : i < 50 = omega arith in
    simp (lt-ltb i 50 room) (ap (counted cs) (first_of_set most_contenders i cs room (omega arith) ∙ rw (add-one i)))

pub all_gathered : (cs : List Contender) (i : ℕ) → min (length cs) most_contenders ≤ i
    → gathered_upto cs i ≡ gathered_of cs
all_gathered cs i h = ap (counted cs) (first_of_take most_contenders i cs h)

-- ---- the contest

first_of_all : (n : ℕ) (cs : List Contender) → length cs ≤ n → first_of (length cs) (first_of n cs) ≡ cs
unfolding first_of
first_of_all n [] h = refl
first_of_all zero (c ∷ cs) h = absurd (omega arith)
first_of_all (suc n) (c ∷ cs) h = ap (λ (ds : List Contender). c ∷ ds) (first_of_all n cs (omega arith))

-- up to 50 records are all there
pub few_gathered : (cs : List Contender) → length cs ≤ most_contenders → contenders_of (gathered_of cs) ≡ cs
unfolding contenders_of
few_gathered cs few = first_of_all most_contenders cs few

length_gathered : (cs : List Contender) → length (contenders_of (gathered_of cs)) ≡ length cs
unfolding contenders_of
length_gathered cs = length_first_of (length cs) (first_of most_contenders cs)

-- more than 50 are turned away, whoever they are
turned_away : (cs : List Contender) (numbers : List ℕ) (n : ℕ) → length cs ≡ n → 50 < n
    → contest_of cs numbers ≡ pick (ltb (length numbers) n) (Err ShortList) (Err WrongCount)
unfolding contest_of
turned_away cs numbers n is many = rw is (simp (ne_eqb n 0 (λ e. omega arith), lt-ltb 50 n many))

-- 12 and 13 name no place
abbrev TurnedAway : ℕ → Type 0
TurnedAway number = (0 < number) × (number < 15)

away_number : (b : Bool) → TurnedAway (verdict_of (pick b (Err ShortList) (Err WrongCount))).number
away_number true = (omega arith, omega arith)
away_number false = (omega arith, omega arith)

module _ (cs : List Contender) (numbers : List ℕ) where
  -- a contest of what was gathered is the contest of the list
  pub outcome_listed : contest_of (contenders_of (gathered_of cs)) numbers ≡ contest_of cs numbers
  outcome_listed =
      ⊎_elim
      (λ many. turned_away _ numbers _ (length_gathered cs) many ∙ sym (turned_away cs numbers _ refl many))
      (λ few. ap (λ (ds : List Contender). contest_of ds numbers) (few_gathered cs few))
      (below_or_not 50 (length cs))

  module _ {v : Verdict} (e : v ≡ verdict_of (contest_of cs numbers)) where
    many_away : 50 < length cs → TurnedAway v.number
    many_away many =
        subst (λ (w : Verdict). TurnedAway w.number) (sym (e ∙ ap verdict_of (turned_away cs numbers _ refl many)))
        (away_number (ltb (length numbers) (length cs)))

    pub numbers_listed : numbers_after (contenders_of (gathered_of cs)) numbers v ≡ numbers_after cs numbers v
    unfolding numbers_after
    numbers_listed =
        ⊎_elim (λ many. simp (ne_eqb v.number 0 (λ z. omega (arith, many_away many))))
        (λ few. ap (λ (ds : List Contender). numbers_after ds numbers v) (few_gathered cs few))
        (below_or_not 50 (length cs))

    pub named_listed : NamedRightly (contenders_of (gathered_of cs)) v → NamedRightly cs v
    named_listed named =
        ⊎_elim (λ many. others_named v.number v.place (many_away many).0 (many_away many).1)
        (λ few. subst (λ (ds : List Contender). NamedRightly ds v) (few_gathered cs few) named)
        (below_or_not 50 (length cs))

module _ (cs : List Contender) {numbers : List ℕ} {r : Outcome} {after : List ℕ}
    (c : Contested (contenders_of (gathered_of cs)) numbers r after) where
  outcome_told : r ≡ contest_of cs numbers
  outcome_told = c.outcome ∙ outcome_listed cs numbers

  pub contest_listed : Contested cs numbers r after
  contest_listed =
      record { outcome = outcome_told; written = c.written ∙ numbers_listed cs numbers (ap verdict_of outcome_told) }

  pub outcome_named : NamedRightly (contenders_of (gathered_of cs)) (verdict_of r) → NamedRightly cs (verdict_of r)
  outcome_named = named_listed cs numbers (ap verdict_of outcome_told)

module _ (cs : List Contender) {numbers : List ℕ} {word : ℕ} {after : List ℕ}
    (c : ContestedWord (contenders_of (gathered_of cs)) numbers word after) where
  verdict_told : verdict_in word ≡ verdict_of (contest_of cs numbers)
  verdict_told = c.verdict ∙ ap verdict_of (outcome_listed cs numbers)

  pub word_listed : ContestedWord cs numbers word after
  word_listed = record { verdict = verdict_told; written = c.written ∙ numbers_listed cs numbers verdict_told }

  pub word_named : NamedRightly (contenders_of (gathered_of cs)) (verdict_in word) → NamedRightly cs (verdict_in word)
  word_named = named_listed cs numbers verdict_told

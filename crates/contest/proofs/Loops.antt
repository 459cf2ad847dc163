-- What each loop over the contenders keeps from turn to turn, and what a search over them finds.
use mathlib.Core.Bool.{Bool, true, false, cond, false≢true}
use mathlib.Core.Logic.{⊎_elim}
use mathlib.Core.Path.{◌≡◌, refl, sym, ap, ◌∙◌}
use mathlib.Core.List.{List, ◌∷◌}
use Prim.Native.Nat.{ℕ, suc, ◌+◌, ◌-◌, ◌≤◌, ◌<◌}
use native.Mathlib.Numerals.{add-one}
use native.Mathlib.Omega.{arith}
use borrow.Author.Tests.{eq-eqb, ne_eqb, lt-ltb, le-ltb}
use lib.ListN.{length, drop, get_or, set, take, length-drop, drop_of_length-le}
use lib.Seq.{drop-cons, take_all}
use Rattle.std.specs.Prelude.{Option, None, Some}
use Rattle.std.specs.Option.{is_some}
use Rattle.std.specs.List.{Any, list_any, position, position_or_len}
use Rattle.std.proofs.lemmas.List.Folds.{Any-from_list_any, list_any_at}
use Rattle.std.proofs.lemmas.List.Recursion.{is_position_or_len}
use Rattle.line.specs.Choice.{pick}
use Rattle.line.specs.Numbers.{contest_slots, last_contest_slot}
use Rattle.line.specs.Parity.{level_of}
use Rattle.line.specs.Places.{first_place}
use Rattle.line.proofs.Filled.{Filled, all_filled, one_filled}
use Rattle.line.proofs.First.{first_at_most, first_holds}
use Rattle.line.proofs.Either.{below_or_not}
use Rattle.contenders.specs.Contest.{nobody, alike, first_twin, number_of}
use Rattle.contenders.specs.declared.Contender.{Contender}
use Rattle.contest.specs.Deciding.{Found, Losses, differences, differs}
use Rattle.contest.proofs.Places.{alike_back, twin_here, twin_later}

-- ---- lost_in: n slots are still to be compared

-- the slots before the last n are alike
pub record Compared (w x n : ℕ) : Type 0 where
  pub left : n ≤ contest_slots
  pub same : differs contest_slots w x ≡ differs n w x

differs_suc : (w x n : ℕ) → 0 < n → differs n w x ≡ differs (suc (n - 1)) w x
differs_suc w x n h = let e : n ≡ suc (n - 1) = omega arith in ap (λ (k : ℕ). differs k w x) e

pub compared_one : {w x n : ℕ} → Compared w x n → 0 < n → level_of (n - 1) x ≡ level_of (n - 1) w → Compared w x (n - 1)
unfolding differs
compared_one {w} {x} {n} c h e =
    record {
      left = omega (arith, c.left);
      same = c.same ∙ differs_suc w x n h
          ∙ simp (eq-eqb (level_of (n - 1) x) (level_of (n - 1) w) e);
    }

pub compared_here : {w x n : ℕ} → Compared w x n → 0 < n → (level_of (n - 1) x ≡ level_of (n - 1) w → ⊥)
    → last_contest_slot - (n - 1) ≡ differs contest_slots w x
unfolding differs
compared_here {w} {x} {n} c h e =
    sym (c.same ∙ differs_suc w x n h ∙ simp (ne_eqb (level_of (n - 1) x) (level_of (n - 1) w) e))

pub compared_all : {w x n : ℕ} → Compared w x n → n ≤ 0 → 0 ≡ differs contest_slots w x
unfolding differs
compared_all {w} {x} {n} c h = let e : n ≡ 0 = omega arith in sym (c.same ∙ rw e)

-- ---- first_out: what std's `position` finds

first_is_position : (test : Contender → Bool) (cs : List Contender) → first_place test cs ≡ position_or_len test cs
unfolding first_place
first_is_position test cs =
    is_position_or_len (first_place test) test refl (λ x xs. step (test x) (first_place test xs)) cs
  where
    step : (b : Bool) (n : ℕ) → pick b 0 (n + 1) ≡ cond b 0 (1 + n)
    step true n = refl
    step false n = omega arith

pub found_position : (test : Contender → Bool) (cs : List Contender) {r : Option ℕ} → r ≡ position test cs
    → Found cs (first_place test cs) r
found_position test cs {r} e =
    ⊎_elim
    (λ h. rw (e, lt-ltb (position_or_len test cs) (length cs) h, first_is_position test cs) (h, refl))
    (λ h. rw (e, le-ltb (position_or_len test cs) (length cs) h, first_is_position test cs) h)
    (below_or_not (position_or_len test cs) (length cs))

-- what is asked of a search by `is_some` alone
pub found_some : {A : Type 0} (xs : List A) (p : ℕ) (r : Option ℕ) → Found xs p r → is_some r ≡ true → p < length xs
found_some xs p None f t = absurd (false≢true t)
found_some xs p (Some q) (h, e) t = omega (arith, h, e)

pub found_none : {A : Type 0} (xs : List A) (p : ℕ) (r : Option ℕ) → Found xs p r → is_some r ≡ false → length xs ≤ p
found_none xs p None f t = f
found_none xs p (Some q) f t = absurd (false≢true (sym t))

-- ---- first_twin

-- the contenders from a place on: the one there, and those behind it
cut : (cs : List Contender) (i : ℕ) → i < length cs → drop i cs ≡ get_or cs i nobody ∷ drop (i + 1) cs
cut cs i h = drop-cons cs i nobody h ∙ rw (add-one i)

-- the contenders before a place do not occur again
pub record Untwinned (cs : List Contender) (i : ℕ) : Type 0 where
  pub ahead : first_twin cs ≡ i + first_twin (drop i cs)

-- a contender that is among some has a first place there, and no other one has
module _ (c : Contender) (cs : List Contender) where
  seen_within : list_any (λ d. alike d c) cs ≡ true → first_place (alike c) cs < length cs
  seen_within seen = go (Any-from_list_any (λ d. alike d c) cs seen)
    where
      go : Any (λ d. alike d c ≡ true) cs → first_place (alike c) cs < length cs
      go (k, d, inside, is, same) =
          omega (arith, inside, first_at_most (alike c) cs d k (ap (alike c) is ∙ alike_back c d ∙ same))

  seen_nowhere : list_any (λ d. alike d c) cs ≡ false → length cs ≤ first_place (alike c) cs
  seen_nowhere none =
      ⊎_elim
      (λ h. absurd (false≢true (sym none ∙ list_any_at (λ d. alike d c) cs (first_place (alike c) cs) nobody h
      (alike_back _ c ∙ first_holds (alike c) cs nobody h))))
      (λ h. h)
      (below_or_not (first_place (alike c) cs) (length cs))

module _ {cs : List Contender} {i : ℕ} (u : Untwinned cs i) (h : i < length cs) where
  abbrev here : Contender
  here = get_or cs i nobody

  -- as the code cuts them off
  abbrev behind : List Contender
  behind = take (length cs - (i + 1)) (drop (i + 1) cs)

  behind_is : behind ≡ drop (i + 1) cs
  behind_is = take_all (length cs - (i + 1)) (drop (i + 1) cs) (omega (arith, length-drop (i + 1) cs))

  cut_here : drop i cs ≡ here ∷ behind
  cut_here = cut cs i h ∙ ap (λ (ds : List Contender). here ∷ ds) (sym behind_is)

  pub untwinned_one : list_any (λ d. alike d here) behind ≡ false → Untwinned cs (i + 1)
  untwinned_one none = record {
    ahead = omega (
      arith,
      u.ahead,
      ap first_twin cut_here,
      twin_later here behind (seen_nowhere here behind none),
      ap first_twin behind_is,
    );
  }

  pub twin_at : list_any (λ d. alike d here) behind ≡ true → (i < length cs) × (i ≡ first_twin cs)
  twin_at some =
      let now = twin_here here behind (seen_within here behind some) in
      (h, omega (arith, u.ahead, ap first_twin cut_here, now))

-- ---- put_losses: one slot more

pub loss_written : (w : ℕ) {v i : ℕ} (cs : List Contender) {first now : List ℕ}
    → Filled (differences w cs) first now (differences w (drop i cs)) i → i < length cs → i < length now
    → v ≡ differs contest_slots w (number_of (get_or cs i nobody))
    → Filled (differences w cs) first (set now i v) (differences w (drop (i + 1) cs)) (i + 1)
unfolding differences
loss_written w {v} {i} cs f h room e =
    one_filled v (rw (ap (differences w) (cut cs i h), ← e) at f) room

pub losses_written : (w : ℕ) {i : ℕ} (cs : List Contender) {first now : List ℕ}
    → Filled (differences w cs) first now (differences w (drop i cs)) i → i ≡ length cs → Losses w cs first now
unfolding differences
losses_written w {i} cs f e = rw (← e) (all_filled (rw (drop_of_length-le cs {i = i} (omega arith)) at f))

-- Who is shown is the winner of the contest over the roll.
use mathlib.Core.List.{List, [], ◌∷◌, ◌++◌}
use mathlib.Core.Path.{◌≡◌, refl, sym, ap, ◌∙◌}
use Prim.Native.Nat.{ℕ, ◌≤◌, ◌<◌}
use native.Mathlib.Omega.{arith}
use lib.ListN.{drop, get_or, length}
use Rattle.contenders.specs.Contest.{nobody, number_of, winner_of}
use Rattle.contenders.specs.declared.Contender.{Contender}
use Rattle.contest.specs.Deciding.{differences}
use Rattle.contest.proofs.Endings.{ends_won}
use Rattle.contest.proofs.Winner.{least_of, winner_is, wins}
use Rattle.rolls.specs.Roll.{Next, Nobody, shown_of}
use Rattle.rolls.specs.Relied.{Won}
use Rattle.rolls.proofs.Made.{Made, made_fair}

pub shown_none : (roll : List Contender) → roll ≡ [] → shown_of roll ≡ Nobody
unfolding shown_of
shown_none roll none = ap shown_of none

pub shown_is : (roll : List Contender) → 0 < length roll → shown_of roll ≡ Next (get_or roll (winner_of roll) nobody)
unfolding shown_of
shown_is [] some = absurd (omega (arith, some))
shown_is (c ∷ cs) some = refl

pub shown_won : (roll : List Contender) (numbers : List ℕ) → Made roll → 0 < length roll → length roll ≤ length numbers
    → Won roll numbers (shown_of roll)
shown_won [] numbers m some room = absurd (omega (arith, some))
shown_won (c ∷ cs) numbers m some room =
    let roll = c ∷ cs in
    let fair = made_fair m in
    let r = least_of c cs in
    let w = number_of (get_or roll r.0 nobody) in
    let ends = ends_won roll numbers room (λ e. omega (arith, some, e)) m.few fair r.1
    {after = differences w roll ++ drop (length roll) numbers} refl in
    record {
      place = r.0;
      contest = sym ends.outcome;
      wins = wins roll r.0 fair r.1;
      is = shown_is roll some ∙ ap (λ (p : ℕ). Next (get_or roll p nobody)) (sym (winner_is roll r.0 fair r.1));
    }

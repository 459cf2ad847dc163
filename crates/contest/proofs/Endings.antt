-- What a contest comes to, one law for each way that it ends, and what the place named comes to.
use mathlib.Core.Path.{◌≡◌, refl, sym, ap, ◌∙◌}
use mathlib.Core.List.{List}
use Prim.Native.Nat.{ℕ, ◌≤◌, ◌<◌}
use native.Mathlib.Omega.{arith}
use borrow.Author.Tests.{lt-ltb, le-ltb, eq-eqb, ne_eqb}
use lib.ListN.{length, get_or}
use Rattle.std.specs.Prelude.{Ok, Err}
use Rattle.contenders.specs.Contest.{nobody, number_of, first_out, first_twin, contest_of}
use Rattle.contenders.specs.Contest.{numbers_after, verdict_of, Contested, Outcome, Wins, NamedRightly}
use Rattle.contest.specs.Deciding.{Fair, Least, Losses}
use Rattle.contenders.specs.declared.Contender.{Contender}
use Rattle.contenders.specs.declared.ContestError.TheVariants.{ShortList, WrongCount, OutOfRange, Alike}
use Rattle.contest.proofs.Places.{lowest_again, none_again}
use Rattle.contest.proofs.Winner.{losses_are, winner_is}

-- ---- the places named

-- of 12 to 14 nothing more is said: 12 and 13 name no place, 14 the first out of range
pub others_named : {cs : List Contender} (n p : ℕ) → 0 < n → n < 15 → NamedRightly cs (record { number = n; place = p })
others_named n p some few =
    record { winner = λ e. absurd (omega arith); unlike = λ e. absurd (omega arith); twin = λ e. absurd (omega arith) }

pub twin_named : (cs : List Contender) → first_twin cs < length cs
    → NamedRightly cs (verdict_of (Err (Alike (first_twin cs))))
twin_named cs twin =
    record {
      winner = λ e. absurd (omega arith);
      unlike = λ e. absurd (omega arith);
      twin = λ _. lowest_again cs twin;
    }

pub winner_named : {cs : List Contender} {p : ℕ} → Fair cs → Wins cs p → NamedRightly cs (verdict_of (Ok p))
winner_named {cs} fair won =
    record { winner = λ _. won; unlike = λ _. none_again cs fair.unlike; twin = λ e. absurd (omega arith) }

-- ---- the outcomes

-- a contest whose outcome is r, with the number list after it
concluded : {cs : List Contender} {numbers : List ℕ} (r : Outcome) (after : List ℕ) → contest_of cs numbers ≡ r
    → after ≡ numbers_after cs numbers (verdict_of r) → Contested cs numbers r after
concluded r after e written = record { outcome = sym e; written = written }

module _ (cs : List Contender) (numbers : List ℕ) where
  pub ends_short : length numbers < length cs → Contested cs numbers (Err ShortList) numbers
  unfolding contest_of numbers_after
  ends_short short = concluded (Err ShortList) numbers (simp (lt-ltb _ _ short)) refl

  module _ (room : length cs ≤ length numbers) where
    pub ends_empty : length cs ≡ 0 → Contested cs numbers (Err WrongCount) numbers
    unfolding contest_of numbers_after
    ends_empty none = concluded (Err WrongCount) numbers (simp (le-ltb _ _ room, eq-eqb _ _ none)) refl

    module _ (some : length cs ≡ 0 → ⊥) where
      pub ends_crowded : 50 < length cs → Contested cs numbers (Err WrongCount) numbers
      unfolding contest_of numbers_after
      ends_crowded many =
          concluded (Err WrongCount) numbers (simp (le-ltb _ _ room, ne_eqb _ _ some, lt-ltb _ _ many)) refl

      module _ (few : length cs ≤ 50) where
        pub ends_out_of_range : first_out cs < length cs
            → Contested cs numbers (Err (OutOfRange (first_out cs))) numbers
        unfolding contest_of numbers_after
        ends_out_of_range out =
            concluded (Err (OutOfRange (first_out cs))) numbers
            (simp (le-ltb _ _ room, ne_eqb _ _ some, le-ltb _ _ few, lt-ltb _ _ out)) refl

        module _ (ranged : length cs ≤ first_out cs) where
          pub ends_alike : first_twin cs < length cs → Contested cs numbers (Err (Alike (first_twin cs))) numbers
          unfolding contest_of numbers_after
          ends_alike twin =
              concluded (Err (Alike (first_twin cs))) numbers
              (simp (le-ltb _ _ room, ne_eqb _ _ some, le-ltb _ _ few, le-ltb _ _ ranged, lt-ltb _ _ twin)) refl

      pub ends_won : length cs ≤ 50 → Fair cs → {p : ℕ} → Least cs p → {after : List ℕ}
          → Losses (number_of (get_or cs p nobody)) cs numbers after → Contested cs numbers (Ok p) after
      unfolding contest_of numbers_after
      ends_won few fair {p} least {after} e =
          concluded (Ok p) after
          (simp (
            le-ltb _ _ room,
            ne_eqb _ _ some,
            le-ltb _ _ few,
            le-ltb _ _ fair.in-range,
            le-ltb _ _
                fair.unlike,
          )
          (ap Ok (sym (winner_is cs p fair least))))
          (e ∙ rw (losses_are cs fair.in-range p least))

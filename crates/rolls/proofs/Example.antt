-- The premises of what a display relies on are met: requests that join and leave, each refusal, and a full roll that
-- has room again.
use mathlib.Core.Bool.{false, false≢true}
use mathlib.Core.List.{List, [], ◌∷◌, foldl}
use mathlib.Core.Path.{◌≡◌, refl, sym, ap, ◌∙◌}
use Prim.Native.Nat.{ℕ, ◌<◌}
use native.Mathlib.Omega.{arith}
use lib.ListN.{length, replicate}
use Rattle.line.specs.Places.{first_place}
use Rattle.contenders.specs.Cases.{broadcast, ordinary, row}
use Rattle.contenders.specs.Contest.{Ranged, alike, in_range}
use Rattle.contenders.specs.declared.Contender.{Contender}
use Rattle.rolls.specs.Kept.{bytes_after, bytes_of, join_end_in, roll_in, word_after}
use Rattle.rolls.specs.Relied.{On, Won}
use Rattle.rolls.specs.Roll.{Absent, Alike, BadSize, Call, Change, Done, Full, Nobody, OutOfRange, begin, done}
use Rattle.rolls.specs.Roll.{join, join_end, joined, leave, leave_end, left, roll_of, shown_of, there}
use Rattle.rolls.proofs.Changes.{on_there}
use Rattle.rolls.proofs.Relied.{relied}

-- what is refused is not done
not_done : (r : Change) → done r ≡ false → r ≡ Done → ⊥
unfolding done
not_done r f e = false≢true (sym f ∙ ap done e)

-- ---- calls, and who is shown after them

abbrev calls : List Call
calls = join (ordinary 0x100) ∷ join (ordinary 0x0FF) ∷ join (broadcast 0xFFF) ∷ leave (broadcast 0xFFF) ∷ []

abbrev two : List Contender
two = ordinary 0x100 ∷ ordinary 0x0FF ∷ []

made_two : roll_of calls ≡ two
unfolding joined left join_end leave_end done first_place alike in_range
made_two = refl

as_many : length (roll_of calls) ≡ 2
as_many = ap (length {A = Contender}) made_two

pub winner_shown : Won (roll_of calls) (0 ∷ 0 ∷ []) (shown_of (roll_of calls))
winner_shown = (relied.after calls).winner (0 ∷ 0 ∷ []) (omega (arith, as_many)) (omega (arith, as_many))

pub bytes_kept : foldl bytes_after (replicate 101 255) (begin ∷ calls) ≡ bytes_of (roll_of calls)
bytes_kept = (relied.after calls).kept (replicate 101 255) refl

pub none_shown : shown_of (roll_of []) ≡ Nobody
none_shown = (relied.after []).none refl

-- ---- over bytes: of a roll's size with others than a roll's, and too few

pub bytes_join : join_end_in (ordinary 5) (replicate 101 255) ≡ join_end (ordinary 5) (roll_in (replicate 101 255))
bytes_join = (relied.in_bytes (replicate 101 255)).joins refl (ordinary 5)

pub bytes_few : word_after (replicate 100 255) 7 ≡ 7
bytes_few = (relied.in_bytes (replicate 100 255)).untold (λ e. absurd (omega (arith, e))) 7

pub bytes_untouched : bytes_after (replicate 100 255) begin ≡ replicate 100 255
unfolding done
bytes_untouched =
    let few = relied.in_bytes (replicate 100 255) in
    few.begin_refused (λ e. not_done BadSize refl (sym (few.other-size (λ z. absurd (omega (arith, z)))).0 ∙ e))

-- ---- joining and leaving

ranged : (a : ℕ) → a < 0x1000 → Ranged (ordinary a)
ranged a h = record { bit_le = omega arith; address_le = omega (arith, h) }

on_two : On (ordinary 0x0FF) two
on_two = record { before = ordinary 0x100 ∷ []; after = []; is = refl }

absent : (c : Contender) (roll : List Contender) → there c roll ≡ false → On c roll → ⊥
absent c roll f o = false≢true (sym f ∙ on_there c roll o)

absent_two : On (ordinary 0x101) two → ⊥
unfolding first_place alike
absent_two = absent (ordinary 0x101) two refl

absent_one : On (ordinary 0x0FF) (ordinary 0x100 ∷ []) → ⊥
unfolding first_place alike
absent_one = absent (ordinary 0x0FF) (ordinary 0x100 ∷ []) refl

absent_full : On (ordinary 50) (row 50 0) → ⊥
unfolding first_place alike
absent_full = absent (ordinary 50) (row 50 0) refl

too_high : Ranged (ordinary 0x1000) → ⊥
too_high r = absurd (omega (arith, r.address_le))

pub join_too_high : join_end (ordinary 0x1000) two ≡ OutOfRange
join_too_high = (relied.joins (ordinary 0x1000) two).out_of_range too_high

pub join_alike : join_end (ordinary 0x0FF) two ≡ Alike
join_alike = (relied.joins (ordinary 0x0FF) two).alike (ranged 0x0FF (omega arith)) on_two

pub join_full : join_end (ordinary 50) (row 50 0) ≡ Full
join_full = (relied.joins (ordinary 50) (row 50 0)).full (ranged 50 (omega arith)) absent_full (omega arith)

join_taken : join_end (ordinary 0x101) two ≡ Done
join_taken = (relied.joins (ordinary 0x101) two).taken (ranged 0x101 (omega arith)) absent_two (omega arith)

pub join_last : joined (ordinary 0x101) two ≡ ordinary 0x100 ∷ ordinary 0x0FF ∷ ordinary 0x101 ∷ []
join_last = (relied.joins (ordinary 0x101) two).last join_taken

pub leave_too_high : leave_end (ordinary 0x1000) two ≡ OutOfRange
leave_too_high = (relied.leaves (ordinary 0x1000) two).out_of_range too_high

pub leave_absent : leave_end (ordinary 0x101) two ≡ Absent
leave_absent = (relied.leaves (ordinary 0x101) two).absent (ranged 0x101 (omega arith)) absent_two

leave_taken : leave_end (ordinary 0x0FF) two ≡ Done
leave_taken = (relied.leaves (ordinary 0x0FF) two).taken (ranged 0x0FF (omega arith)) on_two

pub leave_last : left (ordinary 0x0FF) two ≡ ordinary 0x100 ∷ []
leave_last =
    (relied.leaves (ordinary 0x0FF) two).closed_up (ordinary 0x100 ∷ []) [] refl absent_one (ranged 0x0FF (omega arith))

pub join_unchanged : joined (ordinary 0x0FF) two ≡ two
unfolding done
join_unchanged = (relied.joins (ordinary 0x0FF) two).unchanged (λ e. not_done Alike refl (sym join_alike ∙ e))

pub leave_unchanged : left (ordinary 0x101) two ≡ two
unfolding done
leave_unchanged =
    (relied.leaves (ordinary 0x101) two).unchanged (λ e. not_done Absent refl (sym leave_absent ∙ e))

-- ---- room that is used again

leaves_full : leave_end (ordinary 7) (row 50 0) ≡ Done
unfolding leave_end first_place alike in_range
leaves_full = refl

absent_after : On (ordinary 50) (left (ordinary 7) (row 50 0)) → ⊥
unfolding left leave_end done first_place alike in_range
absent_after = absent (ordinary 50) (left (ordinary 7) (row 50 0)) refl

pub room_again : join_end (ordinary 50) (left (ordinary 7) (row 50 0)) ≡ Done
room_again =
    (relied.room (ordinary 7) (ordinary 50) (row 50 0) refl leaves_full (ranged 50 (omega arith)) absent_after).0

-- The contest and the units are one rule: what was shown of all units slot by slot, over the masters and the others of
-- a line.
use mathlib.Core.Bool.{Bool, true, false, true≢false}
use mathlib.Core.Logic.{⊎_elim}
use mathlib.Core.Path.{◌≡◌, refl, sym, ap, ap₂, ◌∙◌}
use mathlib.Core.List.{List, [], ◌∷◌, ◌++◌, map, map-map}
use Prim.Native.Nat.{ℕ, zero, suc, ◌+◌, ◌-◌, ◌≤◌, ◌<◌}
use native.Mathlib.Omega.{arith}
use borrow.Author.Tests.{leb-true, ne_eqb, not-false}
use lib.Dec.{eqb, leb}
use lib.ListN
use lib.ListN.{get_or-append, drop, get_or, length, length-append, length-map, replicate}
use Rattle.line.specs.Numbers.{contest_slots, drive_start, highest_address, last_contest_slot}
use Rattle.line.proofs.Either.{below_or_not, both, either}
use Rattle.line.proofs.Places.{get_or_map}
use Rattle.line.specs.Parity.{level_of}
use Rattle.contenders.specs.Contest.{Wins, first_out, in_range, loss_of, losses_of, nobody, number_of}
use Rattle.contenders.specs.Contest.{out_of_range, winner_of}
use Rattle.contest.specs.Deciding.{Fair}
use Rattle.contenders.specs.declared.Contender.{Contender}
use Rattle.line.specs.Places.{first_place}
use Rattle.contest.proofs.Winner.{length_losses}
use Rattle.rules.specs.State.{State, reset}
use Rattle.rules.specs.Step.{answer_of, next_drive, step_of}
use Rattle.std.specs.Prelude.{Ok}
use Rattle.rules.specs.declared.answer.Reply.TheVariants.{Taken}
use Rattle.rules.proofs.Calm.{pick_no, pick_yes}
use Rattle.arbitration.specs.Group.{Contending, OneRule, after, contender_of, contenders, fed, leading, leads}
use Rattle.arbitration.specs.Group.{levels, remains, settles}
use Rattle.arbitration.proofs.Slot.{Stands, answered, number}
use Rattle.arbitration.proofs.Remaining.{Each, Leads, leaders, leading_levels, map_each, settles_le}
use Rattle.arbitration.proofs.Remaining.{own_settle, under_each}
use Rattle.arbitration.proofs.Winner.{winner_remains}
use Rattle.contest.proofs.Winner.{winner_wins}
use Rattle.arbitration.proofs.Start.{start_same, start_stands}

-- ---- a level is refused by nobody

levels_next : (k : ℕ) (ss : List State) → levels (suc k) ss ≡ fed (settles (levels k ss)) (levels k ss)
unfolding levels
levels_next zero ss = refl
levels_next (suc k) ss = levels_next k (fed (settles ss) ss)

level_taken : (ss : List State)
    → map (λ (s : State). answer_of s (settles ss)) ss
    ≡ map (λ (s : State). Ok (Taken (next_drive s))) (fed (settles ss) ss)
level_taken ss =
    map_each {P = λ s. settles ss ≤ next_drive s} _ _ (λ s under. answered s (settles ss) (settles_le ss) under) ss
    (under_each (settles ss) ss (omega arith))
    ∙ sym (map-map (λ (s : State). Ok (Taken (next_drive s))) (λ (s : State). step_of s (settles ss)) ss)

all_taken : (units : List State) (k : ℕ)
    → map (λ (s : State). answer_of s (settles (after k units))) (after k units)
    ≡ map (λ (s : State). Ok (Taken (next_drive s))) (after (suc k) units)
unfolding after
all_taken units k =
    level_taken (levels k (fed drive_start units))
    ∙ ap (map (λ (s : State). Ok (Taken (next_drive s)))) (sym (levels_next k (fed drive_start units)))

-- ---- after the start slot

record Begins (lead : Bool) (s : State) : Type 0 where
  leads : leads (step_of s drive_start) ≡ lead
  same : number (step_of s drive_start) ≡ number s
  stands : Stands 13 (step_of s drive_start)

begins : (s : State) (lead : Bool) → leads (step_of s drive_start) ≡ lead
    → (leads (step_of s drive_start) ≡ true → s.core.regs.own < 4096) → Begins lead s
begins s lead l h = record { leads = l; same = ap number_of (start_same s); stands = start_stands s h }

masters_begin : (ms : List State) → leading (fed drive_start ms) ≡ replicate (length ms) true
    → length (contenders ms) ≤ first_out (contenders ms) → Each (Begins true) ms
unfolding first_place in_range
masters_begin [] l e = tt
masters_begin (s ∷ ms) l e =
    ⊎_elim
    (λ t. absurd (let here : first_out (contenders (s ∷ ms)) ≡ 0 = pick_yes (out_of_range (contender_of s)) 0 _ t in
    omega arith))
    (λ f. let further : first_out (contenders (s ∷ ms)) ≡ first_out (contenders ms) + 1
    = pick_no (out_of_range (contender_of s)) 0 _ f in
    let ranged = (both (leb (contender_of s).bit 1) _ (not-false (in_range (contender_of s)) f)).1 in (
      begins s true (ap (λ (bs : List Bool). get_or bs 0 false) l)
          (λ t. omega (arith, leb-true s.core.regs.own highest_address ranged)),
      masters_begin ms (ap (drop 1) l) (omega arith),
    )) (either (out_of_range (contender_of s)))

others_begin : (os : List State) → leading (fed drive_start os) ≡ replicate (length os) false
    → Each (Begins false) os
others_begin [] l = tt
others_begin (s ∷ os) l =
    let silent = ap (λ (bs : List Bool). get_or bs 0 true) l in
    (begins s false silent (λ t. absurd (true≢false (sym t ∙ silent))), others_begin os (ap (drop 1) l))

-- ---- the losses

split : (f : State → Bool) (ms os : List State) → map f (ms ++ os) ≡ map f ms ++ map f os
split f [] os = refl
split f (s ∷ ms) os = ap (λ (bs : List Bool). f s ∷ bs) (split f ms os)

stands_started : (ms os : List State) → Each (Begins true) ms → Each (Begins false) os
    → Each (Stands 13) (fed drive_start (ms ++ os))
stands_started [] [] bs cs = tt
stands_started [] (s ∷ os) bs cs = (cs.0.stands, stands_started [] os bs cs.1)
stands_started (s ∷ ms) os bs cs = (bs.0.stands, stands_started ms os bs.1 cs)

leaders_started : (ms os : List State) → Each (Begins true) ms → Each (Begins false) os
    → leaders (fed drive_start (ms ++ os)) ≡ map number_of (contenders ms)
unfolding leaders
leaders_started [] [] bs cs = refl
leaders_started [] (s ∷ os) bs cs = rw cs.0.leads (leaders_started [] os bs cs.1)
leaders_started (s ∷ ms) os bs cs = rw (bs.0.leads, bs.0.same, leaders_started ms os bs.1 cs)

module _ (ms os : List State) (bs : Each (Begins true) ms) (cs : Each (Begins false) os) where
  losses_by_unit : (slot : ℕ) → map (remains slot) (losses_of (contenders ms))
      ≡ map (λ (s : State). remains slot (loss_of contest_slots (map number_of (contenders ms)) (number s))) ms
  unfolding losses_of
  losses_by_unit slot = simp map-map

  leading_after : (k : ℕ) → k ≤ contest_slots
      → leading (after k (ms ++ os)) ≡ map (remains (suc k)) (losses_of (contenders ms)) ++ replicate (length os) false
  unfolding after
  leading_after k h =
      let xs = map number_of (contenders ms) in
      let then : State → Bool = λ s. Leads 13 k xs (step_of s drive_start) in
      let now : last_contest_slot - 13 + k ≡ suc k = omega arith in
      leading_levels k 13 h (omega arith) (fed drive_start (ms ++ os)) (stands_started ms os bs cs)
      ∙ ap (λ (l : List ℕ). map (Leads 13 k l) (fed drive_start (ms ++ os))) (leaders_started ms os bs cs)
      ∙ map-map (Leads 13 k xs) (λ (s : State). step_of s drive_start) (ms ++ os)
      ∙ split then ms os
      ∙ ap₂ ◌++◌
      (map_each {P = Begins true} then _ (λ s b. rw (b.leads, b.same, now)) ms bs
      ∙ sym (losses_by_unit (suc k)))
      (map_each {P = Begins false} then (λ s. false) (λ s b. rw b.leads) os cs ∙ nobody_leads os)
    where
      nobody_leads : (os : List State) → map (λ (s : State). false) os ≡ replicate (length os) false
      nobody_leads [] = refl
      nobody_leads (s ∷ os) = ap (λ (bits : List Bool). false ∷ bits) (nobody_leads os)

-- ---- the claim

past : (bits : List Bool) (n i : ℕ) → length bits ≤ i → get_or (bits ++ replicate n false) i false ≡ false
past [] zero i h = refl
past [] (suc n) zero h = refl
past [] (suc n) (suc i) h = past [] n i (omega arith)
past (b ∷ bits) n zero h = absurd (omega arith)
past (b ∷ bits) n (suc i) h = past bits n i (omega arith)

module _ (cs : List Contender) (slot n : ℕ) where
  length_bits : length (map (remains slot) (losses_of cs)) ≡ length cs
  length_bits = length-map (losses_of cs) (remains slot) ∙ length_losses cs

  bit_of : (i : ℕ) → i < length cs
      → get_or (map (remains slot) (losses_of cs) ++ replicate n false) i false ≡ remains slot (get_or (losses_of cs) i 0)
  bit_of i h =
      get_or-append (map (remains slot) (losses_of cs)) (replicate n false) false i (omega (arith, length_bits))
      ∙ get_or_map (remains slot) (losses_of cs) i 0 false (omega (arith, length_losses cs))

winner_alone : (cs : List Contender) (p : ℕ) → Wins cs p → (n i : ℕ)
    → get_or (map (remains last_contest_slot) (losses_of cs) ++ replicate n false) i false ≡ eqb i p
winner_alone cs p w n i =
    ⊎_elim (λ lt. bit_of cs last_contest_slot n i lt ∙ winner_remains cs p w i lt)
    (λ le. past (map (remains last_contest_slot) (losses_of cs)) n i (omega (arith, length_bits cs last_contest_slot n))
    ∙ sym (ne_eqb i p (λ e. omega (arith, w.within)))) (below_or_not i (length cs))

-- the winner leads after every slot, so that its levels settle
module _ (ms os : List State) (bs : Each (Begins true) ms) (cs : Each (Begins false) os) (p : ℕ)
    (w : Wins (contenders ms) p) where
  winner_leads : (k : ℕ) → k ≤ contest_slots → get_or (leading (after k (ms ++ os))) p false ≡ true
  winner_leads k h =
      ap (λ (bits : List Bool). get_or bits p false) (leading_after ms os bs cs k h)
      ∙ bit_of (contenders ms) (suc k) (length os) p w.within ∙ ap (remains (suc k)) w.unbeaten

  winner_heard : (k : ℕ) → k < contest_slots
      → settles (after k (ms ++ os)) ≡ level_of (contest_slots - suc k) (number_of (get_or (contenders ms) p nobody))
  unfolding after
  winner_heard k h =
      let started : State → State = λ s. step_of s drive_start in
      let within : p < length ms = omega (arith, w.within, length-map ms contender_of) in
      let long : length (fed drive_start (ms ++ os)) ≡ length ms + length os
      = length-map (ms ++ os) started ∙ length-append ms os in
      own_settle k 13 h (omega arith) (fed drive_start (ms ++ os)) (stands_started ms os bs cs) (started reset) p
      (omega arith) (winner_leads (suc k) h)
      ∙ ap (level_of (contest_slots - suc k))
      (ap number (ListN.get_or-map started (ms ++ os) p reset)
      ∙ ap number_of (start_same (get_or (ms ++ os) p reset) ∙ ap contender_of (get_or-append ms os reset p within)
      ∙ sym (get_or_map contender_of ms p reset nobody within)))

pub one_rule : (masters others : List State) → Contending masters others → OneRule masters others
unfolding after levels
one_rule masters others c =
    let cs = contenders masters in
    let long : length cs ≡ length masters = length-map masters contender_of in
    let in-range : length cs ≤ first_out cs = omega (arith, c.in-range) in
    let fair : Fair cs = record { in-range = in-range; unlike = omega (arith, c.unlike) } in
    let ms = masters_begin masters c.take_part in-range in
    let os = others_begin others c.stand_by in
    let leading_at = leading_after masters others ms os in
    let wins = winner_wins cs (omega (arith, c.some)) fair in
    record {
      losses = leading_at;
      winner = λ i.
          ap (λ (bits : List Bool). get_or bits i false) (leading_at contest_slots (omega arith))
          ∙ winner_alone cs (winner_of cs) wins (length others) i;
      before = wins;
      heard = winner_heard masters others ms os (winner_of cs) wins;
      taken = all_taken (masters ++ others);
    }

-- All units of a group, slot by slot: those that lead are those that the contest has remaining.
use mathlib.Core.Bool.{Bool, true, false, not, ◌&&◌, ◌||◌, and-true, or-true}
use mathlib.Core.Logic.{◌⊎◌, inl, inr, ⊎_elim}
use mathlib.Core.Path.{◌≡◌, refl, sym, ap, ap₂, ◌∙◌, subst}
use mathlib.Core.List.{List, [], ◌∷◌, map, map-map}
use Prim.Native.Nat.{ℕ, zero, suc, ◌+◌, ◌-◌, ◌≤◌, ◌<◌, min}
use native.Mathlib.Omega.{arith}
use borrow.Author.Tests.{ltb-false, not-true, lt-ltb, le-ltb, eq-eqb, ne_eqb}
use lib.Dec.{eqb, ltb}
use lib.ListN
use lib.ListN.{get_or, length, length-map}
use Rattle.line.specs.Choice.{pick}
use Rattle.line.specs.Numbers.{last_contest_slot}
use Rattle.line.specs.Parity.{level_of}
use Rattle.line.proofs.Either.{both}
use Rattle.line.proofs.Places.{get_or_map}
use Rattle.contenders.specs.Contest.{loses, loss_of, number_of, remaining, settled}
use Rattle.rules.specs.State.{State}
use Rattle.rules.specs.Step.{next_drive, step_of}
use Rattle.rules.proofs.Calm.{pick_ind, pick_no, pick_yes}
use Rattle.arbitration.specs.Group.{fed, leading, leads, levels, remains, settles}
use Rattle.arbitration.proofs.Slot.{Stands, Steps, drive_number, number, steps}

-- ---- what holds of each unit

abbrev pub Each : (State → Type 0) → List State → Type 0
Each P [] = Unit {0}
Each P (s ∷ ss) = P s × Each P ss

each : {P Q R : State → Type 0} → ((s : State) → P s → Q s → R s) → (ss : List State) → Each P ss → Each Q ss
    → Each R ss
each f [] ps qs = tt
each f (s ∷ ss) ps qs = (f s ps.0 qs.0, each f ss ps.1 qs.1)

pub map_each : {A : Type 0} {P : State → Type 0} (f g : State → A) → ((s : State) → P s → f s ≡ g s)
    → (ss : List State) → Each P ss → map f ss ≡ map g ss
map_each f g e [] ps = refl
map_each f g e (s ∷ ss) ps = ap₂ (λ a l. a ∷ l) (e s ps.0) (map_each f g e ss ps.1)

each_at : (P : State → Type 0) (ss : List State) → Each P ss → (d : State) (i : ℕ) → i < length ss → P (get_or ss i d)
each_at P [] ps d i h = absurd (omega arith)
each_at P (s ∷ ss) ps d zero h = ps.0
each_at P (s ∷ ss) ps d (suc i) h = each_at P ss ps.1 d i (omega arith)

-- ---- the settled level

-- it is a level, and no higher than what each drives
pub settles_le : (ss : List State) → settles ss ≤ 1
unfolding settles
settles_le [] = omega arith
settles_le (s ∷ ss) = omega (arith, settles_le ss)

pub under_each : (w : ℕ) (ss : List State) → w ≤ settles ss → Each (λ (s : State). w ≤ next_drive s) ss
unfolding settles
under_each w [] h = tt
under_each w (s ∷ ss) h = (omega arith, under_each w ss (omega arith))

-- the numbers of those that lead, in their order
unfoldable pub leaders : List State → List ℕ
leaders [] = []
leaders (s ∷ ss) = pick (leads s) (number s ∷ leaders ss) (leaders ss)

settled_le : (n : ℕ) (xs : List ℕ) → settled n xs ≤ 1
unfolding settled
settled_le n [] = omega arith
settled_le n (x ∷ xs) = omega (arith, settled_le n xs)

-- what the units drive settles as the contest says
settles_is : (n : ℕ) → n ≤ 12 → (ss : List State) → Each (Stands (suc n)) ss → settles ss ≡ settled n (leaders ss)
unfolding settles leaders settled
settles_is n h [] ts = refl
settles_is n h (s ∷ ss) ts = go (leads s) (drive_number n s h ts.0) (settles_is n h ss ts.1)
  where
    go : (l : Bool) → next_drive s ≡ pick l (level_of n (number s)) 1 → settles ss ≡ settled n (leaders ss)
        → min (next_drive s) (settles ss) ≡ settled n (pick l (number s ∷ leaders ss) (leaders ss))
    go true e rest = ap₂ min e rest
    go false e rest = omega (arith, settled_le n (leaders ss))

-- a slot of the group
steps_each : (n : ℕ) → n ≤ 12 → (ss : List State) → Each (Stands (suc n)) ss → Each (Steps n (settles ss)) ss
steps_each n h ss ts =
    let under = under_each (settles ss) ss (omega arith) in
    each (λ s t low. steps n s h t (settles ss) (settles_le ss) low) ss ts under

-- those that remain lead on
still : (n w x : ℕ) (l t : Bool) (xs : List ℕ) → loses n w x ≡ t
    → pick (l && not t) (x ∷ remaining n w xs) (remaining n w xs) ≡ remaining n w (pick l (x ∷ xs) xs)
unfolding remaining
still n w x true true xs e = sym (pick_yes (loses n w x) _ _ e)
still n w x true false xs e = sym (pick_no (loses n w x) _ _ e)
still n w x false t xs e = refl

leaders_fed : (n w : ℕ) (ss : List State) → Each (Steps n w) ss → leaders (fed w ss) ≡ remaining n w (leaders ss)
unfolding leaders remaining
leaders_fed n w [] ps = refl
leaders_fed n w (s ∷ ss) ps =
    rw (ps.0.lead, ap number_of ps.0.same, leaders_fed n w ss ps.1)
    (still n w (number s) (leads s) (loses n w (number s)) (leaders ss) refl)

stands_fed : (n w : ℕ) (ss : List State) → Each (Steps n w) ss → Each (Stands n) (fed w ss)
stands_fed n w [] ps = tt
stands_fed n w (s ∷ ss) ps = (ps.0.stands, stands_fed n w ss ps.1)

-- ---- all slots

-- with n slots to come, whoever loses does so in one of them
loss_later : (n : ℕ) → n ≤ 13 → (xs : List ℕ) (x : ℕ)
    → (loss_of n xs x ≡ 0) ⊎ (last_contest_slot - n < loss_of n xs x)
unfolding loss_of
loss_later zero h xs x = inl refl
loss_later (suc n) h xs x =
    pick_ind (λ (lost : ℕ). (lost ≡ 0) ⊎ (last_contest_slot - suc n < lost)) (loses n (settled n xs) x) _ _
    (λ t. inr (omega arith))
    (λ f. ⊎_elim (λ z. inl z) (λ l. inr (omega arith)) (loss_later n (omega arith) (remaining n (settled n xs) xs) x))

-- so it still remains now
remains_now : (n : ℕ) → n ≤ 13 → (xs : List ℕ) (x : ℕ) → remains (last_contest_slot - n) (loss_of n xs x) ≡ true
remains_now n h xs x = go (loss_of n xs x) (loss_later n h xs x)
  where
    go : (lost : ℕ) → (lost ≡ 0) ⊎ (last_contest_slot - n < lost) → remains (last_contest_slot - n) lost ≡ true
    go lost (inl z) = ap (λ (b : Bool). b || ltb (last_contest_slot - n) lost) (eq-eqb lost 0 z)
    go lost (inr l) =
        ap (λ (b : Bool). eqb lost 0 || b) (lt-ltb (last_contest_slot - n) lost l) ∙ or-true (eqb lost 0)

pub gone : (slot lost : ℕ) → 0 < lost → lost ≤ slot → remains slot lost ≡ false
gone slot lost some past = ap₂ ◌||◌ (ne_eqb lost 0 (λ z. omega arith)) (le-ltb slot lost past)

-- the lead that a unit has after k of the n slots to come
abbrev pub Leads : ℕ → ℕ → List ℕ → State → Bool
Leads n k xs s = leads s && remains (last_contest_slot - n + k) (loss_of n xs (number s))

leads_on : (n k : ℕ) → suc n ≤ 13 → (xs : List ℕ) (s : State) → Steps n (settled n xs) s
    → Leads n k (remaining n (settled n xs) xs) (step_of s (settled n xs)) ≡ Leads (suc n) (suc k) xs s
unfolding loss_of
leads_on n k h xs s p =
    rw (p.lead, ap number_of p.same) (go (leads s) (loses n (settled n xs) (number s)) (loss_of n _ (number s)))
  where
    go : (l t : Bool) (later : ℕ)
        → (l && not t && remains (last_contest_slot - n + k) later)
        ≡ (l && remains (last_contest_slot - suc n + suc k) (pick t (last_contest_slot - n) later))
    go true true later = sym (gone _ (last_contest_slot - n) (omega arith) (omega arith))
    go true false later = ap (λ (slot : ℕ). remains slot later) (omega arith)
    go false t later = refl

abbrev pub Leading : ℕ → ℕ → List State → Type 0
Leading k n ss = leading (levels k ss) ≡ map (Leads n k (leaders ss)) ss

pub leading_levels : (k n : ℕ) → k ≤ n → n ≤ 13 → (ss : List State) → Each (Stands n) ss → Leading k n ss
unfolding levels
leading_levels zero n l h ss ts =
    map_each {P = Stands n} leads (Leads n 0 (leaders ss))
    (λ s t. sym (ap (λ (b : Bool). leads s && b)
    (ap (λ (slot : ℕ). remains slot (loss_of n (leaders ss) (number s))) (omega arith)
    ∙ remains_now n h (leaders ss) (number s)) ∙ and-true (leads s))) ss ts
leading_levels (suc k) zero l h ss ts = absurd (omega arith)
leading_levels (suc k) (suc n) l h ss ts =
    let ps = steps_each n (omega arith) ss ts in
    let settled_at = settles_is n (omega arith) ss ts in
    leading_levels k n (omega arith) (omega arith) (fed (settles ss) ss) (stands_fed n (settles ss) ss ps)
    ∙ map-map (Leads n k (leaders (fed (settles ss) ss))) (λ (s : State). step_of s (settles ss)) ss
    ∙ map_each {P = Steps n (settles ss)} _ (Leads (suc n) (suc k) (leaders ss))
    (λ s p. ap (λ (xs : List ℕ). Leads n k xs (step_of s (settles ss))) (leaders_fed n (settles ss) ss ps)
    ∙ subst (λ (w : ℕ). Steps n w s → Leads n k (remaining n w (leaders ss)) (step_of s w)
    ≡ Leads (suc n) (suc k) (leaders ss) s) (sym settled_at) (leads_on n k h (leaders ss) s) p) ss ps

-- ---- whose levels settle

-- a unit that leads on is not overruled: the level is its own
own_settles : (n : ℕ) → n ≤ 12 → (ss : List State) → Each (Stands (suc n)) ss → (d : State) (i : ℕ) → i < length ss
    → leads (step_of (get_or ss i d) (settles ss)) ≡ true → settles ss ≡ level_of n (number (get_or ss i d))
own_settles n h ss ts d i l e =
    let s = get_or ss i d in
    let p = each_at (Steps n (settles ss)) ss (steps_each n h ss ts) d i l in
    let led = both (leads s) _ (sym p.lead ∙ e) in
    let drive = drive_number n s h (each_at (Stands (suc n)) ss ts d i l) ∙ pick_yes (leads s) _ _ led.0 in
    let under = each_at (λ s. settles ss ≤ next_drive s) ss (under_each (settles ss) ss (omega arith)) d i l in
    let over = ltb-false (settles ss) (level_of n (number s)) (not-true _ led.1) in
    omega arith

pub own_settle : (k n : ℕ) → k < n → n ≤ 13 → (ss : List State) → Each (Stands n) ss → (d : State) (i : ℕ)
    → i < length ss → get_or (leading (levels (suc k) ss)) i false ≡ true
    → settles (levels k ss) ≡ level_of (n - suc k) (number (get_or ss i d))
unfolding levels
own_settle k zero lt h ss ts d i l e = absurd (omega arith)
own_settle zero (suc n) lt h ss ts d i l e =
    let w = settles ss in
    let long : length (fed w ss) ≡ length ss = length-map ss (λ (s : State). step_of s w) in
    let last : n ≡ suc n - 1 = omega arith in
    own_settles n (omega arith) ss ts d i l
    (ap leads (sym (ListN.get_or-map (λ (s : State). step_of s w) ss i d))
    ∙ sym (get_or_map leads (fed w ss) i (step_of d w) false (omega arith)) ∙ e)
    ∙ ap (λ (m : ℕ). level_of m (number (get_or ss i d))) last
own_settle (suc k) (suc n) lt h ss ts d i l e =
    let w = settles ss in
    let long : length (fed w ss) ≡ length ss = length-map ss (λ (s : State). step_of s w) in
    let ps = steps_each n (omega arith) ss ts in
    let slot : n - suc k ≡ suc n - suc (suc k) = omega arith in
    own_settle k n (omega arith) (omega arith) (fed w ss) (stands_fed n w ss ps) (step_of d w) i (omega arith) e
    ∙ ap₂ level_of slot
    (ap number (ListN.get_or-map (λ (s : State). step_of s w) ss i d)
    ∙ ap number_of (each_at (Steps n w) ss ps d i l).same)

-- A roll by the numbers of its requests: where one stands, and who has the lowest.
use mathlib.Core.Bool.{false≢true}
use mathlib.Core.List.{List, [], ◌∷◌, ◌++◌, map, map-append}
use mathlib.Core.Logic.{⊎_elim}
use mathlib.Core.Path.{◌≡◌, refl, sym, ap, ap₂, ◌∙◌}
use Prim.Native.Nat.{ℕ, suc, ◌≤◌, ◌<◌}
use native.Mathlib.Omega.{arith}
use borrow.Author.Tests.{eq-eqb, ne_eqb}
use lib.Dec.{eqb}
use lib.ListN.{drop, get_or, length, length-map, take}
use Rattle.std.proofs.lemmas.List.{drop-map, take-map}
use Rattle.line.specs.Places.{first_place}
use Rattle.line.proofs.Either.{below_or_not, either, same_or_not}
use Rattle.line.proofs.First.{first_holds}
use Rattle.line.proofs.Places.{get_or_map}
use Rattle.contenders.specs.Contest.{Ranged, alike, first_out, nobody, number_of, out_of_range, winner_of}
use Rattle.contenders.specs.declared.Contender.{Contender}
use Rattle.contest.specs.Deciding.{Least}
use Rattle.contest.proofs.Places.{alike_same, same_alike}
use Rattle.contest.proofs.Winner.{winner_lowest, winner_within}
use Rattle.rolls.specs.Kept.{request_in, requests_in, roll_in}
use Rattle.rolls.specs.Roll.{Next, place_of, shown_of, without}
use Rattle.rolls.proofs.Bytes.{number_request, request_number, request_ranged, requests_small}
use Rattle.rolls.proofs.Changes.{range_true}
use Rattle.rolls.proofs.Winner.{shown_is}
use Rattle.roll_keeper.specs.Keeping.{Lowest, number_place}

-- numbers of requests
abbrev Small : List ℕ → Type 0
Small ns = (i : ℕ) → i < length ns → get_or ns i 0 < 8192

rest : (n : ℕ) (ns : List ℕ) → Small (n ∷ ns) → Small ns
rest n ns s i h = s (suc i) (omega (arith, h))

-- ---- where a request stands

alike_number : (c : Contender) (x : ℕ) → Ranged c → x < 8192 → alike c (request_in x) ≡ eqb x (number_of c)
alike_number c x r small =
    ⊎_elim
    (λ e. same_alike c (request_in x) (ap request_in e ∙ request_number c r) ∙ sym (eq-eqb x (number_of c) e))
    (λ ne. ⊎_elim
    (λ t. absurd (ne (sym (number_request x small) ∙ ap number_of (alike_same c (request_in x) t))))
    (λ f. f ∙ sym (ne_eqb x (number_of c) ne))
    (either (alike c (request_in x))))
    (same_or_not x (number_of c))

first_alike : (c : Contender) (ns : List ℕ) → Ranged c → Small ns
    → first_place (alike c) (map request_in ns) ≡ number_place (number_of c) ns
unfolding first_place
first_alike c [] r s = refl
first_alike c (n ∷ ns) r s =
    rw (alike_number c n r (s 0 (omega arith)), first_alike c ns r (rest n ns s)) refl

pub number-place : (bytes : List ℕ) (c : Contender) → Ranged c
    → place_of c (roll_in bytes) ≡ number_place (number_of c) (requests_in bytes)
unfolding roll_in
number-place bytes c r = first_alike c (requests_in bytes) r (requests_small bytes)

pub roll_length : (bytes : List ℕ) → length (roll_in bytes) ≡ length (requests_in bytes)
unfolding roll_in
roll_length bytes = simp length-map

-- ---- the numbers of a roll, of one that a request has joined and of one that it has left

numbers_again : (ns : List ℕ) → Small ns → map number_of (map request_in ns) ≡ ns
numbers_again [] s = refl
numbers_again (n ∷ ns) s =
    ap₂ (λ (x : ℕ) (xs : List ℕ). x ∷ xs) (number_request n (s 0 (omega arith))) (numbers_again ns (rest n ns s))

pub numbers_are : (bytes : List ℕ) → map number_of (roll_in bytes) ≡ requests_in bytes
unfolding roll_in
numbers_are bytes = numbers_again (requests_in bytes) (requests_small bytes)

pub numbers_joined : (bytes : List ℕ) (c : Contender)
    → map number_of (roll_in bytes ++ c ∷ []) ≡ requests_in bytes ++ number_of c ∷ []
numbers_joined bytes c =
    map-append number_of (roll_in bytes) (c ∷ []) ∙ ap (λ (l : List ℕ). l ++ number_of c ∷ []) (numbers_are bytes)

pub numbers_left : (bytes : List ℕ) (place : ℕ)
    → map number_of (without place (roll_in bytes)) ≡ without place (requests_in bytes)
numbers_left bytes place =
    map-append number_of (take place (roll_in bytes)) (drop (suc place) (roll_in bytes))
    ∙ ap₂ (λ (x y : List ℕ). x ++ y)
    (sym (take-map number_of place (roll_in bytes)) ∙ ap (take place) (numbers_are bytes))
    (sym (drop-map number_of (suc place) (roll_in bytes)) ∙ ap (drop (suc place)) (numbers_are bytes))

-- ---- who is shown

module _ (bytes : List ℕ) where
  roll_at : (i : ℕ) → i < length (requests_in bytes)
      → get_or (roll_in bytes) i nobody ≡ request_in (get_or (requests_in bytes) i 0)
  unfolding roll_in
  roll_at i h = get_or_map request_in (requests_in bytes) i 0 nobody h

  ranged_at : (i : ℕ) → i < length (roll_in bytes) → Ranged (get_or (roll_in bytes) i nobody)
  ranged_at i h =
      let inside : i < length (requests_in bytes) = omega (arith, h, roll_length bytes) in
      rw (roll_at i inside) (request_ranged (get_or (requests_in bytes) i 0) (requests_small bytes i inside))

  number_at : (i : ℕ) → i < length (requests_in bytes)
      → number_of (get_or (roll_in bytes) i nobody) ≡ get_or (requests_in bytes) i 0
  number_at i h = ap number_of (roll_at i h) ∙ number_request (get_or (requests_in bytes) i 0) (requests_small bytes i h)

  -- any bytes give requests in range
  all_ranged : length (roll_in bytes) ≤ first_out (roll_in bytes)
  all_ranged =
      ⊎_elim
      (λ (h : first_out (roll_in bytes) < length (roll_in bytes)). absurd (false≢true
      (sym (range_true (get_or (roll_in bytes) (first_out (roll_in bytes)) nobody) (ranged_at (first_out (roll_in bytes)) h))
      ∙ first_holds out_of_range (roll_in bytes) nobody h)))
      (λ h. h)
      (below_or_not (first_out (roll_in bytes)) (length (roll_in bytes)))

  least : {n : ℕ} (l : Lowest (requests_in bytes) n) → Least (roll_in bytes) l.place
  least l = record {
    within = omega (arith, l.within, roll_length bytes);
    low = λ i h. let inside : i < length (requests_in bytes) = omega (arith, h, roll_length bytes) in
        omega (arith, number_at l.place l.within, number_at i inside, l.is, l.low i inside);
  }

  pub shown_lowest : {n : ℕ} → Lowest (requests_in bytes) n → shown_of (roll_in bytes) ≡ Next (request_in n)
  shown_lowest {n} l =
      let roll = roll_in bytes in
      let low = least l in
      let won = winner_within roll all_ranged l.place low in
      let number : number_of (get_or roll (winner_of roll) nobody) ≡ n
      = winner_lowest roll all_ranged l.place low ∙ number_at l.place l.within ∙ l.is in
      shown_is roll (omega (arith, won))
      ∙ ap Next (sym (request_number (get_or roll (winner_of roll) nobody) (ranged_at (winner_of roll) won))
      ∙ ap request_in number)

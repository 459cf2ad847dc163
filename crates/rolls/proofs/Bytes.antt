-- The bytes of a roll, place by place, and that they give the roll back.
use mathlib.Core.List.{List, [], ◌∷◌, map}
use mathlib.Core.Path.{◌≡◌, refl, sym, ap, ap₂, ◌∙◌}
use Prim.Native.Nat.{ℕ, zero, suc, ◌+◌, ◌*◌, ◌/◌, ◌%◌, ◌≤◌, ◌<◌}
use native.Mathlib.Omega.{arith}
use lib.ListN.{get_or, length, length-map}
use lib.Seq.{ext_get_or}
use Rattle.line.specs.Numbers.{most_contenders, roll_bytes}
use Rattle.line.proofs.Placed.{placed_at, placed_length}
use Rattle.line.proofs.Places.{get_or_map}
use Rattle.contenders.specs.Contest.{Ranged, nobody, number_of}
use Rattle.contenders.specs.declared.Contender.{Contender}
use Rattle.rolls.specs.Kept.{bytes_of, count_in, pairs, request_at, request_in, requests_in, roll_in}
use Rattle.rolls.proofs.Made.{Good, Made}

-- ---- pairs of bytes

pub pairs_length : (n : ℕ) (xs : List ℕ) → length (pairs n xs) ≡ 2 * n
unfolding pairs
pairs_length zero xs = refl
pairs_length (suc n) [] = omega (arith, pairs_length n [])
pairs_length (suc n) (x ∷ xs) = omega (arith, pairs_length n xs)

-- two places further on
past_pair : (a b : ℕ) (l : List ℕ) (i p : ℕ) → i ≡ p + 2 → get_or (a ∷ b ∷ l) i 0 ≡ get_or l p 0
past_pair a b l i p e = let is : i ≡ suc (suc p) = omega (arith, e) in rw (is) refl

pub pair_low : (n : ℕ) (xs : List ℕ) (p : ℕ) → p < n → get_or (pairs n xs) (2 * p) 0 ≡ get_or xs p 0 % 256
unfolding pairs
pair_low zero xs p h = absurd (omega (arith, h))
pair_low (suc n) [] zero h = refl
pair_low (suc n) (x ∷ xs) zero h = refl
pair_low (suc n) [] (suc p) h =
    past_pair 0 0 (pairs n []) (2 * suc p) (2 * p) (omega arith) ∙ pair_low n [] p (omega (arith, h))
pair_low (suc n) (x ∷ xs) (suc p) h =
    past_pair (x % 256) (x / 256) (pairs n xs) (2 * suc p) (2 * p) (omega arith) ∙ pair_low n xs p (omega (arith, h))

pub pair_high : (n : ℕ) (xs : List ℕ) (p : ℕ) → p < n → get_or (pairs n xs) (2 * p + 1) 0 ≡ get_or xs p 0 / 256
unfolding pairs
pair_high zero xs p h = absurd (omega (arith, h))
pair_high (suc n) [] zero h = refl
pair_high (suc n) (x ∷ xs) zero h = refl
pair_high (suc n) [] (suc p) h =
    past_pair 0 0 (pairs n []) (2 * suc p + 1) (2 * p + 1) (omega arith) ∙ pair_high n [] p (omega (arith, h))
pair_high (suc n) (x ∷ xs) (suc p) h =
    past_pair (x % 256) (x / 256) (pairs n xs) (2 * suc p + 1) (2 * p + 1) (omega arith)
    ∙ pair_high n xs p (omega (arith, h))

-- ---- a request by its number, and back

pub number_small : (c : Contender) → Ranged c → number_of c < 8192
unfolding number_of
number_small c r = omega (arith, r.bit_le, r.address_le)

pub request_number : (c : Contender) → Ranged c → request_in (number_of c) ≡ c
unfolding number_of
request_number c r =
    ap₂ (λ (b a : ℕ). record { bit = b; address = a }) (omega (arith, r.bit_le, r.address_le))
    (omega (arith, r.bit_le, r.address_le))

pub number_request : (n : ℕ) → n < 8192 → number_of (request_in n) ≡ n
unfolding number_of
number_request n h = omega (arith, h)

pub request_ranged : (n : ℕ) → n < 8192 → Ranged (request_in n)
request_ranged n h = record { bit_le = omega (arith, h); address_le = omega (arith, h) }

-- ---- the requests that bytes give, place by place

pub requests_length : (bytes : List ℕ) → length (requests_in bytes) ≡ count_in bytes
requests_length bytes = placed_length (request_at bytes) (count_in bytes)

pub requests_at : (bytes : List ℕ) (i : ℕ) → i < count_in bytes → get_or (requests_in bytes) i 0 ≡ request_at bytes i
requests_at bytes i h = placed_at (request_at bytes) (count_in bytes) i h

pub requests_small : (bytes : List ℕ) (i : ℕ) → i < length (requests_in bytes) → get_or (requests_in bytes) i 0 < 8192
requests_small bytes i h =
    omega (arith, requests_at bytes i (omega (arith, h, requests_length bytes)))

-- ---- the roll that the bytes of one give

numbers_at : (roll : List Contender) (p : ℕ) → p < length roll
    → get_or (map number_of roll) p 0 ≡ number_of (get_or roll p nobody)
numbers_at roll p h = get_or_map number_of roll p nobody 0 h

good_at : (roll : List Contender) → Good roll → (i : ℕ) → i < length roll → Ranged (get_or roll i nobody)
good_at [] g i h = absurd (omega (arith, h))
good_at (c ∷ cs) g zero h = g.0
good_at (c ∷ cs) g (suc i) h = good_at cs g.2 i (omega (arith, h))

-- the place past the count
pub past_count : (count : ℕ) (l : List ℕ) (i p : ℕ) → i ≡ p + 1 → get_or (count ∷ l) i 0 ≡ get_or l p 0
past_count count l i p e = let is : i ≡ suc p = omega (arith, e) in rw (is) refl

count_is : (roll : List Contender) → length roll ≤ most_contenders → count_in (bytes_of roll) ≡ length roll
unfolding bytes_of
count_is roll few = omega (arith, few)

request-at : (roll : List Contender) (p : ℕ) → p < most_contenders → get_or (map number_of roll) p 0 < 8192
    → request_at (bytes_of roll) p ≡ get_or (map number_of roll) p 0
unfolding bytes_of
request-at roll p h small =
    let numbers = map number_of roll in
    let low : get_or (length roll ∷ pairs most_contenders numbers) (2 * p + 1) 0 ≡ get_or numbers p 0 % 256
    = past_count (length roll) (pairs most_contenders numbers) (2 * p + 1) (2 * p) (omega arith)
    ∙ pair_low most_contenders numbers p h in
    let high : get_or (length roll ∷ pairs most_contenders numbers) (2 * p + 2) 0 ≡ get_or numbers p 0 / 256
    = past_count (length roll) (pairs most_contenders numbers) (2 * p + 2) (2 * p + 1) (omega arith)
    ∙ pair_high most_contenders numbers p h in
    omega (arith, low, high, small)

requests_again : (roll : List Contender) → Made roll → requests_in (bytes_of roll) ≡ map number_of roll
requests_again roll m =
    let bytes = bytes_of roll in
    let count : count_in bytes ≡ length roll = count_is roll m.few in
    let many : length (map number_of roll) ≡ length roll = simp length-map in
    ext_get_or 0 (requests_in bytes) (map number_of roll) (requests_length bytes ∙ count ∙ sym many)
    (λ i h. let inside : i < length roll = omega (arith, h, count, requests_length bytes) in
    requests_at bytes i (omega (arith, inside, count))
    ∙ request-at roll i (omega (arith, inside, m.few))
    (omega (arith, numbers_at roll i inside, number_small _ (good_at roll m.good i inside))))

map_again : (roll : List Contender) → Good roll → map request_in (map number_of roll) ≡ roll
map_again [] g = refl
map_again (c ∷ cs) g =
    ap₂ (λ (d : Contender) (ds : List Contender). d ∷ ds) (request_number c g.0) (map_again cs g.2)

pub roll_again : (roll : List Contender) → Made roll → roll_in (bytes_of roll) ≡ roll
unfolding roll_in
roll_again roll m = ap (map request_in) (requests_again roll m) ∙ map_again roll m.good

pub bytes_length : (roll : List Contender) → length (bytes_of roll) ≡ roll_bytes
unfolding bytes_of
bytes_length roll = omega (arith, pairs_length most_contenders (map number_of roll))

-- Document 01, "The contest", and the refusals 12 to 15, the last as ticket 6 has it.
use Rattle.std.specs.Prelude.{Result, Ok, Err, Bool, not, ◌&&◌, ◌≡◌, ◌⊎◌, List, [], ◌∷◌, ◌++◌, map, ℕ, zero, suc, ◌+◌, ◌-◌, ◌*◌, ◌/◌, ◌%◌, ◌≤◌, ◌<◌, min, eqb, leb, ltb, length, drop, get_or, set, replicate}
use Rattle.line.specs.Choice.{pick}
use Rattle.line.specs.Parity.{level_of}
use Rattle.line.specs.Numbers.{contest_slots, highest_address, last_contest_slot, most_contenders}
use Rattle.line.specs.Numbers.{refused_short_list, refused_contender_count, refused_contender_range}
use Rattle.line.specs.Numbers.{refused_contenders_alike}
use Rattle.line.specs.Places.{first_place}
use Rattle.contenders.specs.declared.Contender.{Contender}
use Rattle.contenders.specs.declared.Contenders.{Contenders}
use Rattle.contenders.specs.declared.ContestError.{ContestError}
use Rattle.contenders.specs.declared.Verdict.{Verdict}
use Rattle.contenders.specs.declared.ContestError.TheVariants.{ShortList, WrongCount, OutOfRange, Alike}

-- ---- The contenders: "a lent list of records, each a broadcast bit and an address"

-- what stands where no contender was given
abbrev pub nobody : Contender
nobody = record { bit = 0; address = 0 }

-- the first n elements of a list, with nobody past its end
unfoldable pub first_of : ℕ → List Contender → List Contender
first_of zero cs = []
first_of (suc n) [] = nobody ∷ first_of n []
first_of (suc n) (c ∷ cs) = c ∷ first_of n cs

-- the contenders that a value holds, as many as its count says
unfoldable pub contenders_of : Contenders → List Contender
contenders_of all = first_of all.count all.list

-- a value with a count and nobody given yet
abbrev pub no_contenders : ℕ → Contenders
no_contenders n = record { count = n; list = replicate most_contenders nobody }

-- a value with the contender at a place given; the value as it was where it has no such place
abbrev pub with_contender : Contenders → ℕ → ℕ → ℕ → Contenders
with_contender all place b a =
    pick (ltb place most_contenders)
    (record { count = all.count; list = set all.list place (record { bit = b; address = a }) })
    all

-- ---- What is refused

-- "broadcast bit over 1 or address over FFFH; names the first"
unfoldable pub in_range : Contender → Bool
in_range c = leb c.bit 1 && leb c.address highest_address

abbrev pub out_of_range : Contender → Bool
out_of_range c = not (in_range c)

abbrev pub first_out : List Contender → ℕ
first_out cs = first_place out_of_range cs

-- "two contenders alike in bit and address"
unfoldable pub alike : Contender → Contender → Bool
alike c d = eqb c.bit d.bit && eqb c.address d.address

-- the first place, from one on, of a contender alike to c
abbrev pub first_alike_from : Contender → ℕ → List Contender → ℕ
first_alike_from c from cs = from + first_place (alike c) (drop from cs)

-- "the lowest place whose contender occurs again later", the length where none does
unfoldable pub first_twin : List Contender → ℕ
first_twin [] = 0
first_twin (c ∷ cs) = pick (ltb (first_place (alike c) cs) (length cs)) 0 (first_twin cs + 1)

-- ---- The slots 2 to 14

-- the levels that a contender drives from slot 2 on, read as one number: the broadcast bit, then the twelve of the
-- address
unfoldable pub number_of : Contender → ℕ
number_of c = c.bit * 4096 + c.address

-- the settled level of the slot after which n more come: the lowest that the remaining contenders drive
unfoldable pub settled : ℕ → List ℕ → ℕ
settled n [] = 1
settled n (x ∷ xs) = min (level_of n x) (settled n xs)

-- whoever drives 1 while the settled level is 0 has lost there
abbrev pub loses : ℕ → ℕ → ℕ → Bool
loses n level x = ltb level (level_of n x)

-- who remains after a slot that settled at a level
unfoldable pub remaining : ℕ → ℕ → List ℕ → List ℕ
remaining n level [] = []
remaining n level (x ∷ xs) = pick (loses n level x) (remaining n level xs) (x ∷ remaining n level xs)

-- the slot in which x loses against those that remain, where n slots are still to come; 0 where it loses in none
unfoldable pub loss_of : ℕ → List ℕ → ℕ → ℕ
loss_of zero xs x = 0
loss_of (suc n) xs x =
    pick (loses n (settled n xs) x) (last_contest_slot - n) (loss_of n (remaining n (settled n xs) xs) x)

-- "the slot where each other one lost (2 to 14, start being 1), 0 for the winner"
unfoldable pub losses_of : List Contender → List ℕ
losses_of cs = map (loss_of contest_slots (map number_of cs)) (map number_of cs)

-- the winner's place: the first, and as Winner.antt shows the only one, that has lost in no slot
abbrev pub winner_of : List Contender → ℕ
winner_of cs = first_place (λ lost. eqb lost 0) (losses_of cs)

-- ---- The outcome: the winner's place, or why the contest is refused

abbrev pub Outcome : Type 0
Outcome = Result ℕ ContestError

-- this paper's number of an outcome, 0 where nothing is refused, and the place that it names, 0 where it names none
abbrev pub verdict_of : Outcome → Verdict
verdict_of (Ok p) = record { number = 0; place = p }
verdict_of (Err ShortList) = record { number = refused_short_list; place = 0 }
verdict_of (Err WrongCount) = record { number = refused_contender_count; place = 0 }
verdict_of (Err (OutOfRange p)) = record { number = refused_contender_range; place = p }
verdict_of (Err (Alike p)) = record { number = refused_contenders_alike; place = p }

-- what a contest comes to, "the lowest number wins"
unfoldable pub contest_of : List Contender → List ℕ → Outcome
contest_of cs numbers =
    pick (ltb (length numbers) (length cs)) (Err ShortList)
    (pick (eqb (length cs) 0) (Err WrongCount)
    (pick (ltb most_contenders (length cs)) (Err WrongCount)
    (pick (ltb (first_out cs) (length cs)) (Err (OutOfRange (first_out cs)))
    (pick (ltb (first_twin cs) (length cs)) (Err (Alike (first_twin cs))) (Ok (winner_of cs))))))

-- the number list afterwards: "11 and above write nothing"; places past the contenders keep their contents
unfoldable pub numbers_after : List Contender → List ℕ → Verdict → List ℕ
numbers_after cs numbers v = pick (eqb v.number 0) (losses_of cs ++ drop (length cs) numbers) numbers

-- the whole outcome of a contest over a number list
pub record Contested (cs : List Contender) (numbers : List ℕ) (r : Outcome) (after : List ℕ) : Type 0 where
  pub outcome : r ≡ contest_of cs numbers
  pub written : after ≡ numbers_after cs numbers (verdict_of r)

-- ---- What the places that are named come to

-- a broadcast bit and an address that a master can have
pub record Ranged (c : Contender) : Type 0 where
  pub bit_le : c.bit ≤ 1
  pub address_le : c.address ≤ highest_address

-- c comes before d: a broadcast (0) before an ordinary frame, then the lower address
abbrev pub Before : Contender → Contender → Type 0
Before c d = (c.bit < d.bit) ⊎ ((c.bit ≡ d.bit) × (c.address < d.address))

-- "a broadcast beats an ordinary frame, then the lowest address wins": the contender at a place has lost in no slot,
-- comes before every other one, and each other one has lost in some slot
pub record Wins (cs : List Contender) (place : ℕ) : Type 0 where
  pub within : place < length cs
  pub unbeaten : get_or (losses_of cs) place 0 ≡ 0
  pub before : (i : ℕ) → i < length cs → (i ≡ place → ⊥) → Before (get_or cs place nobody) (get_or cs i nobody)
  pub alone : (i : ℕ) → i < length cs → (i ≡ place → ⊥)
      → (2 ≤ get_or (losses_of cs) i 0) × (get_or (losses_of cs) i 0 ≤ last_contest_slot)

-- the contender at a place occurs again later
pub record OccursAgain (cs : List Contender) (place : ℕ) : Type 0 where
  pub later : ℕ
  pub behind : place < later
  pub later_within : later < length cs
  pub same : get_or cs later nobody ≡ get_or cs place nobody

-- "the lowest place whose contender occurs again later"
pub record LowestAgain (cs : List Contender) (place : ℕ) : Type 0 where
  pub within : place < length cs
  pub again : OccursAgain cs place
  pub lowest : (i : ℕ) → i < place → OccursAgain cs i → ⊥

-- the place beside a verdict's number: the winner's, in a list where nobody occurs twice, or number 15's. Number 14's
-- is `first_out`
pub record NamedRightly (cs : List Contender) (v : Verdict) : Type 0 where
  pub winner : v.number ≡ 0 → Wins cs v.place
  pub unlike : v.number ≡ 0 → (i : ℕ) → OccursAgain cs i → ⊥
  pub twin : v.number ≡ refused_contenders_alike → LowestAgain cs v.place

-- ---- For a host in C, which gets one number and no enum

-- the verdict that it reads off: the refusal's number in the upper half, the place in the lower
abbrev pub word_half : ℕ
word_half = 65536

abbrev pub verdict_in : ℕ → Verdict
verdict_in word = record { number = word / word_half; place = word % word_half }

-- the whole outcome of a contest, told by a number
pub record ContestedWord (cs : List Contender) (numbers : List ℕ) (word : ℕ) (after : List ℕ) : Type 0 where
  pub verdict : verdict_in word ≡ verdict_of (contest_of cs numbers)
  pub written : after ≡ numbers_after cs numbers (verdict_in word)

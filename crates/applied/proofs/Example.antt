-- Demand 3 on two lists that meet its conditions. A unit with a code in MARC, of a request that was aborted, is locked
-- to 525H. Its host offers slave data; the holder reads a byte of it with 3H, breaks off, and takes two more frames of
-- BH to end the lock. In the first list strangers read status and lock, are turned down with every other control while
-- data is offered, broadcast, break off in every field and spoil a parity, in between there are levels, idle slots and
-- stray bits; in the second there is other noise. The claim is then applied at four places. Besides, what `Told.antt`
-- of `rules` says of the status byte, on a desk that reads it and then writes.
use mathlib.Core.Bool.{Bool, true, false, false≢true, not, ◌&&◌}
use mathlib.Core.Logic.{inl}
use mathlib.Core.Path.{◌≡◌, refl, sym, ap, ◌∙◌}
use mathlib.Core.List.{List, [], ◌∷◌, ◌++◌, map}
use Prim.Native.Nat.{ℕ, zero, suc, ◌+◌, ◌*◌, ◌-◌, ◌/◌, ◌%◌, ◌≤◌, ◌<◌}
use native.Mathlib.Omega.{arith}
use borrow.Author.Tests.{not-true}
use lib.ListN.{length, take, get_or}
use Rattle.line.specs.Choice.{bit_of}
use Rattle.line.specs.Numbers.{drive_released}
use Rattle.line.specs.Parity as parity
use Rattle.line.specs.Slot.{Class, slot, stray, host, class_of}
use Rattle.line.specs.declared.slot.Slot.TheVariants.{Level}
use Rattle.place.specs.Drive.{sent_of}
use Rattle.place.specs.declared.Field.TheVariants.{Length}
use Rattle.place.specs.declared.Place.TheVariants.{In}
use Rattle.place.specs.Cases.{field}
use Rattle.line.proofs.Either.{both}
use Rattle.isolation.specs.Words.{count, framed, from_master, keeps, kept, levels, marked, marks, spaced, spells}
use Rattle.isolation.specs.Runs.{Alike, Behind, Compared, Given, Places, Protected, answers, driven, latest, run, shown}
use Rattle.isolation.proofs.Unwind.{shorter}
use Rattle.rules.specs.State.{State, reset}
use Rattle.rules.specs.Step.{next_drive}
use Rattle.rules.specs.Stories.{answered, asks_to_write, broken_off, exchange, header, lock_taken, read, read_out}
use Rattle.rules.specs.Stories.{set_up, to_all, write}
use Rattle.rules.specs.Machine.{observed, unit, waiting}
use Rattle.rules.specs.Opened.{all_rules}
use Rattle.rules.proofs.Protects.{holds}
use Rattle.rules.proofs.Undisturbed.{touches, undisturbed}
use Rattle.rules.proofs.Status.{WriteComes}
use Rattle.rules.proofs.Told.{SendsStatus, byte_driven, desk_served, sends_first}

-- ---- the holder's words, and the host's

-- 3H of two bytes, broken off after the first
abbrev half_read : List ℕ
half_read = header 0x525 0x123 0x3 0 ++ answered 8 2 0 ++ answered 8 0x22 0 ++ 3 ∷ []

abbrev completed : List ℕ
completed = exchange 0x525 0x123 0xB 1 (0x98 ∷ [])

abbrev offers : List ℕ
offers = write 0xE 2 ∷ write 0xE 0x22 ∷ write 0xE 0x33 ∷ write 0x1 0x0B ∷ []

-- ---- strangers' frames, each closed by idle

abbrev turned_down : List ℕ → List ℕ
turned_down [] = []
turned_down (control ∷ cs) = (header 0x111 0x123 control 1 ++ 3 ∷ []) ++ turned_down cs

abbrev broadcast : List ℕ
broadcast = to_all 0x111 0xFFF 0xF 1 ++ answered 8 0x55 1 ++ 3 ∷ []

-- broken off after n slots
abbrev broken : List ℕ → List ℕ
broken [] = []
broken (n ∷ ns) = (take n (exchange 0x111 0x123 0x0 1 (0x95 ∷ [])) ++ 3 ∷ []) ++ broken ns

-- a wrong P after the master address
abbrev spoilt : List ℕ
spoilt = 2 ∷ 1 ∷ parity.levels_of 12 0x111 ++ (1 - parity.parity_of 0x111) ∷ field 12 0x123 ++ 1 ∷ 3 ∷ []

-- ---- the two lists, cut where the claim is applied

-- up to the host's first word, which comes in the middle of a stranger's status read
abbrev first_led : List ℕ
first_led = 1 ∷ 0 ∷ 3 ∷ 0x10 ∷ header 0x111 0x123 0x0 0

-- up to the holder's 3H
abbrev first_before : List ℕ
first_before =
    first_led ++ read 0x8 ∷ answered 8 1 0 ++ answered 8 0x96 0 ++ 3 ∷ exchange 0x111 0x123 0x4 1 (0x25 ∷ [])
    ++ exchange 0x111 0x123 0x5 1 (0x05 ∷ []) ++ read_out ++ offers ++ broadcast
    ++ turned_down (0x3 ∷ 0x6 ∷ 0x7 ∷ 0xA ∷ 0xB ∷ 0xE ∷ 0xF ∷ []) ++ broken (1 ∷ 2 ∷ 8 ∷ 20 ∷ 32 ∷ 40 ∷ 50 ∷ [])

abbrev second_before : List ℕ
second_before = read 0x8 ∷ 3 ∷ 3 ∷ read_out ++ 0x0FFF_FFFF ∷ 1 ∷ broken (13 ∷ []) ++ offers

pub first : List ℕ
first =
    first_before ++ half_read ++ broken_off 0x525 0x123 0xB ++ spoilt ++ 1 ∷ 1 ∷ read_out ++ turned_down (0xA ∷ 0xB ∷ [])
    ++ completed

pub second : List ℕ
second =
    second_before ++ half_read ++ 3 ∷ broken_off 0x525 0x123 0xB ++ 3 ∷ turned_down (0xB ∷ []) ++ read_out ++ broadcast
    ++ completed

-- the unit that both begin with; two starts have aborted its request
abbrev pub begin : State
begin = run unit reset (asks_to_write 0x8F ++ 3 ∷ 2 ∷ 2 ∷ lock_taken)

-- up to and with the word that ends the lock, which the closing idle slot follows
abbrev pub up_to : List ℕ → ℕ
up_to A = length A - 1

-- the first data bit of the holder's 3H: "45 slots" lie before it
abbrev bit_at : List ℕ → ℕ
bit_at before = length before + 45

-- a unit that listens, and a desk that reads its status, up to the slot in which the desk ACKs the length
abbrev asking : State
asking = run unit reset (set_up ++ write 0x0 0x10 ∷ take 44 (exchange 0x525 0x123 0x0 1 (0x90 ∷ [])))

-- the byte, a host that looks at FLG, and FH of that desk up to the P slot of the control
abbrev writing : List ℕ
writing = answered 8 0x90 0 ++ 3 ∷ read 0x1 ∷ take 33 (header 0x525 0x123 0xF 0)

abbrev written : State
written = run unit (unit.step asking 0) writing

-- ---- the conditions, and what comes out

-- from a state and over some words, the comparison goes on: locked before each word, and no request at any time
goes_on : State → List ℕ → Bool
goes_on s [] = not s.core.regs.marq
goes_on s (w ∷ ws) = (s.core.regs.locked && not s.core.regs.marq) && goes_on (unit.step s w) ws

-- all that is computed
record Computed : Type 0 where
  waits : waiting begin
  names : begin.core.regs.holder ≡ 0x525
  spaced_first : spaced false (map class_of first) ≡ true
  spaced_second : spaced false (map class_of second) ≡ true
  same : kept 0x525 first ≡ kept 0x525 second
  goes_first : goes_on begin (take (up_to first) first) ≡ true
  goes_second : goes_on begin (take (up_to second) second) ≡ true
  -- the host's first word comes where 0 is driven in the first list, and 1 in the second
  asked : Places 0x525 first second (length first_led) 0
  told_first : get_or (answers unit begin first) (length first_led) 0 ≡ 0xA000_0037
  told_second : get_or (answers unit begin second) 0 0 ≡ 0xA000_0137
  -- slave data is offered
  offering : Behind 0x525 first second (length first_before) (length second_before)
  standing : (run unit begin (take (length first_before) first)).core.regs.strq ≡ true
  offered : observed (run unit begin (take (length first_before) first))
      ≡ record { tbf = 0x02 ∷ 0x22 ∷ 0x33 ∷ []; rbf = []; locked = true; holder = 0x525; marc = 3; slrc = 7 }
  -- the holder reads a 0, the first bit of 22H
  reading : Places 0x525 first second (bit_at first_before) (bit_at second_before)
  a_level : class_of (get_or first (bit_at first_before) 0) ≡ slot (Level false)
  low : driven drive_released (take (bit_at first_before) (answers unit begin first)) ≡ 0
  -- the holder's last reception is whole, and the lock has ended
  ending : Behind 0x525 first second (up_to first) (up_to second)
  ended : observed (run unit begin (take (up_to first) first))
      ≡ record { tbf = []; rbf = 0x52 ∷ 0x5B ∷ 0x01 ∷ 0x98 ∷ []; locked = false; holder = 0; marc = 3; slrc = 6 }
  -- the desk that reads the status and then writes
  asks : SendsStatus asking (In Length 9)
  tells : (unit.step asking 0).core.frame.byte ≡ 0x90
  free : undisturbed (unit.step asking 0) writing ≡ true
  writes : WriteComes written false
  individual : written.core.frame.broadcast ≡ false

computed : Computed
unfolding goes_on undisturbed touches first second framed from_master levels spells marks marked keeps kept spaced count
    driven latest all_rules
computed =
    record {
      waits = refl;
      names = refl;
      spaced_first = refl;
      spaced_second = refl;
      same = refl;
      goes_first = refl;
      goes_second = refl;
      asked = record { first = refl; second = refl; behind = refl };
      told_first = refl;
      told_second = refl;
      offering = refl;
      standing = refl;
      offered = refl;
      reading = record { first = refl; second = refl; behind = refl };
      a_level = refl;
      low = refl;
      ending = refl;
      ended = refl;
      asks = record { place = refl; slave = refl; sends = refl; asked = inl refl };
      tells = refl;
      free = refl;
      writes = record { at_p = refl; slave = refl; writes = refl; sound = refl; let_in = inl refl };
      individual = refl;
    }

pub given : Given unit 0x525 begin first second
given =
    record {
      waits = computed.waits;
      names = computed.names;
      spaced_first = computed.spaced_first;
      spaced_second = computed.spaced_second;
      same = computed.same;
    }

-- what it says of the first word, and of the others
first_free : (s : State) (w : ℕ) (ws : List ℕ) → goes_on s (w ∷ ws) ≡ true
    → (s.core.regs.locked && not s.core.regs.marq) ≡ true
unfolding goes_on
first_free s w ws e = (both (s.core.regs.locked && not s.core.regs.marq) _ e).0

later_on : (s : State) (w : ℕ) (ws : List ℕ) → goes_on s (w ∷ ws) ≡ true → goes_on (unit.step s w) ws ≡ true
unfolding goes_on
later_on s w ws e = (both (s.core.regs.locked && not s.core.regs.marq) _ e).1

goes_held : (s : State) (A : List ℕ) (i k : ℕ) → goes_on s (take i A) ≡ true → i ≤ length A → k < i
    → (run unit s (take k A)).core.regs.locked ≡ true
unfolding run
goes_held s A zero k e n l = absurd (omega arith)
goes_held s [] (suc i) k e n l = absurd (omega arith)
goes_held s (w ∷ A) (suc i) zero e n l = (both s.core.regs.locked _ (first_free s w (take i A) e)).0
goes_held s (w ∷ A) (suc i) (suc k) e n l =
    goes_held (unit.step s w) A i k (later_on s w (take i A) e) (omega arith) (omega arith)

goes_unasked : (s : State) (A : List ℕ) (i k : ℕ) → goes_on s (take i A) ≡ true → i ≤ length A → k ≤ i
    → (run unit s (take k A)).core.regs.marq ≡ false
unfolding goes_on run
goes_unasked s A zero zero e n l = not-true s.core.regs.marq e
goes_unasked s A zero (suc k) e n l = absurd (omega arith)
goes_unasked s [] (suc i) k e n l = absurd (omega arith)
goes_unasked s (w ∷ A) (suc i) zero e n l =
    not-true s.core.regs.marq (both s.core.regs.locked _ (first_free s w (take i A) e)).1
goes_unasked s (w ∷ A) (suc i) (suc k) e n l =
    goes_unasked (unit.step s w) A i k (later_on s w (take i A) e) (omega arith) (omega arith)

compared : (A : List ℕ) → goes_on begin (take (up_to A) A) ≡ true → Compared unit begin A (up_to A)
compared A e =
    record {
      held = λ k l. goes_held begin A (up_to A) k e (omega arith) l;
      unasked = λ k l. goes_unasked begin A (up_to A) k e (omega arith) l;
    }

-- the places lie in the lists
room : (bit_at first_before < up_to first) × (bit_at second_before < up_to second) × (length first_led < up_to first)
unfolding first second parity.levels_of
room = (omega arith, omega arith, omega arith)

-- ---- the claim, applied

alike : Alike unit 0x525 begin first second
unfolding Protected
alike = holds 0x525 begin first second given

compared_first : (i : ℕ) → i ≤ up_to first → Compared unit begin first i
compared_first i l =
    shorter unit begin first (up_to first) i l (compared first computed.goes_first)

compared_second : (j : ℕ) → j ≤ up_to second → Compared unit begin second j
compared_second j l =
    shorter unit begin second (up_to second) j l (compared second computed.goes_second)

-- the host is answered alike, but for the drive bits
pub told_alike : shown (class_of (get_or first (length first_led) 0)) (get_or (answers unit begin first) (length first_led) 0)
    ≡ shown (class_of (get_or second 0 0)) (get_or (answers unit begin second) 0 0)
told_alike =
    alike.replies (length first_led) 0 computed.asked
    (compared_first (suc (length first_led)) (omega (arith, room.2))) (compared_second 1 (omega (arith, room.1)))

-- while data is offered TBF is seen alike, and a code in MARC
pub offered_alike : observed (run unit begin (take (length first_before) first))
    ≡ observed (run unit begin (take (length second_before) second))
offered_alike =
    alike.states (length first_before) (length second_before) computed.offering
    (compared_first (length first_before) (omega (arith, room.0)))
    (compared_second (length second_before) (omega (arith, room.1)))

-- the slot of the holder's bit is answered alike
bit_first : Compared unit begin first (suc (bit_at first_before))
bit_first = compared_first (suc (bit_at first_before)) (omega (arith, room.0))

bit_second : Compared unit begin second (suc (bit_at second_before))
bit_second = compared_second (suc (bit_at second_before)) (omega (arith, room.1))

pub slot_alike : shown (class_of (get_or first (bit_at first_before) 0))
    (get_or (answers unit begin first) (bit_at first_before) 0)
    ≡ shown (class_of (get_or second (bit_at second_before) 0))
    (get_or (answers unit begin second) (bit_at second_before) 0)
slot_alike = alike.replies (bit_at first_before) (bit_at second_before) computed.reading bit_first bit_second

-- and what is driven in it in the second list is the 0 that is computed for the first
is_host : Class → Bool
is_host (slot c) = false
is_host stray = false
is_host host = true

pub low_alike : driven drive_released (take (bit_at second_before) (answers unit begin second)) ≡ 0
unfolding is_host
low_alike =
    sym (alike.slots (bit_at first_before) (bit_at second_before) computed.reading bit_first bit_second
    (λ e. false≢true (ap is_host (sym computed.a_level ∙ e)))) ∙ computed.low

-- the states after the word that ends the lock are seen alike
pub ended_alike : observed (run unit begin (take (up_to first) first))
    ≡ observed (run unit begin (take (up_to second) second))
ended_alike =
    alike.states (up_to first) (up_to second) computed.ending (compared_first (up_to first) (omega arith))
    (compared_second (up_to second) (omega arith))

-- ---- the status byte, applied

-- 90H is told, of which the first bit is driven, and the write is given ACK
pub write_served : ((unit.step asking 0).core.frame.byte ≡ 0x90) × (next_drive (unit.step asking 0) ≡ 1)
    × (unit.answer written 0 ≡ 0x8000_0000)
unfolding sent_of parity.level_of
write_served = (
  computed.tells,
  byte_driven (unit.step asking 0) 0 (sends_first asking computed.asks)
      ∙ ap (λ (byte : ℕ). bit_of (sent_of 8 byte 0)) computed.tells,
  desk_served asking computed.asks writing false computed.free computed.writes computed.individual
      ∙ ap (λ (byte : ℕ). 0x8000_0000 + byte / 2 % 2 * 256) computed.tells,
)

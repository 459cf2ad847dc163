-- Small machines that let something of a stranger's through, each at one point: none of them protects the holder. So no
-- conclusion of the claim can be dropped, no condition made unmeetable, and the comparison not ended too early, but a
-- law here fails.
use mathlib.Core.Bool.{Bool, true, false, false≢true, not, ◌&&◌, ◌||◌}
use mathlib.Core.Path.{◌≡◌, refl, sym, ap}
use mathlib.Core.List.{List, [], ◌∷◌, map}
use Prim.Native.Nat.{ℕ, zero, suc, ◌+◌, ◌%◌, ◌<◌}
use native.Mathlib.Omega.{arith}
use lib.Dec.{eqb}
use lib.ListN.{take}
use Rattle.line.specs.Choice.{pick, bit_of}
use Rattle.line.specs.Slot.{Class, slot, stray, host, class_of, slot_of}
use Rattle.line.specs.declared.slot.Slot.TheVariants.{Level, Start, Idle}
use Rattle.isolation.specs.Words.{levels, spells, from_master, framed, marks, spaced, marked, count, keeps, kept}
use Rattle.isolation.specs.Runs.{Machine, Protected, Given, Compared}
use Rattle.isolation.specs.Runs.{run, answers, shown, driven, latest}

-- ---- lists

-- a host word
abbrev pub call : List ℕ
call = 0x2000_0000 ∷ []

-- a frame of the holder's, whose address is 000H, and the frame of another that has its first eleven bits, 001H
abbrev pub frame : List ℕ
frame = 2 ∷ 1 ∷ 0 ∷ 0 ∷ 0 ∷ 0 ∷ 0 ∷ 0 ∷ 0 ∷ 0 ∷ 0 ∷ 0 ∷ 0 ∷ 0 ∷ 3 ∷ []

abbrev neighbours : List ℕ
neighbours = 2 ∷ 1 ∷ 0 ∷ 0 ∷ 0 ∷ 0 ∷ 0 ∷ 0 ∷ 0 ∷ 0 ∷ 0 ∷ 0 ∷ 0 ∷ 1 ∷ 3 ∷ []

-- ---- a machine that has heard things

-- a level, a host word, and a level after a host word
pub record Heard : Type 0 where
  pub level : Bool
  pub called : Bool
  pub late : Bool

abbrev fresh : Heard
fresh = record { level = false; called = false; late = false }

abbrev hears : Class → Heard → Heard
hears (slot (Level b)) s = record { level = true; called = s.called; late = s.called }
hears (slot Start) s = s
hears (slot Idle) s = s
hears stray s = s
hears host s = record { level = s.level; called = true; late = s.late }

-- what it shows of that, what it answers, how long it is locked, and to whom; it waits at all times
abbrev leaky : {O : Type 0} → (Heard → O) → (Class → Heard → ℕ) → (Heard → Bool) → (Heard → ℕ) → Machine
leaky {O} shows says locked names =
    record {
      State = Heard;
      step = λ s w. hears (class_of w) s;
      answer = λ s w. says (class_of w) s;
      Observed = O;
      observed = shows;
      waiting = λ s. s ≡ s;
      locked = locked;
      holder = names;
      requesting = λ s. false;
    }

-- what shows nothing, and the lock that never ends
abbrev blind : Heard → Unit {0}
blind s = tt

abbrev mute : Class → Heard → ℕ
mute c s = 0x8000_0100

abbrev always : Heard → Bool
always s = true

abbrev to0 : Heard → ℕ
to0 s = 0

-- the lock that a host word ends
abbrev uncalled : Heard → Bool
uncalled s = not s.called

-- ---- two lists of which the second has a level more, before all frames

module _ {O : Type 0} (shows : Heard → O) (says : Class → Heard → ℕ) where
  met : (locked : Heard → Bool) (ws : List ℕ) → spaced false (map class_of ws) ≡ true
      → Given (leaky shows says locked to0) 0 fresh ws (0 ∷ ws)
  unfolding spaced keeps kept marked marks class_of slot_of
  met locked ws g = record { waits = refl; names = refl; spaced_first = g; spaced_second = g; same = refl }

  -- with the lock that never ends they are compared as far as they go
  throughout : (A : List ℕ) (i : ℕ) → Compared (leaky shows says always to0) fresh A i
  throughout A i = record { held = λ k m. refl; unasked = λ k m. refl }

  -- with the lock that a host word ends, up to and with that word
  up_to : Compared (leaky shows says uncalled to0) fresh call 1
  unfolding run
  up_to = record { held = λ k m. go k (omega arith); unasked = λ k m. refl }
    where
      go : (k : ℕ) → k < 1 → not (run (leaky shows says uncalled to0) fresh (take k call)).called ≡ true
      go zero m = refl
      go (suc k) m = absurd (omega arith)

  up_to_too : Compared (leaky shows says uncalled to0) fresh (0 ∷ call) 2
  unfolding run class_of slot_of
  up_to_too = record { held = λ k m. go k (omega arith); unasked = λ k m. refl }
    where
      go : (k : ℕ) → k < 2 → not (run (leaky shows says uncalled to0) fresh (take k (0 ∷ call))).called ≡ true
      go zero m = refl
      go (suc zero) m = refl
      go (suc (suc k)) m = absurd (omega arith)

-- ---- what is compared while the lock lasts

-- the state: whether a level came
abbrev after_level : Heard → Bool
after_level s = s.level

pub state_leaks : Protected (leaky after_level mute always to0) → ⊥
unfolding Protected run spaced count keeps marks class_of slot_of
state_leaks p =
    false≢true ((p 0 fresh [] (0 ∷ []) (met after_level mute always [] refl)).states 0 1 refl
    (throughout after_level mute [] 0) (throughout after_level mute (0 ∷ []) 1))

-- what a host word is answered, outside of the drive bits
abbrev tells : Class → Heard → ℕ
tells (slot c) s = 0x8000_0100
tells stray s = 0x8000_0100
tells host s = 0xA000_0100 + bit_of s.level

odd : ℕ → Bool
odd n = eqb (n % 2) 1

pub host_leaks : Protected (leaky blind tells always to0) → ⊥
unfolding Protected run answers spaced count keeps marks class_of slot_of shown odd
host_leaks p =
    false≢true (ap odd ((p 0 fresh call (0 ∷ call) (met blind tells always call refl)).replies 0 1
    record { first = refl; second = refl; behind = refl } (throughout blind tells call 1)
    (throughout blind tells (0 ∷ call) 2)))

-- what a slot in a frame of the holder's is answered
abbrev starts : Class → Heard → ℕ
starts (slot Start) s = 0x8000_0000 + bit_of s.level
starts (slot (Level b)) s = 0x8000_0100
starts (slot Idle) s = 0x8000_0100
starts stray s = 0x8000_0100
starts host s = 0x9000_0100

pub slot_leaks : Protected (leaky blind starts always to0) → ⊥
unfolding Protected run answers spaced count keeps marks framed from_master levels spells class_of slot_of shown odd
slot_leaks p =
    false≢true (ap odd ((p 0 fresh frame (0 ∷ frame) (met blind starts always frame refl)).replies 0 1
    record { first = refl; second = refl; behind = refl } (throughout blind starts frame 1)
    (throughout blind starts (0 ∷ frame) 2)))

-- what is driven in such a slot
abbrev pulls : Class → Heard → ℕ
pulls (slot (Level b)) s = 0x8000_0000
pulls (slot Start) s = 0x8000_0100
pulls (slot Idle) s = 0x8000_0100
pulls stray s = 0x8000_0100
pulls host s = 0x9000_0100

abbrev pub is_start : Class → Bool
is_start (slot (Level b)) = false
is_start (slot Start) = true
is_start (slot Idle) = false
is_start stray = false
is_start host = false

pub drive_leaks : Protected (leaky blind pulls always to0) → ⊥
unfolding Protected run answers spaced count keeps marks framed from_master levels spells class_of slot_of driven latest
drive_leaks p =
    false≢true (sym (ap (eqb 1) ((p 0 fresh frame (0 ∷ frame) (met blind pulls always frame refl)).slots 0 1
    record { first = refl; second = refl; behind = refl } (throughout blind pulls frame 1)
    (throughout blind pulls (0 ∷ frame) 2) (λ e. false≢true (sym (ap is_start e))))))

-- ---- how far it is compared: "up to and with that word"

-- the state after the word that ends the lock
abbrev after_end : Heard → Bool
after_end s = s.level && s.called

pub end_leaks : Protected (leaky after_end mute uncalled to0) → ⊥
unfolding Protected run spaced count keeps marks class_of slot_of
end_leaks p =
    false≢true ((p 0 fresh call (0 ∷ call) (met after_end mute uncalled call refl)).states 1 2 refl
    (up_to after_end mute) (up_to_too after_end mute))

-- what that word is answered
pub last_leaks : Protected (leaky blind tells uncalled to0) → ⊥
unfolding Protected run answers spaced count keeps marks class_of slot_of shown odd
last_leaks p =
    false≢true (ap odd ((p 0 fresh call (0 ∷ call) (met blind tells uncalled call refl)).replies 0 1
    record { first = refl; second = refl; behind = refl } (up_to blind tells) (up_to_too blind tells)))

-- "until the lock ends", and not until it names another: here a host word hands it on, and only then a level is seen
pub moved_leaks : Protected (leaky (λ s. s.late) mute always (λ s. bit_of s.called)) → ⊥
unfolding Protected run spaced count keeps kept marked marks class_of slot_of
moved_leaks p =
    false≢true ((p 0 fresh call (0x2000_0000 ∷ 0 ∷ [])
    record { waits = refl; names = refl; spaced_first = refl; spaced_second = refl; same = refl }).states 1 2 refl
    record { held = λ k m. refl; unasked = λ k m. refl } record { held = λ k m. refl; unasked = λ k m. refl })

-- ---- whose frame it is

-- a machine that takes 001H for its holder, 000H: it looks at eleven address bits. Its state: the slots of a frame so
-- far, as long as these bits are 0, and whether a frame's twelfth bit was 1 behind them
pub record Near : Type 0 where
  pub slots : ℕ
  pub taken : Bool

abbrev nears : Class → Near → Near
nears (slot (Level b)) s =
    record {
      slots = pick (eqb s.slots 1 || not b && not (eqb s.slots 0)) (s.slots + 1) 0;
      taken = s.taken || b && eqb s.slots 13;
    }
nears (slot Start) s = record { slots = 1; taken = s.taken }
nears (slot Idle) s = record { slots = 0; taken = s.taken }
nears stray s = s
nears host s = s

abbrev near : Machine
near =
    record {
      State = Near;
      step = λ s w. nears (class_of w) s;
      answer = λ s w. 0x8000_0100;
      Observed = Bool;
      observed = λ s. s.taken;
      waiting = λ s. s.slots ≡ 0;
      locked = λ s. true;
      holder = λ s. 0;
      requesting = λ s. false;
    }

pub near_leaks : Protected near → ⊥
unfolding Protected run spaced count keeps kept marked marks framed from_master levels spells class_of slot_of
near_leaks p =
    false≢true ((p 0 record { slots = 0; taken = false } [] neighbours
    record { waits = refl; names = refl; spaced_first = refl; spaced_second = refl; same = refl }).states 0 15 refl
    record { held = λ k l. refl; unasked = λ k l. refl } record { held = λ k l. refl; unasked = λ k l. refl })

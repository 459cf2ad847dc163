-- A smallest machine that meets the conditions: it drives 0 inside every frame, and a host word's answer shows what it
-- drives. So the conditions can be met; and three things must be left out of the claim, or it would be false of this
-- machine: a host word's drive bits, what is driven when a host word comes, and a beginning inside a frame.
use mathlib.Core.Bool.{Bool, true, false, false≢true}
use mathlib.Core.Path.{◌≡◌, refl, sym, ap, ◌∙◌}
use mathlib.Core.List.{List, ◌∷◌, map}
use Prim.Native.Nat.{ℕ, suc, ◌+◌, ◌*◌}
use lib.Dec.{eqb}
use lib.ListN.{take}
use Rattle.line.specs.Numbers.{drive_released}
use Rattle.line.specs.Slot.{Class, slot, stray, host, class_of, slot_of}
use Rattle.line.specs.declared.slot.Slot.TheVariants.{Level, Start, Idle}
use Rattle.isolation.specs.Words.{levels, spells, from_master, framed, marks, spaced, marked, count, keeps, kept}
use Rattle.isolation.specs.Runs.{Machine, Places, Protected, Alike, Given, Compared}
use Rattle.isolation.specs.Runs.{answers, driven, latest, shown}
use Rattle.isolation.proofs.Leaks.{call, frame, is_start}
use Rattle.isolation.proofs.Unwind.{protected}
use Rattle.isolation.proofs.Unwinding.{Unwinding}

-- the state: whether the line is free
abbrev next_as : Class → Bool → Bool
next_as (slot (Level b)) free = free
next_as (slot Start) free = false
next_as (slot Idle) free = true
next_as stray free = free
next_as host free = free

-- an answer with a kind and what is driven
abbrev driving : Bool → ℕ → ℕ
driving true kind = kind * 0x1000_0000 + 0x100
driving false kind = kind * 0x1000_0000

abbrev said_as : Class → Bool → ℕ
said_as (slot (Level b)) free = driving free 8
said_as (slot Start) free = driving false 8
said_as (slot Idle) free = driving true 8
said_as stray free = 0xF000_0002
said_as host free = driving free 9

abbrev pub smallest : Machine
smallest =
    record {
      State = Bool;
      step = λ s w. next_as (class_of w) s;
      answer = λ s w. said_as (class_of w) s;
      Observed = Unit {0};
      observed = λ s. tt;
      waiting = λ s. s ≡ true;
      locked = λ s. true;
      holder = λ s. 0;
      requesting = λ s. false;
    }

-- what a host word's answer shows does not tell what is driven
host_shown : (s t : Bool) → shown host (driving s 9) ≡ shown host (driving t 9)
unfolding shown
host_shown true true = refl
host_shown true false = refl
host_shown false true = refl
host_shown false false = refl

module _ (s : Bool) (w : ℕ) where
  next : (k : Class) → class_of w ≡ k → next_as (class_of w) s ≡ next_as k s
  next k r = ap (λ (c : Class). next_as c s) r

  says : (d : ℕ) (k : Class) → class_of w ≡ k → latest d (said_as (class_of w) s) ≡ latest d (said_as k s)
  says d k r = ap (λ (c : Class). latest d (said_as c s)) r

  -- what a word is answered while the line is free
  free_says : (k : Class) → class_of w ≡ k → s ≡ true → latest 1 (said_as (class_of w) s) ≡ latest 1 (said_as k true)
  free_says k r e = says 1 k r ∙ ap (λ (t : Bool). latest 1 (said_as k t)) e

pub met : (h : ℕ) → Unwinding smallest h
unfolding latest
met h =
    record {
      Kept = Unit {0};
      keep = λ s. tt;
      sees = λ s t e. refl;
      asks = λ s t e. refl;
      calm = λ s bs. Unit {0};
      bound = λ s. 0 ≡ h;
      bound_waiting = λ s e o. o;
      bound_word = λ s w o l. o;
      bound_names = λ s o l. o;
      on_stray = λ s w r. (next s w stray r, λ d. says s w d stray r);
      on-idle = λ s w r. (next s w (slot Idle) r, λ q d. says s w d (slot Idle) r);
      wait_level = λ s w b r e q. (next s w (slot (Level b)) r ∙ e, refl, free_says s w (slot (Level b)) r e);
      wait_idle = λ s w r e. refl;
      wait_host = λ s w r e. (next s w host r ∙ e, λ q. free_says s w host r e);
      calm_start = λ s w bs r e q x. (tt, refl);
      calm_level = λ s w b bs r x l o q. (tt, refl);
      calm_idle = λ s w r x l o q. refl;
      calm_host = λ s w bs r x. tt;
      host_same = λ s t w r e. (
        refl,
        ap (λ (c : Class). shown host (said_as c s)) r ∙ host_shown s t
            ∙ sym (ap (λ (c : Class). shown host (said_as c t)) r),
      );
      start_same = λ s t w r e f k q. (
        next s w (slot Start) r ∙ sym (next t w (slot Start) r),
        ap (λ (c : Class). said_as c s) r ∙ sym (ap (λ (c : Class). said_as c t) r),
        λ d n. says s w d (slot Start) r ∙ sym (says s w n (slot Start) r),
      );
    }

-- so its holder is protected
pub smallest_protected : Protected smallest
smallest_protected = protected smallest met

-- ---- what the claim leaves out

compared : (s : Bool) (A : List ℕ) (i : ℕ) → Compared smallest s A i
compared s A i = record { held = λ k l. refl; unasked = λ k l. refl }

-- what is driven when a host word comes: here it comes in a frame of another's, and in no frame
pub host_slots_differ : ((A B : List ℕ) → Given smallest 0 true A B → (i j : ℕ) → Places 0 A B i j
    → Compared smallest true A (suc i) → Compared smallest true B (suc j)
    → driven drive_released (take i (answers smallest true A)) ≡ driven drive_released (take j (answers smallest true B)))
    → ⊥
unfolding spaced count keeps kept marked marks framed from_master levels spells class_of slot_of answers driven latest
host_slots_differ claim =
    false≢true (ap (eqb 1) (claim (2 ∷ call) call
    record { waits = refl; names = refl; spaced_first = refl; spaced_second = refl; same = refl } 1 0
    record { first = refl; second = refl; behind = refl } (compared true (2 ∷ call) 2) (compared true call 1)))

-- a beginning inside a frame, at which the line is pulled: nothing is driven yet, and 0 is once a level was answered
pub inside_differs : ((s : Bool) (A B : List ℕ) → spaced false (map class_of A) ≡ true
    → spaced false (map class_of B) ≡ true → kept 0 A ≡ kept 0 B → Alike smallest 0 s A B)
    → ⊥
unfolding spaced count keeps kept marked marks framed from_master levels spells class_of slot_of answers driven latest
inside_differs claim =
    false≢true (sym (ap (eqb 1) ((claim false frame (0 ∷ frame) refl refl refl).slots 0 1
    record { first = refl; second = refl; behind = refl } (compared false frame 1) (compared false (0 ∷ frame) 2)
    (λ e. false≢true (sym (ap is_start e))))))

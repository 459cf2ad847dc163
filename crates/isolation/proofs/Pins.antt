-- What the definitions of the claim carry, each told a second time and in another way: all bits of an answer but a host
-- word's drive bits, both bits of what is driven, and of whose frame it is every address level. The machines that leak
-- show it at single values; these laws at all of them.
use mathlib.Core.Bool.{Bool, true, false, false≢true}
use mathlib.Core.Path.{◌≡◌, refl, sym, ap, ap₂, ◌∙◌}
use mathlib.Core.List.{List, [], ◌∷◌, ◌++◌, map}
use Prim.Native.Nat.{ℕ, zero, suc, ◌+◌, ◌*◌, ◌/◌, ◌%◌}
use native.Mathlib.Omega.{arith}
use borrow.Author.Tests.{eq-eqb, eqb-true, ne_eqb}
use lib.ListN.{take, drop}
use Rattle.line.specs.Choice.{bit_of}
use Rattle.std.specs.Prelude.{Some, None}
use Rattle.std.specs.declared.option.Option.{Option}
use Rattle.line.specs.Numbers.{kind_refused}
use Rattle.line.specs.Slot.{slot, stray, host, class_in, class_of, kind_of, slot_of}
use Rattle.line.specs.declared.slot.Slot.{Slot}
use Rattle.isolation.specs.Words.{framed, from_master, keeps, kept, levels, marked, marks, spaced, spells}
use Rattle.isolation.specs.Runs.{driven, latest, shown}

-- ---- what is compared of an answer

-- all of it; of a host word's all but the drive bits
pub shown_slot : (c : Option Slot) (a b : ℕ) → shown (class_in c) a ≡ shown (class_in c) b → a ≡ b
unfolding shown
shown_slot (Some c) a b e = e
shown_slot None a b e = e

pub shown_host : (a b : ℕ) → shown host a ≡ shown host b → (a / 0x400 ≡ b / 0x400) × (a % 0x100 ≡ b % 0x100)
unfolding shown
shown_host a b e = (omega arith, omega arith)

-- what is driven: both drive bits of the latest answer that is no refusal
pub latest_told : (d a : ℕ) → (kind_of a ≡ kind_refused → ⊥) → latest d a ≡ a / 0x100 % 4
unfolding latest
latest_told d a n = rw (ne_eqb (kind_of a) kind_refused n) refl

pub latest_refused : (d a : ℕ) → kind_of a ≡ kind_refused → latest d a ≡ d
unfolding latest
latest_refused d a e = rw (eq-eqb (kind_of a) kind_refused e) refl

pub driven_last : (d a : ℕ) (l : List ℕ) → driven d (l ++ a ∷ []) ≡ latest (driven d l) a
unfolding driven
driven_last d a [] = refl
driven_last d a (b ∷ l) = driven_last (latest d b) a l

-- ---- whose frame it is, of any master

-- frames that are taken for h's have the same twelve levels behind the first: no other master's is kept with them
same_bits : (h n x y : ℕ) (bs cs : List Bool) → spells h n x bs ≡ true → spells h n y cs ≡ true
    → (x ≡ y) × (take n bs ≡ take n cs)
unfolding spells
same_bits h zero x y bs cs e f = (sym (eqb-true h x e) ∙ eqb-true h y f, refl)
same_bits h (suc n) x y [] cs e f = absurd (false≢true e)
same_bits h (suc n) x y (b ∷ bs) [] e f = absurd (false≢true f)
same_bits h (suc n) x y (b ∷ bs) (c ∷ cs) e f =
    let r = same_bits h n (x * 2 + bit_of b) (y * 2 + bit_of c) bs cs e f in
    let p = same_bit x y b c r.0 in
    (p.0, ap₂ (λ (a : Bool) (l : List Bool). a ∷ l) p.1 r.1)
  where
    same_bit : (x y : ℕ) (b c : Bool) → x * 2 + bit_of b ≡ y * 2 + bit_of c → (x ≡ y) × (b ≡ c)
    same_bit x y true true e = (omega arith, refl)
    same_bit x y false false e = (omega arith, refl)
    same_bit x y true false e = absurd (omega arith)
    same_bit x y false true e = absurd (omega arith)

pub one_address : (h : ℕ) (bs cs : List Bool) → from_master h bs ≡ true → from_master h cs ≡ true
    → take 12 (drop 1 bs) ≡ take 12 (drop 1 cs)
unfolding from_master
one_address h bs cs e f = (same_bits h 12 0 0 (drop 1 bs) (drop 1 cs) e f).1

-- ---- which words are kept, of any list

-- levels as words, and the words of a frame with these levels, its start and its closing idle slot among them
abbrev words : List Bool → List ℕ
words bs = map bit_of bs

abbrev frame_of : List Bool → List ℕ
frame_of bs = 2 ∷ words bs ++ 3 ∷ []

frame_levels : (bs : List Bool) (ws : List ℕ) → levels (map class_of ((words bs ++ 3 ∷ []) ++ ws)) ≡ bs
unfolding levels class_of slot_of
frame_levels [] ws = refl
frame_levels (true ∷ bs) ws = ap (λ (l : List Bool). true ∷ l) (frame_levels bs ws)
frame_levels (false ∷ bs) ws = ap (λ (l : List Bool). false ∷ l) (frame_levels bs ws)

module _ (h : ℕ) (ws : List ℕ) where
  rest_struck : (bs : List Bool)
      → marked (marks h false (map class_of ((words bs ++ 3 ∷ []) ++ ws))) ((words bs ++ 3 ∷ []) ++ ws) ≡ kept h ws
  unfolding marked marks kept keeps class_of slot_of
  rest_struck [] = refl
  rest_struck (true ∷ bs) = rest_struck bs
  rest_struck (false ∷ bs) = rest_struck bs

  rest_kept : (bs : List Bool)
      → marked (marks h true (map class_of ((words bs ++ 3 ∷ []) ++ ws))) ((words bs ++ 3 ∷ []) ++ ws)
      ≡ (words bs ++ 3 ∷ []) ++ kept h ws
  unfolding marked marks kept keeps class_of slot_of
  rest_kept [] = refl
  rest_kept (true ∷ bs) = ap (λ (l : List ℕ). 1 ∷ l) (rest_kept bs)
  rest_kept (false ∷ bs) = ap (λ (l : List ℕ). 0 ∷ l) (rest_kept bs)

  -- a frame of another's is struck whole, however long it is, and one of h's is kept whole
  pub frame_struck : (bs : List Bool) → from_master h bs ≡ false → kept h (frame_of bs ++ ws) ≡ kept h ws
  unfolding marked marks kept keeps framed class_of slot_of
  frame_struck bs e = rw (frame_levels bs ws, e) (rest_struck bs)

  pub frame_kept : (bs : List Bool) → from_master h bs ≡ true → kept h (frame_of bs ++ ws) ≡ frame_of bs ++ kept h ws
  unfolding marked marks kept keeps framed class_of slot_of
  frame_kept bs e = rw (frame_levels bs ws, e) (ap (λ (l : List ℕ). 2 ∷ l) (rest_kept bs))

  -- outside all frames levels, idle slots and words with a stray bit are struck; a host word is kept
  pub level_struck : (b : Bool) → kept h (bit_of b ∷ ws) ≡ kept h ws
  unfolding marked marks kept keeps class_of slot_of
  level_struck true = refl
  level_struck false = refl

  pub idle_struck : kept h (3 ∷ ws) ≡ kept h ws
  unfolding marked marks kept keeps class_of slot_of
  idle_struck = refl

  pub stray_struck : (w : ℕ) → class_of w ≡ stray → kept h (w ∷ ws) ≡ kept h ws
  unfolding marked marks kept keeps
  stray_struck w e = rw e refl

  pub host_kept : (w : ℕ) → class_of w ≡ host → kept h (w ∷ ws) ≡ w ∷ kept h ws
  unfolding marked marks kept keeps
  host_kept w e = rw e refl

-- a frame that is closed asks for nothing of the words behind it
pub frame_spaced : (bs : List Bool) (ws : List ℕ)
    → spaced false (map class_of (frame_of bs ++ ws)) ≡ spaced false (map class_of ws)
unfolding spaced class_of slot_of
frame_spaced bs ws = go bs
  where
    go : (bs : List Bool) → spaced true (map class_of ((words bs ++ 3 ∷ []) ++ ws)) ≡ spaced false (map class_of ws)
    go [] = refl
    go (true ∷ bs) = go bs
    go (false ∷ bs) = go bs

-- Pieces written into a text, one behind the other, as far as there is room.
use mathlib.Core.Logic.{◌⊎◌, inl, inr, ⊎_elim}
use mathlib.Core.Path.{◌≡◌, ◌∙◌, ap, refl, sym, subst}
use mathlib.Core.List.{List, [], ◌++◌, append_assoc, append-nil}
use Prim.Native.Nat.{ℕ, ◌+◌, ◌-◌, ◌≤◌, ◌<◌, min}
use native.Mathlib.Nat.{add-zero}
use native.Mathlib.Omega.{arith}
use lib.ListN.{length, take, drop, length-append, length-take}
use lib.Seq.{paste, paste-zero, length-paste, take-paste, drop-paste, drop-drop, take-append-add}
use lib.Seq.{take-append-le, take-length}
use Rattle.line.proofs.Either.{below_or_not}
use Rattle.line.proofs.Places.{take_min}
use Rattle.pieces.specs.Pieces.{Put, fitting}

pub nothing : (text : List ℕ) (at : ℕ) → Put text at [] at text
nothing text at =
    let none : fitting text at [] ≡ 0 = omega arith in
    record { ends = omega arith; written = paste-zero text at [] ∙ ap (paste text at []) (sym none) }

-- a piece by another name
pub named : {text p q after : List ℕ} {at end : ℕ} → Put text at p end after → p ≡ q → Put text at q end after
named {text} {p} {q} {after} {at} {end} put is = subst (λ (l : List ℕ). Put text at l end after) is put

-- where all of the first piece is taken, or nothing of the second
take_both : (p q : List ℕ) (n k : ℕ) → n ≤ length p → (n ≡ length p) ⊎ (k ≡ 0)
    → take (n + k) (p ++ q) ≡ take n p ++ take k q
take_both p q n k within =
    ⊎_elim
    (λ (e : n ≡ length p).
    ap (λ (m : ℕ). take (m + k) (p ++ q)) e ∙ take-append-add p q k
    ∙ ap (λ (l : List ℕ). l ++ take k q) (sym (ap (λ (m : ℕ). take m p) e ∙ take-length p)))
    (λ (e : k ≡ 0).
    ap (λ (m : ℕ). take (n + m) (p ++ q)) e ∙ ap (λ (m : ℕ). take m (p ++ q)) (add-zero n)
    ∙ take-append-le n p q within ∙ sym (append-nil (take n p))
    ∙ ap (λ (m : ℕ). take n p ++ take m q) (sym e))

same_length : {text p after : List ℕ} {at end : ℕ} → at ≤ length text → Put text at p end after
    → length after ≡ length text
same_length {text} {p} {after} {at} within one =
    ap length one.written ∙ length-paste text at p (fitting text at p) (omega arith) (omega arith)

-- past the end of a text nothing is written
past : {text p after : List ℕ} {at end : ℕ} → length text < at → Put text at p end after → (end ≡ at) × (after ≡ text)
past {text} {p} {after} {at} {end} h one =
    let none : fitting text at p ≡ 0 = omega arith in
    (omega (arith, one.ends, none), one.written ∙ ap (paste text at p) none ∙ sym (paste-zero text at p))

then_within : {text p mid q after : List ℕ} {at m end : ℕ} → at ≤ length text → Put text at p m mid
    → Put mid m q end after → Put text at (p ++ q) end after
then_within {text} {p} {mid} {q} {after} {at} {m} {end} within one two =
    let n : ℕ = fitting text at p in
    let k : ℕ = fitting mid m q in
    let long : length mid ≡ length text = same_length within one in
    let ends-one : m ≡ at + n = one.ends in
    let sum : length (p ++ q) ≡ length p + length q = length-append p q in
    let all : n + k ≡ fitting text at (p ++ q) = omega arith in
    let whole : (n ≡ length p) ⊎ (k ≡ 0) =
    ⊎_elim (λ (h : length text - at < length p). inr (omega arith))
    (λ (h : length p ≤ length text - at). inl (omega arith))
    (below_or_not (length text - at) (length p))
    in
    let front : take m mid ≡ take at text ++ take n p =
    ap (λ (l : List ℕ). take m l) one.written ∙ ap (λ (j : ℕ). take j (paste text at p n)) ends-one
    ∙ take-paste text at p n within (omega arith)
    in
    let ends-both : at + n + k ≡ at + (n + k) = omega arith in
    let rest : drop (m + k) mid ≡ drop (at + (n + k)) text =
    sym (drop-drop k m mid) ∙ ap (λ (l : List ℕ). drop k (drop m l)) one.written
    ∙ ap (λ (j : ℕ). drop k (drop j (paste text at p n))) ends-one
    ∙ ap (drop k) (drop-paste text at p n within (omega arith))
    ∙ drop-drop k (at + n) text ∙ ap (λ (j : ℕ). drop j text) ends-both
    in
    record {
      ends = two.ends ∙ omega arith;
      written =
          two.written
          ∙ ap (λ (l : List ℕ). l ++ take k q ++ drop (m + k) mid) front
          ∙ ap (λ (l : List ℕ). take at text ++ take n p ++ take k q ++ l) rest
          ∙ ap (λ (l : List ℕ). l ++ drop (at + (n + k)) text)
          (append_assoc (take at text) (take n p) (take k q)
          ∙ ap (λ (l : List ℕ). take at text ++ l) (sym (take_both p q n k (omega arith) whole)))
          ∙ ap (paste text at (p ++ q)) all;
    }

-- a piece behind a piece is written as both in one
pub then : {text p mid q after : List ℕ} {at m end : ℕ} → Put text at p m mid → Put mid m q end after
    → Put text at (p ++ q) end after
then {text} {p} {mid} {q} {after} {at} {m} {end} one two =
    ⊎_elim
    (λ (h : length text < at).
    let first = past h one in
    let second = past (rw (first.0, first.1) h) two in
    let none : fitting text at (p ++ q) ≡ 0 = omega arith in
    record {
      ends = omega (arith, first.0, second.0, none);
      written = second.1 ∙ first.1 ∙ paste-zero text at (p ++ q) ∙ ap (paste text at (p ++ q)) (sym none);
    })
    (λ (h : at ≤ length text). then_within h one two)
    (below_or_not (length text) at)

-- ---- a text that is written piece by piece: `rest` of `whole` is to come

pub record UpTo (text : List ℕ) (at : ℕ) (whole rest : List ℕ) (end : ℕ) (after : List ℕ) : Type 0 where
  pub begin : List ℕ
  pub put : Put text at begin end after
  pub split : begin ++ rest ≡ whole

pub up_to_none : (text : List ℕ) (at : ℕ) (whole : List ℕ) → UpTo text at whole whole at text
up_to_none text at whole = record { begin = []; put = nothing text at; split = refl }

pub up_to_one : {text whole piece rest after later : List ℕ} {at end further : ℕ}
    → UpTo text at whole (piece ++ rest) end after → Put after end piece further later
    → UpTo text at whole rest further later
up_to_one {text} {whole} {piece} {rest} up one = record {
  begin = up.begin ++ piece;
  put = then up.put one;
  split = append_assoc up.begin piece rest ∙ up.split;
}

pub up_to_all : {text whole after : List ℕ} {at end : ℕ} → UpTo text at whole [] end after → Put text at whole end after
up_to_all up = named up.put (sym (append-nil up.begin) ∙ up.split)

-- ---- what has been put from the beginning on, as far as there was room

pub record Front (text whole : List ℕ) (end : ℕ) (after : List ℕ) : Type 0 where
  pub count : end ≡ length (take (length text) whole)
  pub written : after ≡ take (length text) whole ++ drop end text
  pub within : end ≤ length text

pub front : {text whole after : List ℕ} {end : ℕ} → Put text 0 whole end after → Front text whole end after
front {text} {whole} {after} {end} put =
    let long-enough : length (take (length text) whole) ≡ min (length text) (length whole) =
    length-take (length text) whole
    in
    let so-many : fitting text 0 whole ≡ min (length text) (length whole) = omega arith in
    let ends : end ≡ 0 + fitting text 0 whole = put.ends in
    let from_zero : 0 + fitting text 0 whole ≡ end = sym ends in
    record {
      count = omega arith;
      written =
          put.written
          ∙ ap (λ (n : ℕ). take (fitting text 0 whole) whole ++ drop n text) from_zero
          ∙ ap (λ (n : ℕ). take n whole ++ drop end text) so-many
          ∙ ap (λ (l : List ℕ). l ++ drop end text) (take_min whole (length text));
      within = omega arith;
    }

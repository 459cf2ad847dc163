-- A piece written over a list: word by word, a piece in front of another, and what stands beside it.
use mathlib.Core.Path.{◌≡◌, sym, ap, ap₂, ◌∙◌}
use mathlib.Core.List.{List, [], ◌∷◌, ◌++◌, append_assoc}
use Prim.Native.Nat.{ℕ, suc, ◌+◌, ◌<◌, ◌≤◌}
use native.Mathlib.Omega.{arith}
use lib.ListN.{drop, get_or, length, length-append, set, take}
use lib.Seq.{append_snoc, drop_at, drop-cons, length-sets, length-take-le, set_at, sets-eq, take-append-le, take-take}
use Rattle.reader.specs.Texts.{pasted}

-- what stands up to the end of a piece
pub paste_end : (before piece : List ℕ) (at : ℕ) → at ≤ length before
    → length (take at before ++ piece) ≡ at + length piece
paste_end before piece at inside = length-append (take at before) piece ∙ rw (length-take-le at before inside)

pub paste_one : (before piece : List ℕ) (at word : ℕ) → at + length piece < length before
    → set (pasted before at piece) (at + length piece) word ≡ pasted before at (piece ++ word ∷ [])
paste_one before piece at word room =
    let place = at + length piece in
    let front = take at before ++ piece in
    let longer : at + length (piece ++ word ∷ []) ≡ suc place = omega (arith, length-append piece (word ∷ [])) in
    ap (λ (l : List ℕ). set (front ++ l) place word) (drop-cons before place 0 room)
    ∙ set_at front (get_or before place 0) (drop (suc place) before) word place (paste_end before piece at (omega arith))
    ∙ sym (append_snoc front word (drop (suc place) before))
    ∙ ap (λ (l : List ℕ). l ++ drop (suc place) before) (append_assoc (take at before) piece (word ∷ []))
    ∙ ap (λ (n : ℕ). take at before ++ (piece ++ word ∷ []) ++ drop n before) (sym longer)

-- before the piece all is as it was
pub paste_before : (before piece : List ℕ) (at n : ℕ) → n ≤ at → at ≤ length before
    → take n (pasted before at piece) ≡ take n before
paste_before before piece at n ahead inside =
    let long = length-take-le at before inside in
    ap (take n) (append_assoc (take at before) piece (drop (at + length piece) before))
    ∙ take-append-le n (take at before) (piece ++ drop (at + length piece) before) (omega (arith, long))
    ∙ take-take n at before ahead

-- and behind it too
pub paste_behind : (before piece : List ℕ) (at : ℕ) → at ≤ length before
    → drop (at + length piece) (pasted before at piece) ≡ drop (at + length piece) before
paste_behind before piece at inside =
    drop_at (take at before ++ piece) (drop (at + length piece) before) (at + length piece)
    (paste_end before piece at inside)

pub paste_length : (before piece : List ℕ) (at : ℕ) → at + length piece ≤ length before
    → length (pasted before at piece) ≡ length before
paste_length before piece at room = ap length (sym (sets-eq piece before at room)) ∙ length-sets before at piece

-- from the place of a piece on: the piece, and what stood behind it
pub paste_there : (before piece : List ℕ) (at : ℕ) → at ≤ length before
    → drop at (pasted before at piece) ≡ piece ++ drop (at + length piece) before
paste_there before piece at inside =
    ap (drop at) (append_assoc (take at before) piece (drop (at + length piece) before))
    ∙ drop_at (take at before) (piece ++ drop (at + length piece) before) at (length-take-le at before inside)

-- a piece, and then another one just in front of it
pub paste_front : (before front piece : List ℕ) (at : ℕ) → at + length front ≤ length before
    → pasted (pasted before (at + length front) piece) at front ≡ pasted before at (front ++ piece)
paste_front before front piece at inside =
    let place = at + length front in
    let all : place + length piece ≡ at + length (front ++ piece) = omega (arith, length-append front piece) in
    ap₂ (λ (x y : List ℕ). x ++ front ++ y) (paste_before before piece place at (omega arith) inside)
    (paste_there before piece place inside)
    ∙ sym (append_assoc (take at before ++ front) piece (drop (place + length piece) before))
    ∙ ap (λ (l : List ℕ). l ++ drop (place + length piece) before) (append_assoc (take at before) front piece)
    ∙ ap (λ (n : ℕ). take at before ++ (front ++ piece) ++ drop n before) all

-- The header and the lines of a listing, one line more, and the last line behind them.
use mathlib.Core.Path.{◌≡◌, ◌∙◌, ap, sym, refl}
use mathlib.Core.List.{List, ◌++◌}
use Prim.Native.Nat.{ℕ, zero, suc, ◌+◌, ◌*◌, ◌≤◌}
use native.Mathlib.Numerals.{add-one}
use native.Mathlib.Omega.{arith}
use borrow.Author.Tests.{le-ltb}
use lib.ListN.{length, drop, length-append}
use Rattle.text.specs.Hex.{hex_of, line_of}
use Rattle.text.specs.Last.{last_of, last_text}
use Rattle.words.specs.Words.{word_at}
use Rattle.text.specs.Listing.{header, lines_of, listed_of, listing_bytes, listing_of, words_listed}
use Rattle.text.specs.Writing.{LinesUpTo, LinesIn, pasted}
use Rattle.text.proofs.Pasting.{behind}

line_length : (word answer : ℕ) → length (line_of word answer) ≡ 18
unfolding line_of hex_of
line_length word answer = refl

lines_none : (input answers : List ℕ) → lines_of input answers 0 ≡ header
unfolding lines_of
lines_none input answers = refl

lines_more : (input answers : List ℕ) (n : ℕ)
    → lines_of input answers (suc n) ≡ lines_of input answers n ++ line_of (word_at input n) (word_at answers n)
unfolding lines_of
lines_more input answers n = refl

lines_length : (input answers : List ℕ) (n : ℕ) → length (lines_of input answers n) ≡ 12 + n * 18
lines_length input answers zero = ap length (lines_none input answers)
lines_length input answers (suc n) =
    let line : List ℕ = line_of (word_at input n) (word_at answers n) in
    let shorter = lines_length input answers n in
    let one = line_length (word_at input n) (word_at answers n) in
    ap length (lines_more input answers n) ∙ length-append (lines_of input answers n) line
    ∙ omega (arith, shorter, one)

-- where the header is written, it stands at the front
pub begun : (input answers before : List ℕ) → LinesUpTo input answers before 0 12 (pasted before 0 header)
begun input answers before =
    record {
      ends = refl;
      written = ap (λ (l : List ℕ). l ++ drop 12 before) (sym (lines_none input answers));
    }

front_length : {input answers before text : List ℕ} {n at : ℕ} → LinesUpTo input answers before n at text
    → length (lines_of input answers n) ≡ at
front_length {input} {answers} {before} {text} {n} {at} up = lines_length input answers n ∙ sym up.ends

pub one_more : {input answers before text line : List ℕ} {n at next : ℕ}
    → LinesUpTo input answers before n at text → line ≡ line_of (word_at input n) (word_at answers n)
    → next ≡ at + 18 → LinesUpTo input answers before (n + 1) next (pasted text at line)
one_more {input} {answers} {before} {text} {line} {n} {at} {next} up is after =
    let long : length line ≡ 18 = ap length is ∙ line_length (word_at input n) (word_at answers n) in
    let ends : next ≡ at + length line = omega (arith, after, long) in
    let whole : lines_of input answers n ++ line ≡ lines_of input answers (n + 1) =
    ap (λ (l : List ℕ). lines_of input answers n ++ l) is ∙ sym (lines_more input answers n)
    ∙ ap (lines_of input answers) (sym (add-one n))
    in
    record {
      ends = omega (arith, up.ends);
      written =
          behind (lines_of input answers n) before line text at (front_length up) up.written
          ∙ ap (λ (l : List ℕ). l ++ drop (at + length line) before) whole
          ∙ ap (λ (k : ℕ). lines_of input answers (n + 1) ++ drop k before) (sym ends);
    }

-- where there is room, the last line behind the lines makes the listing
pub with_last : {input answers before text : List ℕ} {at : ℕ} → LinesIn input answers before at text
    → listing_bytes ≤ length before
    → let last = last_text (last_of (length input)) in
    (at + length last ≡ length (listed_of input answers (length before)))
    × (pasted text at last ≡ listed_of input answers (length before) ++ drop (at + length last) before)
unfolding listed_of listing_of
with_last {input} {answers} {before} {text} {at} up fits =
    let lines = lines_of input answers (words_listed (length input)) in
    let last = last_text (last_of (length input)) in
    let whole : listed_of input answers (length before) ≡ lines ++ last = simp (le-ltb _ _ fits) in (
      sym (ap length whole ∙ length-append lines last ∙ ap (λ (k : ℕ). k + length last) (front_length up)),
      behind lines before last text at (front_length up) up.written
          ∙ ap (λ (l : List ℕ). l ++ drop (at + length last) before) (sym whole),
    )

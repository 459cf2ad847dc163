-- Words as bytes: what is read of them, and words that are written and read again.
use mathlib.Core.List.{List, [], ◌∷◌, ◌++◌, append_assoc}
use mathlib.Core.Path.{◌≡◌, refl, sym, ap, ◌∙◌}
use Prim.Native.Nat.{ℕ, ◌+◌, ◌*◌, ◌-◌, ◌/◌, ◌%◌, ◌^◌, ◌<◌, ◌≤◌, min}
use native.Mathlib.Nat.{add-zero}
use Rattle.std.proofs.lemmas.Nat.{from_le_bytes-to_le_bytes_4}
use native.Mathlib.Numerals.{add-one}
use native.Mathlib.Omega.{arith}
use borrow.Rule.Slice.PartMut.{put_mid}
use Rattle.std.specs.Int.{to_le_bytes, w32}
use Rattle.line.specs.Places.{placed}
use lib.ListN.{drop, get_or, length, take}
use lib.Seq.{drop_at, drop-drop, ext_get_or, get_or-take, length-take-le, take_at}
use Rattle.line.proofs.Placed.{placed_at, placed_length}
use Rattle.words.specs.Words.{byte_at, bytes_of, word_at, words_of, words_read}

-- ---- the words that a list with room for so many is given

pub read_count : (input : List ℕ) (most : ℕ) → length (words_read input most) ≡ min (length input / 4) most
read_count input most = placed_length (word_at input) (min (length input / 4) most)

pub read_front : (input list rest : List ℕ) {count room most : ℕ} → count ≡ min (length input / 4) room → room ≡ most
    → list ≡ words_of input count ++ rest → take (count - 0) list ≡ words_read input most
read_front input list rest {count} {room} {most} counted is front =
    let all : count - 0 ≡ count = omega arith in
    let read : count ≡ min (length input / 4) most = omega arith in
    ap (λ (k : ℕ). take k list) all ∙ ap (take count) front
    ∙ take_at (words_of input count) rest count (placed_length (word_at input) count) ∙ ap (words_of input) read

-- ---- the bytes of words, in front of what a list has behind them

pub no_bytes : (words first : List ℕ) → first ≡ bytes_of words 0 ++ drop 0 first
unfolding placed
no_bytes words first = refl

placed_four : (f : ℕ → ℕ) (n : ℕ)
    → placed f (n + 4) ≡ placed f n ++ f n ∷ f (n + 1) ∷ f (n + 2) ∷ f (n + 3) ∷ []
unfolding placed
placed_four f n =
    let second : n + 1 + 1 ≡ n + 2 = omega arith in
    let third : n + 2 + 1 ≡ n + 3 = omega arith in
    let fourth : n + 3 + 1 ≡ n + 4 = omega arith in
    let one : placed f (n + 1) ≡ placed f n ++ f n ∷ [] = ap (placed f) (add-one n) in
    let two : placed f (n + 2) ≡ placed f (n + 1) ++ f (n + 1) ∷ [] = ap (placed f) (sym second ∙ add-one (n + 1)) in
    let three : placed f (n + 3) ≡ placed f (n + 2) ++ f (n + 2) ∷ [] = ap (placed f) (sym third ∙ add-one (n + 2)) in
    let four : placed f (n + 4) ≡ placed f (n + 3) ++ f (n + 3) ∷ [] = ap (placed f) (sym fourth ∙ add-one (n + 3)) in
    simp (four, three, two, one, append_assoc)

byte_of : (words : List ℕ) (i k : ℕ) → k < 4 → byte_at words (i * 4 + k) ≡ get_or words i 0 / 2 ^ (8 * k) % 256
byte_of words i k within =
    let place : (i * 4 + k) / 4 ≡ i = omega (arith, within) in
    let byte : (i * 4 + k) % 4 ≡ k = omega (arith, within) in
    rw (place, byte)

lowest_of : (words : List ℕ) (i : ℕ) → byte_at words (i * 4) ≡ get_or words i 0 % 256
lowest_of words i = ap (byte_at words) (sym (add-zero (i * 4))) ∙ byte_of words i 0 (omega arith) ∙ omega arith

-- the bytes of a word, as the library gives them
word_bytes : (words : List ℕ) (i : ℕ)
    → byte_at words (i * 4) ∷ byte_at words (i * 4 + 1) ∷ byte_at words (i * 4 + 2) ∷ byte_at words (i * 4 + 3) ∷ []
    ≡ to_le_bytes w32 (get_or words i 0)
word_bytes words i =
    rw (
      lowest_of words i,
      byte_of words i 1 (omega arith),
      byte_of words i 2 (omega arith),
      byte_of words i 3 (omega arith),
    )

-- one word more
pub word_more : (words first : List ℕ) (i : ℕ) {now bytes : List ℕ} {size : ℕ} → size ≡ 4
    → bytes ≡ to_le_bytes w32 (get_or words i 0) → now ≡ bytes_of words (i * 4) ++ drop (i * 4) first
    → put_mid (i * 4) size now bytes ≡ bytes_of words ((i + 1) * 4) ++ drop ((i + 1) * 4) first
word_more words first i {now} {bytes} {size} four is before =
    let at : ℕ = i * 4 in
    let next : (i + 1) * 4 ≡ at + 4 = omega arith in
    let long : length (bytes_of words at) ≡ at = placed_length (byte_at words) at in
    let more : bytes_of words (at + 4) ≡ bytes_of words at ++ bytes =
    placed_four (byte_at words) at ∙ ap (λ (l : List ℕ). bytes_of words at ++ l) (word_bytes words i ∙ sym is)
    in
    rw (
      next,
      four,
      before,
      take_at (bytes_of words at) (drop at first) at long,
      drop_at (bytes_of words at) (drop at first) at long,
      drop-drop 4 at first,
      more,
      append_assoc,
    ) refl

-- ---- what is written of words is read again as these words

-- a byte of the word at a place
byte_in : (words : List ℕ) (n i k : ℕ) → i < n → k < 4
    → get_or (bytes_of words (n * 4)) (i * 4 + k) 0 ≡ get_or words i 0 / 2 ^ (8 * k) % 256
byte_in words n i k inside within =
    placed_at (byte_at words) (n * 4) (i * 4 + k) (omega (arith, inside, within)) ∙ byte_of words i k within

pub read_again : (words : List ℕ) (n : ℕ) → n ≤ length words → ((i : ℕ) → get_or words i 0 < 2 ^ 32)
    → words_of (bytes_of words (n * 4)) n ≡ take n words
read_again words n inside small =
    ext_get_or 0 _ _ (placed_length _ n ∙ sym (length-take-le n words inside))
    (λ i h. let within : i < n = omega (arith, h, placed_length (word_at (bytes_of words (n * 4))) n) in
    placed_at _ n i within
    ∙ rw (
      byte_first i within,
      byte_in words n i 1 within (omega arith),
      byte_in words n i 2 within (omega arith),
      byte_in words n i 3 within (omega arith),
    ) (from_le_bytes-to_le_bytes_4 (get_or words i 0) (small i))
    ∙ sym (get_or-take n words i 0 within))
  where
    byte_first : (i : ℕ) → i < n → get_or (bytes_of words (n * 4)) (i * 4) 0 ≡ get_or words i 0 % 256
    byte_first i within = placed_at (byte_at words) (n * 4) (i * 4) (omega (arith, within)) ∙ lowest_of words i

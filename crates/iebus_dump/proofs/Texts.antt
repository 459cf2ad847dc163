-- The text by the words that the reader wrote is the text of the log's records; and what has been put into a text from
-- its beginning on is as much of it as there is room for.
use mathlib.Core.Bool.{Bool, true, false}
use mathlib.Core.Logic.{⊎_elim}
use mathlib.Core.Path.{◌≡◌, ◌∙◌, ap, sym, refl}
use mathlib.Core.List.{List, [], ◌∷◌, ◌++◌, append_assoc}
use Prim.Native.Nat.{ℕ, suc, ◌+◌, ◌-◌, ◌≤◌, min, ◌/◌}
use native.Mathlib.Omega.{arith}
use borrow.Author.Tests.{le-ltb}
use lib.Dec.{eqb}
use lib.ListN.{length, take, drop}
use lib.Seq.{append_snoc, take_all, take-take}
use Rattle.line.specs.Choice.{bit_of, pick}
use Rattle.line.specs.Numbers.{slot_start}
use Rattle.line.proofs.Either.{either}
use Rattle.std.specs.Prelude.{Ok, Err}
use Rattle.logs.specs.declared.LogError.TheVariants.{NoSlot}
use Rattle.logs.specs.Frames.{frames_of, stray_in}
use Rattle.logs.specs.Log.{LogRead, ReadLog, end_of, written_of}
use Rattle.logs.specs.Relied.{Relied, starts_in}
use Rattle.logs.specs.Records.{Record, first_word, record_words, records_of}
use Rattle.logs.specs.Records.{words_of as recordsWords}
use Rattle.text.specs.Last.{last_text}
use Rattle.words.specs.Words.{words_of}
use Rattle.words.proofs.Words.{read_count, read_front}
use Rattle.iebus_dump.specs.Line.{frame_of, line_of}
use Rattle.iebus_dump.specs.Dump.{header, last_of, lines_of, most_words, refused, slots_of, starts_from}
use Rattle.iebus_dump.specs.Dump.{whole_of}
use Rattle.iebus_dump.specs.Writing.{acked_by, ahead_by, frame_in, last_by, lines_in}
use Rattle.iebus_dump.specs.Writing.{shown_by, slot_line, text_by, used_by}
use Rattle.iebus_dump.proofs.Frames.{Sound, line_right, past_right}

pub data AllSound : List Record → Type 0 where
  none : AllSound []
  also : {r : Record} {rs : List Record} → Sound r → AllSound rs → AllSound (r ∷ rs)

all_sound : (whole : List Record)
    → ((done : List Record) (r : Record) (rs : List Record) → whole ≡ done ++ r ∷ rs → Sound r)
    → (done rest : List Record) → whole ≡ done ++ rest → AllSound rest
all_sound whole each done [] is = none
all_sound whole each done (r ∷ rest) is =
    also (each done r rest is) (all_sound whole each (done ++ r ∷ []) rest (is ∙ sym (append_snoc done r rest)))

pub relied_sound : {long : Bool} → Relied long → (slots : List ℕ) → AllSound (records_of long slots)
relied_sound {long} relied slots =
    all_sound (records_of long slots)
    (λ (done : List Record) (r : Record) (rs : List Record) (is : records_of long slots ≡ done ++ r ∷ rs).
    record { apart = relied.apart slots done r rs is; fields = relied.fields slots done r rs is })
    [] (records_of long slots) refl

start_line : (place w : ℕ) (ws more : List ℕ) (r : Record) → eqb w slot_start ≡ true → Sound r
    → lines_in place (w ∷ ws) (record_words r ++ more) ≡ line_of place (frame_of r) ++ lines_in (suc place) ws more
unfolding lines_in slot_line used_by record_words
start_line place w ws more r starts sound =
    let words : List ℕ = record_words r ++ more in
    let used : ℕ = ahead_by (first_word r) + acked_by (first_word r) in
    ap (λ (b : Bool). pick b (line_of place (frame_in words)) [] ++ lines_in (suc place) ws (drop (pick b used 0) words))
    starts
    ∙ ap (λ (l : List ℕ). l ++ lines_in (suc place) ws (drop used words)) (line_right place r more sound)
    ∙ ap (λ (l : List ℕ). line_of place (frame_of r) ++ lines_in (suc place) ws l) (past_right r more sound)

other_line : (place w : ℕ) (ws words : List ℕ) → eqb w slot_start ≡ false
    → lines_in place (w ∷ ws) words ≡ lines_in (suc place) ws words
unfolding lines_in slot_line used_by
other_line place w ws words other = simp other

start_place : (place w : ℕ) (ws : List ℕ) → eqb w slot_start ≡ true
    → starts_from place (w ∷ ws) ≡ place ∷ starts_from (suc place) ws
unfolding starts_from
start_place place w ws starts = simp starts

other_place : (place w : ℕ) (ws : List ℕ) → eqb w slot_start ≡ false
    → starts_from place (w ∷ ws) ≡ starts_from (suc place) ws
unfolding starts_from
other_place place w ws other = simp other

count_here : (w : ℕ) (ws : List ℕ) (starts : Bool) → eqb w slot_start ≡ starts
    → starts_in (w ∷ ws) ≡ bit_of starts + starts_in ws
unfolding starts_in
count_here w ws starts is = ap (λ (b : Bool). bit_of b + starts_in ws) is

-- the lines of the slots behind a word
abbrev Behind : List ℕ → List ℕ → Type 0
Behind ws more =
    (rs : List Record) (place : ℕ) → AllSound rs → length rs ≡ starts_in ws
    → lines_in place ws (recordsWords rs ++ more) ≡ lines_of (starts_from place ws) rs

at_start : (w place : ℕ) (ws more : List ℕ) (rs : List Record) → Behind ws more → AllSound rs
    → length rs ≡ starts_in (w ∷ ws) → eqb w slot_start ≡ true
    → lines_in place (w ∷ ws) (recordsWords rs ++ more) ≡ lines_of (starts_from place (w ∷ ws)) rs
unfolding recordsWords lines_of
at_start w place ws more [] behind none count starts = absurd (omega (arith, count_here w ws true starts))
at_start w place ws more (r ∷ rs) behind (also sound sounds) count starts =
    let fewer : length rs ≡ starts_in ws = omega (arith, count_here w ws true starts) in
    ap (lines_in place (w ∷ ws)) (append_assoc (record_words r) (recordsWords rs) more)
    ∙ start_line place w ws (recordsWords rs ++ more) r starts sound
    ∙ ap (λ (l : List ℕ). line_of place (frame_of r) ++ l) (behind rs (suc place) sounds fewer)
    ∙ ap (λ (ps : List ℕ). lines_of ps (r ∷ rs)) (sym (start_place place w ws starts))

at_other : (w place : ℕ) (ws more : List ℕ) (rs : List Record) → Behind ws more → AllSound rs
    → length rs ≡ starts_in (w ∷ ws) → eqb w slot_start ≡ false
    → lines_in place (w ∷ ws) (recordsWords rs ++ more) ≡ lines_of (starts_from place (w ∷ ws)) rs
at_other w place ws more rs behind sounds count other =
    let as_many : length rs ≡ starts_in ws = omega (arith, count_here w ws false other) in
    other_line place w ws (recordsWords rs ++ more) other
    ∙ behind rs (suc place) sounds as_many
    ∙ ap (λ (ps : List ℕ). lines_of ps rs) (sym (other_place place w ws other))

lines_right : (slots : List ℕ) (more : List ℕ) → Behind slots more
unfolding lines_in starts_from lines_of
lines_right [] more rs place sounds count = refl
lines_right (w ∷ ws) more rs place sounds count =
    ⊎_elim (at_start w place ws more rs (lines_right ws more) sounds count)
    (at_other w place ws more rs (lines_right ws more) sounds count) (either (eqb w slot_start))

-- the words of an input that a list of so many places takes
pub slots_made : (input list rest : List ℕ) {count room : ℕ} → count ≡ min (length input / 4) room → room ≡ most_words
    → list ≡ words_of input count ++ rest → take count list ≡ slots_of input
unfolding slots_of
slots_made input list rest {count} counted is made =
    let all : count - 0 ≡ count = omega arith in rw all at (read_front input list rest counted is made)

slots_count : (input : List ℕ) → length (slots_of input) ≡ min (length input / 4) most_words
unfolding slots_of
slots_count input = read_count input most_words

pub slots_length : (input : List ℕ) → length (slots_of input) ≤ most_words
slots_length input = omega (arith, slots_count input)

read_as : (room : ℕ) (slots : List ℕ) (stray : Bool) → length slots ≤ room → stray_in slots ≡ stray
    → end_of room slots ≡ pick stray (Err NoSlot) (Ok (length (frames_of slots)))
unfolding end_of
read_as room slots stray fits is = simp (le-ltb _ _ fits, is)

whole_as : (long : Bool) (input : List ℕ) (stray : Bool) → stray_in (slots_of input) ≡ stray
    → pick stray (header ++ refused)
    (header ++ lines_of (starts_from 0 (slots_of input)) (records_of long (slots_of input))
    ++ last_text (last_of (length input)))
    ≡ whole_of long input
unfolding whole_of
whole_as long input stray is = simp is

-- the text for the words of an input that are shown
abbrev pub text_of : LogRead → List ℕ → List ℕ → List ℕ
text_of read input after =
    text_by (last_by read (length input)) (take (shown_by read (length (slots_of input))) (slots_of input)) after

-- the text, as the code has it
pub text_made : (read : LogRead) (input words after last : List ℕ) {count room shown : ℕ}
    → count ≡ min (length input / 4) room → room ≡ most_words → take count words ≡ slots_of input
    → last ≡ last_by read (length input) → shown ≡ shown_by read count → shown ≤ count
    → text_by last (take shown words) after ≡ text_of read input after
text_made read input words after last {count} {room} {shown} counted is made last-is shown_is within =
    let slots : List ℕ = slots_of input in
    let places : length slots ≡ count = slots_count input ∙ omega arith in
    ap (λ (l : List ℕ). text_by last l after) (sym (take-take shown count words within))
    ∙ ap (λ (l : List ℕ). text_by last (take shown l) after) made
    ∙ ap (λ (n : ℕ). text_by last (take n slots) after) shown_is
    ∙ ap (λ (n : ℕ). text_by last (take (shown_by read n) slots) after) (sym places)
    ∙ ap (λ (l : List ℕ). text_by l (take (shown_by read (length slots)) slots) after) last-is

refused_right : {long : Bool} (input : List ℕ) {before after : List ℕ} {read : LogRead}
    → ReadLog long (slots_of input) before read after → most_words ≤ length before → stray_in (slots_of input) ≡ true
    → text_of read input after ≡ whole_of long input
unfolding text_by last_by lines_in
refused_right {long} input {before} {after} {read} reading room stray =
    ap (λ (r : LogRead). text_of r input after)
    (reading.ends ∙ read_as (length before) (slots_of input) true (omega (arith, slots_length input)) stray)
    ∙ whole_as long input true stray

frames_right : {long : Bool} (relied : Relied long) (input : List ℕ) {before after : List ℕ} {read : LogRead}
    → ReadLog long (slots_of input) before read after → most_words ≤ length before → stray_in (slots_of input) ≡ false
    → text_of read input after ≡ whole_of long input
unfolding text_by last_by written_of
frames_right {long} relied input {before} {after} {read} reading room stray =
    let slots : List ℕ = slots_of input in
    let records : List Record = records_of long slots in
    let count : ℕ = length (frames_of slots) in
    let is : read ≡ Ok count =
    reading.ends ∙ read_as (length before) slots false (omega (arith, slots_length input)) stray
    in
    let written : after ≡ recordsWords records ++ drop (length (recordsWords records)) before =
    reading.written
    ∙ ap (λ (r : LogRead). written_of long r slots ++ drop (length (written_of long r slots)) before) is
    in
    let last : List ℕ = last_text (last_of (length input)) in
    ap (λ (r : LogRead). text_of r input after) is
    ∙ ap (λ (l : List ℕ). header ++ lines_in 0 l after ++ last) (take_all (length slots) slots (omega arith))
    ∙ ap (λ (l : List ℕ). header ++ lines_in 0 slots l ++ last) written
    ∙ ap (λ (l : List ℕ). header ++ l ++ last)
    (lines_right slots _ records 0 (relied_sound relied slots) (relied.one_each slots))
    ∙ whole_as long input false stray

pub text_right : {long : Bool} (relied : Relied long) (input : List ℕ) {before after : List ℕ} {read : LogRead}
    → ReadLog long (slots_of input) before read after → most_words ≤ length before
    → text_of read input after ≡ whole_of long input
text_right relied input reading room =
    ⊎_elim (refused_right input reading room) (frames_right relied input reading room)
    (either (stray_in (slots_of input)))

-- What the loop over a frame's attempts keeps from turn to turn.
use mathlib.Core.Bool.{Bool, true, false, ◌&&◌, not, true≢false}
use mathlib.Core.Logic.{⊎_elim}
use mathlib.Core.Path.{◌≡◌, refl, sym, ap, ap₂, ◌∙◌}
use mathlib.Core.List.{List, [], ◌∷◌, ◌++◌, append-nil, map, map-append}
use Prim.Native.Nat.{ℕ, zero, suc, ◌+◌, ◌*◌, ◌-◌, ◌/◌, ◌%◌, ◌<◌, ◌≤◌}
use native.Mathlib.Omega.{arith}
use borrow.Author.Tests.{eq-eqb, eqb-true, le-leb, leb-true, le-ltb, lt-ltb, ltb-true, ne_eqb}
use lib.Dec.{eqb, leb, ltb}
use lib.ListN.{drop, get_or, length, length-append, length-drop, length-map, length-set, set, take}
use lib.Seq.{append_snoc, paste-zero, take_all}
use Rattle.line.proofs.Either.{below_or_not, both, either, same_or_not}
use Rattle.line.specs.Numbers.{end_broken_data}
use Rattle.logs.proofs.Frames.{low_drop}
use Rattle.logs.proofs.Readings.{Bounded, reading_bounded}
use Rattle.logs.specs.Data.{Acked, Text, attempts_of, behind, byte_in, counts, text_from, text_of}
use Rattle.logs.specs.Fields.{data_place, end_in, given_in, header}
use Rattle.logs.specs.Frames.{Low}
use Rattle.logs.specs.Readings.{data_of, read_of}
use Rattle.logs.specs.Records.{byte_word}
use Rattle.reader.proofs.Endings.{broken_data}
use Rattle.reader.proofs.Pasting.{paste_one}
use Rattle.reader.specs.declared.ending.Ending.{Ending}
use Rattle.reader.specs.declared.ending.Ending.TheVariants.{BrokenData}
use Rattle.reader.specs.declared.head.Head.{Head}
use Rattle.reader.specs.Endings.{ending_by}
use Rattle.reader.specs.Heads.{head_of}
use Rattle.reader.specs.Texts.{Wrote, ending_in, pasted}

-- ---- one attempt

-- the test of the loop over the attempts: one is left, a byte is missing, and the attempt's slots are there
abbrev goes_on : ℕ → ℕ → List ℕ → Bool
goes_on left missing rest = ltb 0 left && ltb 0 missing && leb 10 (length rest)

pub record Goes (left missing : ℕ) (rest : List ℕ) : Type 0 where
  pub some : 0 < left
  pub wanted : 0 < missing
  pub whole : 10 ≤ length rest

pub goes : {left missing : ℕ} {rest : List ℕ} → goes_on left missing rest ≡ true → Goes left missing rest
goes {left} {missing} {rest} test =
    let (first, whole) = both (ltb 0 left && ltb 0 missing) (leb 10 (length rest)) test in
    let (some, wanted) = both (ltb 0 left) (ltb 0 missing) first in
    record {
      some = ltb-true 0 left some;
      wanted = ltb-true 0 missing wanted;
      whole = leb-true 10 (length rest) whole;
    }

stops : (left missing : ℕ) (rest : List ℕ) → goes_on left missing rest ≡ false → 0 < left → 0 < missing
    → length rest < 10
stops left missing rest stop some wanted =
    ⊎_elim (λ below. below)
    (λ whole. let room = le-leb 10 (length rest) whole in
    absurd (true≢false (sym (simp (lt-ltb 0 left some, lt-ltb 0 missing wanted, room)) ∙ stop)))
    (below_or_not (length rest) 10)

module _ {left missing : ℕ} {rest : List ℕ} (broadcast : Bool) (since : ℕ) (t : Goes left missing rest) where
  one_left : left ≡ suc (left - 1)
  one_left = omega (arith, t.some)

  wants : eqb missing 0 ≡ false
  wants = ne_eqb missing 0 (λ e. omega (arith, t.wanted))

  there : ltb (length rest) 10 ≡ false
  there = le-ltb (length rest) 10 t.whole

  attempt_acked : counts broadcast rest ≡ true
      → text_from left broadcast missing since rest
      ≡ behind (byte_in rest) (since + 1) (text_from (left - 1) broadcast (missing - 1) 0 (drop 10 rest))
  unfolding text_from
  attempt_acked acked =
      ap (λ (k : ℕ). text_from k broadcast missing since rest) one_left ∙ simp (wants, there, acked)

  attempt_missed : counts broadcast rest ≡ false
      → text_from left broadcast missing since rest
      ≡ text_from (left - 1) broadcast missing (since + 1) (drop 10 rest)
  unfolding text_from
  attempt_missed missed =
      ap (λ (k : ℕ). text_from k broadcast missing since rest) one_left ∙ simp (wants, there, missed)

-- whether data is cut inside an attempt
abbrev cut_in : List ℕ → Bool
cut_in rest = not (eqb (length rest) 0)

-- data that wants more and is cut: short where it ends with a complete attempt
cut_short : (left missing : ℕ) (broadcast : Bool) (since : ℕ) (rest : List ℕ) → eqb missing 0 ≡ false
    → length rest < 10
    → text_from (suc left) broadcast missing since rest ≡ text_of [] since (ending_in missing (suc left) (cut_in rest))
unfolding text_from
cut_short left missing broadcast since rest some below =
    let more : eqb (suc left) 0 ≡ false = ne_eqb (suc left) 0 (λ e. omega arith) in
    let short : ltb (length rest) 10 ≡ true = lt-ltb (length rest) 10 below in
    ⊎_elim (λ empty. simp (some, short, eq-eqb (length rest) 0 empty, more))
    (λ cut. simp (some, short, ne_eqb (length rest) 0 cut, more))
    (same_or_not (length rest) 0)

-- no attempt more
no_attempt : (left missing : ℕ) (broadcast : Bool) (since : ℕ) (rest : List ℕ)
    → (0 < left → 0 < missing → length rest < 10)
    → text_from left broadcast missing since rest ≡ text_of [] since (ending_in missing left (cut_in rest))
unfolding text_from
no_attempt zero missing broadcast since rest stop = refl
no_attempt (suc left) missing broadcast since rest stop =
    ⊎_elim (λ none. simp (eq-eqb missing 0 none))
    (λ some. cut_short left missing broadcast since rest (ne_eqb missing 0 some) (stop (omega arith) (omega arith)))
    (same_or_not missing 0)

-- ---- put_text

-- data with ACKed bytes in front
abbrev joined : List Acked → Text → Text
joined done t = text_of (done ++ t.acked) t.unacked t.ending

pub record Going (text : List ℕ) (broadcast : Bool) (bytes most at : ℕ) (before records rest : List ℕ)
    (left missing since acked : ℕ) : Type 0 where
  pub done : List Acked
  pub ahead : text_from most broadcast bytes 0 text ≡ joined done (text_from left broadcast missing since rest)
  pub count : acked ≡ length done
  pub written : records ≡ pasted before at (map byte_word done)
  pub long : length records ≡ length before
  pub low : Low rest
  pub spent : length rest + 10 * most ≡ length text + 10 * left
  pub made : acked + since + left ≤ most

-- what is left of a list from a place on
left_from : (l : List ℕ) (n : ℕ) → take (length l - n) (drop n l) ≡ drop n l
left_from l n = take_all (length l - n) (drop n l) (omega (arith, length-drop n l))

pub going_none : (levels : List ℕ) (broadcast : Bool) (bytes most at : ℕ) (before : List ℕ) → Low levels
    → Going (drop data_place levels) broadcast bytes most at before before
    (take (length levels - data_place) (drop data_place levels)) most bytes 0 0
going_none levels broadcast bytes most at before low =
    rw (left_from levels data_place)
    (record {
      done = [];
      ahead = refl;
      count = refl;
      written = paste-zero before at [];
      long = refl;
      low = low_drop data_place levels low;
      spent = refl;
      made = omega arith;
    })

module _ {text : List ℕ} {broadcast : Bool} {bytes most at : ℕ} {before records rest : List ℕ}
    {left missing since acked : ℕ} (g : Going text broadcast bytes most at before records rest left missing since acked)
    (t : Goes left missing rest) where
  -- there is room for a byte more
  pub going_room : at + length text ≤ length before → at + acked < length records
  going_room room = omega (arith, g.spent, g.made, g.long, t.whole, t.some)

  pub going_missed : counts broadcast rest ≡ false
      → Going text broadcast bytes most at before records (take (length rest - 10) (drop 10 rest)) (left - 1) missing
      (since + 1) acked
  going_missed missed =
      rw (left_from rest 10)
      (record {
        done = g.done;
        ahead = g.ahead ∙ ap (joined g.done) (attempt_missed broadcast since t missed);
        count = g.count;
        written = g.written;
        long = g.long;
        low = low_drop 10 rest g.low;
        spent = omega (arith, g.spent, t.some, t.whole, length-drop 10 rest);
        made = omega (arith, g.made, t.some);
      })

  pub going_acked : {byte : ℕ} → counts broadcast rest ≡ true → byte ≡ byte_in rest → at + acked < length records
      → Going text broadcast bytes most at before (set records (at + acked) (byte + (since + 1) * 0x100))
      (take (length rest - 10) (drop 10 rest)) (left - 1) (missing - 1) 0 (acked + 1)
  going_acked {byte} good is room =
      let one : Acked = record { byte = byte_in rest; attempts = since + 1 } in
      let behind = text_from (left - 1) broadcast (missing - 1) 0 (drop 10 rest) in
      let words : length (map byte_word g.done) ≡ acked = length-map g.done byte_word ∙ sym g.count in
      let word = byte + (since + 1) * 0x100 in
      rw (left_from rest 10)
      (record {
        done = g.done ++ one ∷ [];
        ahead =
            g.ahead ∙ ap (joined g.done) (attempt_acked broadcast since t good)
            ∙ ap (λ (l : List Acked). text_of l behind.unacked behind.ending)
            (sym (append_snoc g.done one behind.acked));
        count = omega (arith, g.count, length-append g.done (one ∷ []));
        written =
            ap (λ (l : List ℕ). set l (at + acked) word) g.written
            ∙ rw (← words) (paste_one before (map byte_word g.done) at word (omega (arith, words, g.long)))
            ∙ ap (λ (b : ℕ). pasted before at (map byte_word g.done ++ (b + (since + 1) * 0x100) ∷ [])) is
            ∙ ap (pasted before at) (sym (map-append byte_word g.done (one ∷ [])));
        long = length-set records (at + acked) word ∙ g.long;
        low = low_drop 10 rest g.low;
        spent = omega (arith, g.spent, t.some, t.whole, length-drop 10 rest);
        made = omega (arith, g.made, t.some);
      })

pub going_all : {text : List ℕ} {broadcast : Bool} {bytes most at : ℕ} {before records rest : List ℕ}
    {left missing since acked : ℕ} → Going text broadcast bytes most at before records rest left missing since acked
    → goes_on left missing rest ≡ false
    → {ending : Ending} → ending ≡ ending_by (ending_in missing left (cut_in rest))
    → Wrote (text_from most broadcast bytes 0 text) at before
    (record { acked = acked; unacked = since; ending = ending }) records
going_all {text} {broadcast} {bytes} {most} {at} {before} {records} {rest} {left} {missing} {since} {acked} g stop
    {ending} is =
    let last = no_attempt left missing broadcast since rest (stops left missing rest stop) in
    let is-text
    : text_from most broadcast bytes 0 text ≡ text_of g.done since (ending_in missing left (cut_in rest)) =
    g.ahead ∙ ap (joined g.done) last
    ∙ ap (λ (l : List Acked). text_of l since (ending_in missing left (cut_in rest))) (append-nil g.done)
    in
    rw is-text
    (record {
      told = ap₂ (λ (n : ℕ) (e : Ending). record { acked = n; unacked = since; ending = e }) g.count is;
      written = g.written;
    })

-- ---- put_data

module _ (long : Bool) (levels : List ℕ) {head : Head} (is_head : head ≡ head_of levels) where
  ended : head.ending ≡ ending_by (end_in header levels)
  unfolding head_of
  ended = ap (λ (h : Head). h.ending) is_head

  module _ (low : Low levels) where
    bounded : Bounded (read_of false levels)
    bounded = reading_bounded false levels low

    bit_read : head.front.said / 0x20 % 2 ≡ get_or (given_in header levels) 0 0
    unfolding head_of read_of
    bit_read = rw is_head (omega (arith, bounded.bit))

    bytes_read : head.front.said / 0x400 ≡ get_or (given_in header levels) 4 0
    unfolding head_of read_of
    bytes_read = rw is_head (omega (arith, bounded.bit, bounded.control))

    -- a header that came to the data, and slots of it
    pub data_text : {most : ℕ} → head.ending ≡ BrokenData → data_place < length levels
        → most ≡ attempts_of long (eqb (head.front.said / 0x20 % 2) 0) (head.front.said / 0x400)
        → text_from most (eqb (head.front.said / 0x20 % 2) 0) (head.front.said / 0x400) 0 (drop data_place levels)
        ≡ data_of long (given_in header levels) levels
    unfolding data_of
    data_text {most} broken begun is =
        let came = broken_data (end_in header levels) (sym ended ∙ broken) in
        rw (is, bit_read, bytes_read) (simp (eq-eqb _ _ came, lt-ltb _ _ begun))

  pub data_none : (head.ending ≡ BrokenData → length levels ≤ data_place)
      → data_of long (given_in header levels) levels ≡ text_of [] 0 (end_in header levels)
  unfolding data_of
  data_none none =
      ⊎_elim
      (λ (came : eqb (end_in header levels) end_broken_data ≡ true).
      let broken = ended ∙ ap ending_by (eqb-true (end_in header levels) end_broken_data came) in
      simp (came, le-ltb data_place (length levels) (none broken)))
      (λ (other : eqb (end_in header levels) end_broken_data ≡ false). simp other)
      (either (eqb (end_in header levels) end_broken_data))

  pub no_body : (head.ending ≡ BrokenData → length levels ≤ data_place) → (at : ℕ) (records : List ℕ)
      → Wrote (data_of long (given_in header levels) levels) at records
      (record { acked = 0; unacked = 0; ending = head.ending }) records
  no_body none at records =
      rw (data_none none)
      (record {
        told = ap (λ (e : Ending). record { acked = 0; unacked = 0; ending = e }) ended;
        written = paste-zero records at [];
      })

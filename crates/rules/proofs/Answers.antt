-- Answers as words: the drive bits of each, and what two answers to one host word share.
use mathlib.Core.Path.{◌≡◌}
use Prim.Native.Nat.{ℕ, ◌%◌}
use native.Mathlib.Omega.{arith}
use Rattle.line.specs.Slot.{host, kind_of}
use Rattle.isolation.specs.Runs.{shown, latest}
use Rattle.rules.specs.Step.{refused_word, word_of}
use Rattle.std.specs.Prelude.{Ok, Err}
use Rattle.rules.specs.Answers.{number_of}
use Rattle.rules.specs.declared.answer.Refusal.{Refusal}
use Rattle.rules.specs.declared.answer.Reply.TheVariants.{Taken, Written, Read}

pub latest_taken : (d x : ℕ) → latest d (word_of (Ok (Taken x))) ≡ x % 4
unfolding latest word_of
latest_taken d x =
    let e : kind_of (word_of (Ok (Taken x))) ≡ 8 = omega arith in
    rw e (omega arith)

pub latest_written : (d x : ℕ) → latest d (word_of (Ok (Written x))) ≡ x % 4
unfolding latest word_of
latest_written d x =
    let e : kind_of (word_of (Ok (Written x))) ≡ 9 = omega arith in
    rw e (omega arith)

pub latest_read : (d v x : ℕ) → latest d (word_of (Ok (Read v x))) ≡ x % 4
unfolding latest word_of
latest_read d v x =
    let e : kind_of (word_of (Ok (Read v x))) ≡ 10 = omega arith in
    rw e (omega arith)

-- of any number, not of the ten alone
pub latest_refused_word : (d n : ℕ) → latest d (refused_word n) ≡ d
unfolding latest
latest_refused_word d n =
    let k : kind_of (refused_word n) ≡ 15 = omega arith in
    rw k

pub latest_refused : (d : ℕ) (e : Refusal) → latest d (word_of (Err e)) ≡ d
unfolding word_of
latest_refused d e = latest_refused_word d (number_of e)

pub shown_written : (x y : ℕ) → shown host (word_of (Ok (Written x))) ≡ shown host (word_of (Ok (Written y)))
unfolding shown word_of
shown_written x y = omega arith

pub shown_read : (v x y : ℕ) → shown host (word_of (Ok (Read v x))) ≡ shown host (word_of (Ok (Read v y)))
unfolding shown word_of
shown_read v x y = omega arith

-- The data of a frame: how many bytes and attempts there are, how large they are, and how it can end.
use mathlib.Core.Bool.{Bool, true, false}
use mathlib.Core.List.{List, []}
use mathlib.Core.Path.{◌≡◌, refl}
use Prim.Native.Nat.{ℕ, zero, suc, ◌+◌, ◌*◌, ◌-◌, ◌≤◌, ◌<◌}
use native.Mathlib.Omega.{arith}
use borrow.Author.Tests.{ltb-false}
use lib.Dec.{eqb, ltb}
use lib.ListN.{drop, get_or, length, length-drop}
use Rattle.line.specs.Choice.{pick}
use Rattle.line.specs.Numbers.{end_broken_data, end_short, end_whole}
use Rattle.logs.specs.Frames.{Low}
use Rattle.logs.specs.Data.{Text, attempt_slots, behind, byte_in, counts, cut_off, no_byte, text_from, text_of}
use Rattle.logs.specs.Relied.{fields_at}
use Rattle.logs.proofs.Fields.{number_low}
use Rattle.logs.proofs.Frames.{low_drop}

-- the data of such levels, with so many fields before it, at most so many attempts and so many since the last byte
pub record Within (fields attempts since : ℕ) (levels : List ℕ) (t : Text) : Type 0 where
  pub ending : t.ending ≤ 10
  pub given : fields_at t.ending ≡ fields
  pub acked : length t.acked ≤ attempts
  pub slots : length t.acked * attempt_slots ≤ length levels
  pub unacked : t.unacked ≤ since + attempts
  pub took : (i : ℕ) → (get_or t.acked i no_byte).attempts ≤ since + attempts
  pub took_one : (i : ℕ) → i < length t.acked → 1 ≤ (get_or t.acked i no_byte).attempts
  pub byte : Low levels → (i : ℕ) → (get_or t.acked i no_byte).byte < 256

-- none is left
pub ended : (attempts since ending : ℕ) (levels : List ℕ) → ending ≤ 10
    → Within (fields_at ending) attempts since levels (text_of [] since ending)
ended attempts since ending levels h = record {
  ending = h;
  given = refl;
  acked = omega arith;
  slots = omega arith;
  unacked = omega arith;
  took = λ i. omega arith;
  took_one = λ i h. omega arith;
  byte = λ low i. omega arith;
}

-- a byte at the front
one_more : (attempts since byte : ℕ) (levels : List ℕ) (t : Text) → attempt_slots ≤ length levels
    → (Low levels → byte < 256) → Within 5 attempts 0 (drop attempt_slots levels) t
    → Within 5 (suc attempts) since levels (behind byte (since + 1) t)
one_more attempts since byte levels t h low w = record {
  ending = w.ending;
  given = w.given;
  acked = omega arith;
  slots = omega (arith, length-drop attempt_slots levels);
  unacked = omega arith;
  took = took;
  took_one = took_one;
  byte = byte_low;
}
  where
    took : (i : ℕ) → (get_or (behind byte (since + 1) t).acked i no_byte).attempts ≤ since + suc attempts
    took zero = omega arith
    took (suc j) = omega (arith, w.took j)

    took_one : (i : ℕ) → i < length (behind byte (since + 1) t).acked → 1 ≤ (get_or (behind byte (since + 1) t).acked i no_byte).attempts
    took_one zero h = omega arith
    took_one (suc j) h = w.took_one j (omega arith)

    byte_low : Low levels → (i : ℕ) → (get_or (behind byte (since + 1) t).acked i no_byte).byte < 256
    byte_low h zero = low h
    byte_low h (suc j) = w.byte (low_drop attempt_slots levels h) j

-- of levels further on, and fewer attempts
pub weaker : {fields fewer since attempts earlier : ℕ} {levels : List ℕ} {t : Text} (place : ℕ) → fewer ≤ attempts
    → since + fewer ≤ earlier + attempts → Within fields fewer since (drop place levels) t
    → Within fields attempts earlier levels t
weaker {levels = levels} place h k w = record {
  ending = w.ending;
  given = w.given;
  acked = omega arith;
  slots = omega (arith, length-drop place levels);
  unacked = omega arith;
  took = λ i. omega (arith, w.took i);
  took_one = w.took_one;
  byte = λ low. w.byte (low_drop place levels low);
}

-- one of two ends
either_end : (t : Bool) (attempts since : ℕ) {one other : ℕ} (levels : List ℕ)
    → Within 5 attempts since levels (text_of [] since one) → Within 5 attempts since levels (text_of [] since other)
    → Within 5 attempts since levels (text_of [] since (pick t one other))
either_end true attempts since levels w v = w
either_end false attempts since levels w v = v

pub text_within : (attempts : ℕ) (broadcast : Bool) (missing since : ℕ) (levels : List ℕ)
    → Within 5 attempts since levels (text_from attempts broadcast missing since levels)
unfolding text_from fields_at
text_within zero broadcast missing since levels =
    either_end (eqb missing 0) 0 since levels (ended 0 since end_whole levels (omega arith))
    (ended 0 since end_short levels (omega arith))
text_within (suc attempts) broadcast missing since levels =
    by (eqb missing 0) (ltb (length levels) attempt_slots) (counts broadcast levels) refl
    (text_within attempts broadcast (missing - 1) 0 (drop attempt_slots levels))
    (text_within attempts broadcast missing (since + 1) (drop attempt_slots levels))
  where
    by : (whole cut counted : Bool) → ltb (length levels) attempt_slots ≡ cut → {one none : Text}
        → Within 5 attempts 0 (drop attempt_slots levels) one
        → Within 5 attempts (since + 1) (drop attempt_slots levels) none
        → Within 5 (suc attempts) since levels (pick whole (text_of [] since end_whole)
        (pick cut (text_of [] since (cut_off levels)) (pick counted (behind (byte_in levels) (since + 1) one) none)))
    by true cut counted e w v = ended (suc attempts) since end_whole levels (omega arith)
    by false true counted e w v =
        either_end (eqb (length levels) 0) (suc attempts) since levels
        (ended (suc attempts) since end_short levels (omega arith))
        (ended (suc attempts) since end_broken_data levels (omega arith))
    by false false true e w v =
        one_more attempts since (byte_in levels) levels _ (ltb-false _ _ e) (λ low. number_low 8 levels low) w
    by false false false e w v = weaker attempt_slots (omega arith) (omega arith) v

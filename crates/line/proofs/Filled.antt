-- A lent list that is written from the front, place by place, and keeps what stands behind.
use mathlib.Core.Path.{◌≡◌, refl, sym, ◌∙◌}
use mathlib.Core.List.{List, [], ◌∷◌, ◌++◌, append_assoc}
use Prim.Native.Nat.{ℕ, ◌+◌, ◌<◌}
use native.Mathlib.Numerals.{add-one}
use native.Mathlib.Omega.{arith}
use lib.ListN.{length, take, drop, set, length-set, take-append-drop}
use lib.Seq.{drop-drop, drop-set-lt, take-suc-set}

module _ {A : Type 0} where
  -- `whole` is being written over `first`: i of its elements stand in `now`, and `rest` is to come
  pub record Filled (whole first now rest : List A) (i : ℕ) : Type 0 where
    pub split : whole ≡ take i now ++ rest
    pub kept : drop i now ≡ drop i first
    pub long : length now ≡ length first

  pub nothing_filled : (whole first : List A) → Filled whole first first whole 0
  nothing_filled whole first = record { split = refl; kept = refl; long = refl }

  -- one store at the next place
  pub one_filled : {whole first now rest : List A} {i : ℕ} (v : A) → Filled whole first now (v ∷ rest) i
      → i < length now
      → Filled whole first (set now i v) rest (i + 1)
  one_filled {whole} {first} {now} {rest} {i} v f room =
      record {
        split = f.split ∙ rw (add-one i, take-suc-set now i v, append_assoc);
        kept = drop-set-lt (i + 1) now i v (omega arith) ∙ rw (← drop-drop 1 i now, f.kept, drop-drop 1 i first);
        long = length-set now i v ∙ f.long;
      }

  pub all_filled : {whole first now : List A} {i : ℕ} → Filled whole first now [] i → now ≡ whole ++ drop i first
  all_filled {whole} {first} {now} {i} f = sym (rw (f.split, append_assoc, ← f.kept) (take-append-drop i now))

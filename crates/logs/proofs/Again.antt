-- The test for "again" against what it means.
use mathlib.Core.Bool.{true, ◌&&◌}
use mathlib.Core.List.{List, [], ◌∷◌, map}
use mathlib.Core.Path.{◌≡◌, refl, sym, ap, ap₂, ◌∙◌}
use Prim.Native.Nat.{ℕ}
use borrow.Author.Tests.{eq-eqb, eqb-true}
use lib.ListN.{get_or-map, get_or, length, length-map}
use lib.Seq.{ext_get_or}
use Rattle.line.proofs.Either.{both}
use Rattle.line.specs.Cases.{same}
use Rattle.logs.specs.Data.{Acked, no_byte}
use Rattle.logs.specs.Relied.{Exactly, SaysAgain, SaysSame}
use Rattle.logs.specs.Readings.{Reading, bytes_in, equal_frames, equal_said, took_in}

pub same_lists : (xs ys : List ℕ) → same xs ys ≡ true → xs ≡ ys
same_lists [] [] e = refl
same_lists [] (y ∷ ys) e = cc
same_lists (x ∷ xs) [] e = cc
same_lists (x ∷ xs) (y ∷ ys) e =
    let parts = both _ _ e in
    ap₂ ◌∷◌ (eqb-true x y parts.0) (same_lists xs ys parts.1)

pub same_self : (xs : List ℕ) → same xs xs ≡ true
same_self [] = refl
same_self (x ∷ xs) = rw (eq-eqb x x refl) (same_self xs)

-- what is told of ACKed bytes in order is the same exactly if there are as many and it is the same at each place
module _ (told : Acked → ℕ) (xs ys : List Acked) where
  pub as_many_by : map told ys ≡ map told xs → length xs ≡ length ys
  as_many_by e = sym (length-map xs told) ∙ ap length (sym e) ∙ length-map ys told

  pub at_each : map told ys ≡ map told xs → (i : ℕ) → told (get_or xs i no_byte) ≡ told (get_or ys i no_byte)
  at_each e i =
      sym (get_or-map told xs i no_byte) ∙ ap (λ (l : List ℕ). get_or l i (told no_byte)) (sym e)
      ∙ get_or-map told ys i no_byte

  pub by_each : length xs ≡ length ys → ((i : ℕ) → told (get_or xs i no_byte) ≡ told (get_or ys i no_byte))
      → map told xs ≡ map told ys
  by_each many each =
      ext_get_or (told no_byte) (map told xs) (map told ys) (length-map xs told ∙ many ∙ sym (length-map ys told))
      (λ i h. get_or-map told xs i no_byte ∙ each i ∙ sym (get_or-map told ys i no_byte))

abbrev pub byte_of : Acked → ℕ
byte_of a = a.byte

abbrev pub took_of : Acked → ℕ
took_of a = a.attempts

module _ (before r : Reading) where
  pub said_exactly : Exactly (equal_said before r) (SaysSame before r)
  unfolding equal_said
  said_exactly = record {
    only = λ e.
        let parts = both (same before.given r.given) _ e in
        let given = same_lists before.given r.given parts.0 in
        let bytes = same_lists (bytes_in before) (bytes_in r) parts.1 in
        record {
          fields = sym (ap length given);
          values = λ i. sym (ap (λ (l : List ℕ). get_or l i 0) given);
          as_many = as_many_by byte_of r.text.acked before.text.acked bytes;
          bytes = at_each byte_of r.text.acked before.text.acked bytes;
        };
    always = λ says.
        let given = ext_get_or 0 r.given before.given says.fields (λ i h. says.values i) in
        let bytes = by_each byte_of r.text.acked before.text.acked says.as_many says.bytes in
        rw (given, bytes, same_self before.given) (same_self (bytes_in before));
  }

  pub equal_exactly : Exactly (equal_frames before r) (SaysAgain before r)
  unfolding equal_frames
  equal_exactly = record {
    only = λ e.
        let (lists, after) = both (equal_said before r && same (took_in before) (took_in r)) _ e in
        let (said, each) = both (equal_said before r) _ lists in
        let took = same_lists (took_in before) (took_in r) each in
        record {
          said = said_exactly.only said;
          took =
              record {
                each = at_each took_of r.text.acked before.text.acked took;
                after = sym (eqb-true before.text.unacked r.text.unacked after);
              };
        };
    always = λ says.
        let said = said_exactly.always says.said in
        let each = by_each took_of r.text.acked before.text.acked says.said.as_many says.took.each in
        rw (said, each, says.took.after, same_self (took_in before)) (eq-eqb before.text.unacked _ refl);
  }

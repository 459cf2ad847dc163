-- A verdict as one number: the place fits its half, so that the number tells the whole verdict.
use mathlib.Core.Bool.{Bool, true, false}
use mathlib.Core.Path.{◌≡◌, refl, sym, subst, ap, ap₂, ◌∙◌}
use mathlib.Core.List.{List}
use Prim.Native.Nat.{ℕ, ◌+◌, ◌*◌, ◌≤◌, ◌<◌}
use native.Mathlib.Omega.{arith}
use borrow.Author.Tests.{ltb-true, ltb-false}
use Rattle.std.specs.Prelude.{Ok, Err}
use lib.Dec.{eqb, ltb}
use lib.ListN.{length}
use Rattle.line.specs.Choice.{pick}
use Rattle.contenders.specs.Contest.{first_out, first_twin, winner_of, verdict_of, contest_of, numbers_after}
use Rattle.contenders.specs.Contest.{Contested, ContestedWord, NamedRightly, Outcome, word_half, verdict_in}
use Rattle.contenders.specs.declared.Contender.{Contender}
use Rattle.contenders.specs.declared.Verdict.{Verdict}
use Rattle.contenders.specs.declared.ContestError.TheVariants.{ShortList, WrongCount, OutOfRange, Alike}

-- an outcome that names a place below 50, where a winner is one of the contenders
abbrev Fits : List Contender → Outcome → Type 0
Fits cs o = ((verdict_of o).number ≡ 0 → (verdict_of o).place < length cs) → (verdict_of o).place < 50

-- what fits on both ways of a test
on_both : (cs : List Contender) (b : Bool) (o o' : Outcome) → (b ≡ true → Fits cs o) → (b ≡ false → Fits cs o')
    → Fits cs (pick b o o')
on_both cs true o o' f g = f refl
on_both cs false o o' f g = g refl

contest_fits : (cs : List Contender) (numbers : List ℕ) → Fits cs (contest_of cs numbers)
unfolding contest_of
contest_fits cs numbers =
    let unlike : Outcome = pick (ltb (first_twin cs) (length cs)) (Err (Alike (first_twin cs))) (Ok (winner_of cs)) in
    let ranged : Outcome = pick (ltb (first_out cs) (length cs)) (Err (OutOfRange (first_out cs))) unlike in
    let few : Outcome = pick (ltb 50 (length cs)) (Err WrongCount) ranged in
    on_both cs (ltb (length numbers) (length cs)) (Err ShortList) (pick (eqb (length cs) 0) (Err WrongCount) few)
    (λ _ _. omega arith) (λ _.
    on_both cs (eqb (length cs) 0) (Err WrongCount) few (λ _ _. omega arith) (λ _.
    on_both cs (ltb 50 (length cs)) (Err WrongCount) ranged (λ _ _. omega arith) (λ f.
    let most : length cs ≤ 50 = ltb-false 50 (length cs) f in
    on_both cs (ltb (first_out cs) (length cs)) (Err (OutOfRange (first_out cs))) unlike
    (λ t _. let out : first_out cs < length cs = ltb-true _ _ t in omega arith) (λ _.
    on_both cs (ltb (first_twin cs) (length cs)) (Err (Alike (first_twin cs))) (Ok (winner_of cs))
    (λ t _. let twin : first_twin cs < length cs = ltb-true _ _ t in omega arith) (λ _ won. omega (arith, won refl))))))

module _ {cs : List Contender} {numbers : List ℕ} {r : Outcome} {after : List ℕ} {v : Verdict} (e : v ≡ verdict_of r)
    (c : Contested cs numbers r after) (named : NamedRightly cs (verdict_of r)) where
  pub place_fits : v.place < 50
  place_fits =
      subst (λ (w : Verdict). w.place < 50) (sym (e ∙ ap verdict_of c.outcome))
      (contest_fits cs numbers (λ none. subst (λ (w : Verdict). w.place < length cs) (ap verdict_of c.outcome)
      (named.winner (ap (λ (o : Outcome). (verdict_of o).number) c.outcome ∙ none)).within))

  module _ {word : ℕ} (is : word ≡ v.number * word_half + v.place) where
    read_off : verdict_in word ≡ verdict_of r
    read_off =
        let fits = place_fits in
        ap₂ (λ (n p : ℕ). record { number = n; place = p }) (omega arith) (omega arith) ∙ e

    pub contest_told : ContestedWord cs numbers word after
    contest_told =
        record {
          verdict = read_off ∙ ap verdict_of c.outcome;
          written = c.written ∙ ap (numbers_after cs numbers) (sym read_off);
        }

    pub word_told : NamedRightly cs (verdict_in word)
    word_told = subst (NamedRightly cs) (sym read_off) named

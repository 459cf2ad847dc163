-- A level that overrules what the unit drives as master, in two steps: the end of its request first, then the field,
-- which a loser goes through as a receiver.
use Prim.Native.Nat.{ℕ}
use mathlib.Core.Bool.{Bool, true, false, not, ◌&&◌, and-false, and-true}
use mathlib.Core.Path.{◌≡◌, refl, sym, subst}
use lib.Dec.{T}
use Rattle.line.specs.Choice.{pick}
use Rattle.place.specs.Set.{frame·leads}
use Rattle.place.specs.Frame.{done_of}
use Rattle.place.specs.Masters.{clash_of, contested_of, lost_of}
use Rattle.place.specs.Step.{at_field, in_field, moved, overruled_of}
use Rattle.place.specs.declared.Field.{Field}
use Rattle.place.specs.declared.Frame.{Frame}
use Rattle.place.specs.declared.Event.TheVariants.{Aborted, Lost}
use Rattle.place.specs.declared.Moved.{Moved}
use Rattle.place.specs.declared.View.{View}

-- the lead is taken away by a loss alone
pub lead_after : (f : Frame) (lost : Bool) → frame·leads (f.leads && not lost) f ≡ pick lost (lost_of f) f
unfolding lost_of
lead_after f true = rw (and-false f.leads)
lead_after f false = rw (and-true f.leads)

-- where both tests hold, the choice is the end
to_end : {A : Type 0} (clash contested : Bool) (lost end on : A) → (clash && not contested) ≡ true
    → end ≡ pick clash (pick contested lost end) on
to_end true false lost end on e = refl
to_end true true lost end on e = absurd (subst T (sym e) tt)
to_end false contested lost end on e = absurd (subst T (sym e) tt)

-- elsewhere it rests on the first alone
to_field : {A : Type 0} (clash contested : Bool) (field : Bool → A) (end : A) → (clash && not contested) ≡ false
    → field clash ≡ pick clash (pick contested (field true) end) (field false)
to_field true true field end e = refl
to_field true false field end e = absurd (subst T e tt)
to_field false contested field end e = refl

module _ (f : Frame) (field : Field) (n : ℕ) (bit : Bool) (v : View) where
  -- the field, with a loss told where there is one
  abbrev through : Bool → Moved
  through lost = let m = at_field (pick lost (lost_of f) f) field n bit v in moved (pick lost Lost m.event) m.frame

  pub overruled_ends : (clash_of f field n bit v && not (contested_of field n)) ≡ true
      → moved Aborted (done_of f) ≡ in_field f field n bit v
  unfolding in_field overruled_of
  overruled_ends e = to_end (clash_of f field n bit v) (contested_of field n) _ _ _ e

  pub goes_through : (clash_of f field n bit v && not (contested_of field n)) ≡ false
      → through (clash_of f field n bit v) ≡ in_field f field n bit v
  unfolding in_field overruled_of
  goes_through e = to_field (clash_of f field n bit v) (contested_of field n) through _ e

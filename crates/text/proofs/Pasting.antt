-- A piece written behind what stands at a text's front.
use mathlib.Core.Path.{◌≡◌, ◌∙◌, ap, sym}
use mathlib.Core.List.{List, ◌++◌}
use Prim.Native.Nat.{ℕ, ◌+◌}
use lib.ListN.{length, drop}
use lib.Seq.{take_at, drop_at, drop-drop}
use Rattle.text.specs.Writing.{pasted}

-- written behind what stands at the front, a piece makes the front longer and leaves the rest
pub behind : (front before piece text : List ℕ) (at : ℕ) → length front ≡ at → text ≡ front ++ drop at before
    → pasted text at piece ≡ front ++ piece ++ drop (at + length piece) before
behind front before piece text at e is =
    let rest : drop (at + length piece) (front ++ drop at before) ≡ drop (at + length piece) before =
    sym (drop-drop (length piece) at (front ++ drop at before))
    ∙ ap (drop (length piece)) (drop_at front (drop at before) at e)
    ∙ drop-drop (length piece) at before
    in
    ap (λ (t : List ℕ). pasted t at piece) is
    ∙ ap (λ (f : List ℕ). f ++ piece ++ drop (at + length piece) (front ++ drop at before))
    (take_at front (drop at before) at e)
    ∙ ap (λ (r : List ℕ). front ++ piece ++ r) rest

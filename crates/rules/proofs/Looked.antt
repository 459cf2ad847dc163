-- A claim about what a word comes to, from a proof for an accepted one and one for each refusal.
use mathlib.Core.Path.{◌≡◌}
use Rattle.std.specs.Prelude.{Ok, Err}
use Rattle.rules.specs.Answers.{Looked}
use Rattle.rules.specs.Registers.{Told, denied, unless}
use Rattle.rules.specs.declared.answer.Refusal.{Refusal}

pub unless_ind : (P : Told → Type 0) (looked : Looked) (told : Told) → P told → ((e : Refusal) → P (denied e))
    → P (unless looked told)
unless_ind P (Ok x) told t d = t
unless_ind P (Err e) told t d = d e

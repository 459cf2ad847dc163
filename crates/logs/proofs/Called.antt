-- A reading that is called from C: what is given back tells how it ended.
use mathlib.Core.Path.{◌≡◌, ap, sym, ◌∙◌}
use mathlib.Core.List.{List}
use Prim.Native.Nat.{ℕ}
use Rattle.logs.specs.Log.{CalledLog, LogRead, ReadLog, frames_after, long_in, number_of}

pub called : {mode : ℕ} {slots before : List ℕ} {r : LogRead} {after : List ℕ} (count : ℕ)
    → ReadLog (long_in mode) slots before r after → {end : LogRead} → r ≡ end
    → CalledLog mode slots before count (number_of end) after (frames_after end count)
called {mode} {slots} {before} {r} {after} count read {end} is =
    let ends = sym is ∙ read.ends in
    record {
      number = ap number_of ends;
      frames = ap (λ (x : LogRead). frames_after x count) ends;
      records = rw (← read.ends) read;
    }

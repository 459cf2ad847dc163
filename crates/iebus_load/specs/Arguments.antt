-- What the arguments ask for.
use Rattle.std.specs.Option.{option_and_then}
use Rattle.std.specs.Str.{bytes_eq}
use Rattle.std.specs.Prelude.{List, Option, Some, None, ℕ, ltb}
use Rattle.line.specs.Choice.{pick}
use Rattle.pieces.specs.Decimal.{number_of}
use Rattle.pieces.specs.Pieces.{bytes_of}
use Rattle.iebus_load.specs.declared.arguments.View.TheVariants.{Summary, Plot}
use Rattle.iebus_load.specs.declared.arguments.Wanted.{Wanted}

-- of so many arguments with the program's own name: the first is the window, and without a second the summary is meant
unfoldable pub asked_of : ℕ → List ℕ → List ℕ → Option Wanted
asked_of count window second =
    option_and_then
    (λ (w : ℕ).
    pick (ltb count 3) (Some (record { view = Summary; window = w }))
    (pick (bytes_eq second (bytes_of "svg")) (Some (record { view = Plot; window = w })) None))
    (number_of window)

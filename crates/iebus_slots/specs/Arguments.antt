-- The arguments: least and most width for 0, for 1 and for start, each a decimal number.
use Rattle.std.specs.Prelude.{List, ℕ, Option, Some, None}
use Rattle.pieces.specs.Decimal.{number_of}
use Rattle.pulses.specs.declared.Range.{Range}
use Rattle.pulses.specs.declared.Setting.{Setting}

-- widths go "up to 65,535", as numbers do
unfoldable pub range_of : Option ℕ → Option ℕ → Option Range
range_of (Some least) (Some most) = Some (record { least = least; most = most })
range_of (Some least) None = None
range_of None most = None

unfoldable pub setting_of : Option Range → Option Range → Option Range → Option Setting
setting_of (Some z) (Some o) (Some s) = Some (record { zero = z; one = o; start = s })
setting_of (Some z) (Some o) None = None
setting_of (Some z) None s = None
setting_of None o s = None

-- of six texts, in order
abbrev pub asked_of : (zero-least zero-most one-least one-most start-least start-most : List ℕ) → Option Setting
asked_of zl zm ol om sl sm =
    setting_of (range_of (number_of zl) (number_of zm)) (range_of (number_of ol) (number_of om))
    (range_of (number_of sl) (number_of sm))

-- What is left over of an input behind the words that are read.
use Rattle.std.specs.Prelude.{Option, Some, None, ℕ, ◌%◌, eqb, ltb}
use Rattle.line.specs.Choice.{pick}
use Rattle.words.specs.declared.LeftOver.{LeftOver}
use Rattle.words.specs.declared.LeftOver.TheVariants.{Short, More}

-- of so many bytes, where at most so many are read: `More` if any byte follows them, else `Short` for 1 to 3 bytes left
-- over
unfoldable pub left_over_of : ℕ → ℕ → Option LeftOver
left_over_of most bytes = pick (ltb most bytes) (Some More) (pick (eqb (bytes % 4) 0) None (Some Short))

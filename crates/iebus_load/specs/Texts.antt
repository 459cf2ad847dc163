-- What is printed of a log: a summary, or a plot as SVG.
use Rattle.std.specs.Prelude.{List, [], ◌∷◌, ◌++◌, ℕ, ◌+◌, ◌-◌, ◌*◌, ◌/◌}
use Rattle.pieces.specs.Pieces.{bytes_of}
use Rattle.iebus_load.specs.Forms.{woven}

-- what is told of a log beside its figures: its slots, those of them not idle, the window, the largest figure and the
-- first place where it was reached
pub record LogFacts : Type 0 where
  pub slots : ℕ
  pub busy : ℕ
  pub window : ℕ
  pub largest : ℕ
  pub place : ℕ

-- so many of so many, in percent, rounded down
abbrev pub percent_of : ℕ → ℕ → ℕ
percent_of part whole = part * 100 / whole

-- ---- the summary: a number and what it is, line by line

abbrev pub summary_form : List ℕ
summary_form =
    bytes_of "@ slots\n"
    ++ bytes_of "@ not idle\n"
    ++ bytes_of "@ % of the slots\n"
    ++ bytes_of "@ slots in the window\n"
    ++ bytes_of "@ not idle there at most\n"
    ++ bytes_of "@ % of the window\n"
    ++ bytes_of "@ is the first slot after which it was so\n"

unfoldable pub summary_numbers : LogFacts → List ℕ
summary_numbers f =
    f.slots ∷ f.busy ∷ percent_of f.busy f.slots ∷ f.window ∷ f.largest
    ∷ percent_of f.largest f.window ∷ f.place ∷ []

unfoldable pub summary_of : LogFacts → List ℕ
summary_of f = woven summary_form (summary_numbers f)

-- ---- the plot: the figures over the slots, as high as the window is full, and a mark at the largest

-- up to the beginning of the curve
unfoldable pub head_form : List ℕ
head_form =
    bytes_of "<svg xmlns=\"http://www.w3.org/2000/svg\" viewBox=\"0 0 960 400\" font-family=\"sans-serif\" "
    ++ bytes_of "font-size=\"15\">\n"
    ++ bytes_of "<title>Load of the line</title>\n"
    ++ bytes_of "<rect width=\"960\" height=\"400\" fill=\"#fff\"/>\n"
    ++ bytes_of "<text x=\"70\" y=\"30\" font-size=\"19\">Slots not idle among the latest @</text>\n"
    ++ bytes_of "<text x=\"70\" y=\"55\" fill=\"#a30\">at most @, @ %, first after slot @</text>\n"
    ++ bytes_of "<text x=\"910\" y=\"55\" text-anchor=\"end\">@ of @ slots not idle, @ %</text>\n"
    ++ bytes_of "<g text-anchor=\"end\">\n"
    ++ bytes_of "<text x=\"62\" y=\"85\">100 %</text>\n"
    ++ bytes_of "<text x=\"62\" y=\"155\">75 %</text>\n"
    ++ bytes_of "<text x=\"62\" y=\"225\">50 %</text>\n"
    ++ bytes_of "<text x=\"62\" y=\"295\">25 %</text>\n"
    ++ bytes_of "<text x=\"62\" y=\"365\">0 %</text>\n"
    ++ bytes_of "</g>\n"
    ++ bytes_of "<g text-anchor=\"middle\">\n"
    ++ bytes_of "<text x=\"70\" y=\"384\">slot 0</text>\n"
    ++ bytes_of "<text x=\"280\" y=\"384\">@</text>\n"
    ++ bytes_of "<text x=\"490\" y=\"384\">@</text>\n"
    ++ bytes_of "<text x=\"700\" y=\"384\">@</text>\n"
    ++ bytes_of "<text x=\"910\" y=\"384\">@</text>\n"
    ++ bytes_of "</g>\n"
    ++ bytes_of "<svg x=\"70\" y=\"80\" width=\"840\" height=\"280\" viewBox=\"0 0 @ @\" "
    ++ bytes_of "preserveAspectRatio=\"none\">\n"
    ++ bytes_of "<g transform=\"matrix(1 0 0 -1 0 @)\">\n"
    ++ bytes_of "<path fill=\"#58a\" d=\"M0 0\n"

-- the labels below the plot are its quarters, as many slots each, so that each is where it says
abbrev pub quarter_of : LogFacts → ℕ
quarter_of f = (f.slots + 3) / 4

unfoldable pub head_numbers : LogFacts → List ℕ
head_numbers f =
    f.window ∷ f.largest ∷ percent_of f.largest f.window ∷ f.place ∷ f.busy ∷ f.slots
    ∷ percent_of f.busy f.slots ∷ quarter_of f ∷ quarter_of f * 2 ∷ quarter_of f * 3 ∷ quarter_of f * 4
    ∷ quarter_of f * 4 ∷ f.window ∷ f.window ∷ []

-- the curve: as high as the figure, then one slot on
unfoldable pub curve_of : List ℕ → List ℕ
curve_of [] = []
curve_of (f ∷ fs) = woven (bytes_of "V@h1\n") (f ∷ []) ++ curve_of fs

-- from its end on: a grid, and a line from the middle of the largest figure's slot up to that figure. The plot is 840
-- wide and 280 high, and begins 70 from the left, 360 from the top
unfoldable pub tail_form : List ℕ
tail_form =
    bytes_of "V0z\"/>\n"
    ++ bytes_of "</g>\n"
    ++ bytes_of "</svg>\n"
    ++ bytes_of "<path fill=\"none\" stroke=\"#000\" stroke-opacity=\".2\" d=\"M70 80H910M70 150H910M70 220H910M70 "
    ++ bytes_of "290H910M70 360H910M70 80V360M280 80V360M490 80V360M700 80V360M910 80V360\"/>\n"
    ++ bytes_of "<path stroke=\"#a30\" stroke-width=\"2\" d=\"M@ 360V@\"/>\n"
    ++ bytes_of "</svg>\n"

unfoldable pub tail_numbers : LogFacts → List ℕ
tail_numbers f =
    (70 + (f.place * 2 + 1) * 420 / (quarter_of f * 4)) ∷ (360 - f.largest * 280 / f.window) ∷ []

unfoldable pub plot_of : LogFacts → List ℕ → List ℕ
plot_of f figures =
    woven head_form (head_numbers f) ++ curve_of figures ++ woven tail_form (tail_numbers f)

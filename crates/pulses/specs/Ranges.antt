-- Ticket 8: "A setting names a closed range of widths for 0, 1 and start, all three disjoint, gaps allowed", and what
-- is refused of it.
use Rattle.std.specs.Prelude.{Bool, ◌&&◌, ◌||◌, leb, ltb}
use Rattle.pulses.specs.declared.Range.{Range}
use Rattle.pulses.specs.declared.Setting.{Setting}

-- "a range with least above most"
abbrev pub turned : Range → Bool
turned r = ltb r.most r.least

-- "two that meet": each begins no later than the other ends
abbrev pub meet : Range → Range → Bool
meet a b = leb a.least b.most && leb b.least a.most

-- "19, a range with least above most, or two that meet"
unfoldable pub bad_ranges : Setting → Bool
bad_ranges s =
    turned s.zero || turned s.one || turned s.start
    || meet s.zero s.one || meet s.zero s.start || meet s.one s.start

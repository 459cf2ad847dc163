-- Ticket 1: "broadcast bit, addresses, control, length (1 to 256)". "A field, any P and A with it, is given when all
-- its slots are there, else it is 0." Document 01, "Frame", has the fields, each with its bits, P and A.
use Rattle.std.specs.Prelude.{Bool, true, false, ◌&&◌, List, [], ◌∷◌, ℕ, ◌+◌, ◌*◌, ◌-◌, eqb, ltb, drop, get_or, length, take}
use Rattle.line.specs.Choice.{pick}
use Rattle.line.specs.Numbers.{end_broken_bit, end_broken_control, end_broken_data, end_broken_length, end_broken_master}
use Rattle.line.specs.Numbers.{end_broken_slave, end_nak_control, end_nak_length, end_nak_slave, end_whole, length_of_zero}

-- the number that levels make behind the bits read already, "highest bit first"
unfoldable pub number_from : ℕ → List ℕ → ℕ
number_from n [] = n
number_from n (level ∷ levels) = number_from (n * 2 + level) levels

-- the number of so many levels from a place on
abbrev pub number_at : List ℕ → ℕ → ℕ → ℕ
number_at levels place bits = number_from 0 (take bits (drop place levels))

-- "length 00H means 256"
abbrev pub length_in : ℕ → ℕ
length_in byte = pick (eqb byte 0) length_of_zero byte

abbrev pub as_it_is : ℕ → ℕ
as_it_is n = n

-- A field of the header: the place of its first slot among a frame's levels, how many bits it has, the place behind its
-- last slot, what its bits mean, how a frame ends that is broken off in it, whether it has an A, and how an individual
-- frame ends with NAK there.
pub record Field : Type 0 where
  pub place : ℕ
  pub bits : ℕ
  pub end : ℕ
  pub means : ℕ → ℕ
  pub broken : ℕ
  pub answered : Bool
  pub nak : ℕ

-- one that nobody answers
abbrev plain : ℕ → ℕ → ℕ → ℕ → Field
plain place bits end broken = record {
  place = place;
  bits = bits;
  end = end;
  means = as_it_is;
  broken = broken;
  answered = false;
  nak = end_whole;
}

abbrev acknowledged : ℕ → ℕ → ℕ → (ℕ → ℕ) → ℕ → ℕ → Field
acknowledged place bits end means broken nak = record {
  place = place;
  bits = bits;
  end = end;
  means = means;
  broken = broken;
  answered = true;
  nak = nak;
}

-- the five fields, in their order
abbrev pub header : List Field
header =
    plain 0 1 1 end_broken_bit ∷ plain 1 12 14 end_broken_master
    ∷ acknowledged 14 12 28 as_it_is end_broken_slave end_nak_slave
    ∷ acknowledged 28 4 34 as_it_is end_broken_control end_nak_control
    ∷ acknowledged 34 8 44 length_in end_broken_length end_nak_length
    ∷ []

-- the place behind the header, where the data begins
abbrev pub data_place : ℕ
data_place = 44

-- what is given for a field all whose slots are there
abbrev pub value_in : List ℕ → Field → ℕ
value_in levels f = f.means (number_at levels f.place f.bits)

-- NAK: the last slot of a field that has an A is 1, in a frame whose broadcast bit is 1
abbrev pub nak_at : List ℕ → Field → Bool
nak_at levels f = f.answered && (eqb (get_or levels 0 0) 1 && eqb (get_or levels (f.end - 1) 0) 1)

-- the values of the fields that are given, in order: none behind one that is broken off or that got NAK
unfoldable pub given_in : List Field → List ℕ → List ℕ
given_in [] levels = []
given_in (f ∷ fs) levels =
    pick (ltb (length levels) f.end) [] (value_in levels f ∷ pick (nak_at levels f) [] (given_in fs levels))

-- how a frame ends in its header; broken off in its data where it has the whole header and no NAK
unfoldable pub end_in : List Field → List ℕ → ℕ
end_in [] levels = end_broken_data
end_in (f ∷ fs) levels =
    pick (ltb (length levels) f.end) f.broken (pick (nak_at levels f) f.nak (end_in fs levels))

-- The header of a frame as the code has it: the fields that are given as a value of a type of its own.
use Rattle.std.specs.Prelude.{false, ◌&&◌, ◌≡◌, List, ℕ, ◌+◌, ◌*◌, ◌<◌, ◌≤◌, eqb, get_or, length}
use Rattle.logs.specs.Fields.{end_in, given_in, header, number_at}
use Rattle.reader.specs.declared.head.Front.{Front}
use Rattle.reader.specs.declared.head.Head.{Head}
use Rattle.reader.specs.Endings.{ending_by}

-- values of the five fields for which a record's words have bits
pub record Values (bit master slave control bytes : ℕ) : Type 0 where
  pub bit_low : bit < 2
  pub master_low : master < 0x1000
  pub slave_low : slave < 0x1000
  pub control_low : control < 0x10
  pub bytes_most : bytes ≤ 0x100

-- a header that gives these fields and ends so
abbrev pub head_in : List ℕ → ℕ → Head
head_in given ending =
    record {
      front = record {
        given = length given;
        said = get_or given 0 0 * 0x20 + get_or given 3 0 * 0x40 + get_or given 4 0 * 0x400;
        addresses = get_or given 1 0 + get_or given 2 0 * 0x1000;
      };
      ending = ending_by ending;
    }

unfoldable pub head_of : List ℕ → Head
head_of levels = head_in (given_in header levels) (end_in header levels)

-- what the first three fields say of a frame that got no NAK at its slave address
pub record Addressed (levels : List ℕ) (front : Front) : Type 0 where
  pub is_front
      : front
      ≡ record {
        given = 3;
        said = get_or levels 0 0 * 0x20;
        addresses = number_at levels 1 12 + number_at levels 14 12 * 0x1000;
      }
  pub no_nak : (eqb (get_or levels 0 0) 1 && eqb (get_or levels 27 0) 1) ≡ false

-- A lent list of records as the contest takes it.
use Rattle.std.specs.Prelude.{List, ℕ, length, get_or}
use Rattle.line.specs.Numbers.{most_contenders}
use Rattle.contenders.specs.Contest.{nobody, first_of, with_contender}
use Rattle.contenders.specs.declared.Contender.{Contender}
use Rattle.contenders.specs.declared.Contenders.{Contenders}

-- a value with the record at a place of a list given
abbrev pub with_record : Contenders → List Contender → ℕ → Contenders
with_record all cs place = with_contender all place (get_or cs place nobody).bit (get_or cs place nobody).address

-- as many contenders as a list has records, and the first 50 of them
abbrev pub gathered_of : List Contender → Contenders
gathered_of cs = record { count = length cs; list = first_of most_contenders cs }

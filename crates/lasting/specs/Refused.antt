-- The number of a call of a host in C.
use Rattle.std.specs.Prelude.{ℕ, ⊤, Ok, Err, Result}
use Rattle.answers.specs.Refused.{error_number as list_number}
use Rattle.keeping.specs.Calls.{refused_state_size}
use Rattle.lasting.specs.declared.calls.CallError.{CallError}
use Rattle.lasting.specs.declared.calls.CallError.TheVariants.{Run, StateSize}

abbrev pub error_number : CallError → ℕ
error_number (Run error) = list_number error
error_number StateSize = refused_state_size

-- 0 where nothing is refused
abbrev pub number_of : Result ⊤ CallError → ℕ
number_of (Ok x) = 0
number_of (Err error) = error_number error

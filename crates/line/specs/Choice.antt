-- Choosing between two values by a test, and a level as a number: what the definitions of every library are written
-- with.
use Rattle.std.specs.Prelude.{Bool, true, false, ℕ}

-- the first where the test is true, the second where it is false
abbrev pub pick : {A : Type 0} → Bool → A → A → A
pick true a b = a
pick false a b = b

-- a level as a number
abbrev pub bit_of : Bool → ℕ
bit_of true = 1
bit_of false = 0

-- a value, then what is made of it
infixl 20 ◌▹◌
abbrev pub ◌▹◌ : {A B : Type 0} → A → (A → B) → B
◌▹◌ x f = f x

-- The columns of digits, byte by byte, as the code makes them.
use mathlib.Core.Bool.{true}
use mathlib.Core.Path.{◌≡◌, ◌∙◌, ap, sym}
use mathlib.Core.List.{List, [], ◌∷◌, ◌++◌, append_assoc}
use Prim.Native.Nat.{ℕ, ◌/◌, ◌%◌}
use native.Mathlib.Omega.{arith}
use lib.Dec.{ltb}
use Rattle.line.specs.Choice.{pick}
use Rattle.text.specs.Hex.{digit_of, hex_of}
use Rattle.pieces.specs.Pieces.{bytes_of}
use Rattle.iebus_dump.specs.Line.{bit_column, control_column, control_name, decimal_of, padded}
use Rattle.iebus_dump.specs.Line.{length_column, route_column}
use Rattle.iebus_dump.specs.Writing.{digit_shown, kind_by}

over_one : (n : ℕ) → n / 1 ≡ n
over_one n = omega arith

pub hex_two : (n : ℕ) → hex_of 2 n ≡ digit_of (n / 0x10) ∷ digit_of n ∷ []
unfolding hex_of
hex_two n = ap (λ (m : ℕ). digit_of (n / 0x10) ∷ digit_of m ∷ []) (over_one n)

abbrev route : ℕ → ℕ → ℕ → ℕ → ℕ → ℕ → ℕ → List ℕ
route place place₁ given master master₁ slave slave₁ =
    digit_shown true (place / 10000 % 10) ∷ digit_shown true (place / 1000 % 10) ∷ digit_shown true (place / 100 % 10)
    ∷ digit_shown true (place / 10 % 10) ∷ digit_shown true (place₁ % 10) ∷ 0x20 ∷ 0x20
    ∷ digit_shown (ltb 1 given) (master / 0x100) ∷ digit_shown (ltb 1 given) (master / 0x10)
    ∷ digit_shown (ltb 1 given) master₁ ∷ 0x20 ∷ 0x3E ∷ 0x20
    ∷ digit_shown (ltb 2 given) (slave / 0x100) ∷ digit_shown (ltb 2 given) (slave / 0x10)
    ∷ digit_shown (ltb 2 given) slave₁ ∷ 0x20 ∷ 0x20 ∷ []

pub route_list : (place given master slave : ℕ)
    → route_column place given master slave ≡ route place place given master master slave slave
unfolding route_column decimal_of hex_of
route_list place given master slave =
    ap (λ (n : ℕ). route place n given master (master / 1) slave (slave / 1)) (over_one place)
    ∙ ap (λ (n : ℕ). route place place given master n slave (slave / 1)) (over_one master)
    ∙ ap (λ (n : ℕ). route place place given master master slave n) (over_one slave)

abbrev decimals : ℕ → ℕ → ℕ → List ℕ
decimals given length length₁ =
    0x20 ∷ digit_shown (ltb 4 given) (length / 100 % 10) ∷ digit_shown (ltb 4 given) (length / 10 % 10)
    ∷ digit_shown (ltb 4 given) (length₁ % 10) ∷ []

pub length_list : (given length : ℕ) → length_column given length ≡ decimals given length length
unfolding length_column decimal_of
length_list given length = ap (λ (n : ℕ). decimals given length n) (over_one length)

pub control_list : (given control : ℕ) → control_column given control
    ≡ (0x20 ∷ digit_shown (ltb 3 given) control ∷ 0x20 ∷ [])
    ++ pick (ltb 3 given) (control_name control) (padded 13 (bytes_of "-"))
unfolding control_column hex_of
control_list given control =
    ap (λ (n : ℕ). (0x20 ∷ digit_shown (ltb 3 given) n ∷ 0x20 ∷ [])
    ++ pick (ltb 3 given) (control_name control) (padded 13 (bytes_of "-"))) (over_one control)

-- the columns of the fields, from the pieces that the code puts
pub fields_made : (place given bit master slave control length : ℕ) (name : List ℕ)
    → name ≡ pick (ltb 3 given) (control_name control) (padded 13 (bytes_of "-"))
    → route_column place given master slave ++ kind_by given bit control ++ name ++ length_column given length
    ≡ route_column place given master slave ++ bit_column given bit ++ control_column given control
    ++ length_column given length
unfolding kind_by
fields_made place given bit master slave control length name is =
    let route = route_column place given master slave in
    let shown : List ℕ = 0x20 ∷ digit_shown (ltb 3 given) control ∷ 0x20 ∷ [] in
    ap (λ (l : List ℕ). l ++ length_column given length)
    (ap (λ (l : List ℕ). l ++ name) (sym (append_assoc route (bit_column given bit) shown))
    ∙ append_assoc (route ++ bit_column given bit) shown name
    ∙ ap (λ (l : List ℕ). route ++ bit_column given bit ++ (shown ++ l)) is
    ∙ ap (λ (l : List ℕ). route ++ bit_column given bit ++ l) (sym (control_list given control)))

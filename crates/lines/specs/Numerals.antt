-- Numbers as the program prints them.
use Rattle.std.specs.Prelude.{ℕ, zero, suc, ◌/◌, ◌%◌, cond, List, [], ◌∷◌, ◌++◌, ltb}
use Rattle.io.specs.Digits.{hex_digit_ascii}

-- a number's decimal digits, the highest first and no zero before it, at most so many of them
unfoldable pub shortest : ℕ → ℕ → List ℕ
shortest zero n = []
shortest (suc more) n = cond (ltb n 10) (hex_digit_ascii n ∷ []) (shortest more (n / 10) ++ (hex_digit_ascii (n % 10) ∷ []))

-- no number of 64 bits has more than twenty
abbrev pub numeral_most : ℕ
numeral_most = 20

abbrev pub numeral : ℕ → List ℕ
numeral = shortest numeral_most

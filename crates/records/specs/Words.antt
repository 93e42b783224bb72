-- "64-bit words, little-endian."
use Rattle.std.specs.Prelude.{ℕ, zero, suc, ◌+◌, ◌*◌, ◌^◌, ◌/◌, ◌%◌, List, [], ◌∷◌, ◌++◌, get_or}
use Rattle.costs.specs.Range.{sum_to}

-- eight bytes to a word, the lowest first
abbrev pub word_bytes : ℕ
word_bytes = 8

-- the word that eight bytes tell
abbrev pub word_of : (ℕ → ℕ) → ℕ
word_of byte = sum_to word_bytes (λ j. byte j * 256 ^ j)

-- word w of a record
unfoldable pub word_at : List ℕ → ℕ → ℕ
word_at bytes w = word_of (λ j. get_or bytes (w * word_bytes + j) 0)

-- word w of a list, 0 past its end
abbrev pub tells : List ℕ → ℕ → ℕ
tells words w = get_or words w 0

-- the n lowest bytes of a number
abbrev pub bytes_to : ℕ → ℕ → List ℕ
bytes_to zero x = []
bytes_to (suc n) x = x % 256 ∷ bytes_to n (x / 256)

-- one word after the other
abbrev pub bytes_of : List ℕ → List ℕ
bytes_of [] = []
bytes_of (x ∷ xs) = bytes_to word_bytes x ++ bytes_of xs

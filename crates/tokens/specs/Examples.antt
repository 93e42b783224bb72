-- Names at the edges of the rule, computed.
use Rattle.std.specs.Prelude.{◌≡◌, refl, true, false, [], ◌∷◌, map, replicate}
use Rattle.tokens.specs.Names.{is_name}

-- "any byte outside 33 to 126": a byte alone
bytes : map (λ b. is_name (b ∷ [])) (33 ∷ 126 ∷ []) ≡ true ∷ true ∷ []
unfolding is_name
bytes = refl

other_bytes : map (λ b. is_name (b ∷ [])) (0 ∷ 1 ∷ 31 ∷ 32 ∷ 127 ∷ 128 ∷ 255 ∷ []) ≡ replicate 7 false
unfolding is_name
other_bytes = refl

-- "1 to 64 bytes"
lengths : map (λ n. is_name (replicate n 110)) (0 ∷ 1 ∷ 64 ∷ 65 ∷ []) ≡ false ∷ true ∷ true ∷ false ∷ []
unfolding is_name
lengths = refl

-- "A network name with an accent": café in two spellings, é as one character and as e with a combining accent; and cafe
accents :
    map is_name ((99 ∷ 97 ∷ 102 ∷ 195 ∷ 169 ∷ []) ∷ (99 ∷ 97 ∷ 102 ∷ 101 ∷ 204 ∷ 129 ∷ []) ∷ (99 ∷ 97 ∷ 102 ∷ 101 ∷ []) ∷ [])
    ≡ false ∷ false ∷ true ∷ []
unfolding is_name
accents = refl

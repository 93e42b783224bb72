-- Laws of words and their bytes. Assumes nothing.
use Rattle.std.proofs.Common.{ℕ, zero, suc, ◌+◌, ◌*◌, ◌^◌, ◌/◌, ◌<◌, ◌≡◌, refl, sym, ap, ◌∙◌, List, [], ◌∷◌, ◌++◌, arith, zero-mul, length, get_or, replicate, length-append, get_or-append-add, ◌-◌, drop, slice_index, slice_range, get_or-take, get_or-drop, lit<, w64}
use Rattle.std.proofs.Math.Decide.{dec_lt}
use Rattle.std.proofs.Math.ListN.{get_or-append, get_or-eq_default}
use Rattle.std.specs.Int.{from_le_bytes}
use Rattle.costs.specs.Net.{All}
use Rattle.costs.proofs.RangeLaws.{sum_to-same}
use Rattle.costs.proofs.NetLaws.{All-at, All-append}
use Rattle.records.specs.Words.{word_bytes, word_of, word_at, tells, bytes_to, bytes_of}

-- a word is what its eight bytes tell
pub word_read : (bytes : List ℕ) (w : ℕ) → from_le_bytes w64 (slice_range bytes (w * word_bytes) (w * word_bytes + word_bytes)) ≡ word_at bytes w
unfolding word_at
word_read bytes w =
    let at : (j : ℕ) → j < word_bytes → slice_index (slice_range bytes (w * word_bytes) (w * word_bytes + word_bytes)) j ≡ get_or bytes (w * word_bytes + j) 0 =
    λ j l. get_or-take (w * word_bytes + word_bytes - w * word_bytes) (drop (w * word_bytes) bytes) j 0 (omega arith) ∙ get_or-drop (w * word_bytes) bytes j 0
    in
    omega (arith, at 0 (lit< tt), at 1 (lit< tt), at 2 (lit< tt), at 3 (lit< tt), at 4 (lit< tt), at 5 (lit< tt), at 6 (lit< tt), at 7 (lit< tt))

-- as many bytes as are asked for
pub bytes_to_many : (n x : ℕ) → length (bytes_to n x) ≡ n
bytes_to_many zero x = refl
bytes_to_many (suc n) x = ap suc (bytes_to_many n (x / 256))

-- a word's bytes tell it
pub word_back : (x : ℕ) → x < 256 ^ word_bytes → word_of (λ j. get_or (bytes_to word_bytes x) j 0) ≡ x
word_back x l = omega arith

-- words to bytes and back
pub bytes_of_many : (xs : List ℕ) → length (bytes_of xs) ≡ length xs * word_bytes
bytes_of_many [] = refl
bytes_of_many (x ∷ xs) = rw (length-append, bytes_of_many xs) (omega arith)

pub words_back : (xs : List ℕ) (w : ℕ) → ((i : ℕ) → i < length xs → get_or xs i 0 < 256 ^ word_bytes) → w < length xs → word_at (bytes_of xs) w ≡ get_or xs w 0
unfolding word_at
words_back [] w h l = absurd (omega arith)
words_back (x ∷ xs) zero h l =
    sum_to-same word_bytes (λ j. get_or (bytes_to word_bytes x) j 0 * 256 ^ j) (λ j. get_or (bytes_of (x ∷ xs)) (0 * word_bytes + j) 0 * 256 ^ j)
    (λ j m. let e : 0 * word_bytes + j ≡ j = omega arith in rw (e, get_or-append (bytes_to word_bytes x) (bytes_of xs) 0 j m))
    ∙ word_back x (h 0 (omega arith))
words_back (x ∷ xs) (suc w) h l =
    sum_to-same word_bytes (λ j. get_or (bytes_of xs) (w * word_bytes + j) 0 * 256 ^ j) (λ j. get_or (bytes_of (x ∷ xs)) (suc w * word_bytes + j) 0 * 256 ^ j)
    (λ j m. let e : suc w * word_bytes + j ≡ 8 + (w * word_bytes + j) = omega arith in rw (e, get_or-append-add (bytes_to word_bytes x) (bytes_of xs) (w * word_bytes + j) 0))
    ∙ words_back xs w (λ i m. h (suc i) (omega arith)) (omega arith)

-- the bytes of small words tell them, and nothing past their end
pub bytes_tell : (ws : List ℕ) → All (λ w. w < 2 ^ 64) ws → (w : ℕ) → word_at (bytes_of ws) w ≡ tells ws w
unfolding word_at
bytes_tell ws small w = elim (dec_lt w (length ws)) [
  | yes l ↦ words_back ws w (All-at (λ x. x < 2 ^ 64) ws small) l
  | no l ↦
      sum_to-same word_bytes (λ j. 0) (λ j. get_or (bytes_of ws) (w * word_bytes + j) 0 * 256 ^ j)
      (λ j m. ap (λ (b : ℕ). b * 256 ^ j) (get_or-eq_default (bytes_of ws) 0 {n = w * word_bytes + j} (omega (arith, l, bytes_of_many ws))) ∙ zero-mul (256 ^ j))
      ∙ sym (get_or-eq_default ws 0 {n = w} (omega (arith, l)))
]

-- zeros behind change no word
zeros_at : (k j : ℕ) → get_or {A = ℕ} (replicate k 0) j 0 ≡ 0
zeros_at zero j = refl
zeros_at (suc k) zero = refl
zeros_at (suc k) (suc j) = zeros_at k j

zeros_behind : (bytes : List ℕ) (k j : ℕ) → get_or (bytes ++ replicate k 0) j 0 ≡ get_or bytes j 0
zeros_behind [] k j = zeros_at k j
zeros_behind (b ∷ bytes) k zero = refl
zeros_behind (b ∷ bytes) k (suc j) = zeros_behind bytes k j

pub word_front : (bytes : List ℕ) (k w : ℕ) → word_at (bytes ++ replicate k 0) w ≡ word_at bytes w
unfolding word_at
word_front bytes k w =
    sum_to-same word_bytes (λ j. get_or bytes (w * word_bytes + j) 0 * 256 ^ j) (λ j. get_or (bytes ++ replicate k 0) (w * word_bytes + j) 0 * 256 ^ j)
    (λ j m. ap (λ (b : ℕ). b * 256 ^ j) (zeros_behind bytes k (w * word_bytes + j)))

-- the bytes of words are bytes
bytes_to_small : (n x : ℕ) → All (λ b. b < 256) (bytes_to n x)
bytes_to_small zero x = tt
bytes_to_small (suc n) x = (omega arith, bytes_to_small n (x / 256))

pub bytes_of_small : (ws : List ℕ) → All (λ b. b < 256) (bytes_of ws)
bytes_of_small [] = tt
bytes_of_small (w ∷ ws) = All-append (λ b. b < 256) (bytes_to word_bytes w) (bytes_of ws) (bytes_to_small word_bytes w) (bytes_of_small ws)

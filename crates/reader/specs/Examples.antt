-- Networks A, B and C of document 01, "Reckoned by hand", and four more texts, read by the definitions.
use Rattle.std.specs.Prelude.{ℕ, ◌≡◌, refl, List, [], ◌∷◌, map, take}
use Rattle.answers.specs.Answers.{refusal_number, refusal_place}
use Rattle.tokens.specs.Tokens.{white, dark, lead, past, token_at, token_bytes, text_of}
use Rattle.tokens.specs.Steps.{Got, got, refused, and_then, demand}
use Rattle.tokens.specs.Numbers.{digits, value_of, any_number, number_in}
use Rattle.tokens.specs.Names.{is_name}
use Rattle.tokens.specs.Words.{name, same, place_among, word, follows, finish}
use Rattle.headings.specs.Headers.{header}
use Rattle.headings.specs.Domains.{size, domains}
use Rattle.stretches.specs.Sizes.{product}
use Rattle.scopes.specs.Scopes.{variable, scope}
use Rattle.listed_costs.specs.Listed.{value, tuple, listing, settled, listed}
use Rattle.soft_sums.specs.Soft.{mode_at, comparator_at, soft_sum, gap_below, gap, gap_cost, values_at, total, soft_cost, soft_costs}
use Rattle.placing.specs.Drafts.{Draft, sums}
use Rattle.functions.specs.Functions.{function, functions}
use Rattle.function_costs.specs.FunctionCosts.{marked, costs}
use Rattle.costs.specs.Cheapest.{value_in}
use Rattle.reader.specs.Reading.{rest, body, network, reading}
use Rattle.reader.specs.Said.{SaidNetwork, numbers, said_tuples, said_listed, said_soft, said_costs, said_function, said_functions, said, price_said}

-- what is looked at: k, the constant, N and the number of functions; three sizes; two rows; two starts; the table
data Look : Type 0 where
  read : List ℕ → List ℕ → List ℕ → List ℕ → List ℕ → Look
  refusal : ℕ → ℕ → Look

abbrev look : Got Draft → Look
look (refused r) = refusal (refusal_number r) (refusal_place r)
look (got d next) =
    read (d.net.top ∷ d.net.constant ∷ d.net.vars ∷ d.net.functions ∷ []) (take 3 d.net.sizes) (take 8 d.net.scopes) (take 2 d.net.starts) d.table

-- a text, the length of the lent table, and what is looked at
record Example : Type 0 where
  text : List ℕ
  room : ℕ
  seen : Look

-- network A: "E = 14"
abbrev network_a : Example
network_a = record {
  text = 112 ∷ 108 ∷ 97 ∷ 110 ∷ 32 ∷ 51 ∷ 32 ∷ 50 ∷ 32 ∷ 52 ∷ 32 ∷ 49 ∷ 48 ∷ 10 ∷ 50 ∷ 32 ∷ 50 ∷ 32 ∷ 50 ∷ 10 ∷ 49 ∷ 32 ∷ 48 ∷ 32 ∷ 48 ∷ 32 ∷ 49 ∷ 10 ∷ 49 ∷ 32 ∷ 51 ∷ 10 ∷ 50 ∷ 32 ∷ 48 ∷ 32 ∷ 49 ∷ 32 ∷ 48 ∷ 32 ∷ 50 ∷ 10 ∷ 48 ∷ 32 ∷ 48 ∷ 32 ∷ 53 ∷ 10 ∷ 49 ∷ 32 ∷ 49 ∷ 32 ∷ 53 ∷ 10 ∷ 50 ∷ 32 ∷ 49 ∷ 32 ∷ 50 ∷ 32 ∷ 48 ∷ 32 ∷ 49 ∷ 10 ∷ 49 ∷ 32 ∷ 48 ∷ 32 ∷ 52 ∷ 10 ∷ 48 ∷ 32 ∷ 49 ∷ 32 ∷ 48 ∷ [];
  room = 14;
  seen = read (10 ∷ 1 ∷ 3 ∷ 2 ∷ []) (2 ∷ 2 ∷ 2 ∷ []) (2 ∷ 0 ∷ 1 ∷ 0 ∷ 2 ∷ 1 ∷ 2 ∷ 0 ∷ []) (6 ∷ 10 ∷ []) (0 ∷ 3 ∷ 0 ∷ 0 ∷ 0 ∷ 0 ∷ 5 ∷ 0 ∷ 0 ∷ 5 ∷ 0 ∷ 0 ∷ 4 ∷ 0 ∷ []);
}

-- network B
abbrev network_b : Example
network_b = record {
  text = 111 ∷ 110 ∷ 101 ∷ 32 ∷ 49 ∷ 32 ∷ 50 ∷ 32 ∷ 49 ∷ 32 ∷ 57 ∷ 10 ∷ 50 ∷ 10 ∷ 49 ∷ 32 ∷ 48 ∷ 32 ∷ 52 ∷ 32 ∷ 49 ∷ 10 ∷ 49 ∷ 32 ∷ 54 ∷ [];
  room = 2;
  seen = read (9 ∷ 0 ∷ 1 ∷ 0 ∷ []) (2 ∷ 0 ∷ 0 ∷ []) (0 ∷ 0 ∷ 0 ∷ 0 ∷ 0 ∷ 0 ∷ 0 ∷ 0 ∷ []) (0 ∷ 0 ∷ []) (4 ∷ 6 ∷ []);
}

-- network C
abbrev network_c : Example
network_c = record {
  text = 110 ∷ 111 ∷ 110 ∷ 101 ∷ 32 ∷ 49 ∷ 32 ∷ 49 ∷ 32 ∷ 49 ∷ 32 ∷ 53 ∷ 10 ∷ 49 ∷ 10 ∷ 49 ∷ 32 ∷ 48 ∷ 32 ∷ 53 ∷ 32 ∷ 48 ∷ [];
  room = 1;
  seen = read (5 ∷ 0 ∷ 1 ∷ 0 ∷ []) (1 ∷ 0 ∷ 0 ∷ []) (0 ∷ 0 ∷ 0 ∷ 0 ∷ 0 ∷ 0 ∷ 0 ∷ 0 ∷ []) (0 ∷ 0 ∷ []) (5 ∷ []);
}

-- "`wsum lin 2 > 4`: Sum 4 costs 2, Sum 5 costs 0"
abbrev strict_above : Example
strict_above = record {
  text = 120 ∷ 32 ∷ 49 ∷ 32 ∷ 54 ∷ 32 ∷ 49 ∷ 32 ∷ 57 ∷ 32 ∷ 54 ∷ 32 ∷ 49 ∷ 32 ∷ 48 ∷ 32 ∷ 45 ∷ 49 ∷ 32 ∷ 119 ∷ 115 ∷ 117 ∷ 109 ∷ 32 ∷ 108 ∷ 105 ∷ 110 ∷ 32 ∷ 50 ∷ 32 ∷ 62 ∷ 32 ∷ 52 ∷ [];
  room = 6;
  seen = read (9 ∷ 0 ∷ 1 ∷ 0 ∷ []) (6 ∷ 0 ∷ 0 ∷ []) (0 ∷ 0 ∷ 0 ∷ 0 ∷ 0 ∷ 0 ∷ 0 ∷ 0 ∷ []) (0 ∷ 0 ∷ []) (9 ∷ 8 ∷ 6 ∷ 4 ∷ 2 ∷ 0 ∷ []);
}

-- "tuple listed twice in one function": "offset of its last value"
abbrev listed_twice : Example
listed_twice = record {
  text = 120 ∷ 32 ∷ 49 ∷ 32 ∷ 50 ∷ 32 ∷ 49 ∷ 32 ∷ 53 ∷ 32 ∷ 50 ∷ 32 ∷ 49 ∷ 32 ∷ 48 ∷ 32 ∷ 48 ∷ 32 ∷ 50 ∷ 32 ∷ 49 ∷ 32 ∷ 49 ∷ 32 ∷ 49 ∷ 32 ∷ 120 ∷ [];
  room = 2;
  seen = refusal 5 24;
}

-- "`refused 2 at 0` alone (here: empty text)"
abbrev empty : Example
empty = record {
  text = [];
  room = 0;
  seen = refusal 2 0;
}

-- request M-101: "A network name with an accent", here ` né 0 0 0 5`
abbrev accented : Example
accented = record {
  text = 32 ∷ 110 ∷ 195 ∷ 169 ∷ 32 ∷ 48 ∷ 32 ∷ 48 ∷ 32 ∷ 48 ∷ 32 ∷ 53 ∷ [];
  room = 0;
  seen = refusal 2 1;
}

abbrev Right : List Example → Type 0
Right [] = Unit {0}
Right (x ∷ xs) = (look (reading x.text x.room) ≡ x.seen) × Right xs

examples : Right (network_a ∷ network_b ∷ network_c ∷ strict_above ∷ listed_twice ∷ empty ∷ accented ∷ [])
unfolding white dark lead past token_at token_bytes text_of and_then demand digits value_of any_number number_in is_name name same place_among word follows finish header size domains product variable scope value tuple listing settled listed mode_at comparator_at soft_sum gap_below gap gap_cost values_at total soft_cost soft_costs marked costs sums function functions rest body network reading
examples = (refl, (refl, (refl, (refl, (refl, (refl, (refl, tt)))))))

-- the prices of plans as a text says them; none where it is refused
abbrev prices_of : Got SaidNetwork → List (List ℕ) → List ℕ
prices_of (got n next) plans = map (λ q. price_said n (value_in q)) plans
prices_of (refused r) plans = []

-- network A: "000 6; 001 6; 010 5; 011 1; 100 4; 101 4; 110 10 (13 capped); 111 9"
prices_of_a :
    prices_of (said (text_of network_a.text) 0)
    ((0 ∷ 0 ∷ 0 ∷ []) ∷ (0 ∷ 0 ∷ 1 ∷ []) ∷ (0 ∷ 1 ∷ 0 ∷ []) ∷ (0 ∷ 1 ∷ 1 ∷ []) ∷ (1 ∷ 0 ∷ 0 ∷ []) ∷ (1 ∷ 0 ∷ 1 ∷ []) ∷ (1 ∷ 1 ∷ 0 ∷ []) ∷ (1 ∷ 1 ∷ 1 ∷ []) ∷ [])
    ≡ 6 ∷ 6 ∷ 5 ∷ 1 ∷ 4 ∷ 4 ∷ 10 ∷ 9 ∷ []
unfolding white dark lead past token_at token_bytes text_of and_then demand digits value_of any_number number_in is_name name same place_among word follows header numbers said_tuples said_listed said_costs said_function said_functions said
prices_of_a = refl

-- "`wsum lin 2 > 4`: Sum 4 costs 2, Sum 5 costs 0"
prices_of_soft : prices_of (said (text_of strict_above.text) 0) ((4 ∷ []) ∷ (5 ∷ []) ∷ []) ≡ 2 ∷ 0 ∷ []
unfolding white dark lead past token_at token_bytes text_of and_then demand digits value_of any_number number_in is_name name same place_among word follows header soft_sum mode_at comparator_at gap gap_cost total numbers said_tuples said_listed said_soft said_costs said_function said_functions said
prices_of_soft = refl

-- The public call `read` and the name of its text. Assumes nothing.
use Rattle.std.proofs.Common.{ℕ, ◌≤◌, ◌≡◌, List, length, le-leb}
use Rattle.answers.specs.declared.Refusal.TheVariants.{BadToken}
use Rattle.costs.proofs.TestLaws.{is_true, is_false}
use Rattle.tokens.specs.Tokens.{text_of}
use Rattle.tokens.specs.Steps.{got, refused, and_then}
use Rattle.tokens.specs.Names.{is_name, IsName}
use Rattle.tokens.specs.Words.{name}
use Rattle.tokens.proofs.NameLaws.{by_name}
use Rattle.headings.specs.Headers.{header}
use Rattle.reader.specs.ReaderLimits.{text_most}
use Rattle.reader.specs.Reading.{network, reading}

module _ (text : List ℕ) where
  -- where the first token of a text of at most 65,536 bytes is no name, or the text has none, the answer is 2 at the place where it begins
  -- or the text ends, whatever follows
  pub no_name_two : (room : ℕ) → length text ≤ text_most → (IsName (text_of text 0).bytes → ⊥) → reading text room ≡ refused (BadToken (text_of text 0).start)
  unfolding reading network header name and_then
  no_name_two room short none = rw (le-leb (length text) text_most short, is_false (is_name (text_of text 0).bytes) (λ t. none ((by_name _).says t)))

  -- and where it is a name, it is passed
  pub name-passed : IsName (text_of text 0).bytes → name (text_of text) 0 ≡ got tt (text_of text 0).end
  unfolding name
  name-passed n = rw (is_true (is_name (text_of text 0).bytes) ((by_name _).finds n))

-- The public call `read`: what stands after it where it answers Done, and when it answers 1 and 7. Assumes nothing.
use Rattle.std.proofs.Common.{arith, ℕ, ◌+◌, ◌-◌, ◌≤◌, ◌<◌, ◌≡◌, refl, sym, ap, ◌∙◌, Bool, true, false, cond, leb, List, [], ◌++◌, append-nil, length, get_or, drop, Err, length-append, length-drop, get_or-append-add, get_or-drop, leb-true, leb-false, le-leb}
use Rattle.std.proofs.lemmas.Bool.{lt-leb}
use Rattle.answers.specs.Answers.{Done, number_of, refusal_number}
use Rattle.answers.specs.declared.Refusal.{Refusal}
use Rattle.answers.specs.declared.Refusal.TheVariants.{LongText, ShortTable}
use Rattle.costs.specs.Limits.{entries_most}
use Rattle.costs.specs.Net.{entries}
use Rattle.costs.specs.Networks.{stands}
use Rattle.tokens.specs.Tokens.{text_of}
use Rattle.tokens.specs.Steps.{Got, got, refused}
use Rattle.tokens.proofs.StepLaws.{same-value}
use Rattle.placing.specs.Drafts.{Draft}
use Rattle.reader.specs.ReaderLimits.{text_most}
use Rattle.reader.specs.declared.reading.Reading.{Reading}
use Rattle.reader.specs.Reading.{network, fitted, reading, answered, table_after}
use Rattle.reader.specs.Said.{SaidBy}
use Rattle.reader.specs.ReadRight.{ReadRight, Readable, Ended, one, token, seven, done}
use Rattle.reader.proofs.NetworkRead.{network_fine, fine_network}
use Rattle.reader.proofs.PricesSaid.{network-said}
use Rattle.reader.proofs.AlikeTexts.{network-refuses}

-- E of a draft that was read is its network's
pub draft_entries : (text : List ℕ) (d : Draft) → Readable text d → length d.table ≡ entries (stands d.net)
draft_entries text d h = (network_fine (text_of text) 0 d h.next (sym h.reads)).whole

pub reading_ends : (text : List ℕ) (room : ℕ) → Ended text room (reading text room)
unfolding reading
reading_ends text room = whole (leb (length text) text_most) refl
  where
    fits : (d : Draft) (h : Readable text d) (b : Bool) → leb (length d.table) room ≡ b → Ended text room (cond b (got d h.next) (refused ShortTable))
    fits d h true e = done d h (omega (arith, draft_entries text d h, leb-true (length d.table) room e)) refl
    fits d h false e = seven d h (omega (arith, draft_entries text d h, leb-false (length d.table) room e)) refl

    read : length text ≤ text_most → (g : Got Draft) → network (text_of text) 0 ≡ g → Ended text room (fitted room g)
    read l (got d next) e = fits d (record { short = l; next = next; reads = e }) (leb (length d.table) room) refl
    read l (refused a) e = let h = network-refuses (text_of text) 0 a e in token l a e h.0 h.1 refl

    whole : (b : Bool) → leb (length text) text_most ≡ b → Ended text room (cond b (fitted room (network (text_of text) 0)) (refused LongText))
    whole true e = read (leb-true (length text) text_most e) (network (text_of text) 0) refl
    whole false e = one (leb-false (length text) text_most e) refl

-- 1 exactly where the text is over 65,536 bytes
pub one_long : (text : List ℕ) (room : ℕ) → (answered (reading text room)).answer ≡ Err LongText → text_most < length text
one_long text room e = go (reading_ends text room)
  where
    go : Ended text room (reading text room) → text_most < length text
    go (one l q) = l
    go (token l a h m n q) = absurd (omega (arith, m, n, ap (λ (g : Got Draft). number_of (answered g).answer) q, ap number_of e))
    go (seven d h l q) = absurd (omega (arith, ap (λ (g : Got Draft). number_of (answered g).answer) q, ap number_of e))
    go (done d h l q) = absurd (omega (arith, ap (λ (g : Got Draft). number_of (answered g).answer) q, ap number_of e))

pub long_one : (text : List ℕ) (room : ℕ) → text_most < length text → (answered (reading text room)).answer ≡ Err LongText
unfolding reading
long_one text room l = rw (lt-leb (length text) text_most l)

-- 7 exactly where nothing else refuses the text and the lent table is shorter than the network's E
pub seven_short : (text : List ℕ) (room : ℕ) → (answered (reading text room)).answer ≡ Err ShortTable → (d : Draft) × Readable text d × (room < entries (stands d.net))
seven_short text room e = go (reading_ends text room)
  where
    go : Ended text room (reading text room) → (d : Draft) × Readable text d × (room < entries (stands d.net))
    go (one l q) = absurd (omega (arith, ap (λ (g : Got Draft). number_of (answered g).answer) q, ap number_of e))
    go (token l a h m n q) = absurd (omega (arith, m, n, ap (λ (g : Got Draft). number_of (answered g).answer) q, ap number_of e))
    go (seven d h l q) = (d, h, l)
    go (done d h l q) = absurd (omega (arith, ap (λ (g : Got Draft). number_of (answered g).answer) q, ap number_of e))

pub short_seven : (text : List ℕ) (room : ℕ) (d : Draft) → Readable text d → room < entries (stands d.net) → (answered (reading text room)).answer ≡ Err ShortTable
unfolding reading
short_seven text room d h l = rw (le-leb (length text) text_most h.short, h.reads, lt-leb (length d.table) room (omega (arith, draft_entries text d h)))

-- what was read is what the text says, with or without the entries past E
pub draft_said : (text : List ℕ) (d : Draft) → Readable text d → SaidBy text d.net d.table
draft_said text d h = rw append-nil at (network-said text d h.next h.reads [])

-- after a successful read
draft_right : (text before : List ℕ) (d : Draft) → Readable text d → entries (stands d.net) ≤ length before → ReadRight text before d.net (d.table ++ drop (length d.table) before)
draft_right text before d h l =
    let e = draft_entries text d h in
    let n : ℕ = length d.table in
    let long : length (d.table ++ drop n before) ≡ length before = omega (arith, e, length-append d.table (drop n before), length-drop n before) in
    record {
      network = fine_network 0 d (drop n before) (network_fine (text_of text) 0 d h.next (sym h.reads));
      whole = omega (arith, long);
      said = network-said text d h.next h.reads (drop n before);
      past = λ j m. behind d.table before j (omega (arith, e));
      long = long;
    }
  where
    behind : (xs before : List ℕ) (j : ℕ) → length xs ≤ j → get_or (xs ++ drop (length xs) before) j 0 ≡ get_or before j 0
    behind xs before j m =
        let i : length xs + (j - length xs) ≡ j = omega arith in
        let a = get_or-append-add xs (drop (length xs) before) (j - length xs) 0 ∙ get_or-drop (length xs) before (j - length xs) 0 in
        rw i at a

reading_done : (text : List ℕ) (room : ℕ) (d : Draft) (next : ℕ) → reading text room ≡ got d next → Readable text d × (entries (stands d.net) ≤ room)
reading_done text room d next e = go (reading_ends text room)
  where
    refusal : (a : Refusal) → reading text room ≡ refused a → ⊥
    refusal a q = let f = sym e ∙ q in let z : ◌≡◌ {A = ℕ} 0 1 = cc in omega arith

    go : Ended text room (reading text room) → Readable text d × (entries (stands d.net) ≤ room)
    go (one l q) = absurd (refusal LongText q)
    go (token l a h m n q) = absurd (refusal a q)
    go (seven d' h l q) = absurd (refusal ShortTable q)
    go (done d' h l q) = let same : d ≡ d' = same-value _ _ _ _ (sym e ∙ q) in rw same (h, l)

-- the network that was read, beside the lent table as the read leaves it: 8 and 7 never follow, and prices are what the text says
pub read_network : (text before : List ℕ) (d : Draft) (next : ℕ) → reading text (length before) ≡ got d next → Readable text d × ReadRight text before d.net (table_after (got d next) before)
read_network text before d next e = let h = reading_done text (length before) d next e in (h.0, draft_right text before d h.0 h.1)

-- 7 is not given where the lent table holds every network's entries
pub read_refuses : (text : List ℕ) (room : ℕ) (a : Refusal) → entries_most ≤ room → reading text room ≡ refused a → (1 ≤ refusal_number a) × (refusal_number a ≤ 6)
read_refuses text room a enough e = go (reading_ends text room)
  where
    number : (b : Refusal) → reading text room ≡ refused b → refusal_number a ≡ refusal_number b
    number b q = ap (λ (g : Got Draft). number_of (answered g).answer) (sym e ∙ q)

    go : Ended text room (reading text room) → (1 ≤ refusal_number a) × (refusal_number a ≤ 6)
    go (one l q) = (omega (arith, number LongText q), omega (arith, number LongText q))
    go (token l b h m n q) = (omega (arith, m, number b q), omega (arith, n, number b q))
    go (seven d h l q) = absurd (omega (arith, l, enough, (network_fine (text_of text) 0 d h.next (sym h.reads)).few, draft_entries text d h))
    go (done d h l q) = absurd (let f = sym e ∙ q in let z : ◌≡◌ {A = ℕ} 0 1 = cc in omega arith)

-- the same of what the call hands back
pub read_right : (text before after : List ℕ) (r : Reading) → r ≡ answered (reading text (length before)) → after ≡ table_after (reading text (length before)) before → r.answer ≡ Done
    → ReadRight text before r.network after
read_right text before after r p t e = go (reading_ends text (length before))
  where
    number : (g : Got Draft) → reading text (length before) ≡ g → number_of (answered g).answer ≡ 0
    number g q = ap (λ (g : Got Draft). number_of (answered g).answer) (sym q) ∙ ap (λ (x : Reading). number_of x.answer) (sym p) ∙ ap number_of e

    go : Ended text (length before) (reading text (length before)) → ReadRight text before r.network after
    go (one l q) = absurd (omega (arith, number (refused LongText) q))
    go (token l a h m n q) = absurd (omega (arith, m, number (refused a) q))
    go (seven d h l q) = absurd (omega (arith, number (refused ShortTable) q))
    go (done d h l q) =
        let net : r.network ≡ d.net = ap (λ (x : Reading). x.network) p ∙ ap (λ (g : Got Draft). (answered g).network) q in
        let table : after ≡ d.table ++ drop (length d.table) before = t ∙ ap (λ (g : Got Draft). table_after g before) q in
        rw (net, table) (draft_right text before d h l)

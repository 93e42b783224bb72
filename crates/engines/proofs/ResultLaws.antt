-- A plan handed back, and the answer of a search that came to its end. Assumes nothing.
use Rattle.std.proofs.Common.{Err, ℕ, ◌-◌, ◌≤◌, ◌<◌, ◌≡◌, refl, sym, ap, ◌∙◌, Bool, true, false, cond, ◌⊎◌, inl, inr, List, ◌++◌, arith, length, take, drop, replicate, get_or, le-leb, ext_get_or, length-take-le, get_or-take}
use Rattle.std.proofs.Math.Decide.{dec_le}
use Rattle.std.proofs.lemmas.Bool.{lt-leb}
use Rattle.answers.specs.Answers.{Answer, Done}
use Rattle.answers.specs.declared.Refusal.TheVariants.{LongRecord}
use Rattle.costs.specs.Limits.{vars_most}
use Rattle.costs.specs.declared.plans.Plan.{Plan}
use Rattle.costs.specs.Range.{list_to}
use Rattle.engines.specs.Results.{planned, finished_search, record_bytes, refused_left, finished_left, ended_left}
use Rattle.engines.specs.Engines.{State, refuses}
use Rattle.costs.specs.Net.{Net}
use Rattle.costs.proofs.ListLaws.{list_length, list_at}
use Rattle.std.proofs.lemmas.List.{drop-replicate}

-- the first values of a plan, zeros behind them
pub plan_kept : (plan : List ℕ) (count : ℕ) (front : List ℕ) → length plan ≡ vars_most → count ≤ vars_most → front ≡ take count plan
    → ◌≡◌ {A = Plan} (record { choice = front ++ drop count (replicate vars_most 0); len = count }) (planned (list_to count (λ v. get_or plan v 0)))
plan_kept plan count front l m e =
    let f : ℕ → ℕ = λ v. get_or plan v 0 in
    let long : length (take count plan) ≡ count = length-take-le count plan (omega arith) in
    let same : take count plan ≡ list_to count f = ext_get_or 0 (take count plan) (list_to count f) (long ∙ sym (list_length count f)) (λ v k. get_or-take count plan v 0 (omega (arith, long)) ∙ sym (list_at count f v (omega (arith, long)))) in
    rw (e, same, drop-replicate, list_length count f)

pub ended_finished : (n : Net) (asked : Bool) (room : ℕ) (s : State) → s.ended ≡ Done → ended_left n asked room s ≡ finished_left n asked room s
ended_finished n asked room s e = ap (λ (a : Answer). cond (refuses a) (refused_left room a) (finished_left n asked room s)) e

-- how it ends: a record that is asked for is longer than the buffer, or nothing is amiss and the result is the search's
pub finished_ways : (n : Net) (asked : Bool) (room : ℕ) (s : State)
    → ((asked ≡ true) × (room < length (record_bytes n s)) × ((finished_left n asked room s).result.answer ≡ Err LongRecord))
    ⊎ ((asked ≡ true → length (record_bytes n s) ≤ room) × ((finished_left n asked room s).result ≡ finished_search s.plan s.best s.count))
finished_ways n false room s = inr ((λ e. absurd (let z : ◌≡◌ {A = ℕ} 0 1 = cc in omega arith)), refl)
finished_ways n true room s = elim (dec_le (length (record_bytes n s)) room) [
  | yes l ↦ inr ((λ e. l), rw (le-leb (length (record_bytes n s)) room l))
  | no l ↦ let m : room < length (record_bytes n s) = omega (arith, l) in inl (refl, m, rw (lt-leb (length (record_bytes n s)) room m))
]

-- a record that is asked for and fits stands in the buffer, zeros behind it
pub finished_out : (n : Net) (room : ℕ) (s : State) → length (record_bytes n s) ≤ room → (finished_left n true room s).out ≡ record_bytes n s ++ replicate (room - length (record_bytes n s)) 0
finished_out n room s l = rw (le-leb (length (record_bytes n s)) room l)

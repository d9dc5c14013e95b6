-- The mappings of a run after others, and what given runs come to behind other mappings.
use Rattle.std.proofs.Common.{◌≡◌, ℕ, zero, suc, ◌+◌, ◌-◌, ◌^◌, min, Bool, true, false, cond, ◌&&◌, nat_eq, List, [], ◌∷◌, ◌++◌, Some, map, refl, sym, ap, ◌∙◌, arith, append_assoc}
use Rattle.std.proofs.lemmas.Bool.{and_parts, eqb-true}
use Rattle.pd_kinds.specs.Meaning.{Mapping}
use Rattle.pd_grammar.specs.ThinText.{follows, joined_runs, mappings_from, with_mapping}
use Rattle.pd_grammar.specs.ThinText as text
use Rattle.pd_meaning_thin.specs.declared.joined.OpenRun.{OpenRun}
use Rattle.pd_meaning_thin.specs.declared.joined.Run.{Run}
use Rattle.pd_meaning_thin.specs.Runs.{begun_mappings, first_of, given_run, given_runs, is_followed_by, run_of}
use Rattle.pd_meaning_thin.proofs.JoinedLemmas.{taken_apart}

-- the mappings of two runs of which one continues the other
pub both_runs : (v d t n k : ℕ) → mappings_from v d t n ++ mappings_from (v + n) (d + n) t k ≡ mappings_from v d t (n + k)
both_runs v d t zero k =
    let first : v + 0 ≡ v = omega arith in
    let data_first : d + 0 ≡ d = omega arith in
    let all : 0 + k ≡ k = omega arith in
    rw (first, data_first, all) refl
both_runs v d t (suc n) k =
    let next : v + suc n ≡ suc v + n = omega arith in
    let data_next : d + suc n ≡ suc d + n = omega arith in
    let all : suc n + k ≡ suc (n + k) = omega arith in
    rw (next, data_next, all) (ap (λ (ms : List Mapping). record { virtual_block = v; data_block = d; time = t } ∷ ms) (both_runs (suc v) (suc d) t n k))

-- a run that continues the begun one makes it longer
pub appended_on : (begun later : OpenRun) (rest : List Mapping) → is_followed_by begun later.virt (first_of later) ≡ true
    → begun_mappings (Some begun) ++ (begun_mappings (Some later) ++ rest) ≡ mappings_from begun.virt begun.target begun.time (suc (later.virt - begun.virt + later.more)) ++ rest
appended_on begun later rest continues =
    let parts = and_parts (nat_eq (begun.virt + begun.more + 1) later.virt) (nat_eq (begun.target + begun.more + 1) later.target && nat_eq begun.time later.time) continues in
    let others = and_parts (nat_eq (begun.target + begun.more + 1) later.target) (nat_eq begun.time later.time) parts.1 in
    let virtual_is : later.virt ≡ begun.virt + suc begun.more = omega (arith, eqb-true (begun.virt + begun.more + 1) later.virt parts.0) in
    let data_is : later.target ≡ begun.target + suc begun.more = omega (arith, eqb-true (begun.target + begun.more + 1) later.target others.0) in
    let time_is : later.time ≡ begun.time = sym (eqb-true begun.time later.time others.1) in
    let more_is : suc (later.virt - begun.virt + later.more) ≡ suc begun.more + suc later.more = omega (arith, virtual_is) in
    sym (append_assoc (begun_mappings (Some begun)) (begun_mappings (Some later)) rest)
    ∙ ap (λ (ms : List Mapping). ms ++ rest)
    (joined later.virt later.target later.time virtual_is data_is time_is ∙ ap (mappings_from begun.virt begun.target begun.time) (sym more_is))
  where
    joined : (v d t : ℕ) → v ≡ begun.virt + suc begun.more → d ≡ begun.target + suc begun.more → t ≡ begun.time
        → begun_mappings (Some begun) ++ mappings_from v d t (suc later.more) ≡ mappings_from begun.virt begun.target begun.time (suc begun.more + suc later.more)
    joined v d t virtual_is data_is time_is =
        rw (virtual_is, data_is, time_is) (both_runs begun.virt begun.target begun.time (suc begun.more) (suc later.more))

-- one that doesn't ends it
pub appended_apart : (begun later : OpenRun) (rest : List Mapping) → is_followed_by begun later.virt (first_of later) ≡ false
    → given_runs (begun_mappings (Some begun) ++ (begun_mappings (Some later) ++ rest)) ≡ given_run begun ∷ given_runs (begun_mappings (Some later) ++ rest)
appended_apart begun later rest apart =
    taken_apart begun later.virt (first_of later) (mappings_from (suc later.virt) (suc later.target) later.time later.more ++ rest) apart

-- whether a mapping and the given run after it are one run
abbrev is_joined : Mapping → Run → Bool
is_joined m r = nat_eq (m.virtual_block + 1) r.virt && (nat_eq (m.data_block + 1) r.target && nat_eq m.time r.time)

-- a given run of so many mappings, the first of which is this one
abbrev from_mapping : Mapping → ℕ → Run
from_mapping m n = record { virt = m.virtual_block; target = m.data_block; length = min n (2 ^ 64 - 1); time = m.time }

-- a mapping before given runs
abbrev with_given : Mapping → List Run → List Run
with_given m [] = from_mapping m 1 ∷ []
with_given m (r ∷ rs) = cond (is_joined m r) (from_mapping m (suc r.length) ∷ rs) (from_mapping m 1 ∷ (r ∷ rs))

capped : (n : ℕ) → min (suc n) (2 ^ 64 - 1) ≡ min (suc (min n (2 ^ 64 - 1))) (2 ^ 64 - 1)
capped n = omega arith

given_if : (m : Mapping) (r : text.Run) (rs : List text.Run) (joined : Bool)
    → map run_of (cond joined (record { virtual_block = m.virtual_block; data_block = m.data_block; length = suc r.length; time = m.time } ∷ rs) (record { virtual_block = m.virtual_block; data_block = m.data_block; length = 1; time = m.time } ∷ (r ∷ rs)))
    ≡ cond joined (from_mapping m (suc (run_of r).length) ∷ map run_of rs) (from_mapping m 1 ∷ (run_of r ∷ map run_of rs))
given_if m r rs true = ap (λ (n : ℕ). record { virt = m.virtual_block; target = m.data_block; length = n; time = m.time } ∷ map run_of rs) (capped r.length)
given_if m r rs false = refl

given_with : (m : Mapping) (rs : List text.Run) → map run_of (with_mapping m rs) ≡ with_given m (map run_of rs)
given_with m [] = refl
given_with m (r ∷ rs) = given_if m r rs (follows m r)

-- the same runs come to the same behind other mappings
pub given_onto : (ps xs ys : List Mapping) → given_runs xs ≡ given_runs ys → given_runs (ps ++ xs) ≡ given_runs (ps ++ ys)
given_onto [] xs ys same = same
given_onto (p ∷ ps) xs ys same =
    given_with p (joined_runs (ps ++ xs)) ∙ (ap (with_given p) (given_onto ps xs ys same) ∙ sym (given_with p (joined_runs (ps ++ ys))))

-- the first run alone can join what stands before
record Onto (first all : List Run) (rs : List Run) : Type 0 where
  run : Run
  runs : List Run
  begins : first ≡ run ∷ runs
  goes_on : all ≡ run ∷ (runs ++ rs)

onto_if : (p : Mapping) (r : Run) (runs rs : List Run) (joined : Bool)
    → Onto (cond joined (from_mapping p (suc r.length) ∷ runs) (from_mapping p 1 ∷ (r ∷ runs))) (cond joined (from_mapping p (suc r.length) ∷ (runs ++ rs)) (from_mapping p 1 ∷ (r ∷ (runs ++ rs)))) rs
onto_if p r runs rs true = record { run = from_mapping p (suc r.length); runs = runs; begins = refl; goes_on = refl }
onto_if p r runs rs false = record { run = from_mapping p 1; runs = r ∷ runs; begins = refl; goes_on = refl }

onto : (ps first xs : List Mapping) (r : Run) (rs : List Run) → given_runs first ≡ r ∷ [] → given_runs xs ≡ r ∷ rs → Onto (given_runs (ps ++ first)) (given_runs (ps ++ xs)) rs
onto [] first xs r rs one all = record { run = r; runs = []; begins = one; goes_on = all }
onto (p ∷ ps) first xs r rs one all =
    let before = onto ps first xs r rs one all in
    let step = onto_if p before.run before.runs rs (is_joined p before.run) in
    record {
      run = step.run;
      runs = step.runs;
      begins = given_with p (joined_runs (ps ++ first)) ∙ (ap (with_given p) before.begins ∙ step.begins);
      goes_on = given_with p (joined_runs (ps ++ xs)) ∙ (ap (with_given p) before.goes_on ∙ step.goes_on);
    }

pub given_behind : (ps first xs : List Mapping) (r : Run) (rs : List Run) → given_runs first ≡ r ∷ [] → given_runs xs ≡ r ∷ rs → given_runs (ps ++ xs) ≡ given_runs (ps ++ first) ++ rs
given_behind ps first xs r rs one all =
    let step = onto ps first xs r rs one all in
    step.goes_on ∙ sym (ap (λ (runs : List Run). runs ++ rs) step.begins)

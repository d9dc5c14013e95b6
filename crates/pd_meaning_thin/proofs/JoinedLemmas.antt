-- Runs of mappings, and a mapping that is taken after those of a begun run.
use Rattle.std.proofs.Common.{◌≡◌, ℕ, zero, suc, ◌+◌, ◌-◌, Bool, true, false, cond, ◌&&◌, nat_eq, List, [], ◌∷◌, ◌++◌, Some, map, refl, sym, ap, ◌∙◌, arith, add-one, eq-eqb, ◌≤◌}
use Rattle.std.proofs.lemmas.List.{append-nil}
use Rattle.std.proofs.lemmas.Bool.{and_parts, eqb-true}
use Rattle.std.specs.List.{zip}
use Rattle.pd_kinds.specs.Meaning.{Mapping}
use Rattle.pd_grammar.specs.ThinText.{Run, mappings_from, with_mapping, joined_runs, continues_run, follows}
use Rattle.pd_grammar.proofs.ThinLaws.{Apart, moved, run}
use Rattle.pd_value.specs.declared.thin.BlockTime.{BlockTime}
use Rattle.pd_value.specs.declared.thin.Root.{Root}
use Rattle.pd_value.specs.declared.thin.Details.{Details}
use Rattle.pd_meaning_thin.specs.declared.joined.OpenRun.{OpenRun}
use Rattle.pd_meaning_thin.specs.Runs.{run_of, given_run, given_runs, begun_mappings, is_followed_by, mapping_of, row_of, rows_of, runs_left, runs_reads}
use Rattle.pd_meaning_thin.specs.declared.devices.MapRuns.{MapRuns}

abbrev mapping : ℕ → ℕ → ℕ → Mapping
mapping v d t = record { virtual_block = v; data_block = d; time = t }

-- a mapping after those of a run is one of a longer run
longer_run : (v d t n : ℕ) (rest : List Mapping) → mappings_from v d t n ++ (mapping (v + n) (d + n) t ∷ rest) ≡ mappings_from v d t (suc n) ++ rest
longer_run v d t zero rest =
    let first : v + 0 ≡ v = omega arith in
    let data_first : d + 0 ≡ d = omega arith in
    rw (first, data_first) refl
longer_run v d t (suc n) rest =
    let next : v + suc n ≡ suc v + n = omega arith in
    let data_next : d + suc n ≡ suc d + n = omega arith in
    rw (next, data_next) (ap (λ (ms : List Mapping). mapping v d t ∷ ms) (longer_run (suc v) (suc d) t n rest))

one_run : (v d t : ℕ) (rs : List Run) → Apart (run v d 1 t) rs → with_mapping (mapping v d t) rs ≡ run v d 1 t ∷ rs
one_run v d t [] apart = refl
one_run v d t (r ∷ rs) apart = rw apart refl

first_longer : (v d t n : ℕ) (rs : List Run) → with_mapping (mapping v d t) (run (suc v) (suc d) n t ∷ rs) ≡ run v d (suc n) t ∷ rs
first_longer v d t n rs =
    let virtual_same : nat_eq (v + 1) (suc v) ≡ true = eq-eqb (v + 1) (suc v) (add-one v) in
    let data_same : nat_eq (d + 1) (suc d) ≡ true = eq-eqb (d + 1) (suc d) (add-one d) in
    rw (virtual_same, data_same, eq-eqb t t refl) refl

-- the mappings of a run, before mappings whose first run doesn't join it
pub run_before : (v d t n : ℕ) (rest : List Mapping) → Apart (run v d (suc n) t) (joined_runs rest)
    → joined_runs (mappings_from v d t (suc n) ++ rest) ≡ run v d (suc n) t ∷ joined_runs rest
run_before v d t zero rest apart = one_run v d t (joined_runs rest) apart
run_before v d t (suc n) rest apart =
    ap (with_mapping (mapping v d t)) (run_before (suc v) (suc d) t n rest (moved v d t n (joined_runs rest) apart))
    ∙ first_longer v d t (suc n) (joined_runs rest)

-- the first run begins with the first mapping
apart_if : (r : Run) (m : Mapping) (s : Run) (joined : Bool) (rs : List Run)
    → ((n : ℕ) → continues_run r (run m.virtual_block m.data_block n m.time) ≡ false)
    → Apart r (cond joined (run m.virtual_block m.data_block (suc s.length) m.time ∷ rs) (run m.virtual_block m.data_block 1 m.time ∷ s ∷ rs))
apart_if r m s true rs apart = apart (suc s.length)
apart_if r m s false rs apart = apart 1

pub apart_first : (r : Run) (m : Mapping) (rs : List Run) → ((n : ℕ) → continues_run r (run m.virtual_block m.data_block n m.time) ≡ false) → Apart r (with_mapping m rs)
apart_first r m [] apart = apart 1
apart_first r m (s ∷ rs) apart = apart_if r m s (follows m s) rs apart

-- a mapping that follows the begun run makes it longer
pub taken_on : (begun : OpenRun) (virt : ℕ) (value : BlockTime) (rest : List Mapping) → is_followed_by begun virt value ≡ true
    → begun_mappings (Some begun) ++ (mapping_of (virt, value) ∷ rest) ≡ mappings_from begun.virt begun.target begun.time (suc (virt - begun.virt)) ++ rest
taken_on begun virt value rest follows =
    let parts = and_parts (nat_eq (begun.virt + begun.more + 1) virt) (nat_eq (begun.target + begun.more + 1) value.block && nat_eq begun.time value.time) follows in
    let others = and_parts (nat_eq (begun.target + begun.more + 1) value.block) (nat_eq begun.time value.time) parts.1 in
    let virtual_is : virt ≡ begun.virt + suc begun.more = omega (arith, eqb-true (begun.virt + begun.more + 1) virt parts.0) in
    let data_is : value.block ≡ begun.target + suc begun.more = omega (arith, eqb-true (begun.target + begun.more + 1) value.block others.0) in
    let time_is : value.time ≡ begun.time = sym (eqb-true begun.time value.time others.1) in
    let more_is : begun.virt + suc begun.more - begun.virt ≡ suc begun.more = omega arith in
    rw (virtual_is, data_is, time_is, more_is) (longer_run begun.virt begun.target begun.time (suc begun.more) rest)

-- one that doesn't follow it ends it
pub taken_apart : (begun : OpenRun) (virt : ℕ) (value : BlockTime) (rest : List Mapping) → is_followed_by begun virt value ≡ false
    → given_runs (begun_mappings (Some begun) ++ (mapping_of (virt, value) ∷ rest)) ≡ given_run begun ∷ given_runs (mapping_of (virt, value) ∷ rest)
taken_apart begun virt value rest apart =
    let first : begun.virt + suc begun.more ≡ begun.virt + begun.more + 1 = omega arith in
    let data_first : begun.target + suc begun.more ≡ begun.target + begun.more + 1 = omega arith in
    let ends : (n : ℕ) → continues_run (run begun.virt begun.target (suc begun.more) begun.time) (run virt value.block n value.time) ≡ false = λ n. rw (first, data_first) apart in
    let runs = run_before begun.virt begun.target begun.time begun.more (mapping_of (virt, value) ∷ rest)
    (apart_first (run begun.virt begun.target (suc begun.more) begun.time) (mapping_of (virt, value)) (joined_runs rest) ends) in
    ap (map run_of) runs ∙ rw (add-one begun.more) refl

-- so does the end
pub taken_last : (begun : OpenRun) → given_runs (begun_mappings (Some begun)) ≡ given_run begun ∷ []
taken_last begun =
    let runs = run_before begun.virt begun.target begun.time begun.more [] tt in
    ap given_runs (sym (append-nil (begun_mappings (Some begun)))) ∙ (ap (map run_of) runs ∙ rw (add-one begun.more) refl)

-- What is left of the devices and of the runs.

-- nothing stands beside nothing
pub zip-nil : {X Y : Type 0} → (xs : List X) → zip {K = X} {X = Y} xs [] ≡ []
zip-nil [] = refl
zip-nil (x ∷ xs) = refl

-- nothing is left where a device has no details
pub rows_end : (top : ℕ × Root) (tops left : List (ℕ × Root)) (details later : List (ℕ × Details)) → tops ≡ top ∷ left → (details ≡ []) × (later ≡ [])
    → (rows_of tops details ≡ []) × (rows_of left later ≡ [])
rows_end top tops left details later is none = (rw (is, none.0) refl, rw none.1 (ap (map row_of) (zip-nil left)))

-- the same runs are left as at the start, and each read took a block of those that were to be read
pub record RunsTold (image : List (List ℕ)) (reads : ℕ) (start : MapRuns) (made : ℕ) (now : MapRuns) : Type 0 where
  pub runs : runs_left image start ≡ runs_left image now
  pub reads_left : made + runs_reads image now ≤ reads + runs_reads image start

-- Mappings that are joined to runs as they come.
use Rattle.std.proofs.Common.{◌≡◌, ℕ, ◌+◌, ◌^◌, ◌<◌, ◌≤◌, true, ◌&&◌, nat_lt, List, [], ◌∷◌, ◌++◌, length, map, filter, Option, IfSome, refl, sym, ap, ◌∙◌, arith, append_assoc, zero, suc, ◌-◌, false, nat_eq, Some}
use Rattle.std.proofs.lemmas.List.{append-nil, length-append, map-append}
use Rattle.std.proofs.lemmas.Bool.{and_parts, lt-ltb, le-ltb, ltb-true, eqb-true}
use Rattle.pd_kinds.specs.Meaning.{Mapping}
use Rattle.pd_grammar.specs.Lawful.{AreMappings}
use Rattle.pd_grammar.specs.ThinText.{mappings_from, mappings_of, joined_runs}
use Rattle.pd_grammar.proofs.ThinLaws.{Apart, run_joined}
use Rattle.pd_grammar.specs.ThinText as text
use Rattle.pd_value.specs.declared.thin.BlockTime.{BlockTime}
use Rattle.pd_tree.proofs.NextLemmas.{if_both}
use Rattle.pd_meaning_thin.specs.declared.joined.Run.{Run}
use Rattle.pd_meaning_thin.specs.Runs.{mapping_of, spelled}
use Rattle.pd_meaning_thin.proofs.JoinedLemmas.{apart_first}
use Rattle.pd_meaning_thin.proofs.AppendLemmas.{both_runs}
use Rattle.pd_salvage.specs.declared.joined.Gathering.{Gathering}
use Rattle.pd_salvage.specs.Gather.{HasRuns, IsGathered, IsGathering, IsJoining, begun_mappings, mappings_of_runs}
use Rattle.pd_salvage.specs.declared.joined.Joining.{Joining}

pub one_more : (ms : List Mapping) (m : Mapping) → length (ms ++ m ∷ []) ≡ length ms + 1
one_more ms m = length-append ms (m ∷ [])

-- what a loop over mappings keeps
pub record Gathers (blocks least : ℕ) (held : Option (List (List ℕ))) (all left : List (List ℕ) → List Mapping) (now : ℕ) (before runs : List Run) (gathering : Gathering) : Type 0 where
  pub ms : List Mapping
  pub gathered : IsGathering before runs gathering ms
  pub lawful : (rest : List Mapping) → AreMappings blocks now rest → AreMappings blocks least (ms ++ rest)
  pub told : IfSome held (λ image. ms ++ left image ≡ all image)

-- mappings that may come later
later_mappings : (blocks low least : ℕ) (ms : List Mapping) → low ≤ least → AreMappings blocks least ms → AreMappings blocks low ms
later_mappings blocks low least [] below are = tt
later_mappings blocks low least (x ∷ xs) below are =
    let above = are.0.above in
    (record { above = omega arith; virtual_fits = are.0.virtual_fits; within = are.0.within; time_fits = are.0.time_fits }, are.1)

module _ (blocks least : ℕ) (held : Option (List (List ℕ))) (all left later : List (List ℕ) → List Mapping) (now next : ℕ) (before runs : List Run) (gathering : Gathering)
    (gathers : Gathers blocks least held all left now before runs gathering) (virt : ℕ) (value : BlockTime) (from : now ≤ virt) (step : next ≡ virt + 1) where
  -- a mapping is taken
  pub takes_mapping : (new : List Run) (gathering' : Gathering) → IsGathering before new gathering' (gathers.ms ++ mapping_of (virt, value) ∷ [])
      → virt < 2 ^ 64 → value.block < blocks → value.time < 2 ^ 24 → IfSome held (λ image. left image ≡ mapping_of (virt, value) ∷ later image)
      → Gathers blocks least held all later next before new gathering'
  takes_mapping new gathering' taken fits within time_fits comes = record {
    ms = gathers.ms ++ mapping_of (virt, value) ∷ [];
    gathered = taken;
    lawful = λ rest are.
        rw (append_assoc gathers.ms (mapping_of (virt, value) ∷ []) rest)
        (gathers.lawful (mapping_of (virt, value) ∷ rest)
        (record { above = from; virtual_fits = fits; within = within; time_fits = time_fits }, rw step at are));
    told =
        if_both held
        (λ image is old comes. append_assoc gathers.ms (mapping_of (virt, value) ∷ []) (later image) ∙ (ap (λ (xs : List Mapping). gathers.ms ++ xs) (sym comes) ∙ old))
        gathers.told comes;
  }

  -- one is left out
  pub skips_mapping : IfSome held (λ image. left image ≡ later image) → Gathers blocks least held all later next before runs gathering
  skips_mapping comes = record {
    ms = gathers.ms;
    gathered = gathers.gathered;
    lawful = λ rest are. gathers.lawful rest (later_mappings blocks now next rest (omega arith) are);
    told = if_both held (λ image is old comes. ap (λ (xs : List Mapping). gathers.ms ++ xs) (sym comes) ∙ old) gathers.told comes;
  }

-- the end of the loop
pub all_gathered : (blocks least : ℕ) (held : Option (List (List ℕ))) (all left : List (List ℕ) → List Mapping) (now : ℕ) (before runs new : List Run) (gathering : Gathering) (mapped : ℕ)
    (gathers : Gathers blocks least held all left now before runs gathering) → HasRuns before new gathers.ms → mapped ≡ gathering.mapped → IfSome held (λ image. left image ≡ [])
    → IsGathered blocks least mapped held all before new
all_gathered blocks least held all left now before runs new gathering mapped gathers has is ends = record {
  given = has.given;
  runs_are = has.runs_are;
  joined = rw has.written at has.joined;
  number = is ∙ (gathers.gathered.mapped ∙ ap length has.written);
  lawful = rw has.written at (rw (append-nil gathers.ms) at (gathers.lawful [] tt));
  told =
      if_both held
      (λ image held_is old none. sym has.written ∙ (sym (append-nil gathers.ms) ∙ (ap (λ (xs : List Mapping). gathers.ms ++ xs) (sym none) ∙ old)))
      gathers.told ends;
}

-- the mapping that comes next is kept, or not
pub comes_kept : (blocks virt : ℕ) (value : BlockTime) (left later : List (ℕ × BlockTime)) → left ≡ (virt, value) ∷ later → value.block < blocks
    → map mapping_of (filter (λ (item : ℕ × BlockTime). nat_lt item.1.block blocks) left)
    ≡ mapping_of (virt, value) ∷ map mapping_of (filter (λ (item : ℕ × BlockTime). nat_lt item.1.block blocks) later)
comes_kept blocks virt value left later is within = rw (is, lt-ltb value.block blocks within) refl

pub comes_skipped : (blocks virt : ℕ) (value : BlockTime) (left later : List (ℕ × BlockTime)) → left ≡ (virt, value) ∷ later → blocks ≤ value.block
    → map mapping_of (filter (λ (item : ℕ × BlockTime). nat_lt item.1.block blocks) left)
    ≡ map mapping_of (filter (λ (item : ℕ × BlockTime). nat_lt item.1.block blocks) later)
comes_skipped blocks virt value left later is out = rw (is, le-ltb value.block blocks out) refl

pub comes_none : (blocks : ℕ) (left later : List (ℕ × BlockTime)) → (left ≡ []) × (later ≡ [])
    → map mapping_of (filter (λ (item : ℕ × BlockTime). nat_lt item.1.block blocks) left) ≡ []
comes_none blocks left later none = rw none.0 refl

-- a time that fits
pub time_below : (value : BlockTime) → (nat_lt value.block (2 ^ 40) && nat_lt value.time (2 ^ 24)) ≡ true → value.time < 2 ^ 24
time_below value fits = ltb-true value.time (2 ^ 24) (and_parts (nat_lt value.block (2 ^ 40)) (nat_lt value.time (2 ^ 24)) fits).1

-- Runs that are joined as they come.

-- the longer run
abbrev pub longer : Run → Run → Run
longer begun next = record begun { length = next.target - begun.target + next.length }

taken_on : (begun next : Run) → text.continues_run (spelled begun) (spelled next) ≡ true
    → begun_mappings (Some begun) ++ mappings_of (spelled next) ≡ begun_mappings (Some (longer begun next))
taken_on begun next is =
    let parts = and_parts (nat_eq (begun.virt + begun.length) next.virt) (nat_eq (begun.target + begun.length) next.target && nat_eq begun.time next.time) is in
    let others = and_parts (nat_eq (begun.target + begun.length) next.target) (nat_eq begun.time next.time) parts.1 in
    let virtual : next.virt ≡ begun.virt + begun.length = sym (eqb-true (begun.virt + begun.length) next.virt parts.0) in
    let target : next.target ≡ begun.target + begun.length = sym (eqb-true (begun.target + begun.length) next.target others.0) in
    let time : next.time ≡ begun.time = sym (eqb-true begun.time next.time others.1) in
    let length_is : begun.target + begun.length - begun.target + next.length ≡ begun.length + next.length = omega arith in
    rw (virtual, target, time, length_is) (both_runs begun.virt begun.target begun.time begun.length next.length)

-- a run that doesn't follow another ends it
apart_next : (r : text.Run) (v d t n : ℕ) (rest : List Mapping) → 1 ≤ n
    → ((k : ℕ) → text.continues_run r (record { virtual_block = v; data_block = d; length = k; time = t }) ≡ false)
    → Apart r (joined_runs (mappings_from v d t n ++ rest))
apart_next r v d t zero rest some apart = absurd (omega arith)
apart_next r v d t (suc n) rest some apart =
    apart_first r (record { virtual_block = v; data_block = d; time = t }) (joined_runs (mappings_from (suc v) (suc d) t n ++ rest)) apart

taken_apart : (begun next : Run) (rest : List Mapping) → 1 ≤ begun.length → 1 ≤ next.length → text.continues_run (spelled begun) (spelled next) ≡ false
    → joined_runs (begun_mappings (Some begun) ++ (mappings_of (spelled next) ++ rest)) ≡ spelled begun ∷ joined_runs (mappings_of (spelled next) ++ rest)
taken_apart begun next rest some first apart =
    run_joined begun.virt begun.target begun.time begun.length (mappings_of (spelled next) ++ rest) some
    (apart_next (spelled begun) next.virt next.target next.time next.length rest first (λ k. apart))

-- so does the end
taken_last : (begun : Run) → 1 ≤ begun.length → joined_runs (begun_mappings (Some begun)) ≡ spelled begun ∷ []
taken_last begun some =
    ap joined_runs (sym (append-nil (begun_mappings (Some begun)))) ∙ run_joined begun.virt begun.target begun.time begun.length [] some tt

-- the mappings of runs with one more
pub runs_more : (given : List Run) (begun : Run) → mappings_of_runs (given ++ begun ∷ []) ≡ mappings_of_runs given ++ begun_mappings (Some begun)
runs_more [] begun = append-nil (begun_mappings (Some begun))
runs_more (r ∷ given) begun =
    ap (λ (ms : List Mapping). mappings_of (spelled r) ++ ms) (runs_more given begun)
    ∙ sym (append_assoc (mappings_of (spelled r)) (mappings_of_runs given) (begun_mappings (Some begun)))

module _ (before runs : List Run) (joining : Joining) (ms : List Mapping) (is : IsJoining before runs joining ms) where
  module _ (next : Run) (first : 1 ≤ next.length) where
    abbrev more : List Mapping
    more = mappings_of (spelled next)

    -- one that follows the begun run
    pub joins_on : (begun : Run) → joining.begun ≡ Some begun → text.continues_run (spelled begun) (spelled next) ≡ true
        → IsJoining before runs (record { begun = Some (longer begun next) }) (ms ++ more)
    joins_on begun here on =
        let written = rw here at is.written in
        let joined = rw here at is.joined in
        record {
          given = is.given;
          runs_are = is.runs_are;
          some = omega arith;
          written =
              ap (λ (xs : List Mapping). xs ++ more) written
              ∙ (append_assoc (mappings_of_runs is.given) (begun_mappings (Some begun)) more
              ∙ ap (λ (xs : List Mapping). mappings_of_runs is.given ++ xs) (taken_on begun next on));
          joined = λ rest.
              ap joined_runs (append_assoc ms more rest)
              ∙ (joined (more ++ rest)
              ∙ ap (λ (xs : List Mapping). map spelled is.given ++ joined_runs xs)
              (sym (append_assoc (begun_mappings (Some begun)) more rest) ∙ ap (λ (xs : List Mapping). xs ++ rest) (taken_on begun next on)));
        }

    -- one that doesn't
    pub joins_apart : (begun : Run) (new : List Run) → joining.begun ≡ Some begun → text.continues_run (spelled begun) (spelled next) ≡ false → new ≡ runs ++ begun ∷ []
        → IsJoining before new (record { begun = Some next }) (ms ++ more)
    joins_apart begun new here apart pushed =
        let written = rw here at is.written in
        let joined = rw here at is.joined in
        let some = rw here at is.some in
        record {
          given = is.given ++ begun ∷ [];
          runs_are = pushed ∙ (ap (λ (xs : List Run). xs ++ begun ∷ []) is.runs_are ∙ append_assoc before is.given (begun ∷ []));
          some = first;
          written = ap (λ (xs : List Mapping). xs ++ more) (written ∙ sym (runs_more is.given begun));
          joined = λ rest.
              ap joined_runs (append_assoc ms more rest)
              ∙ (joined (more ++ rest)
              ∙ (ap (λ (rs : List text.Run). map spelled is.given ++ rs) (taken_apart begun next rest some first apart)
              ∙ (sym (append_assoc (map spelled is.given) (spelled begun ∷ []) (joined_runs (more ++ rest)))
              ∙ ap (λ (rs : List text.Run). rs ++ joined_runs (more ++ rest)) (sym (map-append spelled is.given (begun ∷ []))))));
        }

  -- the end
  pub ends_with : (begun : Run) (new : List Run) → joining.begun ≡ Some begun → new ≡ runs ++ begun ∷ [] → HasRuns before new ms
  ends_with begun new here pushed =
      let written = rw here at is.written in
      let joined = rw here at is.joined in
      let some = rw here at is.some in
      record {
        given = is.given ++ begun ∷ [];
        runs_are = pushed ∙ (ap (λ (xs : List Run). xs ++ begun ∷ []) is.runs_are ∙ append_assoc before is.given (begun ∷ []));
        written = written ∙ sym (runs_more is.given begun);
        joined =
            ap joined_runs (sym (append-nil ms))
            ∙ (joined []
            ∙ (ap (λ (xs : List Mapping). map spelled is.given ++ joined_runs xs) (append-nil (begun_mappings (Some begun)))
            ∙ (ap (λ (rs : List text.Run). map spelled is.given ++ rs) (taken_last begun some)
            ∙ sym (map-append spelled is.given (begun ∷ [])))));
      }

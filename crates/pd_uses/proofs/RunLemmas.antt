-- The mappings of runs, and between which blocks they lead.
use Rattle.std.proofs.Common.{◌≡◌, ℕ, zero, suc, ◌+◌, ◌-◌, ◌^◌, ◌<◌, ◌≤◌, min, max, List, [], ◌∷◌, ◌++◌, filter, get_or, length, map, take, refl, sym, ap, ap₂, ◌∙◌, arith, append_assoc}
use Rattle.std.specs.List.{flat_map, range_with_len}
use Rattle.std.proofs.lemmas.List.{append-nil, map-append, take_more}
use Rattle.std.proofs.lemmas.List.Concat.{flat_map-append}
use Rattle.std.proofs.lemmas.List.Elements.{filter-append}
use Rattle.std.proofs.lemmas.List.FromFn.{map-range_with_len_more}
use Rattle.pd_kinds.proofs.ListLemmas.{all_append}
use Rattle.pd_uses.specs.declared.hit_runs.HitRun.{HitRun}
use Rattle.pd_uses.specs.declared.hits.DataUse.{DataUse}
use Rattle.pd_uses.specs.declared.hits.Hit.{Hit}
use Rattle.pd_uses.specs.declared.hits.Region.{Region}
use Rattle.pd_uses.specs.declared.hits.Span.{Span}
use Rattle.pd_uses.specs.Hits.{is_hit, run_hit, run_hits, runs_hits, use_of}
use Rattle.pd_uses.specs.Spans.{IsSpan}

-- a run with one mapping more
pub run_more : (run : HitRun) (hit : Hit) → run_hit run run.number ≡ hit → run_hits (record { block = run.block; virt = run.virt; number = run.number + 1 }) ≡ run_hits run ++ (hit ∷ [])
run_more run hit is = map-range_with_len_more (run_hit run) 0 run.number run.number (omega arith) ∙ ap (λ (one : Hit). run_hits run ++ (one ∷ [])) is

same_hit : (hit : Hit) (block virt : ℕ) → block ≡ hit.block → virt ≡ hit.virt → record { block = block; virt = virt } ≡ hit
same_hit hit block virt same_block same_virt = ap₂ (λ (b v : ℕ). record { block = b; virt = v }) same_block same_virt

pub next_is : (run : HitRun) (next hit : Hit) → next ≡ run_hit run run.number → next.block ≡ hit.block → next.virt ≡ hit.virt → run_hit run run.number ≡ hit
next_is run next hit is block virt = sym is ∙ same_hit hit next.block next.virt block virt

-- a run of one mapping
pub one_run : (hit : Hit) → hit.block < 2 ^ 64 → hit.virt < 2 ^ 64 → run_hits (record { block = hit.block; virt = hit.virt; number = 1 }) ≡ hit ∷ []
one_run hit small_block small_virt =
    let block : min (hit.block + 0) (2 ^ 64 - 1) ≡ hit.block = omega arith in
    let virt : min (hit.virt + 0) (2 ^ 64 - 1) ≡ hit.virt = omega arith in
    ap (λ (one : Hit). one ∷ []) (same_hit hit (min (hit.block + 0) (2 ^ 64 - 1)) (min (hit.virt + 0) (2 ^ 64 - 1)) block virt)

-- no runs, a run more, and one without mappings
pub no_runs : runs_hits [] ≡ []
unfolding runs_hits
no_runs = refl

pub runs_more : (runs : List HitRun) (run : HitRun) → runs_hits (runs ++ (run ∷ [])) ≡ runs_hits runs ++ run_hits run
unfolding runs_hits
runs_more runs run = flat_map-append run_hits runs (run ∷ []) ∙ ap (λ (hits : List Hit). flat_map run_hits runs ++ hits) (append-nil (run_hits run))

pub empty_run : (hits : List Hit) (run : HitRun) → run.number ≡ 0 → hits ≡ hits ++ run_hits run
empty_run hits run none = rw none (sym (append-nil hits))

pub runs_so_far : (runs : List HitRun) (i : ℕ) (d : HitRun) → i < length runs → runs_hits (take (i + 1) runs) ≡ runs_hits (take i runs) ++ run_hits (get_or runs i d)
runs_so_far runs i d within = ap runs_hits (take_more runs i d within) ∙ runs_more (take i runs) (get_or runs i d)

-- the mappings of the places before one, and of one more, of a kind
pub places_more : (region : Region) (run : HitRun) (hits : List Hit) (place : ℕ) (hit : Hit) → hit ≡ run_hit run place
    → (hits ++ filter (is_hit region) (map (run_hit run) (range_with_len 0 place))) ++ filter (is_hit region) (hit ∷ []) ≡ hits ++ filter (is_hit region) (map (run_hit run) (range_with_len 0 (place + 1)))
places_more region run hits place hit is =
    append_assoc hits (filter (is_hit region) (map (run_hit run) (range_with_len 0 place))) (filter (is_hit region) (hit ∷ []))
    ∙ ap (λ (more : List Hit). hits ++ more)
    (ap (λ (one : Hit). filter (is_hit region) (map (run_hit run) (range_with_len 0 place)) ++ filter (is_hit region) (one ∷ [])) is
    ∙ sym (ap (filter (is_hit region)) (map-range_with_len_more (run_hit run) 0 place place (omega arith)) ∙ filter-append (is_hit region) (map (run_hit run) (range_with_len 0 place)) (run_hit run place ∷ [])))

-- those of a run more
pub within_more : (region : Region) (runs : List HitRun) (i : ℕ) (d : HitRun) → i < length runs
    → filter (is_hit region) (runs_hits (take i runs)) ++ filter (is_hit region) (run_hits (get_or runs i d)) ≡ filter (is_hit region) (runs_hits (take (i + 1) runs))
within_more region runs i d within =
    sym (ap (filter (is_hit region)) (runs_so_far runs i d within) ∙ filter-append (is_hit region) (runs_hits (take i runs)) (run_hits (get_or runs i d)))

-- the uses that they are: a place more, and a run more
pub use_places_more : (id : ℕ) (run : HitRun) (uses : List DataUse) (place : ℕ) (one : DataUse) → one ≡ use_of id (run_hit run place)
    → (uses ++ map (use_of id) (map (run_hit run) (range_with_len 0 place))) ++ (one ∷ []) ≡ uses ++ map (use_of id) (map (run_hit run) (range_with_len 0 (place + 1)))
use_places_more id run uses place one is =
    append_assoc uses (map (use_of id) (map (run_hit run) (range_with_len 0 place))) (one ∷ [])
    ∙ ap (λ (more : List DataUse). uses ++ more)
    (ap (λ (last : DataUse). map (use_of id) (map (run_hit run) (range_with_len 0 place)) ++ (last ∷ [])) is
    ∙ sym (ap (map (use_of id)) (map-range_with_len_more (run_hit run) 0 place place (omega arith)) ∙ map-append (use_of id) (map (run_hit run) (range_with_len 0 place)) (run_hit run place ∷ [])))

pub use_runs_more : (id : ℕ) (uses : List DataUse) (runs : List HitRun) (i : ℕ) (d : HitRun) → i < length runs
    → (uses ++ map (use_of id) (runs_hits (take i runs))) ++ map (use_of id) (run_hits (get_or runs i d)) ≡ uses ++ map (use_of id) (runs_hits (take (i + 1) runs))
use_runs_more id uses runs i d within =
    append_assoc uses (map (use_of id) (runs_hits (take i runs))) (map (use_of id) (run_hits (get_or runs i d)))
    ∙ ap (λ (more : List DataUse). uses ++ more)
    (sym (ap (map (use_of id)) (runs_so_far runs i d within) ∙ map-append (use_of id) (runs_hits (take i runs)) (run_hits (get_or runs i d))))

-- a wider span
widened : (span wider : Span) (hits : List Hit) → wider.least ≤ span.least → span.most ≤ wider.most → IsSpan span hits → IsSpan wider hits
widened span wider [] low high all = tt
widened span wider (hit ∷ hits) low high all =
    let from = all.0.0 in
    let to = all.0.1 in
    ((omega arith, omega arith), widened span wider hits low high all.1)

-- the blocks of the places of a run lie between those of its first place and its last one
places_span : (run : HitRun) (span : Span) (i n : ℕ) → i + n ≡ run.number → span.least ≤ (run_hit run 0).block → (run_hit run (run.number - 1)).block ≤ span.most
    → IsSpan span (map (run_hit run) (range_with_len i n))
places_span run span i zero number low high = tt
places_span run span i (suc n) number low high = ((omega arith, omega arith), places_span run span (i + 1) n (omega arith) low high)

pub span_runs : (span : Span) (least most : ℕ) (runs : List HitRun) (i : ℕ) (d : HitRun) → i < length runs → least ≡ min span.least (run_hit (get_or runs i d) 0).block
    → most ≡ max span.most (run_hit (get_or runs i d) ((get_or runs i d).number - 1)).block → IsSpan span (runs_hits (take i runs)) → IsSpan (record { least = least; most = most }) (runs_hits (take (i + 1) runs))
span_runs span least most runs i d within low high all =
    let run = get_or runs i d in
    let wider : Span = record { least = least; most = most } in
    rw (runs_so_far runs i d within)
    (all_append (λ (hit : Hit). (wider.least ≤ hit.block) × (hit.block ≤ wider.most)) (runs_hits (take i runs)) (run_hits run) (widened span wider (runs_hits (take i runs)) (omega arith) (omega arith) all)
    (places_span run wider 0 run.number (omega arith) (omega arith) (omega arith)))

-- Leaves that take their items run by run.
use Rattle.std.proofs.Common.{◌≡◌, ℕ, ◌+◌, ◌^◌, ◌≤◌, List, [], ◌∷◌, ◌++◌, length, length-append, refl, sym, ◌∙◌, ap, subst, append_assoc, arith, zero, suc, ◌<◌, max, true, nat_lt, ◌/◌}
use Rattle.std.proofs.lemmas.List.{append-nil, map-append}
use Rattle.std.specs.List.{AllByRecursion, flat_map}
use Rattle.std.proofs.lemmas.Bool.{and_from, lt-ltb}
use Rattle.std.proofs.lemmas.List.Concat.{flat_map-append}
use Rattle.std.proofs.Math.Seq.{take-length}
use Rattle.pd_kinds.specs.Meaning.{Mapping}
use Rattle.pd_kinds.specs.Node.{Entry, leaf_block, is_ascending, max_entries}
use Rattle.pd_grammar.specs.Lawful.{AreMappings}
use Rattle.pd_grammar.specs.ThinText.{Run, mappings_of, mappings_from}
use Rattle.pd_grammar.proofs.ThinMeaning.{RunFits, run_fits, mappings_length, run_mappings}
use Rattle.pd_grammar.specs.Need.{nodes_for}
use Rattle.pd_laid.specs.LaidThin.{mapping_items}
use Rattle.pd_laid.specs.Laid.{blocks_from, heads, tree_leaves, even_parts}
use Rattle.pd_laid.proofs.LaidLemmas.{blocks_from-append, length-blocks_from}
use Rattle.pd_laid.proofs.GatherLemmas.{items-append, length-items}
use Rattle.pd_laid.specs.PoolText.{mappings_of_runs, HaveMappings}
use Rattle.pd_laid.proofs.LeafRuns.{mappings_from_zero}
use Rattle.pd_draft.specs.Closed.{IsClosed, DraftState, Wrote}
use Rattle.pd_draft.proofs.DraftLemmas.{wrote_none, wrote_then}
use Rattle.pd_build.specs.Tree.{LeavesLeft, leaves_to_come, cut}
use Rattle.pd_build.proofs.UpperLemmas.{heads-append}
use Rattle.pd_build.proofs.RowLemmas.{level_spread}
use Rattle.pd_devices.specs.SharedGrowth.{items_of_runs, CanBeLaid, TakesAll, Rises, keys_in, end_after, AreHeld}

-- nothing was taken yet
pub takes_none : (size : ℕ) (t : LeavesLeft) (row : List Entry) (draft_state : DraftState) → IsClosed draft_state.device → TakesAll size [] t t row row draft_state draft_state
unfolding blocks_from heads
takes_none size t row draft_state closed = record {
  ended = [];
  wrote = wrote_none draft_state closed;
  to_come = λ items. refl;
  row_is = sym (append-nil row);
  items = omega arith;
  leaves = omega arith;
}

-- some items, and others after them
pub takes_then : {size : ℕ} {xs ys : List Entry} {a b c : LeavesLeft} {row mid last : List Entry} {from on to : DraftState}
    → TakesAll size xs a b row mid from on → TakesAll size ys b c mid last on to → TakesAll size (xs ++ ys) a c row last from to
takes_then {size} {xs} {ys} {a} {b} {c} {row} {mid} {last} {from} {on} {to} first second =
    let front = first.ended in
    let back = second.ended in
    let next : on.place ≡ from.place + length front = first.wrote.moved ∙ ap (λ (n : ℕ). from.place + n) (length-blocks_from (leaf_block size) from.place front) in
    record {
      ended = front ++ back;
      wrote = subst (λ (blocks : List (List ℕ)). Wrote blocks from to)
          (ap (λ (p : ℕ). blocks_from (leaf_block size) from.place front ++ blocks_from (leaf_block size) p back) next
          ∙ sym (blocks_from-append (leaf_block size) from.place front back))
          (wrote_then first.wrote second.wrote);
      to_come = λ items.
          ap (leaves_to_come a) (append_assoc xs ys items)
          ∙ (first.to_come (ys ++ items)
          ∙ (ap (λ (rest : List (List Entry)). front ++ rest) (second.to_come items)
          ∙ sym (append_assoc front back (leaves_to_come c items))));
      row_is =
          second.row_is
          ∙ (ap (λ (es : List Entry). es ++ heads on.place back) first.row_is
          ∙ (append_assoc row (heads from.place front) (heads on.place back)
          ∙ ap (λ (es : List Entry). row ++ es)
          (ap (λ (p : ℕ). heads from.place front ++ heads p back) next ∙ sym (heads-append from.place front back))));
      items = omega (arith, first.items, second.items, length-append xs ys);
      leaves = omega (arith, first.leaves, second.leaves, length-append front back);
    }

-- no leaf is to come where no size is
pub none_to_come : (t : LeavesLeft) (items : List Entry) → t.sizes ≡ [] → leaves_to_come t items ≡ []
unfolding cut
none_to_come t items none = rw none refl

-- all items were taken: the leaves are those of all
pub took_all : {size : ℕ} {all : List Entry} {a b : LeavesLeft} {row longer : List Entry} {from to : DraftState} {leaves : List (List Entry)}
    → TakesAll size all a b row longer from to → b.sizes ≡ [] → leaves_to_come a all ≡ leaves
    → Wrote (blocks_from (leaf_block size) from.place leaves) from to × (longer ≡ row ++ heads from.place leaves)
took_all {size} {all} {a} {b} {row} {longer} {from} {to} {leaves} takes none are =
    let same : takes.ended ≡ leaves =
    sym (append-nil takes.ended) ∙ (ap (λ (rest : List (List Entry)). takes.ended ++ rest) (sym (none_to_come b [] none))
    ∙ (sym (takes.to_come []) ∙ (ap (leaves_to_come a) (append-nil all) ∙ are))) in (
      subst (λ (ls : List (List Entry)). Wrote (blocks_from (leaf_block size) from.place ls) from to) same takes.wrote,
      takes.row_is ∙ ap (λ (ls : List (List Entry)). row ++ heads from.place ls) same,
    )

-- a run and the runs after it, which can be laid
pub laid_then : (r : Run) (runs : List Run) (least : ℕ) (low : ℕ) → CanBeLaid (r ∷ runs) least → low ≤ r.virtual_block + r.length
    → (RunFits (2 ^ 40) least r.virtual_block r.data_block r.time r.length) × CanBeLaid runs low
laid_then r runs least low can below =
    let fits = run_fits can.blocks least r.virtual_block r.data_block r.time r.length (mappings_of_runs runs) can.mappings can.have.0 in (
      record { above = fits.0.above; fits = fits.0.fits; within = omega (arith, fits.0.within, can.small); time = fits.0.time },
      record { blocks = can.blocks; small = can.small; have = can.have.1; mappings = from_lower can.blocks (r.virtual_block + r.length) low (mappings_of_runs runs) below fits.1 },
    )
  where
    from_lower : (blocks least low : ℕ) (ms : List Mapping) → low ≤ least → AreMappings blocks least ms → AreMappings blocks low ms
    from_lower blocks least low [] below are = tt
    from_lower blocks least low (m ∷ ms) below are =
        (record { above = omega (arith, are.0.above); virtual_fits = are.0.virtual_fits; within = are.0.within; time_fits = are.0.time_fits }, are.1)

pub first_number : (r : Run) (runs : List Run) → length (mappings_of_runs (r ∷ runs)) ≡ r.length + length (mappings_of_runs runs)
first_number r runs = omega (arith, length-append (mappings_of r) (mappings_of_runs runs), mappings_length r.virtual_block r.data_block r.time r.length)

-- the items of a run and of the runs after it
pub first_items : (r : Run) (runs : List Run) → items_of_runs (r ∷ runs) ≡ mapping_items (mappings_of r) ++ items_of_runs runs
first_items r runs = items-append (mappings_of r) (mappings_of_runs runs)

-- Keys that ascend, and runs that stand one behind another.

pub rises_lower : (a b c : ℕ) (ks : List ℕ) → a ≤ b → Rises b c ks → Rises a c ks
rises_lower a b c [] low rises = omega (arith, low, rises)
rises_lower a b c (k ∷ ks) low rises = (omega (arith, low, rises.0), rises.1)

pub rises_higher : (a b c : ℕ) (ks : List ℕ) → b ≤ c → Rises a b ks → Rises a c ks
rises_higher a b c [] high rises = omega (arith, high, rises)
rises_higher a b c (k ∷ ks) high rises = (rises.0, rises_higher (k + 1) b c ks high rises.1)

pub rises_least : (a b : ℕ) (ks : List ℕ) → Rises a b ks → a ≤ b
rises_least a b [] rises = rises
rises_least a b (k ∷ ks) rises = let rest = rises_least (k + 1) b ks rises.1 in omega (arith, rises.0, rest)

pub rises_then : (a b c : ℕ) (xs ys : List ℕ) → Rises a b xs → Rises b c ys → Rises a c (xs ++ ys)
rises_then a b c [] ys first second = rises_lower a b c ys first second
rises_then a b c (x ∷ xs) ys first second = (first.0, rises_then (x + 1) b c xs ys first.1 second)

pub rises_behind : (a c : ℕ) (xs ys : List ℕ) → Rises a c (xs ++ ys) → Rises a c ys
rises_behind a c [] ys rises = rises
rises_behind a c (x ∷ xs) ys rises = rises_lower a (x + 1) c ys (omega (arith, rises.0)) (rises_behind (x + 1) c xs ys rises.1)

pub rises_ascend : (a b : ℕ) (ks : List ℕ) → Rises a b ks → is_ascending ks ≡ true
unfolding is_ascending
rises_ascend a b [] rises = refl
rises_ascend a b (x ∷ []) rises = refl
rises_ascend a b (x ∷ y ∷ ks) rises = and_from (nat_lt x y) _ (lt-ltb x y (omega (arith, rises.1.0))) (rises_ascend (x + 1) b (y ∷ ks) rises.1)

-- the least keys of groups rise where all do
pub rises_heads : (place a b : ℕ) (groups : List (List Entry)) → AllByRecursion (λ (g : List Entry). 1 ≤ length g) groups
    → Rises a b (keys_in (flat_map (λ (g : List Entry). g) groups)) → Rises a b (keys_in (heads place groups))
unfolding heads
rises_heads place a b [] some rises = rises
rises_heads place a b ([] ∷ groups) some rises = absurd (omega (arith, some.0))
rises_heads place a b ((e ∷ es) ∷ groups) some rises =
    let rest = flat_map (λ (g : List Entry). g) groups in
    let split : Rises (e.key + 1) b (keys_in es ++ keys_in rest) = subst (λ (ks : List ℕ). Rises (e.key + 1) b ks) (map-append (λ (x : Entry). x.key) es rest) rises.1 in
    (rises.0, rises_heads (place + 1) (e.key + 1) b groups some.1 (rises_behind (e.key + 1) b (keys_in es) (keys_in rest) split))

-- the leaves of some items: none is empty, and so many
pub leaves_rise : (place a b : ℕ) (items : List Entry) → 1 ≤ length items → Rises a b (keys_in items) → Rises a b (keys_in (heads place (tree_leaves 8 items)))
unfolding tree_leaves
leaves_rise place a b items some rises =
    let u = nodes_for 252 (length items) in
    let same : max 1 u ≡ u = omega (arith, some) in
    let level = level_spread 1 items some in
    rw same (rises_heads place a b _ level.parts (subst (λ (es : List Entry). Rises a b (keys_in es)) (sym level.joined) rises))

-- a run's keys
run_rises : (v d t n a : ℕ) → a ≤ v → Rises a (v + n) (keys_in (mapping_items (mappings_from v d t n)))
unfolding mapping_items
run_rises v d t zero a low = omega (arith, low)
run_rises v d t (suc n) a low =
    let next : v + 1 ≡ suc v = omega arith in
    let end : suc v + n ≡ v + suc n = omega arith in
    (low, rw next (subst (λ (e : ℕ). Rises (suc v) e (keys_in (mapping_items (mappings_from (suc v) (suc d) t n)))) end (run_rises (suc v) (suc d) t n (suc v) (omega arith))))

pub end_next : (low : ℕ) (r : Run) (runs : List Run) → end_after low (r ∷ runs) ≡ end_after (r.virtual_block + r.length) runs
end_next low r [] = refl
end_next low r (s ∷ runs) = refl

-- the keys of runs rise up to their end
pub runs_rise : (blocks low : ℕ) (runs : List Run) → HaveMappings runs → AreMappings blocks low (mappings_of_runs runs)
    → Rises low (end_after low runs) (keys_in (items_of_runs runs))
unfolding mapping_items
runs_rise blocks low [] have are = omega arith
runs_rise blocks low (r ∷ runs) have are =
    let end = r.virtual_block + r.length in
    let fits = run_fits blocks low r.virtual_block r.data_block r.time r.length (mappings_of_runs runs) are have.0 in
    let rest = runs_rise blocks end runs have.1 fits.1 in
    let mine = mapping_items (mappings_of r) in
    let others = items_of_runs runs in
    let both : keys_in (items_of_runs (r ∷ runs)) ≡ keys_in mine ++ keys_in others =
    ap keys_in (items-append (mappings_of r) (mappings_of_runs runs)) ∙ map-append (λ (e : Entry). e.key) mine others in
    rw (end_next low r runs, both)
    (rises_then low end (end_after end runs) (keys_in mine) (keys_in others) (run_rises r.virtual_block r.data_block r.time r.length low fits.0.above) rest)

-- one run behind others
pub run_behind : (blocks low : ℕ) (runs : List Run) (r : Run) → HaveMappings runs → AreMappings blocks low (mappings_of_runs runs) → end_after low runs ≤ r.virtual_block
    → 1 ≤ r.length → r.virtual_block + r.length ≤ 2 ^ 64 → r.data_block + r.length ≤ blocks → r.time < 2 ^ 24
    → AreMappings blocks low (mappings_of_runs (runs ++ r ∷ []))
run_behind blocks low [] r have are above some fits within time =
    run_mappings blocks low r.virtual_block r.data_block r.time r.length [] above fits within time tt some
run_behind blocks low (s ∷ runs) r have are above some fits within time =
    let end = s.virtual_block + s.length in
    let first = run_fits blocks low s.virtual_block s.data_block s.time s.length (mappings_of_runs runs) are have.0 in
    let rest = run_behind blocks end runs r have.1 first.1 (rw (end_next low s runs) at above) some fits within time in
    run_mappings blocks low s.virtual_block s.data_block s.time s.length (mappings_of_runs (runs ++ r ∷ [])) first.0.above first.0.fits first.0.within first.0.time rest have.0

pub have_behind : (runs : List Run) (r : Run) → HaveMappings runs → 1 ≤ r.length → HaveMappings (runs ++ r ∷ [])
have_behind [] r have some = (some, tt)
have_behind (s ∷ runs) r have some = (have.0, have_behind runs r have.1 some)

pub end_behind : (low : ℕ) (runs : List Run) (r : Run) → end_after low (runs ++ r ∷ []) ≡ r.virtual_block + r.length
end_behind low [] r = refl
end_behind low (s ∷ runs) r = end_next low s (runs ++ r ∷ []) ∙ end_behind (s.virtual_block + s.length) runs r

pub number_behind : (runs : List Run) (r : Run) → length (mappings_of_runs (runs ++ r ∷ [])) ≡ length (mappings_of_runs runs) + r.length
number_behind runs r =
    ap (λ (ms : List Mapping). length ms) (flat_map-append mappings_of runs (r ∷ []))
    ∙ (length-append (mappings_of_runs runs) (mappings_of r ++ [])
    ∙ ap (λ (n : ℕ). length (mappings_of_runs runs) + n) (ap (λ (ms : List Mapping). length ms) (append-nil (mappings_of r)) ∙ mappings_length r.virtual_block r.data_block r.time r.length))

-- a run more is held
pub held_behind : {blocks low end : ℕ} {runs : List Run} (r : Run) → AreHeld blocks low end runs → end ≤ r.virtual_block
    → 1 ≤ r.length → r.virtual_block + r.length ≤ 2 ^ 64 → r.data_block + r.length ≤ blocks → r.time < 2 ^ 24
    → AreHeld blocks low (r.virtual_block + r.length) (runs ++ r ∷ [])
held_behind {blocks} {low} {end} {runs} r held above some fits within time = record {
  have = have_behind runs r held.have some;
  mappings = run_behind blocks low runs r held.have held.mappings (omega (arith, held.ends, above)) some fits within time;
  ends = let e = end_behind low runs r in omega (arith, e);
}

pub held_can : {blocks low end : ℕ} {runs : List Run} → AreHeld blocks low end runs → blocks ≤ 2 ^ 40 → CanBeLaid runs 0
held_can {blocks} {low} {end} {runs} held small = record { blocks = blocks; small = small; have = held.have; mappings = mappings_from_zero blocks low (mappings_of_runs runs) held.mappings }

-- the first key of runs is their least block
pub first_of_runs : (r : Run) (runs : List Run) → 1 ≤ r.length → (e : Entry) × (es : List Entry) × ((items_of_runs (r ∷ runs) ≡ e ∷ es) × (e.key ≡ r.virtual_block))
unfolding mapping_items
first_of_runs r runs some = first r.virtual_block r.data_block r.time r.length some
  where
    first : (v d t n : ℕ) → 1 ≤ n → (e : Entry) × (es : List Entry) × ((mapping_items (mappings_from v d t n ++ mappings_of_runs runs) ≡ e ∷ es) × (e.key ≡ v))
    first v d t zero some = absurd (omega (arith, some))
    first v d t (suc n) some = (_, _, (refl, refl))

-- A shared leaf, whose mappings are in one block.

spread_one : (xs : List Entry) → even_parts 1 xs ≡ xs ∷ []
unfolding even_parts
spread_one xs = let all : (length xs + 0) / 1 ≡ length xs = omega arith in rw (all, take-length xs) refl

pub leaves_one : (items : List Entry) → 1 ≤ length items → length items ≤ 252 → tree_leaves 8 items ≡ items ∷ []
unfolding tree_leaves
leaves_one items some few =
    let one : max 1 (nodes_for (max_entries 8) (length items)) ≡ 1 = omega (arith, some, few) in
    rw one (spread_one items)

pub one_leaf : (place : ℕ) (runs : List Run) → 1 ≤ length (mappings_of_runs runs) → length (mappings_of_runs runs) ≤ 252
    → blocks_from (leaf_block 8) place (tree_leaves 8 (items_of_runs runs)) ≡ leaf_block 8 place (items_of_runs runs) ∷ []
unfolding blocks_from
one_leaf place runs some few =
    let number = length-items (mappings_of_runs runs) in
    rw (leaves_one (items_of_runs runs) (omega (arith, number, some)) (omega (arith, number, few))) refl

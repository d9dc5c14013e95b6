-- What stands below a node that was met twice changes no tally.
use Rattle.std.proofs.Common.{◌≡◌, ℕ, ◌+◌, ◌<◌, ◌≤◌, List, [], ◌∷◌, length, get_or, set, arith, inl, inr, get_or-set_same, get_or-set_other, suc, ◌-◌, ◌^◌, nat_eq, ◌++◌, map, Option, None, Some, Result, OnOk, Ok, Err, refl, sym, ap, ◌∙◌, subst, ap₂, length-append, length-set, zero, false, append_assoc}
use Rattle.std.proofs.lemmas.Bool.{cases_eq, cases_Bool, or_right}
use Rattle.std.specs.List.{AllByRecursion, flat_map, list_any}
use Rattle.std.proofs.lemmas.List.{append-nil}
use Rattle.std.proofs.lemmas.List.Elements.{filter_map-append}
use Rattle.pd_kinds.specs.declared.superblocks.ThinSuper.{ThinSuper}
use Rattle.pd_kinds.specs.Graph.{block_at}
use Rattle.pd_kinds.specs.Meaning.{Mapping}
use Rattle.pd_kinds.proofs.ListLemmas.{all_from, all_of}
use Rattle.pd_laid.proofs.GatherLemmas.{joined_twice, same_each}
use Rattle.pd_value.specs.declared.thin.BlockTime.{BlockTime}
use Rattle.pd_count.specs.Counted.{Counted, count_of, PutsNumber}
use Rattle.pd_tree.specs.Below.{each_below, gather, items_below, items_from, kids_from, nodes_below}
use Rattle.pd_tree.specs.Search.{node_kids}
use Rattle.pd_tree.specs.Stack.{nodes_at, stack_items, stack_nodes, GivesEntry, GoesDown}
use Rattle.pd_tree.specs.declared.stack.Stack.{Stack}
use Rattle.pd_tree.proofs.StackLemmas.{nodes_below_is}
use Rattle.pd_tree.proofs.NextLemmas.{items_outside, nodes_outside, none_left}
use Rattle.pd_tree.proofs.OnceLemmas.{by_first}
use Rattle.pd_tree.specs.Stack as places
use Rattle.pd_meaning_thin.specs.Marks.{occurs}
use Rattle.pd_meaning_thin.proofs.OccursLemmas.{occurs-itself, Among, among_flat, among_there, from_flat, occurs-append, occurs-cons, occurs-none, occurs_there}
use Rattle.pd_meaning_thin.specs.declared.devices.DeviceRow.{DeviceRow}
use Rattle.pd_meaning_thin.specs.Given.{super_rows}
use Rattle.pd_meaning_thin.specs.Walk.{IsProperTree}
use Rattle.pd_meaning_thin.specs.Runs.{block_time_of, mapping_of}
use Rattle.pd_uses.specs.declared.hits.DataUse.{DataUse}
use Rattle.pd_uses.specs.declared.tallies.Tallies.{Tallies}
use Rattle.pd_uses.specs.ListWalk.{TalliesRows, IsTallied, begun, is_alone, lowered_at, number_at, placed, placed_told, raised_at, rows_placed, times, AreExclusive, HasTallied, IsTold, Walks, mappings_at, told_of, times_met}
use Rattle.pd_uses.specs.Uses.{number_of_uses, row_uses, rows_told, super_told, uses_told, use_by}
use Rattle.pd_uses.proofs.TallyLemmas.{tallied_begun, tallied_first, tallied_often, tallied_past, tallied_second, tallied_several}
use Rattle.pd_uses.specs.declared.list_walk.Meets.{Meets}
use Rattle.pd_uses.proofs.CountLemmas.{number_of_both}

-- How often nodes were met after one meeting more.

pub once_more : (counts : List ℕ) (b c met : ℕ) → b < length counts → met ≡ get_or counts b 0 → get_or (set counts b (met + 1)) c 0 ≤ get_or counts c 0 + occurs c (b ∷ [])
once_more counts b c met within is = elim (cases_eq c b) [
  | inl same ↦
      let put = get_or-set_same counts b (met + 1) 0 within in
      let here : get_or (set counts b (met + 1)) b 0 ≤ get_or counts b 0 + occurs b (b ∷ []) = let itself = occurs-itself b [] in omega arith in
      rw same here
  | inr other ↦ let put = get_or-set_other counts b c (met + 1) 0 other in omega arith
]

-- What a use more does to tallies, and what a device more does.

-- the place of the last device
abbrev last : Tallies → ℕ
last t = length t.exclusive.items - 1

-- how many devices have begun after more was told, and the uses then
begun_append : (n : ℕ) (told more : List (Option DataUse)) → begun n (told ++ more) ≡ begun (begun n told) more
begun_append n [] more = refl
begun_append n (None ∷ told) more = begun_append (suc n) told more
begun_append n (Some one ∷ told) more = begun_append n told more

placed_append : (n : ℕ) (told more : List (Option DataUse)) → placed_told n (told ++ more) ≡ placed_told n told ++ placed_told (begun n told) more
placed_append n [] more = refl
placed_append n (None ∷ told) more = placed_append (suc n) told more
placed_append n (Some one ∷ told) more = ap (λ (xs : List (ℕ × ℕ)). (n - 1, one.block) ∷ xs) (placed_append n told more)

-- the uses by rows are those among what a walk over them tells
some_placed : (place : ℕ) (uses : List DataUse) (more : List (Option DataUse)) → placed_told (suc place) (map Some uses ++ more) ≡ placed place uses ++ placed_told (suc place) more
some_placed place [] more = refl
some_placed place (one ∷ uses) more =
    let at : suc place - 1 ≡ place = omega arith in
    ap₂ (λ (p : ℕ) (xs : List (ℕ × ℕ)). (p, one.block) ∷ xs) at (some_placed place uses more)

placed_rows : (image : List (List ℕ)) (place : ℕ) (rows : List DeviceRow) → placed_told place (rows_told image rows) ≡ rows_placed image place rows
placed_rows image place [] = refl
placed_rows image place (row ∷ rows) =
    some_placed place (row_uses image row) (rows_told image rows) ∙ ap (λ (xs : List (ℕ × ℕ)). placed place (row_uses image row) ++ xs) (placed_rows image (suc place) rows)

-- a device more
pub takes_device : (old new : Tallies) → new.users ≡ old.users → new.exclusive.items ≡ old.exclusive.items ++ (0 ∷ [])
    → (start : Tallies) (before : List (Option DataUse)) → HasTallied start before old → HasTallied start (before ++ (None ∷ [])) new
takes_device old new same more start before had = record {
  size = ap (λ (t : Counted). t.size) same ∙ had.size;
  devices = rw (begun_append 0 before (None ∷ [])) (omega (arith, had.devices, ap length more, length-append old.exclusive.items (0 ∷ [])));
  tallied = rw (placed_append 0 before (None ∷ []), append-nil (placed_told 0 before), same, more) (tallied_begun (placed_told 0 before) old.users old.exclusive.items had.tallied);
}

-- where one use more is tallied, so are all
one_more : (one : DataUse) (old new : Tallies) → new.users.size ≡ old.users.size → length new.exclusive.items ≡ length old.exclusive.items
    → ((uses : List (ℕ × ℕ)) → IsTallied uses old.users old.exclusive.items → IsTallied (uses ++ ((last old, one.block) ∷ [])) new.users new.exclusive.items)
    → (start : Tallies) (before : List (Option DataUse)) → HasTallied start before old → HasTallied start (before ++ (Some one ∷ [])) new
one_more one old new size devices more start before had = record {
  size = size ∙ had.size;
  devices = (devices ∙ had.devices) ∙ sym (begun_append 0 before (Some one ∷ []));
  tallied = rw (placed_append 0 before (Some one ∷ []), ← had.devices) (more (placed_told 0 before) had.tallied);
}

-- how often a block is used among what is told
times_told : (n : ℕ) (told : List (Option DataUse)) (b : ℕ) → times (placed_told n told) b ≡ number_of_uses (uses_told told) b
unfolding uses_told
times_told n [] b = refl
times_told n (None ∷ told) b = times_told (suc n) told b
times_told n (Some one ∷ told) b = elim (cases_Bool (nat_eq one.block b)) [
  | inl same ↦ rw same (ap suc (times_told n told b))
  | inr other ↦ rw other (times_told n told b)
]

-- a use of a block that was told twice before
pub takes_often : (one : DataUse) (t start : Tallies) (before : List (Option DataUse)) → 2 ≤ number_of_uses (uses_told before) one.block
    → HasTallied start before t → HasTallied start (before ++ (Some one ∷ [])) t
takes_often one t start before often had = record {
  size = had.size;
  devices = had.devices ∙ sym (begun_append 0 before (Some one ∷ []));
  tallied = rw (placed_append 0 before (Some one ∷ []), ← had.devices) (tallied_often (placed_told 0 before) t.users t.exclusive.items (last t) one.block (rw (times_told 0 before one.block) often) had.tallied);
}

pub takes_past : (one : DataUse) (old : Tallies) → old.users.size ≤ one.block → (start : Tallies) (before : List (Option DataUse)) → HasTallied start before old → HasTallied start (before ++ (Some one ∷ [])) old
takes_past one old past = one_more one old old refl refl (λ uses. tallied_past uses old.users old.exclusive.items (last old) one.block past)

pub takes_several : (one : DataUse) (old : Tallies) → one.block < old.users.size → count_of old.users one.block ≡ 2 ^ 32 - 1
    → (start : Tallies) (before : List (Option DataUse)) → HasTallied start before old → HasTallied start (before ++ (Some one ∷ [])) old
takes_several one old inside many = one_more one old old refl refl (λ uses. tallied_several uses old.users old.exclusive.items (last old) one.block inside many)

pub takes_first : {T E : Type 0} → (one : DataUse) (old new : Tallies) (result : Result T E) → one.block < old.users.size → old.users.size < 2 ^ 64 → count_of old.users one.block ≡ 0
    → OnOk result (length old.exclusive.items < 2 ^ 32 - 1) → OnOk result (0 < length old.exclusive.items) → OnOk result (PutsNumber one.block (length old.exclusive.items) old.users new.users)
    → OnOk result (new.exclusive.items ≡ raised_at (length old.exclusive.items - 1) old.exclusive.items)
    → OnOk result ((start : Tallies) (before : List (Option DataUse)) → HasTallied start before old → HasTallied start (before ++ (Some one ∷ [])) new)
takes_first one old new (Err e) inside size none few some user tally = tt
takes_first one old new (Ok t) inside size none few some user tally =
    let suc_last : length old.exclusive.items ≡ suc (last old) = omega (arith, some) in
    one_more one old new user.size (ap length tally ∙ length-set old.exclusive.items (last old) _)
    (λ uses was. rw tally (tallied_first uses old.users new.users old.exclusive.items (last old) one.block inside size none (omega (arith, few, some)) (omega (arith, some))
    (subst (λ (n : ℕ). PutsNumber one.block n old.users new.users) suc_last user) was))

pub takes_second : {T E : Type 0} → (one : DataUse) (old new : Tallies) (result : Result T E) → one.block < old.users.size → (n : ℕ) → count_of old.users one.block ≡ n → 0 < n → n < 2 ^ 32 - 1
    → OnOk result (PutsNumber one.block (2 ^ 32 - 1) old.users new.users) → OnOk result (new.exclusive.items ≡ lowered_at (n - 1) old.exclusive.items)
    → OnOk result ((start : Tallies) (before : List (Option DataUse)) → HasTallied start before old → HasTallied start (before ++ (Some one ∷ [])) new)
takes_second one old new (Err e) inside n is some less user tally = tt
takes_second one old new (Ok t) inside n is some less user tally =
    one_more one old new user.size (ap length tally ∙ length-set old.exclusive.items (n - 1) _)
    (λ uses was. rw tally (tallied_second uses old.users new.users old.exclusive.items (last old) one.block n inside is some less user was))

-- the tallies of the devices of a pool, from no uses on
pub are_exclusive : (image : List (List ℕ)) (s : ThinSuper) (n : ℕ) (old new : Tallies) → old.users.size ≡ s.data_map.blocks → old.exclusive.items ≡ [] → IsTallied [] old.users old.exclusive.items
    → AllByRecursion (λ (row : DeviceRow). IsProperTree image n row.root) (super_rows image s) → TalliesRows image (super_rows image s) old new → AreExclusive image s new.exclusive.items
are_exclusive image s n old new size none begin proper tallies = λ place.
    let done = tallies n proper old (record { size = refl; devices = ap length none; tallied = begin }) in
    let uses : placed_told 0 (super_told image s) ≡ rows_placed image 0 (super_rows image s) = placed_rows image 0 (super_rows image s) in
    done.tallied.tally place ∙ ap₂ (λ (n : ℕ) (xs : List (ℕ × ℕ)). number_at place (is_alone n xs) xs) (done.size ∙ size) uses

-- how often a block is among what is told
abbrev pub told_times : List (Option DataUse) → ℕ → ℕ
told_times told b = number_of_uses (uses_told told) b

pub told_both : (xs ys : List (Option DataUse)) (b : ℕ) → told_times (xs ++ ys) b ≡ told_times xs b + told_times ys b
unfolding uses_told
told_both xs ys b =
    ap (λ uses. number_of_uses uses b) (filter_map-append (λ (one : Option DataUse). one) xs ys)
    ∙ number_of_both (λ (one : DataUse). nat_eq one.block b) (uses_told xs) (uses_told ys)

-- what was told so often, still is when more was told
pub still_told : (image : List (List ℕ)) (told more : List (Option DataUse)) (n k c : ℕ) → k ≤ n → IsTold image told n c → IsTold image (told ++ more) k c
still_told image told more n k c less all =
    all_from (λ (m : Mapping). n ≤ told_times told m.data_block) (λ (m : Mapping). k ≤ told_times (told ++ more) m.data_block)
    (λ m often. let both = told_both told more m.data_block in omega arith) (mappings_at image c) all

-- uses of blocks that were told twice before change no tally
uses_passed : (id : ℕ) (ms : List Mapping) (t start : Tallies) (before more : List (Option DataUse)) → AllByRecursion (λ (m : Mapping). 2 ≤ told_times before m.data_block) ms
    → HasTallied start (before ++ more) t → HasTallied start (before ++ (more ++ map Some (map (use_by id) ms))) t
uses_passed id [] t start before more all had = rw (append-nil more) had
uses_passed id (m ∷ ms) t start before more all had =
    let one : DataUse = use_by id m in
    let both = told_both before more m.data_block in
    let often : 2 ≤ told_times (before ++ more) one.block = omega (arith, both, all.0) in
    let next = takes_often one t start (before ++ more) often had in
    let moved : HasTallied start (before ++ (more ++ (Some one ∷ []))) t = rw (← append_assoc before more (Some one ∷ [])) next in
    rw (← append_assoc more (Some one ∷ []) (map Some (map (use_by id) ms))) (uses_passed id ms t start before (more ++ (Some one ∷ [])) all.1 moved)

-- the entries that a node holds, and what a walk tells of two parts
abbrev pub items_at : List (List ℕ) → ℕ → List (ℕ × BlockTime)
items_at image b = items_from 8 block_time_of (block_at image b) 0

told_append : (id : ℕ) (xs ys : List (ℕ × BlockTime)) → told_of id (xs ++ ys) ≡ told_of id xs ++ told_of id ys
told_append id [] ys = refl
told_append id (x ∷ xs) ys = ap (λ (told : List (Option DataUse)). Some (use_by id (mapping_of x)) ∷ told) (told_append id xs ys)

-- so it is with the uses of nodes
nodes_passed : (image : List (List ℕ)) (id : ℕ) (nodes : List ℕ) (t start : Tallies) (before more : List (Option DataUse)) → ((c : ℕ) → 1 ≤ occurs c nodes → IsTold image before 2 c)
    → HasTallied start (before ++ more) t → HasTallied start (before ++ (more ++ told_of id (flat_map (items_at image) nodes))) t
nodes_passed image id [] t start before more often had = rw (append-nil more) had
nodes_passed image id (b ∷ nodes) t start before more often had =
    let here = uses_passed id (mappings_at image b) t start before more (often b (let itself = occurs-itself b nodes in omega arith)) had in
    rw (told_append id (items_at image b) (flat_map (items_at image) nodes), ← append_assoc more (told_of id (items_at image b)) (told_of id (flat_map (items_at image) nodes)))
    (nodes_passed image id nodes t start before (more ++ told_of id (items_at image b)) (λ c some. often c (let more = occurs-cons c b nodes in omega arith)) here)

-- what is gathered stands at the nodes
gathered_at : {X : Type 0} → (here : ℕ → List X) (down : ℕ → List ℕ) (j b : ℕ) → gather here down j b ≡ flat_map here (gather (λ c. c ∷ []) down j b)
unfolding gather
gathered_at here down zero b = sym (append-nil (here b))
gathered_at {X} here down (suc j) b =
    ap (λ (xs : List X). here b ++ xs)
    (same_each (gather here down j) (λ c. flat_map here (gather (λ c. c ∷ []) down j c)) (down b)
    (all_of (λ c. gather here down j c ≡ flat_map here (gather (λ c. c ∷ []) down j c)) (gathered_at here down j) (down b))
    ∙ sym (joined_twice here (gather (λ c. c ∷ []) down j) (down b)))

pub items_are : (image : List (List ℕ)) (j b : ℕ) → items_below 8 block_time_of image j b ≡ flat_map (items_at image) (nodes_below 8 image j b)
unfolding items_below nodes_below
items_are image j b = gathered_at (items_at image) (node_kids 8 image) j b

-- more levels lead to no fewer nodes
level_more : (down : ℕ → List ℕ) (j b x : ℕ) → Among x (gather (λ c. c ∷ []) down j b) → Among x (gather (λ c. c ∷ []) down (suc j) b)
unfolding gather
level_more down zero b x any =
    by_first (Among x (gather (λ c. c ∷ []) down 1 b)) (nat_eq b x) false (λ same. rw same refl) (λ no. cc) any
level_more down (suc j) b x any =
    by_first (Among x (gather (λ c. c ∷ []) down (suc (suc j)) b)) (nat_eq b x) (list_any (λ t. nat_eq t x) (flat_map (gather (λ c. c ∷ []) down j) (down b)))
    (λ same. rw same refl)
    (λ later. or_right (nat_eq b x) (list_any (λ t. nat_eq t x) (flat_map (gather (λ c. c ∷ []) down (suc j)) (down b)))
    (from_flat (Among x (flat_map (gather (λ c. c ∷ []) down (suc j)) (down b))) (gather (λ c. c ∷ []) down j) x (down b)
    (λ c there found. among_flat (gather (λ c. c ∷ []) down (suc j)) c x (down b) there (level_more down j c x found)) later)) any

levels_more : (down : ℕ → List ℕ) (k j n b x : ℕ) → k + j ≡ n → Among x (gather (λ c. c ∷ []) down j b) → Among x (gather (λ c. c ∷ []) down n b)
levels_more down zero j n b x is any = subst (λ i. Among x (gather (λ c. c ∷ []) down i b)) (omega (arith, is)) any
levels_more down (suc k) j n b x is any = levels_more down k (suc j) n b x (omega (arith, is)) (level_more down j b x any)

nodes_raised : (image : List (List ℕ)) (j b c : ℕ) → j ≤ 63 → 1 ≤ occurs c (nodes_below 8 image j b) → 1 ≤ occurs c (nodes_below 8 image 63 b)
unfolding nodes_below
nodes_raised image j b c few there =
    occurs_there c (gather (λ c. c ∷ []) (node_kids 8 image) 63 b)
    (levels_more (node_kids 8 image) (63 - j) j 63 b c (omega (arith, few)) (among_there c (gather (λ c. c ∷ []) (node_kids 8 image) j b) there))

fewer_told : (image : List (List ℕ)) (told : List (Option DataUse)) (n k c : ℕ) → k ≤ n → IsTold image told n c → IsTold image told k c
fewer_told image told n k c less all =
    all_from (λ (m : Mapping). n ≤ told_times told m.data_block) (λ (m : Mapping). k ≤ told_times told m.data_block) (λ m often. omega (arith, less, often)) (mappings_at image c) all

-- one part of a walk, and then another
pub walks_both : {image : List (List ℕ)} {nodes nodes' nodes'' : List ℕ} {left left' left'' : List (Option DataUse)} {meets meets' meets'' : Meets} {t t' t'' : Tallies}
    → Walks image nodes nodes' left left' meets meets' t t' → Walks image nodes' nodes'' left' left'' meets' meets'' t' t'' → Walks image nodes nodes'' left left'' meets meets'' t t''
walks_both {image} {nodes} {nodes'} {nodes''} {left} {left'} {left''} {meets} {meets'} first last = record {
  told = first.told ++ last.told;
  parts = first.parts ∙ (ap (λ (xs : List (Option DataUse)). first.told ++ xs) last.parts ∙ sym (append_assoc first.told last.told left''));
  fewer = λ b. omega (arith, first.fewer b, last.fewer b);
  counts = λ b. omega (arith, first.counts b, last.counts b);
  tallied = λ once start before more below had.
      rw (← append_assoc more first.told last.told)
      (last.tallied (λ b. omega (arith, once b, first.fewer b)) start before (more ++ first.told)
      (λ b some c there. fewer_told image before (times_met meets b) (times_met meets' b) c (omega (arith, some, first.counts b, once b)) (below b (omega (arith, some, first.fewer b)) c there))
      (first.tallied once start before more below had));
}

-- a node that is read, or that the device hasn't
pub walks_reads : (image : List (List ℕ)) (id j b : ℕ) (nodes nodes' : List ℕ) (items items' : List (ℕ × BlockTime)) (meets meets' : Meets) (t : Tallies)
    → b ∷ nodes' ≡ nodes_below 8 image j b ++ nodes → items' ≡ items_below 8 block_time_of image j b ++ items → ((c : ℕ) → times_met meets' c ≤ times_met meets c + occurs c (b ∷ []))
    → Walks image (nodes_below 8 image j b ++ nodes) nodes' (told_of id (items_below 8 block_time_of image j b ++ items)) (told_of id items') meets meets' t t
walks_reads image id j b nodes nodes' items items' meets meets' t nodes_are items_are counts = record {
  told = [];
  parts = ap (told_of id) (sym items_are);
  fewer = λ c. rw (← nodes_are) (let more = occurs-cons c b nodes' in omega arith);
  counts = λ c. rw (← nodes_are) (let more = occurs-cons c b nodes' in let one = occurs-cons c b [] in let none = occurs-none c in omega (arith, counts c));
  tallied = λ once start before more below had. rw (append-nil more) had;
}

-- a node that was met twice before is passed over
pub walks_passes : (image : List (List ℕ)) (id j b : ℕ) (nodes : List ℕ) (items : List (ℕ × BlockTime)) (meets : Meets) (t : Tallies) → j ≤ 63 → 2 ≤ times_met meets b
    → Walks image (nodes_below 8 image j b ++ nodes) nodes (told_of id (items_below 8 block_time_of image j b ++ items)) (told_of id items) meets meets t t
walks_passes image id j b nodes items meets t few twice = record {
  told = told_of id (items_below 8 block_time_of image j b);
  parts = told_append id (items_below 8 block_time_of image j b) items;
  fewer = λ c. let both = occurs-append c (nodes_below 8 image j b) nodes in omega arith;
  counts = λ c. let both = occurs-append c (nodes_below 8 image j b) nodes in omega arith;
  tallied = λ once start before more below had.
      let there : 1 ≤ occurs b (nodes_below 8 image j b ++ nodes) =
      let both = occurs-append b (nodes_below 8 image j b) nodes in
      let itself = occurs_itself in
      omega arith
      in
      rw (items_are image j b)
      (nodes_passed image id (nodes_below 8 image j b) t start before more (λ c some. fewer_told image before (times_met meets b) 2 c twice (below b there c (nodes_raised image j b c few some))) had);
}
  where
    occurs_itself : 1 ≤ occurs b (nodes_below 8 image j b)
    occurs_itself = rw (nodes_below_is 8 image j b, occurs-itself b (each_below (nodes_below 8 image) j (kids_from 8 (block_at image b) 0))) (omega arith)

-- an entry that is taken
pub walks_entry : (image : List (List ℕ)) (id key : ℕ) (value : BlockTime) (nodes : List ℕ) (items : List (ℕ × BlockTime)) (meets : Meets) (t t' : Tallies)
    → ((start : Tallies) (before : List (Option DataUse)) → HasTallied start before t → HasTallied start (before ++ (Some (use_by id (mapping_of (key, value))) ∷ [])) t')
    → Walks image nodes nodes (told_of id ((key, value) ∷ items)) (told_of id items) meets meets t t'
walks_entry image id key value nodes items meets t t' takes = record {
  told = Some (use_by id (mapping_of (key, value))) ∷ [];
  parts = refl;
  fewer = λ b. omega arith;
  counts = λ b. omega arith;
  tallied = λ once start before more below had. rw (← append_assoc before more (Some (use_by id (mapping_of (key, value))) ∷ [])) (takes start (before ++ more) had);
}

-- a child that the device hasn't
pub walks_outside : (image : List (List ℕ)) (id j b : ℕ) (nodes : List ℕ) (items : List (ℕ × BlockTime)) (meets meets' : Meets) (t : Tallies) → length image ≤ b
    → ((c : ℕ) → times_met meets' c ≤ times_met meets c + occurs c (b ∷ []))
    → Walks image (nodes_below 8 image j b ++ nodes) nodes (told_of id (items_below 8 block_time_of image j b ++ items)) (told_of id items) meets meets' t t
walks_outside image id j b nodes items meets meets' t outside counts =
    walks_reads image id j b nodes nodes items items meets meets' t (rw (nodes_outside 8 image j b outside) refl) (rw (items_outside 8 block_time_of image j b outside) refl) counts

-- a step to a child, and then to what stands below it
pub walks_down : (image : List (List ℕ)) (id b : ℕ) (old mid : Stack) (nodes' : List ℕ) (left' : List (Option DataUse)) (meets meets' : Meets) (t : Tallies) → GoesDown 8 block_time_of b old mid
    → Walks image (nodes_below 8 image (63 - mid.depth) b ++ stack_nodes 8 image mid) nodes' (told_of id (items_below 8 block_time_of image (63 - mid.depth) b ++ stack_items 8 block_time_of image mid)) left' meets meets' t t
    → Walks image (stack_nodes 8 image old) nodes' (told_of id (stack_items 8 block_time_of image old)) left' meets meets' t t
walks_down image id b old mid nodes' left' meets meets' t down walks = rw (down.nodes image, down.items image) walks

-- a step to an entry
pub walks_given : (image : List (List ℕ)) (id key : ℕ) (value : BlockTime) (old new : Stack) (meets : Meets) (t t' : Tallies) → GivesEntry 8 block_time_of key value old new
    → ((start : Tallies) (before : List (Option DataUse)) → HasTallied start before t → HasTallied start (before ++ (Some (use_by id (mapping_of (key, value))) ∷ [])) t')
    → Walks image (stack_nodes 8 image old) (stack_nodes 8 image new) (told_of id (stack_items 8 block_time_of image old)) (told_of id (stack_items 8 block_time_of image new)) meets meets t t'
walks_given image id key value old new meets t t' gives takes =
    rw (gives.nodes image, gives.items image) (walks_entry image id key value (stack_nodes 8 image new) (stack_items 8 block_time_of image new) meets t t' takes)

-- nothing is left where there is no node
pub walks_ended : (image : List (List ℕ)) (id : ℕ) (now : Stack) {nodes : List ℕ} {left : List (Option DataUse)} {meets meets' : Meets} {t t' : Tallies} → now.depth ≡ 0
    → Walks image nodes (stack_nodes 8 image now) left (told_of id (stack_items 8 block_time_of image now)) meets meets' t t' → Walks image nodes [] left [] meets meets' t t'
walks_ended image id now ended walks =
    rw (none_left (nodes_at 8 image) now.places.items now.depth ended, none_left (places.items_at 8 block_time_of image) now.places.items now.depth ended) at walks

-- so a walk from there on is one from a root
pub walks_root : (image : List (List ℕ)) (id b : ℕ) (cleared : Stack) (nodes' : List ℕ) (left' : List (Option DataUse)) (meets meets' : Meets) (t : Tallies) → cleared.depth ≡ 0
    → Walks image (nodes_below 8 image (63 - cleared.depth) b ++ stack_nodes 8 image cleared) nodes' (told_of id (items_below 8 block_time_of image (63 - cleared.depth) b ++ stack_items 8 block_time_of image cleared)) left' meets meets' t t
    → Walks image (nodes_below 8 image 63 b) nodes' (told_of id (items_below 8 block_time_of image 63 b)) left' meets meets' t t
walks_root image id b cleared nodes' left' meets meets' t ended walks =
    rw (
      ended,
      none_left (nodes_at 8 image) cleared.places.items 0 refl,
      none_left (places.items_at 8 block_time_of image) cleared.places.items 0 refl,
      append-nil (nodes_below 8 image 63 b),
      append-nil (items_below 8 block_time_of image 63 b),
    ) at walks

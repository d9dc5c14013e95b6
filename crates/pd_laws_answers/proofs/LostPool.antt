-- Where block 0 of a sound pool is lost, its trees are still sound, and hold what they held.
use Rattle.std.proofs.Common.{◌≡◌, inl, inr, ℕ, zero, suc, ◌+◌, ◌*◌, ◌<◌, ◌≤◌, min, true, false, not, nat_eq, nat_lt, List, [], ◌∷◌, drop, length, map, Option, Some, None, refl, sym, ap, eq-eqb, ◌∙◌, arith}
use Rattle.std.specs.List.{AllByRecursion, list_any, list_all}
use Rattle.std.specs.Str.{bytes_eq}
use Rattle.std.proofs.lemmas.Slice.Eq.{bytes_eq-Decides}
use Rattle.std.proofs.lemmas.Bool.{and_from, both_ways, eqb-true, lt-ltb, ne_eqb, or_cases, or_from}
use Rattle.pd_kinds.specs.declared.kind.Kind.TheVariants.{Thin}
use Rattle.pd_kinds.specs.declared.kind.Stage.TheVariants.{Whole}
use Rattle.pd_kinds.specs.declared.limits.TheConstants.{MAX_META_BLOCKS}
use Rattle.pd_kinds.specs.Graph.{Edge, is_outside, Graph, block_at, pair, block_of, role_of, edges_of, is_inner_pair, is_reached, next, own_keys, is_deep, is_in_range}
use Rattle.pd_kinds.specs.Lawful.{IsLawful, IsWithin}
use Rattle.pd_kinds.specs.Layout.{graph_of, is_bad, layout_bad}
use Rattle.pd_kinds.specs.Meaning.{ThinDevice, thin_device, thin_meaning}
use Rattle.pd_kinds.specs.Node.{Entry}
use Rattle.pd_kinds.specs.Paths.{IsOnPathFrom, start, edge}
use Rattle.pd_kinds.specs.Rule.{all_rules}
use Rattle.pd_kinds.specs.Stages.{IsReached, faults}
use Rattle.pd_kinds.specs.ThinFormat.{thin_graph, thin_layout, ThinFields, thin_fields}
use Rattle.pd_kinds.specs.Trees.{entries_below, keys_of}
use Rattle.pd_kinds.specs.Whole.{details_entries, mapping_entries, top_entries}
use Rattle.pd_kinds.specs.InOrder.{AreInOrder}
use Rattle.pd_kinds.proofs.ListLemmas.{all_from, all_from_two, all_mapped}
use Rattle.pd_kinds.proofs.PathLemmas.{path_from_reached}
use Rattle.pd_grammar.specs.Lawful.{AreDevices, IsLawfulPool}
use Rattle.pd_laid.specs.FoundRoots.{FoundRoots, IsFound, are_fitting, devices_below, found_pool, is_better, is_sound_tree, lost_graph, roots_at}
use Rattle.pd_laid.proofs.NodeFacts.{block_pair, none_pass, role_pair}
use Rattle.pd_meaning_thin.proofs.LawfulLemmas.{same_keys as same_keys_in}
use Rattle.pd_scan.proofs.PairLemmas.{not_greater_start}
use Rattle.pd_scan.proofs.SameBelow.{entries_same, map_same, tree_sound}
use Rattle.pd_laws_changed.specs.KnownPool.{IsKnown}
use Rattle.pd_laws_answers.specs.Search.{FindsNoEarlier, IsLostOf, KeepsRoots, state_of, state_of_roots}
use Rattle.pd_laws_answers.proofs.MoreBlocks.{IsDeviceRole, edges_in_trees, edges_more, inner_more, keys_more, unbroken_more}
use Rattle.pd_laws_answers.proofs.SalvageLawful.{HasSoundSizes}

-- what an edge leads to is behind block 0
leads_behind : (graph : Graph) (es : List Edge) (t : ℕ) → graph.roles ≤ 16 → AllByRecursion (IsWithin graph) es
    → list_any (λ q. nat_eq q t) (map (λ (e : Edge). pair e.block e.role) es) ≡ true → (role_of t < graph.roles) × (1 ≤ block_of t)
leads_behind graph [] t few all leads = absurd (both_ways _ refl leads)
leads_behind graph (x ∷ xs) t few all leads = elim (or_cases (nat_eq (pair x.block x.role) t) _ leads) [
  | inl same ↦
      let e = eqb-true (pair x.block x.role) t same in
      let known = all.0.known in
      let some = all.0.from_one in
      (omega arith, omega arith)
  | inr later ↦ leads_behind graph xs t few all.1 later
]

-- a number from 1 on that is below another isn't outside
inside_is : (nr b : ℕ) → 1 ≤ b → b < nr → is_outside nr b ≡ false
inside_is nr b some below = or_from (nat_eq b 0) (not (nat_lt b nr)) (ne_eqb b 0 (λ e. omega arith)) (ap not (lt-ltb b nr below))

module _ (image lost : List (List ℕ)) (n m data_blocks : ℕ) (more : n ≤ m)
    (lawful : IsLawful (graph_of 11 n data_blocks (thin_layout n data_blocks)))
    (ordered : AreInOrder (graph_of 11 n data_blocks (thin_layout n data_blocks)) image)
    (rest : (b : ℕ) → 1 ≤ b → block_at lost b ≡ block_at image b)
    (edges_reached : (b role : ℕ) → IsReached (graph_of 11 n data_blocks (thin_layout n data_blocks)) image b role
    → AllByRecursion (λ (e : Edge). IsReached (graph_of 11 n data_blocks (thin_layout n data_blocks)) image e.block e.role)
    ((graph_of 11 n data_blocks (thin_layout n data_blocks)).edges role b (block_at image b))) where
  abbrev here : Graph
  here = graph_of 11 n data_blocks (thin_layout n data_blocks)

  abbrev there : Graph
  there = graph_of 11 m data_blocks (thin_layout m data_blocks)

  -- a reached node of a mapping tree, of a device's mappings or of the details
  record IsKept (p : ℕ) : Type 0 where
    reached : IsReached here image (block_of p) (role_of p)
    role : IsDeviceRole (role_of p)

  kept_is : (b role : ℕ) → IsDeviceRole role → IsReached here image b role → IsKept (pair b role)
  kept_is b role is found =
      let high = is.high in
      record { reached = rw (block_pair b role (omega arith), role_pair b role (omega arith)) found; role = rw (role_pair b role (omega arith)) is }

  -- it is behind block 0
  on_path : (q : ℕ) → IsOnPathFrom (16 * here.nr) (next here image) 0 q → (role_of q < here.roles) × (1 ≤ role_of q → 1 ≤ block_of q)
  unfolding next
  on_path q start = let some = lawful.some_role in (omega arith, λ low. absurd (omega arith))
  on_path q (edge t q' small path leads) =
      let known = (on_path t path).0 in
      let led = leads_behind here (edges_of here image t) q' lawful.few_roles (lawful.each (role_of t) (block_of t) (block_at image (block_of t)) known).within leads in
      (led.0, λ low. led.1)

  behind : (p : ℕ) → IsKept p → 1 ≤ block_of p
  unfolding is_reached
  behind p is =
      let low = is.role.low in
      let same : pair (block_of p) (role_of p) ≡ p = omega arith in
      (on_path p (path_from_reached (16 * here.nr) (next here image) (16 * here.nr) p (rw same at is.reached.found))).1 (omega arith)

  block_same : (p : ℕ) → IsKept p → block_at lost (block_of p) ≡ block_at image (block_of p)
  block_same p is = rest (block_of p) (behind p is)

  sound : (p : ℕ) → IsKept p → is_bad n (role_of p) (thin_layout n data_blocks (role_of p)) (block_of p) (block_at image (block_of p)) ≡ false
  unfolding is_bad graph_of
  sound p is =
      none_pass (layout_bad n (role_of p) (thin_layout n data_blocks (role_of p)) (block_of p) (block_at image (block_of p))) all_rules
      (ordered.well_formed (block_of p) (role_of p) is.reached)

  -- both formats see the same in it
  inner_same : (p : ℕ) → IsKept p → is_inner_pair there lost p ≡ is_inner_pair here image p
  unfolding graph_of
  inner_same p is = rw (block_same p is) (inner_more n m data_blocks more (role_of p) (block_of p) (block_at image (block_of p)) is.role (sound p is))

  next_same : (p : ℕ) → IsKept p → next there lost p ≡ next here image p
  unfolding next graph_of
  next_same p is =
      rw (block_same p is)
      (ap (map (λ (e : Edge). pair e.block e.role)) (edges_more n m data_blocks more (role_of p) (block_of p) (block_at image (block_of p)) is.role (sound p is)))

  keys_same : (p : ℕ) → IsKept p → own_keys there lost p ≡ own_keys here image p
  unfolding graph_of
  keys_same p is = rw (block_same p is) (keys_more n m data_blocks more (role_of p) (block_of p) (block_at image (block_of p)) is.role (sound p is))

  -- and its edges lead to such nodes
  each : (p : ℕ) → IsKept p → AllByRecursion IsKept (next here image p)
  unfolding next
  each p is =
      all_mapped (λ (e : Edge). pair e.block e.role) IsKept (edges_of here image p)
      (all_from_two (λ (e : Edge). IsDeviceRole e.role) (λ (e : Edge). IsReached here image e.block e.role) (λ (e : Edge). IsKept (pair e.block e.role))
      (λ e role found. kept_is e.block e.role role found) (edges_of here image p)
      (edges_in_trees n m data_blocks more (role_of p) (block_of p) (block_at image (block_of p)) is.role (sound p is))
      (edges_reached (block_of p) (role_of p) is.reached))

  unbroken : (p : ℕ) → IsKept p → list_any (there.bad (role_of p) (block_of p) (block_at lost (block_of p))) all_rules ≡ false
  unbroken p is = rw (block_same p is) (unbroken_more n m data_blocks more (role_of p) (block_of p) (block_at image (block_of p)) is.role (sound p is))

  level : (p : ℕ) → IsKept p → is_deep here image p ≡ false
  level p is =
      let same : pair (block_of p) (role_of p) ≡ p = omega arith in
      rw same at (ordered.not_deep (block_of p) (role_of p) is.reached)

  range : (p : ℕ) → IsKept p → is_inner_pair here image p ≡ true → is_in_range here image p ≡ true
  range p is inner =
      let same : pair (block_of p) (role_of p) ≡ p = omega arith in
      rw same at (ordered.in_range (block_of p) (role_of p) is.reached (rw same inner))

  -- so a reached tree is sound there, and has the same entries
  pub tree_there : (b role : ℕ) → IsDeviceRole role → IsReached here image b role → is_sound_tree there lost role b ≡ true
  unfolding graph_of
  tree_there b role is found =
      let kept = kept_is b role is found in
      let high = is.high in
      let some : 1 ≤ b = rw (block_pair b role (omega arith)) at (behind (pair b role) kept) in
      let below = found.block in
      tree_sound here there image lost IsKept block_same inner_same next_same keys_same each unbroken level range role b (inside_is m b some (omega arith)) kept

  pub entries_there : (size role b : ℕ) → IsDeviceRole role → IsReached here image b role → entries_below there lost size role b ≡ entries_below here image size role b
  entries_there size role b is found = entries_same here there image lost IsKept block_same inner_same next_same keys_same each size role b (kept_is b role is found)

-- devices of a lawful pool have as many mappings as their details say
all_counted : (blocks least : ℕ) (ds : List ThinDevice) → AreDevices blocks least ds → list_all (λ (d : ThinDevice). nat_eq d.mapped (length d.mappings)) ds ≡ true
all_counted blocks least [] are = refl
all_counted blocks least (d ∷ ds) are =
    and_from (nat_eq d.mapped (length d.mappings)) _ (eq-eqb d.mapped (length d.mappings) are.0.mapped) (all_counted blocks (d.id + 1) ds are.1)

-- a block behind block 0
at_drop : (image : List (List ℕ)) (b : ℕ) → block_at image (suc b) ≡ block_at (drop 1 image) b
at_drop [] b = refl
at_drop (block ∷ blocks) b = refl

rest_is : (image lost : List (List ℕ)) → drop 1 lost ≡ drop 1 image → (b : ℕ) → 1 ≤ b → block_at lost b ≡ block_at image b
rest_is image lost same zero some = absurd (omega arith)
rest_is image lost same (suc b) some = at_drop lost b ∙ (ap (λ (blocks : List (List ℕ)). block_at blocks b) same ∙ sym (at_drop image b))

module _ (image lost : List (List ℕ)) (known : IsKnown image) (pool : IsLawfulPool (thin_meaning image)) (none : faults Thin Whole image ≡ [])
    (sizes : HasSoundSizes image) (is : IsLostOf image lost) where
  abbrev fields : ThinFields
  fields = thin_fields (block_at image 0)

  abbrev old : Graph
  old = thin_graph (block_at image 0)

  abbrev new : Graph
  new = lost_graph lost fields.data_map.blocks

  more_blocks : fields.meta_map.blocks ≤ min (length lost) MAX_META_BLOCKS
  more_blocks =
      let size = is.size in
      let within = sizes.within in
      let few = sizes.few in
      omega arith

  sound_there : (b role : ℕ) → IsDeviceRole role → IsReached old image b role → is_sound_tree new lost role b ≡ true
  unfolding thin_graph lost_graph
  sound_there b role role_is found =
      tree_there image lost fields.meta_map.blocks (min (length lost) MAX_META_BLOCKS) fields.data_map.blocks more_blocks known.lawful known.ordered
      (rest_is image lost is.rest) known.edges b role role_is found

  same_there : (size role b : ℕ) → IsDeviceRole role → IsReached old image b role → entries_below new lost size role b ≡ entries_below old image size role b
  unfolding thin_graph lost_graph
  same_there size role b role_is found =
      entries_there image lost fields.meta_map.blocks (min (length lost) MAX_META_BLOCKS) fields.data_map.blocks more_blocks known.lawful known.ordered
      (rest_is image lost is.rest) known.edges size role b role_is found

  tops_same : top_entries new lost fields.mapping_root ≡ top_entries old image fields.mapping_root
  tops_same = same_there 8 2 fields.mapping_root (record { low = omega arith; high = omega arith }) known.roots.devices

  details_same : details_entries new lost fields.details_root ≡ details_entries old image fields.details_root
  details_same = same_there 24 4 fields.details_root (record { low = omega arith; high = omega arith }) known.roots.details

  -- the devices are those of the pool's meaning
  device_same : (top : Entry) → IsReached old image top.value 3
      → thin_device new lost (details_entries new lost fields.details_root) top ≡ thin_device old image (details_entries old image fields.details_root) top
  unfolding thin_device
  device_same top found =
      let mappings : mapping_entries new lost top.value ≡ mapping_entries old image top.value = same_there 8 3 top.value (record { low = omega arith; high = omega arith }) found in
      rw (details_same, mappings) refl

  devices_same : devices_below new lost fields.mapping_root fields.details_root ≡ (thin_meaning image).devices
  unfolding devices_below thin_meaning
  devices_same =
      rw tops_same
      (map_same (thin_device new lost (details_entries new lost fields.details_root)) (thin_device old image (details_entries old image fields.details_root))
      (top_entries old image fields.mapping_root)
      (all_from (λ (top : Entry). IsReached old image top.value 3)
      (λ (top : Entry). thin_device new lost (details_entries new lost fields.details_root) top ≡ thin_device old image (details_entries old image fields.details_root) top)
      device_same (top_entries old image fields.mapping_root) (known.devices fields.mapping_root known.roots.devices)))

  -- the two trees have the same keys
  same_keys : keys_of (details_entries old image fields.details_root) ≡ keys_of (top_entries old image fields.mapping_root)
  same_keys = same_keys_in image none known.roots.details.block

  fitting : are_fitting new lost fields.mapping_root fields.details_root ≡ true
  unfolding are_fitting
  fitting =
      let tops : List ℕ = keys_of (top_entries old image fields.mapping_root) in
      let details : List ℕ = keys_of (details_entries old image fields.details_root) in
      let keys : bytes_eq (keys_of (top_entries new lost fields.mapping_root)) (keys_of (details_entries new lost fields.details_root)) ≡ true =
      rw (tops_same, details_same) ((bytes_eq-Decides tops details).1 (sym same_keys)) in
      let counted : list_all (λ (d : ThinDevice). nat_eq d.mapped (length d.mappings)) (devices_below new lost fields.mapping_root fields.details_root) ≡ true =
      rw devices_same (all_counted (thin_meaning image).data_blocks 0 (thin_meaning image).devices pool.devices) in
      and_from _ _ (sound_there fields.mapping_root 2 (record { low = omega arith; high = omega arith }) known.roots.devices)
      (and_from _ _ (sound_there fields.details_root 4 (record { low = omega arith; high = omega arith }) known.roots.details)
      (and_from _ _ keys counted))

  pool_there : (transaction block_size : ℕ) (roots : FoundRoots) → roots.top ≡ fields.mapping_root → roots.details ≡ fields.details_root
      → (found_pool new lost transaction block_size roots).devices ≡ (thin_meaning image).devices
  unfolding found_pool
  pool_there transaction block_size roots top details = rw (top, details) devices_same

  no_earlier : (found : Option FoundRoots) → IsFound new lost found → FindsNoEarlier (state_of (thin_meaning image)) found
  unfolding is_better roots_at
  no_earlier None nothing = absurd (both_ways _ (nothing fields.mapping_root fields.details_root) fitting)
  no_earlier (Some roots) best = record {
    roots = roots;
    some = refl;
    no_earlier =
        not_greater_start (state_of (thin_meaning image)) (state_of_roots roots) (fields.mapping_root ∷ fields.details_root ∷ []) (roots.top ∷ roots.details ∷ []) refl
        (rw devices_same at (best.best fields.mapping_root fields.details_root fitting));
  }

  pub keeps_roots : KeepsRoots image lost fields
  keeps_roots = record { fitting = fitting; devices = pool_there; found = no_earlier }

-- The parts of a laid cache fit among one another.
use Rattle.std.proofs.Common.{◌≡◌, ℕ, ◌+◌, ◌^◌, ◌<◌, ◌≤◌, Bool, true, false, cond, List, [], ◌∷◌, length, refl, sym, arith, ◌++◌, ◌∙◌, ap}
use Rattle.std.specs.List.{AllByRecursion}
use Rattle.std.proofs.lemmas.Bool.{ne_eqb, true≢false}
use Rattle.std.proofs.lemmas.List.{length-append}
use Rattle.pd_kinds.specs.Graph.{Edge, edge_of, optional_edge, Graph}
use Rattle.pd_kinds.specs.Layout.{Layout, array, graph_of, tree_to, bitmap, index, plain_tree}
use Rattle.pd_kinds.specs.Whole.{optional_array}
use Rattle.pd_kinds.specs.CacheFormat.{cache_layout, cache_super_block, cache_super_edges, has_dirty_bits}
use Rattle.pd_kinds.specs.Lawful.{IsLawful}
use Rattle.pd_kinds.specs.Meaning.{CacheMeaning}
use Rattle.pd_kinds.proofs.KindsListLemmas.{all_first, all_last}
use Rattle.pd_kinds.proofs.ListLemmas.{all_append, all_from}
use Rattle.pd_kinds.proofs.CacheTable.{cache_table}
use Rattle.pd_grammar.specs.Lawful.{IsLawfulCache}
use Rattle.pd_laid.specs.Laid.{array_root, laid_array, LaidBlock, IsLaid, laid_number, named_by, tree_of, meta_overflow_root}
use Rattle.pd_laid.specs.LaidCache.{cache_laid_fields, cache_named, cache_parts, dirty_at, dirty_blocks, dirty_root, dirty_words, discard_blocks, discard_root, discards_at, has_hints, hint_blocks, hint_root, hint_words, hints_at, laid_cache, mapping_blocks, mapping_root, mapping_words, meta_map_at, meta_map_blocks}
use Rattle.pd_laws_laid.specs.LaidOut.{AllFrom, IsFitting, IsInPlace, IsNamed, LeadsBelow, IsArraySeen, laid_super, IsTreeSeen, IsMetaMapSeen}
use Rattle.pd_laws_laid.proofs.LaidArrays.{array_seen}
use Rattle.pd_laws_laid.proofs.Formats.{few_named, named_lower, leads_more, no_items}
use Rattle.pd_laws_laid.proofs.ListLemmas.{from_back, from_both, from_front}
use Rattle.pd_laws_laid.proofs.Names.{laid_in_place, root_leads}
use Rattle.pd_laws_laid.proofs.Trees.{tree_seen}
use Rattle.pd_laws_laid.proofs.MetaMap.{map_seen}
use Rattle.pd_laws_laid.proofs.CacheWords.{dirty_words_fit, hint_words_fit, mapping_words_fit}

-- An array that a cache may lack.

-- one thing where it is there
abbrev pub one_if : {X : Type 0} → Bool → X → List X
one_if there x = cond there (x ∷ []) []

-- what holds of it
pub all_if : {X : Type 0} → (P : X → Type 0) (there : Bool) (x : X) → (there ≡ true → P x) → AllByRecursion P (one_if there x)
all_if P true x holds = (holds refl, tt)
all_if P false x holds = tt

pub all_where : {X : Type 0} → (P : X → Type 0) (there : Bool) (xs : List X) → AllByRecursion P xs → AllByRecursion P (cond there xs [])
all_where P true xs all = all
all_where P false xs all = tt

pub length-one_if : {X : Type 0} → (there : Bool) (x : X) → length (one_if there x) ≤ 1
length-one_if true x = omega arith
length-one_if false x = omega arith

-- the root of what isn't there is 0, and is named nowhere
pub root_if : {X : Type 0} → (f : ℕ → X) (there : Bool) (root : ℕ) → one_if there (f (cond there root 0)) ≡ one_if there (f root)
root_if f true root = refl
root_if f false root = refl

pub below_if : (there : Bool) (root limit : ℕ) → 1 ≤ limit → (there ≡ true → root < limit) → cond there root 0 < limit
below_if true root limit some below = below refl
below_if false root limit some below = omega arith

pub edge_if : (role : ℕ) (there : Bool) (root : ℕ) → (there ≡ true → 1 ≤ root) → optional_edge role (cond there root 0) ≡ one_if there (edge_of role root)
edge_if role true root some = let from = some refl in rw (ne_eqb root 0 (λ none. omega arith)) refl
edge_if role false root some = refl

pub array_if : (role : ℕ) (there : Bool) (root size : ℕ) (lengths : List ℕ) → (there ≡ true → 1 ≤ root)
    → optional_array role (cond there root 0) size lengths ≡ one_if there (record { role = role; root = root; size = size; lengths = lengths })
array_if role true root size lengths some = let from = some refl in rw (ne_eqb root 0 (λ none. omega arith)) refl
array_if role false root size lengths some = refl

-- the words of what is there
pub words_if : (read : ℕ → List ℕ) (there : Bool) (root : ℕ) (words : List ℕ) → (there ≡ true → read root ≡ words) → cond there (read (cond there root 0)) [] ≡ cond there words []
words_if read true root words is = is refl
words_if read false root words is = refl

-- its blocks fit among the others, so does an edge to its root, and where it is there it is seen
pub record MayBeSeen (graph : Graph) (image : List (List ℕ)) (blocks : List LaidBlock) (limit : ℕ) (there : Bool) (role size place : ℕ) (words : List ℕ) : Type 0 where
  pub fitting : AllFrom (IsFitting graph image blocks limit) place (cond there (laid_array role size place words) [])
  pub leads : AllByRecursion (LeadsBelow blocks limit) (one_if there (edge_of role (array_root size place words)))
  pub seen : there ≡ true → IsArraySeen graph image blocks limit role size place words

module _ (roles nr data_blocks : ℕ) (table : ℕ → Layout) (image : List (List ℕ)) (blocks : List LaidBlock) (limit role size place : ℕ) (words : List ℕ)
    (tree_is : table role ≡ tree_to 8 (role + 1) (λ v. v)) (array_is : table (role + 1) ≡ array size) (known : role + 1 < roles) (few_roles : roles ≤ 16)
    (some_size : 1 ≤ size) (small_size : size ≤ 8) (few : nr ≤ 4161600) (within : limit ≤ nr) (from : 1 ≤ place) (small : AllByRecursion (λ word. word < 256 ^ size) words) where
  pub may_see : (there : Bool) → place + length (cond {A = List LaidBlock} there (laid_array role size place words) []) ≤ limit
      → AllFrom (IsInPlace image blocks) place (cond there (laid_array role size place words) [])
      → AllByRecursion (λ (e : Edge). IsNamed blocks e.block) (one_if there (edge_of role (array_root size place words)))
      → MayBeSeen (graph_of roles nr data_blocks table) image blocks limit there role size place words
  may_see true room stand named =
      let seen = array_seen roles nr data_blocks table image blocks limit role size place words tree_is array_is known few_roles some_size small_size few within from room small stand named.0 in
      record { fitting = seen.fitting; leads = (seen.leads, tt); seen = λ there. seen }
  may_see false room stand named = record { fitting = tt; leads = tt; seen = λ there. absurd (true≢false (sym there)) }

-- the edges of the superblock, of which two arrays may lack
abbrev pub hint_edges : CacheMeaning → ℕ → List Edge
hint_edges m version = one_if (has_hints m) (edge_of 3 (array_root 4 (hints_at m version) (hint_words m)))

abbrev pub dirty_edges : CacheMeaning → ℕ → List Edge
dirty_edges m version = one_if (has_dirty_bits version) (edge_of 10 (array_root 8 (dirty_at m version) (dirty_words m)))

abbrev pub behind_hints : CacheMeaning → ℕ → ℕ → List Edge
behind_hints m version n =
    edge_of 5 (discard_root m version)
    ∷ edge_of 7 (meta_map_at m version)
    ∷ edge_of 9 (meta_overflow_root n (meta_map_at m version) (cache_named m version))
    ∷ dirty_edges m version

abbrev pub super_edges : CacheMeaning → ℕ → ℕ → List Edge
super_edges m version n = edge_of 1 (mapping_root m version) ∷ (hint_edges m version ++ behind_hints m version n)

-- all that is laid, in its places, the superblock first
unfoldable pub cache_all : CacheMeaning → ℕ → ℕ → List LaidBlock
cache_all m version n = laid_super (cache_super_block (cache_laid_fields m version n)) (super_edges m version n) ∷ (cache_parts m version ++ meta_map_blocks m version n)

super_first : (P : ℕ → LaidBlock → Type 0) (m : CacheMeaning) (version n : ℕ) → AllFrom P 0 (cache_all m version n)
    → P 0 (laid_super (cache_super_block (cache_laid_fields m version n)) (super_edges m version n)) × AllFrom P 1 (cache_parts m version ++ meta_map_blocks m version n)
unfolding cache_all
super_first P m version n all = all

pub cache_in_place : (m : CacheMeaning) (version n : ℕ) (base image : List (List ℕ)) → IsLaid (laid_cache m version n) base image
    → AllFrom (IsInPlace image (cache_all m version n)) 0 (cache_all m version n)
unfolding laid_cache cache_all
cache_in_place m version n base image is = laid_in_place (laid_cache m version n) (super_edges m version n) base image is

pub parts_end : (m : CacheMeaning) (version : ℕ) → 1 + length (cache_parts m version) ≡ meta_map_at m version
unfolding cache_parts
parts_end m version =
    let behind_dirty = dirty_blocks m version ++ discard_blocks m version in
    omega (arith, length-append (mapping_blocks m version) (hint_blocks m version ++ behind_dirty), length-append (hint_blocks m version) behind_dirty, length-append (dirty_blocks m version) (discard_blocks m version))

pub cache_number : (m : CacheMeaning) (version n : ℕ) → laid_number (laid_cache m version n) ≡ meta_map_at m version + length (meta_map_blocks m version n)
unfolding laid_cache
cache_number m version n = omega (arith, parts_end m version, length-append (cache_parts m version) (meta_map_blocks m version n))

-- the roles
record HasRoles (layout : ℕ → Layout) : Type 0 where
  mapping : layout 1 ≡ tree_to 8 2 (λ v. v)
  mapping_words : layout 2 ≡ array 8
  hint : layout 3 ≡ tree_to 8 4 (λ v. v)
  hint_words : layout 4 ≡ array 4
  discard : layout 5 ≡ tree_to 8 6 (λ v. v)
  map_index : layout 7 ≡ index 8
  map_bitmap : layout 8 ≡ bitmap
  map_overflow : layout 9 ≡ plain_tree 4
  dirty : layout 10 ≡ tree_to 8 11 (λ v. v)
  dirty_words : layout 11 ≡ array 8

roles : (n : ℕ) → HasRoles (cache_layout n)
unfolding cache_layout
roles n = record { mapping = refl; mapping_words = refl; hint = refl; hint_words = refl; discard = refl; map_index = refl; map_bitmap = refl; map_overflow = refl; dirty = refl; dirty_words = refl }

module _ (m : CacheMeaning) (version n : ℕ) (image : List (List ℕ)) (few : n ≤ 4161600) (lawful : IsLawfulCache m)
    (room : meta_map_at m version + length (meta_map_blocks m version n) ≤ n) (stand : AllFrom (IsInPlace image (cache_all m version n)) 0 (cache_all m version n)) where
  abbrev this : Graph
  this = graph_of 12 n 0 (cache_layout n)

  abbrev blocks : List LaidBlock
  blocks = cache_all m version n

  abbrev Placed : ℕ → LaidBlock → Type 0
  Placed q x = IsInPlace image blocks q x

  abbrev Named : Edge → Type 0
  Named edge = IsNamed blocks edge.block

  within : meta_map_at m version ≤ n
  within = omega arith

  pub lawful_graph : IsLawful (graph_of 12 n 0 (cache_layout n))
  lawful_graph = cache_table n 0 (omega arith) few

  pub super_stands : IsInPlace image (cache_all m version n) 0 (laid_super (cache_super_block (cache_laid_fields m version n)) (super_edges m version n))
  super_stands = (super_first Placed m version n stand).0

  -- where each part stands
  parts_stand : AllFrom Placed 1 (cache_parts m version)
  parts_stand = from_front Placed 1 (cache_parts m version) (meta_map_blocks m version n) (super_first Placed m version n stand).1

  meta_stands : AllFrom Placed (meta_map_at m version) (meta_map_blocks m version n)
  meta_stands =
      let e = parts_end m version in
      rw e at (from_back Placed 1 (cache_parts m version) (meta_map_blocks m version n) (super_first Placed m version n stand).1)

  abbrev behind_mapping : List LaidBlock
  behind_mapping = hint_blocks m version ++ (dirty_blocks m version ++ discard_blocks m version)

  mapping_stands : AllFrom Placed 1 (mapping_blocks m version)
  unfolding cache_parts
  mapping_stands = from_front Placed 1 (mapping_blocks m version) behind_mapping parts_stand

  behind_stand : AllFrom Placed (hints_at m version) (hint_blocks m version ++ (dirty_blocks m version ++ discard_blocks m version))
  unfolding cache_parts
  behind_stand = from_back Placed 1 (mapping_blocks m version) behind_mapping parts_stand

  hints_stand : AllFrom Placed (hints_at m version) (hint_blocks m version)
  hints_stand = from_front Placed (hints_at m version) (hint_blocks m version) (dirty_blocks m version ++ discard_blocks m version) behind_stand

  last_stand : AllFrom Placed (dirty_at m version) (dirty_blocks m version ++ discard_blocks m version)
  last_stand = from_back Placed (hints_at m version) (hint_blocks m version) (dirty_blocks m version ++ discard_blocks m version) behind_stand

  dirty_stand : AllFrom Placed (dirty_at m version) (dirty_blocks m version)
  dirty_stand = from_front Placed (dirty_at m version) (dirty_blocks m version) (discard_blocks m version) last_stand

  discards_stand : AllFrom Placed (discards_at m version) (discard_blocks m version)
  discards_stand = from_back Placed (dirty_at m version) (dirty_blocks m version) (discard_blocks m version) last_stand

  -- what the superblock names is named
  hints_named : AllByRecursion Named (hint_edges m version)
  hints_named = all_first Named (hint_edges m version) (behind_hints m version n) super_stands.names.1

  rest_named : AllByRecursion Named (behind_hints m version n)
  rest_named = all_last Named (hint_edges m version) (behind_hints m version n) super_stands.names.1

  -- each part as the graph sees it
  pub mapping_is : IsArraySeen (graph_of 12 n 0 (cache_layout n)) image (cache_all m version n) (meta_map_at m version) 1 8 1 (mapping_words m version)
  unfolding mapping_blocks
  mapping_is =
      array_seen 12 n 0 (cache_layout n) image blocks (meta_map_at m version) 1 8 1 (mapping_words m version) (roles n).mapping (roles n).mapping_words (omega arith) (omega arith) (omega arith) (omega arith)
      few within (omega arith) (omega arith) (mapping_words_fit m lawful version) mapping_stands super_stands.names.0

  pub hints_are : MayBeSeen (graph_of 12 n 0 (cache_layout n)) image (cache_all m version n) (meta_map_at m version) (has_hints m) 3 4 (hints_at m version) (hint_words m)
  unfolding hint_blocks
  hints_are =
      may_see 12 n 0 (cache_layout n) image blocks (meta_map_at m version) 3 4 (hints_at m version) (hint_words m) (roles n).hint (roles n).hint_words (omega arith) (omega arith) (omega arith) (omega arith)
      few within (omega arith) (hint_words_fit m lawful) (has_hints m) (omega arith) hints_stand hints_named

  pub dirty_is : MayBeSeen (graph_of 12 n 0 (cache_layout n)) image (cache_all m version n) (meta_map_at m version) (has_dirty_bits version) 10 8 (dirty_at m version) (dirty_words m)
  unfolding dirty_blocks
  dirty_is =
      may_see 12 n 0 (cache_layout n) image blocks (meta_map_at m version) 10 8 (dirty_at m version) (dirty_words m) (roles n).dirty (roles n).dirty_words (omega arith) (omega arith) (omega arith) (omega arith)
      few within (omega arith) (dirty_words_fit m lawful) (has_dirty_bits version) (omega arith) dirty_stand rest_named.1.1.1

  pub discards_are : IsTreeSeen (graph_of 12 n 0 (cache_layout n)) image (cache_all m version n) (meta_map_at m version) 5 (tree_of (tree_to 8 6 (λ v. v))) (discards_at m version) []
  unfolding discard_blocks
  discards_are =
      tree_seen 12 n 0 (cache_layout n) image blocks (meta_map_at m version) 5 (tree_of (tree_to 8 6 (λ v. v))) (roles n).discard (omega arith) (omega arith) (omega arith) few within
      (discards_at m version) [] (omega arith) (omega arith) (no_items blocks (meta_map_at m version) (tree_of (tree_to 8 6 (λ v. v)))) discards_stand rest_named.0

  pub discards_lead : LeadsBelow (cache_all m version n) (meta_map_at m version) (edge_of 5 (discard_root m version))
  unfolding discard_blocks
  discards_lead = root_leads image blocks (meta_map_at m version) 5 (tree_of (tree_to 8 6 (λ v. v))) (discards_at m version) [] (omega arith) (omega arith) (omega arith) discards_stand

  pub parts_fitting : AllFrom (IsFitting (graph_of 12 n 0 (cache_layout n)) image (cache_all m version n) (meta_map_at m version)) 1 (cache_parts m version)
  unfolding cache_parts mapping_blocks hint_blocks dirty_blocks discard_blocks
  parts_fitting =
      let fits = IsFitting this image blocks (meta_map_at m version) in
      from_both fits 1 (mapping_blocks m version) behind_mapping mapping_is.fitting
      (from_both fits (hints_at m version) (hint_blocks m version) (dirty_blocks m version ++ discard_blocks m version) hints_are.fitting
      (from_both fits (dirty_at m version) (dirty_blocks m version) (discard_blocks m version) dirty_is.fitting discards_are.fitting))

  -- the roots of the arrays that are there
  pub hint_from : has_hints m ≡ true → 1 ≤ array_root 4 (hints_at m version) (hint_words m)
  hint_from there = (hints_are.seen there).leads.from_one

  pub hint_below : hint_root m version < meta_map_at m version
  hint_below = below_if (has_hints m) (array_root 4 (hints_at m version) (hint_words m)) (meta_map_at m version) (omega arith) (λ there. (hints_are.seen there).leads.below)

  pub dirty_below : dirty_root m version < meta_map_at m version
  dirty_below = below_if (has_dirty_bits version) (array_root 8 (dirty_at m version) (dirty_words m)) (meta_map_at m version) (omega arith) (λ there. (dirty_is.seen there).leads.below)

  abbrev hint_roots : List ℕ
  hint_roots = one_if (has_hints m) (hint_root m version)

  abbrev dirty_roots : List ℕ
  dirty_roots = one_if (has_dirty_bits version) (dirty_root m version)

  abbrev last_named : List ℕ
  last_named = discard_root m version ∷ named_by (cache_parts m version)

  -- what is named before the metadata map
  named_before : AllByRecursion (λ r. r < meta_map_at m version) (cache_named m version)
  unfolding cache_named
  named_before =
      let below = λ (r : ℕ). r < meta_map_at m version in (
        omega arith,
        (
          mapping_is.leads.below,
          all_append below hint_roots (dirty_roots ++ last_named) (all_if below (has_hints m) (hint_root m version) (λ there. hint_below))
              (all_append below dirty_roots last_named (all_if below (has_dirty_bits version) (dirty_root m version) (λ there. dirty_below))
              (discards_lead.below, named_lower this image blocks (meta_map_at m version) 1 (cache_parts m version) parts_fitting)),
        ),
      )

  few_named_before : length (cache_named m version) < 2 ^ 32
  unfolding cache_named
  few_named_before =
      omega (
        arith,
        few_named this image blocks (meta_map_at m version) lawful_graph 1 (cache_parts m version) parts_fitting,
        parts_end m version,
        length-append hint_roots (dirty_roots ++ last_named),
        length-append dirty_roots last_named,
        length-one_if (has_hints m) (hint_root m version),
        length-one_if (has_dirty_bits version) (dirty_root m version),
      )

  pub meta_is : IsMetaMapSeen (graph_of 12 n 0 (cache_layout n)) image (cache_all m version n) (meta_map_at m version + length (meta_map_blocks m version n)) 7 n (meta_map_at m version) (cache_named m version)
  unfolding meta_map_blocks
  meta_is =
      map_seen 12 n 0 (cache_layout n) image blocks (meta_map_at m version + length (meta_map_blocks m version n)) 7 (meta_map_at m version) (cache_named m version)
      (roles n).map_index (roles n).map_bitmap (roles n).map_overflow (omega arith) (omega arith) few room (omega arith) (omega arith)
      named_before few_named_before meta_stands rest_named.1.0 rest_named.1.1.0

  pub meta_fitting : AllFrom (IsFitting (graph_of 12 n 0 (cache_layout n)) image (cache_all m version n) (meta_map_at m version + length (meta_map_blocks m version n))) (meta_map_at m version) (meta_map_blocks m version n)
  unfolding meta_map_blocks
  meta_fitting = meta_is.fitting

  -- the edges of the superblock lead to laid blocks
  pub super_leads : AllByRecursion (LeadsBelow (cache_all m version n) (meta_map_at m version + length (meta_map_blocks m version n))) (super_edges m version n)
  super_leads =
      let end = meta_map_at m version + length (meta_map_blocks m version n) in
      let more = leads_more blocks (meta_map_at m version) end (omega arith) in
      let all = all_from (LeadsBelow blocks (meta_map_at m version)) (LeadsBelow blocks end) more in (
        more (edge_of 1 (mapping_root m version)) mapping_is.leads,
        all_append (LeadsBelow blocks end) (hint_edges m version) (behind_hints m version n) (all (hint_edges m version) hints_are.leads)
            (more (edge_of 5 (discard_root m version)) discards_lead, (meta_is.index_leads, (meta_is.overflow_leads, all (dirty_edges m version) dirty_is.leads))),
      )

  pub super_edges_are : cache_super_edges (cache_laid_fields m version n) ≡ super_edges m version n
  unfolding cache_laid_fields
  super_edges_are =
      let first = edge_of 1 (mapping_root m version) in
      let seventh = edge_of 7 (meta_map_at m version) in
      let ninth = edge_of 9 (meta_overflow_root n (meta_map_at m version) (cache_named m version)) in
      let told = one_if (has_dirty_bits version) (edge_of 10 (dirty_root m version)) in
      ap (λ (hints : List Edge). first ∷ (hints ++ (optional_edge 5 (discard_root m version) ++ (seventh ∷ ninth ∷ told))))
      (edge_if 3 (has_hints m) (array_root 4 (hints_at m version) (hint_words m)) hint_from)
      ∙ (ap (λ (discards : List Edge). first ∷ (hint_edges m version ++ (discards ++ (seventh ∷ ninth ∷ told)))) (edge_if 5 true (discard_root m version) (λ there. discards_lead.from_one))
      ∙ ap (λ (dirty : List Edge). first ∷ (hint_edges m version ++ (edge_of 5 (discard_root m version) ∷ seventh ∷ ninth ∷ dirty)))
      (root_if (edge_of 10) (has_dirty_bits version) (array_root 8 (dirty_at m version) (dirty_words m))))

-- The rules of a whole cache, one after another.
use Rattle.std.proofs.Common.{◌≡◌, ℕ, Bool, List, [], ◌∷◌, ◌++◌, map, filter, Option, IfSome, refl, sym, ap, ◌∙◌, subst, arith, ◌+◌, ◌*◌, ◌<◌, ◌≤◌, nat_eq, length}
use Rattle.std.specs.List.{flat_map, AllByRecursion, IsDistinct, range_with_len}
use Rattle.std.proofs.lemmas.Grind.{flat_map-append}
use Rattle.std.proofs.lemmas.List.{map-append}
use Rattle.std.proofs.lemmas.List.Elements.{filter-append}
use Rattle.std.proofs.lemmas.List.Sums.{length-filter}
use Rattle.pd_kinds.specs.Graph.{Graph, block_at, nodes}
use Rattle.pd_kinds.specs.Node.{Entry}
use Rattle.pd_kinds.specs.CacheFormat.{CacheFields, cache_fields, cache_graph, cache_layout}
use Rattle.pd_kinds.specs.Stages.{IsReached, cache_checked, checked_of}
use Rattle.pd_kinds.specs.Trees.{entries_below, block_words, words_of}
use Rattle.pd_kinds.specs.Whole.{Array, WholeTest, has_repeat, is_valid_word, origin_of_word, cache_arrays, cache_whole}
use Rattle.pd_kinds.proofs.ResultLemmas.{if_then}
use Rattle.pd_kinds.proofs.ListLemmas.{all_from, all_mapped}
use Rattle.pd_kinds.specs.declared.kind.Kind.TheVariants.{Cache}
use Rattle.pd_kinds.specs.Layout.{graph_of}
use Rattle.pd_kinds.specs.Lawful.{IsLawful}
use Rattle.pd_kinds.specs.InOrder.{AreInOrder}
use Rattle.pd_kinds.specs.declared.rule.Rule.TheVariants as r
use Rattle.pd_value.specs.declared.thin.Root.{Root}
use Rattle.pd_graph.specs.declared.audit.Audit.{Audit}
use Rattle.pd_graph.specs.Audit.{KeepsButRules, blocks_of, roles_at}
use Rattle.pd_graph.specs.Marks.{has_bit}
use Rattle.pd_tree.specs.Cursor.{item_of, root_of}
use Rattle.pd_tree.specs.Below.{nodes_below}
use Rattle.pd_tree.specs.Search.{IsTreeRole}
use Rattle.pd_check.specs.Known.{Charges, IsKnown}
use Rattle.pd_check.proofs.KnownLemmas.{known_stays}
use Rattle.pd_check.specs.Arrays.{HasArrays, HasWords}
use Rattle.pd_check.proofs.ArrayReads.{kind_stays}
use Rattle.pd_check.specs.Refs.{number_in, AreReachedOnce, InRole, blocks_in, known_in}
use Rattle.pd_cache.specs.Words.{block_origins, origins_in}
use Rattle.pd_cache.specs.Meeting.{IsMapBlock, blocks_named}
use Rattle.pd_cache.specs.Whole.{IsKnownCache, IsReady, arrays_reads, discards, dirty_bits, hints, mappings, origin_test, arrays, origin_reads, tests_named}

-- what is known of a cache stays while rules are added
pub ready_stays : (graph : Graph) (image : List (List ℕ)) (fields : CacheFields) (old new : Audit) → IsReady graph image old fields → KeepsButRules old new → IsReady graph image new fields
ready_stays graph image fields old new ready kept = record {
  cache = record { known = known_stays graph image old new kept ready.cache.known; ordered = ready.cache.ordered; trees = ready.cache.trees };
  roots = ready.roots;
}

-- its arrays
pub has_mappings : (graph : Graph) (image : List (List ℕ)) (audit : Audit) → IsKnownCache graph image audit → HasArrays graph image audit mappings
has_mappings graph image audit cache = record { known = cache.known; ordered = cache.ordered; tree = cache.trees.mappings; apart = λ same. omega arith }

pub has_hints : (graph : Graph) (image : List (List ℕ)) (audit : Audit) → IsKnownCache graph image audit → HasArrays graph image audit hints
has_hints graph image audit cache = record { known = cache.known; ordered = cache.ordered; tree = cache.trees.hints; apart = λ same. omega arith }

pub has_discards : (graph : Graph) (image : List (List ℕ)) (audit : Audit) → IsKnownCache graph image audit → HasArrays graph image audit discards
has_discards graph image audit cache = record { known = cache.known; ordered = cache.ordered; tree = cache.trees.discards; apart = λ same. omega arith }

pub has_dirty_bits : (graph : Graph) (image : List (List ℕ)) (audit : Audit) → IsKnownCache graph image audit → HasArrays graph image audit dirty_bits
has_dirty_bits graph image audit cache = record { known = cache.known; ordered = cache.ordered; tree = cache.trees.dirty_bits; apart = λ same. omega arith }

-- facts over a told image and over what is told of it later
pub if_both : {X : Type 0} → (o later : Option X) (P Q : X → Type 0) → later ≡ o → IfSome o P → IfSome later Q → IfSome o (λ x. P x × Q x)
if_both o later P Q same = if_then o later P Q (λ x. P x × Q x) same (λ x p q. (p, q))

-- the tests of all arrays
pub arrays_tests : (f : Array → List WholeTest) (m : Array) (h d y : List Array)
    → f m ++ (flat_map f h ++ (flat_map f d ++ flat_map f y)) ≡ f m ++ flat_map f (h ++ (d ++ y))
arrays_tests f m h d y =
    ap (λ (ts : List WholeTest). f m ++ ts)
    (sym (flat_map-append f h (d ++ y) ∙ ap (λ (ts : List WholeTest). flat_map f h ++ ts) (flat_map-append f d y)))

-- how much is read stays
pub arrays_stay : (old new : Audit) → KeepsButRules old new → arrays_reads new ≡ arrays_reads old
arrays_stay old new kept = omega (arith, kind_stays old new mappings kept, kind_stays old new hints kept, kind_stays old new discards kept, kind_stays old new dirty_bits kept)

-- the blocks that entries name
names_of : (entries : List Entry) → blocks_named (map (item_of root_of) entries) ≡ map (λ (e : Entry). e.value) entries
names_of [] = refl
names_of (e ∷ entries) = ap (λ (bs : List ℕ). e.value ∷ bs) (names_of entries)

-- their origins are those of the array's words
origins_of : (image : List (List ℕ)) (entries : List Entry)
    → origins_in image (map (λ (e : Entry). e.value) entries) ≡ map origin_of_word (filter is_valid_word (words_of 8 image entries))
unfolding origins_in block_origins words_of
origins_of image [] = refl
origins_of image (e ∷ entries) =
    let here = block_words 8 (block_at image e.value) in
    let rest = flat_map (λ (e : Entry). block_words 8 (block_at image e.value)) entries in
    ap (λ (os : List ℕ). map origin_of_word (filter is_valid_word here) ++ os) (origins_of image entries)
    ∙ (sym (map-append origin_of_word (filter is_valid_word here) (filter is_valid_word rest))
    ∙ ap (λ (ws : List ℕ). map origin_of_word ws) (sym (filter-append is_valid_word here rest)))

-- Origin, by what was found of the blocks that the array's tree names
pub origin_charged : (graph : Graph) (image : List (List ℕ)) (old new : Audit) (root : ℕ) (repeated : Bool) (items : List (ℕ × Root)) → HasArrays graph image old mappings
    → items ≡ map (item_of root_of) (entries_below graph image 8 1 root)
    → AllByRecursion (λ (e : Entry). IsReached graph image e.value 2) (entries_below graph image 8 1 root)
    → (AllByRecursion (IsMapBlock old) (blocks_named items) → repeated ≡ has_repeat (origins_in image (blocks_named items)))
    → Charges (record { block = root; rule = r.Origin; fails = repeated } ∷ []) old new → Charges (origin_test graph image root ∷ []) old new
origin_charged graph image old new root repeated items has are reached says =
    let entries = entries_below graph image 8 1 root in
    let blocks : blocks_named items ≡ map (λ (e : Entry). e.value) entries = ap blocks_named are ∙ names_of entries in
    let each : AllByRecursion (IsMapBlock old) (map (λ (e : Entry). e.value) entries) =
    all_mapped (λ (e : Entry). e.value) (IsMapBlock old) entries
    (all_from (λ (e : Entry). IsReached graph image e.value 2) (λ (e : Entry). IsMapBlock old e.value)
    (λ e there. let block = there.block in let number = has.known.number in record { within = omega arith; met = has.known.roles e.value 2 there.block (omega arith) ∙ there.found })
    entries reached) in
    let found = says (subst (λ (bs : List ℕ). AllByRecursion (IsMapBlock old) bs) (sym blocks) each) in
    subst (λ (fails : Bool). Charges (record { block = root; rule = r.Origin; fails = fails } ∷ []) old new)
    (found ∙ ap has_repeat (ap (origins_in image) blocks ∙ origins_of image entries))

-- A cache that is in order by its superblock, and how many blocks are read for the rules of the whole.

-- the number of blocks in a role
known_number : (audit : Audit) (role n : ℕ) → length (known_in audit role n) ≡ number_in audit role n
unfolding known_in number_in
known_number audit role n = length-filter (λ b. has_bit (roles_at audit b) role) (range_with_len 0 n)

module _ (graph : Graph) (image : List (List ℕ)) (audit : Audit) (fields : CacheFields) (ready : IsReady graph image audit fields)
    (no_more : (graph : Graph) (image : List (List ℕ)) (parts : List InRole) → AllByRecursion (AreReachedOnce graph image) parts
    → IsDistinct nat_eq (map (λ (part : InRole). part.role) parts) → blocks_in parts ≤ length (nodes graph image))
    (known_once : (graph : Graph) (image : List (List ℕ)) (audit : Audit) (role : ℕ) → IsKnown graph image audit → role < 16
    → AreReachedOnce graph image (record { role = role; blocks = known_in audit role graph.nr }))
    (nodes_once : (graph : Graph) (image : List (List ℕ)) (b role size : ℕ) → IsLawful graph → AreInOrder graph image → IsTreeRole graph role size → IsReached graph image b role
    → AreReachedOnce graph image (record { role = role; blocks = nodes_below size image 63 b })) where
  part : ℕ → InRole
  part role = record { role = role; blocks = known_in audit role graph.nr }

  once : (role : ℕ) → role < 16 → AreReachedOnce graph image (part role)
  unfolding part
  once role few = known_once graph image audit role ready.cache.known few

  number : (role : ℕ) → length (part role).blocks ≡ number_in audit role (blocks_of audit)
  unfolding part
  number role = known_number audit role graph.nr ∙ ap (number_in audit role) (sym ready.cache.known.number)

  -- the nodes and the blocks of the mapping array
  first_parts : length (nodes_below 8 image 63 fields.mapping_root) + length (part 2).blocks ≤ length (nodes graph image)
  unfolding part IsDistinct
  first_parts =
      let tree : InRole = record { role = 1; blocks = nodes_below 8 image 63 fields.mapping_root } in
      let all = no_more graph image (tree ∷ part 2 ∷ [])
      (nodes_once graph image fields.mapping_root 1 8 ready.cache.known.lawful ready.cache.ordered ready.cache.trees.mappings.is_role ready.roots.mappings, (once 2 (omega arith), tt))
      ((refl, tt), (tt, tt)) in
      omega arith

  -- and the nodes of all arrays
  all_parts : length (part 1).blocks + (length (part 3).blocks + (length (part 5).blocks + length (part 10).blocks)) ≤ length (nodes graph image)
  unfolding part IsDistinct
  all_parts =
      let all = no_more graph image (part 1 ∷ part 3 ∷ part 5 ∷ part 10 ∷ [])
      (once 1 (omega arith), (once 3 (omega arith), (once 5 (omega arith), (once 10 (omega arith), tt)))) (
        (refl, (refl, (refl, tt))),
        (
          (refl, (refl, tt)),
          ((refl, tt), (tt, tt)),
        ),
      ) in
      omega arith

  pub read_twice : origin_reads audit image fields.mapping_root + arrays_reads audit ≤ 2 * length (nodes graph image)
  read_twice = omega (arith, first_parts, all_parts, number 1, number 2, number 3, number 5, number 10)

-- the words of its arrays
pub have_words : AllByRecursion (HasWords (cache_layout 0)) arrays
unfolding cache_layout
have_words = (record { few = omega arith; words = refl }, (record { few = omega arith; words = refl }, (record { few = omega arith; words = refl }, (record { few = omega arith; words = refl }, tt))))

-- the number of metadata blocks
pub blocks_are : (first : List ℕ) → (cache_graph first).nr ≡ (cache_fields first).meta_map.blocks
unfolding cache_graph graph_of
blocks_are first = refl

-- the format by the fields that were read
pub graph_is : (first : List ℕ) (fields : CacheFields) → fields ≡ cache_fields first
    → graph_of 12 fields.meta_map.blocks 0 (cache_layout fields.meta_map.blocks) ≡ cache_graph first
unfolding cache_graph
graph_is first fields same = ap (λ (f : CacheFields). graph_of 12 f.meta_map.blocks 0 (cache_layout f.meta_map.blocks)) same

-- the rules of the whole image
pub whole_is : (image : List (List ℕ)) (first : List ℕ) → block_at image 0 ≡ first → (checked_of Cache image).whole ≡ tests_named (cache_graph first) image (cache_fields first)
unfolding cache_checked cache_whole cache_arrays tests_named
whole_is image first same = subst (λ (f : List ℕ). (checked_of Cache image).whole ≡ tests_named (cache_graph f) image (cache_fields f)) same refl

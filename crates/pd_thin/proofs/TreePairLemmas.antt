-- Turns over both trees of an image that may be told.
use Rattle.std.proofs.Common.{◌≡◌, ℕ, Bool, true, false, ◌&&◌, List, [], ◌∷◌, ◌++◌, ◌+◌, ◌≤◌, Option, None, IfNone, IfSome, sym, ap, subst, ◌∙◌, arith, ◌||◌, not, cond, nat_eq, length, map, filter, refl}
use Rattle.std.specs.Option.{option_to_list}
use Rattle.std.specs.Str.{bytes_eq}
use Rattle.std.proofs.Math.Bool.{and-true}
use Rattle.std.proofs.lemmas.Option.{IfSome_then}
use Rattle.std.specs.List.{flat_map, AllByRecursion}
use Rattle.std.proofs.lemmas.List.{length-map}
use Rattle.pd_kinds.proofs.ResultLemmas.{if_both}
use Rattle.pd_kinds.specs.declared.rule.Rule.{Rule}
use Rattle.pd_kinds.specs.Node.{Entry}
use Rattle.pd_kinds.specs.Graph.{Graph, pair}
use Rattle.pd_kinds.specs.Stages.{IsReached}
use Rattle.pd_kinds.specs.Trees.{entries_below, keys_of}
use Rattle.pd_kinds.specs.Whole.{Roots, WholeTest, whole_bad, mapped_number, mapping_entries, mapped_tests, device_test}
use Rattle.pd_kinds.proofs.ListLemmas.{all_from}
use Rattle.pd_kinds.specs.declared.rule.Rule.TheVariants as r
use Rattle.pd_value.specs.declared.thin.Root.{Root}
use Rattle.pd_value.specs.declared.thin.Details.{Details}
use Rattle.pd_graph.specs.declared.audit.Audit.{Audit}
use Rattle.pd_graph.specs.declared.notes.Note.{Note}
use Rattle.pd_graph.specs.Audit.{note_at, KeepsButRules}
use Rattle.pd_tree.specs.Below.{items_below}
use Rattle.pd_tree.specs.Cursor.{item_of, root_of}
use Rattle.pd_tree.specs.Search.{IsSoundTree}
use Rattle.pd_tree.proofs.OnceLemmas.{entries_are}
use Rattle.pd_check.specs.Known.{Charges, IsUp}
use Rattle.pd_check.proofs.SharedLemmas.{whole_bad-append, whole_bad-cons, charges_same, charges_then}
use Rattle.pd_check.proofs.KnownLemmas.{firsts-items}
use Rattle.pd_thin.specs.declared.device_pairs.Turn.TheVariants.{Both, Top, Detail}
use Rattle.pd_thin.specs.DevicePairs.{firsts, turn_of, mapped_test, mapped_of, IsLeft, IsOnWay, details_of}
use Rattle.pd_thin.proofs.DevicePairLemmas.{way_top, way_detail, way_device, way_both, way_end}
use Rattle.pd_thin.specs.Pool.{IsKnownPool, AreReached, pool_tests}

-- the audit has these numbers of entries
abbrev pub HasNumbers : (ℕ → ℕ) → Audit → Type 0
HasNumbers below audit = (b : ℕ) → (note_at audit b).below ≡ below b

-- entries that are left of each image
abbrev pub Entries : Type 0 → Type 0
Entries X = List (List ℕ) → List (ℕ × X)

-- what an advance gives: the entry that was at hand, and then what is left
abbrev pub Advances : {X : Type 0} → Option (List (List ℕ)) → Option (ℕ × X) → Entries X → Entries X → Type 0
Advances held first items items' = IfSome held (λ image. items image ≡ option_to_list first ++ items' image)

abbrev pub PairEnds : {X : Type 0} → Option (List (List ℕ)) → Option (ℕ × X) → Entries X → Type 0
PairEnds held first items = IfSome held (λ image. IfNone first (items image ≡ []))

module _ (held : Option (List (List ℕ))) (audit : Audit) (first first' : Option (ℕ × Root)) (second second' : Option (ℕ × Details)) where
  pub told_top : (tops tops' : Entries Root) (rest : Entries Details) → Top ≡ turn_of first second → Advances held first tops tops' → PairEnds held first' tops'
      → IfSome held (λ image. (below : ℕ → ℕ) → HasNumbers below audit → IsLeft first (tops image) → IsLeft second (option_to_list second ++ rest image)
      → IsOnWay below audit audit first' second (tops image) (tops' image) (option_to_list second ++ rest image) (option_to_list second ++ rest image) false)
  told_top tops tops' rest is advances ends = if_both held
      (λ image gives end below numbers.
      subst (λ (list : List (ℕ × Root)). IsLeft first list → IsLeft second (option_to_list second ++ rest image)
      → IsOnWay below audit audit first' second list (tops' image) (option_to_list second ++ rest image) (option_to_list second ++ rest image) false) (sym gives)
      (λ left left'. way_top below audit first first' second (tops' image) (rest image) is left left' end)) advances ends

  pub told_detail : (rest : Entries Root) (details details' : Entries Details) → Detail ≡ turn_of first second → Advances held second details details' → PairEnds held second' details'
      → IfSome held (λ image. (below : ℕ → ℕ) → HasNumbers below audit → IsLeft first (option_to_list first ++ rest image) → IsLeft second (details image)
      → IsOnWay below audit audit first second' (option_to_list first ++ rest image) (option_to_list first ++ rest image) (details image) (details' image) false)
  told_detail rest details details' is advances ends = if_both held
      (λ image gives end below numbers.
      subst (λ (list : List (ℕ × Details)). IsLeft first (option_to_list first ++ rest image) → IsLeft second list
      → IsOnWay below audit audit first second' (option_to_list first ++ rest image) (option_to_list first ++ rest image) list (details' image) false) (sym gives)
      (λ left left'. way_detail below audit first second second' (rest image) (details' image) is left left' end)) advances ends

  pub told_device : (later : Option (List (List ℕ))) (new : Audit) (root mapped : ℕ) (tops tops' : Entries Root) (details details' : Entries Details)
      → later ≡ held → Both root mapped ≡ turn_of first second → Advances held first tops tops' → PairEnds held first' tops'
      → Advances later second details details' → PairEnds later second' details'
      → ((below : ℕ → ℕ) → HasNumbers below audit → Charges (mapped_test below (record { 0 = root }) mapped ∷ []) audit new)
      → IfSome held (λ image. (below : ℕ → ℕ) → HasNumbers below audit → IsLeft first (tops image) → IsLeft second (details image)
      → IsOnWay below audit new first' second' (tops image) (tops' image) (details image) (details' image) true)
  told_device later new root mapped tops tops' details details' stays is advances ends advances' ends' charges =
      let here : Advances held second details details' = subst (λ (o : Option (List (List ℕ))). Advances o second details details') stays advances' in
      let end_here : PairEnds held second' details' = subst (λ (o : Option (List (List ℕ))). PairEnds o second' details') stays ends' in
      let both : IfSome held (λ image. (tops image ≡ option_to_list first ++ tops' image) × (details image ≡ option_to_list second ++ details' image)) =
      if_both held (λ image gives gives'. (gives, gives')) advances here in
      let both_end : IfSome held (λ image. IfNone first' (tops' image ≡ []) × IfNone second' (details' image ≡ [])) =
      if_both held (λ image end end'. (end, end')) ends end_here in
      if_both held
      (λ image gives end below numbers.
      subst (λ (list : List (ℕ × Root)). IsLeft first list → IsLeft second (details image)
      → IsOnWay below audit new first' second' list (tops' image) (details image) (details' image) true) (sym gives.0)
      (subst (λ (list : List (ℕ × Details)). IsLeft first (option_to_list first ++ tops' image) → IsLeft second list
      → IsOnWay below audit new first' second' (option_to_list first ++ tops' image) (tops' image) list (details' image) true) (sym gives.1)
      (λ left left'. way_device below audit new root mapped first first' second second' (tops' image) (details' image) is left left' end.0 end.1 (charges below numbers)))) both both_end

-- the way of a loop
abbrev pub Way : Option (List (List ℕ)) → Audit → Audit → Option (ℕ × Root) → Option (ℕ × Details) → Option (ℕ × Root) → Option (ℕ × Details)
    → Entries Root → Entries Root → Entries Details → Entries Details → Bool → Type 0
Way held old new first second first' second' tops tops' details details' same =
    IfSome held (λ image. (below : ℕ → ℕ) → HasNumbers below old → IsLeft first (tops image) → IsLeft second (details image)
    → IsOnWay below old new first' second' (tops image) (tops' image) (details image) (details' image) same)

-- one turn more
pub way_more : (held later : Option (List (List ℕ))) (a b c : Audit) (first first' first'' : Option (ℕ × Root)) (second second' second'' : Option (ℕ × Details))
    (tops tops' tops'' : Entries Root) (details details' details'' : Entries Details) (same more : Bool)
    → later ≡ held → KeepsButRules a b
    → Way held a b first second first' second' tops tops' details details' same
    → Way later b c first' second' first'' second'' tops' tops'' details' details'' more
    → Way held a c first second first'' second'' tops tops'' details details'' (same && more)
way_more held later a b c first first' first'' second second' second'' tops tops' tops'' details details' details'' same more stays kept before after =
    if_both held
    (λ image way next below numbers left left'.
    let here = way below numbers left left' in
    let there = next below (λ n. ap (λ (note : Note). note.below) (kept.notes n) ∙ numbers n) here.left_tops here.left_details in
    way_both below a b c first' first'' second' second'' (tops image) (tops' image) (tops'' image) (details image) (details' image) (details'' image) same more here there)
    before
    (subst (λ (o : Option (List (List ℕ))). Way o b c first' second' first'' second'' tops' tops'' details' details'' more) stays after)

-- at the end
pub way_done : (held : Option (List (List ℕ))) (old new : Audit) (first first' : Option (ℕ × Root)) (second second' : Option (ℕ × Details))
    (tops tops' : Entries Root) (details details' : Entries Details) (same : Bool) → first' ≡ None → second' ≡ None
    → Way held old new first second first' second' tops tops' details details' same
    → IfSome held (λ image. (below : ℕ → ℕ) → HasNumbers below old → IsLeft first (tops image) → IsLeft second (details image)
    → Charges (mapped_of below (tops image) (details image)) old new × (same ≡ bytes_eq (firsts (details image)) (firsts (tops image))))
way_done held old new first first' second second' tops tops' details details' same none none' way =
    IfSome_then held way (λ image all below numbers left left'.
    way_end below old new first' second' (tops image) (tops' image) (details image) (details' image) same none none' (all below numbers left left'))

-- the last turn, which finds nothing
pub way_last : (held later : Option (List (List ℕ))) (a b c : Audit) (first first' first'' : Option (ℕ × Root)) (second second' second'' : Option (ℕ × Details))
    (tops tops' tops'' : Entries Root) (details details' details'' : Entries Details) (same : Bool)
    → later ≡ held → KeepsButRules a b → first'' ≡ None → second'' ≡ None
    → Way held a b first second first' second' tops tops' details details' same
    → Way later b c first' second' first'' second'' tops' tops'' details' details'' true
    → IfSome held (λ image. (below : ℕ → ℕ) → HasNumbers below a → IsLeft first (tops image) → IsLeft second (details image)
    → Charges (mapped_of below (tops image) (details image)) a c × (same ≡ bytes_eq (firsts (details image)) (firsts (tops image))))
way_last held later a b c first first' first'' second second' second'' tops tops' tops'' details details' details'' same stays kept none none' before after =
    way_done held a c first first'' second second'' tops tops'' details details'' same none none'
    (subst (λ (x : Bool). Way held a c first second first'' second'' tops tops'' details details'' x) (and-true same)
    (way_more held later a b c first first' first'' second second' second'' tops tops' tops'' details details' details'' same true stays kept before after))

-- reads and what is left to be read
pub reads_more : (held later : Option (List (List ℕ))) (a b c : ℕ) (f g h : List (List ℕ) → ℕ) → later ≡ held
    → IfSome held (λ image. b + g image ≤ a + f image) → IfSome later (λ image. c + h image ≤ b + g image) → IfSome held (λ image. c + h image ≤ a + f image)
reads_more held later a b c f g h stays before after =
    if_both held (λ image most more. omega arith) before (subst (λ (o : Option (List (List ℕ))). IfSome o (λ image. c + h image ≤ b + g image)) stays after)

-- what both trees were compared to
abbrev pub Compared : Audit → Audit → Option (ℕ × Root) → Option (ℕ × Details) → List (ℕ × Root) → List (ℕ × Details) → Bool → Type 0
Compared old new first second tops details same =
    (below : ℕ → ℕ) → HasNumbers below old → IsLeft first tops → IsLeft second details
    → Charges (mapped_of below tops details) old new × (same ≡ bytes_eq (firsts details) (firsts tops))

-- what follows of an image by what two begins and a comparison told
pub trees_told : (held later last : Option (List (List ℕ))) (old new : Audit) (first : Option (ℕ × Root)) (second : Option (ℕ × Details))
    (tops all : Entries Root) (details all' : Entries Details) (same : Bool) → later ≡ held → last ≡ held
    → IfSome held (λ image. tops image ≡ all image) → PairEnds held first tops
    → IfSome later (λ image. details image ≡ all' image) → PairEnds later second details
    → IfSome last (λ image. Compared old new first second (tops image) (details image) same)
    → (P : List (List ℕ) → Type 0)
    → ((image : List (List ℕ)) → tops image ≡ all image → IfNone first (tops image ≡ []) → details image ≡ all' image → IfNone second (details image ≡ [])
    → Compared old new first second (tops image) (details image) same → P image)
    → IfSome held P
trees_told held later last old new first second tops all details all' same stays stays' is ends is' ends' compared P leads =
    let one : IfSome held (λ image. (tops image ≡ all image) × IfNone first (tops image ≡ [])) = if_both held (λ image x y. (x, y)) is ends in
    let two : IfSome held (λ image. (details image ≡ all' image) × IfNone second (details image ≡ [])) =
    subst (λ (o : Option (List (List ℕ))). IfSome o (λ image. (details image ≡ all' image) × IfNone second (details image ≡ []))) stays
    (if_both later (λ image x y. (x, y)) is' ends') in
    let both : IfSome held (λ image. (tops image ≡ all image) × IfNone first (tops image ≡ []) × (details image ≡ all' image) × IfNone second (details image ≡ [])) =
    if_both held (λ image x y. (x.0, x.1, y.0, y.1)) one two in
    if_both held (λ image parts compared. leads image parts.0 parts.1 parts.2 parts.3 compared) both
    (subst (λ (o : Option (List (List ℕ))). IfSome o (λ image. Compared old new first second (tops image) (details image) same)) stays' compared)

-- What the entries of both trees come to are the tests of the definition.

-- elements that are kept alike give the same
kept_alike : {X Y Z : Type 0} → (f : X → Z) (g : Y → Z) (b : Bool) (x : X) (y : Y) (xs : List X) (ys : List Y) → f x ≡ g y → map f xs ≡ map g ys
    → map f (cond b (x ∷ xs) xs) ≡ map g (cond b (y ∷ ys) ys)
kept_alike f g true x y xs ys here rest = rw (here, rest) refl
kept_alike f g false x y xs ys here rest = rest

module _ (graph : Graph) (image : List (List ℕ)) (below : ℕ → ℕ) where
  -- the test of a device by its entries
  abbrev entry_test : Entry → Entry → WholeTest
  entry_test top details = record {
    block = top.value;
    rule = r.Mapped;
    fails = not (nat_eq (mapped_number details.value) (length (mapping_entries graph image top.value)));
  }

  tests_of_top : (top : Entry) (details : List Entry) → below top.value ≡ length (mapping_entries graph image top.value)
      → map (λ (detail : ℕ × Details). mapped_test below (root_of top.value) detail.1.mapped) (filter (λ (detail : ℕ × Details). nat_eq detail.0 top.key) (map (item_of details_of) details))
      ≡ map (entry_test top) (filter (λ (entry : Entry). nat_eq entry.key top.key) details)
  tests_of_top top [] number = refl
  tests_of_top top (detail ∷ details) number =
      kept_alike (λ (d : ℕ × Details). mapped_test below (root_of top.value) d.1.mapped) (entry_test top) (nat_eq detail.key top.key) (item_of details_of detail) detail
      (filter (λ (d : ℕ × Details). nat_eq d.0 top.key) (map (item_of details_of) details)) (filter (λ (entry : Entry). nat_eq entry.key top.key) details)
      (ap (λ (n : ℕ). record { block = top.value; rule = r.Mapped; fails = not (nat_eq (mapped_number detail.value) n) }) number) (tests_of_top top details number)

  tests_of_tops : (tops details : List Entry) → AllByRecursion (λ (top : Entry). below top.value ≡ length (mapping_entries graph image top.value)) tops
      → mapped_of below (map (item_of root_of) tops) (map (item_of details_of) details)
      ≡ flat_map (λ (top : Entry). map (entry_test top) (filter (λ (entry : Entry). nat_eq entry.key top.key) details)) tops
  unfolding mapped_of
  tests_of_tops [] details numbers = refl
  tests_of_tops (top ∷ tops) details numbers = rw (tests_of_top top details numbers.0, tests_of_tops tops details numbers.1) refl

-- what is charged last may come first
last_first : (x : WholeTest) (xs : List WholeTest) (b : ℕ) (wanted : Rule) → whole_bad (xs ++ x ∷ []) b wanted ≡ whole_bad (x ∷ xs) b wanted
last_first x xs b wanted = whole_bad-append xs (x ∷ []) b wanted ∙ (swap (whole_bad xs b wanted) (whole_bad (x ∷ []) b wanted) ∙ sym (whole_bad-cons x xs b wanted))
  where
    swap : (p q : Bool) → (p || q) ≡ (q || p)
    swap true true = refl
    swap true false = refl
    swap false true = refl
    swap false false = refl

module _ (graph : Graph) (image : List (List ℕ)) (old mid new : Audit) (roots : Roots) (pool : IsKnownPool graph image old) (reached : AreReached graph image roots)
    (mapping : IsSoundTree graph image (pair roots.mapping 2)) (details : IsSoundTree graph image (pair roots.details 4))
    (mapping_up : IsUp 0 (keys_of (entries_below graph image 8 2 roots.mapping))) (details_up : IsUp 0 (keys_of (entries_below graph image 24 4 roots.details)))
    (devices : AllByRecursion (λ (e : Entry). IsReached graph image e.value 3) (entries_below graph image 8 2 roots.mapping)) where
  -- what was taken of both trees
  tops_are : items_below 8 root_of image 63 roots.mapping ≡ map (item_of root_of) (entries_below graph image 8 2 roots.mapping)
  tops_are = entries_are graph image roots.mapping 2 8 pool.trees.devices.is_role mapping root_of

  details_are : items_below 24 details_of image 63 roots.details ≡ map (item_of details_of) (entries_below graph image 24 4 roots.details)
  details_are = entries_are graph image roots.details 4 24 pool.trees.details details details_of

  numbers : AllByRecursion (λ (top : Entry). (note_at old top.value).below ≡ length (mapping_entries graph image top.value)) (entries_below graph image 8 2 roots.mapping)
  numbers =
      all_from (λ (e : Entry). IsReached graph image e.value 3) (λ (e : Entry). (note_at old e.value).below ≡ length (mapping_entries graph image e.value))
      (λ e there. (pool.known.notes e.value 3 8 pool.trees.mappings there).below ∙ length-map {A = Entry} {B = ℕ} (mapping_entries graph image e.value) (λ entry. entry.key))
      (entries_below graph image 8 2 roots.mapping) devices

  pub trees_charged : (first : Option (ℕ × Root)) (second : Option (ℕ × Details)) (tops : List (ℕ × Root)) (lasts : List (ℕ × Details)) (same : Bool)
      → tops ≡ items_below 8 root_of image 63 roots.mapping → IfNone first (tops ≡ [])
      → lasts ≡ items_below 24 details_of image 63 roots.details → IfNone second (lasts ≡ [])
      → ((below : ℕ → ℕ) → HasNumbers below old → IsLeft first tops → IsLeft second lasts
      → Charges (mapped_of below tops lasts) old mid × (same ≡ bytes_eq (firsts lasts) (firsts tops)))
      → Charges (record { block = roots.details; rule = r.Device; fails = not same } ∷ []) mid new
      → Charges (pool_tests graph image roots) old new
  unfolding mapped_tests device_test
  trees_charged first second tops lasts same is end is' end' compared device =
      let entries = entries_below graph image 8 2 roots.mapping in
      let others = entries_below graph image 24 4 roots.details in
      let below = λ (b : ℕ). (note_at old b).below in
      let tops_is = is ∙ tops_are in
      let lasts_is = is' ∙ details_are in
      let keys : firsts tops ≡ keys_of entries = ap firsts tops_is ∙ firsts-items root_of entries in
      let keys' : firsts lasts ≡ keys_of others = ap firsts lasts_is ∙ firsts-items details_of others in
      let both = compared below (λ b. refl) (record { up = rw keys mapping_up; end = end }) (record { up = rw keys' details_up; end = end' }) in
      let tests : mapped_of below tops lasts ≡ mapped_tests graph image roots = rw (tops_is, lasts_is) (tests_of_tops graph image below entries others numbers) in
      let mapped : Charges (mapped_tests graph image roots) old mid = subst (λ (list : List WholeTest). Charges list old mid) tests both.0 in
      let equal : same ≡ bytes_eq (keys_of others) (keys_of entries) = both.1 ∙ (ap (λ (list : List ℕ). bytes_eq list (firsts tops)) keys' ∙ ap (λ (list : List ℕ). bytes_eq (keys_of others) list) keys) in
      let last : Charges (device_test graph image roots ∷ []) mid new =
      subst (λ (b : Bool). Charges (record { block = roots.details; rule = r.Device; fails = not b } ∷ []) mid new) equal device in
      charges_same (mapped_tests graph image roots ++ device_test graph image roots ∷ []) (pool_tests graph image roots) old new
      (λ n wanted within. last_first (device_test graph image roots) (mapped_tests graph image roots) n wanted)
      (charges_then (mapped_tests graph image roots) (device_test graph image roots ∷ []) old mid new mapped last)

-- What a comparison of a whole map finds.
use Rattle.std.proofs.Common.{◌≡◌, ℕ, ◌+◌, ◌%◌, ◌/◌, ◌<◌, ◌≤◌, List, [], Option, Some, IfSome, ap, sym, ◌∙◌, refl, subst, arith, append-nil, cond, Result, Ok, Err, IfOk, zero, suc, ◌∷◌, ◌^◌, map, eqb, true, false}
use Rattle.std.specs.List.{slice_get, range_with_len}
use Rattle.std.specs.Option.{unwrap_or, option_map, option_and_then}
use Rattle.std.proofs.lemmas.Bool.{le-ltb, lt-ltb, eq-eqb, ne_eqb}
use Rattle.pd_kinds.specs.declared.rule.Fault.{Fault}
use Rattle.pd_kinds.specs.declared.rule.Space.TheVariants.{Meta, DataBlock}
use Rattle.pd_kinds.specs.Bitmap.{two_bits_of, index_block_at, bitmaps_for}
use Rattle.pd_kinds.specs.Graph.{block_at}
use Rattle.pd_kinds.specs.Node.{Entry}
use Rattle.pd_kinds.specs.Rule.{Reported, report_of}
use Rattle.pd_kinds.specs.Trees.{count_of_bits, keys_of, stored_in, stored_meta_in, stored_data_in, value_of_key}
use Rattle.pd_kinds.proofs.ResultLemmas.{if_all, if_maps, if_then}
use Rattle.pd_value.specs.declared.space_map.IndexEntry.{IndexEntry}
use Rattle.pd_tree.specs.Below.{items_below}
use Rattle.pd_smap.specs.Steps.{IsAhead, stored_by, faults_from, Adds, AddsFront, ComparisonState, ComparesImage, FindsFront, bits_by}
use Rattle.pd_smap.specs.Overflow.{IsOverflow, IsIndex, bitmap_entry, count_from, data_place, index_from, index_of, meta_place, overflow_of, place_in}
use Rattle.pd_smap.proofs.OverflowLeftLemmas.{all_ahead}
use Rattle.pd_smap.proofs.StepLemmas.{faults_same}

-- an index block that was read names the bitmaps
pub index_bits : (root blocks : ℕ) (index : List ℕ) (o : Option (List (List ℕ))) → IfSome o (λ image. slice_get image root ≡ Some index)
    → IfSome o (λ image. (b : ℕ) → 0 ≤ b → b < 0 + blocks → bits_by (λ image. index_block_at index) image b ≡ bits_by (meta_place root) image b)
index_bits root blocks index o content = if_maps o _ _ (λ image is b from below.
    ap (λ (block : Option (List ℕ)). two_bits_of (block_at image (index_block_at (unwrap_or block []) (b / 16320))) (b % 16320)) (sym is)) content

-- the stored count of a metadata block by its two bits
pub stored_meta_is : (image : List (List ℕ)) (root b : ℕ) (overflow : List Entry)
    → stored_meta_in image root overflow b ≡ stored_by (bits_by (meta_place root) image b) (value_of_key overflow b)
unfolding stored_meta_in stored_in count_of_bits
stored_meta_is image root b overflow = refl

pub stored_meta_found : (image : List (List ℕ)) (root b place bits : ℕ) (index : List ℕ) (overflow : List Entry) → slice_get image root ≡ Some index
    → place ≡ index_block_at index (b / 16320) → bits ≡ two_bits_of (block_at image place) (b % 16320)
    → stored_meta_in image root overflow b ≡ stored_by bits (value_of_key overflow b)
stored_meta_found image root b place bits index overflow content placed is =
    stored_meta_is image root b overflow ∙ ap (λ n. stored_by n (value_of_key overflow b))
    (ap (λ (block : Option (List ℕ)). two_bits_of (block_at image (index_block_at (unwrap_or block []) (b / 16320))) (b % 16320)) content
    ∙ ap (λ p. two_bits_of (block_at image p) (b % 16320)) (sym placed) ∙ sym is)

-- two bits below 3 are the count, and others leave it to the overflow tree
pub few_bits : (bits : ℕ) (over : Option ℕ) → bits < 3 → stored_by bits over ≡ Some bits
few_bits bits over few = ap (λ t. cond t (Some bits) over) (lt-ltb bits 3 few)

pub many_bits : (bits : ℕ) (over : Option ℕ) → 3 ≤ bits → stored_by bits over ≡ over
many_bits bits over many = ap (λ t. cond t (Some bits) over) (le-ltb bits 3 many)

-- what a comparison from the first block on adds, by the entries of a searchable overflow tree
pub meta_added : (refs : ℕ → ℕ) (image : List (List ℕ)) (root over blocks : ℕ) (s t : ComparisonState) → s.items image ≡ items_below 4 count_from image 63 over → IsOverflow image over
    → ComparesImage (record { space = Meta; refs = refs; bits = bits_by (meta_place root) }) image 0 blocks s t
    → Adds (faults_from Meta refs (stored_meta_in image root (overflow_of image over)) 0 blocks) s.report t.report
meta_added refs image root over blocks s t items searchable finds =
    subst (λ fs. Adds fs s.report t.report)
    (faults_same Meta refs _ (stored_meta_in image root (overflow_of image over)) 0 blocks (λ b from below. sym (stored_meta_is image root b (overflow_of image over))))
    (finds.added (value_of_key (overflow_of image over)) (subst (IsAhead 0 (value_of_key (overflow_of image over))) (sym items) (all_ahead image over searchable)))

pub meta_front : (refs : ℕ → ℕ) (image : List (List ℕ)) (root over blocks : ℕ) (s t : ComparisonState) → s.items image ≡ items_below 4 count_from image 63 over → IsOverflow image over
    → FindsFront (record { space = Meta; refs = refs; bits = bits_by (meta_place root) }) image 0 blocks s t
    → AddsFront (faults_from Meta refs (stored_meta_in image root (overflow_of image over)) 0 blocks) s.report t.report
meta_front refs image root over blocks s t items searchable finds =
    subst (λ fs. AddsFront fs s.report t.report)
    (faults_same Meta refs _ (stored_meta_in image root (overflow_of image over)) 0 blocks (λ b from below. sym (stored_meta_is image root b (overflow_of image over))))
    (finds.added (value_of_key (overflow_of image over)) (subst (IsAhead 0 (value_of_key (overflow_of image over))) (sym items) (all_ahead image over searchable)))

-- nothing was added yet
pub nothing_added : (o : Option (List (List ℕ))) (P : List (List ℕ) → Type 0) (fs : List (List ℕ) → List Fault) (report : Reported)
    → IfSome o (λ image. P image → AddsFront (fs image) report report)
nothing_added o P fs report = if_all o _ (λ image p before is. (0, is ∙ ap report_of (sym (append-nil before))))

-- an answer that is what was to be found
pub ok_same : {E : Type 0} → (result : Result (Option ℕ) E) (o later : Option (List (List ℕ))) (P : List (List ℕ) → Type 0) (wanted over : List (List ℕ) → Option ℕ) → later ≡ o
    → IfSome o (λ image. wanted image ≡ over image) → IfOk result (λ count. IfSome later (λ image. P image → count ≡ over image))
    → IfOk result (λ count. IfSome o (λ image. P image → count ≡ wanted image))
ok_same (Err e) o later P wanted over same are told = tt
ok_same (Ok count) o later P wanted over same are told = if_then o later _ _ _ same (λ image is found p. found p ∙ sym is) are told

-- the place of a bitmap by its entry, where the entries are numbered in a row
pub indexed : (items : List (ℕ × IndexEntry)) (a n i k : ℕ) → keys_of (map bitmap_entry items) ≡ range_with_len a n → i < n → k ≡ a + i
    → option_map (λ (v : ℕ). v % 2 ^ 64) (value_of_key (map bitmap_entry items) k) ≡ Some (place_in items i)
unfolding value_of_key
indexed [] a zero i k keys within is = absurd (omega arith)
indexed [] a (suc n) i k keys within is = absurd (cc)
indexed (item ∷ items) a zero i k keys within is = absurd (omega arith)
indexed (item ∷ items) a (suc n) zero k keys within is =
    let head : item.0 ≡ a = cc in
    let hit : eqb item.0 k ≡ true = eq-eqb item.0 k (omega arith) in
    rw hit refl
indexed (item ∷ items) a (suc n) (suc i) k keys within is =
    let head : item.0 ≡ a = cc in
    let rest : keys_of (map bitmap_entry items) ≡ range_with_len (a + 1) n = cc in
    let miss : eqb item.0 k ≡ false = ne_eqb item.0 k (λ same. omega arith) in
    rw miss (indexed items (a + 1) n i k rest (omega arith) (omega arith))

-- the stored count of a data block by its two bits
pub stored_data_is : (image : List (List ℕ)) (root blocks b : ℕ) (overflow : List Entry) → IsIndex image root blocks → b < blocks
    → stored_data_in image (index_of image root) overflow b ≡ stored_by (bits_by (data_place root) image b) (value_of_key overflow b)
unfolding stored_data_in stored_in count_of_bits index_of
stored_data_is image root blocks b overflow index within =
    ap (option_and_then (λ (place : ℕ). count_of_bits (two_bits_of (block_at image place) (b % 16320)) overflow b))
    (indexed (items_below 16 index_from image 63 root) 0 (bitmaps_for blocks) (b / 16320) (b / 16320) index (omega arith) (omega arith))

-- what a comparison from the first block on adds, by the entries of the two trees
pub data_added : (refs : ℕ → ℕ) (place : List (List ℕ) → ℕ → ℕ) (image : List (List ℕ)) (root over blocks : ℕ) (s t : ComparisonState) → ((i : ℕ) → place image i ≡ data_place root image i) → s.items image ≡ items_below 4 count_from image 63 over → IsOverflow image over → IsIndex image root blocks
    → ComparesImage (record { space = DataBlock; refs = refs; bits = bits_by place }) image 0 blocks s t
    → Adds (faults_from DataBlock refs (stored_data_in image (index_of image root) (overflow_of image over)) 0 blocks) s.report t.report
data_added refs place image root over blocks s t placed items searchable index finds =
    subst (λ fs. Adds fs s.report t.report)
    (faults_same DataBlock refs _ (stored_data_in image (index_of image root) (overflow_of image over)) 0 blocks (λ b from below.
    ap (λ p. stored_by (two_bits_of (block_at image p) (b % 16320)) (value_of_key (overflow_of image over) b)) (placed (b / 16320)) ∙ sym (stored_data_is image root blocks b (overflow_of image over) index (omega arith))))
    (finds.added (value_of_key (overflow_of image over)) (subst (IsAhead 0 (value_of_key (overflow_of image over))) (sym items) (all_ahead image over searchable)))

pub data_front : (refs : ℕ → ℕ) (place : List (List ℕ) → ℕ → ℕ) (image : List (List ℕ)) (root over blocks : ℕ) (s t : ComparisonState) → ((i : ℕ) → place image i ≡ data_place root image i) → s.items image ≡ items_below 4 count_from image 63 over → IsOverflow image over → IsIndex image root blocks
    → FindsFront (record { space = DataBlock; refs = refs; bits = bits_by place }) image 0 blocks s t
    → AddsFront (faults_from DataBlock refs (stored_data_in image (index_of image root) (overflow_of image over)) 0 blocks) s.report t.report
data_front refs place image root over blocks s t placed items searchable index finds =
    subst (λ fs. AddsFront fs s.report t.report)
    (faults_same DataBlock refs _ (stored_data_in image (index_of image root) (overflow_of image over)) 0 blocks (λ b from below.
    ap (λ p. stored_by (two_bits_of (block_at image p) (b % 16320)) (value_of_key (overflow_of image over) b)) (placed (b / 16320)) ∙ sym (stored_data_is image root blocks b (overflow_of image over) index (omega arith))))
    (finds.added (value_of_key (overflow_of image over)) (subst (IsAhead 0 (value_of_key (overflow_of image over))) (sym items) (all_ahead image over searchable)))

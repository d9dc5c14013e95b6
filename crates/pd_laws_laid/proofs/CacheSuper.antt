-- The superblock of a laid cache.
use Rattle.std.proofs.Common.{◌≡◌, ◌⊎◌, inl, inr, ℕ, ◌+◌, ◌^◌, ◌<◌, ◌≤◌, Bool, true, false, ◌||◌, nat_eq, eq-eqb, cond, get_or, List, length, refl, ◌∙◌, ap, arith}
use Rattle.std.proofs.lemmas.Bool.{ne_eqb, or_from, or_left, or_right}
use Rattle.pd_kinds.specs.declared.kind.Kind.TheVariants.{Cache, Thin}
use Rattle.pd_kinds.specs.declared.rule.Rule.{Rule}
use Rattle.pd_kinds.specs.CacheFormat.{CacheFields, are_cache_sizes_bad, cache_fields, cache_layout, cache_rows, cache_super_bad, cache_super_block, cache_super_edges, cache_super_tests}
use Rattle.pd_kinds.specs.Graph.{has_edge_outside, block_at}
use Rattle.pd_kinds.specs.Field.{DoFit, put_bytes, written, zeros}
use Rattle.pd_kinds.specs.Layout.{copy, graph_of}
use Rattle.pd_kinds.specs.Meaning.{CacheMeaning}
use Rattle.pd_kinds.specs.Rule.{failing}
use Rattle.pd_kinds.specs.Super.{is_super_of, is_valid_super}
use Rattle.pd_kinds.proofs.SuperLemmas.{met_by_tests, place_tested}
use Rattle.pd_kinds.proofs.WrittenLemmas.{length-put_bytes, length-written_zeros}
use Rattle.pd_grammar.specs.Lawful.{IsLawfulCache}
use Rattle.pd_laid.specs.LaidCache.{cache_laid_fields, meta_map_at, meta_map_blocks}
use Rattle.pd_supers.proofs.CacheWritten.{reads_back}
use Rattle.pd_laws_laid.specs.LaidOut.{AllFrom, IsInPlace, IsSeen, laid_super}
use Rattle.pd_laws_laid.proofs.Bytes.{bytes_written, bytes_zeros, all_bytes, bytes_put_bytes, is_super_written}
use Rattle.pd_laws_laid.proofs.Nodes.{none_outside}
use Rattle.pd_laws_laid.proofs.Formats.{size_good}
use Rattle.pd_laws_laid.proofs.Plain.{plain_seen}
use Rattle.pd_laws_laid.proofs.Pieces.{at_index}
use Rattle.pd_laws_laid.proofs.CacheParts.{cache_all, dirty_below, discards_lead, hint_below, mapping_is, meta_is, super_edges, super_edges_are, super_leads, super_stands}

-- a superblock of sound fields breaks no rule
super_sound : (device_blocks : ℕ) (b : List ℕ) (f : CacheFields) → cache_fields b ≡ f → is_super_of Cache b ≡ true
    → (nat_eq f.version 1 || nat_eq f.version 2) ≡ true → f.incompat ≡ 0 → are_cache_sizes_bad device_blocks f ≡ false
    → has_edge_outside f.meta_map.blocks (cache_super_edges f) ≡ false → (broken : Rule) → cache_super_bad device_blocks b broken ≡ false
unfolding cache_super_bad cache_super_tests failing
super_sound device_blocks b f is valid version incompat sizes pointers broken =
    let version_is : (nat_eq (cache_fields b).version 1 || nat_eq (cache_fields b).version 2) ≡ true = ap (λ (f : CacheFields). nat_eq f.version 1 || nat_eq f.version 2) is ∙ version in
    let incompat_is : (cache_fields b).incompat ≡ 0 = ap (λ (f : CacheFields). f.incompat) is ∙ incompat in
    let sizes_are : are_cache_sizes_bad device_blocks (cache_fields b) ≡ false = ap (are_cache_sizes_bad device_blocks) is ∙ sizes in
    let pointers_are : has_edge_outside (cache_fields b).meta_map.blocks (cache_super_edges (cache_fields b)) ≡ false =
    ap (λ (f : CacheFields). has_edge_outside f.meta_map.blocks (cache_super_edges f)) is ∙ pointers in
    let place_is = place_tested Cache b valid in
    met_by_tests Cache b (cache_super_tests device_blocks b) broken valid (rw (sizes_are, pointers_are, version_is, incompat_is, place_is) refl)

-- what is known of the superblock
pub record IsSuperLaid (image : List (List ℕ)) (m : CacheMeaning) (version n : ℕ) : Type 0 where
  pub fields_are : cache_fields (block_at image 0) ≡ cache_laid_fields m version n
  pub sound : (device_blocks : ℕ) → n ≤ device_blocks → (broken : Rule) → cache_super_bad device_blocks (block_at image 0) broken ≡ false
  pub valid : is_valid_super (block_at image 0) ≡ true

module _ (m : CacheMeaning) (version n : ℕ) (image : List (List ℕ)) (few : n ≤ 4161600) (lawful : IsLawfulCache m) (which : (version ≡ 1) ⊎ (version ≡ 2))
    (room : meta_map_at m version + length (meta_map_blocks m version n) ≤ n) (stand : AllFrom (IsInPlace image (cache_all m version n)) 0 (cache_all m version n)) where
  version_known : (nat_eq version 1 || nat_eq version 2) ≡ true
  version_known = elim which [
    | inl one ↦ or_left (nat_eq version 1) (nat_eq version 2) (eq-eqb version 1 one)
    | inr two ↦ or_right (nat_eq version 1) (nat_eq version 2) (eq-eqb version 2 two)
  ]

  version_fits : version < 2 ^ 32
  version_fits = elim which [ inl one ↦ omega arith | inr two ↦ omega arith ]

  hint_size_fits : m.hint_size < 2 ^ 32
  hint_size_fits = elim lawful.hint_size_is [ inl none ↦ omega arith | inr four ↦ omega arith ]

  hint_size_known : (nat_eq m.hint_size 0 || nat_eq m.hint_size 4) ≡ true
  hint_size_known = elim lawful.hint_size_is [
    | inl none ↦ or_left (nat_eq m.hint_size 0) (nat_eq m.hint_size 4) (eq-eqb m.hint_size 0 none)
    | inr four ↦ or_right (nat_eq m.hint_size 0) (nat_eq m.hint_size 4) (eq-eqb m.hint_size 4 four)
  ]

  flag_fits : (clean : Bool) → cond clean 1 0 < 2 ^ 32
  flag_fits true = omega arith
  flag_fits false = omega arith

  version_at : (i : ℕ) → i < 3 → get_or m.versions i 0 < 2 ^ 32
  version_at i h = at_index (2 ^ 32) m.versions lawful.versions_fit i (omega (arith, lawful.three_versions))

  fields_fit : DoFit (cache_rows (cache_laid_fields m version n))
  unfolding cache_laid_fields
  fields_fit =
      let flags = flag_fits m.clean in
      let mapping = (mapping_is m version n image few lawful room stand).leads.below in
      let hints = hint_below m version n image few lawful room stand in
      let discards = (discards_lead m version n image few lawful room stand).below in
      let meta = meta_is m version n image few lawful room stand in
      let index = meta.index_leads.below in
      let overflow = meta.overflow_leads.below in
      let dirty = dirty_below m version n image few lawful room stand in (
        flags,
        (
          version_fits,
          (
            hint_size_fits,
            (
              omega arith,
              (
                omega arith,
                (
                  omega arith,
                  (
                    omega arith,
                    (
                      omega arith,
                      (
                        omega arith,
                        (
                          omega arith,
                          (
                            omega arith,
                            (
                              omega arith,
                              (
                                lawful.block_size_fits,
                                (
                                  omega arith,
                                  (
                                    lawful.blocks_fit,
                                    (
                                      omega arith,
                                      (
                                        omega arith,
                                        (
                                          omega arith,
                                          (
                                            omega arith,
                                            (
                                              omega arith,
                                              (
                                                omega arith,
                                                (
                                                  omega arith,
                                                  (version_at 0 (omega arith), (version_at 1 (omega arith), (version_at 2 (omega arith), (omega arith, tt)))),
                                                ),
                                              ),
                                            ),
                                          ),
                                        ),
                                      ),
                                    ),
                                  ),
                                ),
                              ),
                            ),
                          ),
                        ),
                      ),
                    ),
                  ),
                ),
              ),
            ),
          ),
        ),
      )

  fields_back : cache_fields (cache_super_block (cache_laid_fields m version n)) ≡ cache_laid_fields m version n
  unfolding cache_laid_fields
  fields_back =
      reads_back (cache_laid_fields m version n) lawful.uuid_len lawful.policy_len lawful.three_versions (λ other. rw (ne_eqb version 2 other) refl) fields_fit

  super_is : is_super_of Cache (cache_super_block (cache_laid_fields m version n)) ≡ true
  unfolding cache_super_block cache_laid_fields
  super_is =
      let rows = cache_rows (cache_laid_fields m version n) in
      let block = written zeros rows in
      let size = length-written_zeros rows in
      let policy = lawful.policy_len in
      is_super_written Cache m.uuid (put_bytes block 44 m.policy) (length-put_bytes block 44 m.policy (omega arith) ∙ size)
      (bytes_put_bytes block 44 m.policy (bytes_written zeros rows bytes_zeros) (all_bytes m.policy lawful.policy_bytes)) lawful.uuid_len lawful.uuid_bytes

  sizes_good : (device_blocks : ℕ) → n ≤ device_blocks → are_cache_sizes_bad device_blocks (cache_laid_fields m version n) ≡ false
  unfolding are_cache_sizes_bad cache_laid_fields
  sizes_good device_blocks within = or_from _ _ (size_good device_blocks n (omega arith) within few) (rw hint_size_known refl)

  fields_sound : (device_blocks : ℕ) → n ≤ device_blocks → (broken : Rule) → cache_super_bad device_blocks (cache_super_block (cache_laid_fields m version n)) broken ≡ false
  unfolding cache_laid_fields
  fields_sound device_blocks within broken =
      let edges = super_edges_are m version n image few lawful room stand in
      super_sound device_blocks (cache_super_block (cache_laid_fields m version n)) (cache_laid_fields m version n) fields_back super_is version_known refl (sizes_good device_blocks within)
      (ap (has_edge_outside n) edges
      ∙ none_outside n (cache_all m version n) (meta_map_at m version + length (meta_map_blocks m version n)) (super_edges m version n) room (super_leads m version n image few lawful room stand)) broken

  pub super_laid : IsSuperLaid image m version n
  unfolding is_valid_super
  super_laid =
      let stands = (super_stands m version n image few lawful room stand).stands in
      let block = cache_super_block (cache_laid_fields m version n) in
      record {
        fields_are = rw stands fields_back;
        sound = λ device_blocks within broken. rw stands (fields_sound device_blocks within broken);
        valid = rw stands (or_right (is_super_of Thin block) _ (or_left (is_super_of Cache block) _ super_is));
      }

  super_layout : cache_layout n 0 ≡ copy (λ place block. cache_super_bad n block) (λ block. cache_super_edges (cache_fields block))
  unfolding cache_layout
  super_layout = refl

  pub super_seen : IsSeen (graph_of 12 n 0 (cache_layout n)) image 0 (laid_super (cache_super_block (cache_laid_fields m version n)) (super_edges m version n))
  super_seen =
      plain_seen 12 n 0 (cache_layout n) image (copy (λ place block. cache_super_bad n block) (λ block. cache_super_edges (cache_fields block))) 0
      (cache_super_block (cache_laid_fields m version n)) (laid_super (cache_super_block (cache_laid_fields m version n)) (super_edges m version n)) (omega arith) (omega arith) super_layout refl
      (ap cache_super_edges fields_back ∙ super_edges_are m version n image few lawful room stand) refl (super_stands m version n image few lawful room stand).stands (fields_sound n (omega arith))

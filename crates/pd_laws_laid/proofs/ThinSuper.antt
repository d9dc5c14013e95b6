-- The superblock of a laid pool.
use Rattle.std.proofs.Common.{◌≡◌, ℕ, ◌+◌, ◌^◌, ◌≤◌, true, false, not, ◌||◌, nat_eq, nat_lt, List, length, refl, ◌∙◌, ap, arith, sym}
use Rattle.std.specs.List.{AllByRecursion, count_by, range_with_len}
use Rattle.std.proofs.lemmas.Bool.{or_left}
use Rattle.std.proofs.lemmas.Bool.Decides.{nat_tests}
use Rattle.std.proofs.lemmas.List.FromFn.{length-range_with_len}
use Rattle.std.proofs.lemmas.List.Sums.{count_by-le-length}
use Rattle.pd_kinds.specs.declared.rule.Rule.{Rule}
use Rattle.pd_kinds.specs.declared.kind.Kind.TheVariants.{Thin}
use Rattle.pd_kinds.specs.Graph.{has_edge_outside, block_at}
use Rattle.pd_kinds.specs.Field.{DoFit}
use Rattle.pd_kinds.specs.Layout.{copy, graph_of}
use Rattle.pd_kinds.specs.Rule.{failing}
use Rattle.pd_kinds.specs.Super.{is_super_of, is_valid_super}
use Rattle.pd_kinds.specs.ThinFormat.{thin_layout, ThinFields, are_thin_sizes_bad, thin_fields, thin_rows, thin_super_bad, thin_super_block, thin_super_edges, thin_super_tests}
use Rattle.pd_kinds.proofs.SuperLemmas.{met_by_tests, place_tested}
use Rattle.pd_kinds.specs.Image.{room_of}
use Rattle.pd_kinds.specs.Meaning.{ThinPool}
use Rattle.pd_grammar.specs.Lawful.{IsLawfulPool}
use Rattle.pd_laid.specs.LaidThin.{data_counts, meta_map_at, meta_map_blocks, pool_fields, laid_pool}
use Rattle.pd_laid.specs.Shape.{IsShape, ThinShape, shape_of}
use Rattle.pd_laid.specs.Laid.{IsLaid, laid_number}
use Rattle.pd_laid.proofs.ShapeText.{is_shape, pool_kept}
use Rattle.pd_supers.proofs.ThinWritten.{reads_back}
use Rattle.pd_laws_laid.specs.LaidOut.{AllFrom, IsInPlace, IsSeen, LeadsBelow, laid_super}
use Rattle.pd_laws_laid.proofs.Nodes.{none_outside}
use Rattle.pd_laws_laid.proofs.Formats.{leads_more}
use Rattle.pd_laws_laid.proofs.Plain.{plain_seen}
use Rattle.pd_laws_laid.proofs.Bytes.{is_super_of_rows}
use Rattle.pd_laws_laid.proofs.ThinPool.{ShapeFits, data_index_root_leads, data_overflow_root_leads, details_root_leads, mapping_root_leads, meta_map_seen, pool_blocks, super_edges, super_edges_are, super_stands, pool_in_place, shape_fits}
use Rattle.pd_laws_laid.proofs.ShapeNeed.{number_with}

-- a superblock of sound fields breaks no rule
super_sound : (blocks : ℕ) (b : List ℕ) (f : ThinFields) → thin_fields b ≡ f → is_super_of Thin b ≡ true
    → f.version ≡ 2 → f.incompat ≡ 0 → are_thin_sizes_bad blocks f ≡ false → has_edge_outside f.meta_map.blocks (thin_super_edges f) ≡ false
    → (rule : Rule) → thin_super_bad blocks b rule ≡ false
unfolding thin_super_bad thin_super_tests failing
super_sound blocks b f is valid version incompat sizes pointers rule =
    let version_is : (thin_fields b).version ≡ 2 = ap (λ (f : ThinFields). f.version) is ∙ version in
    let incompat_is : (thin_fields b).incompat ≡ 0 = ap (λ (f : ThinFields). f.incompat) is ∙ incompat in
    let sizes_are : are_thin_sizes_bad blocks (thin_fields b) ≡ false = ap (are_thin_sizes_bad blocks) is ∙ sizes in
    let pointers_are : has_edge_outside (thin_fields b).meta_map.blocks (thin_super_edges (thin_fields b)) ≡ false =
    ap (λ (f : ThinFields). has_edge_outside f.meta_map.blocks (thin_super_edges f)) is ∙ pointers in
    let place_is = place_tested Thin b valid in
    met_by_tests Thin b (thin_super_tests blocks b) rule valid (rw (sizes_are, pointers_are, version_is, incompat_is, place_is) refl)

sizes_good : (blocks n data_blocks : ℕ) → 1 ≤ n → n ≤ blocks → n ≤ 4161600 → data_blocks ≤ 2 ^ 40
    → ((nat_eq n 0 || (nat_lt blocks n || nat_lt 4161600 n)) || nat_lt (2 ^ 40) data_blocks) ≡ false
sizes_good blocks n data_blocks some few limit data_few = grind (arith, nat_tests)

-- what is known of the superblock
pub record IsSuperLaid (image : List (List ℕ)) (w : ThinShape) (n : ℕ) : Type 0 where
  pub fields_are : thin_fields (block_at image 0) ≡ pool_fields w n
  pub sound : (device_blocks : ℕ) → n ≤ device_blocks → (rule : Rule) → thin_super_bad device_blocks (block_at image 0) rule ≡ false
  pub valid : is_valid_super (block_at image 0) ≡ true

module _ (w : ThinShape) (n : ℕ) (image : List (List ℕ)) (few : n ≤ 4161600) (fits : ShapeFits w) (shape : IsShape w)
    (room : meta_map_at w + length (meta_map_blocks w n) ≤ n) (stand : AllFrom (IsInPlace image (pool_blocks w n)) 0 (pool_blocks w n)) where
  abbrev end : ℕ
  end = meta_map_at w + length (meta_map_blocks w n)

  -- its edges lead to laid blocks
  pub super_leads : AllByRecursion (LeadsBelow (pool_blocks w n) (meta_map_at w + length (meta_map_blocks w n))) (super_edges w n)
  super_leads =
      let more = leads_more (pool_blocks w n) (meta_map_at w) (meta_map_at w + length (meta_map_blocks w n)) (omega arith) in
      let meta = meta_map_seen w n image few fits shape room stand in (
        more _ (mapping_root_leads w n image few fits shape room stand),
        (
          more _ (details_root_leads w n image few fits shape room stand),
          (
            more _ (data_index_root_leads w n image few fits shape room stand),
            (
              more _ (data_overflow_root_leads w n image few fits shape room stand),
              (meta.index_leads, (meta.overflow_leads, tt)),
            ),
          ),
        ),
      )

  used_few : count_by (λ d. not (nat_eq (data_counts w d) 0)) (range_with_len 0 w.data_blocks) ≤ w.data_blocks
  used_few =
      omega (arith, count_by-le-length (λ d. not (nat_eq (data_counts w d) 0)) (range_with_len 0 w.data_blocks), length-range_with_len 0 w.data_blocks)

  fields_fit : DoFit (thin_rows (pool_fields w n))
  unfolding pool_fields
  fields_fit =
      let leads = super_leads in
      let used = used_few in
      let small = fits.data_blocks_fit in
      let a = leads.0.below in
      let b = leads.1.0.below in
      let c = leads.1.1.0.below in
      let d = leads.1.1.1.0.below in
      let e = leads.1.1.1.1.0.below in
      let f = leads.1.1.1.1.1.0.below in (
        omega arith,
        (
          omega arith,
          (
            fits.time_fits,
            (
              fits.transaction_fits,
              (
                omega arith,
                (
                  omega arith,
                  (
                    omega arith,
                    (
                      omega arith,
                      (
                        omega arith,
                        (
                          omega arith,
                          (
                            omega arith,
                            (
                              omega arith,
                              (
                                omega arith,
                                (omega arith, (omega arith, (fits.block_size_fits, (omega arith, (omega arith, (omega arith, (omega arith, (omega arith, tt)))))))),
                              ),
                            ),
                          ),
                        ),
                      ),
                    ),
                  ),
                ),
              ),
            ),
          ),
        ),
      )

  fields_back : thin_fields (thin_super_block (pool_fields w n)) ≡ pool_fields w n
  unfolding pool_fields
  fields_back = reads_back (pool_fields w n) fits.uuid_len fields_fit

  super_is : is_super_of Thin (thin_super_block (pool_fields w n)) ≡ true
  unfolding thin_super_block pool_fields
  super_is = is_super_of_rows Thin w.uuid (thin_rows (pool_fields w n)) fits.uuid_len fits.uuid_bytes

  fields_sound : (blocks : ℕ) → n ≤ blocks → (rule : Rule) → thin_super_bad blocks (thin_super_block (pool_fields w n)) rule ≡ false
  unfolding pool_fields are_thin_sizes_bad
  fields_sound blocks within rule =
      super_sound blocks (thin_super_block (pool_fields w n)) (pool_fields w n) fields_back super_is refl refl
      (sizes_good blocks n w.data_blocks (omega arith) within few fits.data_blocks_fit)
      (none_outside n (pool_blocks w n) end (super_edges w n) room super_leads) rule

  pub super_laid : IsSuperLaid image w n
  unfolding is_valid_super
  super_laid =
      let stands = (super_stands w n image few fits shape room stand).stands in
      record {
        fields_are = rw stands fields_back;
        sound = λ device_blocks within rule. rw stands (fields_sound device_blocks within rule);
        valid = rw stands (or_left (is_super_of Thin (thin_super_block (pool_fields w n))) _ super_is);
      }

  -- as the graph sees it
  super_layout : thin_layout n w.data_blocks 0 ≡ copy (λ place block. thin_super_bad n block) (λ block. thin_super_edges (thin_fields block))
  unfolding thin_layout
  super_layout = refl

  pub super_seen : IsSeen (graph_of 11 n w.data_blocks (thin_layout n w.data_blocks)) image 0 (laid_super (thin_super_block (pool_fields w n)) (super_edges w n))
  super_seen =
      plain_seen 11 n w.data_blocks (thin_layout n w.data_blocks) image (copy (λ place block. thin_super_bad n block) (λ block. thin_super_edges (thin_fields block))) 0
      (thin_super_block (pool_fields w n)) (laid_super (thin_super_block (pool_fields w n)) (super_edges w n)) (omega arith) (omega arith) super_layout refl
      (ap thin_super_edges fields_back ∙ super_edges_are w n) refl (super_stands w n image few fits shape room stand).stands (fields_sound n (omega arith))

-- What the superblock of a laid pool says of the blocks that are used.

pub used_is : (m : ThinPool) (base image : List (List ℕ)) → IsLawfulPool m → laid_number (laid_pool m (room_of (length base))) ≤ room_of (length base)
    → IsLaid (laid_pool m (room_of (length base))) base image → (thin_fields (block_at image 0)).meta_map.allocated ≡ laid_number (laid_pool m (room_of (length base)))
unfolding laid_pool pool_fields
used_is m base image lawful room is =
    let w = shape_of m in
    let n = room_of (length base) in
    let fits = shape_fits w (rw (pool_kept m) lawful) in
    let stand = pool_in_place w n base image is in
    let number = number_with w n in
    let few : n ≤ 4161600 = omega arith in
    let enough : meta_map_at w + length (meta_map_blocks w n) ≤ n = omega arith in
    ap (λ (f : ThinFields). f.meta_map.allocated) (super_laid w n image few fits (is_shape m) enough stand).fields_are ∙ sym number

-- Trusted base.
-- What can be asked of an image, and the bytes that answer, over the meaning of the image.
use Rattle.std.specs.Prelude.{ℕ, ◌-◌, Bool, ◌==◌, ◌&&◌, ◌||◌, not, nat_lt, List, [], ◌∷◌, ◌++◌, map, filter, length, drop, slice_index, count_by, codes, decimal}
use Rattle.std.specs.List.{flat_map, range_with_len, take_while}
use Rattle.pd_kinds.specs.declared.kind.Kind.{Kind}
use Rattle.pd_kinds.specs.declared.kind.Kind.TheVariants.{Thin, Cache, Era}
use Rattle.pd_kinds.specs.declared.kind.Stage.{Stage}
use Rattle.pd_kinds.specs.declared.kind.Stage.TheVariants.{Super, Whole, Counts}
use Rattle.pd_kinds.specs.Graph.{Graph, block_at, data_count}
use Rattle.pd_kinds.specs.ThinFormat.{thin_graph}
use Rattle.pd_kinds.specs.Meaning.{Mapping, ThinDevice, ThinPool, EraMeaning, thin_meaning, cache_meaning, era_meaning}
use Rattle.pd_grammar.specs.ThinText.{text_of_pool}
use Rattle.pd_grammar.specs.CacheText.{text_of_cache}
use Rattle.pd_grammar.specs.EraText.{text_of_era}
use Rattle.pd_laid.specs.PoolText.{text_of_shape}
use Rattle.pd_laid.specs.Shape.{image_shape}
use Rattle.pd_answers.specs.declared.request.Asked.{Asked}
use Rattle.pd_answers.specs.declared.request.Asked.TheVariants.{Text, SharedText, ReverseMap, DeviceList, Since, Kept, KeptCache, Unused}
use Rattle.pd_answers.specs.KeptLines.{kept_text}
use Rattle.pd_answers.specs.KeptCache.{kept_cache_text}

-- the reverse map: the line of a mapping to a data block
abbrev pub mapping_line : ℕ → ThinDevice → Mapping → List ℕ
mapping_line block device mapping =
    codes "block " ++ (decimal block ++ (codes " device " ++ (decimal device.id
    ++ (codes " virtual " ++ (decimal mapping.virtual_block ++ (10 ∷ []))))))

-- the lines of a device's mappings to a data block
abbrev pub mapping_lines : ℕ → ThinDevice → List ℕ
mapping_lines block device = flat_map (mapping_line block device) (filter (λ (m : Mapping). m.data_block == block) device.mappings)

-- the mappings to the data blocks from the first on and below the end: block after block, and then device after device
unfoldable pub rmap_lines : ℕ → ℕ → ThinPool → List ℕ
rmap_lines first end pool = flat_map (λ block. flat_map (mapping_lines block) pool.devices) (range_with_len first (end - first))

-- the data blocks of all mappings of a pool
abbrev pub mapped_blocks : ThinPool → List ℕ
mapped_blocks pool = flat_map (λ (device : ThinDevice). map (λ (m : Mapping). m.data_block) device.mappings) pool.devices

-- a mapping is exclusive where its data block is in no other mapping of any device
abbrev pub is_exclusive : ThinPool → Mapping → Bool
is_exclusive pool mapping = count_by (λ (block : ℕ). block == mapping.data_block) (mapped_blocks pool) == 1

abbrev pub exclusive_number : ThinPool → ThinDevice → ℕ
exclusive_number pool device = length (filter (is_exclusive pool) device.mappings)

-- the line of a device: how many blocks are mapped, and how many of them are exclusive and shared
abbrev pub device_of_list : ThinPool → ThinDevice → List ℕ
device_of_list pool device =
    codes "device " ++ (decimal device.id
    ++ (codes " mapped " ++ (decimal device.mapped
    ++ (codes " exclusive " ++ (decimal (exclusive_number pool device)
    ++ (codes " shared " ++ (decimal (device.mapped - exclusive_number pool device)
    ++ (codes " transaction " ++ (decimal device.transaction
    ++ (codes " created " ++ (decimal device.created
    ++ (codes " snapped " ++ (decimal device.snapped ++ (10 ∷ []))))))))))))))

-- the list of a pool's devices, by ascending id
unfoldable pub device_list_lines : ThinPool → List ℕ
device_list_lines pool = flat_map (device_of_list pool) pool.devices

-- whether the era of a block is the given one or a later one
abbrev pub is_since : ℕ → ℕ → Bool
is_since era era_of_block = not (nat_lt era_of_block era)

-- whether a longest run of such blocks begins with this block
abbrev pub begins_run : ℕ → List ℕ → ℕ → Bool
begins_run era eras block = is_since era (slice_index eras block) && ((block == 0) || not (is_since era (slice_index eras (block - 1))))

-- the line of the run that begins with a block
abbrev pub run_line : ℕ → List ℕ → ℕ → List ℕ
run_line era eras block =
    codes "written " ++ (decimal block ++ (codes " " ++ (decimal (length (take_while (is_since era) (drop block eras))) ++ (10 ∷ []))))

-- the longest runs of blocks whose era is the given one or a later one, ascending
unfoldable pub since_lines : ℕ → EraMeaning → List ℕ
since_lines era meaning = flat_map (run_line era meaning.eras) (filter (begins_run era meaning.eras) (range_with_len 0 (length meaning.eras)))

-- whether no mapping leads to a data block, of a device of the pool or of the held root's
abbrev pub is_unused : Graph → List (List ℕ) → ℕ → Bool
is_unused graph image block = data_count graph image block == 0

-- whether a longest run of such blocks begins with this block
abbrev pub begins_unused : Graph → List (List ℕ) → ℕ → Bool
begins_unused graph image block = is_unused graph image block && ((block == 0) || not (is_unused graph image (block - 1)))

-- the line of the run that begins with a block
abbrev pub unused_line : Graph → List (List ℕ) → ℕ → List ℕ
unused_line graph image block =
    codes "unused " ++ (decimal block ++ (codes " "
    ++ (decimal (length (take_while (is_unused graph image) (range_with_len block (graph.data_blocks - block)))) ++ (10 ∷ []))))

-- the longest runs of data blocks to which no mapping leads, ascending
unfoldable pub unused_lines : List (List ℕ) → List ℕ
unused_lines image =
    let graph = thin_graph (block_at image 0) in
    flat_map (unused_line graph image) (filter (begins_unused graph image) (range_with_len 0 graph.data_blocks))

-- the text of an image, which is that of its meaning
abbrev pub image_text : Kind → List (List ℕ) → List ℕ
image_text Thin image = text_of_pool (thin_meaning image)
image_text Cache image = text_of_cache (cache_meaning image)
image_text Era image = text_of_era (era_meaning image)

-- the kind of the image
abbrev pub asked_kind : Asked → Kind
asked_kind (Text kind) = kind
asked_kind SharedText = Thin
asked_kind (ReverseMap first end) = Thin
asked_kind DeviceList = Thin
asked_kind (Since era) = Era
asked_kind Kept = Thin
asked_kind (KeptCache named) = Cache
asked_kind Unused = Thin

-- the stage up to which it must be without faults: what is kept is asked of a damaged image, and what is unused of one whose counts are
-- right
abbrev pub asked_stage : Asked → Stage
asked_stage (Text kind) = Whole
asked_stage SharedText = Whole
asked_stage (ReverseMap first end) = Whole
asked_stage DeviceList = Whole
asked_stage (Since era) = Whole
asked_stage Kept = Super
asked_stage (KeptCache named) = Super
asked_stage Unused = Counts

-- what answers, where the image has no fault up to that stage
abbrev pub asked_text : Asked → List (List ℕ) → List ℕ
asked_text (Text kind) image = image_text kind image
asked_text SharedText image = text_of_shape (image_shape image)
asked_text (ReverseMap first end) image = rmap_lines first end (thin_meaning image)
asked_text DeviceList image = device_list_lines (thin_meaning image)
asked_text (Since era) image = since_lines era (era_meaning image)
asked_text Kept image = kept_text image
asked_text (KeptCache named) image = kept_cache_text named image
asked_text Unused image = unused_lines image

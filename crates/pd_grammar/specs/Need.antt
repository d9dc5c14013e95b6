-- Trusted base.
-- How many blocks a tree, an array and a metadata map take.
-- How many blocks a thin pool needs, and the verdict on its text.
use Rattle.std.specs.Prelude.{ℕ, zero, suc, ◌+◌, ◌-◌, ◌/◌, max, nat_lt, if◌then◌else◌, ◌==◌, nat_le, List, [], ◌∷◌, length, map, count_by, sum_by}
use Rattle.std.specs.List.{range_with_len, flat_map}
use Rattle.pd_kinds.specs.Node.{max_entries}
use Rattle.pd_kinds.specs.Array.{max_words}
use Rattle.pd_kinds.specs.Bitmap.{bitmaps_for}
use Rattle.pd_kinds.specs.Meaning.{ThinPool, ThinDevice, Mapping}
use Rattle.pd_grammar.specs.Spelling.{Verdict, IsVerdict}
use Rattle.pd_grammar.specs.ThinText.{Line, first_line, shared_first_line, pool_line, leaf_line, device_line, use_line, map_line, end_line, mappings_of, data_blocks_of, thin, MeansPool}

-- how many nodes so many entries take, where a node has at most so many
abbrev pub nodes_for : ℕ → ℕ → ℕ
nodes_for most count = (count + (most - 1)) / most

-- how many inner nodes stand above a level of so many nodes, in at most so many levels: none above one node, else
-- one for each 252 of them, and those above these
unfoldable pub need_above : ℕ → ℕ → ℕ
need_above zero nodes = 0
need_above (suc levels) nodes = if nat_lt 1 nodes then nodes_for 252 nodes + need_above levels (nodes_for 252 nodes) else 0

-- how many nodes a tree of so many entries has, where a leaf has at most so many: its leaves, one at least, and the
-- levels above. Ten levels are more than 2 ^ 64 entries need
unfoldable pub nodes_of_tree : ℕ → ℕ → ℕ
nodes_of_tree most count =
    let leaves = max 1 (nodes_for most count) in
    leaves + need_above 10 leaves

-- how many nodes a tree of so many entries of this size has
abbrev pub need_tree : ℕ → ℕ → ℕ
need_tree size count = nodes_of_tree (max_entries size) count

-- how many blocks an array of so many words of this size has: those of the words, and its tree
unfoldable pub need_array : ℕ → ℕ → ℕ
need_array size len =
    let blocks = nodes_for (max_words size) len in
    blocks + need_tree 8 blocks

-- how many blocks the map of so many metadata blocks has: the index block, the bitmaps, and an empty overflow tree
abbrev pub need_meta_map : ℕ → ℕ
need_meta_map room = 1 + bitmaps_for room + need_tree 4 0

-- how many data blocks below this number stand three times or more in a list: their counts don't fit two bits
unfoldable pub overflows_in : List ℕ → ℕ → ℕ
overflows_in blocks data_blocks =
    count_by (λ d. nat_le 3 (count_by (λ b. b == d) blocks)) (range_with_len 0 data_blocks)

-- The need of a pool by the mapped numbers of its devices, its data blocks and how many of them have three references
-- or more, in so many metadata blocks: the superblock; a tree for each device; the mapping tree and the details tree;
-- the data bitmaps, their index tree, and the data overflow tree; the metadata map
unfoldable pub need_of_devices : List ℕ → ℕ → ℕ → ℕ → ℕ
need_of_devices mapped data_blocks overflows room =
    1 + (sum_by (need_tree 8) mapped + (need_tree 8 (length mapped) + (need_tree 24 (length mapped)
    + (bitmaps_for data_blocks + (need_tree 16 (bitmaps_for data_blocks) + (need_tree 4 overflows + need_meta_map room))))))

-- the data blocks of a pool's mappings
abbrev pub mapped_data : ThinPool → List ℕ
mapped_data m = flat_map (λ (d : ThinDevice). map (λ (x : Mapping). x.data_block) d.mappings) m.devices

-- the need of a pool
unfoldable pub thin_need : ThinPool → ℕ → ℕ
thin_need m room =
    need_of_devices (map (λ (d : ThinDevice). d.mapped) m.devices) m.data_blocks (overflows_in (mapped_data m) m.data_blocks) room

-- the mapped number that a line gives, and the data blocks that it maps
abbrev pub mapped_of_line : Line → List ℕ
mapped_of_line first_line = []
mapped_of_line shared_first_line = []
mapped_of_line (pool_line p) = []
mapped_of_line (leaf_line l) = []
mapped_of_line (device_line d) = d.mapped ∷ []
mapped_of_line (use_line n) = []
mapped_of_line (map_line r) = []
mapped_of_line end_line = []

abbrev pub data_of_line : Line → List ℕ
data_of_line first_line = []
data_of_line shared_first_line = []
data_of_line (pool_line p) = []
data_of_line (leaf_line l) = []
data_of_line (device_line d) = []
data_of_line (use_line n) = []
data_of_line (map_line r) = map (λ (x : Mapping). x.data_block) (mappings_of r)
data_of_line end_line = []

-- the need after these lines
unfoldable pub thin_need_so_far : ℕ → List Line → ℕ
thin_need_so_far room lines =
    need_of_devices (flat_map mapped_of_line lines) (data_blocks_of lines) (overflows_in (flat_map data_of_line lines) (data_blocks_of lines)) room

-- the verdict on a thin text where so many metadata blocks are there
abbrev pub IsThinVerdict : List ℕ → ℕ → Verdict ThinPool → Type 0
IsThinVerdict text room verdict = IsVerdict thin MeansPool (thin_need_so_far room) text room verdict

-- What a salvage keeps below a block, and what is measured of it.
use Rattle.std.specs.Prelude.{ℕ, ◌+◌, ◌-◌, ◌^◌, max, min, nat_lt, Bool, if◌then◌else◌, List, [], ◌∷◌, length, map, filter, sum_by}
use Rattle.std.specs.List.{range_with_len}
use Rattle.pd_kinds.specs.Node.{Entry}
use Rattle.pd_kinds.specs.ThinFormat.{mapped_block, mapped_time}
use Rattle.pd_laid.specs.Salvage.{salvaged_entries}
use Rattle.pd_value.specs.declared.thin.BlockTime.{BlockTime}
use Rattle.pd_meaning_thin.specs.Runs.{block_time_of}
use Rattle.pd_tree.specs.Cursor.{item_of}
use Rattle.pd_measures.specs.Counts.{latest}
use Rattle.pd_measures.specs.Measured.{capped, capped_sum, entry_of}
use Rattle.pd_damaged.specs.declared.kept.Kept.{Kept}

-- a salvage keeps an entry whose data block is in the pool
abbrev pub is_kept : ℕ → Entry → Bool
is_kept data_blocks e = nat_lt (mapped_block e.value) data_blocks

-- the entries that it keeps below the root of a device's mappings
unfoldable pub kept_below : ℕ → ℕ → List (List ℕ) → ℕ → List Entry
kept_below nr data_blocks image root = filter (is_kept data_blocks) (salvaged_entries 8 nr image root)

-- the least key of entries, and the end of all keys of none
abbrev pub least_key : List Entry → ℕ
least_key [] = 2 ^ 64 - 1
least_key (e ∷ es) = min e.key (least_key es)

-- what is measured of entries
unfoldable pub measure_of : List Entry → Kept
measure_of es = record {
  number = capped (length es);
  time = latest (map (λ (e : Entry). mapped_time e.value) es);
  times = capped_sum (sum_by (λ (e : Entry). mapped_time e.value) es);
  least = least_key es;
  greatest = latest (map (λ (e : Entry). e.key) es);
}

-- of none, and of one
abbrev pub no_kept : Kept
no_kept = record { number = 0; time = 0; times = 0; least = 2 ^ 64 - 1; greatest = 0 }

abbrev pub one_kept : ℕ → ℕ → Kept
one_kept key time = record { number = 1; time = time; times = time; least = key; greatest = key }

-- of entries and of others behind them
abbrev pub join : Kept → Kept → Kept
join a b = record {
  number = capped (a.number + b.number);
  time = max a.time b.time;
  times = capped_sum (a.times + b.times);
  least = min a.least b.least;
  greatest = max a.greatest b.greatest;
}

-- of entries and of one more, where it is kept
abbrev pub counted : ℕ → Kept → ℕ × BlockTime → Kept
counted data_blocks sum item = if nat_lt item.1.block data_blocks then join sum (one_kept item.0 item.1.time) else sum

-- the first entries of a leaf, as a cursor gives them
abbrev pub leaf_items : List ℕ → ℕ → List (ℕ × BlockTime)
leaf_items block n = map (item_of block_time_of) (map (entry_of 8 block) (range_with_len 0 n))

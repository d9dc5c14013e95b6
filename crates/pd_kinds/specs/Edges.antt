-- The edges of a superblock, kept with the last one first.
use Rattle.std.specs.Prelude.{ℕ, zero, suc, List, [], ◌∷◌, slice_index_or}
use Rattle.pd_kinds.specs.Graph.{Edge, edge_of}

-- the edge at this place, and the first so many, the latest first
abbrev pub edge_in : List (ℕ × ℕ) → ℕ → Edge
edge_in items k = edge_of (slice_index_or items k (0, 0)).0 (slice_index_or items k (0, 0)).1

abbrev pub edges_down : List (ℕ × ℕ) → ℕ → List Edge
edges_down items zero = []
edges_down items (suc k) = edge_in items k ∷ edges_down items k

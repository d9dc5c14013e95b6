-- A pool of one data block, whose two devices share one leaf: its shape, and its text.
use Rattle.std.specs.Prelude.{ℕ, List, [], ◌∷◌, ◌++◌, replicate, codes}
use Rattle.std.specs.List.{flat_map}
use Rattle.pd_laid.specs.Shape.{shared, ShapeDevice, ThinShape}

-- a device of one mapping, which is that of the shared leaf
abbrev pub user : ℕ → ShapeDevice
user id = record { id = id; mapped = 1; transaction = 0; created = 0; snapped = 0; pieces = shared 0 ∷ [] }

abbrev pub two_users : ThinShape
two_users = record {
  uuid = replicate 16 0;
  time = 0;
  transaction = 0;
  block_size = 128;
  data_blocks = 1;
  leaves = (record { virtual_block = 0; data_block = 0; time = 0 } ∷ []) ∷ [];
  devices = user 1 ∷ user 2 ∷ [];
}

-- the lines of its text up to the devices
abbrev pub lines_of_leaf : List (List ℕ)
lines_of_leaf =
    codes "thin 2"
    ∷ codes "pool 00000000-0000-0000-0000-000000000000 0 0 128 1"
    ∷ codes "leaf 0 1"
    ∷ codes "map 0 0 1 0"
    ∷ []

-- all its lines
abbrev pub lines_of_two_users : List (List ℕ)
lines_of_two_users =
    lines_of_leaf
    ++ (codes "device 1 1 0 0 0" ∷ codes "use 0" ∷ codes "device 2 1 0 0 0" ∷ codes "use 0" ∷ codes "end" ∷ [])

-- the same without any device, and with the use of a leaf that there isn't
abbrev pub lines_without_use : List (List ℕ)
lines_without_use = lines_of_leaf ++ (codes "end" ∷ [])

abbrev pub lines_with_another_use : List (List ℕ)
lines_with_another_use = lines_of_leaf ++ (codes "device 1 1 0 0 0" ∷ codes "use 1" ∷ codes "end" ∷ [])

-- lines, each ended by a line feed
abbrev pub with_line_feeds : List (List ℕ) → List ℕ
with_line_feeds lines = flat_map (λ line. line ++ (10 ∷ [])) lines

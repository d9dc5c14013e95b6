-- The forms of a table, from an index on.
use Rattle.std.proofs.Common.{◌≡◌, ℕ, ◌+◌, ◌<◌, ◌≤◌, true, false, List, length, get_or, map, drop, Option, Some, None, refl}
use Rattle.std.proofs.lemmas.List.{drop_all, drop_more}
use Rattle.pd_answers.specs.Words.{Item, takes, tool_in}
use Rattle.pd_words.specs.Table.{ToolForm, row_as}

-- the form here is taken, or the later ones decide
module _ (rows : List ToolForm) (name : List ℕ) (items : Option (List Item)) (i : ℕ) (d : ToolForm) (less : i < length rows) where
  pub found_here : takes name items (row_as (get_or rows i d)) ≡ true → Some (row_as (get_or rows i d)) ≡ tool_in (map row_as (drop i rows)) name items
  unfolding tool_in
  found_here e = rw (drop_more rows i d less, e) refl

  pub found_later : takes name items (row_as (get_or rows i d)) ≡ false → tool_in (map row_as (drop i rows)) name items ≡ tool_in (map row_as (drop (i + 1) rows)) name items
  unfolding tool_in
  found_later e = rw (drop_more rows i d less, e) refl

pub found_nowhere : (rows : List ToolForm) (name : List ℕ) (items : Option (List Item)) (i : ℕ) → length rows ≤ i → None ≡ tool_in (map row_as (drop i rows)) name items
unfolding tool_in
found_nowhere rows name items i end = rw (drop_all i rows end) refl

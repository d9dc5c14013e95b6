-- The words of an era array that are left.
use Rattle.std.specs.Prelude.{ℕ, List, ◌++◌}
use Rattle.pd_tree.specs.Cursor.{cursor_items, root_of, words_from, words_of_items}
use Rattle.pd_meaning_era.specs.declared.era_words.EraWords.{EraWords}

abbrev pub era_words : List (List ℕ) → EraWords → List ℕ
era_words image words = words_from 4 words.block.0 words.next ++ words_of_items 4 image (cursor_items 8 root_of image words.entries)

use Rattle.pd_kinds.specs.Trees.{entries_below}
use Rattle.pd_tree.specs.Cursor.{root_of}
use Rattle.pd_tree.proofs.TreeLemmas.{words_entries}
use Rattle.pd_tree.proofs.OnceLemmas.{entries_are}
use Rattle.pd_tree.proofs.laws.array_cursors_give_words.Goals as goal

pub returns : goal.returns
returns c = λ graph image b role size is sound. rw (entries_are graph image b role 8 is sound root_of) (words_entries size image (entries_below graph image 8 role b))

use Rattle.std.proofs.Common.{◌∙◌, sym, map, string_bytes}
use Rattle.std.proofs.lemmas.List.{length-map}
use Rattle.pd_words.specs.Table.{word_as}
use Rattle.pd_words.proofs.ItemLemmas.{known_end}
use Rattle.pd_words.proofs.items.are_items_of.Goals as goal

pub returns : goal.returns
returns c =
    known_end (map word_as c.args.table.now) (map string_bytes c.args.words.now) c.loop-at.at (rw (length-map c.args.words.now string_bytes) c.loop-at-test.false)
    ∙ sym c.loop-at.invariant

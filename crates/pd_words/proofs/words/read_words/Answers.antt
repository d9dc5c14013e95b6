use Rattle.std.proofs.Common.{map, drop, string_bytes, refl, sym, ◌∙◌}
use Rattle.pd_answers.specs.Words.{items_of, tool_of}
use Rattle.pd_words.specs.Table.{row_as, word_as}
use Rattle.pd_words.specs.Words.{read_as}
use Rattle.pd_words.proofs.ItemLemmas.{asked_nothing, asked_first, known_are_items, all_known, not_known}
use Rattle.pd_words.proofs.words.read_words.Goals as goal

pub returns-then-is_empty-clause-asked : goal.returns-then-is_empty-clause-asked
returns-then-is_empty-clause-asked c = asked_nothing string_bytes c.args.words.now (sym c.is_empty.ensures ∙ c.if-is_empty.true)

pub returns-in-None-clause-asked : goal.returns-in-None-clause-asked
returns-in-None-clause-asked c =
    let first = asked_first string_bytes c.args.words.now c.index-words-0.result c.as_str.result.now (sym c.is_empty.ensures ∙ c.if-is_empty.false) c.index-words-0.is c.as_str.ensures.value in
    rw (first, ← c.in-None.ensures) refl

pub read_request-requires : goal.read_request-requires
read_request-requires c =
    known_are_items (map word_as c.in-Some.row.words.now) (map string_bytes c.args.words.now) (sym c.are_items_of.ensures ∙ c.if-are_items_of.true)

pub returns-then-are_items_of-clause-asked : goal.returns-then-are_items_of-clause-asked
returns-then-are_items_of-clause-asked c =
    let first = asked_first string_bytes c.args.words.now c.index-words-0.result c.as_str.result.now (sym c.is_empty.ensures ∙ c.if-is_empty.false) c.index-words-0.is c.as_str.ensures.value in
    all_known (tool_of c.as_str.result.now (items_of (drop 1 (map string_bytes c.args.words.now)))) (row_as c.in-Some.row) (map string_bytes c.args.words.now) (read_as c.read_request.result) (sym c.in-Some.ensures) (sym c.are_items_of.ensures ∙ c.if-are_items_of.true) c.read_request.ensures.asked
    ∙ sym first

pub returns-else-are_items_of-clause-asked : goal.returns-else-are_items_of-clause-asked
returns-else-are_items_of-clause-asked c =
    let first = asked_first string_bytes c.args.words.now c.index-words-0.result c.as_str.result.now (sym c.is_empty.ensures ∙ c.if-is_empty.false) c.index-words-0.is c.as_str.ensures.value in
    not_known (tool_of c.as_str.result.now (items_of (drop 1 (map string_bytes c.args.words.now)))) (row_as c.in-Some.row) (items_of (drop 1 (map string_bytes c.args.words.now))) (sym c.in-Some.ensures) (sym c.are_items_of.ensures ∙ c.if-are_items_of.false)
    ∙ sym first

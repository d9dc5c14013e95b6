use Rattle.std.proofs.Common.{◌<◌, ◌+◌, true, false, length, map, string_bytes, sym, ◌∙◌}
use Rattle.std.proofs.lemmas.List.{length-map}
use Rattle.pd_words.proofs.ItemLemmas.{word_is, operand_at, flag_at, last_at, option_at}
use Rattle.pd_words.proofs.items.item_at.Goals as goal

pub returns-then-is_operand-clause-items : goal.returns-then-is_operand-clause-items
returns-then-is_operand-clause-items c =
    let words = map string_bytes c.args.words.now in
    let less : c.args.at < length words = rw (length-map c.args.words.now string_bytes) c.requires in
    let is = word_is string_bytes c.args.words.now c.args.at c.index-words-at.result c.requires c.index-words-at.is ∙ sym c.as_str-word.ensures.value in
    operand_at words c.args.at less c.as_str-word.result.now is (sym c.is_operand.ensures ∙ c.if-is_operand.true)

pub returns-then-is_flag-clause-items : goal.returns-then-is_flag-clause-items
returns-then-is_flag-clause-items c =
    let words = map string_bytes c.args.words.now in
    let less : c.args.at < length words = rw (length-map c.args.words.now string_bytes) c.requires in
    let is = word_is string_bytes c.args.words.now c.args.at c.index-words-at.result c.requires c.index-words-at.is ∙ sym c.as_str-word.ensures.value in
    flag_at words c.args.at less c.as_str-word.result.now is (sym c.is_operand.ensures ∙ c.if-is_operand.false) (sym c.is_flag.ensures ∙ c.if-is_flag.true)

pub returns-then-at-words-clause-items : goal.returns-then-at-words-clause-items
returns-then-at-words-clause-items c =
    let words = map string_bytes c.args.words.now in
    let less : c.args.at < length words = rw (length-map c.args.words.now string_bytes) c.requires in
    let is = word_is string_bytes c.args.words.now c.args.at c.index-words-at.result c.requires c.index-words-at.is ∙ sym c.as_str-word.ensures.value in
    last_at words c.args.at less c.as_str-word.result.now is (sym c.is_operand.ensures ∙ c.if-is_operand.false) (sym c.is_flag.ensures ∙ c.if-is_flag.false)
    (rw (length-map c.args.words.now string_bytes) c.if-at-words.true)

pub returns-then-not-is_operand-clause-items : goal.returns-then-not-is_operand-clause-items
returns-then-not-is_operand-clause-items c =
    let words = map string_bytes c.args.words.now in
    let less : c.args.at < length words = rw (length-map c.args.words.now string_bytes) c.requires in
    let is = word_is string_bytes c.args.words.now c.args.at c.index-words-at.result c.requires c.index-words-at.is ∙ sym c.as_str-word.ensures.value in
    let next = word_is string_bytes c.args.words.now (c.args.at + 1) c.index-words-at-2.result c.if-at-words.false c.index-words-at-2.is ∙ sym c.as_str-value.ensures.value in
    option_at words c.args.at less c.as_str-word.result.now is (sym c.is_operand.ensures ∙ c.if-is_operand.false) (sym c.is_flag.ensures ∙ c.if-is_flag.false)
    (rw (length-map c.args.words.now string_bytes) c.if-at-words.false) c.as_str-value.result.now next false (sym c.is_operand-2.ensures ∙ c.if-not-is_operand.true)

pub returns-clause-items : goal.returns-clause-items
returns-clause-items c =
    let words = map string_bytes c.args.words.now in
    let less : c.args.at < length words = rw (length-map c.args.words.now string_bytes) c.requires in
    let is = word_is string_bytes c.args.words.now c.args.at c.index-words-at.result c.requires c.index-words-at.is ∙ sym c.as_str-word.ensures.value in
    let next = word_is string_bytes c.args.words.now (c.args.at + 1) c.index-words-at-2.result c.if-at-words.false c.index-words-at-2.is ∙ sym c.as_str-value.ensures.value in
    option_at words c.args.at less c.as_str-word.result.now is (sym c.is_operand.ensures ∙ c.if-is_operand.false) (sym c.is_flag.ensures ∙ c.if-is_flag.false)
    (rw (length-map c.args.words.now string_bytes) c.if-at-words.false) c.as_str-value.result.now next true (sym c.is_operand-2.ensures ∙ c.if-not-is_operand.false)

use Rattle.std.proofs.Common.{take, drop, length, slice_index, ◌≡◌}
use Rattle.pd_grammar.specs.Tables.{values_in}
use Rattle.pd_grammar.proofs.TableLemmas.{values_at}
use Rattle.pd_texts.specs.Words.{words_in, name_at}
use Rattle.pd_texts.proofs.ValueLemmas.{continued}
use Rattle.pd_texts.proofs.words.read_values.Given as goal

abbrev pub invariant-loop-i : goal.invariant-loop-i
invariant-loop-i l =
    (continued (values_at (take l.i l.fields) (name_at l.names) (slice_index l.numbers)) l.all (values_in (drop l.i l.fields) (words_in l.rest)) ≡ values_in l.fields (words_in l.fn.words))
    × ((length l.names ≡ length l.fn.names) × (length l.numbers ≡ length l.fn.numbers))

use Rattle.std.proofs.Common.{◌≡◌, ◌+◌, ◌-◌, ◌∙◌, ℕ, List, length, refl, sym, ap, arith}
use Rattle.pd_kinds.specs.Array.{word_count}
use Rattle.pd_kinds.specs.Graph.{block_at}
use Rattle.pd_tree.specs.Cursor.{words_from}
use Rattle.pd_meaning_era.specs.declared.notes.Walk.{Walk}
use Rattle.pd_meaning_era.proofs.RaiseLemmas.{few_words, length-words}
use Rattle.pd_meaning_era.proofs.KnownLemmas.{goes_noted, goes_row}
use Rattle.pd_meaning_era.proofs.descent.add_array.Goals as goal

pub overflow_cast-next : goal.overflow_cast-next
overflow_cast-next c = let few = few_words c.args.block.now.0 in omega arith

pub overflow_add-next : goal.overflow_add-next
overflow_add-next c = let few = few_words c.args.block.now.0 in omega arith

pub returns-clause-goes : goal.returns-clause-goes
returns-clause-goes c = λ image is knows.
    let walk = c.args.walk.now in
    let block = c.args.block.now.0 in
    let mid : Walk = record walk { rows = c.push.new.self } in
    let number = length-words 8 block 0 in
    let words : c.array_len.result ≡ length (words_from 8 (block_at image c.args.b) 0) =
    let same : word_count 8 block ≡ word_count 8 block - 0 = omega arith in
    c.array_len.ensures ∙ (same ∙ (sym number ∙ ap (λ (bytes : List ℕ). length (words_from 8 bytes 0)) (sym is))) in
    let next = c.args.at + c.array_len.result in
    goes_noted image 0 c.args.b c.args.at next c.args.end walk mid c.note.new.self
    (goes_row image c.args.b c.args.at c.args.end next _ walk mid refl refl refl c.in_ok-push.ensures.items (ap (λ (n : ℕ). c.args.at + n) words) knows)
    c.note.ensures.era c.note.ensures.rows c.note.ensures.noted

use Rattle.std.proofs.Common.{◌+◌, ◌≤◌, ℕ, length, length-append, ap, map, arith}
use Rattle.std.specs.List.{range_with_len}
use Rattle.std.proofs.lemmas.List.FromFn.{length-map-range_with_len}
use Rattle.pd_array.specs.declared.array.Word.TheVariants.{Four}
use Rattle.pd_kinds.specs.Array.{word_at, word_count}
use Rattle.pd_tree.specs.Cursor.{cursor_items, root_of, words_of_items}
use Rattle.pd_tree.proofs.NextLemmas.{few_words}
use Rattle.pd_meaning_era.proofs.RaiseLemmas.{length-words}
use Rattle.pd_meaning_era.proofs.WordLemmas.{words_moved}
use Rattle.pd_meaning_era.proofs.era_words.EraWords.take.Goals as goal

pub add_words-requires : goal.add_words-requires
add_words-requires c = let long = length-words 4 c.args.self.now.block.0 c.args.self.now.next in omega (arith, long, c.requires.here, c.requires.some)

pub overflow_add-self : goal.overflow_add-self
overflow_add-self c =
    let long = length-words 4 c.args.self.now.block.0 c.args.self.now.next in
    let few = few_words Four c.args.self.now.block.0 in
    omega (arith, long, few, c.requires.here, c.requires.some)

pub returns-clause-moved : goal.returns-clause-moved
returns-clause-moved c = λ image.
    let now = c.args.self.now in
    let long = length-words 4 now.block.0 now.next in
    let within : now.next + c.args.number ≤ word_count 4 now.block.0 = omega (arith, long, c.requires.here, c.requires.some) in
    words_moved now.block.0 c.args.part.now.items c.add_words.new.part.items (words_of_items 4 image (cursor_items 8 root_of image now.entries)) now.next c.args.number within c.in_ok-add_words.ensures.words

pub returns-clause-number : goal.returns-clause-number
returns-clause-number c =
    let now = c.args.self.now in
    let taken = map (word_at 4 now.block.0) (range_with_len now.next c.args.number) in
    omega (arith, ap (length {A = ℕ}) c.in_ok-add_words.ensures.words, length-append c.args.part.now.items taken, length-map-range_with_len (word_at 4 now.block.0) now.next c.args.number)

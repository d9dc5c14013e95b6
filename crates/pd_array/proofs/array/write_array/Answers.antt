use Rattle.std.proofs.Common.{◌≡◌, ◌<◌, ◌≤◌, ◌^◌, ◌∙◌, false, length, refl, sym, arith}
use Rattle.std.proofs.lemmas.List.{take_all}
use Rattle.pd_kinds.specs.Array.{array_block, array_entries, array_place, is_array_shape_bad, max_words}
use Rattle.pd_kinds.specs.Node.{puts}
use Rattle.pd_kinds.proofs.FieldLemmas.{puts_step}
use Rattle.pd_array.specs.Word.{size_of}
use Rattle.pd_array.proofs.ArrayWritten.{max_read, entries_read, size_read, place_read, word_read, shape_met, count_met, rules_met, has_room}
use Rattle.pd_array.proofs.array.write_array.Goals as goal

pub loop-i-init : goal.loop-i-init
unfolding puts
loop-i-init c = refl

pub loop-i-preserved : goal.loop-i-preserved
loop-i-preserved c =
    rw (c.set_array_word.ensures, c.loop-i.invariant)
    (sym (puts_step c.header_of-block.result.0 24 (size_of c.args.word) c.args.words.now c.loop-i.i c.loop-i-test.true))

pub returns-clause-block : goal.returns-clause-block
unfolding array_block
returns-clause-block c = rw (c.seal.ensures.sealed, c.loop-i.invariant, c.header_of-block.ensures, take_all c.loop-i.i c.args.words.now c.loop-i-test.false) refl

few : (c : goal.After-seal) → length c.args.words.now < 256 ^ 4
few c = omega (arith, (has_room c.args.word).max)

-- the number of words that the header says
entries : (c : goal.After-seal) → array_entries c.seal.new.block.0 ≡ length c.args.words.now
entries c = rw (returns-clause-block c) (entries_read (size_of c.args.word) c.args.place c.args.words.now (few c))

shape : (c : goal.After-seal) → is_array_shape_bad (size_of c.args.word) c.seal.new.block.0 ≡ false
shape c =
    let room = has_room c.args.word in
    let size = size_of c.args.word in
    let max_fits : max_words size < 256 ^ 4 = omega arith in
    let size_fits : size < 256 ^ 4 = omega arith in
    let count = entries c in
    let most : array_entries c.seal.new.block.0 ≤ max_words size = omega arith in
    shape_met size c.seal.new.block.0
    (rw (returns-clause-block c) (size_read size c.args.place c.args.words.now size_fits))
    (rw (returns-clause-block c) (max_read size c.args.place c.args.words.now max_fits))
    most

pub returns-clause-rules : goal.returns-clause-rules
returns-clause-rules c =
    let at : array_place c.seal.new.block.0 ≡ c.args.place =
    rw (returns-clause-block c) (place_read (size_of c.args.word) c.args.place c.args.words.now (omega arith)) in
    λ rule. rules_met (size_of c.args.word) c.args.place c.seal.new.block.0 rule c.seal.ensures.valid (shape c) at

pub returns-clause-count : goal.returns-clause-count
returns-clause-count c = count_met (size_of c.args.word) c.seal.new.block.0 (shape c) ∙ entries c

pub returns-clause-words : goal.returns-clause-words
returns-clause-words c =
    let room = (has_room c.args.word).words (length c.args.words.now) c.requires.room in
    λ i within. rw (returns-clause-block c) (word_read (size_of c.args.word) c.args.place c.args.words.now i room within (c.requires.fit i within))

use Rattle.std.proofs.Common.{◌≡◌, ℕ, ◌*◌, length, refl, sym, ◌∙◌, ap, subst, arith}
use Rattle.pd_grammar.specs.Need.{need_array}
use Rattle.pd_build.proofs.ArrayLemmas.{filling_start, filling_next, filling_end}
use Rattle.pd_build.proofs.TreeLemmas.{on_ok}
use Rattle.pd_restore_kinds.specs.CacheRoots.{StandsAt}
use Rattle.pd_restore_kinds.specs.CacheRoots.{bytes_of, span, words_of}
use Rattle.pd_restore_kinds.proofs.RowLemmas.{stands_first}
use Rattle.pd_restore_kinds.proofs.WordLemmas.{length-words, word_here, words_done, words_root}
use Rattle.pd_restore_kinds.proofs.cache_parts.write_words.Goals as goal

pub loop-i-init : goal.loop-i-init
loop-i-init g c =
    let all = words_of c.args.words c.args.rows.now c.args.count in
    let count : length all ≡ c.args.count = length-words c.args.words c.args.rows.now c.args.count in
    let none : 0 ≡ span c.args.words * 0 = omega arith in
    let n = c.in_ok-builder.ensures in
    let is = c.size.ensures in
    let place = c.args.draft.now.next in
    record {
      same_reference = refl;
      stands = subst (λ (block : ℕ). StandsAt c.args.rows.now 0 block) none (stands_first c.args.rows.now c.requires.rows);
      filling = filling_start all c.in_ok-builder.builder c.requires.closed (n.size ∙ is) (rw is at (n.blocks place all count)) (rw is at (n.root place all count))
          (n.left ∙ sym count) (rw is at n.number ∙ ap (need_array (bytes_of c.args.words)) (sym count)) n.made;
    }

pub push-requires-clause-more : goal.push-requires-clause-more
push-requires-clause-more g c =
    let f = word_here c.args.words c.args.rows.now c.args.count c.loop-i.i c.loop-i.invariant.filling c.loop-i-test.true in omega (arith, f.number)

pub push-requires-clause-room : goal.push-requires-clause-room
push-requires-clause-room g c =
    let f = c.loop-i.invariant.filling in
    let same = ap (need_array (bytes_of c.args.words)) (length-words c.args.words c.args.rows.now c.args.count) in
    let size = f.sized in
    rw size (omega (arith, c.requires.room, f.room, f.wrote.stays.kept.blocks, same))

pub loop-i-preserved : goal.loop-i-preserved
loop-i-preserved g c =
    let f = word_here c.args.words c.args.rows.now c.args.count c.loop-i.i c.loop-i.invariant.filling c.loop-i-test.true in
    let size = f.sized in
    let word = c.word-word.ensures.word in
    record {
      same_reference = c.push.ensures.same_reference ∙ c.loop-i.invariant.same_reference;
      stands = c.word-word.ensures.next;
      filling = filling_next f c.push.ensures.size (rw (size, word) at c.in_ok-push.ensures.pushes);
    }

pub finish-requires-clause-done : goal.finish-requires-clause-done
finish-requires-clause-done g c = (words_done c.args.words c.args.rows.now c.args.count c.loop-i.i c.loop-i.invariant.filling c.loop-i-test.false).number

pub finish-requires-clause-room : goal.finish-requires-clause-room
finish-requires-clause-room g c =
    let f = c.loop-i.invariant.filling in
    let same = ap (need_array (bytes_of c.args.words)) (length-words c.args.words c.args.rows.now c.args.count) in
    let size = f.sized in
    rw size (omega (arith, c.requires.room, f.room, f.wrote.stays.kept.blocks, same))

pub returns-clause-wrote : goal.returns-clause-wrote
returns-clause-wrote g c =
    let f = words_done c.args.words c.args.rows.now c.args.count c.loop-i.i c.loop-i.invariant.filling c.loop-i-test.false in
    let size = f.sized in
    on_ok c.finish.result (λ wrote. filling_end f (rw size at wrote)) c.finish.ensures.wrote

pub returns-clause-root : goal.returns-clause-root
returns-clause-root g c =
    let f = words_done c.args.words c.args.rows.now c.args.count c.loop-i.i c.loop-i.invariant.filling c.loop-i-test.false in
    let size = f.sized in
    words_root c.finish.result f (rw size at c.finish.ensures.root)

use Rattle.std.proofs.Common.{◌≡◌, ◌-◌, length, refl, sym, ◌∙◌, ap, arith}
use Rattle.std.specs.List.{range_with_len}
use Rattle.std.proofs.lemmas.List.FromFn.{length-range_with_len}
use Rattle.pd_grammar.specs.Need.{need_array}
use Rattle.pd_build.proofs.ArrayLemmas.{filling_start, filling_next}
use Rattle.pd_tests_parts.proofs.FillingNumbers.{filling_here, filling_done}
use Rattle.pd_tests_parts.proofs.build_tests.push_numbers.Goals as goal

pub loop-i-init : goal.loop-i-init
loop-i-init g c =
    let all = range_with_len 0 c.args.count in
    let count : length all ≡ c.args.count = length-range_with_len 0 c.args.count in
    let whole : c.args.count - 0 ≡ c.args.count = omega arith in
    let n = c.in-Ok.ensures in
    record {
      same_reference = refl;
      filling = rw whole
          (filling_start all c.in-Ok.builder c.requires.closed n.size (n.blocks c.args.draft.now.next all count) (n.root c.args.draft.now.next all count)
          (n.left ∙ sym count) (n.number ∙ ap (need_array 8) (sym count)) n.made);
    }

pub push-requires-clause-more : goal.push-requires-clause-more
push-requires-clause-more g c =
    let f = filling_here c.args.count c.loop-i.i c.loop-i.invariant.filling c.loop-i-test.true in
    omega (arith, f.number)

pub push-requires-clause-room : goal.push-requires-clause-room
push-requires-clause-room g c =
    let f = c.loop-i.invariant.filling in
    let same = ap (need_array 8) (length-range_with_len 0 c.args.count) in
    let size = f.sized in
    rw size (omega (arith, c.requires.room, f.room, f.wrote.stays.kept.blocks, same))

pub loop-i-preserved : goal.loop-i-preserved
loop-i-preserved g c =
    let f = filling_here c.args.count c.loop-i.i c.loop-i.invariant.filling c.loop-i-test.true in
    let size = f.sized in
    record {
      same_reference = c.push.ensures.same_reference ∙ c.loop-i.invariant.same_reference;
      filling = filling_next f c.push.ensures.size (rw size at c.in_ok-push.ensures.pushes);
    }

pub finish-requires-clause-done : goal.finish-requires-clause-done
finish-requires-clause-done g c = (filling_done c.args.count c.loop-i.i c.loop-i.invariant.filling c.loop-i-test.false).number

pub finish-requires-clause-room : goal.finish-requires-clause-room
finish-requires-clause-room g c =
    let f = c.loop-i.invariant.filling in
    let same = ap (need_array 8) (length-range_with_len 0 c.args.count) in
    let size = f.sized in
    rw size (omega (arith, c.requires.room, f.room, f.wrote.stays.kept.blocks, same))

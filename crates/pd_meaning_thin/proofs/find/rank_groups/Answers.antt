use Rattle.std.proofs.Common.{◌≡◌, ◌+◌, ◌*◌, ◌∷◌, [], length-append, arith}
use Rattle.pd_meaning_thin.specs.Marks.{shared_before}
use Rattle.pd_meaning_thin.proofs.FoundLemmas.{counted_on, rank_added}
use Rattle.pd_meaning_thin.proofs.find.rank_groups.Goals as goal

pub loop-group-preserved : goal.loop-group-preserved
loop-group-preserved c =
    let so_far = c.loop-group.invariant in
    let shared = c.loop-group.shared + c.from-shared.result in
    let on = counted_on c.args.marks.now (64 * c.loop-group.group) (64 * (c.loop-group.group + 1)) (omega arith) in
    let total : shared ≡ shared_before c.args.marks.now (64 * (c.loop-group.group + 1)) = omega (arith, c.from-shared.ensures, c.count_shared.ensures) in
    let more = c.in_ok-push-2.ensures.items in
    record {
      number = rw more (omega (arith, length-append c.loop-group.ranks.items (shared ∷ [])));
      each = λ group. rw more (rank_added c.args.marks.now c.loop-group.ranks.items shared group so_far.each (rw so_far.number total));
      shared = total;
    }

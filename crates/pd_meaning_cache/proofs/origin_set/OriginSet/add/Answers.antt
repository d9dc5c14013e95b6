use Rattle.std.proofs.Common.{Bool, false, refl, sym, ap, ◌∙◌, subst, ◌++◌, ◌∷◌, [], arith}
use Rattle.std.proofs.Math.Bool.{or-false}
use Rattle.std.proofs.lemmas.Bool.{both_ways}
use Rattle.pd_graph.proofs.BitLemmas.{counts_one}
use Rattle.pd_meaning_cache.specs.OriginSet.{AreCounted, count_of, is_set, times}
use Rattle.pd_meaning_cache.proofs.AddedLemmas.{bit_more, count_one, counted_more}
use Rattle.pd_meaning_cache.proofs.origin_set.OriginSet.add.Goals as goal

pub returns-then-origin-len-clause-added : goal.returns-then-origin-len-clause-added
returns-then-origin-len-clause-added c = λ os before.
    let old = c.args.self.now in
    let was = c.set_bit-was_set in
    counted_more os c.args.origin old.again was.result (times old) _ before
    (λ set. omega (arith, counts_one (is_set old.bits.items c.args.origin) (sym was.ensures.was ∙ set)))
    (λ unset. bit_more old.bits.items was.new.bits.items old.others.items c.args.origin was.ensures.sets (sym was.ensures.was ∙ unset))

pub returns-else-origin-len-clause-added : goal.returns-else-origin-len-clause-added
returns-else-origin-len-clause-added c = λ os before.
    let old = c.args.self.now in
    let new = times (record old { others = c.add_other.new.others }) in
    subst (λ (again : Bool). AreCounted (os ++ c.args.origin ∷ []) again new) (or-false old.again)
    (counted_more os c.args.origin old.again false (times old) new before (λ no. absurd (both_ways false refl no))
    (λ unset x. omega (arith, ap (count_of x) c.add_other.ensures.added, count_one old.others.items c.args.origin x)))

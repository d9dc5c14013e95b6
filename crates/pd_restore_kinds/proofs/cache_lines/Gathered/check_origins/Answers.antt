use Rattle.std.proofs.Common.{rules, ◌<◌, ◌^◌, List, length, ap, subst, arith}
use Rattle.pd_salvage_cache.specs.declared.saved.Row.{Row}
use Rattle.pd_restore_kinds.specs.CacheReading.{IsFirstRepeat}
use Rattle.pd_restore_kinds.proofs.OriginLemmas.{all_differ, repeats_there}
use Rattle.pd_restore_kinds.proofs.cache_lines.Gathered.check_origins.Goals as goal

pub returns-then-before-len-clause-repeated : goal.returns-then-before-len-clause-repeated
returns-then-before-len-clause-repeated c =
    let first = subst (λ (rows : List Row). IsFirstRepeat rows c.in_ok-before.before) c.deref.ensures.value c.in_ok-before.ensures in
    let number = ap (λ (rows : List Row). length rows) c.deref.ensures.value in
    let small : c.in_ok-before.before < 2 ^ 63 = search rules in
    rw c.repeated_after.ensures (repeats_there c.args.self.now c.in_ok-before.before first (omega (arith, c.if-before-len.true, c.len.ensures, c.deref.ensures.len, number)) small)

pub returns-clause-differ : goal.returns-clause-differ
returns-clause-differ c =
    let first = subst (λ (rows : List Row). IsFirstRepeat rows c.in_ok-before.before) c.deref.ensures.value c.in_ok-before.ensures in
    let number = ap (λ (rows : List Row). length rows) c.deref.ensures.value in
    all_differ c.args.self.now c.in_ok-before.before first (λ low. omega (arith, c.if-before-len.false, c.len.ensures, c.deref.ensures.len, number))

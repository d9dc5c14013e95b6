use Rattle.std.proofs.Common.{OnOk, rules, subst}
use Rattle.pd_kinds.specs.Objects.{Appends, AppendsFront}
use Rattle.pd_lines.proofs.Printing.{all_begun, all_lost}
use Rattle.pd_query.proofs.QueryLemmas.{put_all}
use Rattle.pd_kept.specs.KeptCache.{cache_text}
use Rattle.pd_kept.proofs.cache_lines.put_kept_cache.Goals as goal

pub returns-clause-whole : goal.returns-clause-whole
returns-clause-whole g c =
    let state = g.K.Sink.state in
    subst (λ out. OnOk c.finish.result (Appends (cache_text c.args.told.now) (state c.args.out.now).written (state out).written)) (search rules)
    (put_all c.finish.result {first = state c.args.out.now} {sink = state c.finish.new.self.0} (rw (c.to_sink-printer.ensures.none, c.to_sink-printer.ensures.same) at c.in_ok-print_kept_cache.ensures.prints) c.finish.ensures.finishes)

pub returns-clause-front : goal.returns-clause-front
returns-clause-front g c =
    let state = g.K.Sink.state in
    subst (λ out. AppendsFront (cache_text c.args.told.now) (state c.args.out.now).written (state out).written) (search rules)
    (all_lost {first = state c.args.out.now} {sink = state c.finish.new.self.0} (rw (c.to_sink-printer.ensures.none, c.to_sink-printer.ensures.same) at c.in_ok-print_kept_cache.ensures.prints) c.finish.ensures.finishes)

pub returns-in_err-print_kept_cache-clause-front : goal.returns-in_err-print_kept_cache-clause-front
returns-in_err-print_kept_cache-clause-front g c =
    let state = g.K.Sink.state in
    subst (λ out. AppendsFront (cache_text c.args.told.now) (state c.args.out.now).written (state out).written) (search rules)
    (all_begun {first = state c.args.out.now} (rw (c.to_sink-printer.ensures.none, c.to_sink-printer.ensures.same) at c.in_err-print_kept_cache.ensures.prints))

use Rattle.std.proofs.Common.{arith}
use Rattle.std.proofs.lemmas.Result.{err_from_is_err_and}
use Rattle.pd_grammar.specs.CacheText.{first_line, cache_single}
use Rattle.pd_texts_kinds.specs.CacheLine.{cache_meant}
use Rattle.pd_texts_kinds.specs.CacheLine.{CacheStands}
use Rattle.pd_restoring.proofs.ReadingLemmas.{line_given, line_told, end_given, end_told, later_read}
use Rattle.pd_restore_kinds.specs.CacheReading.{lines_of}
use Rattle.pd_restore_kinds.proofs.CacheLineLemmas.{two_lines, stepped, next_says}
use Rattle.pd_restore_kinds.proofs.cache_lines.step.Goals as goal

pub take-requires : goal.take-requires
take-requires g c =
    let h = c.requires.reads in
    let n = c.in_ok-line in
    let lines = lines_of c.args.gathered.now in
    let reads = line_given cache_single CacheStands first_line cache_meant n.field-0 c.in-Some.line lines c.next.new.self c.in-Some.is (omega (arith, two_lines c.args.gathered.now)) (n.ensures.lines lines h.reads) in
    record { after = reads.so_far.lines.0 }

pub returns-in-Some-clause-steps : goal.returns-in-Some-clause-steps
returns-in-Some-clause-steps g c =
    let h = c.requires.reads in
    let n = c.in_ok-line in
    let lines = lines_of c.args.gathered.now in
    let was = (g.S.Source.state c.args.source.now).left in
    let left = (g.S.Source.state c.next.new.source).left in
    let reads = line_given cache_single CacheStands first_line cache_meant n.field-0 c.in-Some.line lines c.next.new.self c.in-Some.is (omega (arith, two_lines c.args.gathered.now)) (n.ensures.lines lines h.reads) in
    stepped c.take.result c.in-Some.line c.args.text.now c.next.new.self was left c.args.gathered.now c.take.new.gathered h reads
    (λ t leaves. line_told cache_single CacheStands first_line cache_meant n.field-0 c.in-Some.line t lines c.next.new.self left c.in-Some.is (omega (arith, two_lines c.args.gathered.now))
    (n.ensures.text t lines h.reads leaves))
    c.take.ensures.cache c.take.ensures.more c.take.ensures.takes

pub returns-in-None-clause-steps : goal.returns-in-None-clause-steps
returns-in-None-clause-steps g c =
    let h = c.requires.reads in
    let n = c.in_ok-line in
    let lines = lines_of c.args.gathered.now in
    let was = (g.S.Source.state c.args.source.now).left in
    let left = (g.S.Source.state c.next.new.source).left in
    record {
      lines = end_given cache_single CacheStands first_line cache_meant n.field-0 lines c.next.new.self c.in-None.is (omega (arith, two_lines c.args.gathered.now)) (n.ensures.lines lines h.reads);
      told = λ t leaves. end_told cache_single CacheStands first_line cache_meant n.field-0 t lines c.next.new.self left c.in-None.is (omega (arith, two_lines c.args.gathered.now))
          (n.ensures.text t lines h.reads leaves);
    }

pub returns-in_err-line-clause-says : goal.returns-in_err-line-clause-says
returns-in_err-line-clause-says g c t leaves =
    let h = c.requires.reads in
    let p = err_from_is_err_and c.from_residual.result c.from_residual.ensures.1 in
    rw (p.1, p.2) (next_says c.in_err-line.field-0.0 t c.args.gathered.now (c.in_err-line.ensures.text t (lines_of c.args.gathered.now) h.reads leaves))

pub returns-in_err-line-clause-later : goal.returns-in_err-line-clause-later
returns-in_err-line-clause-later g c =
    let now = c.args.gathered.now in
    let p = err_from_is_err_and c.from_residual.result c.from_residual.ensures.1 in
    rw (p.1, p.2) (later_read cache_single CacheStands (lines_of now) c.args.text.now c.in_err-line.field-0.0 c.requires.reads.reads (two_lines now) c.in_err-line.ensures.past)

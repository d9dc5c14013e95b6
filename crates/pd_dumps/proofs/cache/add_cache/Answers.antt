use Rattle.std.proofs.Common.{Err, refl, ◌++◌}
use Rattle.pd_grammar.specs.CacheText.{cache, cache_line}
use Rattle.pd_texts.specs.ThinLine.{end_text, text_of_line}
use Rattle.pd_query.proofs.QueryLemmas.{first_lost, lost_with, prints_known, some_then}
use Rattle.pd_meaning_cache.specs.Sides.{rows_ahead}
use Rattle.pd_dumps.specs.CacheLines.{rest_text, super_head}
use Rattle.pd_dumps.proofs.CacheMeaningLemmas.{last_line}
use Rattle.pd_dumps.proofs.cache.add_cache.Goals as goal

pub returns-in_err-print_line-clause-prints : goal.returns-in_err-print_line-clause-prints
returns-in_err-print_line-clause-prints g c =
    lost_with (g.D.Device.state c.args.dev.now).held c.from_residual.result c.from_residual.ensures.0
    (first_lost (g.D.Device.state c.args.dev.now).held (λ image. text_of_line cache (cache_line (super_head c.args.s.now)) ++ rest_text (rows_ahead image c.args.rows.now)) (λ image. refl)
    (prints_known {result = Err c.in_err-print_line.field-0.0} (g.D.Device.state c.args.dev.now).held (rw c.bytes_of_first.ensures.bytes at c.in_err-print_line.ensures.prints)))

pub returns-in_err-print_text_line-clause-prints : goal.returns-in_err-print_text_line-clause-prints
returns-in_err-print_text_line-clause-prints g c =
    lost_with (g.D.Device.state c.args.dev.now).held c.from_residual-in_err-print_text_line.result c.from_residual-in_err-print_text_line.ensures.0
    (some_then (g.D.Device.state c.args.dev.now).held (Err c.in_err-print_text_line.field-0.0) (λ image. refl) (prints_known (g.D.Device.state c.args.dev.now).held (rw c.bytes_of_first.ensures.bytes at c.in_ok-print_line.ensures.prints))
    (first_lost (g.D.Device.state c.args.dev.now).held (λ image. rest_text (rows_ahead image c.args.rows.now)) (λ image. refl)
    (prints_known {result = Err c.in_err-print_text_line.field-0.0} (g.D.Device.state c.args.dev.now).held (rw c.cache_line.ensures at c.in_err-print_text_line.ensures.prints))))

pub returns-in_err-add_rows-clause-prints : goal.returns-in_err-add_rows-clause-prints
returns-in_err-add_rows-clause-prints g c =
    lost_with (g.D.Device.state c.args.dev.now).held c.from_residual-in_err-add_rows.result c.from_residual-in_err-add_rows.ensures.0
    (some_then (g.D.Device.state c.args.dev.now).held (Err c.in_err-add_rows.field-0.0) (λ image. refl) (prints_known (g.D.Device.state c.args.dev.now).held (rw c.bytes_of_first.ensures.bytes at c.in_ok-print_line.ensures.prints))
    (some_then (g.D.Device.state c.args.dev.now).held (Err c.in_err-add_rows.field-0.0) (λ image. refl) (prints_known (g.D.Device.state c.args.dev.now).held (rw c.cache_line.ensures at c.in_ok-print_text_line.ensures.prints))
    (first_lost (g.D.Device.state c.args.dev.now).held (λ image. end_text) (λ image. last_line (rows_ahead image c.args.rows.now)) c.in_err-add_rows.ensures.prints)))

pub returns-clause-prints : goal.returns-clause-prints
returns-clause-prints g c =
    some_then (g.D.Device.state c.args.dev.now).held c.print_line-2.result (λ image. refl) (prints_known (g.D.Device.state c.args.dev.now).held (rw c.bytes_of_first.ensures.bytes at c.in_ok-print_line.ensures.prints))
    (some_then (g.D.Device.state c.args.dev.now).held c.print_line-2.result (λ image. refl) (prints_known (g.D.Device.state c.args.dev.now).held (rw c.cache_line.ensures at c.in_ok-print_text_line.ensures.prints))
    (some_then (g.D.Device.state c.args.dev.now).held c.print_line-2.result (λ image. last_line (rows_ahead image c.args.rows.now)) c.in_ok-add_rows.ensures.prints
    (prints_known (g.D.Device.state c.args.dev.now).held (rw c.bytes_of_end.ensures.bytes at c.print_line-2.ensures.prints))))

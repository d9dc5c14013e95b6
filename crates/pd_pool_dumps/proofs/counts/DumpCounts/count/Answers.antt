use Rattle.std.proofs.Common.{ℕ, ◌+◌, ◌-◌, ◌^◌, min, ap, ◌∙◌}
use Rattle.pd_texts.specs.ThinLine.{line_of}
use Rattle.pd_pool_dumps.proofs.RunLemmas.{count_one}
use Rattle.pd_pool_dumps.proofs.counts.DumpCounts.count.Goals as goal

pub returns : goal.returns
returns c =
    count_one c.args.self.now _ (line_of c.args.line.now) c.saturating_add-self.ensures
    (c.saturating_add-self-2.ensures ∙ ap (λ (n : ℕ). min (c.args.self.now.mappings + n) (2 ^ 64 - 1)) c.mappings_of.ensures)

use Rattle.std.proofs.Common.{◌∙◌, ap, ◌+◌, ◌≤◌, drop}
use Rattle.pd_lines.proofs.ReaderLemmas.{skipped, skip_within}
use Rattle.pd_lines.proofs.buffer.Buffer.skip.Goals as goal

pub returns : goal.returns
returns c =
    let i = c.self.inside in
    let within : i.start + c.args.n ≤ i.end =
    skip_within i.bytes.items i.start i.end c.args.n c.self.invariant.0 (rw (c.self.view_is) c.requires) in
    skipped i.bytes.items i.start i.end c.args.n within ∙ ap (drop c.args.n) c.self.view_is

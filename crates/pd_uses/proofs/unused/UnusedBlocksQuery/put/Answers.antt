use Rattle.std.proofs.Common.{◌≡◌, ℕ, List}
use Rattle.pd_answers.specs.QueryLines.{unused_lines}
use Rattle.pd_uses.proofs.UnusedLemmas.{sound_told}
use Rattle.pd_uses.proofs.unused.UnusedBlocksQuery.put.Goals as goal

pub returns-clause-text : goal.returns-clause-text
returns-clause-text g c =
    let puts = c.put_runs.ensures.text in
    record { text = puts.text; told = sound_told (λ (image : List (List ℕ)). puts.text ≡ unused_lines image) (g.D.Device.state c.args.dev.now).held puts.told; whole = puts.whole; front = puts.front }

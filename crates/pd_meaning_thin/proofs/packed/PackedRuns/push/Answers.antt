use Rattle.std.proofs.Common.{[], ◌∷◌, ◌++◌, List, ap, ◌∙◌, rules}
use Rattle.pd_meaning_thin.specs.declared.joined.Run.{Run}
use Rattle.pd_meaning_thin.specs.Packed.{runs_in}
use Rattle.pd_meaning_thin.specs.Packed.{FitsRun}
use Rattle.pd_meaning_thin.proofs.ChunkLemmas.{ArePacked-put, runs_in-put}
use Rattle.pd_meaning_thin.proofs.packed.PackedRuns.push.Goals as goal

pub invariant_of-self-2 : goal.invariant_of-self-2
invariant_of-self-2 c =
    let s = c.self.inside in
    let fits : FitsRun c.args.run =
    record { virt_fits = search rules; target_fits = search rules; length_fits = search rules; time_fits = search rules } in
    rw c.in_ok-put.ensures.put
    (ArePacked-put s.chunks s.last s.count c.args.run c.self.invariant fits (rw c.in_ok-put.ensures.put at c.in_ok-put.ensures.counted))

pub returns-clause-pushed : goal.returns-clause-pushed
returns-clause-pushed c =
    let s = c.self.inside in
    let fits : FitsRun c.args.run =
    record { virt_fits = search rules; target_fits = search rules; length_fits = search rules; time_fits = search rules } in
    ap runs_in c.in_ok-put.ensures.put
    ∙ runs_in-put s.chunks s.last s.count c.args.run c.self.invariant fits
    ∙ ap (λ (runs : List Run). runs ++ c.args.run ∷ []) c.self.view_is

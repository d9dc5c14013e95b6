use Rattle.std.proofs.Common.{◌+◌, ap, map, refl, sym, take, ◌∙◌}
use Rattle.pd_grammar.specs.Need.{nodes_for}
use Rattle.pd_laid.proofs.LeafRuns.{number_mapped}
use Rattle.pd_meaning_thin.specs.Packed.{runs_from}
use Rattle.pd_meaning_thin.specs.Runs.{spelled}
use Rattle.pd_restore.specs.declared.shape_need.LeafCounts.{LeafCounts}
use Rattle.pd_restore.proofs.ShapeNeedLemmas.{own_piece, used_piece}
use Rattle.pd_restore.proofs.shape_need.with_piece.Goals as goal

pub returns-in_ok-checked_add-in-Own : goal.returns-in_ok-checked_add-in-Own
returns-in_ok-checked_add-in-Own c =
    let old = c.args.counts in
    let runs = runs_from c.args.runs.now old.place in
    let k = c.in-Own.number in
    let new : LeafCounts = record { own = c.in_ok-checked_add-in-Own.field-0; uses = old.uses; place = c.mappings_of.new.place } in
    rw (sym c.piece.ensures ∙ c.in-Own.is)
    (own_piece old new k c.args.runs.now
    (c.in_ok-checked_add-in-Own.ensures.1 ∙ ap (λ n. old.own + n) (c.leaves_for.ensures ∙ ap (nodes_for 252) (c.in_ok-mappings-in-Own.ensures.mappings ∙ number_mapped (map spelled (take k runs)))))
    refl c.in_ok-mappings-in-Own.ensures.behind)

pub returns-in_ok-checked_add-in-Shared : goal.returns-in_ok-checked_add-in-Shared
returns-in_ok-checked_add-in-Shared c =
    let old = c.args.counts in
    let new : LeafCounts = record { own = old.own; uses = c.in_ok-checked_add-in-Shared.field-0; place = old.place } in
    rw (sym c.piece.ensures ∙ c.in-Shared.is) (used_piece old new c.in-Shared.field-0 c.args.runs.now refl c.in_ok-checked_add-in-Shared.ensures.1 refl)

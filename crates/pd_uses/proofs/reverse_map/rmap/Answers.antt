use Rattle.std.proofs.Common.{List, refl, ◌∙◌, ap}
use Rattle.std.proofs.lemmas.Result.{err_from_is_err_and}
use Rattle.pd_kinds.specs.Meaning.{thin_meaning}
use Rattle.pd_answers.specs.QueryLines.{rmap_lines}
use Rattle.pd_query.proofs.QueryLemmas.{one_told}
use Rattle.pd_query.proofs.QueryLemmas.{puts_none}
use Rattle.pd_uses.specs.declared.hits.DataUse.{DataUse}
use Rattle.pd_uses.specs.FoundUses.{found_uses}
use Rattle.pd_uses.specs.Uses.{ordered_uses}
use Rattle.pd_uses.specs.Uses.{uses_text}
use Rattle.pd_uses.specs.Uses.{super_uses}
use Rattle.pd_uses.proofs.LineLemmas.{region_kept}
use Rattle.pd_uses.proofs.LineLemmas.{rmap_is}
use Rattle.pd_uses.proofs.reverse_map.rmap.Goals as goal

pub returns-in_err-found-clause-lines : goal.returns-in_err-found-clause-lines
returns-in_err-found-clause-lines g c =
    let p = err_from_is_err_and c.from_residual.result c.from_residual.ensures.1 in
    rw (p.1, p.2) (puts_none (g.D.Device.state c.args.dev.now).held (λ image. rmap_lines c.args.first c.args.end (thin_meaning image)) c.in_err-found.field-0.0 refl (λ image own none. refl))

pub returns-clause-lines : goal.returns-clause-lines
returns-clause-lines g c =
    let first = c.args.first in
    let end = c.args.end in
    record {
      text = uses_text (ordered_uses first end (found_uses c.in_ok-found.found));
      told =
          one_told (g.D.Device.state c.args.dev.now).held
          (λ image is own none.
          ap (λ (uses : List DataUse). uses_text (ordered_uses first end uses)) is
          ∙ (ap uses_text (region_kept first end (super_uses image c.args.s.now)) ∙ rmap_is image c.args.s.now first end own (c.rows_are_the_devices.ensures image none))) c.in_ok-found.ensures.uses;
      whole = c.put_region.ensures.whole;
      front = c.put_region.ensures.front;
    }

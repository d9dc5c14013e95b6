use Rattle.std.proofs.Common.{cond, Some, sym, ◌∙◌, ap}
use Rattle.std.specs.BTreeMap.{get}
use Rattle.pd_measures.specs.declared.measures.Measured.{Measured}
use Rattle.pd_scan.specs.Partners.{has_sum, partner_of, sum_cmp, with_one}
use Rattle.pd_scan.proofs.PartnerLemmas.{put_none, put_one}
use Rattle.pd_scan.proofs.partners.put_sound.Goals as goal

pub returns-in_ok-put : goal.returns-in_ok-put
returns-in_ok-put c =
    let table = c.args.table.now in
    put_one c.args.details.now c.args.measures.now c.args.b (sym c.is_good.ensures ∙ c.if-is_good.true) table c.put.new.table
    (λ sum. c.in_ok-put.ensures sum
    ∙ ap (λ (m : Measured). cond (has_sum sum m) (Some (with_one (get sum_cmp table sum) (partner_of c.args.b m))) (get sum_cmp table sum)) c.get.ensures)

pub returns-else-is_good : goal.returns-else-is_good
returns-else-is_good c = put_none c.args.details.now c.args.measures.now c.args.b (sym c.is_good.ensures ∙ c.if-is_good.false) c.args.table.now

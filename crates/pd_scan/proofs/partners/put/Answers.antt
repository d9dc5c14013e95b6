use Rattle.std.proofs.Common.{◌≡◌, ℕ, cond, Option, Some, ◌∙◌, ap, ap₂}
use Rattle.std.specs.BTreeMap.{get}
use Rattle.std.specs.Ordering.{is_eq}
use Rattle.pd_scan.specs.declared.partners.Partner.{Partner}
use Rattle.pd_scan.specs.declared.partners.Partners.{Partners}
use Rattle.pd_scan.specs.Partners.{partner_of, sum_cmp, sum_of, with_one}
use Rattle.pd_scan.proofs.PartnerLemmas.{put_sum}
use Rattle.pd_scan.proofs.partners.put.Goals as goal

pub returns : goal.returns
returns c = λ asked.
    let measure = c.args.measure in
    let found = get sum_cmp c.args.table.now in
    let key : c.sum-sum.result ≡ sum_of measure = c.sum-sum.ensures in
    let before : c.copied-found.result ≡ found (sum_of measure) = c.copied-found.ensures ∙ (c.get.ensures.value ∙ ap found key) in
    let one : c.with.result ≡ with_one (found (sum_of measure)) (partner_of c.args.root measure) =
    c.with.ensures ∙ ap₂ (λ (o : Option Partners) (one : Partner). with_one o one) before c.of.ensures in
    c.in_ok-insert.ensures.updates.0 asked
    ∙ (ap₂ (λ (s : ℕ × ℕ) (partners : Partners). cond (is_eq (sum_cmp s asked)) (Some partners) (found asked)) key one
    ∙ put_sum found measure (partner_of c.args.root measure) asked)

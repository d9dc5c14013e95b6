use Rattle.std.proofs.Common.{◌≡◌, Some, None, ◌∙◌, sym, arith}
use Rattle.pd_check.specs.Check.{data_space_of, graph_of_super}
use Rattle.pd_check.proofs.CountLemmas.{counts_space, data_number, no_space, ok_if}
use Rattle.pd_check.proofs.counts.ref_counter.Goals as goal

pub returns-in-Some : goal.returns-in-Some
returns-in-Some g c =
    let kind = g.M.Metadata.kind in
    let first = c.args.first.now.0 in
    let is : data_space_of kind first ≡ Some c.in-Some.space = sym c.data_space.ensures.space ∙ c.in-Some.is in
    let number = data_number kind first c.in-Some.space is in
    record {
      size = ok_if c.new.result _ _ (λ counter size. size ∙ number) c.new.ensures.size;
      unseen = ok_if c.new.result _ _
          (λ counter unseen image. unseen (graph_of_super kind first) image (sym number) (λ some. counts_space kind first c.in-Some.space is)) c.new.ensures.unseen;
    }

pub returns-in-None : goal.returns-in-None
returns-in-None g c =
    let kind = g.M.Metadata.kind in
    let first = c.args.first.now.0 in
    let is : data_space_of kind first ≡ None = sym c.data_space.ensures.space ∙ c.in-None.is in
    let number = no_space kind first is in
    record {
      size = ok_if c.new-in-None.result _ _ (λ counter size. size ∙ sym number) c.new-in-None.ensures.size;
      unseen = ok_if c.new-in-None.result _ _
          (λ counter unseen image. unseen (graph_of_super kind first) image number (λ some. absurd (omega (arith, some)))) c.new-in-None.ensures.unseen;
    }

use Rattle.std.proofs.Common.{◌≡◌, List, ℕ, IfSome, Some, Option, set, sym, ap, ◌∙◌, subst}
use Rattle.std.proofs.lemmas.Result.{on_ok_weaker}
use Rattle.pd_answers.specs.Writebacks.{settled_block}
use Rattle.pd_tree.proofs.StackLemmas.{block_found}
use Rattle.pd_tree.proofs.NextLemmas.{if_both}
use Rattle.pd_writeback.proofs.MarkedLemmas.{unmarked}
use Rattle.pd_writeback.proofs.UnchangedLemmas.{settled_is, settled_not}
use Rattle.pd_writeback.proofs.marking.mark_one.Goals as goal

pub returns-then-is_settled-clause-content : goal.returns-then-is_settled-clause-content
returns-then-is_settled-clause-content g c =
    let block = c.read.new.into.0 in
    let same = settled_is c.args.version block (sym c.is_settled.ensures ∙ c.if-is_settled.true) in
    if_both (g.A.Device.state c.args.rewrite.now.dev.now).held
    (λ image held at again. c.read.ensures.kept.held ∙ (held ∙ unmarked c.args.version image c.args.place block at same))
    c.in_ok-read.ensures.content c.in_ok-read.ensures.content

pub returns-clause-content : goal.returns-clause-content
returns-clause-content g c =
    let block = c.read.new.into.0 in
    let place = c.args.place in
    let made = c.clear_dirty.ensures ∙ settled_not c.args.version block (sym c.is_settled.ensures ∙ c.if-is_settled.false) in
    on_ok_weaker c.replace.result
    (λ put.
    if_both (g.A.Device.state c.args.rewrite.now.dev.now).held
    (λ image held at written.
    written ∙ ap (λ (b : List ℕ). Some (set image place b)) (made ∙ ap (settled_block c.args.version) (sym (block_found image place block at))))
    c.in_ok-read.ensures.content
    (subst (λ (o : Option (List (List ℕ))). IfSome o (λ image. (g.A.Device.state c.replace.new.self.dev.now).held ≡ Some (set image place c.clear_dirty.result.0))) c.read.ensures.kept.held put))
    c.replace.ensures.content

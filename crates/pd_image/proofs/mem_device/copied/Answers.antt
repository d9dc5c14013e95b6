use Rattle.std.proofs.Common.{◌≡◌, ◌++◌, ◌∷◌, ◌∙◌, [], List, take, ap, subst, sym, add-one, rules}
use Rattle.std.proofs.Math.Seq.{take-suc}
use Rattle.std.proofs.lemmas.List.Elements.{All-append, All-replicate}
use Rattle.pd_kinds.specs.declared.block.Block.{Block}
use Rattle.pd_image.specs.Step.{AreWhole, IsWhole}
use Rattle.pd_image.proofs.mem_device.copied.Goals as goal

pub loop-block-preserved : goal.loop-block-preserved
loop-block-preserved c =
    let items : c.push.new.self.items ≡ c.loop-block.blocks.items ++ (c.copy_of.result ∷ []) = search rules in
    record {
      items = items ∙ ap (λ (bs : List Block). bs ++ (c.copy_of.result ∷ [])) c.loop-block.invariant.items
          ∙ ap (λ (block : Block). take c.loop-block.block-index c.args.image.now ++ (block ∷ [])) c.copy_of.ensures.same
          ∙ rw (add-one) (sym (take-suc c.args.image.now c.loop-block.block-index _ c.loop-block-test.true));
      whole = subst AreWhole (sym items) (All-append IsWhole c.loop-block.blocks.items (c.copy_of.result ∷ []) c.loop-block.invariant.whole (All-replicate IsWhole 1 c.copy_of.result c.copy_of.ensures.whole));
    }

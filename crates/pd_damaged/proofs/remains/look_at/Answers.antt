use Rattle.std.proofs.Common.{◌≡◌, false, true, sym, ◌∙◌}
use Rattle.std.proofs.lemmas.Bool.{not-false, not-true}
use Rattle.std.proofs.lemmas.Result.{IfOk-weaker}
use Rattle.pd_kinds.proofs.ResultLemmas.{if_any}
use Rattle.pd_kinds.specs.Node.{is_inner_node}
use Rattle.pd_laid.specs.Salvage.{is_damaged}
use Rattle.pd_damaged.proofs.KnownLemmas.{damaged_right, leaf_right, low_children}
use Rattle.pd_damaged.proofs.remains.look_at.Goals as goal

pub returns-then-not-is_sound-clause-found : goal.returns-then-not-is_sound-clause-found
returns-then-not-is_sound-clause-found g c =
    let table = c.args.table.now in
    let block = c.args.block.now.0 in
    let damaged : is_damaged 8 c.args.b block ≡ true = not-false (is_damaged 8 c.args.b block) (sym c.is_sound.ensures ∙ c.if-not-is_sound.true) in
    if_any (g.D.Device.state c.args.dev.now).held (λ image bytes here are. damaged_right table.nr table.data_blocks image c.args.b block here damaged)

pub returns-then-is_inner-clause-some : goal.returns-then-is_inner-clause-some
returns-then-is_inner-clause-some g c =
    let table = c.args.table.now in
    let block = c.args.block.now.0 in
    let sound : is_damaged 8 c.args.b block ≡ false = not-true (is_damaged 8 c.args.b block) (sym c.is_sound.ensures ∙ c.if-not-is_sound.false) in
    let inner : is_inner_node block ≡ true = sym c.is_inner.ensures ∙ c.if-is_inner.true in
    IfOk-weaker c.look_at_inner.result _ _
    (λ found some. if_any (g.D.Device.state c.args.dev.now).held (λ image here are h few low knows.
    some (low_children table image are c.args.b c.requires.inside h block here few low knows sound inner)))
    c.look_at_inner.ensures.some

pub returns-clause-found : goal.returns-clause-found
returns-clause-found g c =
    let table = c.args.table.now in
    let block = c.args.block.now.0 in
    let sound : is_damaged 8 c.args.b block ≡ false = not-true (is_damaged 8 c.args.b block) (sym c.is_sound.ensures ∙ c.if-not-is_sound.false) in
    let leaf : is_inner_node block ≡ false = sym c.is_inner.ensures ∙ c.if-is_inner.false in
    if_any (g.D.Device.state c.args.dev.now).held (λ image bytes here are.
    leaf_right table.nr table.data_blocks image c.args.b c.requires.inside c.kept_of_leaf.result block bytes here sound leaf c.kept_of_leaf.ensures)

use Rattle.std.proofs.Common.{◌≡◌, ◌-◌, ◌^◌, ℕ, List, min, length, take, sum_by, sym, ◌∙◌, ap, arith}
use Rattle.std.proofs.lemmas.List.{take_all}
use Rattle.pd_grammar.specs.Need.{need_tree}
use Rattle.pd_devices.specs.Gathered.{need_of_trees}
use Rattle.pd_devices.proofs.DeviceLemmas.{need_by_sum, need_capped}
use Rattle.pd_devices.proofs.need.need_thin.Goals as goal

pub returns : goal.returns
returns c =
    let mapped = c.args.devices.now in
    let top = 2 ^ 64 - 1 in
    let all : take c.loop-mapped.mapped-index mapped ≡ mapped = take_all c.loop-mapped.mapped-index mapped (omega arith) in
    let trees : c.loop-mapped.trees ≡ min (sum_by (need_tree 8) mapped) top =
    c.loop-mapped.invariant ∙ ap (λ (ms : List ℕ). min (sum_by (need_tree 8) ms) top) all in
    c.need_of.ensures
    ∙ (ap (λ (t : ℕ). min (need_of_trees t (length mapped) c.args.blocks c.args.over c.args.nr) top) trees
    ∙ (need_capped (sum_by (need_tree 8) mapped) (length mapped) c.args.blocks c.args.over c.args.nr top
    ∙ ap (λ (n : ℕ). min n top) (sym (need_by_sum mapped c.args.blocks c.args.over c.args.nr))))

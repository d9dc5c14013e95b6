use Rattle.std.proofs.Common.{◌≡◌, ℕ, ◌<◌, [], sym, subst, arith}
use Rattle.std.specs.List.{AllByRecursion}
use Rattle.std.proofs.lemmas.Result.{IfOk-weaker}
use Rattle.pd_kinds.proofs.ResultLemmas.{if_then}
use Rattle.pd_graph.specs.Notes.{size_of}
use Rattle.pd_damaged.specs.Listed.{StatesInside}
use Rattle.pd_damaged.specs.Loose.{AreTopmost}
use Rattle.pd_damaged.proofs.StateLemmas.{drop_all, if_still, none_listed, states_found}
use Rattle.pd_damaged.proofs.damaged.find_damaged_in.Goals as goal

pub returns-then-is_empty-clause-found : goal.returns-then-is_empty-clause-found
returns-then-is_empty-clause-found g c =
    let graph = g.F.Format.graph c.args.format.now in
    let sound = c.in_ok-sound.ensures in
    let tops = c.in_ok-tops.tops.items in
    let empty : tops ≡ [] = drop_all tops 0 (grind (arith, c.is_empty.ensures, c.if-is_empty.true, c.in_ok-tops.tops.ok)) in
    if_then (g.D.Device.state c.args.dev.now).held (g.D.Device.state c.settle.new.dev).held _ _ _ sound.kept.held
    (λ image are topmost.
    states_found graph image tops c.new.result.items (topmost graph (sym sound.tops) are.tops)
    (none_listed graph image tops c.new.result.items empty c.new.ensures.items))
    sound.sound c.in_ok-tops.ensures.all

pub returns-clause-found : goal.returns-clause-found
returns-clause-found g c =
    let graph = g.F.Format.graph c.args.format.now in
    let sound = c.in_ok-sound.ensures in
    let tops = c.in_ok-tops.ensures in
    IfOk-weaker c.states_of_tops.result _ _
    (λ found told.
    if_still (g.D.Device.state c.args.dev.now).held (g.D.Device.state c.settle.new.dev).held (g.D.Device.state c.loose_tops.new.dev).held _ _ _ _
    sound.kept.held tops.kept.held
    (λ image are topmost states.
    states graph (sym sound.details) c.requires.given are.details
    (subst (AreTopmost graph image) (sym c.as_slice.ensures.value) (topmost graph (sym sound.tops) are.tops)))
    sound.sound tops.all told)
    c.states_of_tops.ensures.found

pub returns-clause-inside : goal.returns-clause-inside
returns-clause-inside g c =
    let nr = (g.F.Format.graph c.args.format.now).nr in
    let tops = c.as_slice.result.now in
    let inside : AllByRecursion (λ (t : ℕ). t < size_of c.in_ok-sound.sound.tops) tops =
    subst (AllByRecursion (λ (t : ℕ). t < size_of c.in_ok-sound.sound.tops)) (sym c.as_slice.ensures.value) c.in_ok-tops.ensures.inside in
    let here : AllByRecursion (λ (t : ℕ). t < nr) tops = subst (λ (n : ℕ). AllByRecursion (λ (t : ℕ). t < n) tops) c.in_ok-sound.ensures.tops inside in
    IfOk-weaker c.states_of_tops.result _ _
    (λ found all. subst (λ (n : ℕ). AllByRecursion (λ (t : ℕ). t < n) tops → StatesInside n found.items) c.in_ok-sound.ensures.details all here)
    c.states_of_tops.ensures.inside

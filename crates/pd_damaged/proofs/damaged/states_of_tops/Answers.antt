use Rattle.std.proofs.Common.{ℕ, ◌≤◌, min, sym, ◌∙◌, ap, arith}
use Rattle.std.proofs.lemmas.Result.{IfOk-weaker}
use Rattle.pd_kinds.specs.declared.limits.TheConstants.{MAX_META_BLOCKS}
use Rattle.pd_damaged.proofs.StateLemmas.{if_still, states_found}
use Rattle.pd_damaged.proofs.damaged.states_of_tops.Goals as goal

pub returns-clause-found : goal.returns-clause-found
returns-clause-found g c =
    let roots = c.in_ok-roots.ensures in
    let remains = c.in_ok-remains.ensures in
    IfOk-weaker c.states.result _ _
    (λ found told.
    if_still (g.D.Device.state c.args.dev.now).held (g.D.Device.state c.details_roots.new.dev).held (g.D.Device.state c.find.new.dev).held _ _ _ _
    roots.kept.held remains.kept.held
    (λ image all right states graph number pool are topmost.
    let few : graph.nr ≤ MAX_META_BLOCKS = omega (arith, number, c.requires.number) in
    states_found graph image c.args.tops.now found.items topmost
    (states graph
    (record {
      right = right;
      number = number ∙ (c.requires.number ∙ sym (remains.number ∙ ap (λ (n : ℕ). min n MAX_META_BLOCKS) roots.kept.blocks));
      pool = pool ∙ sym remains.pool;
      roots = all graph number are;
    })
    few))
    roots.all remains.right told)
    c.states.ensures.states

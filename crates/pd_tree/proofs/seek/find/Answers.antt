use Rattle.std.proofs.Common.{◌≡◌, ◌+◌, ◌-◌, ◌<◌, ◌≤◌, suc, true, false, IfSome, length, refl, sym, ◌∙◌, subst, arith}
use Rattle.std.proofs.lemmas.Option.{IfSome_then}
use Rattle.pd_kinds.specs.Node.{is_inner_node, child_at}
use Rattle.pd_kinds.specs.Graph.{block_at}
use Rattle.pd_kinds.proofs.ResultLemmas.{if_any}
use Rattle.pd_image.proofs.CrashLemmas.{only_reads_both}
use Rattle.pd_tree.proofs.StackLemmas.{read_found}
use Rattle.pd_tree.proofs.NextLemmas.{if_both}
use Rattle.pd_tree.proofs.DistinctLemmas.{IsAtLevel, root_level, next_level}
use Rattle.pd_tree.proofs.SearchLemmas.{Seeks, seeks_root, seeks_none, seeks_outside, seeks_child, seeks_leaf, seeks_nothing}
use Rattle.pd_tree.proofs.seek.find.Goals as goal

pub loop-level-init : goal.loop-level-init
loop-level-init g c = record {
  seeks = if_any (g.D.Device.state c.args.dev.now).held (λ image. seeks_root g.V.Value.SIZE g.V.Value.decoded image c.args.wanted c.args.root);
  level = if_any (g.D.Device.state c.args.dev.now).held (λ image. root_level g.V.Value.SIZE image c.args.root);
  reads = omega arith;
  kept = record { held = refl; access = refl; path = refl; blocks = refl; history = refl };
  faults = refl;
}

pub returns-then-b-blocks-clause-found : goal.returns-then-b-blocks-clause-found
returns-then-b-blocks-clause-found g c =
    if_both (g.D.Device.state c.args.dev.now).held (λ image held seeks honest.
    seeks_outside g.V.Value.SIZE g.V.Value.decoded image c.args.wanted c.args.root (64 - c.loop-level._level) c.loop-level.b
    (let outside : length image ≤ c.loop-level.b = omega arith in outside) seeks)
    c.loop-level.invariant.seeks
    (subst (λ o. IfSome o (λ image. c.blocks-in-loop-level.result ≡ length image)) c.loop-level.invariant.kept.held c.blocks-in-loop-level.ensures.honest)

pub returns-then-count-eq0-clause-found : goal.returns-then-count-eq0-clause-found
returns-then-count-eq0-clause-found g c =
    let levels : 64 - c.loop-level._level ≡ suc (64 - (c.loop-level._level + 1)) = omega arith in
    if_both (g.D.Device.state c.args.dev.now).held (λ image held seeks block.
    seeks_nothing g.V.Value.SIZE g.V.Value.decoded image c.args.wanted c.args.root (64 - c.loop-level._level) (64 - (c.loop-level._level + 1)) c.loop-level.b c.split-count.result c.read.new.into.0
    levels seeks block c.split-count.ensures c.if-count-eq0.true)
    c.loop-level.invariant.seeks
    (read_found (g.D.Device.state c.args.dev.now).held (g.D.Device.state c.loop-level.dev).held c.loop-level.b c.read.new.into.0 c.loop-level.invariant.kept.held c.in_ok-read.ensures.content)

pub returns-then-not-is_inner-clause-found : goal.returns-then-not-is_inner-clause-found
returns-then-not-is_inner-clause-found g c =
    let levels : 64 - c.loop-level._level ≡ suc (64 - (c.loop-level._level + 1)) = omega arith in
    let leaf : is_inner_node c.read.new.into.0 ≡ false = sym c.is_inner.ensures ∙ c.if-not-is_inner.true in
    if_both (g.D.Device.state c.args.dev.now).held (λ image held seeks block s.
    rw c.value_if.ensures
    (seeks_leaf g.V.Value.SIZE g.V.Value.decoded image c.args.wanted c.args.root (64 - c.loop-level._level) (64 - (c.loop-level._level + 1)) c.loop-level.b c.split-count.result c.read.new.into.0
    levels seeks block c.split-count.ensures leaf (omega arith) s))
    c.loop-level.invariant.seeks
    (read_found (g.D.Device.state c.args.dev.now).held (g.D.Device.state c.loop-level.dev).held c.loop-level.b c.read.new.into.0 c.loop-level.invariant.kept.held c.in_ok-read.ensures.content)

pub loop-level-preserved : goal.loop-level-preserved
loop-level-preserved g c =
    let held = (g.D.Device.state c.args.dev.now).held in
    let bytes = c.read.new.into.0 in
    let i = c.split-count.result in
    let b = c.loop-level.b in
    let above = c.loop-level._level in
    let levels : 64 - above ≡ suc (64 - (above + 1)) = omega arith in
    let inner : is_inner_node bytes ≡ true = sym c.is_inner.ensures ∙ c.if-not-is_inner.false in
    let some : 0 < i = omega arith in
    let block : IfSome held (λ image. block_at image b ≡ bytes) = read_found held (g.D.Device.state c.loop-level.dev).held b bytes c.loop-level.invariant.kept.held c.in_ok-read.ensures.content in
    let seeks : IfSome held (λ image. Seeks g.V.Value.SIZE g.V.Value.decoded image c.args.wanted c.args.root (64 - (above + 1)) (child_at bytes (i - 1))) =
    if_both held (λ image _ seeks block. seeks_child g.V.Value.SIZE g.V.Value.decoded image c.args.wanted c.args.root (64 - above) (64 - (above + 1)) b i bytes levels seeks block c.split-count.ensures inner some)
    c.loop-level.invariant.seeks block in
    let level : IfSome held (λ image. IsAtLevel g.V.Value.SIZE image c.args.root (above + 1) (child_at bytes (i - 1))) =
    if_both held (λ image _ level block. next_level g.V.Value.SIZE image c.args.root above b c.args.wanted i bytes level block inner c.split-count.ensures some)
    c.loop-level.invariant.level block in
    let reads = c.in_ok-read.ensures.reads in
    let before = c.loop-level.invariant.reads in
    record {
      seeks = rw c.child-b.ensures seeks;
      level = rw c.child-b.ensures level;
      reads = omega arith;
      kept = only_reads_both c.loop-level.invariant.kept c.in_ok-read.ensures.kept;
      faults = c.in_ok-read.ensures.faults ∙ c.loop-level.invariant.faults;
    }

pub returns-clause-found : goal.returns-clause-found
returns-clause-found g c =
    let over : 64 - c.loop-level._level ≡ 0 = omega arith in
    IfSome_then (g.D.Device.state c.args.dev.now).held {P = λ image. Seeks g.V.Value.SIZE g.V.Value.decoded image c.args.wanted c.args.root (64 - c.loop-level._level) c.loop-level.b} c.loop-level.invariant.seeks (λ image seeks.
    seeks_none g.V.Value.SIZE g.V.Value.decoded image c.args.wanted c.args.root (64 - c.loop-level._level) c.loop-level.b over seeks)

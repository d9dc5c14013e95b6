use Rattle.std.proofs.Common.{ℕ, ◌+◌, ◌-◌, ◌<◌, List, length, get_or, drop, refl, sym, ◌∙◌, subst, arith}
use Rattle.std.specs.List.{AllByRecursion}
use Rattle.pd_kinds.proofs.ResultLemmas.{if_any, if_then}
use Rattle.pd_image.proofs.CrashLemmas.{only_reads_both}
use Rattle.pd_damaged.specs.declared.table.KnownTable.{KnownTable}
use Rattle.pd_damaged.specs.Known.{meta_blocks_of}
use Rattle.pd_damaged.specs.Listed.{AreStates, StatesInside}
use Rattle.pd_damaged.proofs.GivenLemmas.{all_at}
use Rattle.pd_damaged.proofs.StateLemmas.{drop_all, none_listed, one_more, search_stays, stays_both}
use Rattle.pd_damaged.proofs.listing.Search.states.Goals as goal

pub loop-passed-init : goal.loop-passed-init
loop-passed-init g c =
    let ts = c.args.tops.now in
    record {
      states = if_any (g.D.Device.state c.args.dev.now).held (λ image graph is few.
          none_listed graph image (drop (length ts - 0) ts) c.new-states.result.items (drop_all ts (length ts - 0) (omega arith)) c.new-states.ensures.items);
      inside = λ roots all. subst (StatesInside (meta_blocks_of c.args.self.now.remains)) (sym c.new-states.ensures.items) tt;
      stays = record { remains = refl; roots = refl };
      kept = record { held = refl; access = refl; path = refl; blocks = refl; history = refl };
      faults = refl;
    }

pub loop-passed-preserved : goal.loop-passed-preserved
loop-passed-preserved g c =
    let ts = c.args.tops.now in
    let passed = c.loop-passed.passed in
    let start = c.args.self.now in
    let search = c.loop-passed.self in
    let inv = c.loop-passed.invariant in
    let done = c.in_ok-put_top.ensures in
    let old = c.loop-passed.states.items in
    let new = c.put_top.new.states.items in
    let less : passed < length ts = omega arith in
    let place : length ts - (passed + 1) < length ts = omega arith in
    let top = get_or ts (length ts - (passed + 1)) 0 in
    let P : KnownTable → List ℕ → Type 0 = λ t rs. AllByRecursion (λ (r : ℕ). r < t.nr) rs → top < t.nr → StatesInside t.nr old → StatesInside t.nr new in
    record {
      states = if_then (g.D.Device.state c.args.dev.now).held (g.D.Device.state c.loop-passed.dev).held _ _ _ inv.kept.held
          (λ image before put graph is few.
          subst (λ (xs : List ℕ). AreStates graph image xs new) (sym (one_more ts (length ts) passed refl less))
          (put graph (drop (length ts - passed) ts) (search_stays graph image start search is inv.stays) few (before graph is few)))
          inv.states done.states;
      inside = λ roots all.
          subst (λ (t : KnownTable). P t start.roots.items) inv.stays.remains (subst (λ (rs : List ℕ). P search.remains.table rs) inv.stays.roots done.inside)
          roots (all_at (λ (t : ℕ). t < meta_blocks_of start.remains) ts (length ts - (passed + 1)) all place) (inv.inside roots all);
      stays = stays_both inv.stays done.stays;
      kept = only_reads_both inv.kept done.kept;
      faults = done.faults ∙ inv.faults;
    }

use Rattle.std.proofs.Common.{◌≡◌, ℕ, ◌+◌, ◌-◌, ◌*◌, ◌<◌, ◌≤◌, min, List, length, get_or, IfSome, Option, true, refl, sym, ◌∙◌, subst}
use Rattle.std.proofs.lemmas.List.{get_or-map, length-map}
use Rattle.std.proofs.lemmas.Option.{IfSome_then}
use Rattle.pd_kinds.proofs.CrashLemmas.{stays}
use Rattle.pd_image.proofs.CrashLemmas.{only_reads_both}
use Rattle.pd_draft.proofs.DraftLemmas.{keeps_place}
use Rattle.pd_answers.specs.Writebacks.{CachedBlock, stands_for}
use Rattle.pd_writeback.specs.declared.hot.HotBlock.{HotBlock}
use Rattle.pd_writeback.specs.Copied.{IsCopied}
use Rattle.pd_writeback.specs.Plan.{cached_of_hot, cached_all}
use Rattle.pd_writeback.specs.Room.{Fits}
use Rattle.pd_writeback.proofs.OverlaidLemmas.{kept_more, one_stands, overlaid_more, overlaid_start, stands_some}
use Rattle.pd_writeback.proofs.copying.copy_hot.Goals as goal

-- no block
abbrev no_block : HotBlock
no_block = record { cache_block = 0; origin_block = 0 }

-- one among the cached blocks
at_hot : (hot : List HotBlock) (i : ℕ) → i < length hot → get_or (cached_all hot) i (cached_of_hot no_block) ≡ cached_of_hot (get_or hot i no_block)
at_hot hot i within = get_or-map cached_of_hot hot i no_block (cached_of_hot no_block) within

inside : (hot : List HotBlock) (i : ℕ) → i < length hot → i < length (cached_all hot)
inside hot i within = rw (length-map hot cached_of_hot) within

-- what it stands for, a hot one stands for
covers : (k : ℕ) (hot : List HotBlock) (i : ℕ) → i < length hot → (b : ℕ) → stands_for k (cached_of_hot (get_or hot i no_block)) b ≡ true → stands_some k (cached_all hot) b ≡ true
covers k hot i within b stands =
    one_stands k (cached_all hot) i (cached_of_hot no_block) b (inside hot i within) (subst (λ (c : CachedBlock). stands_for k c b ≡ true) (sym (at_hot hot i within)) stands)

pub loop-one-init : goal.loop-one-init
loop-one-init g c = record {
  overlaid = λ once. overlaid_start c.args.each (g.C.Device.state c.args.fast.now).held (g.B.Device.state c.args.origin.now).held;
  crash = λ base here. stays refl refl here;
  told = refl;
  kept = record { held = refl; access = refl; path = refl; blocks = refl; history = refl };
  place = record { access = refl; path = refl; blocks = refl };
  origin_faults = refl;
  fast_faults = refl;
}

pub copy_one-requires-clause-fits : goal.copy_one-requires-clause-fits
copy_one-requires-clause-fits g c =
    let fit = c.requires.fit c.loop-one.one-index no_block c.loop-one-test.true in
    let before = c.loop-one.invariant in
    record { on_fast = rw before.kept.blocks fit.on_fast; on_origin = rw before.place.blocks fit.on_origin }

pub returns-in_err-copy_one-clause-crash : goal.returns-in_err-copy_one-clause-crash
returns-in_err-copy_one-clause-crash g c base here =
    let hot = c.args.hot.now in
    kept_more c.args.each (cached_all hot) base (c.loop-one.invariant.crash base here)
    (λ here'. c.copy_one.ensures.crash (stands_some c.args.each (cached_all hot)) base (covers c.args.each hot c.loop-one.one-index c.loop-one-test.true) here')

pub loop-one-preserved : goal.loop-one-preserved
loop-one-preserved g c =
    let hot = c.args.hot.now in
    let k = c.args.each in
    let i = c.loop-one.one-index in
    let within = c.loop-one-test.true in
    let one = get_or hot i no_block in
    let before = c.loop-one.invariant in
    let old = g.B.Device.state c.args.origin.now in
    let mid = g.B.Device.state c.loop-one.origin in
    let new = g.B.Device.state c.copy_one.new.origin in
    let fast = g.C.Device.state c.args.fast.now in
    let fit : Fits k fast.blocks old.blocks one = c.requires.fit i no_block within in
    let on_fast = IfSome_then fast.held (g.met.C.Device.measured c.args.fast.now) (λ image number. let enough = fit.on_fast in let P : ℕ → Type 0 = λ n. (one.cache_block + 1) * k ≤ n in subst P (sym number) enough) in
    let next = subst (λ (n : ℕ). IfSome fast.held (λ held. IfSome mid.held (λ m. IfSome new.held (IsCopied (one.cache_block * k) (one.origin_block * k) (min k (n - one.origin_block * k)) held m))))
    before.place.blocks
    (subst (λ (o : Option (List (List ℕ))). IfSome o (λ held. IfSome mid.held (λ m. IfSome new.held (IsCopied (one.cache_block * k) (one.origin_block * k) (min k (mid.blocks - one.origin_block * k)) held m))))
    before.kept.held c.in_ok-copy_one.ensures.copied) in
    record {
      overlaid = λ once. overlaid_more k (cached_all hot) i (cached_of_hot no_block) (cached_of_hot one) old.blocks fast.held old.held mid.held new.held (inside hot i within) (at_hot hot i within) once
          on_fast (g.met.B.Device.measured c.args.origin.now) before.told c.copy_one.ensures.told (before.overlaid once) next;
      crash = λ base here. kept_more k (cached_all hot) base (before.crash base here)
          (λ here'. c.copy_one.ensures.crash (stands_some k (cached_all hot)) base (covers k hot i within) here');
      told = c.copy_one.ensures.told ∙ before.told;
      kept = only_reads_both before.kept c.copy_one.ensures.kept;
      place = keeps_place before.place c.copy_one.ensures.place;
      origin_faults = c.in_ok-copy_one.ensures.faults.0 ∙ before.origin_faults;
      fast_faults = c.in_ok-copy_one.ensures.faults.1 ∙ before.fast_faults;
    }

use Rattle.std.proofs.Common.{◌≡◌, ℕ, List, true, false, refl, sym, ◌∙◌, subst, arith}
use Rattle.std.proofs.lemmas.Result.{err_from_is_err_and}
use Rattle.std.proofs.lemmas.Option.{IfSome_then}
use Rattle.std.specs.List.Sorted.{IsPermutation}
use Rattle.std.proofs.lemmas.List.Sorted.{IsPermutation-map}
use Rattle.pd_answers.specs.Writebacks.{CachedBlock, blocks_each}
use Rattle.pd_writeback.specs.Plan.{cached_of_hot, cached_all}
use Rattle.pd_writeback.specs.Room.{ArePlaces}
use Rattle.pd_writeback.proofs.PlanLemmas.{found_in, found_size, no_room, parts_in, sorted_fit}
use Rattle.pd_writeback.proofs.PlanLemmas.{hot_in}
use Rattle.pd_writeback.proofs.plan.Plan.with_super.Goals as goal

pub returns-then-is_block_size_bad-clause-plans : goal.returns-then-is_block_size_bad-clause-plans
returns-then-is_block_size_bad-clause-plans g c =
    let held = (g.A.Device.state c.args.meta.now).held in
    let s = c.read_cache_super-s.result in
    let of = rw c.deref.ensures at c.read_cache_super-s.ensures in (
      s.block_size,
      hot_in held,
      record {
        found = found_size c.rows_are_the_entries.ensures c.args.super_block.value.0 s of held c.requires.sound;
        bad = sym c.is_block_size_bad.ensures ∙ c.if-is_block_size_bad.true;
      },
    )

pub returns-in_err-look_at_room-clause-plans : goal.returns-in_err-look_at_room-clause-plans
returns-in_err-look_at_room-clause-plans g c =
    let old = g.A.Device.state c.args.meta.now in
    let s = c.read_cache_super-s.result in
    let of = rw c.deref.ensures at c.read_cache_super-s.ensures in
    let hot = cached_all c.in_ok-hot.hot.items in
    let p = err_from_is_err_and c.from_residual-in_err-look_at_room.result c.from_residual-in_err-look_at_room.ensures.1 in
    rw (p.1, p.2)
    (no_room old.held c.args.origin_blocks c.args.fast_blocks s.block_size hot c.in_err-look_at_room.field-0.0
    (found_in c.rows_are_the_entries.ensures c.args.super_block.value.0 s of hot old.held (g.met.A.Device.bytes c.args.meta.now) c.requires.sound c.in_ok-hot.ensures.hot)
    (sym c.is_block_size_bad.ensures ∙ c.if-is_block_size_bad.false) (rw c.as_slice.ensures.value at c.in_err-look_at_room.ensures))

pub invariant_of-result : goal.invariant_of-result
invariant_of-result g c =
    let old = g.A.Device.state c.args.meta.now in
    let s = c.read_cache_super-s.result in
    let blocks : c.blocks-2.result ≡ old.blocks = c.blocks-2.ensures.count ∙ c.find_dirty.ensures.kept.blocks in
    record {
      some = let least = c.requires.some in omega arith;
      fit = sorted_fit (blocks_each s.block_size) c.args.fast_blocks c.args.origin_blocks c.in_ok-hot.hot.items c.sort_by_origin.new.hot.items c.sort_by_origin.ensures (rw c.as_slice.ensures.value at c.in_ok-look_at_room.ensures);
      are_places = subst (λ (n : ℕ). ArePlaces n c.in_ok-hot.places.items) (sym blocks) c.in_ok-hot.ensures.places;
    }

pub returns-clause-plans : goal.returns-clause-plans
returns-clause-plans g c =
    let old = g.A.Device.state c.args.meta.now in
    let s = c.read_cache_super-s.result in
    let of = rw c.deref.ensures at c.read_cache_super-s.ensures in
    let hot = cached_all c.in_ok-hot.hot.items in
    let moved : IsPermutation hot (cached_all c.sort_by_origin.new.hot.items) = IsPermutation-map cached_of_hot c.in_ok-hot.hot.items c.sort_by_origin.new.hot.items c.sort_by_origin.ensures in (
      s.block_size,
      hot,
      record {
        found = found_in c.rows_are_the_entries.ensures c.args.super_block.value.0 s of hot old.held (g.met.A.Device.bytes c.args.meta.now) c.requires.sound c.in_ok-hot.ensures.hot;
        whole = sym c.is_block_size_bad.ensures ∙ c.if-is_block_size_bad.false;
        room = rw c.as_slice.ensures.value at c.in_ok-look_at_room.ensures;
        each = refl;
        same = moved;
        of = IfSome_then old.held
            (parts_in c.rows_are_the_entries.ensures c.args.super_block.value.0 s of hot c.places_are_those_of_one_tree.ensures c.in_ok-hot.places.items old.blocks old.held
            (g.met.A.Device.bytes c.args.meta.now) (g.met.A.Device.measured c.args.meta.now) c.requires.sound c.in_ok-hot.ensures.hot c.in_ok-hot.ensures.named)
            (λ image parts. record {
              super_block = parts.super_block;
              version = parts.version;
              each = parts.each;
              hot = subst (λ (cs : List CachedBlock). IsPermutation cs (cached_all c.sort_by_origin.new.hot.items)) parts.hot_is moved;
              places = parts.named;
            });
        meta_blocks = c.blocks-2.ensures.count ∙ c.find_dirty.ensures.kept.blocks;
        origin_blocks = refl;
        fast_blocks = refl;
      },
    )

use Rattle.std.proofs.Common.{◌≡◌, ◌+◌, ◌∙◌, ℕ, List, ap, arith, subst, sym}
use Rattle.pd_kinds.specs.Trees.{value_of_key}
use Rattle.pd_kinds.proofs.ResultLemmas.{if_maps}
use Rattle.pd_value.specs.declared.space_map.IndexEntry.{IndexEntry}
use Rattle.pd_smap.specs.Overflow.{data_place, overflow_of, place_in}
use Rattle.pd_smap.specs.Steps.{IsAhead}
use Rattle.pd_smap.proofs.OverflowLeftLemmas.{all_ahead}
use Rattle.pd_uses.proofs.stored.StoredCounts.start.Goals as goal

pub returns-clause-left : goal.returns-clause-left
returns-clause-left g c =
    let map = c.args.map.now in
    if_maps (g.D.Device.state c.args.dev.now).held _ _ (λ image items searchable bitmap. record {
      bits = λ b from below. absurd (omega (arith, below));
      places = λ i.
          let none : i ≡ 0 + i = omega arith in
          ap (λ (xs : List (ℕ × IndexEntry)). place_in xs i) (c.in_ok-index.ensures.items image) ∙ ap (data_place map.bitmap_root image) none;
      ahead = subst (IsAhead 0 (value_of_key (overflow_of image map.overflow_root))) (sym items) (all_ahead image map.overflow_root searchable);
    }) c.in_ok-overflow.ensures.items

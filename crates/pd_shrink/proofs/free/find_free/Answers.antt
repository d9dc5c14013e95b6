use Rattle.std.proofs.Common.{ℕ, List, ap, refl}
use Rattle.pd_kinds.proofs.ResultLemmas.{if_maps}
use Rattle.pd_value.specs.declared.space_map.IndexEntry.{IndexEntry}
use Rattle.pd_tree.specs.Cursor.{cursor_items}
use Rattle.pd_smap.specs.Overflow.{index_from, place_in}
use Rattle.pd_shrink.proofs.SearchLemmas.{all_found, first_found}
use Rattle.pd_shrink.proofs.free.find_free.Goals as goal

pub returns-clause-number : goal.returns-clause-number
returns-clause-number g c =
    if_maps (g.A.Device.state c.args.meta.now).held _ _ (λ image holds blocks index searchable within. (holds blocks index searchable within).number)
    (all_found c.args.wanted (λ image. place_in (cursor_items 16 index_from image c.in_ok-index.index)) c.args.map.now c.args.end (g.A.Device.state c.args.meta.now).held _ _ c.in-Ok.ensures.kept.held
    (λ image i. ap (λ (items : List (ℕ × IndexEntry)). place_in items i) (c.in_ok-index.ensures.items image)) c.in-Ok.ensures.items refl c.new.ensures.items c.in_ok-gather.ensures.searched)

pub returns-clause-first : goal.returns-clause-first
returns-clause-first g c =
    if_maps (g.A.Device.state c.args.meta.now).held _ _ (λ image holds blocks index searchable within. (holds blocks index searchable within).first)
    (all_found c.args.wanted (λ image. place_in (cursor_items 16 index_from image c.in_ok-index.index)) c.args.map.now c.args.end (g.A.Device.state c.args.meta.now).held _ _ c.in-Ok.ensures.kept.held
    (λ image i. ap (λ (items : List (ℕ × IndexEntry)). place_in items i) (c.in_ok-index.ensures.items image)) c.in-Ok.ensures.items refl c.new.ensures.items c.in_ok-gather.ensures.searched)

pub returns-clause-below : goal.returns-clause-below
returns-clause-below g c = (first_found c.args.wanted _ c.args.end _ _ refl c.new.ensures.items c.in_ok-gather.ensures.searched).below

pub returns-clause-ascend : goal.returns-clause-ascend
returns-clause-ascend g c = (first_found c.args.wanted _ c.args.end _ _ refl c.new.ensures.items c.in_ok-gather.ensures.searched).ascend

pub returns-clause-few : goal.returns-clause-few
returns-clause-few g c = (first_found c.args.wanted _ c.args.end _ _ refl c.new.ensures.items c.in_ok-gather.ensures.searched).few

pub returns-clause-most : goal.returns-clause-most
returns-clause-most g c = (first_found c.args.wanted _ c.args.end _ _ refl c.new.ensures.items c.in_ok-gather.ensures.searched).most

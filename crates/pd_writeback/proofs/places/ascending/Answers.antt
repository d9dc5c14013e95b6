use Rattle.std.proofs.Common.{◌∙◌, ap, sym, arith, ℕ, ◌++◌, List, cond, [], ◌∷◌, false, get_or, filter, ◌≡◌, length}
use Rattle.std.specs.List.{range_with_len}
use Rattle.pd_writeback.specs.Room.{seen_places}
use Rattle.pd_writeback.proofs.PlacesLemmas.{filter_more}
use Rattle.pd_writeback.proofs.places.ascending.Goals as goal

pub loop-b-preserved : goal.loop-b-preserved
loop-b-preserved c =
    let seen = c.args.seen.now in
    let b = c.loop-b.b in
    c.in_ok-add_if_seen.ensures
    ∙ (ap (λ (xs : List ℕ). xs ++ cond (get_or seen b false) (b ∷ []) []) c.loop-b.invariant
    ∙ sym (filter_more (λ i. get_or seen i false) b))

pub returns : goal.returns
unfolding seen_places
returns c =
    let all : c.loop-b.b ≡ length c.args.seen.now = omega arith in
    c.loop-b.invariant ∙ ap (λ (n : ℕ). filter (λ i. get_or c.args.seen.now i false) (range_with_len 0 n)) all

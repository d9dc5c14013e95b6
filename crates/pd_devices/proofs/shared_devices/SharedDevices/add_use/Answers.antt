use Rattle.std.proofs.Common.{◌≡◌, ◌<◌, ◌∙◌, refl, arith, ap, get_or, length, subst, List, [], ◌∷◌, ℕ}
use Rattle.std.proofs.lemmas.List.{get_or_read, length-map}
use Rattle.pd_draft.specs.DraftState.{draft_state}
use Rattle.pd_grammar.specs.ThinText.{Run, data_blocks_of, end_of, least_of, piece_end, runs_of_leaf}
use Rattle.pd_grammar.specs.ThinText as text
use Rattle.pd_devices.specs.Told.{ended_leaf, leaf_items, open_runs, own_piece, whole_leaves, with_pieces}
use Rattle.pd_devices.specs.SharedGrowth.{Grown}
use Rattle.pd_devices.specs.SharedGrowth.{held_runs}
use Rattle.pd_laid.specs.Shape.{shared}
use Rattle.pd_devices.proofs.RoomLemmas.{uses_few}
use Rattle.pd_devices.proofs.GatherLemmas.{device_case, device_held, held_is}
use Rattle.pd_devices.proofs.RowLemmas.{on_ok_three}
use Rattle.pd_devices.proofs.PieceLemmas.{held_can}
use Rattle.pd_devices.proofs.RoomLemmas.{device_room, parts_within}
use Rattle.pd_devices.proofs.UseLemmas.{gathered_use, not_used, used_leaf}
use Rattle.pd_devices.proofs.shared_devices.SharedDevices.add_use.Goals as goal

pub use_leaf-requires-clause-can : goal.use_leaf-requires-clause-can
use_leaf-requires-clause-can g c =
    let so_far = c.requires.gathered.so_far in
    let h = so_far.gathered in
    held_can (device_held h (device_case c.in-Some.growing h c.in-Some.is)) h.counts.small

pub use_leaf-requires-clause-number : goal.use_leaf-requires-clause-number
use_leaf-requires-clause-number g c = held_is c.requires.gathered.so_far.gathered

pub use_leaf-requires-clause-few : goal.use_leaf-requires-clause-few
use_leaf-requires-clause-few g c =
    let so_far = c.requires.gathered.so_far in
    let h = so_far.gathered in
    let found = device_case c.in-Some.growing h c.in-Some.is in
    let room = device_room found.device found.runs c.in-Some.growing h found.opens found.is so_far.need so_far.most in
    omega (arith, room.few)

pub use_leaf-requires-clause-room : goal.use_leaf-requires-clause-room
use_leaf-requires-clause-room g c =
    let so_far = c.requires.gathered.so_far in
    let h = so_far.gathered in
    let found = device_case c.in-Some.growing h c.in-Some.is in
    let room = device_room found.device found.runs c.in-Some.growing h found.opens found.is so_far.need so_far.most in
    omega (arith, room.room_is, so_far.there)

pub returns-in-None-clause-gathered : goal.returns-in-None-clause-gathered
returns-in-None-clause-gathered g c room before start h next = absurd (not_used c.args.number h c.in-None.is next)

pub count_use-requires-clause-within : goal.count_use-requires-clause-within
count_use-requires-clause-within g c =
    let so_far = c.requires.gathered.so_far in
    omega (arith, so_far.gathered.counts.uses_size, c.requires.gathered.follows.told, parts_within so_far.room so_far.before, so_far.need)

pub count_use-requires-clause-few : goal.count_use-requires-clause-few
count_use-requires-clause-few g c =
    let so_far = c.requires.gathered.so_far in
    uses_few so_far.gathered so_far.need so_far.most

pub returns-clause-gathered : goal.returns-clause-gathered
returns-clause-gathered g c room before start h next =
    let n = c.args.number in
    let o = c.in-Some.growing in
    let found = device_case o h c.in-Some.is in
    let none = ap ended_leaf found.opens in
    let leaf = used_leaf n h none next.told in
    let did = c.in_ok-use_leaf-in-Some.ensures in
    let firsts : get_or c.args.self.now.firsts.items n 0 ≡ least_of (runs_of_leaf before n) = ap (λ (xs : List ℕ). get_or xs n 0) h.leaves.firsts ∙ leaf.listed in
    let inside : n < length c.args.self.now.firsts.items = omega (arith, leaf.within, ap (λ (xs : List ℕ). length xs) h.leaves.firsts, length-map (whole_leaves before) least_of) in
    let least : c.index-least.result.now ≡ least_of (runs_of_leaf before n) =
    get_or_read c.args.self.now.firsts.items n c.index-least.result.now inside c.index-least.ensures 0 ∙ firsts in
    let runs_are : held_runs c.args.self.now.held ≡ found.runs = h.held.runs_are ∙ ap open_runs found.opens in
    let items = leaf_items (whole_leaves before) in
    let so_far = c.requires.gathered.so_far in
    let small : n < room =
    omega (arith, h.counts.uses_size, so_far.gathered.counts.uses_size, c.requires.gathered.follows.told, parts_within so_far.room so_far.before, so_far.need) in
    let grown = did.grown items found.device (data_blocks_of before) found.is.low (piece_end before) (end_of (runs_of_leaf before n)) h.behind found.is.grown (device_held h found)
    (omega (arith, next.above, least)) (omega (arith, leaf.below, least)) (least ∙ leaf.first) in
    on_ok_three c.count_use.result c.count_use.ensures.size c.count_use.ensures.total (c.count_use.ensures.listed (text.uses_of before) h.counts.uses_counted)
    (λ size total counted. gathered_use before c.args.self.now _ n o _ h next found small refl size total counted refl refl refl refl refl did.none refl
    (subst (λ (rs : List Run). Grown items (with_pieces (shared n ∷ []) (with_pieces (own_piece rs) found.device)) (end_of (runs_of_leaf before n)) c.use_leaf.new.growing h.behind (draft_state c.use_leaf.new.draft)) runs_are grown))

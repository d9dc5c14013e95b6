use Rattle.std.proofs.Common.{◌≡◌, ◌↔◌, ℕ, ◌≤◌, nat_le, Option, Some, IfSome, IsTrue, ap, sym, ◌∙◌, le-leb, leb-true}
use Rattle.pd_kinds.specs.declared.superblocks.SmRoot.{SmRoot}
use Rattle.pd_kinds.specs.Bitmap.{bitmaps_for}
use Rattle.pd_check.specs.declared.metadata.DataSpace.{DataSpace}
use Rattle.pd_check.specs.Check.{data_space_of, graph_of_super}
use Rattle.pd_check.proofs.CountLemmas.{map_number}
use Rattle.pd_check.proofs.counts.claims_few.Goals as goal

tested : (claimed : Option DataSpace) (space : DataSpace) (bitmaps blocks nr : ℕ) → claimed ≡ Some space → bitmaps ≡ bitmaps_for space.root.blocks → blocks ≡ nr
    → IsTrue (nat_le bitmaps blocks) ↔ IfSome claimed (λ space. bitmaps_for space.root.blocks ≤ nr)
tested claimed space bitmaps blocks nr is number same =
    rw (is, number, same) (leb-true (bitmaps_for space.root.blocks) nr, le-leb (bitmaps_for space.root.blocks) nr)

pub returns-in-Some : goal.returns-in-Some
returns-in-Some g c =
    let kind = g.M.Metadata.kind in
    let first = c.args.first.now.0 in
    tested (data_space_of kind first) c.in-Some.space c.bitmaps_for.result c.meta_map.result.blocks (graph_of_super kind first).nr
    (sym c.data_space.ensures.space ∙ c.in-Some.is) c.bitmaps_for.ensures
    (ap (λ (root : SmRoot). root.blocks) c.meta_map.ensures ∙ map_number kind first)

use Rattle.std.proofs.Common.{ℕ, List, sym, ◌∙◌, ap, subst, arith}
use Rattle.pd_draft.specs.Closed.{Wrote}
use Rattle.pd_draft.specs.DraftState.{draft_state}
use Rattle.pd_build.proofs.TreeLemmas.{on_ok}
use Rattle.pd_count.specs.Counted.{count_of}
use Rattle.pd_smwrite.specs.Map.{meta_map_blocks, meta_map_need}
use Rattle.pd_smwrite.proofs.MapLemmas.{meta_laid, need_same}
use Rattle.pd_smwrite.proofs.OwnLemmas.{own_at}
use Rattle.pd_smwrite.proofs.meta.write_meta_map.Goals as goal

pub write_counted-requires-clause-room : goal.write_counted-requires-clause-room
write_counted-requires-clause-room g c =
    let old = c.args.counts.now in
    let new = c.count_own.new.counts in
    let own = own_at c.next.ensures c.meta_map_number-number.ensures c.in_ok-count_own.ensures.counted in
    let same = ap (meta_map_need (count_of new)) own.size ∙ need_same c.args.draft.now.next old.size old new own c.requires.none in
    omega (arith, c.requires.room)

pub returns-clause-laid : goal.returns-clause-laid
returns-clause-laid g c =
    let old = c.args.counts.now in
    let new = c.count_own.new.counts in
    let place = c.args.draft.now.next in
    let own = own_at c.next.ensures c.meta_map_number-number.ensures c.in_ok-count_own.ensures.counted in
    on_ok c.write_counted.result
    (λ wrote role named counted.
    subst (λ (blocks : List (List ℕ)). Wrote blocks (draft_state c.args.draft.now) (draft_state c.write_counted.new.draft))
    (ap (λ (n : ℕ). meta_map_blocks (count_of new) n place) own.size ∙ sym (meta_laid role old.size place named old new own c.requires.none counted)) wrote)
    c.write_counted.ensures.wrote

use Rattle.std.proofs.Common.{◌∷◌, ap, drop, refl, sym, take, ◌∙◌}
use Rattle.pd_grammar.specs.ThinText.{Line}
use Rattle.pd_restore.specs.declared.shape_lines.LeafLines.{LeafLines}
use Rattle.pd_restore.specs.ShapeLines.{leaf_lines}
use Rattle.pd_restore.proofs.ShapeLineLemmas.{begun_behind_runs, begun_in_runs, leaf_next, leaf_run, no_leaf, none_in, none_in_runs}
use Rattle.pd_restore.proofs.shape_lines.LeafLines.next.Goals as goal

pub returns-in-Some-clause-some : goal.returns-in-Some-clause-some
returns-in-Some-clause-some c =
    let old = c.args.self.now in
    let h = c.args.saved.now in
    let new : LeafLines = record { leaves = old.leaves; runs = c.next.new.self } in
    leaf_run old new h c.in-Some.run' (rw c.leaf_runs.ensures at c.in-Some.ensures.some) (rw c.leaf_runs.ensures at c.next.ensures.behind) refl
    ∙ ap (λ (line : Line). line ∷ leaf_lines new h) (sym c.map_line.ensures)

pub returns-in-Some-next-clause-some : goal.returns-in-Some-next-clause-some
returns-in-Some-next-clause-some c =
    let old = c.args.self.now in
    let h = c.args.saved.now in
    let mid = c.next.new.self in
    let leaf = c.in-Some-next.leaf.now in
    let new : LeafLines = record { leaves = c.next-2.new.self; runs = record { at = mid.at; left = leaf.runs } } in
    let ended = c.in_default.ensures.ended in
    let same = rw c.leaf_runs.ensures at c.next.ensures.behind in
    leaf_next old new h leaf (rw c.leaf_runs.ensures at c.in_default.ensures.none)
    (begun_in_runs mid new.runs h.leaf_runs ended refl ∙ ap (take leaf.runs) same) (begun_behind_runs mid new.runs h.leaf_runs ended refl ∙ ap (drop leaf.runs) same)
    (rw c.leaves.ensures at c.in-Some-next.ensures.some) c.in-Some-next.ensures.at

pub returns-in-None-clause-none : goal.returns-in-None-clause-none
returns-in-None-clause-none c =
    no_leaf c.args.self.now c.args.saved.now (rw c.leaf_runs.ensures at c.in_default.ensures.none) (rw c.leaves.ensures at c.in-None.ensures.none)

pub returns-in-None-clause-ended : goal.returns-in-None-clause-ended
returns-in-None-clause-ended c =
    let h = c.args.saved.now in
    no_leaf (record { leaves = c.next-2.new.self; runs = c.next.new.self }) h
    (none_in_runs c.next.new.self h.leaf_runs c.in_default.ensures.ended) (none_in c.next-2.new.self h.leaves c.in-None.ensures.ended)

use Rattle.std.proofs.Common.{◌∙◌, ℕ, List, get_or, length, sym, ap, subst}
use Rattle.pd_count.specs.Counted.{Grouped, IsPlace, PutsInGroup, chunk_of}
use Rattle.pd_count.proofs.PlaceLemmas.{adds_in_made, chunk_missing, chunk_read, first_count}
use Rattle.pd_count.proofs.group.Group.saturating_add.Goals as goal

pub returns-in_default-clause-before : goal.returns-in_default-clause-before
returns-in_default-clause-before c = ap (λ (xs : List ℕ). get_or xs c.args.at 0) (sym (chunk_missing c.args.self.now c.args.i c.in_default.ensures))

pub returns-in_default-clause-added : goal.returns-in_default-clause-added
returns-in_default-clause-added c =
    subst (λ (n : ℕ). PutsInGroup c.args.i c.args.at n c.args.self.now c.begin.new.self) (first_count c.args.self.now c.args.i c.args.at c.in_default.ensures)
    c.in_ok-begin.ensures.put

pub returns-clause-before : goal.returns-clause-before
returns-clause-before c =
    let stands = subst (λ (g : Grouped). IsPlace g.made (length g.chunks) c.args.i c.in-Some.place) (sym c.self.view_is) c.in-Some.ensures in
    let read = chunk_read c.self.inside.made c.self.inside.chunks.items c.args.i c.in-Some.place c.index_mut.result.now stands c.index_mut.ensures.value in
    c.in_ok-before.ensures.before ∙ ap (λ (xs : List ℕ). get_or xs c.args.at 0) (sym read ∙ ap (λ (g : Grouped). chunk_of g c.args.i) c.self.view_is)

pub returns-clause-added : goal.returns-clause-added
returns-clause-added c =
    let stands = subst (λ (g : Grouped). IsPlace g.made (length g.chunks) c.args.i c.in-Some.place) (sym c.self.view_is) c.in-Some.ensures in
    rw (← c.self.view_is)
    (adds_in_made c.self.inside.made c.self.inside.chunks.items c.args.i c.args.at c.in-Some.place c.index_mut.result.now c.saturating_add.new.self stands
    c.index_mut.ensures.value c.in_ok-before.ensures.added)

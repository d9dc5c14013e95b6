use Rattle.std.proofs.Common.{◌≡◌, ◌∙◌, ◌+◌, ◌<◌, ℕ, List, get_or, length, set, sym, ap, subst}
use Rattle.pd_count.specs.Counted.{Grouped, IsPlace, PutsInGroup, chunk_of}
use Rattle.pd_count.proofs.PlaceLemmas.{chunk_missing, chunk_read, puts_in_made}
use Rattle.pd_count.proofs.group.Group.note.Goals as goal
use Rattle.pd_count.proofs.group.Group.note.Goals.{In_ok-note}

-- the number that was put is the number of the place
puts_it : (i at n : ℕ) (old new : Grouped) → PutsInGroup i at n old new → PutsInGroup i at (get_or (chunk_of new i) at 0) old new
puts_it i at n old new puts = subst (λ (m : ℕ). PutsInGroup i at m old new) (sym puts.put.put) puts

stands : (c : In_ok-note) → IsPlace c.self.inside.made (length c.self.inside.chunks.items) c.args.i c.in-Some.place
stands c = subst (λ (g : Grouped). IsPlace g.made (length g.chunks) c.args.i c.in-Some.place) (sym c.self.view_is) c.in-Some.ensures

puts : (c : In_ok-note)
    → PutsInGroup c.args.i c.args.at (get_or c.note.new.self c.args.at 0) (record { made = c.self.inside.made; chunks = c.self.inside.chunks.items })
    (record { made = c.self.inside.made; chunks = set c.self.inside.chunks.items c.in-Some.place c.note.new.self })
puts c =
    puts_in_made c.self.inside.made c.self.inside.chunks.items c.args.i c.args.at (get_or c.note.new.self c.args.at 0) c.in-Some.place c.index_mut.result.now c.note.new.self (stands c)
    c.index_mut.ensures.value c.in_ok-note.ensures.others

pub returns-clause-others : goal.returns-clause-others
returns-clause-others c =
    rw (← c.self.view_is)
    (puts_it c.args.i c.args.at (get_or c.note.new.self c.args.at 0) (record { made = c.self.inside.made; chunks = c.self.inside.chunks.items })
    (record { made = c.self.inside.made; chunks = set c.self.inside.chunks.items c.in-Some.place c.note.new.self }) (puts c))

pub returns-clause-added : goal.returns-clause-added
returns-clause-added c = λ few.
    let same : c.index_mut.result.now ≡ chunk_of c.args.self.now c.args.i =
    sym (chunk_read c.self.inside.made c.self.inside.chunks.items c.args.i c.in-Some.place c.index_mut.result.now (stands c) c.index_mut.ensures.value)
    ∙ ap (λ (g : Grouped). chunk_of g c.args.i) c.self.view_is in
    (puts c).put.put
    ∙ (c.in_ok-note.ensures.added (subst (λ (xs : List ℕ). get_or xs c.args.at 0 < 4294967295) (sym same) few)
    ∙ ap (λ (xs : List ℕ). get_or xs c.args.at 0 + 1) same)

-- the first number of a chunk is one more than none
pub returns-in_default-clause-others : goal.returns-in_default-clause-others
returns-in_default-clause-others c = puts_it c.args.i c.args.at 1 c.args.self.now c.begin.new.self c.in_ok-begin.ensures.put

pub returns-in_default-clause-added : goal.returns-in_default-clause-added
returns-in_default-clause-added c = λ few.
    c.in_ok-begin.ensures.put.put.put
    ∙ sym (ap (λ (xs : List ℕ). get_or xs c.args.at 0 + 1) (chunk_missing c.args.self.now c.args.i c.in_default.ensures))

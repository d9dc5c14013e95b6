use Rattle.std.proofs.Common.{◌∙◌, sym, ap, ◌+◌, ◌/◌, ◌%◌, ◌<◌, ℕ, arith, get_or, length, refl, slice_set, length-set, subst}
use Rattle.pd_count.specs.Counted.{Counted, CountsOneMore, PutsNumber, chunk_of, count_of}
use Rattle.pd_count.specs.Counted.{chunks_in}
use Rattle.pd_count.proofs.CountLemmas.{counts_listed, none_past}
use Rattle.pd_count.proofs.GroupLemmas.{count_in_group, group_puts}
use Rattle.pd_count.proofs.counts.Counts.note.Goals as goal
use Rattle.pd_count.proofs.counts.Counts.note.Goals.{In_ok-note}

-- in the fields
puts : (c : In_ok-note) → (let old : Counted = record { size = c.self.inside.size; chunks = chunks_in c.self.inside.groups.items } in
    let new : Counted = record { size = c.self.inside.size; chunks = chunks_in (slice_set c.self.inside.groups.items (c.args.b / 16320 / 64) c.note.new.self) } in
    PutsNumber c.args.b (get_or (chunk_of c.note.new.self (c.args.b / 16320 % 64)) (c.args.b % 16320) 0) old new)
puts c =
    let within : c.args.b / 16320 / 64 < length c.self.inside.groups.items = omega (arith, ap (λ (t : Counted). t.size) c.self.view_is, c.self.invariant.0, c.requires) in
    group_puts c.self.inside.size c.self.inside.groups.items c.args.b _ c.index_mut.result.now c.note.new.self within c.index_mut.ensures.value
    c.in_ok-note.ensures.others

adds : (c : In_ok-note) → (let old : Counted = record { size = c.self.inside.size; chunks = chunks_in c.self.inside.groups.items } in
    let new : Counted = record { size = c.self.inside.size; chunks = chunks_in (slice_set c.self.inside.groups.items (c.args.b / 16320 / 64) c.note.new.self) } in
    count_of old c.args.b < 4294967295 → CountsOneMore c.args.b old new)
adds c few =
    let within : c.args.b / 16320 / 64 < length c.self.inside.groups.items = omega (arith, ap (λ (t : Counted). t.size) c.self.view_is, c.self.invariant.0, c.requires) in
    let was = count_in_group c.self.inside.size c.self.inside.groups.items c.args.b c.index_mut.result.now within c.index_mut.ensures.value in
    record {
      size = refl;
      counted = (puts c).put ∙ (c.in_ok-note.ensures.added (subst (λ (n : ℕ). n < 4294967295) was few) ∙ ap (λ (n : ℕ). n + 1) (sym was));
      others = (puts c).others;
    }

pub invariant_of-self-2 : goal.invariant_of-self-2
invariant_of-self-2 c = (
  length-set c.self.inside.groups.items (c.args.b / 16320 / 64) c.note.new.self ∙ c.self.invariant.0,
  none_past c.args.b c.self.inside.size _ _ (omega (arith, ap (λ (t : Counted). t.size) c.self.view_is, c.requires)) (puts c).others c.self.invariant.1,
)

pub returns-clause-others : goal.returns-clause-others
returns-clause-others c = rw (← c.self.view_is) (let p = puts c in record { size = p.size; put = refl; others = p.others })

pub returns-clause-added : goal.returns-clause-added
returns-clause-added c = rw (← c.self.view_is) (adds c)

pub returns-clause-listed : goal.returns-clause-listed
returns-clause-listed c = rw (← c.self.view_is) (λ few. counts_listed c.args.b _ _ (adds c few))

use Rattle.std.proofs.Common.{◌≡◌, ℕ, not, ◌&&◌, ◌||◌, nat_eq, get_or, false, refl, sym, subst, ◌∙◌, arith}
use Rattle.std.specs.List.{list_any, range_with_len}
use Rattle.std.proofs.lemmas.Bool.{and_left}
use Rattle.pd_kinds.specs.Node.{child_at, entry_count, is_inner_node}
use Rattle.pd_salvage_cache.proofs.FullerLemmas.{child_more, marks_inner, marks_none}
use Rattle.pd_salvage_cache.proofs.candidates.mark_children.Goals as goal

pub loop-i-init : goal.loop-i-init
loop-i-init c = record {
  marked = λ d within. marks_none (get_or c.args.marks.now d false) (not (nat_eq c.args.place d)) false refl;
  number = refl;
}

pub loop-i-preserved : goal.loop-i-preserved
loop-i-preserved c =
    let inv = c.loop-i.invariant in
    record {
      marked = λ d within.
          child_more (λ i. nat_eq (child_at c.args.block.now.0 i) d) c.loop-i.i (get_or c.args.marks.now d false) (get_or c.loop-i.marks d false) (get_or c.mark.new.marks d false)
          (not (nat_eq c.args.place d)) (inv.marked d within) (rw c.child.ensures at (c.mark.ensures.marks d (omega arith)));
      number = c.mark.ensures.number ∙ inv.number;
    }

pub returns-after-loop-i-clause-marks : goal.returns-after-loop-i-clause-marks
returns-after-loop-i-clause-marks c = λ d within.
    let block = c.args.block.now.0 in
    let old = get_or c.args.marks.now d false in
    let other = not (nat_eq c.args.place d) in
    let names = λ (n : ℕ). list_any (λ i. nat_eq (child_at block i) d) (range_with_len 0 n) in
    let all : c.loop-i.i ≡ entry_count 8 block = omega (arith, c.loop-i.auto.i-end, c.loop-i-test.false, c.entries-i-end.ensures) in
    marks_inner (get_or c.loop-i.marks d false) old other (is_inner_node block) (names (entry_count 8 block)) (sym c.is_inner.ensures ∙ c.if-is_inner.true)
    (subst (λ (n : ℕ). get_or c.loop-i.marks d false ≡ (old || (other && names n))) all (c.loop-i.invariant.marked d within))

pub returns-else-is_inner-clause-marks : goal.returns-else-is_inner-clause-marks
returns-else-is_inner-clause-marks c = λ d within.
    let block = c.args.block.now.0 in
    let leaf = sym c.is_inner.ensures ∙ c.if-is_inner.false in
    marks_none (get_or c.args.marks.now d false) (not (nat_eq c.args.place d)) _ (and_left (is_inner_node block) (list_any (λ i. nat_eq (child_at block i) d) (range_with_len 0 (entry_count 8 block))) leaf)

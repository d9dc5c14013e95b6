use Rattle.std.proofs.Common.{◌≡◌, refl, arith, inl, inr}
use Rattle.std.proofs.lemmas.Bool.{cases_lt}
use Rattle.pd_kinds.specs.Node.{is_ascending, key_at}
use Rattle.pd_node.proofs.Shape.{ascending_more}
use Rattle.pd_node.proofs.read.are_neighbours_ascending.Goals as goal

pub loop-i-init : goal.loop-i-init
unfolding is_ascending
loop-i-init c = record { so_far = refl; none = λ _. refl }

pub loop-i-preserved : goal.loop-i-preserved
loop-i-preserved c =
    let more = ascending_more (key_at c.args.block.now.0) c.loop-i.i (omega arith) in
    record {
      so_far = rw (more, c.u64_at-before.ensures, c.u64_at-key.ensures, ← c.loop-i.invariant.so_far) refl;
      none = λ none. absurd (omega arith);
    }

pub returns : goal.returns
unfolding is_ascending
returns c = elim (cases_lt 0 c.args.count) [
  | inl some ↦
      let all : c.loop-i.i ≡ c.args.count = omega arith in
      rw (← all) c.loop-i.invariant.so_far
  | inr empty ↦
      let none : c.args.count ≡ 0 = omega arith in
      let first = c.loop-i.invariant.none none in
      let so_far = rw first at c.loop-i.invariant.so_far in
      rw none so_far
]

use Rattle.std.proofs.Common.{ℕ, ◌<◌, arith}
use Rattle.pd_graph.specs.Notes.{size_of}
use Rattle.pd_damaged.specs.Loose.{is_listed}
use Rattle.pd_damaged.proofs.PushLemmas.{inside_push, listed_push}
use Rattle.pd_damaged.proofs.marks.LooseNodes.listed.Goals as goal

pub loop-b-preserved : goal.loop-b-preserved
loop-b-preserved c =
    let inv = c.loop-b.invariant in
    let here : c.loop-b.b < size_of c.args.notes.now = omega (arith, c.loop-b-test.true, c.nr-b-end.ensures) in
    record {
      listed = listed_push (is_listed c.args.self.now c.args.notes.now c.args.sound_too) c.loop-b.b c.loop-b.found.items c.push_if.new.found.items c.is_listed.result
          inv.listed c.is_listed.ensures c.in_ok-push_if.ensures;
      inside = inside_push (λ (b : ℕ). b < size_of c.args.notes.now) c.loop-b.found.items c.push_if.new.found.items c.loop-b.b c.is_listed.result
          inv.inside here c.in_ok-push_if.ensures;
    }

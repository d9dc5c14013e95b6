use Rattle.std.proofs.Common.{◌^◌, length, map, sym, ap, ◌∙◌, arith}
use Rattle.std.proofs.lemmas.Result.{on_ok_weaker}
use Rattle.pd_meaning_thin.specs.Packed.{ByteChunks}
use Rattle.pd_meaning_thin.proofs.ChunkLemmas.{counted-more, with_run-added, with_run-begun}
use Rattle.pd_meaning_thin.proofs.chunks.Chunks.put.Goals as goal

pub returns-then-len-clause-put : goal.returns-then-len-clause-put
returns-then-len-clause-put c =
    let tail = ap (λ (chunks : ByteChunks). length chunks.tail) c.self.view_is in
    on_ok_weaker c.begin.result
    (λ is. is ∙ sym (with_run-begun c.args.self.now c.args.before c.args.run (omega (arith, tail, c.self.inside.tail.ok))))
    c.begin.ensures.begun

pub returns-clause-put : goal.returns-clause-put
returns-clause-put c =
    let s = c.self.inside in
    on_ok_weaker c.add_run.result
    (with_run-added c.args.self.now c.args.before c.args.run (map (λ v. v.items) s.full.items) s.tail.items c.add_run.new.bytes.items
    c.self.view_is (omega (arith, s.tail.ok)))
    c.add_run.ensures.added

pub returns-clause-counted : goal.returns-clause-counted
returns-clause-counted c =
    let s = c.self.inside in
    let tail = ap (λ (chunks : ByteChunks). length chunks.tail) c.self.view_is in
    let more = counted-more (2 ^ 62) c.args.count s.tail.items c.args.before c.args.run (omega (arith, tail, c.requires)) in
    on_ok_weaker c.add_run.result (λ is. rw is more) c.add_run.ensures.added

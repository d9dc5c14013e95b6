use Rattle.std.proofs.Common.{◌≡◌, ◌*◌, ◌≤◌, true, refl, take, arith}
use Rattle.std.specs.Prelude.{Some}
use Rattle.pd_files.specs.FileCall.{gave}
use Rattle.pd_files.specs.FileCall.{place}
use Rattle.pd_files.proofs.GivenLemmas.{given_front_of_read, one_look}
use Rattle.pd_files.proofs.block_file.BlockFile.begins_run.Goals as goal

pub invariant_of-self-clause-told : goal.invariant_of-self-clause-told
invariant_of-self-clause-told g c =
    let run = c.fill.new.self in
    let stands : place c.args.self.now.file.log.calls ≡ Some (4096 * c.args.b) = c.args.self.now.stands c.args.b (grind arith) in
    let whole : 4096 * run.count ≤ c.in-Ok.came = omega (arith, c.in-Ok.ensures.count) in
    rw (c.in-Ok.ensures.first, c.in-Ok.ensures.came.1)
    (given_front_of_read run.buffer.items c.args.self.now.file.log.calls (4096 * c.args.b) c.in-Ok.came (4096 * run.count) stands whole c.in-Ok.ensures.came.0)

pub returns-in-Ok-clause-made : goal.returns-in-Ok-clause-made
returns-in-Ok-clause-made g c =
    rw c.in-Ok.ensures.came.1 (one_look (gave (take c.in-Ok.came c.fill.new.self.buffer.items) true) c.args.self.now.file.log.calls refl)

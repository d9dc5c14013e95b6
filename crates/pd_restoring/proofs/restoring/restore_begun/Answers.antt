use Rattle.std.proofs.Common.{◌∙◌, ◌<◌, ◌≤◌, ℕ, List, arith}
use Rattle.pd_restoring.proofs.RestoreLemmas.{begun_no_room, begun_unclosed, begun_result}
use Rattle.pd_restoring.proofs.restoring.restore_begun.Goals as goal

pub returns-then-need-room-clause-restored : goal.returns-then-need-room-clause-restored
returns-then-need-room-clause-restored g c from told =
    let k = g.K.Restoring.subject c.args.kind.now in
    let lines = g.K.Restoring.lines c.args.begun in
    let source = g.S.Source.state c.args.source.now in
    let IsOf : List ℕ → Type 0 = λ t. g.K.Restoring.Leaves t c.args.begun source.left in
    let old = g.D.Device.state c.args.dev.now in
    let same = c.requires.room in
    let exact = c.need-need.ensures.need in
    let less : c.args.room < c.need-need.result = omega (arith, c.if-need-room.true) in
    rw same (begun_no_room k lines IsOf from source old (λ t is. g.K.Restoring.goes_on c.args.kind.now t c.args.begun source.left (told t is)) c.need-need.result (rw same at exact) (rw same at less))

pub returns-in-Ok-clause-restored : goal.returns-in-Ok-clause-restored
returns-in-Ok-clause-restored g c from told =
    let k = g.K.Restoring.subject c.args.kind.now in
    let lines = g.K.Restoring.lines c.args.begun in
    let source = g.S.Source.state c.args.source.now in
    let IsOf : List ℕ → Type 0 = λ t. g.K.Restoring.Leaves t c.args.begun source.left in
    let old = g.D.Device.state c.args.dev.now in
    let same = c.requires.room in
    let fits : k.need c.args.room lines ≤ c.args.room = omega (arith, c.need-need.ensures.need, c.if-need-room.false) in
    begun_result k lines IsOf from (g.S.Source.state c.restore_closed.new.source) old
    (λ t is. g.K.Restoring.goes_on c.args.kind.now t c.args.begun source.left (told t is)) told (rw same at fits)
    (g.D.Device.state c.clear.new.dev) (g.D.Device.state c.restore_closed.new.dev) (c.restore_closed.ensures.told ∙ c.clear.ensures.told) c.clear.ensures.crash c.in-Ok.ensures.content (g.met.D.Device.measured c.args.dev.now)
    (g.K.Restoring.verdicts c.args.kind.now) c.restore_closed.result (rw same at c.restore_closed.ensures.tries) c.restore_closed.ensures.shut
    (λ t is. rw same at (c.restore_closed.ensures.says t (told t is))) c.restore_closed.ensures.later

pub returns-in-Err-clause-restored : goal.returns-in-Err-clause-restored
returns-in-Err-clause-restored g c from told =
    let k = g.K.Restoring.subject c.args.kind.now in
    let lines = g.K.Restoring.lines c.args.begun in
    let source = g.S.Source.state c.args.source.now in
    let IsOf : List ℕ → Type 0 = λ t. g.K.Restoring.Leaves t c.args.begun source.left in
    let old = g.D.Device.state c.args.dev.now in
    let same = c.requires.room in
    let fits : k.need c.args.room lines ≤ c.args.room = omega (arith, c.need-need.ensures.need, c.if-need-room.false) in
    begun_unclosed k lines IsOf from source old
    (λ t is. g.K.Restoring.goes_on c.args.kind.now t c.args.begun source.left (told t is)) told (rw same at fits) old (g.D.Device.state c.clear.new.dev) c.clear.ensures.told
    (g.K.Restoring.verdicts c.args.kind.now) c.clear.ensures.crash

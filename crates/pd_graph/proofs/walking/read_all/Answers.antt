use Rattle.std.proofs.Common.{◌≡◌, ℕ, List, [], Some, IfSome, ap, subst, ◌∙◌, arith}
use Rattle.std.specs.List.{slice_get}
use Rattle.std.specs.Option.{unwrap_or}
use Rattle.std.proofs.lemmas.Option.{IfSome_then}
use Rattle.pd_kinds.proofs.ResultLemmas.{if_both}
use Rattle.pd_image.proofs.CrashLemmas.{only_reads_both}
use Rattle.pd_graph.specs.Walk.{IsDone}
use Rattle.pd_graph.specs.Marks.{is_in}
use Rattle.pd_graph.specs.Marks.{read_of}
use Rattle.pd_graph.specs.Notes.{note_in}
use Rattle.pd_graph.proofs.LeafNotes.{noted_more, low_more, noted_same}
use Rattle.pd_graph.proofs.WalkLemmas.{taken_known, safe_step, told_step, one_more_read, read_kept, read_at_most, taken_reached, read_reached, room_taken, safe_kept, told_kept, all_read_kept}
use Rattle.pd_graph.proofs.walking.read_all.Goals as goal

pub returns-in_err-read-clause-reads : goal.returns-in_err-read-clause-reads
returns-in_err-read-clause-reads g c =
    let graph = g.F.Format.graph c.args.format.now in
    let takes = c.in-Some.ensures.some in
    let safe = c.loop-b.invariant.safe in
    let more = one_more_read graph.nr c.in-Some.b c.in-Some.role c.loop-b.marks c.take.new.self safe.places takes in
    let reads = c.in_err-read.ensures.reads in
    let before = c.loop-b.invariant.reads in
    IfSome_then (g.D.Device.state c.args.dev.now).held c.loop-b.invariant.told (λ image told.
    let reached = taken_reached graph image c.in-Some.b c.in-Some.role c.loop-b.marks c.take.new.self safe told takes in
    omega arith)

pub see-requires-clause-room : goal.see-requires-clause-room
see-requires-clause-room g c = c.loop-b.invariant.room

pub look-requires-clause-room : goal.look-requires-clause-room
look-requires-clause-room g c =
    let graph = g.F.Format.graph c.args.format.now in
    room_taken graph c.in-Some.b c.in-Some.role c.loop-b.marks c.take.new.self (g.met.F.Format.lawful c.args.format.now).few_blocks c.loop-b.invariant.safe c.in-Some.ensures.some

pub note_leaf-requires-clause-within : goal.note_leaf-requires-clause-within
note_leaf-requires-clause-within g c =
    let small = c.in-Some.ensures.some.found.block in
    let same = c.loop-b.invariant.safe.places.seen in
    let number = c.loop-b.invariant.number in
    let blocks = c.requires.number in
    omega arith

pub loop-b-smaller : goal.loop-b-smaller
loop-b-smaller g c =
    let graph = g.F.Format.graph c.args.format.now in
    let more = one_more_read graph.nr c.in-Some.b c.in-Some.role c.loop-b.marks c.take.new.self c.loop-b.invariant.safe.places c.in-Some.ensures.some in
    let kept = read_kept graph.nr (graph.edges c.in-Some.role c.in-Some.b c.read.new.into.0) c.take.new.self c.look.new.self c.look.ensures.follows in
    let most = read_at_most graph.nr c.look.new.self in
    omega arith

pub loop-b-preserved : goal.loop-b-preserved
loop-b-preserved g c =
    let graph = g.F.Format.graph c.args.format.now in
    let takes = c.in-Some.ensures.some in
    let safe = c.loop-b.invariant.safe in
    let lawful = g.met.F.Format.lawful c.args.format.now in
    let block = c.read.new.into.0 in
    let laws = lawful.each c.in-Some.role c.in-Some.b block (taken_known graph c.in-Some.b c.in-Some.role c.loop-b.marks c.take.new.self safe takes) in
    let more = one_more_read graph.nr c.in-Some.b c.in-Some.role c.loop-b.marks c.take.new.self safe.places takes in
    let kept = read_kept graph.nr (graph.edges c.in-Some.role c.in-Some.b c.read.new.into.0) c.take.new.self c.look.new.self c.look.ensures.follows in
    let reads = c.in_ok-read.ensures.reads in
    let before = c.loop-b.invariant.reads in
    record {
      safe = safe_step graph c.in-Some.b c.in-Some.role block c.loop-b.marks c.take.new.self c.look.new.self lawful.few_roles laws safe takes c.look.ensures;
      told = if_both (g.D.Device.state c.args.dev.now).held
          (λ image found told. told_step graph image c.in-Some.b c.in-Some.role block c.loop-b.marks c.take.new.self c.look.new.self safe found told takes c.look.ensures)
          (subst (λ o. IfSome o (λ image. slice_get image c.in-Some.b ≡ Some block)) c.loop-b.invariant.kept.held c.in_ok-read.ensures.content)
          c.loop-b.invariant.told;
      leaves = if_both (g.D.Device.state c.args.dev.now).held
          (λ image found noted. noted_more graph image c.in-Some.b c.in-Some.role block (is_in (read_of c.loop-b.marks)) (is_in (read_of c.look.new.self))
          (note_in c.loop-b.notes) (note_in c.note_leaf.new.notes) takes.found.within found
          (λ p. ap (λ (table : List ℕ). is_in table p) c.look.ensures.follows.read ∙ takes.read p) noted c.note_leaf.ensures.notes)
          (subst (λ o. IfSome o (λ image. slice_get image c.in-Some.b ≡ Some block)) c.loop-b.invariant.kept.held c.in_ok-read.ensures.content)
          c.loop-b.invariant.leaves;
      notes = low_more graph c.in-Some.role c.in-Some.b block (note_in c.loop-b.notes) (note_in c.note_leaf.new.notes) c.loop-b.invariant.notes c.note_leaf.ensures.notes;
      seen = if_both (g.D.Device.state c.args.dev.now).held
          (λ image found seen. c.see.ensures.seen image (is_in (read_of c.loop-b.marks)) (is_in (read_of c.look.new.self)) (ap (λ o. unwrap_or o []) found)
          (record { unseen = takes.found.unread; pairs = λ p. ap (λ (table : List ℕ). is_in table p) c.look.ensures.follows.read ∙ takes.read p }) seen)
          (subst (λ o. IfSome o (λ image. slice_get image c.in-Some.b ≡ Some block)) c.loop-b.invariant.kept.held c.in_ok-read.ensures.content)
          c.loop-b.invariant.seen;
      room = c.see.ensures.room;
      number = c.note_leaf.ensures.number ∙ c.loop-b.invariant.number;
      reads = omega arith;
      kept = only_reads_both c.loop-b.invariant.kept c.in_ok-read.ensures.kept;
      faults = c.in_ok-read.ensures.faults ∙ c.loop-b.invariant.faults;
    }

pub returns-clause-done : goal.returns-clause-done
returns-clause-done g c =
    let graph = g.F.Format.graph c.args.format.now in
    IfSome_then (g.D.Device.state c.args.dev.now).held {Q = λ image. IsDone graph image c.take.new.self} c.loop-b.invariant.told (λ image told. record {
      safe = safe_kept graph c.loop-b.marks c.take.new.self c.in_default.ensures.kept c.loop-b.invariant.safe;
      told = told_kept graph image c.loop-b.marks c.take.new.self c.in_default.ensures.kept told;
      all = all_read_kept c.loop-b.marks c.take.new.self c.in_default.ensures.kept c.in_default.ensures.none;
    })

pub returns-clause-reads : goal.returns-clause-reads
returns-clause-reads g c =
    let graph = g.F.Format.graph c.args.format.now in
    let before = c.loop-b.invariant.reads in
    IfSome_then (g.D.Device.state c.args.dev.now).held c.loop-b.invariant.told (λ image told.
    let reached = read_reached graph image c.loop-b.marks c.loop-b.marks told c.loop-b.invariant.safe.met in
    omega arith)

pub returns-clause-leaves : goal.returns-clause-leaves
returns-clause-leaves g c =
    let graph = g.F.Format.graph c.args.format.now in
    IfSome_then (g.D.Device.state c.args.dev.now).held c.loop-b.invariant.leaves (λ image noted.
    noted_same graph image (is_in (read_of c.loop-b.marks)) (is_in (read_of c.take.new.self)) (note_in c.loop-b.notes)
    (λ p. ap (λ (table : List ℕ). is_in table p) c.in_default.ensures.kept.read) noted)

pub returns-clause-seen : goal.returns-clause-seen
returns-clause-seen g c =
    let graph = g.F.Format.graph c.args.format.now in
    IfSome_then (g.D.Device.state c.args.dev.now).held c.loop-b.invariant.seen (λ image seen.
    g.met.W.Watch.same c.loop-b.watch graph image (is_in (read_of c.loop-b.marks)) (is_in (read_of c.take.new.self))
    (λ p. ap (λ (table : List ℕ). is_in table p) c.in_default.ensures.kept.read) seen)

pub returns-clause-notes : goal.returns-clause-notes
returns-clause-notes g c = c.loop-b.invariant.notes

pub returns-clause-number : goal.returns-clause-number
returns-clause-number g c = c.loop-b.invariant.number

pub returns-in_err-read-clause-notes : goal.returns-in_err-read-clause-notes
returns-in_err-read-clause-notes g c = c.loop-b.invariant.notes

pub returns-in_err-read-clause-number : goal.returns-in_err-read-clause-number
returns-in_err-read-clause-number g c = c.loop-b.invariant.number

pub returns-clause-room : goal.returns-clause-room
returns-clause-room g c = c.loop-b.invariant.room

pub returns-in_err-read-clause-room : goal.returns-in_err-read-clause-room
returns-in_err-read-clause-room g c = c.loop-b.invariant.room

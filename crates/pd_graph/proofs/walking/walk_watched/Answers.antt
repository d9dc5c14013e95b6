use Rattle.std.proofs.Common.{ℕ, sym, subst}
use Rattle.std.proofs.lemmas.Option.{IfSome_then}
use Rattle.pd_kinds.specs.Graph.{is_reached}
use Rattle.pd_kinds.proofs.ResultLemmas.{if_any, if_both}
use Rattle.pd_graph.specs.Marks.{is_in}
use Rattle.pd_graph.specs.Notes.{note_in}
use Rattle.pd_graph.specs.Marks.{HasPlaces, read_of}
use Rattle.pd_graph.specs.Format.{no_pairs}
use Rattle.pd_graph.proofs.LeafNotes.{start_noted, none_low, noted_same}
use Rattle.pd_graph.proofs.StartLemmas.{none_read, read_is_reached, start_number, start_safe, start_told, end_roles, end_rules, end_counts}
use Rattle.pd_graph.proofs.walking.walk_watched.Goals as goal

pub read_all-requires-clause-safe : goal.read_all-requires-clause-safe
read_all-requires-clause-safe g c =
    start_safe (g.F.Format.graph c.args.format.now) c.args.audit.now.marks c.meet.new.self (g.met.F.Format.lawful c.args.format.now)
    (subst (λ (nr : ℕ). HasPlaces nr c.args.audit.now.marks) c.requires.fresh.number c.args.audit.now.places)
    c.requires.fresh.unmarked c.meet.ensures.follows

pub read_all-requires-clause-told : goal.read_all-requires-clause-told
read_all-requires-clause-told g c =
    if_any (g.D.Device.state c.args.dev.now).held
    (λ image. start_told (g.F.Format.graph c.args.format.now) image c.args.audit.now.marks c.meet.new.self c.requires.fresh.unmarked c.meet.ensures.follows c.meet.ensures.rules)

pub read_all-requires-clause-fresh : goal.read_all-requires-clause-fresh
read_all-requires-clause-fresh g c =
    start_number (g.F.Format.graph c.args.format.now).nr c.args.audit.now.marks c.meet.new.self c.requires.fresh.unmarked c.meet.ensures.follows

pub read_all-requires-clause-leaves : goal.read_all-requires-clause-leaves
read_all-requires-clause-leaves g c =
    if_any (g.D.Device.state c.args.dev.now).held
    (λ image. start_noted (g.F.Format.graph c.args.format.now) image (is_in (read_of c.meet.new.self)) (note_in c.args.audit.now.notes)
    (λ p. none_read c.args.audit.now.marks c.meet.new.self p c.requires.fresh.unmarked c.meet.ensures.follows) c.requires.fresh.notes)

pub read_all-requires-clause-notes : goal.read_all-requires-clause-notes
read_all-requires-clause-notes g c = λ b. none_low (note_in c.args.audit.now.notes b) (c.requires.fresh.notes b)

pub read_all-requires-clause-seen : goal.read_all-requires-clause-seen
read_all-requires-clause-seen g c =
    let graph = g.F.Format.graph c.args.format.now in
    if_any (g.D.Device.state c.args.dev.now).held
    (λ image. g.met.W.Watch.same c.args.watch.now graph image no_pairs (is_in (read_of c.meet.new.self))
    (λ p. none_read c.args.audit.now.marks c.meet.new.self p c.requires.fresh.unmarked c.meet.ensures.follows) (c.requires.unseen image))

pub returns-clause-seen : goal.returns-clause-seen
returns-clause-seen g c =
    let graph = g.F.Format.graph c.args.format.now in
    if_both (g.D.Device.state c.args.dev.now).held
    (λ image done seen. g.met.W.Watch.same c.read_all.new.watch graph image (is_in (read_of c.read_all.new.marks)) (is_reached graph image)
    (λ p. sym (read_is_reached graph image c.read_all.new.marks done p)) seen)
    c.in_ok-read_all.ensures.done c.in_ok-read_all.ensures.seen

pub returns-clause-leaves : goal.returns-clause-leaves
returns-clause-leaves g c =
    let graph = g.F.Format.graph c.args.format.now in
    if_both (g.D.Device.state c.args.dev.now).held
    (λ image done noted. noted_same graph image (is_in (read_of c.read_all.new.marks)) (is_reached graph image) (note_in c.read_all.new.notes)
    (λ p. sym (read_is_reached graph image c.read_all.new.marks done p)) noted)
    c.in_ok-read_all.ensures.done c.in_ok-read_all.ensures.leaves

pub returns-clause-marks : goal.returns-clause-marks
returns-clause-marks g c =
    let graph = g.F.Format.graph c.args.format.now in
    IfSome_then (g.D.Device.state c.args.dev.now).held c.in_ok-read_all.ensures.done (λ image done. record {
      roles = λ b role small within. end_roles graph image c.read_all.new.marks done b role within;
      rules = λ b wanted small. end_rules graph image c.read_all.new.marks done b wanted;
      counts = λ b small. end_counts graph image c.read_all.new.marks done b;
    })

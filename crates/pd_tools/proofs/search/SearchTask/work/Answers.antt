use Rattle.pd_tools.specs.Opened.{devices}
use Rattle.pd_tools.proofs.Searches.{search_none, search_unread, search_wanting}
use Rattle.pd_tools.proofs.Tasks.{still_opened}
use Rattle.pd_tools.proofs.search.SearchTask.work.Goals as goal

pub returns-in-Best-clause-works : goal.returns-in-Best-clause-works
returns-in-Best-clause-works g c others notes first fresh was _ =
    let kept = c.look_for_roots.ensures.kept in
    c.write_found.ensures.works c.args.self.now.from.now c.args.self.now.to.now others notes first (g.C.Device.state c.args.third.now) fresh (record {
      input = still_opened was.input kept.access kept.path (record { held = kept.held; history = kept.history }) c.in-Ok.ensures.faults;
      output = was.output;
      third = was.third;
    })

pub returns-in-NoRoots-clause-works : goal.returns-in-NoRoots-clause-works
returns-in-NoRoots-clause-works g c others notes first fresh was _ =
    search_none c.args.self.now.shared c.args.self.now.given c.args.self.now.from.now c.args.self.now.to.now
    (record others { input = first.input; output = first.output; third = first.third })
    (devices (g.A.Device.state c.args.input.now) (g.B.Device.state c.args.output.now) (g.C.Device.state c.args.third.now)) notes (g.A.Device.state c.look_for_roots.new.input) fresh was (g.met.B.Device.measured c.args.output.now)
    (λ _. g.met.C.Device.measured c.args.third.now) c.look_for_roots.ensures.kept c.in-NoRoots.are_damaged (rw c.in-NoRoots.is at c.in-Ok.ensures.found)

pub returns-in-Memory-clause-works : goal.returns-in-Memory-clause-works
returns-in-Memory-clause-works g c others notes first fresh was _ =
    search_wanting c.args.self.now.shared c.args.self.now.given c.args.self.now.from.now c.args.self.now.to.now
    (record others { input = first.input; output = first.output; third = first.third })
    (devices (g.A.Device.state c.args.input.now) (g.B.Device.state c.args.output.now) (g.C.Device.state c.args.third.now)) notes (g.A.Device.state c.look_for_roots.new.input) fresh was (g.met.B.Device.measured c.args.output.now)
    (λ _. g.met.C.Device.measured c.args.third.now) c.look_for_roots.ensures.kept

pub returns-in-Device-clause-works : goal.returns-in-Device-clause-works
returns-in-Device-clause-works g c others notes first fresh was _ =
    search_unread c.args.self.now.shared c.args.self.now.given c.args.self.now.from.now c.args.self.now.to.now
    (record others { input = first.input; output = first.output; third = first.third })
    (devices (g.A.Device.state c.args.input.now) (g.B.Device.state c.args.output.now) (g.C.Device.state c.args.third.now)) notes (g.A.Device.state c.look_for_roots.new.input) fresh was (g.met.B.Device.measured c.args.output.now)
    (λ _. g.met.C.Device.measured c.args.third.now) c.look_for_roots.ensures.kept (rw c.in-Device.is at c.in-Err.ensures.faults).0

use Rattle.std.proofs.Common.{sym, refl, lit≤, map, string_bytes}
use Rattle.pd_grammar.specs.Lines.{usage_line}
use Rattle.pd_answers.specs.Terms.{objects}
use Rattle.pd_answers.specs.Words.{asked}
use Rattle.pd_answers.specs.Promises.{refused, terms_of}
use Rattle.pd_kinds.proofs.ListLemmas.{appends_none}
use Rattle.pd_tools.specs.Ending.{IsAttachedNotes}
use Rattle.pd_tools.proofs.Answered.{answered_put, answered_unattached}
use Rattle.pd_tools.proofs.AtRest.{at_rest, reads_at_rest}
use Rattle.pd_tools.proofs.run.run_tool.Goals as goal

pub returns-in-None : goal.returns-in-None
returns-in-None g c =
    let was : IsAttachedNotes (g.E.Sink.state c.args.notes.now) (g.E.Sink.state c.attach.new.self) = record {
      access = c.in-Ok.ensures.attached.access;
      path = c.in-Ok.ensures.attached.path;
      written = c.in-Ok.ensures.attached.written;
      faults = c.in-Ok.ensures.faults;
    } in
    rw (sym c.in-None.ensures.asked) (answered_put refused _ _ _ c.requires was 2 _ usage_line (record {
      finding = tt;
      work = record {
        found = tt;
        possible = refl;
        followed = record { source = tt; out = tt; input = tt; output = tt; third = tt };
        kept = record { source = refl; out = refl; input = refl; output = refl; third = refl };
        order = record { input = tt; output = tt; third = tt; out = tt };
        silent = λ _. refl;
        spared = λ no. absurd no;
        reads = tt;
        leaves = tt;
      };
      low = lit≤ tt;
      same_status = refl;
      same_line = refl;
      out = appends_none _;
      open_devices = record { source = tt; input = tt; output = tt; third = tt };
      open_out = λ _. tt;
      read = λ _. tt;
    }) tt c.put_line.ensures)

pub returns-in-Some : goal.returns-in-Some
returns-in-Some g c =
    let was : IsAttachedNotes (g.E.Sink.state c.args.notes.now) (g.E.Sink.state c.attach.new.self) = record {
      access = c.in-Ok.ensures.attached.access;
      path = c.in-Ok.ensures.attached.path;
      written = c.in-Ok.ensures.attached.written;
      faults = c.in-Ok.ensures.faults;
    } in
    rw (sym c.in-Some.ensures.asked) (c.run_request.ensures (objects (g.S.Source.state c.args.source.now) (g.K.Sink.state c.args.out.now) (g.E.Sink.state c.args.notes.now)
    (g.A.Device.state c.args.input.now) (g.B.Device.state c.args.output.now) (g.C.Device.state c.args.third.now)) c.requires was)

pub returns-in-Err : goal.returns-in-Err
returns-in-Err g c =
    let before = objects (g.S.Source.state c.args.source.now) (g.K.Sink.state c.args.out.now) (g.E.Sink.state c.args.notes.now)
    (g.A.Device.state c.args.input.now) (g.B.Device.state c.args.output.now) (g.C.Device.state c.args.third.now) in
    let request = asked (map string_bytes c.args.words.now) in
    let rest = at_rest request before (g.E.Sink.state c.attach.new.self) c.requires c.texts_have_verdicts.ensures in
    answered_unattached (terms_of request) before (g.E.Sink.state c.attach.new.self) rest.0 c.requires rest.1
    (reads_at_rest request before (g.E.Sink.state c.attach.new.self)) rest.2
    c.in-Err.ensures.attached.access c.in-Err.ensures.attached.path c.in-Err.ensures.attached.written c.in-Err.ensures.faults.0

use Rattle.std.proofs.Common.{ℕ, ◌+◌, ◌≤◌, ◌++◌, List, length, take, ap, sym, ◌∙◌, arith, append_assoc, append-nil}
use Rattle.std.proofs.lemmas.List.{take_all}
use Rattle.pd_meaning_thin.specs.Packed.{runs_from}
use Rattle.pd_meaning_thin.specs.declared.joined.Run.{Run}
use Rattle.pd_shrink.specs.Making.{span_between, spans_past}
use Rattle.pd_shrink.specs.declared.sources.Span.{Span}
use Rattle.pd_shrink.proofs.MovingLemmas.{met_behind, none_behind, none_taken}
use Rattle.pd_shrink.proofs.SpanLemmas.{met_small, past_met}
use Rattle.pd_shrink.proofs.sources.add_spans.Goals as goal
use Rattle.pd_shrink.proofs.sources.add_spans.Goals.{in-Some+in_ok-add_span, in_default}

pub overflow_add-stop : goal.overflow_add-stop
overflow_add-stop c =
    let rest = runs_from c.args.runs.now c.next.new.place in
    let fits = met_small c.args.runs.now c.loop.counter c.in-Some.run' rest (sym c.loop.invariant.behind ∙ c.in-Some.ensures) c.requires in
    omega arith

pub loop-init : goal.loop-init
loop-init c = record { added = sym (append-nil c.args.spans.now.items); behind = c.first-place.ensures }

pub loop-preserved : goal.loop-preserved
loop-preserved c =
    let old = c.args.spans.now.items in
    let end = c.args.end in
    let runs = c.args.runs.now in
    let i = c.loop.counter in
    let before = c.loop.invariant in
    elim c.match-next.branch [
      | in-Some+in_ok-add_span w ↦
          let r = w.in-Some.run' in
          let rest = runs_from runs c.next.new.place in
          let met = sym before.behind ∙ w.in-Some.ensures in
          rw w.spans-is
          (record {
            added =
                w.in_ok-add_span.ensures
                ∙ (ap (λ (spans : List Span). spans ++ span_between w.max.result (r.target + r.length)) before.added
                ∙ (append_assoc old (spans_past end (take i runs)) (span_between w.max.result (r.target + r.length))
                ∙ (ap (λ (first : ℕ). old ++ (spans_past end (take i runs) ++ span_between first (r.target + r.length))) w.max.ensures
                ∙ ap (λ (spans : List Span). old ++ spans) (sym (past_met runs i r rest met end)))));
            behind = met_behind runs i r rest met;
          })
      | in_default w ↦
          let none = sym before.behind ∙ w.in_default.ensures.0 in
          rw w.spans-is
          (record {
            added = before.added ∙ ap (λ (taken : List Run). old ++ spans_past end taken) (none_taken runs i none);
            behind = rw w.in_default.ensures.1 (w.in_default.ensures.0 ∙ none_behind runs i none);
          })
    ]

pub returns : goal.returns
returns c =
    let all : length c.args.runs.now ≤ c.loop.counter = omega (arith, c.loop-test.false, c.len-end.ensures) in
    c.loop.invariant.added ∙ ap (λ (runs : List Run). c.args.spans.now.items ++ spans_past c.args.end runs) (take_all c.loop.counter c.args.runs.now all)

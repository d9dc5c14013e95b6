use Rattle.std.proofs.Common.{ℕ, List, [], ◌+◌, ◌++◌, drop, map, ap, ◌∙◌, arith}
use Rattle.pd_dumps.specs.EraLines.{text_from}
use Rattle.pd_dumps.proofs.PartLemmas.{cut_at, front_lost, front_more, up_to_lost}
use Rattle.pd_dumps.proofs.runs.OpenRun.take.Goals as goal

pub join-requires-clause-open : goal.join-requires-clause-open
join-requires-clause-open g c = (c.loop-at.invariant.so_far []).printed.kept.access ∙ c.requires.open

pub returns-in_err-join-clause-prints : goal.returns-in_err-join-clause-prints
returns-in_err-join-clause-prints g c = λ later.
    let line = g.R.RunKind.line c.args.kind.now in
    let counts = g.R.RunKind.counts c.args.kind.now in
    let rest = map counts (drop (c.loop-at.at + c.same_length-length.result) c.args.eras.now) ++ later in
    up_to_lost (text_from line c.join.new.self later) c.from_residual.result c.from_residual.ensures.0
    (front_lost (text_from line c.loop-at.self) (c.loop-at.invariant.so_far later)
    (cut_at counts c.args.eras.now later c.loop-at.at c.same_length-length.result ∙ ap (λ (xs : List ℕ). xs ++ rest) c.same_length-length.ensures.same)
    (c.in_err-join.ensures.prints rest))

pub loop-at-preserved : goal.loop-at-preserved
loop-at-preserved g c =
    let line = g.R.RunKind.line c.args.kind.now in
    let counts = g.R.RunKind.counts c.args.kind.now in
    let rest = λ (later : List ℕ). map counts (drop (c.loop-at.at + c.same_length-length.result) c.args.eras.now) ++ later in
    record {
      same_reference = c.in_ok-join.ensures.same_reference ∙ c.loop-at.invariant.same_reference;
      so_far = λ later.
          front_more (text_from line c.loop-at.self) (c.loop-at.invariant.so_far later)
          (cut_at counts c.args.eras.now later c.loop-at.at c.same_length-length.result ∙ ap (λ (xs : List ℕ). xs ++ rest later) c.same_length-length.ensures.same)
          (c.in_ok-join.ensures.prints (rest later));
      within = omega arith;
      number = omega (arith, c.in_ok-join.ensures.number, c.loop-at.invariant.number);
      faults = c.in_ok-join.ensures.faults ∙ c.loop-at.invariant.faults;
    }

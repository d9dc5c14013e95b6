use Rattle.std.proofs.Common.{◌-◌, ◌*◌, ◌<◌, ◌≤◌, List, ◌++◌, ap, sym, ◌∙◌, min, subst, arith}
use Rattle.std.specs.List.{AllByRecursion}
use Rattle.std.proofs.lemmas.List.{append-nil}
use Rattle.pd_array.specs.Word.{size_of}
use Rattle.pd_salvage_cache.specs.declared.saved.Row.{Row}
use Rattle.pd_salvage_cache.specs.Arrays.{row_held}
use Rattle.pd_salvage_cache.specs.SavedCache.{FitsRow}
use Rattle.pd_salvage_cache.proofs.GatherLemmas.{fit_more, held_none, held_some, made_whole, rows_more}
use Rattle.pd_salvage_cache.proofs.arrays.Arrays.add_rows.Goals as goal
use Rattle.pd_salvage_cache.proofs.arrays.Arrays.add_rows.Goals.{in-Some+in_ok-add_row-in-Some, in-None}

pub loop-i-preserved : goal.loop-i-preserved
loop-i-preserved c =
    let self = c.args.self.now in
    let first = 509 * c.args.key in
    let i = c.loop-i.i in
    let few : c.count.result ≤ 509 = rw (ap size_of self.words_are.0) at c.count.ensures.few in
    let small : i < 509 = omega (arith, c.loop-i-test.true, c.min-number.ensures, few) in
    elim c.match-word.branch [
      | in-Some+in_ok-add_row-in-Some w ↦
          let row = held_some self c.args.key i w.in-Some.word small (sym c.word.ensures.word ∙ w.in-Some.is) in
          let h = w.in_ok-add_row-in-Some.ensures in
          record {
            rows = rows_more (row_held self) first i c.args.rows.now.items c.loop-i.rows.items c.match-word.rows.items c.loop-i.invariant.rows (rw w.rows-is (rw row h.row));
            fit = fit_more (row_held self) first i c.loop-i.invariant.fit (rw row h.fits);
          }
      | in-None w ↦
          let row = held_none self c.args.key i small (sym c.word.ensures.word ∙ w.in-None.is) in
          record {
            rows = rows_more (row_held self) first i c.args.rows.now.items c.loop-i.rows.items c.match-word.rows.items c.loop-i.invariant.rows (rw (w.rows-is, row) (sym (append-nil c.loop-i.rows.items)));
            fit = fit_more (row_held self) first i c.loop-i.invariant.fit (rw row tt);
          }
    ]

pub returns-clause-rows : goal.returns-clause-rows
returns-clause-rows c =
    let self = c.args.self.now in
    let few : c.count.result ≤ 509 = rw (ap size_of self.words_are.0) at c.count.ensures.few in
    c.loop-i.invariant.rows
    ∙ ap (λ (rows : List Row). c.args.rows.now.items ++ rows)
    (made_whole self c.args.key (min 509 (c.args.end - 509 * c.args.key)) c.loop-i.i (omega (arith, c.loop-i.auto.i-end, c.min-number.ensures, few)) (omega arith)
    (λ i from below. omega (arith, c.loop-i-test.false, c.min-number.ensures, c.count.ensures.count)))

pub returns-clause-fit : goal.returns-clause-fit
returns-clause-fit c =
    let self = c.args.self.now in
    let few : c.count.result ≤ 509 = rw (ap size_of self.words_are.0) at c.count.ensures.few in
    subst (AllByRecursion FitsRow)
    (made_whole self c.args.key (min 509 (c.args.end - 509 * c.args.key)) c.loop-i.i (omega (arith, c.loop-i.auto.i-end, c.min-number.ensures, few)) (omega arith)
    (λ i from below. omega (arith, c.loop-i-test.false, c.min-number.ensures, c.count.ensures.count)))
    c.loop-i.invariant.fit

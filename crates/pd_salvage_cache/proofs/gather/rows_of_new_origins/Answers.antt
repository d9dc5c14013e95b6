use Rattle.std.proofs.Common.{List, false, get_or, map, not, ap, sym, ◌∙◌}
use Rattle.std.specs.BTreeSet.{contains}
use Rattle.std.specs.Ordering.{nat_cmp}
use Rattle.pd_laid.specs.SavedCache.{is_repeated}
use Rattle.pd_salvage_cache.specs.declared.saved.Row.{Row}
use Rattle.pd_salvage_cache.specs.SavedCache.{entry}
use Rattle.pd_salvage_cache.proofs.FirstLemmas.{kept_more, repeated_before, seen_more}
use Rattle.pd_salvage_cache.proofs.gather.rows_of_new_origins.Goals as goal

abbrev no_row : Row
no_row = record { block = 0; dirty = false; hint = 0; origin = 0 }

pub loop-row-preserved : goal.loop-row-preserved
loop-row-preserved c =
    let h = c.in_ok-add_new.ensures in
    let rows : List Row = c.args.rows.now in
    let i = c.loop-row.row-index in
    let before = c.loop-row.invariant in
    let seen = c.loop-row.seen in
    let within = c.loop-row-test.true in
    let origin = (get_or rows i no_row).origin in
    let repeated = repeated_before c.requires.0 c.requires.1.0 0 i no_row rows c.requires.1.1 within in
    record {
      kept = kept_more rows i no_row within (λ (row : Row). not (is_repeated (map entry rows) (entry row))) c.loop-row.kept.items c.add_new.new.kept.items (contains nat_cmp seen origin)
          before.kept (ap not (repeated ∙ sym (before.seen origin))) h.kept;
      seen = λ other. seen_more rows i no_row within other (contains nat_cmp seen other) (contains nat_cmp c.add_new.new.seen other) (before.seen other) (h.seen other);
    }

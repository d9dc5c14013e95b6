use Rattle.std.proofs.Common.{sym, ◌∙◌}
use Rattle.pd_salvage_cache.proofs.FirstLemmas.{all_kept}
use Rattle.pd_salvage_cache.proofs.gather.first_rows.Goals as goal

pub returns-else-branch : goal.returns-else-branch
returns-else-branch c = all_kept c.args.rows.items (sym (rw c.deref.ensures.value at c.in_ok-has_repeat.ensures) ∙ c.if-branch.false)

use Rattle.std.proofs.Common.{ℕ, sym, subst}
use Rattle.pd_meaning_era.specs.Notes.{words_at}
use Rattle.pd_meaning_era.specs.Notes.{Goes}
use Rattle.pd_meaning_era.proofs.descent.take_block.Goals as goal

pub returns-then-level-eq0-clause-opened : goal.returns-then-level-eq0-clause-opened
returns-then-level-eq0-clause-opened c = λ image is knows.
    subst (λ (level : ℕ). Goes image c.args.end c.args.at (words_at image level c.args.b) c.in_ok-next.next c.args.walk.now c.add_array.new.walk) (sym c.if-level-eq0.true) (c.in_ok-next.ensures.goes image is knows)

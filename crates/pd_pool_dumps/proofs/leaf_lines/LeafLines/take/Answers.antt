use Rattle.std.proofs.Common.{List, ◌++◌, ◌∙◌, sym, subst}
use Rattle.pd_kinds.specs.Meaning.{Mapping}
use Rattle.pd_meaning_thin.specs.Runs.{begun_mappings}
use Rattle.pd_pool_dumps.specs.LeafText.{AreTaken}
use Rattle.pd_pool_dumps.specs.LeafText.{AreBetween}
use Rattle.pd_pool_dumps.proofs.LeafTextLemmas.{taken_more}
use Rattle.pd_pool_dumps.proofs.leaf_lines.LeafLines.take.Goals as goal

pub returns-in-Some-first : goal.returns-in-Some-first
returns-in-Some-first c = λ ok mappings taken.
    let old = c.args.self.now in
    let new = c.add.new.self in
    let first = c.in-Some-first.field-0 in
    let all : List Mapping = mappings ++ begun_mappings c.args.next.begun in
    let between = subst (λ o. AreTaken mappings o old.joined old.text old.counts) c.in-Some-first.is taken in
    let more = taken_more mappings (begun_mappings c.args.next.begun) old.joined c.append.new.self first c.in-Some.run' c.in-Some.ensures.given {text = old.text} {counts = old.counts} (c.add.ensures.text ok) (c.add.ensures.counted ok) between in
    subst (λ o. AreTaken all o new.joined new.text new.counts) (sym (c.add.ensures.first ∙ c.in-Some-first.is)) (subst (λ joined. AreBetween all first joined new.text new.counts) (sym c.add.ensures.joined) more)

use Rattle.std.proofs.Common.{rules}
use Rattle.std.proofs.lemmas.List.Sorted.{answers_always}
use Rattle.pd_count.specs.declared.few.Entry.{Entry}
use Rattle.pd_count.proofs.EntryLemmas.{searched}
use Rattle.pd_count.proofs.few.find.Goals as goal

pub returns : goal.returns
returns c =
    let facts = c.binary_search_by_key.ensures in
    let by_place = facts.position (λ (entry : Entry). entry.place) (answers_always _ _ _ (λ f a r g called. search rules)) in
    searched c.args.entries.now c.requires c.args.place c.binary_search_by_key.result facts.bound by_place

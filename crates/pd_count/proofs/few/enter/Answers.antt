use Rattle.pd_count.proofs.EntryLemmas.{puts_set, sorted_set, puts-insert, sorted_insert}
use Rattle.pd_count.proofs.few.enter.Goals as goal

pub returns-in-Ok-clause-entries : goal.returns-in-Ok-clause-entries
returns-in-Ok-clause-entries c =
    sorted_set c.args.entries.now.items c.requires.entries c.args.place c.args.number c.in-Ok.i c.requires.place (rw c.deref.ensures.value at c.in-Ok.ensures.found)

pub returns-in-Ok-clause-put : goal.returns-in-Ok-clause-put
returns-in-Ok-clause-put c =
    puts_set c.args.entries.now.items c.requires.entries c.args.place c.args.number c.in-Ok.i (rw c.deref.ensures.value at c.in-Ok.ensures.found)

pub returns-in_ok-insert-in-Err-clause-entries : goal.returns-in_ok-insert-in-Err-clause-entries
returns-in_ok-insert-in-Err-clause-entries c =
    rw c.in_ok-insert-in-Err.ensures.items
    (sorted_insert c.args.entries.now.items c.args.place c.in-Err.i (rw c.deref.ensures.value at c.in-Err.ensures.absent) c.args.number c.requires.place c.requires.entries)

pub returns-in_ok-insert-in-Err-clause-put : goal.returns-in_ok-insert-in-Err-clause-put
returns-in_ok-insert-in-Err-clause-put c =
    rw c.in_ok-insert-in-Err.ensures.items
    (puts-insert c.args.entries.now.items c.args.place c.in-Err.i (rw c.deref.ensures.value at c.in-Err.ensures.absent) c.args.number)

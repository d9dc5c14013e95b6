use Rattle.std.proofs.Common.{◌≡◌, ◌-◌, ◌≤◌, length, get_or, set, refl, ◌∙◌, arith}
use Rattle.std.proofs.lemmas.List.{get_or_read}
use Rattle.pd_texts.specs.ThinState.{nothing_told, with_run}
use Rattle.pd_texts.proofs.StateLemmas.{run_added}
use Rattle.pd_texts.proofs.leaves.Leaves.add.Goals as goal

pub returns-then-leaves-ne0 : goal.returns-then-leaves-ne0
returns-then-leaves-ne0 c = λ before are none some fits few.
    let told = c.args.self.now.told in
    let run = c.args.run.now in
    let n : c.len-leaves.result ≡ length told.items = c.len-leaves.ensures ∙ told.ok.0 in
    let any : 1 ≤ length told.items = omega arith in
    let read : c.index.result.now ≡ get_or told.items (length told.items - 1) nothing_told =
    get_or_read told.items (length told.items - 1) c.index.result.now (omega arith) (rw n at c.index.ensures) nothing_told in
    let items : set told.items (c.len-leaves.result - 1) c.with.result ≡ set told.items (length told.items - 1) (with_run (get_or told.items (length told.items - 1) nothing_told) run) =
    rw (n, c.with.ensures, read) refl in
    run_added c.args.self.now _ before run are none some fits few (omega (arith, are.number)) items refl

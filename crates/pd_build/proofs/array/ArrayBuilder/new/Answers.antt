use Rattle.std.proofs.Common.{refl}
use Rattle.pd_array.specs.Word.{size_of}
use Rattle.pd_build.proofs.ArrayLemmas.{array_start, root_start, number_start}
use Rattle.pd_build.proofs.array.ArrayBuilder.new.Goals as goal

pub returns-clause-blocks : goal.returns-clause-blocks
returns-clause-blocks c place words count =
    array_start (size_of c.args.word) place (record { begun = c.in_ok-begun.begun.items; left = c.args.len; made = 0 }) words c.in_ok-begun.ensures.items refl

pub returns-clause-root : goal.returns-clause-root
returns-clause-root c place words count =
    root_start (size_of c.args.word) place (record { begun = c.in_ok-begun.begun.items; left = c.args.len; made = 0 }) words c.in_ok-begun.ensures.items refl

pub returns-clause-number : goal.returns-clause-number
returns-clause-number c =
    number_start (size_of c.args.word) c.args.len (record { begun = c.in_ok-begun.begun.items; left = c.args.len; made = 0 }) c.in_ok-begun.ensures.items refl refl

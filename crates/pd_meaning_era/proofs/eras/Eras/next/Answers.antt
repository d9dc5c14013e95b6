use Rattle.std.proofs.Common.{◌≡◌, ◌∙◌, ◌*◌, ◌+◌, ◌-◌, ◌<◌, ◌≤◌, IfSome, drop, get_or, length, map, refl, subst, arith}
use Rattle.std.specs.List.{range_with_len}
use Rattle.std.proofs.lemmas.List.{nil_from_length}
use Rattle.pd_kinds.proofs.ResultLemmas.{if_any, if_three}
use Rattle.pd_meaning_era.specs.EraWords.{era_words}
use Rattle.pd_meaning_era.specs.Parts.{blocks_left}
use Rattle.pd_meaning_era.specs.Notes.{RaisesRows}
use Rattle.pd_meaning_era.proofs.PartLemmas.{blocks_left_is, length_left, takes_part}
use Rattle.pd_meaning_era.proofs.eras.Eras.next.Goals as goal

pub returns-then-count-eq0-clause-next : goal.returns-then-count-eq0-clause-next
returns-then-count-eq0-clause-next g c =
    let is = blocks_left_is c.args.self.now in
    let none : blocks_left c.args.self.now ≡ 0 = omega arith in
    if_any (g.D.Device.state c.args.dev.now).held (λ image. record { none = nil_from_length _ (length_left image c.args.self.now ∙ none) })

pub returns-clause-next : goal.returns-clause-next
returns-clause-next g c =
    let old = c.args.self.now in
    let is = blocks_left_is old in
    let count = c.min-count.result in
    let first = c.fill_part.new.part.items in
    let filled : length first ≡ count = c.in_ok-fill_part.ensures.number in
    let number : length c.raise_part.new.part.items ≡ count = c.in_ok-raise_part.ensures.number ∙ filled in
    let most : count ≤ blocks_left old = omega arith in
    let whole : count < blocks_left old → 64 * (old.next + c.div_ceil.result) ≡ 64 * old.next + count = λ more. omega (arith, is, more, c.div_ceil.ensures) in
    let left : count + (old.blocks - 64 * (old.next + c.div_ceil.result)) ≡ blocks_left old = omega (arith, is, c.div_ceil.ensures) in
    if_three (g.D.Device.state c.args.dev.now).held
    (λ image. first ≡ map (λ i. get_or (era_words image old.words) i 0) (range_with_len 0 count)) (λ image. era_words image c.fill_part.new.words ≡ drop count (era_words image old.words))
    (λ image. RaisesRows image old.next old.rows.items first c.raise_part.new.part.items) _
    (λ image words rest raised. takes_part image old _ count first refl number most whole left filled words rest raised)
    c.in_ok-fill_part.ensures.words c.in_ok-fill_part.ensures.left
    (subst (λ held. IfSome held (λ image. RaisesRows image old.next old.rows.items first c.raise_part.new.part.items)) c.in_ok-fill_part.ensures.kept.held (rw c.as_slice-rows.ensures.value at c.in_ok-raise_part.ensures.raised))

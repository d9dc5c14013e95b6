use Rattle.std.proofs.Common.{◌≡◌, ◌∙◌, ap, List, ℕ, sym, arith}
use Rattle.pd_count.specs.Counted.{digits_number}
use Rattle.pd_count.proofs.WaitingLemmas.{are_digits, counted_more, with_all, with_none}
use Rattle.std.proofs.lemmas.List.{get_or_default, map-id}
use Rattle.std.proofs.lemmas.Slice.Zip.{AllZip-map}
use Rattle.pd_count.proofs.waiting.WaitingPlaces.counted.Goals as goal

pub loop-i-init : goal.loop-i-init
loop-i-init c =
    let same : c.in_ok-digits.digits.items ≡ c.args.self.now.digits.items =
    AllZip-map (λ (x : ℕ). x) c.args.self.now.digits.items c.in_ok-digits.digits.items c.in_ok-digits.ensures.cases.0 ∙ map-id c.args.self.now.digits.items in (
      are_digits c.in_ok-digits.digits.items c.args.self.now.digits.items same c.requires.digits,
      λ k below. ap (λ (d : List ℕ). digits_number d k) same ∙ sym (with_none c.args.self.now k),
    )

pub loop-i-preserved : goal.loop-i-preserved
loop-i-preserved c = (
  c.put.ensures.digits,
  counted_more c.args.self.now c.loop-i.i c.from-at.result c.number_with.result (digits_number c.loop-i.digits.items) (digits_number c.put.new.digits.items)
      (omega (arith, c.loop-i-test.true, c.len-i-end.ensures, c.args.self.now.places.ok.0)) (c.from-at.ensures ∙ (c.index.ensures ∙ get_or_default c.args.self.now.places.items c.loop-i.i c.index.result.now 0 (omega (arith, c.loop-i-test.true, c.len-i-end.ensures, c.args.self.now.places.ok.0)))) c.number_with.ensures c.in_ok-put.ensures.put c.loop-i.invariant.1,
)

pub returns-clause-numbers : goal.returns-clause-numbers
returns-clause-numbers c = λ k below. c.loop-i.invariant.1 k below ∙ with_all c.args.self.now c.loop-i.i k (omega (arith, c.loop-i-test.false, c.len-i-end.ensures, c.args.self.now.places.ok.0))

use Rattle.std.proofs.Common.{List, [], ℕ, Option, ap, sym, ◌∙◌}
use Rattle.std.specs.Option.{unwrap_or}
use Rattle.std.proofs.lemmas.Bool.{not-false, not-true}
use Rattle.std.proofs.lemmas.Option.{IfSome_then}
use Rattle.pd_array.specs.Word.{size_of}
use Rattle.pd_kinds.specs.Graph.{is_outside}
use Rattle.pd_kinds.proofs.ResultLemmas.{if_any}
use Rattle.pd_salvage_cache.proofs.HeldLemmas.{none_held, none_outside, words_inside}
use Rattle.pd_salvage_cache.proofs.array.SavedArray.read.Goals as goal

pub returns-in_ok-read-clause-holds : goal.returns-in_ok-read-clause-holds
returns-in_ok-read-clause-holds g c =
    let self = c.args.self.now in
    let inside = not-true (is_outside self.nr c.args.place) (sym c.if-is_inside.ensures) in
    IfSome_then (g.D.Device.state c.args.dev.now).held c.in_ok-read.ensures.content (λ image found i.
    rw c.sound_words-self.ensures.count
    (words_inside (size_of self.word) self.nr c.args.place i image c.read.new.into.0 inside (ap (λ (o : Option (List ℕ)). unwrap_or o []) found)))

pub returns-else-is_inside-clause-holds : goal.returns-else-is_inside-clause-holds
returns-else-is_inside-clause-holds g c =
    let self = c.args.self.now in
    let outside = not-false (is_outside self.nr c.args.place) (sym c.if-is_inside.ensures) in
    if_any (g.D.Device.state c.args.dev.now).held (λ image i.
    none_held self i c.requires.none ∙ sym (none_outside (size_of self.word) self.nr c.args.place i image outside))

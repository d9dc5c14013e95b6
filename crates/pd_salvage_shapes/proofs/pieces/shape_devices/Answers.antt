use Rattle.std.proofs.Common.{◌≡◌, ℕ, ◌+◌, ◌∷◌, [], ◌++◌, List, Some, get_or, length, take, refl, sym, ap, subst, ◌∙◌, arith}
use Rattle.std.proofs.lemmas.List.{length-take-le, take_all, take_more}
use Rattle.std.proofs.lemmas.Option.{slice_get-get_or}
use Rattle.pd_salvage_shapes.specs.declared.visiting.Seen.{Seen}
use Rattle.pd_salvage_shapes.specs.Once.{MeetOnce, all_met}
use Rattle.pd_salvage_shapes.specs.Tops.{no_top}
use Rattle.pd_salvage_shapes.proofs.DeviceLemmas.{added_shape, none_shaped, still_after, still_there}
use Rattle.pd_salvage_shapes.proofs.OnceLemmas.{device_once, kept_next, kept_none, meet_once, still_adds}
use Rattle.pd_salvage_shapes.proofs.pieces.shape_devices.Goals as goal

pub loop-i-init : goal.loop-i-init
loop-i-init c = record {
  shaped = λ ones are.
      none_shaped ones c.args.notes.now _ c.new.ensures.items c.in_ok-piecing.ensures.none.0 c.in_ok-piecing.ensures.none.1;
  idle = c.in_ok-piecing.ensures.idle;
  rest = λ k d above. refl;
  others = kept_none c.in_ok-times.times.items c.args.notes.now;
  sized = c.requires.sized;
}

pub add-requires : goal.add-requires
add-requires c =
    let seen = c.args.seen.now in
    let i = c.loop-i.i in
    let d = c.replace-one.result in
    let each = c.requires.each in
    let times = c.in_ok-times.times.items in
    let given : c.as_slice.result.now ≡ times = c.as_slice.ensures.value in
    let is : d ≡ get_or seen i d = still_there seen c.loop-i.seen i c.index-seen-i.result d c.loop-i.invariant.rest c.index-seen-i.is c.replace-one.ensures.value in
    let within = c.requires.within i d (slice_get-get_or seen i d (omega arith) ∙ ap Some (sym is)) in
    record {
      sized = c.loop-i.invariant.sized;
      within = λ j inside.
          let here = within j inside in
          let number = c.loop-i.invariant.others.number in
          omega arith;
      once = subst (λ (ts : List ℕ). MeetOnce ts d.met) (sym given) (device_once times seen (meet_once times (all_met seen) c.in_ok-times.ensures) i d (omega arith) (sym is));
      idle = c.loop-i.invariant.idle;
    }

pub loop-i-preserved : goal.loop-i-preserved
loop-i-preserved c =
    let notes = c.args.notes.now in
    let tops = c.args.tops.now in
    let seen = c.args.seen.now in
    let i = c.loop-i.i in
    let top = get_or tops i no_top in
    let d = c.replace-one.result in
    let each = c.requires.each in
    let times = c.in_ok-times.times.items in
    let given : c.as_slice.result.now ≡ times = c.as_slice.ensures.value in
    let is : d ≡ get_or seen i d = still_there seen c.loop-i.seen i c.index-seen-i.result d c.loop-i.invariant.rest c.index-seen-i.is c.replace-one.ensures.value in
    let tops_next : take (i + 1) tops ≡ take i tops ++ top ∷ [] = take_more tops i no_top (omega arith) in
    let seen_next : take (i + 1) seen ≡ take i seen ++ d ∷ [] = take_more seen i d (omega arith) ∙ ap (λ (e : Seen). take i seen ++ e ∷ []) (sym is) in
    let same : length (take i tops) ≡ length (take i seen) = length-take-le i tops (omega arith) ∙ sym (length-take-le i seen (omega arith)) in
    let adds = still_adds times seen (meet_once times (all_met seen) c.in_ok-times.ensures) i d (omega arith) (sym is) notes c.loop-i.notes c.loop-i.invariant.others c.args.numbers.now top c.loop-i.shaped c.add.new.self c.in_ok-add.ensures.adds in
    record {
      shaped = λ ones are.
          rw (tops_next, seen_next) (added_shape ones notes c.args.numbers.now (take i tops) (take i seen) top d c.loop-i.shaped c.add.new.self same are (c.loop-i.invariant.shaped ones are) adds);
      idle = adds.takes.idle;
      rest = still_after seen c.loop-i.seen i c.replace-one.new.dest c.loop-i.invariant.rest;
      others =
          kept_next times seen (meet_once times (all_met seen) c.in_ok-times.ensures) i d (omega arith) (sym is) notes c.loop-i.notes c.loop-i.invariant.others c.add.new.notes
          (rw given at c.in_ok-add.ensures.others);
      sized = c.in_ok-add.ensures.sized;
    }

pub returns : goal.returns
returns c = λ ones are.
    let each = c.requires.each in
    rw (← take_all c.loop-i.i c.args.tops.now (omega arith), ← take_all c.loop-i.i c.args.seen.now (omega arith)) (c.loop-i.invariant.shaped ones are)

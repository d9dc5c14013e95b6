use Rattle.std.proofs.Common.{◌≡◌, ℕ, ◌++◌, ◌∷◌, [], List, get_or, length, take, refl, sym, ap, subst, ◌∙◌, arith}
use Rattle.std.specs.List.{slice_get}
use Rattle.std.proofs.lemmas.List.{length-append, take_all, take_more}
use Rattle.pd_salvage_shapes.specs.Note.{Met}
use Rattle.pd_salvage_shapes.specs.Once.{KeepsOthers}
use Rattle.pd_salvage_shapes.specs.Pieces.{AreNumbers, HasPieces, IsPiecing}
use Rattle.pd_salvage_shapes.specs.Visiting.{mets_at, mets_of}
use Rattle.pd_salvage_shapes.proofs.MetPieces.{begins, has_pieces}
use Rattle.pd_salvage_shapes.proofs.OnceLemmas.{kept_more, kept_none, mets_step, unspent}
use Rattle.pd_salvage_shapes.proofs.pieces.Piecing.take_device.Goals as goal

pub loop-k-init : goal.loop-k-init
loop-k-init c = record {
  piecing = λ ones are. begins ones c.args.self.now.pieces.items c.args.self.now.runs c.args.self.now c.requires.idle refl refl;
  others = kept_none c.args.times.now c.args.notes.now;
  sized = c.requires.sized;
}

pub take_at-requires : goal.take_at-requires
take_at-requires c = record {
  sized = c.loop-k.invariant.sized;
  within =
      let number = c.loop-k.invariant.others.number in
      let within = c.requires.within c.loop-k.k-index (omega arith) in
      omega arith;
}

pub forget_once-requires : goal.forget_once-requires
forget_once-requires c =
    let number = c.loop-k.invariant.others.number in
    let within = c.requires.within c.loop-k.k-index (omega arith) in
    omega arith

pub loop-k-preserved : goal.loop-k-preserved
loop-k-preserved c =
    let first = c.args.notes.now in
    let notes = c.loop-k.notes in
    let met = c.args.met.now in
    let times = c.args.times.now in
    let i = c.loop-k.k-index in
    let k = get_or met i 0 in
    let still : slice_get notes k ≡ slice_get first k = c.loop-k.invariant.others.same k (unspent times met i c.requires.once (omega arith)) in
    record {
      piecing = λ ones are.
          subst (λ (ms : List Met). IsPiecing ones c.args.self.now.pieces.items c.args.self.now.runs c.take_at.new.self ms)
          (ap (λ o. mets_of first (take i met) ++ mets_at o) still ∙ sym (mets_step first met i (omega arith)))
          (c.in_ok-take_at.ensures ones c.args.self.now.pieces.items c.args.self.now.runs (mets_of first (take i met)) are (c.loop-k.invariant.piecing ones are));
      others =
          subst (λ (ks : List ℕ). KeepsOthers times ks first c.forget_once.new.notes) (sym (take_more met i 0 (omega arith)))
          (kept_more times (take i met) (k ∷ []) first notes c.forget_once.new.notes c.loop-k.invariant.others c.forget_once.ensures.others);
      sized = c.forget_once.ensures.sized (length c.args.numbers.now) c.loop-k.invariant.sized;
    }

pub returns-clause-takes : goal.returns-clause-takes
returns-clause-takes c =
    let old = c.args.self.now in
    let met = c.args.met.now in
    let notes = c.args.notes.now in
    let has : (ones : List ℕ) → AreNumbers ones c.args.numbers.now → HasPieces ones old.pieces.items old.runs c.end_own.new.self (mets_of notes met) = λ ones are.
    let is = subst (λ (ks : List ℕ). IsPiecing ones old.pieces.items old.runs c.loop-k.self (mets_of notes ks)) (take_all c.loop-k.k-index met (omega arith)) (c.loop-k.invariant.piecing ones are) in
    has_pieces ones old.pieces.items old.runs c.loop-k.self c.end_own.new.self (mets_of notes met) is (c.in_ok-end_own.ensures.ends (old.runs ++ is.given_runs) is.mappings is.joining is.first) in
    record {
      idle = c.in_ok-end_own.ensures.idle;
      has = has;
      counted = λ ones are.
          let pieces = has ones are in
          let lengths = ap length pieces.pieces_are ∙ length-append old.pieces.items pieces.given in
          omega (arith, lengths, c.len.ensures, c.len-before.ensures, c.saturating_sub.ensures);
    }

pub returns-clause-others : goal.returns-clause-others
returns-clause-others c =
    subst (λ (ks : List ℕ). KeepsOthers c.args.times.now ks c.args.notes.now c.loop-k.notes) (take_all c.loop-k.k-index c.args.met.now (omega arith)) c.loop-k.invariant.others

use Rattle.std.proofs.Common.{◌≡◌, ℕ, ◌<◌, ◌≤◌, ◌∷◌, [], length, map, ap, ◌∙◌, arith}
use Rattle.std.proofs.lemmas.List.{length-append, length-map}
use Rattle.pd_meaning_thin.specs.Packed.{ByteChunks, in_order}
use Rattle.pd_meaning_thin.proofs.EndLemmas.{unchunked_from-next, unchunked_from-past, unchunked_from-run}
use Rattle.pd_meaning_thin.proofs.chunks.Chunks.next.Goals as goal

pub returns-in-Some : goal.returns-in-Some
returns-in-Some c =
    let l = c.loop-number in
    l.invariant.left
    ∙ unchunked_from-run (in_order c.args.self.now) c.args.place.now.before c.in-Some.run' l.number l.at c.in-Some.end
    (rw (c.chunk.ensures, l.invariant.same) at c.in-Some.ensures)

pub loop-number-preserved : goal.loop-number-preserved
loop-number-preserved c =
    let l = c.loop-number in
    record {
      same = l.invariant.same;
      left =
          l.invariant.left
          ∙ unchunked_from-next (in_order c.args.self.now) c.args.place.now.before l.number l.at
          (rw (c.chunk.ensures, l.invariant.same) at c.in_default.ensures);
    }

-- the chunk behind the last one
no_chunk : (chunks : ByteChunks) (number : ℕ) → length chunks.full < number → length (in_order chunks) ≤ number
no_chunk chunks number past = omega (arith, length-append chunks.full (chunks.tail ∷ []))

pub returns : goal.returns
returns c =
    let l = c.loop-number in
    let s = c.self.inside in
    let all : length (map (λ v. v.items) s.full.items) ≡ length c.args.self.now.full =
    ap (λ (chunks : ByteChunks). length chunks.full) c.self.view_is in
    let past : length c.args.self.now.full < l.number = omega (arith, all, length-map s.full.items (λ v. v.items), s.full.ok) in (
      l.invariant.left
          ∙ unchunked_from-past (in_order c.args.self.now) c.args.place.now.before l.number l.at (no_chunk c.args.self.now l.number past),
      l.invariant.same,
    )

use Rattle.std.proofs.Common.{◌≡◌, ◌<◌, true, ◌&&◌, not, nat_eq, sym, ◌∙◌, subst, arith, inl, inr, eq-eqb, refl}
use Rattle.std.proofs.lemmas.Bool.{and_parts, both_ways, cases_eq, eqb-true}
use Rattle.pd_count.specs.Counted.{HasCounted}
use Rattle.pd_check.specs.Refs.{refs_in}
use Rattle.pd_check.proofs.CounterLemmas.{other_role, sound_block, unsound_block}
use Rattle.pd_check.proofs.counter.RefCounterWatch.see.Goals as goal

pub returns-in-Ok-clause-seen : goal.returns-in-Ok-clause-seen
returns-in-Ok-clause-seen g c =
    let graph = g.F.Format.graph c.args.format.now in
    let counter = c.args.self.now in
    let all = and_parts (not counter.lacks_memory && nat_eq c.args.role counter.role) c.is_empty-is_sound.result c.if-has_memory-is_its_own.true in
    let its_own = and_parts (not counter.lacks_memory) (nat_eq c.args.role counter.role) all.0 in
    let same : c.args.role ≡ counter.role = eqb-true c.args.role counter.role its_own.1 in
    λ image before after here more seen. record {
      one_role = seen.one_role;
      counted = λ enough.
          subst (λ role. HasCounted c.add_refs.new.counts (refs_in graph image role after)) same
          (sound_block graph (g.F.Format.contents c.args.format.now) image c.args.role c.args._b c.args.block.now.0 counter.counts c.add_refs.new.counts before after
          (g.met.F.Format.lawful c.args.format.now) (omega (arith, g.met.F.Format.roles c.args.format.now, c.requires.role)) c.requires.within here more
          (g.met.F.Format.told c.args.format.now) (λ rule. sym (c.requires.judged rule) ∙ c.is_empty-is_sound.ensures.0 all.1 rule)
          c.requires.room c.in-Ok.ensures.counted (subst (λ role. HasCounted counter.counts (refs_in graph image role before)) (sym same) (seen.counted enough)));
    }

pub returns-in-Err-clause-seen : goal.returns-in-Err-clause-seen
returns-in-Err-clause-seen g c = λ image before after here more seen. record {
  one_role = seen.one_role;
  counted = λ enough. absurd (both_ways true enough refl);
}

pub returns-else-has_memory-is_its_own-clause-seen : goal.returns-else-has_memory-is_its_own-clause-seen
returns-else-has_memory-is_its_own-clause-seen g c =
    let graph = g.F.Format.graph c.args.format.now in
    let counter = c.args.self.now in
    let lawful = g.met.F.Format.lawful c.args.format.now in
    let known : c.args.role < graph.roles = omega (arith, g.met.F.Format.roles c.args.format.now, c.requires.role) in
    λ image before after here more seen. record {
      one_role = seen.one_role;
      counted = λ enough. elim (cases_eq counter.role c.args.role) [
        | inl same ↦
            subst (λ role. HasCounted counter.counts (refs_in graph image role after)) (sym same)
            (unsound_block graph (g.F.Format.contents c.args.format.now) image c.args.role c.args._b c.args.block.now.0 counter.counts counter.counts before after
            lawful known c.requires.within here more
            (λ sound.
            let empty : c.is_empty-is_sound.result ≡ true = c.is_empty-is_sound.ensures.1 (λ rule. c.requires.judged rule ∙ sound rule) in
            both_ways ((not counter.lacks_memory && nat_eq c.args.role counter.role) && c.is_empty-is_sound.result) c.if-has_memory-is_its_own.false
            (rw (enough, eq-eqb c.args.role counter.role (sym same), empty) refl))
            (subst (λ role. HasCounted counter.counts (refs_in graph image role before)) same (seen.counted enough)))
        | inr differs ↦
            other_role graph image counter.role counter.counts before after c.args._b c.args.role counter.few (omega (arith, known, lawful.few_roles)) differs more (seen.counted enough)
      ];
    }

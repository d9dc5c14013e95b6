use Rattle.std.proofs.Common.{◌∙◌}
use Rattle.pd_kinds.specs.declared.kind.Kind.TheVariants.{Cache}
use Rattle.pd_kinds.specs.declared.kind.Stage.TheVariants.{Counts, Whole}
use Rattle.pd_answers.specs.Writebacks.{settled}
use Rattle.pd_laws_answers.proofs.WrittenBack.{holds_written_back}
use Rattle.pd_laws_answers.proofs.caches.written_back_cache_is_clean.Goals as goal

pub returns : goal.returns
returns c = λ metadata fast origin before after status answered.
    let same = c.settled_caches_have_the_same_faults.ensures in
    let clean = c.faults_are_none_where_clean.ensures in
    holds_written_back
    (record {
      kept = c.copying_keeps_the_view.ensures.same;
      alone = λ image origin fast none agree. c.copied_origins_stand_alone.ensures image origin fast none agree;
      shows = c.settled_caches_show_the_same.ensures;
    })
    (λ image is none. (
      same Whole image is none ∙ none,
      λ is_clean. (clean Cache (settled image)).0 (same Counts image is none ∙ (clean Cache image).1 is_clean),
      c.settled_caches_mean_the_same.ensures.meaning image is none,
    ))
    c.copying_keeps_the_view.ensures.copied
    metadata fast origin before after status answered

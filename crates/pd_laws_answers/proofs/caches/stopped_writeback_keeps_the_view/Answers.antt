use Rattle.pd_laws_answers.proofs.WrittenBack.{keeps_the_view}
use Rattle.pd_laws_answers.proofs.caches.stopped_writeback_keeps_the_view.Goals as goal

pub returns : goal.returns
returns c = λ metadata fast origin before after status answered.
    keeps_the_view
    (record {
      kept = c.copying_keeps_the_view.ensures.same;
      alone = λ image origin fast none agree. c.copied_origins_stand_alone.ensures image origin fast none agree;
      shows = c.settled_caches_show_the_same.ensures;
    })
    metadata fast origin before after status answered

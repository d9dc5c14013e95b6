use Rattle.std.proofs.Common.{None}
use Rattle.std.proofs.lemmas.Option.{IfSome_then}
use Rattle.pd_answers.specs.declared.request.Asked.TheVariants.{KeptCache}
use Rattle.pd_laws_answers.proofs.Asked.{answered_for, answers}
use Rattle.pd_laws_answers.proofs.CacheWords.{dry_cache_asked}
use Rattle.pd_laws_answers.proofs.words.cache_repair_tells_what_it_would_keep.Goals as goal

pub returns : goal.returns
returns c = λ word version roots named image before after said say is_image ends.
    IfSome_then before.input.held (answers (KeptCache named) None image before after (answered_for _ _ 0 before after (dry_cache_asked word version roots named said say image is_image) ends))
    (λ held is. record { sound = is.0; put = is.1 })

use Rattle.std.proofs.Common.{[], ◌++◌, ◌∙◌, Some, None, IfSome, subst}
use Rattle.pd_pool_dumps.specs.LeafText.{IsTextOf, runs_from}
use Rattle.pd_pool_dumps.proofs.LeafTextLemmas.{first_given, goes_on, left_behind}
use Rattle.pd_query.proofs.QueryLemmas.{one_told}
use Rattle.pd_pool_dumps.proofs.RunLemmas.{runs_fail, runs_then}
use Rattle.pd_pool_dumps.proofs.leaf_lines.add_kept.Goals as goal

pub returns-in_err-add_run-clause-prints : goal.returns-in_err-add_run-clause-prints
returns-in_err-add_run-clause-prints g c = λ held mappings rest is.
    let old = c.args.joined.now in
    let mid = c.append.new.self in
    let later = c.args.text.now.later in
    let lost = c.in_err-add_run.ensures.prints held (λ image. runs_from old (mappings image ++ rest image)) (λ image. left_behind old c.args.text.now.first mid later (mappings image) (rest image))
    (one_told held (λ image is. first_given old c.args.text.now.first mid c.append.result later (mappings image) (rest image) c.append.ensures.given is) is) in
    runs_fail held (λ image. runs_from mid (rest image)) c.from_residual.result c.from_residual.ensures.0 lost.outcome

pub returns-in-Some-clause-prints : goal.returns-in-Some-clause-prints
returns-in-Some-clause-prints g c = λ held mappings rest is.
    let old = c.args.joined.now in
    let first = c.args.text.now.first in
    let mid = c.append.new.self in
    let later = c.in-Some.later in
    let texts = subst (λ o. IfSome held (λ image. IsTextOf (mappings image) first o)) c.in-Some.is is in
    let begins = c.in_ok-add_run.ensures.prints held (λ image. runs_from old (mappings image ++ rest image)) (λ image. left_behind old first mid (Some later) (mappings image) (rest image))
    (one_told held (λ image is. first_given old first mid c.append.result (Some later) (mappings image) (rest image) c.append.ensures.given is) texts) in
    rw c.add_later.ensures.last
    (runs_then held c.add_later.result begins.outcome
    (c.add_later.ensures.prints held (λ image. left_behind old first mid (Some later) (mappings image) (rest image)) (λ image. runs_from later.last (rest image))
    (one_told held (λ image is. goes_on old first mid later (mappings image) (rest image) is) texts)))

pub returns-in-None-clause-prints : goal.returns-in-None-clause-prints
returns-in-None-clause-prints g c = λ held mappings rest is.
    let old = c.args.joined.now in
    let first = c.args.text.now.first in
    let mid = c.append.new.self in
    let texts = subst (λ o. IfSome held (λ image. IsTextOf (mappings image) first o)) c.in-None.is is in
    let all = c.in_ok-add_run.ensures.prints held (λ image. runs_from old (mappings image ++ rest image)) (λ image. runs_from mid (rest image))
    (one_told held (λ image is. first_given old first mid c.append.result None (mappings image) (rest image) c.append.ensures.given is) texts) in
    record { outcome = all.outcome }

pub add_later-requires : goal.add_later-requires
add_later-requires g c =
    let begins = c.in_ok-add_run.ensures.prints None (λ image. []) (λ image. []) tt in
    begins.outcome.printed.kept.access ∙ c.requires

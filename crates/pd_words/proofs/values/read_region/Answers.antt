use Rattle.std.proofs.Common.{lit<, ◌∙◌}
use Rattle.std.proofs.lemmas.Str.Pattern.{split_parts, strip_prefix_char}
use Rattle.pd_words.proofs.NumberLemmas.{no_point, one_point, two_points}
use Rattle.pd_words.proofs.values.read_region.Goals as goal

pub returns-in-None : goal.returns-in-None
returns-in-None c = no_point c.args.word.now (rw c.in-None.is at (split_parts 46 c.args.word.now c.split_once.result c.split_once.ensures.cases (lit< tt)))

pub returns-in-None-strip_prefix : goal.returns-in-None-strip_prefix
returns-in-None-strip_prefix c =
    let parts = rw c.in-Some.is at (split_parts 46 c.args.word.now c.split_once.result c.split_once.ensures.cases (lit< tt)) in
    one_point c.in-Some.begin.now c.in-Some.rest.now c.args.word.now parts.0 parts.1
    (rw c.in-None-strip_prefix.is at (strip_prefix_char 46 c.in-Some.rest.now c.strip_prefix.result c.strip_prefix.ensures.cases (lit< tt)))

pub returns-in-Some-strip_prefix : goal.returns-in-Some-strip_prefix
returns-in-Some-strip_prefix c =
    let parts = rw c.in-Some.is at (split_parts 46 c.args.word.now c.split_once.result c.split_once.ensures.cases (lit< tt)) in
    let follows = rw c.in-Some-strip_prefix.is at (strip_prefix_char 46 c.in-Some.rest.now c.strip_prefix.result c.strip_prefix.ensures.cases (lit< tt)) in
    c.region_between.ensures ∙ two_points c.in-Some.begin.now c.in-Some.rest.now c.in-Some-strip_prefix.end.now c.args.word.now parts.0 parts.1 follows

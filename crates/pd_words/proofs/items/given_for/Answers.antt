use Rattle.std.proofs.Common.{map, string_bytes}
use Rattle.pd_words.specs.Items.{values_from}
use Rattle.pd_words.proofs.ItemLemmas.{given_never, given_once, given_often}
use Rattle.pd_words.proofs.items.given_for.Goals as goal

pub returns-in-None : goal.returns-in-None
unfolding values_from
returns-in-None c = given_never c.args.purpose.now (map string_bytes c.args.words.now) c.requires c.in-None.ensures

pub returns-in-None-found_from : goal.returns-in-None-found_from
unfolding values_from
returns-in-None-found_from c =
    given_once c.args.purpose.now (map string_bytes c.args.words.now) c.requires _ _ c.in-Some.ensures c.in-None-found_from.ensures

pub returns-in-Some-found_from : goal.returns-in-Some-found_from
unfolding values_from
returns-in-Some-found_from c =
    given_often c.args.purpose.now (map string_bytes c.args.words.now) c.requires _ _ _ _ c.in-Some.ensures c.in-Some-found_from.ensures

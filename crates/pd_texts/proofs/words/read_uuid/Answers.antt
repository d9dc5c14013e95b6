use Rattle.std.proofs.Common.{sym, ◌∙◌, ap, ◌≡◌, false}
use Rattle.std.proofs.lemmas.Bool.{true≢false}
use Rattle.std.specs.Str.{bytes_eq}
use Rattle.uuid.specs.Text.{parsed, hyphenated_text, lower}
use Rattle.pd_texts.proofs.WordLemmas.{other_bytes, no_bytes}
use Rattle.pd_texts.proofs.words.read_uuid.Goals as goal

pub returns-in_default : goal.returns-in_default
returns-in_default c = no_bytes parsed (hyphenated_text lower) c.args.word.now (λ some. true≢false (sym (c.in_default.ensures.ok.1 some)))

pub returns-else-eq : goal.returns-else-eq
returns-else-eq c =
    let differ : false ≡ bytes_eq c.encode_lower-text.result.now c.args.word.now = rw (← c.as_bytes.ensures.value) c.if-eq.ensures in
    let text : c.encode_lower-text.result.now ≡ hyphenated_text lower c.in-Ok.uuid = c.encode_lower-text.ensures.text ∙ ap (hyphenated_text lower) c.hyphenated.ensures in
    other_bytes parsed (hyphenated_text lower) c.args.word.now c.in-Ok.uuid c.encode_lower-text.result.now c.in-Ok.ensures.bytes text differ

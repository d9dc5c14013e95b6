use Rattle.std.proofs.Common.{◌≡◌, ◌∙◌, ap, length, arith}
use Rattle.uuid.proofs.TextLemmas.{by_index_length}
use Rattle.pd_texts.proofs.thin_print.add_uuid.Goals as goal

pub add-requires : goal.add-requires
add-requires c =
    let len : length c.as_bytes.result.now ≡ 36 = c.as_bytes.ensures.len ∙ ap length c.encode_lower-text.ensures.text ∙ by_index_length 36 _ in
    omega arith

pub returns-clause-len : goal.returns-clause-len
returns-clause-len c =
    let len : length c.as_bytes.result.now ≡ 36 = c.as_bytes.ensures.len ∙ ap length c.encode_lower-text.ensures.text ∙ by_index_length 36 _ in
    omega arith

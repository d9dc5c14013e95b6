use Rattle.pd_texts_kinds.proofs.CacheLemmas.{front_lines, refused_text, repeated_text}
use Rattle.pd_texts_kinds.proofs.cache_lines.cache_text_stops_where_an_origin_repeats.Goals as goal

pub returns : goal.returns
returns c = record { front = front_lines; refused = refused_text; repeated = repeated_text }

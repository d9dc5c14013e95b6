use Rattle.std.proofs.Common.{ℕ, cond, nat_eq, ◌∙◌, ap, arith}
use Rattle.pd_grammar.specs.Need.{need_array}
use Rattle.pd_restore_kinds.proofs.CachePartLemmas.{lawful_rows, hints_place, dirty_place, discards_place, map_place, whole_need, mapping_step, hints_step, dirty_counted, dirty_step, discards_step, all_wrote, mapping_root_is, hint_root_is, dirty_root_is, discard_root_is, meta_map_is}
use Rattle.pd_restore_kinds.proofs.cache_parts.write_parts.Goals as goal

pub write_words-requires-clause-rows : goal.write_words-requires-clause-rows
write_words-requires-clause-rows g c = lawful_rows c.args.cache.now c.args.rows.now c.requires.lawful

pub write_where-requires-clause-rows : goal.write_where-requires-clause-rows
write_where-requires-clause-rows g c = lawful_rows c.args.cache.now c.args.rows.now c.requires.lawful

pub write_where-requires-2-clause-rows : goal.write_where-requires-2-clause-rows
write_where-requires-2-clause-rows g c = lawful_rows c.args.cache.now c.args.rows.now c.requires.lawful

pub write_words-requires-clause-room : goal.write_words-requires-clause-room
write_words-requires-clause-room g c =
    let cache = c.args.cache.now in
    let rows = c.args.rows.now in
    let version = c.args.version in
    omega (
      arith,
      c.requires.place,
      c.requires.need,
      c.requires.there,
      hints_place cache rows version,
      dirty_place cache rows version,
      discards_place cache rows version,
      map_place cache rows version,
      whole_need cache rows version c.args.room,
    )

pub write_where-requires-clause-room : goal.write_where-requires-clause-room
write_where-requires-clause-room g c =
    let cache = c.args.cache.now in
    let rows = c.args.rows.now in
    let version = c.args.version in
    let first = mapping_step cache rows version c.requires.place c.in_ok-mapping_root.ensures.wrote in
    omega (
      arith,
      first,
      c.requires.need,
      c.requires.there,
      c.write_words.ensures.closed.kept.blocks,
      dirty_place cache rows version,
      discards_place cache rows version,
      map_place cache rows version,
      whole_need cache rows version c.args.room,
    )

pub write_where-requires-2-clause-room : goal.write_where-requires-2-clause-room
write_where-requires-2-clause-room g c =
    let cache = c.args.cache.now in
    let rows = c.args.rows.now in
    let version = c.args.version in
    let first = mapping_step cache rows version c.requires.place c.in_ok-mapping_root.ensures.wrote in
    let second = hints_step cache rows version first c.in_ok-hint_root.ensures.wrote in
    let words = ap (λ (n : ℕ). cond (nat_eq version 2) (need_array 8 n) 0) c.dirty_words-words.ensures.number in
    omega (
      arith,
      second,
      words,
      c.requires.need,
      c.requires.there,
      c.write_words.ensures.closed.kept.blocks,
      c.write_where.ensures.closed.kept.blocks,
      discards_place cache rows version,
      map_place cache rows version,
      whole_need cache rows version c.args.room,
    )

pub write_none-requires-clause-room : goal.write_none-requires-clause-room
write_none-requires-clause-room g c =
    let cache = c.args.cache.now in
    let rows = c.args.rows.now in
    let version = c.args.version in
    let first = mapping_step cache rows version c.requires.place c.in_ok-mapping_root.ensures.wrote in
    let second = hints_step cache rows version first c.in_ok-hint_root.ensures.wrote in
    let third = dirty_step cache rows version second (dirty_counted cache rows version c.write_where.new.draft.next c.dirty_words-words.result c.dirty_words-words.ensures.number c.in_ok-dirty_root.ensures.wrote) in
    omega (
      arith,
      third,
      c.requires.need,
      c.requires.there,
      c.write_words.ensures.closed.kept.blocks,
      c.write_where.ensures.closed.kept.blocks,
      c.write_where-2.ensures.closed.kept.blocks,
      map_place cache rows version,
      whole_need cache rows version c.args.room,
    )

pub write_own_map-requires-clause-within : goal.write_own_map-requires-clause-within
write_own_map-requires-clause-within g c =
    let cache = c.args.cache.now in
    let rows = c.args.rows.now in
    let version = c.args.version in
    let first = mapping_step cache rows version c.requires.place c.in_ok-mapping_root.ensures.wrote in
    let second = hints_step cache rows version first c.in_ok-hint_root.ensures.wrote in
    let third = dirty_step cache rows version second (dirty_counted cache rows version c.write_where.new.draft.next c.dirty_words-words.result c.dirty_words-words.ensures.number c.in_ok-dirty_root.ensures.wrote) in
    let fourth = discards_step cache rows version third c.in_ok-discard_root.ensures.wrote in
    omega (arith, fourth, c.requires.need, whole_need cache rows version c.args.room)

pub returns-clause-wrote : goal.returns-clause-wrote
returns-clause-wrote g c =
    let cache = c.args.cache.now in
    let rows = c.args.rows.now in
    let version = c.args.version in
    let dirty = dirty_counted cache rows version c.write_where.new.draft.next c.dirty_words-words.result c.dirty_words-words.ensures.number c.in_ok-dirty_root.ensures.wrote in
    let first = mapping_step cache rows version c.requires.place c.in_ok-mapping_root.ensures.wrote in
    let second = hints_step cache rows version first c.in_ok-hint_root.ensures.wrote in
    let third = dirty_step cache rows version second dirty in
    let fourth = discards_step cache rows version third c.in_ok-discard_root.ensures.wrote in
    all_wrote cache rows version c.args.room (omega (arith, c.requires.need, c.requires.most, whole_need cache rows version c.args.room)) c.requires.place first second third fourth
    c.in_ok-mapping_root.ensures.wrote c.in_ok-hint_root.ensures.wrote dirty c.in_ok-discard_root.ensures.wrote c.in_ok-meta_map.ensures.wrote

pub returns-clause-parts : goal.returns-clause-parts
returns-clause-parts g c =
    let cache = c.args.cache.now in
    let rows = c.args.rows.now in
    let version = c.args.version in
    let room = c.args.room in
    let whole = whole_need cache rows version room in
    let dirty = dirty_counted cache rows version c.write_where.new.draft.next c.dirty_words-words.result c.dirty_words-words.ensures.number c.in_ok-dirty_root.ensures.wrote in
    let first = mapping_step cache rows version c.requires.place c.in_ok-mapping_root.ensures.wrote in
    let second = hints_step cache rows version first c.in_ok-hint_root.ensures.wrote in
    let third = dirty_step cache rows version second dirty in
    let fourth = discards_step cache rows version third c.in_ok-discard_root.ensures.wrote in
    record {
      mapping_root = c.in_ok-mapping_root.ensures.root ∙ mapping_root_is cache rows version room c.args.draft.now.next c.requires.place;
      hint_root = c.in_ok-hint_root.ensures.root ∙ hint_root_is cache rows version room c.write_words.new.draft.next first;
      dirty_root = c.in_ok-dirty_root.ensures.root
          ∙ dirty_root_is cache rows version room c.write_where.new.draft.next c.dirty_words-words.result second c.dirty_words-words.ensures.number;
      discard_root = c.in_ok-discard_root.ensures.root ∙ discard_root_is cache rows version room c.write_where-2.new.draft.next third;
      meta_map = c.in_ok-meta_map.ensures.root
          ∙ meta_map_is cache rows version room c.write_none.new.draft.next fourth (omega (arith, c.requires.need, c.requires.most, whole)) (omega (arith, fourth, c.requires.need, whole));
    }

use Rattle.std.proofs.Common.{rules, ◌∙◌, ap, arith}
use Rattle.std.proofs.lemmas.Result.{err_from_is_err_and}
use Rattle.pd_kinds.specs.EraFormat.{era_super_block}
use Rattle.pd_draft.specs.DraftState.{draft_state}
use Rattle.pd_laid.specs.LaidEra.{laid_era}
use Rattle.pd_grammar.proofs.GrammarLemmas.{is_reader}
use Rattle.pd_grammar.specs.EraText.{era_need_so_far}
use Rattle.pd_grammar.specs.EraText.{era, MeansEra}
use Rattle.pd_grammar.proofs.EraRead.{FitsLine, Placed, era_grammar}
use Rattle.pd_grammar.proofs.EraLaws.{era_language}
use Rattle.pd_texts.proofs.LawLemmas.{read_lines_mean, whole_bytes}
use Rattle.pd_restoring.proofs.ReadingLemmas.{accepted_whole, later_build}
use Rattle.pd_restore_kinds.specs.EraRoots.{begun_lines, head_of_target}
use Rattle.pd_restore_kinds.proofs.ReadingLemmas.{target_reading}
use Rattle.pd_restore_kinds.proofs.ReadingLemmas.{eras_of_lines, whole_need, number_fits, head_is, fields_are}
use Rattle.pd_restore_kinds.proofs.target.write_target.Goals as goal

pub restore_lines-requires-clause-reading : goal.restore_lines-requires-clause-reading
restore_lines-requires-clause-reading g c =
    let n = c.in_ok-array.ensures in
    let begun = target_reading c.args.target.now c.args.room c.args.text.now c.requires.reads c.requires.closed n.size n.left n.made n.blocks n.root n.number c.requires.place c.requires.need c.requires.there in
    record { before = begun_lines c.args.target.now; room = c.args.room; start = draft_state c.args.draft.now; so_far = begun }

pub returns-in_err-restore_lines-clause-says : goal.returns-in_err-restore_lines-clause-says
returns-in_err-restore_lines-clause-says g c t leaves =
    let n = c.in_ok-array.ensures in
    let begun = target_reading c.args.target.now c.args.room c.args.text.now c.requires.reads c.requires.closed n.size n.left n.made n.blocks n.root n.number c.requires.place c.requires.need c.requires.there in
    let says = c.in_err-restore_lines.ensures.says (begun_lines c.args.target.now) c.args.room (draft_state c.args.draft.now) begun t leaves in
    search rules

pub write_parts-requires-clause-room : goal.write_parts-requires-clause-room
write_parts-requires-clause-room g c =
    let n = c.in_ok-array.ensures in
    let begun = target_reading c.args.target.now c.args.room c.args.text.now c.requires.reads c.requires.closed n.size n.left n.made n.blocks n.root n.number c.requires.place c.requires.need c.requires.there in
    let e = c.in_ok-restore_lines.ensures.all (begun_lines c.args.target.now) c.args.room (draft_state c.args.draft.now) begun in
    let m = read_lines_mean era MeansEra FitsLine Placed era_language e.lines e.all.reads e.all.ended in
    record {
      target = m.0;
      start = draft_state c.args.draft.now;
      eras = eras_of_lines e.lines m.0 e.all.gathered e.all.covered e.all.begin m.1;
      need = omega (arith, whole_need e.lines m.0 c.args.room m.1, e.all.need);
      most = c.requires.most;
      there = e.all.there;
    }

pub returns-clause-writes : goal.returns-clause-writes
unfolding laid_era
returns-clause-writes g c =
    let n = c.in_ok-array.ensures in
    let begun = target_reading c.args.target.now c.args.room c.args.text.now c.requires.reads c.requires.closed n.size n.left n.made n.blocks n.root n.number c.requires.place c.requires.need c.requires.there in
    let e = c.in_ok-restore_lines.ensures.all (begun_lines c.args.target.now) c.args.room (draft_state c.args.draft.now) begun in
    let m = read_lines_mean era MeansEra FitsLine Placed era_language e.lines e.all.reads e.all.ended in
    let eras = eras_of_lines e.lines m.0 e.all.gathered e.all.covered e.all.begin m.1 in
    let head = head_is (head_of_target c.args.target.now) e.later e.lines m.0 m.1 e.front in
    record {
      meaning = m.0;
      lawful = m.1.lawful;
      fits = number_fits m.0 c.args.room m.1.lawful.one_each (omega (arith, whole_need e.lines m.0 c.args.room m.1, e.all.need)) c.requires.most;
      super_is = c.write_era_super.ensures.block
          ∙ ap era_super_block (c.super_of.ensures ∙ fields_are c.args.target.now c.in_ok-parts.parts c.args.room m.0 head (c.in_ok-parts.ensures.parts m.0 (draft_state c.args.draft.now) eras));
      wrote = c.in_ok-parts.ensures.wrote m.0 (draft_state c.args.draft.now) eras;
      told = λ t leaves. accepted_whole era era_need_so_far MeansEra (whole_bytes era (is_reader era FitsLine Placed era_grammar)) t e.lines c.args.room m.0
          (g.S.Source.state c.restore_lines.new.source).left m.1 e.all.above (e.told t leaves);
    }

pub returns-in_err-parts-clause-later : goal.returns-in_err-parts-clause-later
returns-in_err-parts-clause-later g c =
    let p = err_from_is_err_and c.from_residual-in_err-parts.result c.from_residual-in_err-parts.ensures.1 in
    rw (p.1, p.2) (later_build c.in_err-parts.field-0.0)

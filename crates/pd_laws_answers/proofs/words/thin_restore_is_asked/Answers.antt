use Rattle.std.proofs.Common.{refl}
use Rattle.pd_answers.specs.Words.{is_flag, items_of, given, version_of, tool_in, request_of, asked}
use Rattle.pd_laws_answers.proofs.words.thin_restore_is_asked.Goals as goal

pub returns-clause-text_first : goal.returns-clause-text_first
unfolding is_flag items_of given version_of tool_in request_of asked
returns-clause-text_first c file path is_file is_path = rw (is_file, is_path) refl

pub returns-clause-image_first : goal.returns-clause-image_first
unfolding is_flag items_of given version_of tool_in request_of asked
returns-clause-image_first c file path is_file is_path = rw (is_path, is_file) refl

use Rattle.std.proofs.Common.{refl}
use Rattle.uuid.specs.Text.{by_index}
use Rattle.std.specs.Fmt.{digits}
use Rattle.pd_grammar.specs.Texts.{is_canonical, number_of, bytes_of}
use Rattle.pd_grammar.specs.Texts.{tested, read, lines_after}
use Rattle.pd_grammar.specs.Tables.{values_in, kind_named, parsed_by}
use Rattle.pd_grammar.specs.Need.{need_above, nodes_of_tree}
use Rattle.pd_grammar.specs.Need.{overflows_in}
use Rattle.pd_laid.specs.PoolText.{need_of_shared, used_often, shape_data, shape_need}
use Rattle.pd_laid.specs.PoolText.{text_of_shape}
use Rattle.pd_laid.proofs.shapes.two_users_of_a_leaf.Goals as goal

pub returns-clause-text : goal.returns-clause-text
unfolding text_of_shape by_index digits
returns-clause-text c = refl

pub returns-clause-need : goal.returns-clause-need
unfolding shape_need need_of_shared used_often shape_data overflows_in need_above nodes_of_tree
returns-clause-need c = refl

pub returns-clause-read : goal.returns-clause-read
unfolding lines_after read tested parsed_by kind_named values_in bytes_of number_of is_canonical by_index
returns-clause-read c = refl

pub returns-clause-beyond : goal.returns-clause-beyond
unfolding lines_after read tested parsed_by kind_named values_in bytes_of number_of is_canonical by_index
returns-clause-beyond c = refl

pub returns-clause-unused : goal.returns-clause-unused
unfolding lines_after read tested parsed_by kind_named values_in bytes_of number_of is_canonical by_index
returns-clause-unused c = refl

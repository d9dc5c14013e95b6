use Rattle.std.proofs.Common.{ℕ, List, [], ◌∷◌, ◌++◌, ◌≤◌, ◌-◌, cond, length, take, drop, ap, ◌∙◌, arith, length-drop}
use Rattle.std.proofs.lemmas.List.{take_all}
use Rattle.pd_grammar.specs.Texts.{text_of_lines}
use Rattle.pd_grammar.specs.ThinText.{end_line, thin}
use Rattle.pd_gen.specs.Lines.{lines_left}
use Rattle.pd_gen.proofs.Putting.{moved_front}
use Rattle.pd_gen.proofs.source.GenSource.move_bytes.Goals as goal

pub returns-clause-moved : goal.returns-clause-moved
returns-clause-moved c =
    let source = c.args.self.now in
    let n = c.copy_front-n.result in
    let bytes = c.as_bytes.result.now in
    let rest = drop source.given bytes in
    let all : length rest ≤ length bytes - source.given = omega (arith, length-drop source.given bytes) in
    moved_front n source.given source.line c.copy_front-n.new.into (cond source.ended [] (text_of_lines thin (lines_left source.lines ++ (end_line ∷ []))))
    (c.copy_front-n.ensures.front ∙ ap (λ (ys : List ℕ). take n ys) (take_all (length bytes - source.given) rest all)
    ∙ ap (λ (ys : List ℕ). take n (drop source.given ys)) c.as_bytes.ensures.bytes)

use Rattle.std.proofs.Common.{◌≡◌, ◌∙◌, sym, ap, take, drop, get_or, slice_index, refl, false, not, ◌&&◌, List, ℕ, ◌∷◌}
use Rattle.pd_grammar.specs.declared.value.Field.TheVariants as f
use Rattle.pd_grammar.specs.Tables.{values_in}
use Rattle.pd_grammar.proofs.WordLemmas.{both}
use Rattle.std.proofs.lemmas.List.{take_all}
use Rattle.pd_grammar.proofs.TableLemmas.{values_at}
use Rattle.pd_texts.specs.Words.{first_word, words_in, is_name, name_at}
use Rattle.pd_texts.proofs.ValueLemmas.{continued, is_bad, value_step, value_fails, value_lacks, values_past, values_done, values_bad}
use Rattle.pd_texts.proofs.words.read_values.Goals as goal

pub returns-in-None : goal.returns-in-None
returns-in-None c =
    sym c.loop-i.invariant.0 ∙ rw c.in-None.is (value_lacks c.args.fields.now (values_at (take c.loop-i.i c.args.fields.now) (name_at c.loop-i.names) (slice_index c.loop-i.numbers)) c.loop-i.i c.loop-i.all f.Uuid c.loop-i-test.true)

pub returns-then-good-is_name : goal.returns-then-good-is_name
returns-then-good-is_name c =
    let field = get_or c.args.fields.now c.loop-i.i f.Uuid in
    let words : words_in c.loop-i.rest ≡ first_word c.in-Some.text.now ∷ words_in c.put_value-good.result.1 = ap words_in c.in-Some.is ∙ c.put_value-good.ensures.cut in
    let tests = both (not c.put_value-good.result.0) c.is_name.result c.if-good-is_name.true in
    sym c.loop-i.invariant.0 ∙ rw words
    (value_fails c.args.fields.now (values_at (take c.loop-i.i c.args.fields.now) (name_at c.loop-i.names) (slice_index c.loop-i.numbers)) c.loop-i.i c.loop-i.all c.put_value-good.result.0 field (first_word c.in-Some.text.now) (words_in c.put_value-good.result.1) f.Uuid
    c.loop-i-test.true refl c.put_value-good.ensures.read (is_bad c.put_value-good.result.0 tests.0) (sym c.is_name.ensures ∙ tests.1))

pub loop-i-preserved : goal.loop-i-preserved
loop-i-preserved c =
    let field = get_or c.args.fields.now c.loop-i.i f.Uuid in
    let words : words_in c.loop-i.rest ≡ first_word c.in-Some.text.now ∷ words_in c.put_value-good.result.1 = ap words_in c.in-Some.is ∙ c.put_value-good.ensures.cut in
    let other : (not c.put_value-good.result.0 && is_name field) ≡ false = rw (← c.is_name.ensures) c.if-good-is_name.false in (
      value_step c.args.fields.now c.loop-i.names c.put_value-good.new.names c.loop-i.numbers c.put_value-good.new.numbers c.loop-i.i c.loop-i.all c.put_value-good.result.0 field (first_word c.in-Some.text.now) (words_in c.put_value-good.result.1)
          f.Uuid c.loop-i-test.true refl c.put_value-good.ensures.read c.put_value-good.ensures.put c.put_value-good.ensures.names_before c.put_value-good.ensures.numbers_before other
          ∙ ap (λ (ws : List (List ℕ)). continued (values_at (take c.loop-i.i c.args.fields.now) (name_at c.loop-i.names) (slice_index c.loop-i.numbers)) c.loop-i.all (values_in (drop c.loop-i.i c.args.fields.now) ws)) (sym words) ∙ c.loop-i.invariant.0,
      (c.put_value-good.ensures.names_len ∙ c.loop-i.invariant.1.0, c.put_value-good.ensures.numbers_len ∙ c.loop-i.invariant.1.1),
    )

pub returns-then-is_some : goal.returns-then-is_some
returns-then-is_some c =
    sym c.loop-i.invariant.0 ∙ values_past c.args.fields.now (values_at (take c.loop-i.i c.args.fields.now) (name_at c.loop-i.names) (slice_index c.loop-i.numbers)) c.loop-i.i c.loop-i.all c.loop-i.rest c.loop-i-test.false c.if-is_some.ensures

pub returns-then-all : goal.returns-then-all
returns-then-all c =
    let whole : take c.loop-i.i c.args.fields.now ≡ c.args.fields.now = take_all c.loop-i.i c.args.fields.now c.loop-i-test.false in
    sym c.loop-i.invariant.0 ∙ rw (c.if-all.true, whole) (values_done c.args.fields.now (values_at c.args.fields.now (name_at c.loop-i.names) (slice_index c.loop-i.numbers)) c.loop-i.i c.loop-i.rest c.loop-i-test.false c.if-is_some.ensures)

pub returns-else-all : goal.returns-else-all
returns-else-all c =
    sym c.loop-i.invariant.0 ∙ rw c.if-all.false (values_bad c.args.fields.now (values_at (take c.loop-i.i c.args.fields.now) (name_at c.loop-i.names) (slice_index c.loop-i.numbers)) c.loop-i.i c.loop-i.rest c.loop-i-test.false c.if-is_some.ensures)

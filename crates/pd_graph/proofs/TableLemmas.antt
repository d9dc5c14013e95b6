-- Tables by block number: what a write changes, and what a new one holds.
use Rattle.std.proofs.Common.{◌≡◌, ℕ, zero, suc, ◌<◌, Bool, false, ◌||◌, ◌&&◌, nat_eq, get_or, set, replicate, List, [], ◌∷◌, length, refl, ap, sym, ◌∙◌, arith, ◌+◌, ◌-◌, ◌≤◌, ◌++◌, take, true, cond}
use Rattle.std.proofs.Math.Bool.{or-false}
use Rattle.std.proofs.lemmas.List.{append_assoc, length-append, length-replicate, length-set, take_all, set-append_left, replicate-append-replicate, get_or_append_left, get_or-append_right, get_or-replicate}
use Rattle.pd_kinds.specs.declared.rule.Rule.{Rule}
use Rattle.pd_kinds.specs.declared.rules.Rules.{Rules}
use Rattle.pd_kinds.specs.Rule.{has_rule}
use Rattle.pd_kinds.proofs.NumberLemmas.{both_more, differ}
use Rattle.pd_graph.specs.Marks.{has_rule_in, values_of}
use Rattle.pd_graph.specs.declared.notes.KeptNote.{KeptNote}
use Rattle.pd_graph.specs.Notes.{note_of, no_note, no_kept_note}
use Rattle.pd_graph.specs.declared.block_table.BlockTable.{BlockTable}

-- each element of a list of one value is that value, which stands for those past its end too
pub same_everywhere : {X : Type 0} → (n b : ℕ) (x : X) → get_or (replicate n x) b x ≡ x
same_everywhere zero b x = refl
same_everywhere (suc n) zero x = refl
same_everywhere (suc n) (suc b) x = same_everywhere n b x

-- in a list of empty sets no place has a wanted
pub no_rule_in : (n b : ℕ) (rules : Rules) (wanted : Rule) → ((any : Rule) → has_rule rules any ≡ false) → has_rule_in (replicate n rules) b wanted ≡ false
unfolding has_rule_in
no_rule_in zero b rules wanted none = refl
no_rule_in (suc n) zero rules wanted none = none wanted
no_rule_in (suc n) (suc b) rules wanted none = no_rule_in n b rules wanted none

-- where one set gains what passes a test, that place of the table does
pub has_rule_in_more : (table : List Rules) (b : ℕ) (d v : Rules) (test : Rule → Bool) → b < length table
    → ((wanted : Rule) → has_rule v wanted ≡ (has_rule (get_or table b d) wanted || test wanted))
    → (c : ℕ) (wanted : Rule) → has_rule_in (set table b v) c wanted ≡ (has_rule_in table c wanted || (nat_eq c b && test wanted))
unfolding has_rule_in
has_rule_in_more [] b d v test small more c wanted = absurd (omega arith)
has_rule_in_more (rules ∷ rest) zero d v test small more zero wanted = more wanted
has_rule_in_more (rules ∷ rest) zero d v test small more (suc c) wanted =
    rw (differ (suc c) 0 (λ e. absurd (omega arith))) (sym (or-false (has_rule_in rest c wanted)))
has_rule_in_more (rules ∷ rest) (suc b) d v test small more zero wanted =
    rw (differ 0 (suc b) (λ e. absurd (omega arith))) (sym (or-false (has_rule rules wanted)))
has_rule_in_more (rules ∷ rest) (suc b) d v test small more (suc c) wanted =
    has_rule_in_more rest b d v test (omega arith) more c wanted
    ∙ ap (λ (x : Bool). has_rule_in rest c wanted || (x && test wanted)) (sym (both_more c b))

-- the rules at a place are those of the set there
pub has_rule_in-get_or : (table : List Rules) (b : ℕ) (d : Rules) (wanted : Rule) → b < length table → has_rule_in table b wanted ≡ has_rule (get_or table b d) wanted
unfolding has_rule_in
has_rule_in-get_or [] b d wanted small = absurd (omega arith)
has_rule_in-get_or (rules ∷ rest) zero d wanted small = refl
has_rule_in-get_or (rules ∷ rest) (suc b) d wanted small = has_rule_in-get_or rest b d wanted (omega arith)

-- notes that are all empty
pub empty_notes : (n b : ℕ) (kept : KeptNote) → note_of kept ≡ no_note → note_of (get_or (replicate n kept) b no_kept_note) ≡ no_note
empty_notes zero b kept e = refl
empty_notes (suc n) zero kept e = e
empty_notes (suc n) (suc b) kept e = empty_notes n b kept e

-- The values of a table: what it kept, and the value of the places behind.

-- there is one for each place
pub length-values : {X : Type 0} → (table : BlockTable X) → length (values_of table) ≡ table.places
unfolding values_of
length-values table =
    let few = table.few in
    let number = table.kept.ok.0 in
    let behind = length-replicate (table.places - length table.kept.items) table.unset in
    length-append table.kept.items (replicate (table.places - length table.kept.items) table.unset) ∙ omega (arith, few, number, behind)

-- one that is kept
pub kept_value : {X : Type 0} → (table : BlockTable X) (place : ℕ) (other : X) → place < length table.kept.items
    → get_or (values_of table) place other ≡ get_or table.kept.items place other
unfolding values_of
kept_value table place other small =
    get_or_append_left table.kept.items (replicate (table.places - length table.kept.items) table.unset) other place small

-- one behind what is kept
pub unset_value : {X : Type 0} → (table : BlockTable X) (place : ℕ) (other : X) → length table.kept.items ≤ place → place < table.places
    → get_or (values_of table) place other ≡ table.unset
unfolding values_of
unset_value table place other past small =
    let number = length table.kept.items in
    get_or-append_right table.kept.items (replicate (table.places - number) table.unset) number place other refl past
    ∙ get_or-replicate (table.places - number) (place - number) table.unset other (omega arith)

-- one is set among those that are kept
pub set_value : {X : Type 0} → (kept : List X) (unset value : X) (places place : ℕ) → place < length kept
    → set kept place value ++ replicate (places - length (set kept place value)) unset ≡ set (kept ++ replicate (places - length kept) unset) place value
set_value kept unset value places place small =
    ap (λ (number : ℕ). set kept place value ++ replicate (places - number) unset) (length-set kept place value)
    ∙ sym (set-append_left kept (replicate (places - length kept) unset) place value small)

-- more of them are kept, by a resize that was done
pub same_values : {X : Type 0} → (old new : List X) (unset : X) (places number len : ℕ) (done : Bool) → length old ≤ number → number ≤ places
    → len ≡ length old → done ≡ true → new ≡ cond done (take number old ++ replicate (number - len) unset) old
    → new ++ replicate (places - length new) unset ≡ old ++ replicate (places - length old) unset
same_values {X = X} old new unset places number len done past few same was_done resized =
    let added = replicate (number - length old) unset in
    let more : new ≡ old ++ added =
    resized ∙ (ap (λ (b : Bool). cond b (take number old ++ replicate (number - len) unset) old) was_done
    ∙ (ap (λ (values : List X). values ++ replicate (number - len) unset) (take_all number old past)
    ∙ ap (λ (n : ℕ). old ++ replicate (number - n) unset) same)) in
    let behind = length-replicate (number - length old) unset in
    let length_new : length new ≡ number = ap (λ (values : List X). length values) more ∙ (length-append old added ∙ omega (arith, behind, past)) in
    ap (λ (values : List X). values ++ replicate (places - length new) unset) more
    ∙ (ap (λ (n : ℕ). (old ++ added) ++ replicate (places - n) unset) length_new
    ∙ (append_assoc old added (replicate (places - number) unset)
    ∙ (ap (λ (values : List X). old ++ values) (replicate-append-replicate (number - length old) (places - number) unset)
    ∙ ap (λ (n : ℕ). old ++ replicate n unset) (let sum : (number - length old) + (places - number) ≡ places - length old = omega arith in sum))))

-- the greater of two bounds one of which a number is
pub most_of : (b : Bool) (number one other most : ℕ) → number ≡ cond b one other → one ≤ most → other ≤ most → number ≤ most
most_of true number one other most e first second = omega (arith, e)
most_of false number one other most e first second = omega (arith, e)

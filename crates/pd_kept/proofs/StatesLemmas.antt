-- The states that are found, as they are told.
use Rattle.std.proofs.Common.{◌≡◌, ℕ, min, List, [], ◌∷◌, ◌++◌, map, length, Some, suc, refl, sym, ap, ap₂, ◌∙◌, append_assoc, drop, slice_get, ◌≢◌, Option, None, IfSome, IfOk, ◌+◌, ◌<◌, ◌≤◌, get_or, take, subst}
use Rattle.std.specs.List.{AllByRecursion, flat_map}
use Rattle.std.specs.Option.{option_map}
use Rattle.std.specs.Prelude.{codes, decimal}
use Rattle.std.proofs.lemmas.Option.{same_Some, IfSome_then}
use Rattle.std.proofs.lemmas.Grind.{flat_map-append}
use Rattle.std.proofs.lemmas.List.{append-nil, length-map, take_all, take-map, take_more, take-append-drop}
use Rattle.pd_kinds.proofs.KindsListLemmas.{all_front}
use Rattle.pd_kinds.specs.declared.limits.TheConstants.{MAX_META_BLOCKS}
use Rattle.pd_kinds.specs.Graph.{Graph, block_at}
use Rattle.pd_kinds.specs.Layout.{graph_of}
use Rattle.pd_kinds.specs.ThinFormat.{ThinFields, thin_fields}
use Rattle.pd_kinds.specs.declared.kind.Kind.TheVariants.{Thin}
use Rattle.pd_kinds.specs.declared.kind.Stage.TheVariants.{Super}
use Rattle.pd_kinds.specs.Stages.{faults}
use Rattle.pd_laid.specs.FoundRoots.{FoundRoots, devices_below, lost_graph}
use Rattle.pd_answers.specs.KeptLines.{IsTold, told_from, told_text, kept_text}
use Rattle.pd_answers.specs.DamagedStates.{kept_devices}
use Rattle.pd_answers.specs.NamedRepairs.{best_state, damaged_line, list_of_states, more_line, text_of_states, state_line}
use Rattle.pd_answers.specs.declared.request.GivenSuper.{GivenSuper}
use Rattle.pd_answers.specs.FoundStates.{found_fields}
use Rattle.pd_tree.proofs.NextLemmas.{if_both}
use Rattle.pd_lines.specs.Printing.{Begun, Printed, Printing}
use Rattle.pd_lines.proofs.Printing.{begun_after, begun_first, printed_both}
use Rattle.pd_query.specs.Query.{StartFails}
use Rattle.pd_repair.specs.declared.repair.RepairFault.{RepairFault}
use Rattle.pd_repair.specs.Repaired.{BlamesOne, LacksSuper}
use Rattle.pd_repair.specs.declared.repair.RepairFault.TheVariants as f
use Rattle.pd_kept.specs.declared.kept.Kept.{Kept}
use Rattle.pd_kept.specs.declared.states.Looked.{Looked}
use Rattle.pd_kept.specs.Kept.{told_of}
use Rattle.pd_kept.specs.States.{AreListed, counts_words, found_line, found_list, latest_words, looked_text, roots_of_best, untaken_of}
use Rattle.pd_kept.proofs.WeighingLemmas.{text_is}
use Rattle.pd_damaged.specs.Listed.{HasKeptDevices}
use Rattle.pd_scan.specs.declared.roots.Roots.{Roots}
use Rattle.pd_scan.specs.declared.states.State.{State}
use Rattle.pd_scan.specs.declared.states.FoundStates.{FoundStates}
use Rattle.pd_scan.specs.Pairs.{lost_fields, roots_of, HasDevices, state_roots}

-- the line of a state whose devices are so many
words_are : (word : List ℕ) (s : State) (number : ℕ) → s.devices ≡ number
    → found_line word s ≡ word ++ (decimal s.roots.top ++ (codes " " ++ (decimal s.roots.details ++ (codes " devices " ++ (decimal number
    ++ (codes " mappings " ++ (decimal s.roots.mappings ++ latest_words s.roots)))))))
words_are word s number have =
    let latest = latest_words s.roots in
    let counts = counts_words s in
    append_assoc word (decimal s.roots.top ++ (codes " " ++ decimal s.roots.details)) (counts ++ latest)
    ∙ (ap (λ (ls : List ℕ). word ++ ls)
    (append_assoc (decimal s.roots.top) (codes " " ++ decimal s.roots.details) (counts ++ latest)
    ∙ ap (λ (ls : List ℕ). decimal s.roots.top ++ (codes " " ++ (decimal s.roots.details ++ (codes " devices " ++ ls))))
    (append_assoc (decimal s.devices) (codes " mappings " ++ decimal s.roots.mappings) latest))
    ∙ ap (λ (n : ℕ). word ++ (decimal s.roots.top ++ (codes " " ++ (decimal s.roots.details ++ (codes " devices " ++ (decimal n ++ (codes " mappings " ++ (decimal s.roots.mappings ++ latest)))))))) have)

-- the line of a state is that of its roots
line_is : (graph : Graph) (image : List (List ℕ)) (s : State) → HasDevices graph image s → found_line (codes "roots ") s ≡ state_line graph image (state_roots s)
line_is graph image s have = words_are (codes "roots ") s (length (devices_below graph image s.roots.top s.roots.details)) have

lost_line_is : (graph : Graph) (image : List (List ℕ)) (s : State) → HasKeptDevices graph image s → found_line (codes "damaged ") s ≡ damaged_line graph image (state_roots s)
lost_line_is graph image s have = words_are (codes "damaged ") s (length (kept_devices graph image s.roots.top s.roots.details)) have

-- the lines of states are those of their roots
lines_are : (word : List ℕ) (line : FoundRoots → List ℕ) (P : State → Type 0) → ((s : State) → P s → found_line word s ≡ line (state_roots s))
    → (found : List State) → AllByRecursion P found → flat_map (found_line word) found ≡ flat_map line (map state_roots found)
lines_are word line P is [] have = refl
lines_are word line P is (s ∷ found) have = ap₂ (λ (l ls : List ℕ). l ++ ls) (is s have.0) (lines_are word line P is found have.1)

-- and a list of them is that of their roots
list_is : (word : List ℕ) (line : FoundRoots → List ℕ) (P : State → Type 0) → ((s : State) → P s → found_line word s ≡ line (state_roots s))
    → (all : List FoundRoots) (found : FoundStates) → AreListed P all found → found_list word found ≡ list_of_states line all
list_is word line P is all found are =
    ap₂ (λ (ls rest : List ℕ). ls ++ rest)
    (lines_are word line P is found.best.items are.devices ∙ ap (λ (rs : List FoundRoots). flat_map line rs) are.best)
    (ap more_line are.number)

-- the best one of some is that of all
best_of_lists : (sound damaged : List State) → option_map roots_of (roots_of_best sound damaged) ≡ best_state (map state_roots sound) (map state_roots damaged)
best_of_lists [] [] = refl
best_of_lists [] (d ∷ damaged) = refl
best_of_lists (s ∷ sound) damaged = refl

best_of_first : (n : ℕ) (sound damaged : List FoundRoots) → best_state (take (suc n) sound) (take (suc n) damaged) ≡ best_state sound damaged
best_of_first n [] [] = refl
best_of_first n [] (d ∷ damaged) = refl
best_of_first n (s ∷ sound) damaged = refl

best_is : (P Q : State → Type 0) (sound damaged : List FoundRoots) (found lost : FoundStates) → AreListed P sound found → AreListed Q damaged lost
    → option_map roots_of (roots_of_best found.best.items lost.best.items) ≡ best_state sound damaged
best_is P Q sound damaged found lost are others =
    best_of_lists found.best.items lost.best.items
    ∙ (ap₂ (λ (rs ds : List FoundRoots). best_state rs ds) are.best others.best ∙ best_of_first 99 sound damaged)

lost_fields-are : (image : List (List ℕ)) (given : GivenSuper) (roots : FoundRoots) (nr : ℕ) → nr ≡ min (length image) MAX_META_BLOCKS
    → lost_fields roots given.transaction given.block_size nr given.blocks ≡ found_fields (lost_graph image given.blocks) given.transaction given.block_size roots
unfolding lost_graph graph_of
lost_fields-are image given roots nr is = rw is refl

-- the first ones of some states, which are these
pub listed_of : (P : State → Type 0) (all : List FoundRoots) (xs : List State) (found : FoundStates) → found.best.items ≡ take 100 xs → found.number ≡ length xs
    → map state_roots xs ≡ all → AllByRecursion P xs → AreListed P all found
listed_of P all xs found first number are have = record {
  best = ap (λ (ss : List State). map state_roots ss) first ∙ (sym (take-map state_roots 100 xs) ∙ ap (λ (rs : List FoundRoots). take 100 rs) are);
  number = number ∙ (sym (length-map {A = State} {B = FoundRoots} xs state_roots) ∙ ap (λ (rs : List FoundRoots). length rs) are);
  devices = subst (AllByRecursion P) (sym first) (all_front P 100 xs have);
}

-- the text of states, and of what is kept of the best one
pub text_told : (image : List (List ℕ)) (given : GivenSuper) (best : Roots) (sound damaged : List FoundRoots) (nr : ℕ) (looked : Looked)
    → nr ≡ min (length image) MAX_META_BLOCKS
    → AreListed (HasDevices (lost_graph image given.blocks) image) sound looked.sound
    → AreListed (HasKeptDevices (lost_graph image given.blocks) image) damaged looked.damaged
    → roots_of_best looked.sound.best.items looked.damaged.best.items ≡ Some best
    → IsTold (lost_fields (roots_of best) given.transaction given.block_size nr given.blocks) image (told_of looked.kept)
    → Some (looked_text looked) ≡ text_of_states image given sound damaged
unfolding looked_text
text_told image given best sound damaged nr looked number are others first told =
    let graph = lost_graph image given.blocks in
    let fields = lost_fields (roots_of best) given.transaction given.block_size nr given.blocks in
    let text : told_text (told_of looked.kept) ≡ told_text (told_from (found_fields graph given.transaction given.block_size (roots_of best)) image) =
    text_is fields image (told_of looked.kept) told ∙ ap (λ (f : ThinFields). told_text (told_from f image)) (lost_fields-are image given (roots_of best) nr number) in
    let is : Some (roots_of best) ≡ best_state sound damaged =
    sym (ap (option_map roots_of) first) ∙ best_is (HasDevices graph image) (HasKeptDevices graph image) sound damaged looked.sound looked.damaged are others in
    ap (λ (t : List ℕ). Some t)
    (ap₂ (λ (ls ts : List ℕ). ls ++ ts) (list_is (codes "roots ") (state_line graph image) (HasDevices graph image) (line_is graph image) sound looked.sound are)
    (ap₂ (λ (ls ts : List ℕ). ls ++ ts)
    (list_is (codes "damaged ") (damaged_line graph image) (HasKeptDevices graph image) (lost_line_is graph image) damaged looked.damaged others) text))
    ∙ ap
    (λ (o : Option FoundRoots). option_map (λ (roots : FoundRoots). list_of_states (state_line graph image) sound ++ (list_of_states (damaged_line graph image) damaged
    ++ told_text (told_from (found_fields graph given.transaction given.block_size roots) image))) o) is

-- without a state there is none
pub no_text : (image : List (List ℕ)) (given : GivenSuper) (sound damaged : List FoundRoots) (found lost : FoundStates) (P Q : State → Type 0)
    → AreListed P sound found → AreListed Q damaged lost → roots_of_best found.best.items lost.best.items ≡ None → None ≡ text_of_states image given sound damaged
no_text image given sound damaged found lost P Q are others none =
    let graph = lost_graph image given.blocks in
    let is : None ≡ best_state sound damaged = sym (ap (option_map roots_of) none) ∙ best_is P Q sound damaged found lost are others in
    ap
    (λ (o : Option FoundRoots). option_map (λ (roots : FoundRoots). list_of_states (state_line graph image) sound ++ (list_of_states (damaged_line graph image) damaged
    ++ told_text (told_from (found_fields graph given.transaction given.block_size roots) image))) o) is

-- five words, one after another
pub five_words : (line a b c d e x₁ x₂ x₃ x₄ x₅ : List ℕ) → x₁ ≡ line ++ a → x₂ ≡ x₁ ++ b → x₃ ≡ x₂ ++ c → x₄ ≡ x₃ ++ d → x₅ ≡ x₄ ++ e → x₅ ≡ line ++ (a ++ (b ++ (c ++ (d ++ e))))
five_words line a b c d e x₁ x₂ x₃ x₄ x₅ first second third fourth fifth =
    fifth ∙ ap (λ (ls : List ℕ). ls ++ e) (fourth ∙ ap (λ (ls : List ℕ). ls ++ d) (third ∙ ap (λ (ls : List ℕ). ls ++ c) (second ∙ ap (λ (ls : List ℕ). ls ++ b) first)))
    ∙ (append_assoc (((line ++ a) ++ b) ++ c) d e
    ∙ (append_assoc ((line ++ a) ++ b) c (d ++ e)
    ∙ (append_assoc (line ++ a) b (c ++ (d ++ e)) ∙ append_assoc line a (b ++ (c ++ (d ++ e))))))

-- The query: a superblock with faults, and what is told of one without.

-- a superblock that wasn't taken: it is none
pub none_taken : (P : ThinFields → Type 0) (fault : RepairFault) → IfOk (untaken_of fault) (λ found. IfSome found P)
none_taken P f.Memory = tt
none_taken P f.Input = tt
none_taken P f.Output = tt
none_taken P (f.NoSuper rules) = tt
none_taken P (f.NoRoom need blocks) = tt

-- it breaks rules, where it was read
pub has_faults : (fault : RepairFault) (most reads : ℕ) (held : Option (List (List ℕ))) → LacksSuper fault most reads held
    → IfOk (untaken_of fault) (λ found. found ≡ None → IfSome held (λ image. faults Thin Super image ≢ []))
has_faults f.Memory most reads held lacks = let e = lacks.ending in absurd cc
has_faults f.Input most reads held lacks = tt
has_faults f.Output most reads held lacks = let e = lacks.ending in absurd cc
has_faults (f.NoSuper rules) most reads held lacks = λ none. IfSome_then held lacks.rules (λ image broken. broken.0)
has_faults (f.NoRoom need blocks) most reads held lacks = let e = lacks.ending in absurd cc

-- and the device is blamed exactly where it wasn't
pub blames_read : (fault : RepairFault) (old new out out' : ℕ) → BlamesOne fault old new out out' → StartFails (untaken_of fault) old new
blames_read f.Memory old new out out' blames = blames.0
blames_read f.Input old new out out' blames = blames.0
blames_read f.Output old new out out' blames = blames.0
blames_read (f.NoSuper rules) old new out out' blames = blames.0
blames_read (f.NoRoom need blocks) old new out out' blames = blames.0

-- what is told from the roots of a sound superblock answers
pub is_answer : (held : Option (List (List ℕ))) (s : ThinFields) (kept : Kept) → IfSome held (λ image. (s ≡ thin_fields (block_at image 0)) × (faults Thin Super image ≡ []))
    → IfSome held (λ image. IsTold s image (told_of kept)) → IfSome held (λ image. faults Thin Super image ≡ [] → told_text (told_of kept) ≡ kept_text image)
unfolding kept_text
is_answer held s kept found told =
    if_both held
    (λ image held_is right (is : IsTold s image (told_of kept)) none. text_is s image (told_of kept) is ∙ ap (λ (fields : ThinFields). told_text (told_from fields image)) right.0)
    found told

-- The lines of devices, one after another.

lines_more : {X : Type 0} (line_of : X → List ℕ) (ds : List X) (i : ℕ) (d : X) → i < length ds → flat_map line_of (take i ds) ++ line_of (get_or ds i d) ≡ flat_map line_of (take (i + 1) ds)
lines_more {X} line_of ds i d within =
    ap (λ (ls : List ℕ). flat_map line_of (take i ds) ++ ls) (sym (append-nil (line_of (get_or ds i d))))
    ∙ (sym (flat_map-append line_of (take i ds) (get_or ds i d ∷ [])) ∙ ap (flat_map line_of) (sym (take_more ds i d within)))

-- a line more, or a front of it
pub line_printed : {X : Type 0} (line_of : X → List ℕ) (ds : List X) (i : ℕ) (d : X) (old mid new : Printing) → i < length ds → Printed (flat_map line_of (take i ds)) old mid → Printed (line_of (get_or ds i d)) mid new
    → Printed (flat_map line_of (take (i + 1) ds)) old new
line_printed {X} line_of ds i d old mid new within before more = subst (λ (ls : List ℕ). Printed ls old new) (lines_more line_of ds i d within) (printed_both before more)

pub line_begun : {X : Type 0} (line_of : X → List ℕ) (ds : List X) (i : ℕ) (d : X) (old mid new : Printing) → i < length ds → Printed (flat_map line_of (take i ds)) old mid → Begun (line_of (get_or ds i d)) mid new
    → Begun (flat_map line_of ds) old new
line_begun {X} line_of ds i d old mid new within before begun =
    subst (λ (ls : List ℕ). Begun ls old new)
    (ap (λ (ls : List ℕ). ls ++ flat_map line_of (drop (i + 1) ds)) (lines_more line_of ds i d within)
    ∙ (sym (flat_map-append line_of (take (i + 1) ds) (drop (i + 1) ds)) ∙ ap (flat_map line_of) (take-append-drop (i + 1) ds)))
    (begun_first (flat_map line_of (drop (i + 1) ds)) (begun_after before begun))

pub all_printed : {X : Type 0} (line_of : X → List ℕ) (ds : List X) (i : ℕ) (old new : Printing) → length ds ≤ i → Printed (flat_map line_of (take i ds)) old new → Printed (flat_map line_of ds) old new
all_printed {X} line_of ds i old new over printed = subst (λ (rows : List X). Printed (flat_map line_of rows) old new) (take_all i ds over) printed

-- A cache's lines as they are gathered.
-- The lines of a cache's text, one by one.
-- What the lines that were gathered mean.
-- The first two lines of a cache's text.
use Rattle.std.proofs.Common.{◌≡◌, ◌+◌, List, [], ◌∷◌, ◌++◌, length, map, refl, sym, ◌∙◌, ap, ap₂, append_assoc, arith, inl, inr, ⊎_elim, ℕ, ◌<◌, ◌≤◌, ◌^◌, Bool, true, length-append, subst, Option, Result, Ok, Err, eqb, get_or, Some, None}
use Rattle.std.specs.Prelude.{IfOk}
use Rattle.pd_kinds.specs.Meaning.{CacheMeaning, CacheEntry}
use Rattle.pd_grammar.specs.CacheText.{Line, row_of, first_line, end_line, cache, cache_single, blocks_of, least_block, flag_number, cache_need, IsCacheVerdict, Head, cache_line, map_line, head_of, lines_of_cache, MeansCache, SpellsCache}
use Rattle.pd_grammar.specs.Texts.{Reading, reading, refused, with_line, read}
use Rattle.pd_grammar.specs.Spelling.{accepted}
use Rattle.pd_grammar.specs.Lawful.{IsLawfulCache}
use Rattle.pd_grammar.proofs.CacheLaws.{cache_accepted, number_back}
use Rattle.pd_grammar.proofs.GrammarLemmas.{is_read}
use Rattle.pd_grammar.proofs.CacheRead.{FitsLine, Placed, cache_grammar}
use Rattle.pd_texts.specs.Reader.{in_order, IsReadAfter, ReadsOn, LeavesOf, RefusesNext, begun, with_lines, IsWhole, GivesLine}
use Rattle.pd_texts.specs.declared.reader.TextFault.{TextFault}
use Rattle.pd_texts.specs.declared.reader.ReadFault.{ReadFault}
use Rattle.pd_texts.specs.declared.reader.TextReader.{TextReader}
use Rattle.pd_texts.specs.declared.reader.ReadFault.TheVariants as c
use Rattle.pd_texts_kinds.specs.declared.cache_lines.CacheLine.{CacheLine}
use Rattle.pd_texts_kinds.specs.declared.cache_state.CacheState.{CacheState}
use Rattle.pd_texts_kinds.specs.CacheLine.{line_of, CacheStands, OriginsDiffer, cache_meant}
use Rattle.pd_texts_kinds.proofs.CacheLemmas.{cache_read, map_read, refused_text, lines_mean, whole_single, end_read}
use Rattle.pd_texts_kinds.specs.declared.cache_lines.CacheLine.TheVariants as v
use Rattle.pd_restoring.specs.declared.fault.RestoreFault.{RestoreFault}
use Rattle.pd_restoring.specs.Restored.{read_fault}
use Rattle.pd_restoring.specs.Reading.{BeginsOf}
use Rattle.pd_restoring.proofs.BeginLemmas.{begins}
use Rattle.pd_restoring.specs.declared.fault.RestoreFault.TheVariants as r
use Rattle.pd_salvage_cache.specs.declared.saved.CacheHead.{CacheHead}
use Rattle.pd_salvage_cache.specs.declared.saved.Row.{Row}
use Rattle.pd_salvage_cache.specs.SavedCache.{entry}
use Rattle.pd_restore_kinds.specs.declared.cache_lines.Gathered.{Gathered}
use Rattle.pd_restore_kinds.specs.CacheReading.{after_rows, begun_lines, lines_of, Reads, TakesLine, StepsGathering, SaysSingle, SaysAfter, meaning_of, HasAll, head_of_cache}
use Rattle.pd_restore_kinds.specs.Caches.{IsOfCache}

-- rows more
pub after_append : (before : List Line) (rows more : List Row) → after_rows before (rows ++ more) ≡ after_rows (after_rows before rows) more
after_append before [] more = refl
after_append before (r ∷ rows) more = after_append (row_of (entry r) ∷ before) rows more

-- their lines alone, and those before
pub after_all : (before : List Line) (rows : List Row) → after_rows before rows ≡ after_rows [] rows ++ before
after_all before [] = refl
after_all before (r ∷ rows) =
    let line = row_of (entry r) in
    after_all (line ∷ before) rows
    ∙ sym (ap (λ (lines : List Line). lines ++ before) (after_all (line ∷ []) rows) ∙ append_assoc (after_rows [] rows) (line ∷ []) before)

-- how many lines there are
pub length-after_rows : (before : List Line) (rows : List Row) → length (after_rows before rows) ≡ length rows + length before
length-after_rows before [] = omega arith
length-after_rows before (r ∷ rows) = length-after_rows (row_of (entry r) ∷ before) rows ∙ omega arith

-- their order
pub rows_in_order : (before : List Line) (rows : List Row) (others : List Line)
    → in_order (after_rows before rows) others ≡ in_order before (map (λ (r : Row). row_of (entry r)) rows ++ others)
rows_in_order before [] others = refl
rows_in_order before (r ∷ rows) others = rows_in_order (row_of (entry r) ∷ before) rows others

pub lines_more : (old new : Gathered) (row : Row) → new.cache ≡ old.cache → new.rows.items ≡ old.rows.items ++ row ∷ []
    → lines_of new ≡ row_of (entry row) ∷ lines_of old
lines_more old new row cache rows =
    ap₂ (λ (c : CacheHead) (rs : List Row). after_rows (begun_lines c) rs) cache rows ∙ after_append (begun_lines old.cache) old.rows.items (row ∷ [])

-- there are two lines at least
pub two_lines : (g : Gathered) → 2 ≤ length (lines_of g)
two_lines g = omega (arith, length-after_rows (begun_lines g.cache) g.rows.items)

-- no cache line follows them
pub no_cache_line : (g : Gathered) (line : CacheLine) (uuid : List ℕ) (block_size blocks : ℕ) (clean : Bool) (policy versions : List ℕ) (hint_size : ℕ)
    → line ≡ v.Cache uuid block_size blocks clean policy versions hint_size → IsReadAfter cache_single (lines_of g) (line_of line) → ⊥
no_cache_line g line uuid block_size blocks clean policy versions hint_size is after =
    let one = (cache_read (lines_of g) _ (rw is at after)).second in omega (arith, two_lines g)

-- how many blocks the cache has
rows_blocks : (before : List Line) (rows : List Row) → blocks_of (after_rows before rows) ≡ blocks_of before
rows_blocks before [] = refl
rows_blocks before (row ∷ rows) = rows_blocks (row_of (entry row) ∷ before) rows

-- the cache blocks of the lines that were taken
record IsAbove (g : Gathered) (line : CacheLine) : Type 0 where
  pub above : least_block (lines_of g) + 1 ≤ least_block (line_of line ∷ lines_of g)
  pub low : least_block (line_of line ∷ lines_of g) ≤ g.cache.blocks

block_above : (g : Gathered) (line : CacheLine) → IsReadAfter cache_single (lines_of g) (line_of line) → IsAbove g line
block_above g (v.Cache uuid block_size blocks clean policy versions hint_size) after =
    absurd (no_cache_line g (v.Cache uuid block_size blocks clean policy versions hint_size) uuid block_size blocks clean policy versions hint_size refl after)
block_above g (v.Map block origin dirty hint) after =
    let m = map_read (lines_of g) (record { block = block; origin = origin; dirty = flag_number dirty; hint = hint }) after in
    record { above = omega (arith, m.above); low = omega (arith, m.within, rows_blocks (begun_lines g.cache) g.rows.items) }

-- a step that took a line
pub stepped : (result : Result Bool RestoreFault) (line : CacheLine) (old text : TextReader CacheState CacheLine) (was left : Option (List ℕ)) (from to : Gathered) → Reads old from
    → ReadsOn cache_single CacheStands (line_of line ∷ lines_of from) text
    → ((t : List ℕ) → LeavesOf cache_single t (lines_of from) old was → LeavesOf cache_single t (line_of line ∷ lines_of from) text left) → to.cache ≡ from.cache
    → IfOk result (λ more. more ≡ true) → IfOk result (λ more. TakesLine line from to) → IfOk result (λ more. StepsGathering more old was text left from to)
stepped (Err fault) line old text was left from to h reads told cache more takes = tt
stepped (Ok more) line old text was left from to h reads told cache is takes =
    let same : line_of line ∷ lines_of from ≡ lines_of to = sym takes.lines in
    let block = block_above from line reads.so_far.lines.0 in
    let least = ap least_block same in
    rw is (
      record {
        reads = subst (λ (lines : List Line). ReadsOn cache_single CacheStands lines text) same reads;
        few = omega (arith, h.few, takes.number, block.above, least);
        low = omega (arith, block.low, h.small, least);
        small = subst (λ (c : CacheHead). c.blocks < 2 ^ 32) (sym cache) h.small;
      },
      (takes.number, λ t leaves. subst (λ (lines : List Line). LeavesOf cache_single t lines text left) same (told t leaves)),
    )

begun_same : (before : List Line) → 1 ≤ length before → begun first_line before ≡ before
begun_same [] some = absurd (omega arith)
begun_same (line ∷ before) some = refl

-- and where none was read
pub next_says : (fault : ReadFault) (t : List ℕ) (g : Gathered) → RefusesNext cache_single first_line end_line t (lines_of g) fault → SaysSingle t g (read_fault fault)
next_says c.Memory t g refuses = tt
next_says c.Source t g refuses = tt
next_says (c.Text fault) t g refuses =
    let two = two_lines g in
    let same = begun_same (lines_of g) (omega arith) in
    ⊎_elim (λ here. inl here) (⊎_elim (λ second. inl (rw same at second)) (λ end. inr (rw same at end))) refuses

-- a row that was added, of a line
pub took_row : (result : Result Bool RestoreFault) (line : CacheLine) (row : Row) (old new : Gathered) → line_of line ≡ row_of (entry row) → new.cache ≡ old.cache
    → IfOk result (λ more. new.rows.items ≡ old.rows.items ++ row ∷ []) → IfOk result (λ more. TakesLine line old new)
took_row (Err fault) line row old new is cache rows = tt
took_row (Ok more) line row old new is cache rows = record {
  lines = lines_more old new row cache rows ∙ ap (λ (first : Line). first ∷ lines_of old) (sym is);
  number = omega (arith, ap (λ (rows : List Row). length rows) rows, length-append old.rows.items (row ∷ []));
}

-- a refused text begins with the lines that were read
pub single_rest : (t : List ℕ) (g : Gathered) (fault : TextFault) → SaysSingle t g (r.Text fault) → (rest : Reading Line) × (reading cache_single t ≡ with_lines (lines_of g) rest)
single_rest t g fault (inl here) = (refused (lines_of g) fault.cause, here.is)
single_rest t g fault (inr end) = (with_line end_line (refused (end_line ∷ lines_of g) fault.cause), end.is)

-- where no origin repeats, that is its refusal
pub single_says : (t : List ℕ) (g : Gathered) (fault : RestoreFault) → OriginsDiffer (lines_of g) → SaysSingle t g fault → SaysAfter g.cache t fault
single_says t g r.Memory differ says = tt
single_says t g r.Source differ says = tt
single_says t g r.Device differ says = says
single_says t g (r.Text fault) differ (inl here) = (g.rows.items, inl (refused_text t (lines_of g) fault here differ))
single_says t g (r.Text fault) differ (inr end) = (g.rows.items, inr (refused_text t (end_line ∷ lines_of g) fault end (refl, differ)))
single_says t g (r.NoRoom need blocks) differ says = says

-- a step by what it answered
pub steps_as : (more to_be : Bool) (old text : TextReader CacheState CacheLine) (was left : Option (List ℕ)) (from to : Gathered) → more ≡ to_be
    → StepsGathering more old was text left from to → StepsGathering to_be old was text left from to
steps_as more to_be old text was left from to is steps = rw is at steps

-- the entries that lines have
abbrev entries_in : List Line → List CacheEntry
entries_in [] = []
entries_in (first_line ∷ lines) = entries_in lines
entries_in (cache_line h ∷ lines) = entries_in lines
entries_in (map_line r ∷ lines) = record { block = r.block; origin = r.origin; dirty = eqb r.dirty 1; hint = r.hint } ∷ entries_in lines
entries_in (end_line ∷ lines) = entries_in lines

-- and the words of their cache line
abbrev head_in : List Line → Head → Head
head_in (first_line ∷ cache_line h ∷ lines) other = h
head_in _ other = other

entries_back : (entries : List CacheEntry) → entries_in (map row_of entries ++ (end_line ∷ [])) ≡ entries
entries_back [] = refl
entries_back (e ∷ entries) = rw (number_back e.dirty, entries_back entries) refl

three_back : (xs ys : List ℕ) → length xs ≡ 3 → length ys ≡ 3 → get_or xs 0 0 ≡ get_or ys 0 0 → get_or xs 1 0 ≡ get_or ys 1 0 → get_or xs 2 0 ≡ get_or ys 2 0 → xs ≡ ys
three_back xs ys p q a b c = three xs p ∙ (same a b c ∙ sym (three ys q))
  where
    three : (xs : List ℕ) → length xs ≡ 3 → xs ≡ get_or xs 0 0 ∷ get_or xs 1 0 ∷ get_or xs 2 0 ∷ []
    three [] len = absurd (omega arith)
    three (x ∷ []) len = absurd (omega arith)
    three (x ∷ y ∷ []) len = absurd (omega arith)
    three (x ∷ y ∷ z ∷ []) len = refl
    three (x ∷ y ∷ z ∷ w ∷ xs) len = absurd (omega arith)

    same : {u v w x y z : ℕ} → u ≡ x → v ≡ y → w ≡ z → u ∷ v ∷ w ∷ [] ≡ x ∷ y ∷ z ∷ []
    same p q r = cc

same_cache : (m : CacheMeaning) (uuid : List ℕ) (block_size blocks : ℕ) (clean : Bool) (policy versions : List ℕ) (hint_size : ℕ) (entries : List CacheEntry)
    → m.uuid ≡ uuid → m.block_size ≡ block_size → m.blocks ≡ blocks → m.clean ≡ clean → m.policy ≡ policy → m.versions ≡ versions → m.hint_size ≡ hint_size → m.entries ≡ entries
    → ◌≡◌ {A = CacheMeaning} m (record {
      uuid = uuid;
      block_size = block_size;
      blocks = blocks;
      clean = clean;
      policy = policy;
      versions = versions;
      hint_size = hint_size;
      entries = entries;
    })
same_cache m uuid block_size blocks clean policy versions hint_size entries a b c d e f g h = rw (← a, ← b, ← c, ← d, ← e, ← f, ← g, ← h) refl

-- two caches with the same lines are one
one_cache : (m n : CacheMeaning) → length m.versions ≡ 3 → length n.versions ≡ 3 → lines_of_cache m ≡ lines_of_cache n → m ≡ n
one_cache m n p q same =
    let head : head_of m ≡ head_of n = ap (λ (lines : List Line). head_in lines (head_of m)) same in
    let entries : m.entries ≡ n.entries = sym (entries_back m.entries) ∙ (ap entries_in same ∙ entries_back n.entries) in
    let clean : m.clean ≡ n.clean = sym (number_back m.clean) ∙ (ap (λ (h : Head). eqb h.clean 1) head ∙ number_back n.clean) in
    let versions : m.versions ≡ n.versions =
    three_back m.versions n.versions p q (ap (λ (h : Head). h.major) head) (ap (λ (h : Head). h.minor) head) (ap (λ (h : Head). h.patch) head) in
    same_cache m n.uuid n.block_size n.blocks n.clean n.policy n.versions n.hint_size n.entries (ap (λ (h : Head). h.uuid) head) (ap (λ (h : Head). h.block_size) head)
    (ap (λ (h : Head). h.blocks) head) clean (ap (λ (h : Head). h.policy) head) versions (ap (λ (h : Head). h.hint_size) head) entries

-- the lines that were gathered, with the last one, are those of their cache
rows_same : (rows : List Row) → map (λ (r : Row). row_of (entry r)) rows ≡ map row_of (map entry rows)
rows_same [] = refl
rows_same (r ∷ rows) = ap (λ (rest : List Line). row_of (entry r) ∷ rest) (rows_same rows)

lines_are : (g : Gathered) → in_order (end_line ∷ lines_of g) [] ≡ lines_of_cache (meaning_of g)
lines_are g =
    rows_in_order (begun_lines g.cache) g.rows.items (end_line ∷ [])
    ∙ ap (λ (rows : List Line). first_line ∷ cache_line (head_of (meaning_of g)) ∷ (rows ++ end_line ∷ [])) (rows_same g.rows.items)

meaning_is : (g : Gathered) (m : CacheMeaning) → length g.cache.versions ≡ 3 → MeansCache (in_order (end_line ∷ lines_of g) []) m → m ≡ meaning_of g
meaning_is g m three means = one_cache m (meaning_of g) means.lawful.three_versions three (sym means.lines_are ∙ lines_are g)

pub gathered_lawful : (g : Gathered) → length g.cache.versions ≡ 3 → HasAll g → IsLawfulCache (meaning_of g)
gathered_lawful g three all =
    let m = lines_mean (end_line ∷ lines_of g) all.lines refl (refl, all.differ) in subst (λ (n : CacheMeaning). IsLawfulCache n) (meaning_is g m.0 three m.1) m.1.lawful

-- a text of which they are all lines is accepted where there is room
pub gathered_accepted : (g : Gathered) (version room : ℕ) (t : List ℕ) (left : Option (List ℕ)) → length g.cache.versions ≡ 3 → HasAll g → cache_need version (meaning_of g) room ≤ room
    → IsWhole cache_single t (end_line ∷ lines_of g) left → IsCacheVerdict version t room (accepted (meaning_of g))
gathered_accepted g version room t left three all fits whole =
    let m = whole_single t (end_line ∷ lines_of g) whole.0 (refl, all.differ) in
    let spells = subst (λ (n : CacheMeaning). SpellsCache t n) (meaning_is g m.0 three m.1.0) m.1.1 in
    cache_accepted version t (meaning_of g) room spells fits

-- no line but a cache's stands behind the first one
no_end : (bytes : List ℕ) → read cache (first_line ∷ []) bytes ≡ Ok end_line → ⊥
no_end bytes is = let late : 2 ≤ 1 = (is_read cache FitsLine Placed cache_grammar (first_line ∷ []) bytes end_line is).placed in omega arith

pub given_cache : (next : Option CacheLine) (new : TextReader CacheState CacheLine) → GivesLine cache_single CacheStands first_line cache_meant (Ok next) [] new → IsOfCache next
given_cache None new gives = let late : 2 ≤ 1 = (end_read (first_line ∷ []) gives.0).later in omega arith
given_cache (Some (v.Cache uuid block_size blocks clean policy versions hint_size)) new gives = tt
given_cache (Some (v.Map block origin dirty hint)) new gives = let late : 2 ≤ 1 = (map_read (first_line ∷ []) _ gives.so_far.lines.0).later in omega arith

pub cache_reads : (next : Option CacheLine) (cache : CacheHead) (new : TextReader CacheState CacheLine) → IsOfCache next → cache_meant next ≡ cache_line (head_of_cache cache)
    → GivesLine cache_single CacheStands first_line cache_meant (Ok next) [] new → ReadsOn cache_single CacheStands (begun_lines cache) new
cache_reads None cache new of is gives = absurd of
cache_reads (Some line) cache new of is gives = subst (λ (l : Line). ReadsOn cache_single CacheStands (l ∷ first_line ∷ []) new) is gives

-- a refusal of what is read is one of the text
single_refuses : (fault : ReadFault) (t : List ℕ) → RefusesNext cache_single first_line end_line t [] fault → RefusesNext cache first_line end_line t [] fault
single_refuses c.Memory t refuses = refuses
single_refuses c.Source t refuses = refuses
single_refuses (c.Text fault) t (inl here) = inl (refused_text t [] fault here tt)
single_refuses (c.Text fault) t (inr (inl second)) = inr (inl (refused_text t (first_line ∷ []) fault second (refl, tt)))
single_refuses (c.Text fault) t (inr (inr end)) = inr (inr (refused_text t (end_line ∷ first_line ∷ []) fault end (refl, (refl, tt))))

pub cache_begins : (fault : ReadFault) (t : List ℕ) → RefusesNext cache_single first_line end_line t [] fault → (need : ℕ → List Line → ℕ) (room : ℕ) → BeginsOf cache need room t (read_fault fault)
cache_begins fault t refuses need room = begins cache first_line end_line no_end need fault t (single_refuses fault t refuses) room

-- How many lines and mappings the generator's pool has.
use Rattle.std.proofs.Common.{◌≡◌, inl, inr, ℕ, zero, suc, ◌+◌, ◌*◌, ◌%◌, ◌≤◌, nat_eq, eqb, false, List, [], ◌∷◌, ◌++◌, length, map, refl, ap, sym, ◌∙◌, arith, cond, length-append}
use Rattle.std.specs.Prelude.{count_by, sum_by}
use Rattle.std.specs.List.{range_with_len}
use Rattle.std.proofs.lemmas.Bool.{cases_Bool}
use Rattle.std.proofs.lemmas.Bool.Decides.{Decides-eqb, nat_tests}
use Rattle.std.proofs.lemmas.List.{length-map}
use Rattle.std.proofs.lemmas.List.FromFn.{length-map-range_with_len, length-range_with_len}
use Rattle.std.proofs.lemmas.List.Sums.{sum_by-append, sum_by-cons}
use Rattle.pd_kinds.specs.Meaning.{Mapping, ThinDevice}
use Rattle.pd_grammar.specs.Texts.{text_of_lines, written}
use Rattle.pd_grammar.proofs.GrammarLemmas.{AreLines}
use Rattle.pd_grammar.proofs.WordLemmas.{printable_join, printable_lacks, Lacks}
use Rattle.pd_grammar.specs.ThinText.{Run, Line, Part, thin, AreApart, continues_run, joined_runs, joined_part, head_of, lines_of_parts, text_of_pool}
use Rattle.pd_grammar.proofs.ThinLaws.{runs_joined, thin_language}
use Rattle.pd_grammar.proofs.ThinRead.{FitsLine, Placed, thin_grammar}
use Rattle.pd_answers.specs.Rehearsals.{generated_mapped}
use Rattle.pd_gen.specs.Lines.{device_mapping, snapshot_mapping, generated_device, generated_pool, generated_lines, part_of, run_of}
use Rattle.pd_gen.proofs.Spelled.{generated_means, have_mappings, written_out}

-- two runs don't join where the data blocks don't follow each other, or the times differ
not_joined : (r s : Run) → (r.data_block + r.length ≡ s.data_block → r.time ≡ s.time → ⊥) → continues_run r s ≡ false
not_joined r s apart = elim (cases_Bool (eqb (r.virtual_block + r.length) s.virtual_block)) [
  | inr e ↦ rw e refl
  | inl e ↦ elim (cases_Bool (eqb (r.data_block + r.length) s.data_block)) [
    | inr d ↦ rw (e, d) refl
    | inl d ↦ elim (cases_Bool (eqb r.time s.time)) [
      | inr t ↦ rw (e, d, t) refl
      | inl t ↦ absurd (apart ((Decides-eqb (r.data_block + r.length) s.data_block).0 d) ((Decides-eqb r.time s.time).0 t))
    ]
  ]
]

device_apart : (v : ℕ) → continues_run (run_of (device_mapping v)) (run_of (device_mapping (v + 1))) ≡ false
device_apart v = not_joined (run_of (device_mapping v)) (run_of (device_mapping (v + 1))) (λ block time. absurd (omega arith))

-- a mapping of the snapshot to a block of its own
abbrev changed : ℕ → Mapping
changed v = record { virtual_block = v; data_block = 2 * v + 1; time = 1 }

snapshot_apart : (v : ℕ) → continues_run (run_of (snapshot_mapping v)) (run_of (snapshot_mapping (v + 1))) ≡ false
snapshot_apart v = elim (cases_Bool (nat_eq (v % 200) 0)) [
  | inl e ↦
      let here : v % 200 ≡ 0 = (Decides-eqb (v % 200) 0).0 e in
      let next : nat_eq ((v + 1) % 200) 0 ≡ false = grind (arith, nat_tests) in
      rw (e, next) (not_joined (run_of (changed v)) (run_of (device_mapping (v + 1))) (λ block time. absurd (omega arith)))
  | inr e ↦ elim (cases_Bool (nat_eq ((v + 1) % 200) 0)) [
    | inl n ↦ rw (e, n) (not_joined (run_of (device_mapping v)) (run_of (changed (v + 1))) (λ block time. absurd (omega arith)))
    | inr n ↦ rw (e, n) (device_apart v)
  ]
]

runs_apart : (f : ℕ → Mapping) → ((v : ℕ) → continues_run (run_of (f v)) (run_of (f (v + 1))) ≡ false) → (a n : ℕ) → AreApart (map run_of (map f (range_with_len a n)))
runs_apart f each a zero = tt
runs_apart f each a (suc zero) = tt
runs_apart f each a (suc (suc n)) = (each a, runs_apart f each (a + 1) (suc n))

-- so its runs are as long as can be
joined_are : (f : ℕ → Mapping) → ((v : ℕ) → continues_run (run_of (f v)) (run_of (f (v + 1))) ≡ false) → (n : ℕ)
    → joined_runs (map f (range_with_len 0 n)) ≡ map run_of (map f (range_with_len 0 n))
joined_are f each n =
    let ms = map f (range_with_len 0 n) in
    ap joined_runs (sym (written_out ms)) ∙ runs_joined (map run_of ms) (have_mappings ms) (runs_apart f each 0 n)

same_part : (number id : ℕ) (f : ℕ → Mapping) → ((v : ℕ) → continues_run (run_of (f v)) (run_of (f (v + 1))) ≡ false)
    → joined_part (generated_device number id f) ≡ part_of (generated_device number id f)
same_part number id f each = rw (joined_are f each (generated_mapped number)) refl

pub lines_joined : (number : ℕ) → lines_of_parts (head_of (generated_pool number)) (map joined_part (generated_pool number).devices) ≡ generated_lines number
unfolding generated_pool
lines_joined number =
    ap (lines_of_parts (head_of (generated_pool number))) (both (same_part number 0 device_mapping device_apart) (same_part number 1 snapshot_mapping snapshot_apart))
  where
    both : {a b c d : Part} → a ≡ b → c ≡ d → a ∷ c ∷ [] ≡ b ∷ d ∷ []
    both first second = cc

-- the line feeds of a text
abbrev pub feeds_of : List ℕ → ℕ
feeds_of bytes = count_by (λ byte. nat_eq byte 10) bytes

no_feeds : (bytes : List ℕ) → Lacks 10 bytes → feeds_of bytes ≡ 0
no_feeds [] lacks = refl
no_feeds (b ∷ bytes) lacks = sum_by-cons (λ (byte : ℕ). cond (nat_eq byte 10) 1 0) b bytes ∙ rw (lacks.0, no_feeds bytes lacks.1) refl

line_feeds : (lines before : List Line) → AreLines thin FitsLine Placed before lines → feeds_of (text_of_lines thin lines) ≡ length lines
line_feeds [] before are = refl
line_feeds (line ∷ lines) before are =
    let plain = (thin_grammar.plain line are.1.0).1 in
    let none = no_feeds (written thin line) (printable_lacks (written thin line) (printable_join (thin.words line) plain)) in
    let first : feeds_of (written thin line ++ (10 ∷ [])) ≡ 1 = sum_by-append (λ (byte : ℕ). cond (nat_eq byte 10) 1 0) (written thin line) (10 ∷ []) ∙ rw none refl in
    sum_by-append (λ (byte : ℕ). cond (nat_eq byte 10) 1 0) (written thin line ++ (10 ∷ [])) (text_of_lines thin lines) ∙ rw (first, line_feeds lines (line ∷ before) are.1.1.1.1) (omega arith)

pub feeds_are : (number : ℕ) → number ≤ 10000 → feeds_of (text_of_pool (generated_pool number)) ≡ length (generated_lines number)
unfolding text_of_pool
feeds_are number few =
    ap (λ (lines : List Line). feeds_of (text_of_lines thin lines)) (lines_joined number)
    ∙ line_feeds (generated_lines number) [] (thin_language.lines (generated_lines number) (generated_pool number) (generated_means number few))

pub lines_number : (number : ℕ) → length (generated_lines number) ≡ 5 + 2000 * number
unfolding generated_pool
lines_number number =
    simp (length-append, length-map, length-range_with_len) (omega arith)

pub mappings_number : (number : ℕ) → sum_by (λ (d : ThinDevice). length d.mappings) (generated_pool number).devices ≡ 2000 * number
unfolding generated_pool
mappings_number number =
    omega (arith, length-map-range_with_len device_mapping 0 (generated_mapped number), length-map-range_with_len snapshot_mapping 0 (generated_mapped number))

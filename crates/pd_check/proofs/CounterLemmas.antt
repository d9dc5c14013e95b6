-- What a counter knows of the references, as a walk shows it one block more.
use Rattle.std.proofs.Common.{◌≡◌, ℕ, ◌+◌, ◌*◌, ◌-◌, ◌%◌, ◌^◌, ◌<◌, ◌≤◌, Bool, false, ◌||◌, nat_eq, List, [], ◌∷◌, ◌++◌, length, ap, sym, ◌∙◌, refl, subst, arith, inl, inr, append-nil, cond, eq-eqb}
use Rattle.std.proofs.Math.Bool.{or-false}
use Rattle.std.specs.List.{AllByRecursion, count_by, range_with_len}
use Rattle.std.proofs.lemmas.Bool.{cases_Bool, cases_eq}
use Rattle.std.proofs.lemmas.List.Sums.{sum_by-append}
use Rattle.pd_kinds.specs.declared.limits.TheConstants.{MAX_META_BLOCKS}
use Rattle.pd_kinds.specs.Graph.{Graph, block_at, pair}
use Rattle.pd_kinds.specs.Lawful.{IsLawful, KeepsLaws}
use Rattle.pd_kinds.proofs.NumberLemmas.{differ}
use Rattle.pd_count.specs.Counted.{Counted, HasCounted}
use Rattle.pd_graph.specs.Format.{AreContents, Contents, IsSound, IsOneMore, no_pairs}
use Rattle.pd_graph.specs.Walk.{weigh}
use Rattle.pd_graph.proofs.BitLemmas.{pair_role}
use Rattle.pd_graph.proofs.Weights.{count_weighs, more_weight, none_weigh, same_weight}
use Rattle.pd_check.specs.Refs.{refs_before, refs_in}
use Rattle.pd_check.proofs.RefsLemmas.{few_refs, passing}

module _ (graph : Graph) (image : List (List ℕ)) (role : ℕ) where
  -- what block b names in the role
  abbrev named : ℕ → List ℕ
  named b = graph.data_refs role b (block_at image b)

  -- how often a number stands among the references
  counted_weighs : (t pairs : ℕ → Bool) (n : ℕ) → count_by t (refs_before graph image role pairs n) ≡ weigh (λ b. pairs (pair b role)) (λ b. count_by t (named b)) n
  unfolding refs_before
  counted_weighs t pairs n = ap (count_by t) (sym (passing (λ b. pairs (pair b role)) named (range_with_len 0 n))) ∙ count_weighs (λ b. pairs (pair b role)) t named n

  -- the same pairs have the same references
  same_counted : (t pairs others : ℕ → Bool) → ((b : ℕ) → others (pair b role) ≡ pairs (pair b role)) → count_by t (refs_in graph image role others) ≡ count_by t (refs_in graph image role pairs)
  same_counted t pairs others same =
      counted_weighs t others graph.nr
      ∙ same_weight (λ b. pairs (pair b role)) (λ b. others (pair b role)) (λ b. count_by t (named b)) graph.nr (λ b within. same b)
      ∙ sym (counted_weighs t pairs graph.nr)

  same_refs : (counts : Counted) (pairs others : ℕ → Bool) → ((b : ℕ) → others (pair b role) ≡ pairs (pair b role)) → HasCounted counts (refs_in graph image role pairs)
      → HasCounted counts (refs_in graph image role others)
  same_refs counts pairs others same are = λ d. are d ∙ sym (same_counted (λ r. nat_eq r d) pairs others same)

  -- none has no references
  pub no_pairs_counted : (counts : Counted) → HasCounted counts [] → HasCounted counts (refs_in graph image role no_pairs)
  no_pairs_counted counts none = λ d.
      none d ∙ sym (counted_weighs (λ r. nat_eq r d) no_pairs graph.nr ∙ none_weigh (λ b. false) (λ b. count_by (λ r. nat_eq r d) (named b)) graph.nr (λ b. refl))

  -- a pair of another role leaves them
  pub other_role : (counts : Counted) (before after : ℕ → Bool) (b other : ℕ) → role < 16 → other < 16 → (role ≡ other → ⊥) → IsOneMore (pair b other) before after
      → HasCounted counts (refs_in graph image role before) → HasCounted counts (refs_in graph image role after)
  other_role counts before after b other few few_other differs more =
      same_refs counts before after (λ c.
      more.pairs (pair c role)
      ∙ ap (λ (t : Bool). before (pair c role) || t)
      (differ (pair c role) (pair b other) (λ same. differs (sym (pair_role c role few) ∙ ap (λ (p : ℕ). p % 16) same ∙ pair_role b other few_other)))
      ∙ or-false (before (pair c role)))

  -- whether a pair of the role is that of a block
  same_pair : (c b : ℕ) → nat_eq (pair c role) (pair b role) ≡ nat_eq c b
  same_pair c b = elim (cases_eq c b) [
    | inl same ↦ eq-eqb (pair c role) (pair b role) (ap (λ (k : ℕ). pair k role) same) ∙ sym (eq-eqb c b same)
    | inr differs ↦ differ (pair c role) (pair b role) (λ same. differs (omega arith)) ∙ sym (differ c b differs)
  ]

  -- a pair of this role adds what its block names
  more_counted : (t before after : ℕ → Bool) (b : ℕ) → b < graph.nr → IsOneMore (pair b role) before after
      → count_by t (refs_in graph image role after) ≡ count_by t (refs_in graph image role before ++ named b)
  more_counted t before after b within more =
      counted_weighs t after graph.nr
      ∙ more_weight (λ c. before (pair c role)) (λ c. after (pair c role)) (λ c. count_by t (named c)) b graph.nr within more.unseen
      (λ c. more.pairs (pair c role) ∙ ap (λ (same : Bool). before (pair c role) || same) (same_pair c b))
      ∙ ap (λ (k : ℕ). k + count_by t (named b)) (sym (counted_weighs t before graph.nr))
      ∙ sym (sum_by-append (λ (r : ℕ). cond (t r) 1 0) (refs_in graph image role before) (named b))

  one_more : (new : Counted) (before after : ℕ → Bool) (b : ℕ) (refs : List ℕ) → b < graph.nr → IsOneMore (pair b role) before after → named b ≡ refs
      → HasCounted new (refs_in graph image role before ++ refs) → HasCounted new (refs_in graph image role after)
  one_more new before after b refs within more same counted = λ d.
      counted d ∙ ap (λ (xs : List ℕ). count_by (λ r. nat_eq r d) (refs_in graph image role before ++ xs)) (sym same)
      ∙ sym (more_counted (λ r. nat_eq r d) before after b within more)

-- a block with a broken rule names nothing
names_nothing : (graph : Graph) (role b : ℕ) (block : List ℕ) → KeepsLaws graph role b block → (IsSound graph role b block → ⊥) → (refs : List ℕ) → graph.data_refs role b block ≡ refs → refs ≡ []
names_nothing graph role b block laws unsound [] same = refl
names_nothing graph role b block laws unsound (x ∷ xs) same =
    absurd (unsound (λ broken. elim (cases_Bool (graph.bad role b block broken)) [
      | inl is ↦ let none = laws.bad_data broken is in absurd (cc)
      | inr is_not ↦ is_not
    ]))

module _ (graph : Graph) (contents : Contents) (image : List (List ℕ)) (role b : ℕ) (block : List ℕ) (counts new : Counted) (before after : ℕ → Bool)
    (lawful : IsLawful graph) (known : role < graph.roles) (within : b < graph.nr) (here : block_at image b ≡ block) (more : IsOneMore (pair b role) before after) where
  -- and one without names what its bytes say
  pub sound_block : AreContents graph contents → IsSound graph role b block → counts.size ≡ graph.data_blocks
      → ((all : List ℕ) → HasCounted counts all → AllByRecursion (λ d. d < counts.size) (contents.data_refs role block)
      → length all + length (contents.data_refs role block) < 2 ^ 32 - 1 → HasCounted new (all ++ contents.data_refs role block))
      → HasCounted counts (refs_in graph image role before) → HasCounted new (refs_in graph image role after)
  sound_block told sound size adds are =
      let same : graph.data_refs role b block ≡ contents.data_refs role block = told.data_refs role b block known sound in
      let laws = lawful.each role b block known in
      let few : length (refs_in graph image role before) ≤ 254 * graph.nr = few_refs graph image role before graph.nr lawful known in
      let blocks : graph.nr ≤ MAX_META_BLOCKS = lawful.few_blocks in
      one_more graph image role new before after b (contents.data_refs role block) within more (ap (graph.data_refs role b) here ∙ same)
      (adds (refs_in graph image role before) are (rw (← same, size) laws.data_within) (rw (← same) (omega (arith, laws.data_number, few, blocks))))

  pub unsound_block : (IsSound graph role b block → ⊥) → HasCounted counts (refs_in graph image role before) → HasCounted counts (refs_in graph image role after)
  unsound_block unsound are =
      one_more graph image role counts before after b [] within more
      (ap (graph.data_refs role b) here ∙ names_nothing graph role b block (lawful.each role b block known) unsound _ refl)
      (subst (HasCounted counts) (sym (append-nil (refs_in graph image role before))) are)

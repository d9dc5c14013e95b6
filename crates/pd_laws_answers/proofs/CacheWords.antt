-- What the words of a cache's repair ask: a version and roots that may each be left out.
use Rattle.std.proofs.Common.{◌≡◌, ℕ, ◌-◌, ◌^◌, Bool, true, false, List, [], ◌∷◌, ◌++◌, Option, Some, None, IfSome, refl, ap, ◌∙◌}
use Rattle.std.specs.Prelude.{codes, if◌then◌else◌}
use Rattle.std.specs.Option.{option_and_then}
use Rattle.std.specs.List.{filter_map, list_all}
use Rattle.std.specs.Str.{bytes_eq}
use Rattle.pd_answers.specs.declared.request.CacheRoots.{CacheRoots}
use Rattle.pd_answers.specs.declared.request.Asked.TheVariants.{KeptCache}
use Rattle.pd_answers.specs.declared.request.Request.TheVariants.{Query, RepairCache}
use Rattle.pd_answers.specs.declared.tool.Tool.TheVariants as tool
use Rattle.pd_answers.specs.declared.tool.Value.TheVariants.{UpTo, Version}
use Rattle.pd_answers.specs.Tools.{cache_words, dry_run_word, output_word}
use Rattle.pd_answers.specs.Words.{Given, Item, asked, at_most_one, cache_roots, given, given_of, is_flag, is_known, is_value, items_of, meant_if_any, more, never, once, request_of, tool_in, value_of}
use Rattle.pd_laws_answers.specs.CommandLines.{cache_repair_words, dry_cache_words}
use Rattle.pd_laws_answers.specs.Words.{CacheRootWords, IsBlockSaid, IsName, IsVersionSaid, SayCacheRoots, if_given, in_version, naming_roots}
use Rattle.pd_laws_answers.proofs.OrderLemmas.{flag_first, option_first}

-- The items of an option that may be left out.

item_if : List ℕ → Option (List ℕ) → List Item
item_if name None = []
item_if name (Some word) = record { purpose = name; value = word } ∷ []

items_if : (name : List ℕ) (word : Option (List ℕ)) (rest : List (List ℕ)) (items : List Item) → is_value name ≡ false → is_flag name ≡ false → IfSome word IsName
    → items_of rest ≡ Some items → items_of (if_given name word ++ rest) ≡ Some (item_if name word ++ items)
unfolding item_if
items_if name None rest items option_here other is are = are
items_if name (Some word) rest items option_here other is are = option_first name word rest option_here other is ∙ ap (more name word) are

all_if : (p : Item → Bool) (name : List ℕ) (word : Option (List ℕ)) (rest : List Item) → ((value : List ℕ) → p (record { purpose = name; value = value }) ≡ true)
    → list_all p (item_if name word ++ rest) ≡ list_all p rest
unfolding item_if
all_if p name None rest passes = refl
all_if p name (Some word) rest passes = rw (passes word) refl

-- how often it is given
given_once : Option (List ℕ) → Given
given_once None = never
given_once (Some word) = once word

none_given : (values : List (List ℕ)) → given_of values ≡ never → values ≡ []
none_given [] none = refl
none_given (value ∷ []) none = absurd cc
none_given (value ∷ other ∷ values) none = absurd cc

given_here : (name : List ℕ) (word : Option (List ℕ)) (rest : List Item) → bytes_eq name name ≡ true → given name rest ≡ never → given name (item_if name word ++ rest) ≡ given_once word
unfolding item_if given given_once
given_here name None rest same none = none
given_here name (Some word) rest same none = rw (same, none_given (filter_map (value_of name) rest) none) refl

given_past : (name other : List ℕ) (word : Option (List ℕ)) (rest : List Item) → bytes_eq other name ≡ false → given name (item_if other word ++ rest) ≡ given name rest
unfolding item_if given
given_past name other None rest differ = refl
given_past name other (Some word) rest differ = rw differ refl

at_most : (word : Option (List ℕ)) → at_most_one (given_once word) ≡ Some word
unfolding given_once
at_most None = refl
at_most (Some word) = refl

-- and what it says
version_named : (word : Option (List ℕ)) (version : Option ℕ) → IsVersionSaid word version → IfSome word IsName × (meant_if_any Version word ≡ Some version)
version_named None None said = (tt, refl)
version_named None (Some version) said = absurd said
version_named (Some word) None said = absurd said
version_named (Some word) (Some version) said = (said.0, rw said.1 refl)

block_named : (word : Option (List ℕ)) (block : Option ℕ) → IsBlockSaid word block → IfSome word IsName × (meant_if_any (UpTo (2 ^ 64 - 1)) word ≡ Some block)
block_named None None said = (tt, refl)
block_named None (Some block) said = absurd said
block_named (Some word) None said = absurd said
block_named (Some word) (Some block) said = (said.0, rw said.1 refl)

-- The items of a version and of roots, before others.

abbrev version_name : List ℕ
version_name = codes "--metadata-version"

abbrev mapping_name : List ℕ
mapping_name = codes "--mapping-root"

abbrev hint_name : List ℕ
hint_name = codes "--hint-root"

abbrev dirty_name : List ℕ
dirty_name = codes "--dirty-root"

module _ (word : Option (List ℕ)) (words : CacheRootWords) (tail : List Item) where
  abbrev dirty_items : List Item
  dirty_items = item_if dirty_name words.dirty ++ tail

  abbrev hint_items : List Item
  hint_items = item_if hint_name words.hints ++ dirty_items

  abbrev root_items : List Item
  root_items = item_if mapping_name words.mappings ++ hint_items

  abbrev all_items : List Item
  all_items = item_if version_name word ++ root_items

  module _ (version : Option ℕ) (named : CacheRoots) (said : IsVersionSaid word version) (say : SayCacheRoots words named) where
    items_are : (rest : List (List ℕ)) → items_of rest ≡ Some tail → items_of (in_version word ++ naming_roots words rest) ≡ Some all_items
    unfolding is_flag
    items_are rest are =
        items_if version_name word (naming_roots words rest) root_items refl refl (version_named word version said).0
        (items_if mapping_name words.mappings _ hint_items refl refl (block_named words.mappings named.mappings say.mappings).0
        (items_if hint_name words.hints _ dirty_items refl refl (block_named words.hints named.hints say.hints).0
        (items_if dirty_name words.dirty rest tail refl refl (block_named words.dirty named.dirty say.dirty).0 are)))

    -- the roots are those that are named
    roots_are : given mapping_name tail ≡ never → given hint_name tail ≡ never → given dirty_name tail ≡ never → cache_roots all_items ≡ Some named
    unfolding cache_roots
    roots_are none_mapping none_hint none_dirty =
        let mappings : given mapping_name all_items ≡ given_once words.mappings =
        given_past mapping_name version_name word root_items refl
        ∙ given_here mapping_name words.mappings hint_items refl (given_past mapping_name hint_name words.hints dirty_items refl ∙ (given_past mapping_name dirty_name words.dirty tail refl ∙ none_mapping)) in
        let hints : given hint_name all_items ≡ given_once words.hints =
        given_past hint_name version_name word root_items refl
        ∙ (given_past hint_name mapping_name words.mappings hint_items refl
        ∙ given_here hint_name words.hints dirty_items refl (given_past hint_name dirty_name words.dirty tail refl ∙ none_hint)) in
        let dirty : given dirty_name all_items ≡ given_once words.dirty =
        given_past dirty_name version_name word root_items refl
        ∙ (given_past dirty_name mapping_name words.mappings hint_items refl
        ∙ (given_past dirty_name hint_name words.hints dirty_items refl ∙ given_here dirty_name words.dirty tail refl none_dirty)) in
        rw (
          mappings,
          at_most words.mappings,
          (block_named words.mappings named.mappings say.mappings).1,
          hints,
          at_most words.hints,
          (block_named words.hints named.hints say.hints).1,
          dirty,
          at_most words.dirty,
          (block_named words.dirty named.dirty say.dirty).1,
        ) refl

  version_given : given version_name tail ≡ never → given version_name all_items ≡ given_once word
  version_given none =
      given_here version_name word root_items refl
      (given_past version_name mapping_name words.mappings hint_items refl
      ∙ (given_past version_name hint_name words.hints dirty_items refl ∙ (given_past version_name dirty_name words.dirty tail refl ∙ none)))

  -- another word is given as often as behind them
  others_given : (name : List ℕ) → bytes_eq version_name name ≡ false → bytes_eq mapping_name name ≡ false → bytes_eq hint_name name ≡ false → bytes_eq dirty_name name ≡ false
      → given name all_items ≡ given name tail
  others_given name version mapping hint dirty =
      given_past name version_name word root_items version
      ∙ (given_past name mapping_name words.mappings hint_items mapping ∙ (given_past name hint_name words.hints dirty_items hint ∙ given_past name dirty_name words.dirty tail dirty))

  all_pass : (p : Item → Bool) → ((value : List ℕ) → p (record { purpose = version_name; value = value }) ≡ true) → ((value : List ℕ) → p (record { purpose = mapping_name; value = value }) ≡ true)
      → ((value : List ℕ) → p (record { purpose = hint_name; value = value }) ≡ true) → ((value : List ℕ) → p (record { purpose = dirty_name; value = value }) ≡ true)
      → list_all p tail ≡ true → list_all p all_items ≡ true
  all_pass p version mapping hint dirty rest =
      all_if p version_name word root_items version
      ∙ (all_if p mapping_name words.mappings hint_items mapping ∙ (all_if p hint_name words.hints dirty_items hint ∙ (all_if p dirty_name words.dirty tail dirty ∙ rest)))

-- what such items ask
repair_requested : (items : List Item) (word : Option (List ℕ)) (version : Option ℕ) (named : CacheRoots) (from to : List ℕ) → given version_name items ≡ given_once word
    → meant_if_any Version word ≡ Some version → cache_roots items ≡ Some named → given (codes "-i") items ≡ once from → given (codes "-o") items ≡ once to
    → request_of tool.RepairCache items ≡ Some (RepairCache version named from to)
unfolding request_of
repair_requested items word version named from to given_version said roots input output = rw (given_version, at_most word, said, roots, input, output) refl

dry_requested : (items : List Item) (word : Option (List ℕ)) (version : Option ℕ) (named : CacheRoots) (mark image : List ℕ) → given (codes "--dry-run") items ≡ once mark
    → given version_name items ≡ given_once word → meant_if_any Version word ≡ Some version → cache_roots items ≡ Some named → given (codes "-i") items ≡ once image
    → request_of tool.DryRepairCache items ≡ Some (Query (KeptCache named) None image)
unfolding request_of
dry_requested items word version named mark image dry given_version said roots input = rw (dry, given_version, at_most word, said, roots, input) refl

repair_by_items : (items : List Item) (words : List (List ℕ)) (word : Option (List ℕ)) (version : Option ℕ) (named : CacheRoots) (from to : List ℕ) → items_of words ≡ Some items
    → list_all (is_known (output_word ∷ cache_words)) items ≡ true → given version_name items ≡ given_once word → meant_if_any Version word ≡ Some version → cache_roots items ≡ Some named
    → given (codes "-i") items ≡ once from → given (codes "-o") items ≡ once to → asked (codes "cache_repair" ∷ words) ≡ Some (RepairCache version named from to)
unfolding asked tool_in
repair_by_items items words word version named from to are all given_version said roots input output =
    let taken : asked (codes "cache_repair" ∷ words) ≡ request_of tool.RepairCache items =
    rw (are, all) (ap (λ (known : Bool). option_and_then (request_of tool.RepairCache) (if known then Some items else None)) all) in
    taken ∙ repair_requested items word version named from to given_version said roots input output

dry_by_items : (items : List Item) (words : List (List ℕ)) (word : Option (List ℕ)) (version : Option ℕ) (named : CacheRoots) (mark image : List ℕ) → items_of words ≡ Some items
    → list_all (is_known (output_word ∷ cache_words)) items ≡ false → list_all (is_known (dry_run_word ∷ cache_words)) items ≡ true → given (codes "--dry-run") items ≡ once mark
    → given version_name items ≡ given_once word → meant_if_any Version word ≡ Some version → cache_roots items ≡ Some named → given (codes "-i") items ≡ once image
    → asked (codes "cache_repair" ∷ words) ≡ Some (Query (KeptCache named) None image)
unfolding asked tool_in
dry_by_items items words word version named mark image are some all dry given_version said roots input =
    let taken : asked (codes "cache_repair" ∷ words) ≡ request_of tool.DryRepairCache items =
    rw (are, some, all) (ap (λ (known : Bool). option_and_then (request_of tool.DryRepairCache) (if known then Some items else None)) all) in
    taken ∙ dry_requested items word version named mark image dry given_version said roots input

module _ (word : Option (List ℕ)) (version : Option ℕ) (words : CacheRootWords) (named : CacheRoots) (said : IsVersionSaid word version) (say : SayCacheRoots words named) where
  pub cache_repair_asked : (from to : List ℕ) → IsName from → IsName to → asked (cache_repair_words word words from to) ≡ Some (RepairCache version named from to)
  unfolding items_of is_flag given
  cache_repair_asked from to is_from is_to =
      let tail : List Item = record { purpose = codes "-i"; value = from } ∷ record { purpose = codes "-o"; value = to } ∷ [] in
      repair_by_items (all_items word words tail) (in_version word ++ naming_roots words (codes "-i" ∷ from ∷ codes "-o" ∷ to ∷ [])) word version named from to
      (items_are word words tail version named said say (codes "-i" ∷ from ∷ codes "-o" ∷ to ∷ []) (rw (is_from, is_to) refl))
      (all_pass word words tail (is_known (output_word ∷ cache_words)) (λ value. refl) (λ value. refl) (λ value. refl) (λ value. refl) refl)
      (version_given word words tail refl) (version_named word version said).1
      (roots_are word words tail version named said say refl refl refl)
      (others_given word words tail (codes "-i") refl refl refl refl) (others_given word words tail (codes "-o") refl refl refl refl)

  pub dry_cache_asked : (image : List ℕ) → IsName image → asked (dry_cache_words word words image) ≡ Some (Query (KeptCache named) None image)
  unfolding items_of is_flag given cache_roots
  dry_cache_asked image is_image =
      let tail : List Item = record { purpose = codes "-i"; value = image } ∷ [] in
      let items = all_items word words tail in
      let mark : Item = record { purpose = codes "--dry-run"; value = codes "--dry-run" } in
      let rest = in_version word ++ naming_roots words (codes "-i" ∷ image ∷ []) in
      dry_by_items (mark ∷ items) (codes "--dry-run" ∷ rest) word version named (codes "--dry-run") image
      (flag_first (codes "--dry-run") rest refl refl ∙ ap (more (codes "--dry-run") (codes "--dry-run")) (items_are word words tail version named said say (codes "-i" ∷ image ∷ []) (rw is_image refl)))
      refl
      (all_pass word words tail (is_known (dry_run_word ∷ cache_words)) (λ value. refl) (λ value. refl) (λ value. refl) (λ value. refl) refl)
      (marked (filter_map (value_of (codes "--dry-run")) items) (others_given word words tail (codes "--dry-run") refl refl refl refl))
      (version_given word words tail refl) (version_named word version said).1
      (roots_are word words tail version named said say refl refl refl)
      (others_given word words tail (codes "-i") refl refl refl refl)
    where
      marked : (values : List (List ℕ)) → given_of values ≡ never → given_of (codes "--dry-run" ∷ values) ≡ once (codes "--dry-run")
      marked values none = rw (none_given values none) refl

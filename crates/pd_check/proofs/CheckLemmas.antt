-- The faults of the stages Super and Walk, and the report of a check up to one of them.
use Rattle.std.proofs.Common.{◌≡◌, ◌≢◌, ℕ, suc, ◌+◌, ◌*◌, ◌≤◌, Bool, true, false, not, cond, nat_lt, List, [], ◌∷◌, length, Option, Some, None, IfSome, refl, ap, sym, ◌∙◌, arith, Result, Ok, Err, IfOk, zero, ◌<◌, ◌++◌, append-nil, ◌&&◌, nat_eq}
use Rattle.std.proofs.lemmas.Bool.{lt-ltb, both_ways}
use Rattle.std.proofs.lemmas.Option.{IfSome_then}
use Rattle.std.specs.List.{flat_map, range_with_len}
use Rattle.std.proofs.lemmas.Grind.{flat_map-append}
use Rattle.pd_kinds.specs.declared.kind.Kind.{Kind}
use Rattle.pd_kinds.specs.declared.kind.Kind.TheVariants.{Thin, Cache, Era}
use Rattle.pd_kinds.specs.declared.kind.Stage.{Stage}
use Rattle.pd_kinds.specs.declared.rule.Rule.{Rule}
use Rattle.pd_kinds.specs.declared.rules.Rules.{Rules}
use Rattle.pd_kinds.specs.declared.rule.Fault.{Fault}
use Rattle.pd_kinds.specs.declared.report.Report.{Report}
use Rattle.pd_kinds.specs.declared.report.CheckFault.{CheckFault}
use Rattle.pd_kinds.specs.declared.report.CheckFault.TheVariants.{Memory, Device}
use Rattle.pd_kinds.specs.Stages.{checked_of, faults, first_failing, block_faults, walk_bad, order_bad, super_faults, thin_checked, cache_checked, era_checked}
use Rattle.pd_kinds.specs.Rule.{same_rule, all_rules, has_rule, Reported, report_of, faults_at}
use Rattle.pd_kinds.specs.Graph.{Graph, block_at, nodes}
use Rattle.pd_kinds.proofs.ResultLemmas.{if_both}
use Rattle.pd_kinds.proofs.CleanLemmas.{no_rule_broken, no_faults_at, no_block_broken}
use Rattle.pd_kinds.proofs.SuperStage.{chosen, first_stage, faults_at-same}
use Rattle.pd_kinds.specs.declared.kind.Stage.TheVariants as stages
use Rattle.pd_kinds.specs.declared.rule.Rule.TheVariants as r
use Rattle.pd_graph.specs.declared.audit.Audit.{Audit}
use Rattle.pd_graph.specs.Audit.{has_rule_at}
use Rattle.pd_graph.specs.Walk.{IsWalked}
use Rattle.pd_graph.proofs.BitLemmas.{range_more}
use Rattle.pd_settle.specs.Settled.{IsSettled}
use Rattle.pd_check.specs.Check.{super_bad_of, graph_of_super, IsFirstBlock, MayWantMemory, ReadsFew, past_faults, reads_of, goes_past_walk}

-- what is looked at in an image, by its kind
same_rules : (kind : Kind) (image : List (List ℕ)) → (checked_of kind image).super_bad ≡ super_bad_of kind
unfolding thin_checked cache_checked era_checked
same_rules Thin image = refl
same_rules Cache image = refl
same_rules Era image = refl

pub same_graph : (kind : Kind) (image : List (List ℕ)) → (checked_of kind image).graph ≡ graph_of_super kind (block_at image 0)
unfolding thin_checked cache_checked era_checked
same_graph Thin image = refl
same_graph Cache image = refl
same_graph Era image = refl

-- the faults of an image without blocks
missing_faults : (kind : Kind) → faults kind stages.Super [] ≡ faults_at 0 (same_rule r.Size)
unfolding super_faults faults_at all_rules
missing_faults kind = first_stage kind []

-- and those of an image with this first block
first_faults : (kind : Kind) (blocks : ℕ) (first : List ℕ) (image : List (List ℕ)) → IsFirstBlock blocks first image
    → faults kind stages.Super image ≡ faults_at 0 (super_bad_of kind blocks first)
unfolding super_faults
first_faults kind blocks first [] found = let e = found.content in cc
first_faults kind blocks first (block ∷ rest) found =
    let same : block ≡ first = let e = found.content in cc in
    first_stage kind (block ∷ rest)
    ∙ (ap (λ (bad : ℕ → List ℕ → Rule → Bool). faults_at 0 (bad (length (block ∷ rest)) block)) (same_rules kind (block ∷ rest))
    ∙ rw (found.number, same) refl)

-- a list that isn't empty is chosen
chosen_first : (list rest : List Fault) → (list ≢ []) → cond (nat_lt 0 (length list)) list rest ≡ list
chosen_first [] rest some = absurd (some refl)
chosen_first (fault ∷ faults) rest some = rw (lt-ltb 0 (suc (length faults)) (omega arith)) refl

-- the first of two lists, or the second
two_stages : (some : Bool) (first second : List Fault) → cond some first (cond (nat_lt 0 (length second)) second []) ≡ cond (not some) second first
two_stages true first second = refl
two_stages false first second = chosen second

module _ (kind : Kind) (image : List (List ℕ)) where
  -- what a check finds where block 0 has faults
  broken_faults : (until : Stage) → (faults kind stages.Super image ≢ []) → faults kind until image ≡ faults kind stages.Super image
  unfolding faults first_failing
  broken_faults stages.Super some = refl
  broken_faults stages.Walk some =
      let first = first_stage kind image in
      chosen_first (super_faults (checked_of kind image) image) _ (λ none. some (first ∙ none)) ∙ sym first
  broken_faults stages.Order some =
      let first = first_stage kind image in
      chosen_first (super_faults (checked_of kind image) image) _ (λ none. some (first ∙ none)) ∙ sym first
  broken_faults stages.Whole some =
      let first = first_stage kind image in
      chosen_first (super_faults (checked_of kind image) image) _ (λ none. some (first ∙ none)) ∙ sym first
  broken_faults stages.Counts some =
      let first = first_stage kind image in
      chosen_first (super_faults (checked_of kind image) image) _ (λ none. some (first ∙ none)) ∙ sym first

  -- and where it has none
  are_past : (until : Stage) → (until ≡ stages.Super → ⊥) → (until ≡ stages.Whole → ⊥) → (until ≡ stages.Counts → ⊥) → faults kind stages.Super image ≡ []
      → faults kind until image ≡ past_faults until (graph_of_super kind (block_at image 0)) image
  unfolding faults first_failing
  are_past stages.Super past before last none = absurd (past refl)
  are_past stages.Walk past before last none =
      let found : super_faults (checked_of kind image) image ≡ [] = sym (first_stage kind image) ∙ none in
      rw (found, same_graph kind image)
      (chosen (block_faults (graph_of_super kind (block_at image 0)).nr (walk_bad (graph_of_super kind (block_at image 0)) image)))
  are_past stages.Order past before last none =
      let found : super_faults (checked_of kind image) image ≡ [] = sym (first_stage kind image) ∙ none in
      let graph = graph_of_super kind (block_at image 0) in
      rw (found, same_graph kind image)
      (two_stages (nat_lt 0 (length (block_faults graph.nr (walk_bad graph image)))) (block_faults graph.nr (walk_bad graph image)) (block_faults graph.nr (order_bad graph image)))
  are_past stages.Whole past before last none = absurd (before refl)
  are_past stages.Counts past before last none = absurd (last refl)

-- the report of an image without blocks
missing_some : (kind : Kind) → faults kind stages.Super [] ≢ []
unfolding faults_at all_rules
missing_some kind none = let e = missing_faults kind in cc

pub missing_report : (held : Option (List (List ℕ))) (kind : Kind) (until : Stage) (blocks : ℕ) (rules : Rules) (report : Reported)
    → blocks ≡ 0 → IfSome held (λ image. blocks ≡ length image) → ((rule : Rule) → has_rule rules rule ≡ same_rule r.Size rule)
    → report ≡ report_of (faults_at 0 (has_rule rules))
    → IfSome held (λ image. report ≡ report_of (faults kind until image))
missing_report None kind until blocks rules report none honest size same = tt
missing_report (Some []) kind until blocks rules report none honest size same =
    same ∙ ap (λ (list : List Fault). report_of list)
    (faults_at-same 0 (has_rule rules) (same_rule r.Size) size
    ∙ (sym (missing_faults kind) ∙ sym (broken_faults kind [] until (missing_some kind))))
missing_report (Some (block ∷ rest)) kind until blocks rules report none honest size same = absurd (omega arith)

-- the block at the first place
pub first_at : (blocks : ℕ) (first : List ℕ) (image : List (List ℕ)) → IsFirstBlock blocks first image → block_at image 0 ≡ first
first_at blocks first image found = rw found.content refl

-- one read more before the others
pub later_read : (before held : Option (List (List ℕ))) (kind : Kind) (until : Stage) (old later new : ℕ) → before ≡ held → old ≤ later
    → IfSome before (λ image. ReadsFew kind until image old new)
    → IfSome held (λ image. ReadsFew kind until image later new)
later_read before held kind until old later new same more few =
    rw (sym same)
    (IfSome_then before few (λ image most. record {
      nodes = let nodes = most.nodes in omega arith;
      none = λ some. let none = most.none some in omega arith;
    }))

-- a check that has read block 0
module _ (held : Option (List (List ℕ))) (kind : Kind) (blocks : ℕ) (first : List ℕ) (found : IfSome held (IsFirstBlock blocks first)) where
  -- which breaks a rule
  pub broken_report : (until : Stage) (rules : Rules) (report : Reported)
      → ((rule : Rule) → has_rule rules rule ≡ super_bad_of kind blocks first rule) → (((rule : Rule) → has_rule rules rule ≡ false) → ⊥)
      → report ≡ report_of (faults_at 0 (has_rule rules))
      → IfSome held (λ image. report ≡ report_of (faults kind until image))
  broken_report until rules report bad broken same = IfSome_then held found (λ image here.
      let e = first_faults kind blocks first image here in
      same ∙ ap (λ (list : List Fault). report_of list)
      (faults_at-same 0 (has_rule rules) (super_bad_of kind blocks first) bad
      ∙ (sym e ∙ sym (broken_faults kind image until (λ none. broken (λ rule. bad rule ∙ no_rule_broken 0 _ (sym e ∙ none) rule))))))

  -- which breaks none
  module _ (sound : (rule : Rule) → super_bad_of kind blocks first rule ≡ false) where
    none_first : IfSome held (λ image. faults kind stages.Super image ≡ [])
    none_first = IfSome_then held found (λ image here. first_faults kind blocks first image here ∙ no_faults_at 0 _ sound)

    pub sound_report : (report : Reported) → report ≡ report_of [] → IfSome held (λ image. report ≡ report_of (faults kind stages.Super image))
    sound_report report same =
        IfSome_then held none_first (λ image none. same ∙ ap (λ (list : List Fault). report_of list) (sym none))

    pub past_memory : (until : Stage) (result : Result Report CheckFault) → (until ≡ stages.Super → ⊥) → MayWantMemory kind until held result
    past_memory until (Ok report) past = tt
    past_memory until (Err Memory) past = record { past_super = past; sound = none_first }
    past_memory until (Err Device) past = tt

    module _ (graph : Graph) (same : graph ≡ graph_of_super kind first) where
      -- past the stage Super
      pub past_report : (until : Stage) (result : Result Report CheckFault) → (until ≡ stages.Super → ⊥) → (until ≡ stages.Whole → ⊥) → (until ≡ stages.Counts → ⊥)
          → IfOk result (λ report. IfSome held (λ image. report ≡ report_of (past_faults until graph image)))
          → IfOk result (λ report. IfSome held (λ image. report ≡ report_of (faults kind until image)))
      past_report until (Err fault) past before last found_past = tt
      past_report until (Ok report) past before last found_past = if_both held
          (λ image here is.
          let none = first_faults kind blocks first image here ∙ no_faults_at 0 _ sound in
          let mine : graph ≡ graph_of_super kind (block_at image 0) = same ∙ ap (graph_of_super kind) (sym (first_at blocks first image here)) in
          is ∙ ap (λ (list : List Fault). report_of list) (
          ap (λ (g : Graph). past_faults until g image) mine ∙ sym (are_past kind image until past before last none)))
          found found_past

      pub past_read : (until : Stage) (old new : ℕ) → IfSome held (λ image. new ≤ old + reads_of until * length (nodes graph image)) → IfSome held (λ image. ReadsFew kind until image old new)
      past_read until old new few = if_both held
          (λ image here most.
          let mine : graph ≡ graph_of_super kind (block_at image 0) = same ∙ ap (graph_of_super kind) (sym (first_at blocks first image here)) in
          record {
            nodes = let few = rw mine at most in omega (arith, few);
            none = λ some. absurd (some (first_faults kind blocks first image here ∙ no_faults_at 0 _ sound));
          })
          found few

-- The report of a walk, and of settling after it.

-- the faults of one block more
pub one_block_more : (f : ℕ → List Fault) (n : ℕ) → flat_map f (range_with_len 0 (n + 1)) ≡ flat_map f (range_with_len 0 n) ++ f n
one_block_more f n =
    let e : n + 1 ≡ suc n = omega arith in
    let more : range_with_len 0 (n + 1) ≡ range_with_len 0 n ++ (n ∷ []) = rw e (range_more 0 n n (omega arith)) in
    rw more (flat_map-append f (range_with_len 0 n) (n ∷ []) ∙ ap (λ (xs : List Fault). flat_map f (range_with_len 0 n) ++ xs) (append-nil (f n)))

-- blocks with the rules of a walk
pub flat_map-same : (f g : ℕ → List Fault) (a n : ℕ) → ((k : ℕ) → k < a + n → f k ≡ g k) → flat_map f (range_with_len a n) ≡ flat_map g (range_with_len a n)
flat_map-same f g a zero same = refl
flat_map-same f g a (suc n) same = rw (same a (omega arith), flat_map-same f g (a + 1) n (λ k within. same k (omega arith))) refl

pub walked_blocks : (nr : ℕ) (marked bad : ℕ → Rule → Bool) → ((b : ℕ) (wanted : Rule) → b < nr → marked b wanted ≡ bad b wanted)
    → flat_map (λ b. faults_at b (marked b)) (range_with_len 0 nr) ≡ block_faults nr bad
unfolding block_faults
walked_blocks nr marked bad same =
    flat_map-same _ _ 0 nr (λ b within. faults_at-same b (marked b) (bad b) (λ wanted. same b wanted (omega arith)))

-- the audit of a walk
pub walked_report : (held : Option (List (List ℕ))) (graph : Graph) (count : ℕ) (audit : Audit) (report : Reported) → count ≡ graph.nr
    → IfSome held (λ image. IsWalked graph image audit)
    → report ≡ report_of (flat_map (λ b. faults_at b (has_rule_at audit b)) (range_with_len 0 count))
    → IfSome held (λ image. report ≡ report_of (block_faults graph.nr (walk_bad graph image)))
walked_report None graph count audit report number walked same = tt
walked_report (Some image) graph count audit report number walked same =
    (rw number at same)
    ∙ ap (λ (list : List Fault). report_of list) (walked_blocks graph.nr (has_rule_at audit) (walk_bad graph image) (λ b wanted within. walked.rules b wanted within))

-- the audit after settling
pub settled_report : (held : Option (List (List ℕ))) (graph : Graph) (count : ℕ) (first audit : Audit) (report : Reported) → count ≡ graph.nr
    → IfSome held (λ image. IsWalked graph image first → IsSettled graph image audit)
    → report ≡ report_of (flat_map (λ b. faults_at b (has_rule_at audit b)) (range_with_len 0 count))
    → IfSome held (λ image. IsWalked graph image first → report ≡ report_of (block_faults graph.nr (order_bad graph image)))
settled_report None graph count first audit report number settled same = tt
settled_report (Some image) graph count first audit report number settled same = λ walked.
    (rw number at same)
    ∙ ap (λ (list : List Fault). report_of list) (walked_blocks graph.nr (has_rule_at audit) (order_bad graph image) (λ b wanted within. (settled walked).rules b wanted within))

pub none_listed : (list : List Fault) → length list ≡ 0 → list ≡ []
none_listed [] e = refl
none_listed (x ∷ xs) e = absurd (omega arith)

-- where a report is empty, no block has a rule
pub none_reported : (nr count : ℕ) (audit : Audit) (report : Reported) → count ≡ nr
    → report ≡ report_of (flat_map (λ b. faults_at b (has_rule_at audit b)) (range_with_len 0 count)) → report.total ≡ 0
    → (b : ℕ) (rule : Rule) → b < nr → has_rule_at audit b rule ≡ false
unfolding block_faults
none_reported nr count audit report number same none b rule within =
    let list = flat_map (λ c. faults_at c (has_rule_at audit c)) (range_with_len 0 nr) in
    let told : report ≡ report_of list = rw number at same in
    let empty : length list ≡ 0 = sym (ap (λ (r : Reported). r.total) told) ∙ none in
    no_block_broken nr (has_rule_at audit) (none_listed list empty) b within rule

-- the report of the walk is that of the check where the walk found a fault, or the check goes no further
kept_first : (goes : Bool) (first second : List Fault) → (goes && nat_eq (length first) 0) ≡ false → cond (goes && not (nat_lt 0 (length first))) second first ≡ first
kept_first false first second e = refl
kept_first true [] second e = absurd (both_ways true e refl)
kept_first true (x ∷ xs) second e = rw (lt-ltb 0 (suc (length xs)) (omega arith)) refl

pub first_reported : (held : Option (List (List ℕ))) (graph : Graph) (until : Stage) (report : Reported) → (goes_past_walk until && nat_eq report.total 0) ≡ false
    → IfSome held (λ image. report ≡ report_of (block_faults graph.nr (walk_bad graph image)))
    → IfSome held (λ image. report ≡ report_of (past_faults until graph image))
first_reported None graph until report e walked = tt
first_reported (Some image) graph until report e walked =
    let first = block_faults graph.nr (walk_bad graph image) in
    let total = ap (λ (r : Reported). r.total) walked in
    walked ∙ ap (λ (list : List Fault). report_of list)
    (sym (kept_first (goes_past_walk until) first (block_faults graph.nr (order_bad graph image)) (ap (λ (n : ℕ). goes_past_walk until && nat_eq n 0) (sym total) ∙ e)))

-- and else that of settling
second_of : (goes : Bool) (first second : List Fault) → goes ≡ true → length first ≡ 0 → cond (goes && not (nat_lt 0 (length first))) second first ≡ second
second_of true [] second e none = refl
second_of true (x ∷ xs) second e none = absurd (omega arith)
second_of false first second e none = absurd (both_ways false refl e)

pub second_reported : (held : Option (List (List ℕ))) (graph : Graph) (until : Stage) (audit : Audit) (report found : Reported) → goes_past_walk until ≡ true → report.total ≡ 0
    → IfSome held (λ image. IsWalked graph image audit)
    → IfSome held (λ image. report ≡ report_of (block_faults graph.nr (walk_bad graph image)))
    → IfSome held (λ image. IsWalked graph image audit → found ≡ report_of (block_faults graph.nr (order_bad graph image)))
    → IfSome held (λ image. found ≡ report_of (past_faults until graph image))
second_reported None graph until audit report found goes none walked same settled = tt
second_reported (Some image) graph until audit report found goes none walked same settled =
    let total = ap (λ (r : Reported). r.total) same in
    settled walked ∙ ap (λ (list : List Fault). report_of list)
    (sym (second_of (goes_past_walk until) (block_faults graph.nr (walk_bad graph image)) (block_faults graph.nr (order_bad graph image)) goes (sym total ∙ none)))

-- The report of the stage Whole, after that of the order of the trees.
use Rattle.std.proofs.Common.{◌≡◌, ℕ, Bool, true, false, cond, nat_lt, List, [], ◌∷◌, ◌++◌, length, refl, ap, ◌∙◌, ◌+◌, ◌*◌, ◌<◌, ◌≤◌, ◌||◌, ◌&&◌, nat_eq, Option, IfSome, IfOk, Result, Ok, Err, sym, subst, arith}
use Rattle.std.specs.List.{flat_map, range_with_len}
use Rattle.std.proofs.lemmas.Bool.{both_ways, lt-ltb}
use Rattle.std.proofs.lemmas.Option.{IfSome_then}
use Rattle.pd_kinds.specs.declared.kind.Kind.{Kind}
use Rattle.pd_kinds.specs.declared.kind.Stage.{Stage}
use Rattle.pd_kinds.specs.declared.rule.Fault.{Fault}
use Rattle.pd_kinds.specs.Stages.{Checked, checked_of, faults, first_failing, stage_faults, stages_to, block_faults, count_faults}
use Rattle.pd_kinds.specs.Whole.{whole_bad, WholeTest}
use Rattle.pd_kinds.proofs.SuperStage.{chosen}
use Rattle.pd_kinds.specs.declared.kind.Stage.TheVariants.{Order, Whole, Counts}
use Rattle.pd_kinds.specs.declared.rule.Rule.{Rule}
use Rattle.pd_kinds.specs.Rule.{faults_at, Reported, report_of}
use Rattle.pd_kinds.specs.declared.report.CheckFault.{CheckFault}
use Rattle.pd_kinds.specs.declared.report.Report.{Report}
use Rattle.pd_kinds.specs.Graph.{Graph, is_reached, nodes}
use Rattle.pd_kinds.specs.Lawful.{IsLawful}
use Rattle.pd_kinds.proofs.ResultLemmas.{if_any, if_both}
use Rattle.pd_kinds.specs.declared.kind.Stage.TheVariants as stages
use Rattle.pd_graph.specs.declared.audit.Audit.{Audit}
use Rattle.pd_graph.specs.Audit.{blocks_of, has_rule_at}
use Rattle.pd_graph.specs.Walk.{IsWalked}
use Rattle.pd_settle.specs.Settled.{IsSettled, KeepsMet}
use Rattle.pd_check.specs.Known.{Charges, IsWellSettled, IsKnown}
use Rattle.pd_check.specs.Check.{super_bad_of, graph_of_super, IsFirstBlock, goes_past_walk, past_faults, ClaimsFew, count_reads, IsOrdered, IsWhole}
use Rattle.pd_check.proofs.CheckLemmas.{first_at, same_graph, past_report, walked_blocks, none_listed, none_reported}

-- The faults of the stage Whole, behind those of the stages before it.

-- a list that was chosen is chosen again
chosen_again : (some : Bool) (first second third : List Fault) → some ≡ nat_lt 0 (length first)
    → cond some first (cond (nat_lt 0 (length second)) second third) ≡ cond (nat_lt 0 (length (cond some first second))) (cond some first second) third
chosen_again true first second third is = ap (λ (b : Bool). cond b first third) is
chosen_again false first second third is = refl

-- the first of more stages that fails
first_failing-append : (checked : Checked) (image : List (List ℕ)) (xs ys : List Stage)
    → first_failing checked image (xs ++ ys) ≡ cond (nat_lt 0 (length (first_failing checked image xs))) (first_failing checked image xs) (first_failing checked image ys)
unfolding first_failing
first_failing-append checked image [] ys = refl
first_failing-append checked image (x ∷ xs) ys =
    ap (λ (rest : List Fault). cond (nat_lt 0 (length (stage_faults checked image x))) (stage_faults checked image x) rest) (first_failing-append checked image xs ys)
    ∙ chosen_again (nat_lt 0 (length (stage_faults checked image x))) (stage_faults checked image x) (first_failing checked image xs) (first_failing checked image ys) refl

-- the faults up to the stage Whole
pub up_to_whole : (kind : Kind) (image : List (List ℕ))
    → faults kind stages.Whole image
    ≡ cond (nat_lt 0 (length (faults kind stages.Order image))) (faults kind stages.Order image) (block_faults (checked_of kind image).graph.nr (whole_bad (checked_of kind image).whole))
unfolding faults first_failing
up_to_whole kind image =
    let checked = checked_of kind image in
    first_failing-append checked image (stages_to stages.Order) (stages.Whole ∷ [])
    ∙ ap (λ (last : List Fault). cond (nat_lt 0 (length (faults kind stages.Order image))) (faults kind stages.Order image) last)
    (chosen (block_faults checked.graph.nr (whole_bad checked.whole)))

-- the faults up to the stage Counts
pub up_to_counts : (kind : Kind) (image : List (List ℕ))
    → faults kind stages.Counts image ≡ cond (nat_lt 0 (length (faults kind stages.Whole image))) (faults kind stages.Whole image) (count_faults (checked_of kind image) image)
unfolding faults first_failing
up_to_counts kind image =
    let checked = checked_of kind image in
    first_failing-append checked image (stages_to stages.Whole) (stages.Counts ∷ [])
    ∙ ap (λ (last : List Fault). cond (nat_lt 0 (length (faults kind stages.Whole image))) (faults kind stages.Whole image) last)
    (chosen (count_faults checked image))

-- settling without a rule that it marks, after a walk without a rule
pub well_settled : (held : Option (List (List ℕ))) (graph : Graph) (first audit : Audit) (count : ℕ) (report : Reported) → count ≡ graph.nr
    → ((b : ℕ) (rule : Rule) → b < graph.nr → has_rule_at first b rule ≡ false) → KeepsMet first audit
    → IfSome held (λ image. IsWalked graph image first → IsSettled graph image audit)
    → report ≡ report_of (flat_map (λ b. faults_at b (has_rule_at audit b)) (range_with_len 0 count))
    → IfSome held (λ image. IsWalked graph image first → report.total ≡ 0 → IsWellSettled graph image audit)
well_settled held graph first audit count report number sound met settled told =
    IfSome_then held settled (λ image is walked none.
    let marks = is walked in
    record {
      roles = λ b role within small. rw (met.roles b) (walked.roles b role within small);
      counts = λ b within. met.counts b ∙ walked.counts b within;
      walked = λ b wanted within. sym (walked.rules b wanted within) ∙ sound b wanted within;
      in_order = λ b wanted within. sym (marks.rules b wanted within) ∙ none_reported graph.nr count audit report number told none b wanted within;
      settled = marks;
    })

-- where the trees weren't looked at, or the walk found a fault
pub not_settled : (P : List (List ℕ) → Type 0) (held : Option (List (List ℕ))) (until : Stage) (report : Reported) → (goes_past_walk until && nat_eq report.total 0) ≡ false
    → IfSome held (λ image. goes_past_walk until ≡ true → report.total ≡ 0 → P image)
not_settled P held until report either =
    if_any held (λ image goes none. absurd (both_ways (goes_past_walk until && nat_eq report.total 0) either (rw (goes, none) refl)))

-- the report of the marks of the whole image
charged : (nr : ℕ) (tests : List WholeTest) (old new : Audit) (b : ℕ) (wanted : Rule) → Charges tests old new → b < blocks_of old → has_rule_at old b wanted ≡ false
    → has_rule_at new b wanted ≡ whole_bad tests b wanted
charged nr tests old new b wanted charges within none = charges.rules b wanted within ∙ ap (λ (x : Bool). x || whole_bad tests b wanted) none

pub charged_report : (Seen : List (List ℕ) → Type 0) (held : Option (List (List ℕ))) (kind : Kind) (first : List ℕ) (old new : Audit) (count : ℕ) (report : Reported)
    → count ≡ (graph_of_super kind first).nr → blocks_of old ≡ (graph_of_super kind first).nr
    → ((b : ℕ) (rule : Rule) → b < (graph_of_super kind first).nr → has_rule_at old b rule ≡ false)
    → IfSome held (λ image. IsOrdered kind first image old → Seen image → Charges (checked_of kind image).whole old new)
    → report ≡ report_of (flat_map (λ b. faults_at b (has_rule_at new b)) (range_with_len 0 count))
    → IfSome held (λ image. IsOrdered kind first image old → Seen image
    → report ≡ report_of (block_faults (graph_of_super kind first).nr (whole_bad (checked_of kind image).whole)))
charged_report Seen held kind first old new count report number blocks none charges told =
    IfSome_then held charges (λ image leads ordered seen.
    let graph = graph_of_super kind first in
    (rw number at told)
    ∙ ap (λ (list : List Fault). report_of list)
    (walked_blocks graph.nr (has_rule_at new) (whole_bad (checked_of kind image).whole)
    (λ b wanted within. charged graph.nr (checked_of kind image).whole old new b wanted (leads ordered seen) (omega arith) (none b wanted within))))

-- what follows from what a watcher saw, where it saw it
pub shown : (Seen Known P : List (List ℕ) → Type 0) (held later : Option (List (List ℕ))) → later ≡ held → IfSome held Seen
    → IfSome later (λ image. Known image → Seen image → P image) → IfSome later (λ image. Known image → P image)
shown Seen Known P held later stays seen leads = if_both later (λ image is then known. then known is) (subst (λ (o : Option (List (List ℕ))). IfSome o Seen) (sym stays) seen) leads

-- what the first of two watchers saw of a walk in a format
pub first_seen : (A B : Graph → List (List ℕ) → (ℕ → Bool) → Type 0) (held : Option (List (List ℕ))) (graph super : Graph) → graph ≡ super
    → IfSome held (λ image. A graph image (is_reached graph image) × B graph image (is_reached graph image)) → IfSome held (λ image. A super image (is_reached super image))
first_seen A B held graph super same seen = subst (λ (g : Graph). IfSome held (λ image. A g image (is_reached g image))) same (IfSome_then held seen (λ image both. both.0))

-- a fault up to the order of the trees is all that is reported
chosen_where : (some : Bool) (first second : List Fault) → some ≡ nat_lt 0 (length first) → (length first ≡ 0 → ⊥) → cond some first second ≡ first
chosen_where true first second is found = refl
chosen_where false first second is found = absurd (both_ways (nat_lt 0 (length first)) (sym is) (lt-ltb 0 (length first) (omega arith)))

module _ (held : Option (List (List ℕ))) (kind : Kind) (blocks : ℕ) (first : List ℕ) (graph : Graph) (report : Report) (audit : Audit)
    (found : IfSome held (IsFirstBlock blocks first)) (sound : (rule : Rule) → super_bad_of kind blocks first rule ≡ false) (same : graph ≡ graph_of_super kind first)
    (told : IfSome held (λ image. report ≡ report_of (past_faults Order graph image))) where
  -- the report is that of the check up to the order
  up_to_order : IfSome held (λ image. report ≡ report_of (faults kind Order image))
  up_to_order = past_report held kind blocks first found sound graph same Order (Ok report) (λ e. cc) (λ e. cc) (λ e. cc) told

  -- which is that of the check where it has a fault
  pub whole_first : (report.total ≡ 0 → ⊥) → IfSome held (λ image. report ≡ report_of (faults kind Whole image))
  whole_first some =
      IfSome_then held up_to_order (λ image is.
      let total = ap (λ (r : Reported). r.total) is in
      is ∙ ap (λ (list : List Fault). report_of list)
      (sym (up_to_whole kind image ∙ chosen_where (nat_lt 0 (length (faults kind Order image))) (faults kind Order image) _ refl (λ none. some (total ∙ none)))))

  -- and where there is none, an audit of the walk and of settling knows the image
  module _ (none : report.total ≡ 0) (lawful : IsLawful graph) (number : blocks_of audit ≡ graph.nr)
      (known : (graph : Graph) (image : List (List ℕ)) (audit : Audit) → IsLawful graph → blocks_of audit ≡ graph.nr → IsWellSettled graph image audit → IsKnown graph image audit)
      (settled : IfSome held (λ image. goes_past_walk Order ≡ true → report.total ≡ 0 → IsWellSettled graph image audit)) where
    all_told : IfSome held (λ image. (report ≡ report_of (faults kind Order image)) × IsKnown (graph_of_super kind first) image audit)
    all_told =
        if_both held (λ image is leads. (is, subst (λ (g : Graph). IsKnown g image audit) same (known graph image audit lawful number (leads refl none)))) up_to_order settled

    pub in_order : IfSome held (λ image. IsOrdered kind first image audit)
    in_order =
        if_both held (λ image here both. record {
          first_block = first_at blocks first image here;
          none = none_listed (faults kind Order image) (sym (ap (λ (r : Reported). r.total) both.0) ∙ none);
          known = both.1;
        }) found all_told

    pub is_settled : IfSome held (λ image. IsWellSettled (graph_of_super kind first) image audit)
    is_settled = subst (λ (g : Graph). IfSome held (λ image. IsWellSettled g image audit)) same (IfSome_then held settled (λ image leads. leads refl none))

    -- then the report is that of the whole image
    pub whole_second : (later : Option (List (List ℕ))) (found : Reported) → later ≡ held
        → IfSome later (λ image. IsOrdered kind first image audit → found ≡ report_of (block_faults (graph_of_super kind first).nr (whole_bad (checked_of kind image).whole)))
        → IfSome held (λ image. found ≡ report_of (faults kind Whole image))
    whole_second later found stays is =
        if_both held (λ image ordered leads.
        let same_nr : (checked_of kind image).graph ≡ graph_of_super kind first = same_graph kind image ∙ ap (graph_of_super kind) ordered.first_block in
        leads ordered ∙ ap (λ (list : List Fault). report_of list)
        (sym (up_to_whole kind image ∙ rw (ordered.none, same_nr) refl))) in_order
        (subst (λ (o : Option (List (List ℕ))). IfSome o (λ image. IsOrdered kind first image audit
        → found ≡ report_of (block_faults (graph_of_super kind first).nr (whole_bad (checked_of kind image).whole)))) stays is)

    -- and the reads of both add up
    pub whole_reads : (later : Option (List (List ℕ))) (a b c : ℕ) → later ≡ held
        → IfSome held (λ image. b ≤ a + 3 * length (nodes graph image))
        → IfSome later (λ image. IsOrdered kind first image audit → c ≤ b + 2 * length (nodes (graph_of_super kind first) image))
        → IfSome held (λ image. c ≤ a + 5 * length (nodes (graph_of_super kind first) image))
    whole_reads later a b c stays before after =
        let number = λ (image : List (List ℕ)). length (nodes (graph_of_super kind first) image) in
        let first_reads : IfSome held (λ image. b ≤ a + 3 * number image) =
        subst (λ (g : Graph). IfSome held (λ image. b ≤ a + 3 * length (nodes g image))) same before in
        let last_reads : IfSome held (λ image. IsOrdered kind first image audit → c ≤ b + 2 * number image) =
        subst (λ (o : Option (List (List ℕ))). IfSome o (λ image. IsOrdered kind first image audit → c ≤ b + 2 * number image)) stays after in
        let both : IfSome held (λ image. (b ≤ a + 3 * number image) × (IsOrdered kind first image audit → c ≤ b + 2 * number image)) =
        if_both held (λ image most leads. (most, leads)) first_reads last_reads in
        if_both held (λ image ordered reads. let most = reads.0 in let more = reads.1 ordered in omega arith) in_order both

-- the marks of settling, after those of a walk
pub settled_from : (P : List (List ℕ) → Type 0) (held later : Option (List (List ℕ))) (until : Stage) (graph : Graph) (audit : Audit) (report : Reported) → later ≡ held
    → IfSome held (λ image. IsWalked graph image audit) → IfSome later (λ image. IsWalked graph image audit → report.total ≡ 0 → P image)
    → IfSome held (λ image. goes_past_walk until ≡ true → report.total ≡ 0 → P image)
settled_from P held later until graph audit report stays walked leads =
    if_both held (λ image is then goes none. then is none) walked
    (subst (λ (o : Option (List (List ℕ))). IfSome o (λ image. IsWalked graph image audit → report.total ≡ 0 → P image)) stays leads)

-- a report with faults up to the stage Whole is that of the check up to the stage Counts
told_first : (kind : Kind) (image : List (List ℕ)) (report : Reported) → (report.total ≡ 0 → ⊥) → report ≡ report_of (faults kind Whole image) → report ≡ report_of (faults kind Counts image)
told_first kind image report some is =
    let total = ap (λ (r : Reported). r.total) is in
    is ∙ ap (λ (list : List Fault). report_of list)
    (sym (up_to_counts kind image ∙ chosen_where (nat_lt 0 (length (faults kind Whole image))) (faults kind Whole image) _ refl (λ none. some (total ∙ none))))

pub counts_first : (held : Option (List (List ℕ))) (kind : Kind) (report : Reported) → (report.total ≡ 0 → ⊥)
    → IfSome held (λ image. report ≡ report_of (faults kind Whole image)) → IfSome held (λ image. report ≡ report_of (faults kind Counts image))
counts_first held kind report some told = IfSome_then held told (λ image is. told_first kind image report some is)

-- and so is one where the superblock claims too many data blocks: it has faults
pub counts_claimed : (held : Option (List (List ℕ))) (kind : Kind) (first : List ℕ) (audit : Audit) (report : Reported) → (ClaimsFew kind first → ⊥)
    → ((kind : Kind) (first : List ℕ) (image : List (List ℕ)) (audit : Audit) → IsWhole kind first image audit → ClaimsFew kind first)
    → IfSome held (λ image. report.total ≡ 0 → IsWhole kind first image audit)
    → IfSome held (λ image. report ≡ report_of (faults kind Whole image)) → IfSome held (λ image. report ≡ report_of (faults kind Counts image))
counts_claimed held kind first audit report many few known told =
    if_both held (λ image knows is. told_first kind image report (λ none. many (few kind first image audit (knows none))) is) known told

-- and where there are none, it is that of the counts
pub counts_second : (Seen : List (List ℕ) → Type 0) (held later : Option (List (List ℕ))) (kind : Kind) (first : List ℕ) (audit : Audit) (report : Reported) (result : Result Report CheckFault) → later ≡ held → report.total ≡ 0
    → IfSome held Seen
    → IfSome held (λ image. report.total ≡ 0 → IsWhole kind first image audit)
    → IfOk result (λ found. IfSome later (λ image. IsWhole kind first image audit → Seen image → found ≡ report_of (count_faults (checked_of kind image) image)))
    → IfOk result (λ found. IfSome held (λ image. found ≡ report_of (faults kind Counts image)))
counts_second Seen held later kind first audit report (Err fault) stays none seen known told = tt
counts_second Seen held later kind first audit report (Ok found) stays none seen known told =
    if_both held (λ image knows leads.
    let whole = knows none in
    leads whole ∙ ap (λ (list : List Fault). report_of list) (sym (up_to_counts kind image ∙ rw whole.none refl)))
    known
    (subst (λ (o : Option (List (List ℕ))). IfSome o (λ image. IsWhole kind first image audit → found ≡ report_of (count_faults (checked_of kind image) image))) stays
    (shown Seen (λ image. IsWhole kind first image audit) (λ image. found ≡ report_of (count_faults (checked_of kind image) image)) held later stays seen told))

-- an audit that knew the image before the marks of the whole image knows it after them
pub whole_known : (held later : Option (List (List ℕ))) (kind : Kind) (first : List ℕ) (before audit : Audit) (found : Reported) → later ≡ held
    → IfSome held (λ image. IsOrdered kind first image before)
    → blocks_of before ≡ (graph_of_super kind first).nr
    → IfSome held (λ image. IsWellSettled (graph_of_super kind first) image before)
    → IfSome later (λ image. IsOrdered kind first image before → IsKnown (graph_of_super kind first) image audit)
    → IfSome held (λ image. found ≡ report_of (faults kind Whole image))
    → found ≡ report_of (flat_map (λ b. faults_at b (has_rule_at audit b)) (range_with_len 0 (blocks_of audit)))
    → blocks_of audit ≡ blocks_of before
    → IfSome held (λ image. found.total ≡ 0 → IsWhole kind first image audit)
whole_known held later kind first before audit found stays ordered number settled knows told reported same =
    let known = subst (λ (o : Option (List (List ℕ))). IfSome o (λ image. IsOrdered kind first image before → IsKnown (graph_of_super kind first) image audit)) stays knows in
    let pair_known = if_both {R = λ image. IsOrdered kind first image before × IsKnown (graph_of_super kind first) image audit} held (λ image is leads. (is, leads is)) ordered known in
    let pair_told = if_both {R = λ image. IsWellSettled (graph_of_super kind first) image before × (found ≡ report_of (faults kind Whole image))} held (λ image is sames. (is, sames)) settled told in
    if_both held (λ image knew tells none. record {
      first_block = knew.0.first_block;
      none = none_listed (faults kind Whole image) (sym (ap (λ (r : Reported). r.total) tells.1) ∙ none);
      known = knew.1;
      walked = record {
        roles = knew.1.roles;
        counts = knew.1.counts;
        rules = λ b wanted within.
            none_reported (graph_of_super kind first).nr (blocks_of audit) audit found (same ∙ number) reported none b wanted within ∙ sym (tells.0.walked b wanted within);
      };
    }) pair_known pair_told

-- and the reads of the stages before and of the counts add up
pub counts_reads : (held later : Option (List (List ℕ))) (kind : Kind) (first : List ℕ) (audit : Audit) (report : Reported) (a b c : ℕ) → later ≡ held → report.total ≡ 0
    → ((kind : Kind) (first : List ℕ) (image : List (List ℕ)) (audit : Audit) → IsWhole kind first image audit → count_reads kind first image ≤ length (nodes (graph_of_super kind first) image))
    → IfSome held (λ image. report.total ≡ 0 → IsWhole kind first image audit)
    → IfSome held (λ image. b ≤ a + 5 * length (nodes (graph_of_super kind first) image)) → IfSome later (λ image. c ≤ b + count_reads kind first image)
    → IfSome held (λ image. c ≤ a + 6 * length (nodes (graph_of_super kind first) image))
counts_reads held later kind first audit report a b c stays none few known before after =
    let least = IfSome_then held known (λ image knows. few kind first image audit (knows none)) in
    let more = subst (λ (o : Option (List (List ℕ))). IfSome o (λ image. c ≤ b + count_reads kind first image)) stays after in
    let last : IfSome held (λ image. c ≤ b + length (nodes (graph_of_super kind first) image)) = if_both held (λ image fewer some. omega (arith, fewer, some)) least more in
    if_both held (λ image most rest. omega (arith, most, rest)) before last

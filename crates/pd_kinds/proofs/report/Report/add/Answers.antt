use Rattle.std.proofs.Common.{◌≡◌, ℕ, ◌+◌, List, [], ◌∷◌, ◌++◌, length, take, refl, ap, sym, ◌∙◌, arith}
use Rattle.std.proofs.lemmas.List.{length-append}
use Rattle.pd_kinds.specs.declared.rule.Fault.{Fault}
use Rattle.pd_kinds.specs.Rule.{Reported, is_leak, report_of, with_fault}
use Rattle.pd_kinds.proofs.ReportLemmas.{count_more, kept_below, kept_full, front_of_front}
use Rattle.pd_kinds.proofs.report.Report.add.Goals as goal
use Rattle.pd_kinds.proofs.report.Report.add.Goals.{then-self-lt-KEPT_FAULTS, else-self-lt-KEPT_FAULTS}

abbrev counted : List Fault → ℕ → ℕ → Reported
counted faults total leaks = record { faults = faults; total = total; leaks = leaks }

pub returns-clause-kept : goal.returns-clause-kept
returns-clause-kept c =
    rw (← c.self.view_is) (elim c.if-self-lt-KEPT_FAULTS.branch [
      | then-self-lt-KEPT_FAULTS w ↦
          let e = kept_below 1000 c.self.inside.kept c.self.inside.faults c.args.fault c.self.invariant.1 w.if-self-lt-KEPT_FAULTS.true in
          rw w.self-inside-is (ap (λ (kept : List Fault). counted kept (c.self.inside.total + 1) c.leaks_with-self-inside.result) e
          ∙ ap (counted (take 1000 (take c.self.inside.kept c.self.inside.faults ++ c.args.fault ∷ [])) (c.self.inside.total + 1)) (rw w.self-inside-is at c.leaks_with-self-inside.ensures.leaks))
      | else-self-lt-KEPT_FAULTS w ↦
          let e = kept_full 1000 c.self.inside.kept c.self.inside.faults c.args.fault c.self.invariant.1 (omega arith) in
          rw w.self-inside-is (ap (λ (kept : List Fault). counted kept (c.self.inside.total + 1) c.leaks_with-self-inside.result) e
          ∙ ap (counted (take 1000 (take c.self.inside.kept c.self.inside.faults ++ c.args.fault ∷ [])) (c.self.inside.total + 1)) (rw w.self-inside-is at c.leaks_with-self-inside.ensures.leaks))
    ])

-- what a report keeps of the faults before and one more
report_of-append : (before : List Fault) (fault : Fault) → with_fault (report_of before) fault ≡ report_of (before ++ fault ∷ [])
report_of-append before fault =
    let faults = front_of_front 1000 before (fault ∷ []) in
    let total : length before + 1 ≡ length (before ++ fault ∷ []) = sym (length-append before (fault ∷ [])) in
    let leaks = sym (count_more is_leak before fault) in
    rw (faults, total, leaks) refl

pub returns-clause-first : goal.returns-clause-first
returns-clause-first c = λ before was. returns-clause-kept c ∙ (rw was (report_of-append before c.args.fault))

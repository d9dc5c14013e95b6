-- How steps of a comparison join.
use Rattle.std.proofs.Common.{◌≡◌, ℕ, zero, suc, ◌+◌, ◌-◌, ◌<◌, ◌≤◌, List, [], ◌++◌, length, take, Option, Some, IfSome, ap, sym, ◌∙◌, refl, subst, arith, append_assoc, append-nil, inl, inr, Result, Ok, Err, cond, nat_lt, Bool, false}
use Rattle.std.specs.Result.{OnOk, OnErr}
use Rattle.std.specs.List.{flat_map, range_with_len}
use Rattle.std.proofs.lemmas.Grind.{flat_map-append}
use Rattle.std.proofs.lemmas.List.{take-append-le, take_all}
use Rattle.std.proofs.lemmas.Bool.{cases_lt, le-ltb, lt-ltb}
use Rattle.std.proofs.Math.Seq.{take-append-add, take-length}
use Rattle.pd_kinds.specs.declared.rule.Fault.{Fault}
use Rattle.pd_kinds.specs.declared.rule.Space.{Space}
use Rattle.pd_kinds.specs.Stages.{count_fault}
use Rattle.pd_kinds.specs.Rule.{Reported, report_of}
use Rattle.pd_kinds.specs.Objects.{DeviceState}
use Rattle.pd_kinds.proofs.NumberLemmas.{range_split}
use Rattle.pd_kinds.proofs.ResultLemmas.{if_all, if_maps, if_then}
use Rattle.pd_value.specs.declared.space_map.Count.{Count}
use Rattle.pd_image.specs.Device.{IsAttached, OnlyReads}
use Rattle.pd_smap.specs.Steps.{IsAhead, stored_by, faults_from, Adds, AddsFront, ComparisonState, Compared, ComparesImage, FindsFront, ComparesRange, Stopped}
use Rattle.pd_smap.proofs.OverflowLeftLemmas.{ahead_later}

-- the faults of some blocks, and then of more
pub faults_split : (space : Space) (refs : ℕ → ℕ) (stored : ℕ → Option ℕ) (low m n : ℕ)
    → faults_from space refs stored low (m + n) ≡ faults_from space refs stored low m ++ faults_from space refs stored (low + m) n
unfolding faults_from
faults_split space refs stored low m n =
    ap (flat_map (λ b. count_fault space b (refs b) (stored b))) (range_split low m n)
    ∙ flat_map-append (λ b. count_fault space b (refs b) (stored b)) (range_with_len low m) (range_with_len (low + m) n)

-- those of one block
pub faults_one : (space : Space) (refs : ℕ → ℕ) (stored : ℕ → Option ℕ) (b : ℕ)
    → faults_from space refs stored b 1 ≡ count_fault space b (refs b) (stored b)
unfolding faults_from
faults_one space refs stored b = append-nil (count_fault space b (refs b) (stored b))

-- those of blocks of which the same is stored
pub faults_same : (space : Space) (refs : ℕ → ℕ) (one other : ℕ → Option ℕ) (low len : ℕ) → ((b : ℕ) → low ≤ b → b < low + len → one b ≡ other b)
    → faults_from space refs one low len ≡ faults_from space refs other low len
unfolding faults_from
faults_same space refs one other low zero same = refl
faults_same space refs one other low (suc len) same =
    ap (λ s. count_fault space low (refs low) s ++ faults_from space refs one (low + 1) len) (same low (omega arith) (omega arith))
    ∙ ap (λ (fs : List Fault). count_fault space low (refs low) (other low) ++ fs) (faults_same space refs one other (low + 1) len (λ b from below. same b (omega arith) (omega arith)))

-- faults that were added, one list after another
adds_then : (fs gs : List Fault) (a b c : Reported) → Adds fs a b → Adds gs b c → Adds (fs ++ gs) a c
adds_then fs gs a b c first next before is =
    next (before ++ fs) (first before is) ∙ ap report_of (append_assoc before fs gs)

adds_front_then : (fs gs : List Fault) (a b c : Reported) → Adds fs a b → AddsFront gs b c → AddsFront (fs ++ gs) a c
adds_front_then fs gs a b c first next before is =
    let more = next (before ++ fs) (first before is) in
    (length fs + more.0, more.1 ∙ ap report_of (append_assoc before fs (take more.0 gs) ∙ ap (λ (xs : List Fault). before ++ xs) (sym (take-append-add fs gs more.0))))

-- a front of a list is one of what begins with it
front_more : (fs gs : List Fault) (n : ℕ) → (m : ℕ) × (take m (fs ++ gs) ≡ take n fs)
front_more fs gs n = elim (cases_lt n (length fs)) [
  | inl short ↦ (n, take-append-le n fs gs (omega arith))
  | inr whole ↦ (length fs, take-append-le (length fs) fs gs (omega arith) ∙ take-length fs ∙ sym (take_all n fs whole))
]

adds_front_more : (fs gs : List Fault) (a b : Reported) → AddsFront fs a b → AddsFront (fs ++ gs) a b
adds_front_more fs gs a b front before is =
    let found = front before is in
    let more = front_more fs gs found.0 in
    (more.0, found.1 ∙ ap (λ (xs : List Fault). report_of (before ++ xs)) (sym more.1))

only_then : (a b c : DeviceState) → OnlyReads a b → OnlyReads b c → OnlyReads a c
only_then a b c first next = record {
  held = next.held ∙ first.held;
  access = next.access ∙ first.access;
  path = next.path ∙ first.path;
  blocks = next.blocks ∙ first.blocks;
  history = next.history ∙ first.history;
}

finds_then : (c : Compared) (image : List (List ℕ)) (low m n : ℕ) (s t u : ComparisonState) → ComparesImage c image low m s t → ComparesImage c image (low + m) n t u → ComparesImage c image low (m + n) s u
finds_then c image low m n s t u first next = record {
  reads = omega (arith, first.reads, next.reads);
  added = λ over ahead.
      subst (λ fs. Adds fs s.report u.report) (sym (faults_split c.space c.refs (λ b. stored_by (c.bits image b) (over b)) low m n))
      (adds_then _ _ s.report t.report u.report (first.added over ahead) (next.added over (first.ahead over ahead)));
  ahead = λ over ahead. let sum : low + m + n ≡ low + (m + n) = omega arith in subst (λ k. IsAhead k over (u.items image)) sum (next.ahead over (first.ahead over ahead));
}

-- a comparison goes on
pub went_then : (c : Compared) (low m n : ℕ) (s t u : ComparisonState) → ComparesRange c low m s t → ComparesRange c (low + m) n t u → ComparesRange c low (m + n) s u
went_then c low m n s t u first next = record {
  kept = only_then s.device t.device u.device first.kept next.kept;
  faults = next.faults ∙ first.faults;
  total = omega (arith, first.total, next.total);
  told = if_then s.device.held t.device.held _ _ _ first.kept.held (λ image. finds_then c image low m n s t u) first.told next.told;
}

-- and stops
front_then : (c : Compared) (image : List (List ℕ)) (low m n : ℕ) (s t u : ComparisonState) → ComparesImage c image low m s t → FindsFront c image (low + m) n t u → FindsFront c image low (m + n) s u
front_then c image low m n s t u first next = record {
  reads = omega (arith, first.reads, next.reads);
  added = λ over ahead.
      subst (λ fs. AddsFront fs s.report u.report) (sym (faults_split c.space c.refs (λ b. stored_by (c.bits image b) (over b)) low m n))
      (adds_front_then _ _ s.report t.report u.report (first.added over ahead) (next.added over (first.ahead over ahead)));
}

pub went_stopped : (c : Compared) (low m n : ℕ) (s t u : ComparisonState) → ComparesRange c low m s t → Stopped c (low + m) n t u → Stopped c low (m + n) s u
went_stopped c low m n s t u first next = record {
  kept = only_then s.device t.device u.device first.kept next.kept;
  rose = rw (← first.faults) next.rose;
  total = omega (arith, first.total, next.total);
  told = if_then s.device.held t.device.held _ _ _ first.kept.held (λ image. front_then c image low m n s t u) first.told next.told;
}

-- what stopped before more blocks were looked at
pub stopped_more : (c : Compared) (low m n : ℕ) (s t : ComparisonState) → Stopped c low m s t → Stopped c low (m + n) s t
stopped_more c low m n s t stopped = record {
  kept = stopped.kept;
  rose = stopped.rose;
  total = omega (arith, stopped.total);
  told = if_maps s.device.held _ _ (λ image front. record {
    reads = front.reads;
    added = λ over ahead.
        subst (λ fs. AddsFront fs s.report t.report) (sym (faults_split c.space c.refs (λ b. stored_by (c.bits image b) (over b)) low m n))
        (adds_front_more _ _ s.report t.report (front.added over ahead));
  }) stopped.told;
}

-- nothing was done
pub went_nowhere : (c : Compared) (low : ℕ) (s : ComparisonState) → ComparesRange c low 0 s s
unfolding faults_from
went_nowhere c low s = record {
  kept = record { held = refl; access = refl; path = refl; blocks = refl; history = refl };
  faults = refl;
  total = omega arith;
  told = if_all s.device.held _ (λ image. record {
    reads = omega arith;
    added = λ over ahead before is. is ∙ ap report_of (sym (append-nil before));
    ahead = λ over ahead. let same : low ≡ low + 0 = omega arith in subst (λ k. IsAhead k over (s.items image)) same ahead;
  });
}

-- a step from where another one ended
pub went_next : (c : Compared) (low m b n k : ℕ) (s t u : ComparisonState) → b ≡ low + m → k ≡ m + n → ComparesRange c low m s t → ComparesRange c b n t u → ComparesRange c low k s u
went_next c low m b n k s t u from sum first next =
    subst (λ i. ComparesRange c low i s u) (sym sum) (went_then c low m n s t u first (subst (λ i. ComparesRange c i n t u) from next))

pub stopped_next : (c : Compared) (low m b n k : ℕ) (s t u : ComparisonState) → b ≡ low + m → m + n ≤ k → ComparesRange c low m s t → Stopped c b n t u → Stopped c low k s u
stopped_next c low m b n k s t u from within first next =
    let sum : m + n + (k - (m + n)) ≡ k = omega arith in
    subst (λ i. Stopped c low i s u) sum
    (stopped_more c low (m + n) (k - (m + n)) s u (went_stopped c low m n s t u first (subst (λ i. Stopped c i n t u) from next)))

-- as many blocks, from the same one on
pub went_as : (c : Compared) (low other m n : ℕ) (s t : ComparisonState) → low ≡ other → m ≡ n → ComparesRange c low m s t → ComparesRange c other n s t
went_as c low other m n s t same many went = subst (λ i. ComparesRange c other i s t) many (subst (λ i. ComparesRange c i m s t) same went)

pub went_many : (c : Compared) (low m n : ℕ) (s t : ComparisonState) → m ≡ n → ComparesRange c low m s t → ComparesRange c low n s t
went_many c low m n s t many went = subst (λ i. ComparesRange c low i s t) many went

-- facts on both ends of a result
pub ok_maps : {T E : Type 0} → (result : Result T E) (P Q : Type 0) → (P → Q) → OnOk result P → OnOk result Q
ok_maps (Ok x) P Q f p = f p
ok_maps (Err e) P Q f p = tt

pub err_maps : {T E : Type 0} → (result : Result T E) (P Q : Type 0) → (P → Q) → OnErr result P → OnErr result Q
err_maps (Ok x) P Q f p = tt
err_maps (Err e) P Q f p = f p

-- a device that was only read is attached as before
pub still_attached : (a b : DeviceState) → OnlyReads a b → IsAttached a → IsAttached b
still_attached a b kept attached = (omega (arith, kept.access, attached.0), omega (arith, kept.access, attached.1))

-- the same over the same bits
pub went_bits : (space : Space) (refs : ℕ → ℕ) (one other : List (List ℕ) → ℕ → ℕ) (low len : ℕ) (s t : ComparisonState)
    → IfSome s.device.held (λ image. (b : ℕ) → low ≤ b → b < low + len → one image b ≡ other image b)
    → ComparesRange (record { space = space; refs = refs; bits = one }) low len s t → ComparesRange (record { space = space; refs = refs; bits = other }) low len s t
went_bits space refs one other low len s t same went = record {
  kept = went.kept;
  faults = went.faults;
  total = went.total;
  told = if_then s.device.held s.device.held _ _ _ refl (λ image is finds. record {
    reads = finds.reads;
    added = λ over ahead.
        subst (λ fs. Adds fs s.report t.report)
        (faults_same space refs (λ b. stored_by (one image b) (over b)) (λ b. stored_by (other image b) (over b)) low len (λ b from below. ap (λ n. stored_by n (over b)) (is b from below)))
        (finds.added over ahead);
    ahead = finds.ahead;
  }) same went.told;
}

pub stopped_bits : (space : Space) (refs : ℕ → ℕ) (one other : List (List ℕ) → ℕ → ℕ) (low len : ℕ) (s t : ComparisonState)
    → IfSome s.device.held (λ image. (b : ℕ) → low ≤ b → b < low + len → one image b ≡ other image b)
    → Stopped (record { space = space; refs = refs; bits = one }) low len s t → Stopped (record { space = space; refs = refs; bits = other }) low len s t
stopped_bits space refs one other low len s t same stopped = record {
  kept = stopped.kept;
  rose = stopped.rose;
  total = stopped.total;
  told = if_then s.device.held s.device.held _ _ _ refl (λ image is finds. record {
    reads = finds.reads;
    added = λ over ahead.
        subst (λ fs. AddsFront fs s.report t.report)
        (faults_same space refs (λ b. stored_by (one image b) (over b)) (λ b. stored_by (other image b) (over b)) low len (λ b from below. ap (λ n. stored_by n (over b)) (is b from below)))
        (finds.added over ahead);
  }) same stopped.told;
}

-- reads alone
pub went_reading : (c : Compared) (low : ℕ) (device after : DeviceState) (report : Reported) (items : List (List ℕ) → List (ℕ × Count)) (left rest : List (List ℕ) → ℕ)
    → OnlyReads device after → after.faults ≡ device.faults → IfSome device.held (λ image. after.reads + rest image ≤ device.reads + left image)
    → ComparesRange c low 0 (record { device = device; report = report; items = items; reads = left }) (record { device = after; report = report; items = items; reads = rest })
unfolding faults_from
went_reading c low device after report items left rest kept faults reads = record {
  kept = kept;
  faults = faults;
  total = omega arith;
  told = if_maps device.held _ _ (λ image fewer. record {
    reads = fewer;
    added = λ over ahead before is. is ∙ ap report_of (sym (append-nil before));
    ahead = λ over ahead. let same : low ≡ low + 0 = omega arith in subst (λ k. IsAhead k over (items image)) same ahead;
  }) reads;
}

-- what neither of two equal tests chooses
neither : {X : Type 0} → (t : Bool) (xs ys zs : List X) → t ≡ false → cond t xs (cond t ys zs) ≡ zs
neither t xs ys zs fails = ap (λ s. cond s xs (cond s ys zs)) fails

no_fault : (space : Space) (b refs : ℕ) → count_fault space b refs (Some refs) ≡ []
no_fault space b refs = neither (nat_lt refs refs) _ _ [] (le-ltb refs refs (omega arith))

-- where each stored count is that of the references, there are no faults
pub no_faults : (space : Space) (refs : ℕ → ℕ) (stored : ℕ → Option ℕ) (low len : ℕ) → ((b : ℕ) → low ≤ b → b < low + len → stored b ≡ Some (refs b))
    → faults_from space refs stored low len ≡ []
unfolding faults_from
no_faults space refs stored low zero same = refl
no_faults space refs stored low (suc len) same =
    ap (λ s. count_fault space low (refs low) s ++ faults_from space refs stored (low + 1) len) (same low (omega arith) (omega arith))
    ∙ ap (λ (fs : List Fault). fs ++ faults_from space refs stored (low + 1) len) (no_fault space low (refs low))
    ∙ no_faults space refs stored (low + 1) len (λ b from below. same b (omega arith) (omega arith))

-- what was seen to be equal needn't be looked at
pub went_equal : (space : Space) (refs : ℕ → ℕ) (bits : List (List ℕ) → ℕ → ℕ) (low len : ℕ) (s : ComparisonState)
    → ((image : List (List ℕ)) (b : ℕ) → low ≤ b → b < low + len → (bits image b ≡ refs b) × (refs b < 3))
    → ComparesRange (record { space = space; refs = refs; bits = bits }) low len s s
went_equal space refs bits low len s same = record {
  kept = record { held = refl; access = refl; path = refl; blocks = refl; history = refl };
  faults = refl;
  total = omega arith;
  told = if_all s.device.held _ (λ image. record {
    reads = omega arith;
    added = λ over ahead.
        subst (λ fs. Adds fs s.report s.report)
        (sym (no_faults space refs (λ b. stored_by (bits image b) (over b)) low len (λ b from below.
        let is = same image b from below in
        ap (λ n. stored_by n (over b)) is.0 ∙ ap (λ t. cond t (Some (refs b)) (over b)) (lt-ltb (refs b) 3 is.1))))
        (λ before is. is ∙ ap report_of (sym (append-nil before)));
    ahead = λ over ahead. ahead_later low (low + len) over (s.items image) (omega arith) ahead;
  });
}

-- the same with other numbers of reads that are left
pub went_reads : (c : Compared) (low len : ℕ) (s t : ComparisonState) (left rest : List (List ℕ) → ℕ)
    → ((image : List (List ℕ)) → s.reads image + rest image ≤ left image + t.reads image)
    → ComparesRange c low len s t → ComparesRange c low len (record s { reads = left }) (record t { reads = rest })
went_reads c low len s t left rest room went = record {
  kept = went.kept;
  faults = went.faults;
  total = went.total;
  told = if_maps s.device.held _ _ (λ image finds. record {
    reads = omega (arith, finds.reads, room image);
    added = finds.added;
    ahead = finds.ahead;
  }) went.told;
}

pub stopped_reads : (c : Compared) (low len : ℕ) (s t : ComparisonState) (left rest : List (List ℕ) → ℕ)
    → ((image : List (List ℕ)) → s.reads image ≤ left image)
    → Stopped c low len s t → Stopped c low len (record s { reads = left }) (record t { reads = rest })
stopped_reads c low len s t left rest room stopped = record {
  kept = stopped.kept;
  rose = stopped.rose;
  total = stopped.total;
  told = if_maps s.device.held _ _ (λ image front. record {
    reads = omega (arith, front.reads, room image);
    added = front.added;
  }) stopped.told;
}

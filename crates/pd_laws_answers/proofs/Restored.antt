-- What an answered restore comes to, of any kind whose texts have one verdict and whose laid images are clean.
use Rattle.std.proofs.Common.{◌≡◌, ◌⊎◌, inl, inr, ⊎_elim, ℕ, ◌≤◌, ◌<◌, Bool, List, length, Option, Some, None, IfSome, refl, ◌≢◌, nat_eq, [], ◌∷◌, arith, true, false, sym, subst, nat_lt, ◌++◌}
use Rattle.std.proofs.lemmas.Bool.{cases_lt, cases_Bool, eqb-false, eqb-true}
use Rattle.std.proofs.lemmas.Option.{IfSome_then}
use Rattle.pd_kinds.specs.Crash.{HoldsSynced, IsOldNoneOrMade, LeavesOnly, IsSynced, IsUntouched, LeavesNow, may_leave, moment}
use Rattle.pd_kinds.specs.Image.{room_of}
use Rattle.pd_kinds.proofs.CrashLemmas.{weaken, left_now, left_synced, stays}
use Rattle.pd_kinds.specs.declared.rule.Fault.{Fault}
use Rattle.pd_kinds.specs.Objects.{present_moment, DeviceState}
use Rattle.pd_kinds.specs.Meaning.{ThinPool, CacheMeaning, EraMeaning}
use Rattle.pd_kinds.specs.CacheFormat.{cache_fields}
use Rattle.pd_kinds.specs.Graph.{block_at}
use Rattle.pd_kinds.specs.declared.kind.Kind.{Kind}
use Rattle.pd_kinds.specs.declared.kind.Kind.TheVariants.{Thin}
use Rattle.pd_kinds.specs.declared.kind.Stage.{Stage}
use Rattle.pd_kinds.specs.Stages.{Checked, checked_of, faults, first_failing, stage_faults}
use Rattle.pd_kinds.specs.declared.kind.Stage.TheVariants as stages
use Rattle.pd_grammar.specs.Spelling.{Verdict, accepted, refused, no_room}
use Rattle.pd_grammar.specs.Lawful.{IsLawfulPool, IsLawfulCache, IsLawfulEra}
use Rattle.pd_grammar.specs.ThinText.{Line, SpellsPool, is_shared}
use Rattle.pd_grammar.specs.CacheText.{cache_need, IsCacheVerdict, SpellsCache}
use Rattle.pd_grammar.specs.EraText.{era_need, IsEraVerdict, SpellsEra}
use Rattle.pd_laid.specs.Laid.{Laid, IsLaid, Makes}
use Rattle.pd_laid.specs.Shape.{ThinShape, shape_of}
use Rattle.pd_laid.proofs.ShapeText.{is_shape, pool_kept}
use Rattle.pd_laid.specs.PoolText.{IsLawfulShape, MeansAs, SpellsPoolShape, IsPoolTextVerdict, shape_need}
use Rattle.pd_laid.specs.LaidThin.{laid_shape}
use Rattle.pd_laid.specs.LaidCache.{laid_cache}
use Rattle.pd_laid.specs.LaidEra.{laid_era}
use Rattle.pd_answers.specs.Terms.{Objects, NoFaults, IsAnswered}
use Rattle.pd_answers.specs.Restores.{restore_by}
use Rattle.pd_answers.specs.Outputs.{IsWorkDone}
use Rattle.pd_laws_laid.specs.Clean.{IsCleanPool, IsCleanCache, IsCleanEra}
use Rattle.pd_laws_answers.specs.Exact.{HoldsOfText, IsOfText, LeavesOfText, IsCleanShape, IsCleanCacheIn}

abbrev pub Image : Type 0
Image = List (List ℕ)

-- two facts of what is told
pub both_told : {X : Type 0} (o : Option X) (P Q : X → Type 0) → IfSome o P → IfSome o Q → IfSome o (λ x. P x × Q x)
both_told None P Q p q = tt
both_told (Some x) P Q p q = (p, q)

-- what holds where something is told
pub at_told : {X : Type 0} (o : Option X) (x : X) (P : X → Type 0) → o ≡ Some x → IfSome o P → P x
at_told o x P is all = rw is at all

-- What is known of a kind: each text has one verdict, an accepted one spells its meaning, one that has no room isn't
-- accepted, and what is laid is clean
pub record AreLaws {M : Type 0} (IsVerdictOn : List ℕ → ℕ → Verdict M → Type 0) (laid : M → ℕ → Laid) (Spells : List ℕ → M → Type 0)
    (need : M → ℕ → ℕ) (IsCleanOf : Image → M → Type 0) : Type 0 where
  pub one : (text : List ℕ) (room : ℕ) (v w : Verdict M) → IsVerdictOn text room v → IsVerdictOn text room w → v ≡ w
  pub spelled : (text : List ℕ) (room : ℕ) (m : M) → IsVerdictOn text room (accepted m) → Spells text m
  pub above : (text : List ℕ) (m : M) (room : ℕ) → Spells text m → room < need m room → (needed : ℕ) × IsVerdictOn text room (no_room needed room)
  pub clean : (text : List ℕ) (m : M) (base image : Image) → Spells text m → need m (room_of (length base)) ≤ room_of (length base)
      → IsLaid (laid m (room_of (length base))) base image → IsCleanOf image m

module _ {M : Type 0} (IsVerdictOn : List ℕ → ℕ → Verdict M → Type 0) (is_early : List ℕ → ℕ → Bool) (laid : M → ℕ → Laid)
    (Spells : List ℕ → M → Type 0) (need : M → ℕ → ℕ) (IsCleanOf : Image → M → Type 0) (laws : AreLaws IsVerdictOn laid Spells need IsCleanOf) where
  -- what is accepted has room
  has_room : (text : List ℕ) (m : M) (room : ℕ) → IsVerdictOn text room (accepted m) → need m room ≤ room
  has_room text m room is = elim (cases_lt room (need m room)) [
    | inr enough ↦ enough
    | inl less ↦
        let other = laws.above text m room (laws.spelled text room m is) less in
        absurd (apart (laws.one text room (accepted m) (no_room other.0 room) is other.1))
  ]
    where
      apart : {needed blocks : ℕ} → accepted m ≡ no_room needed blocks → ⊥
      apart e = cc

  -- what is made of a text is a clean image of what it spells
  pub made_of_text : (text : List ℕ) (base image : Image) (room : ℕ) (v : Verdict M) → IsVerdictOn text room v → room ≡ room_of (length base)
      → Makes laid room v base image → IsOfText Spells IsCleanOf text image
  made_of_text text base image room (accepted m) is same made =
      let enough = has_room text m room is in
      let spells = laws.spelled text room m is in
      record {
        meaning = m;
        spells = spells;
        clean = laws.clean text m base image spells (rw (← same) enough) (rw same at made);
      }
  made_of_text text base image room (refused why) is same made = absurd made
  made_of_text text base image room (no_room needed blocks) is same made = absurd made

  module _ (file path : List ℕ) (before after : Objects) where
    abbrev Answered : ℕ → Type 0
    Answered = IsAnswered (restore_by IsVerdictOn is_early laid file path) before after

    -- what the output holds at status 0
    pub holds_of_text : Answered 0 → HoldsOfText Spells IsCleanOf before after
    holds_of_text answered =
        let judged = answered.finding in
        IfSome_then before.source.left answered.found.1 (λ text right.
        IfSome_then before.output.held (both_told before.output.held (λ (base : Image). judged.room ≡ room_of (length base))
        (λ (base : Image). IfSome after.output.held (λ (image : Image). Makes laid judged.room judged.verdict base image × HoldsSynced image after.output))
        answered.found.0.told (answered.leaves.output.made.output.made refl)) (λ base told.
        IfSome_then after.output.held told.1 (λ image held.
        (made_of_text text base image judged.room judged.verdict right.0 told.0 held.0, held.1))))

    -- what a crash leaves
    pub leaves_of_text : (status : ℕ) → Answered status → LeavesOfText Spells IsCleanOf before after
    leaves_of_text status answered =
        let judged = answered.finding in
        IfSome_then before.source.left answered.found.1 (λ text right.
        IfSome_then before.output.held (both_told before.output.held (λ (base : Image). judged.room ≡ room_of (length base))
        (λ (base : Image). LeavesOnly (IsOldNoneOrMade base (Makes laid judged.room judged.verdict base)) before.output after.output)
        answered.found.0.told answered.leaves.output.made.output.crash) (λ base told.
        weaken told.1 (λ left firsts outcome chance.
        ⊎_elim (λ old. inl old) (λ other. inr (⊎_elim (λ none. inl none) (λ made. inr (made_of_text text base left judged.room judged.verdict right.0 told.0 made)) other)) (outcome chance))))

    -- a text of something for which there is room is restored
    pub dump_restored : (text : List ℕ) (m : M) (base : Image) → before.source.left ≡ Some text → before.output.held ≡ Some base → Spells text m
        → ((t : List ℕ) (n : M) (room : ℕ) → Spells t n → need n room ≤ room → IsVerdictOn t room (accepted n))
        → need m (room_of (length base)) ≤ room_of (length base)
        → (status : ℕ) → Answered status → NoFaults before after → (status ≡ 0) ⊎ (status ≡ 7)
    dump_restored text m base told held spells accepts enough status answered none =
        let judged = answered.finding in
        let right = at_told before.source.left text (λ (t : List ℕ). IsVerdictOn t judged.room judged.verdict × (judged.is_early ≡ is_early t judged.room)) told answered.found.1 in
        let room = at_told before.output.held base (λ (i : Image). judged.room ≡ room_of (length i)) held answered.found.0.told in
        let fits = accepts text m judged.room spells (rw room enough) in
        let is : judged.verdict ≡ accepted m = laws.one text judged.room judged.verdict (accepted m) right.0 fits in
        rw is at (answered.complete none)

-- no text spells two things: so what the output holds is a clean image of what the text spells
pub dump_same : {M : Type 0} (Spells : List ℕ → M → Type 0) (IsCleanOf : Image → M → Type 0) (before after : Objects) (text : List ℕ) (m : M) (base : Image)
    → before.source.left ≡ Some text → before.output.held ≡ Some base → Spells text m → ((t : List ℕ) (n o : M) → Spells t n → Spells t o → n ≡ o)
    → HoldsOfText Spells IsCleanOf before after → IfSome after.output.held (λ restored. IsCleanOf restored m)
dump_same Spells IsCleanOf before after text m base told held spells one_meaning holds =
    IfSome_then after.output.held (at_told before.output.held base (λ (i : Image). IfSome after.output.held (λ (now : Image). IsOfText Spells IsCleanOf text now × HoldsSynced now after.output)) held
    (at_told before.source.left text (λ (t : List ℕ). IfSome before.output.held (λ (i : Image). IfSome after.output.held (λ (now : Image). IsOfText Spells IsCleanOf t now × HoldsSynced now after.output))) told holds)) (λ restored is.
    rw (one_meaning text is.0.meaning m is.0.spells spells) at is.0.clean)

-- What a status and a count say, and what a crash leaves of a device that is as it was.

-- it is 0, or is not
pub zero_or_not : (n : ℕ) → (n ≡ 0) ⊎ (n ≢ 0)
zero_or_not n = elim (cases_Bool (nat_eq n 0)) [
  | inl zero_is ↦ inl (eqb-true n 0 zero_is)
  | inr other ↦ inr (λ same. let apart = eqb-false n 0 other in apart same)
]

-- the answer's status is 0 where `out` was touched, if it is spared under any other
pub given_once_done : (given status : ℕ) (before after : Objects) → (status ≤ 4 → status ≡ given) → (given ≢ 0 → after.out ≡ before.out) → IsWorkDone before after status → given ≡ 0
given_once_done given status before after sound spared (inl zero) = let same = sound (omega arith) in omega (arith, same, zero)
given_once_done given status before after sound spared (inr put) = elim (zero_or_not given) [ inl zero ↦ zero | inr some ↦ absurd (put (spared some)) ]

pub one_zero : (let one : ℕ = 1 in one ≡ 0) → ⊥
one_zero e = omega arith

pub four_zero : (let four : ℕ = 4 in four ≡ 0) → ⊥
four_zero e = omega arith

-- no list without elements but the empty one
pub none_counted : (list : List Fault) → length list ≡ 0 → list ≡ []
none_counted [] counted = refl
none_counted (fault ∷ list) counted = absurd (omega arith)

-- what holds where one is told
pub if_told : {X : Type 0} (a : Option X) {P : X → Type 0} → ((x : X) → a ≡ Some x → P x) → IfSome a P
if_told None each = tt
if_told (Some x) each = each x refl

-- what holds where two are told
pub two : {X : Type 0} (a b : Option X) (P : X → X → Type 0) → ((x y : X) → a ≡ Some x → b ≡ Some y → P x y) → IfSome a (λ x. IfSome b (P x))
two None b P each = tt
two (Some x) None P each = tt
two (Some x) (Some y) P each = each x y refl refl

-- what a crash leaves of a device of which nothing is unsynced
pub left_of_synced : (device : DeviceState) (held left firsts : Image) → HoldsSynced held device → may_leave device (moment device) left firsts → left ≡ held
left_of_synced device held left firsts is leaves = left_synced held left (present_moment held device.history) refl is.unsynced (left_now device held left firsts is.held leaves).0

-- of one that is as it was, and was synced
pub left_as_was : (device : DeviceState) (held left firsts : Image) → device.held ≡ Some held → IsSynced device → may_leave device (moment device) left firsts → left ≡ held
left_as_was device held left firsts told synced leaves = left_of_synced device held left firsts (at_told device.held held (λ (i : Image). HoldsSynced i device) told synced) leaves

pub left_untouched : (old new : DeviceState) (held : Image) → old.held ≡ Some held → IsSynced old → IsUntouched old new → LeavesNow (λ left firsts. left ≡ held) new
left_untouched old new held told synced same =
    (stays {old = old} {new = new} same.held same.history (λ left firsts leaves. left_as_was old held left firsts told synced leaves)).now

-- What a pool's text of either version spells: a lawful shape, of version 1 that of the pool that it spells.

lawful_as : (version : Bool) (lines : List Line) (w : ThinShape) → MeansAs version lines w → IsLawfulShape w
lawful_as true lines w m = record { shape = m.shape; pool = m.lawful }
lawful_as false lines w m =
    subst IsLawfulShape (sym m.shape_is) (record { shape = is_shape m.pool; pool = subst IsLawfulPool (sym (pool_kept m.pool)) m.means.lawful })

pub spelled_lawful : (text : List ℕ) (w : ThinShape) → SpellsPoolShape text w → IsLawfulShape w
spelled_lawful text w s = lawful_as (is_shared s.lines) s.lines w s.means

-- a clean image of the shape of a pool is one of the pool
pub unshared_clean : (image : List (List ℕ)) (m : ThinPool) → IsCleanShape image (shape_of m) → IsCleanPool image m
unshared_clean image m clean = subst (IsCleanPool image) (pool_kept m) clean.pool

-- so is what is made of a text that spells a pool
pub unshared_of_text : ((text : List ℕ) (w x : ThinShape) → SpellsPoolShape text w → SpellsPoolShape text x → w ≡ x)
    → (text : List ℕ) (m : ThinPool) (image : List (List ℕ)) → SpellsPool text m → SpellsPoolShape text (shape_of m)
    → IsOfText SpellsPoolShape IsCleanShape text image → IsOfText SpellsPool IsCleanPool text image
unshared_of_text one text m image pool shape is = record {
  meaning = m;
  spells = pool;
  clean = unshared_clean image m (subst (IsCleanShape image) (one text is.meaning (shape_of m) is.spells shape) is.clean);
}

-- What is known of the restores of each kind.

-- each text has one verdict
abbrev OneVerdict : {M : Type 0} → (List ℕ → ℕ → Verdict M → Type 0) → Type 0
OneVerdict {M} IsVerdictOn = (text : List ℕ) (room : ℕ) (v w : Verdict M) → IsVerdictOn text room v → IsVerdictOn text room w → v ≡ w

pub pool_laws : OneVerdict IsPoolTextVerdict
    → ((text : List ℕ) (w : ThinShape) (room : ℕ) → SpellsPoolShape text w → room < shape_need w room
    → (needed : ℕ) × (IsPoolTextVerdict text room (no_room needed room) × ((room < needed) × (needed ≤ shape_need w room))))
    → ((w : ThinShape) (base image : Image) → IsLawfulShape w → shape_need w (room_of (length base)) ≤ room_of (length base)
    → IsLaid (laid_shape w (room_of (length base))) base image → IsCleanShape image w)
    → AreLaws IsPoolTextVerdict laid_shape SpellsPoolShape shape_need IsCleanShape
pool_laws one above clean = record {
  one = one;
  spelled = λ text room w is. is.1;
  above = λ text w room spells less. let other = above text w room spells less in (other.0, other.1.0);
  clean = λ text w base image spells. clean w base image (spelled_lawful text w spells);
}

module _ (version : ℕ) (asked : (version ≡ 1) ⊎ (version ≡ 2)) where
  pub cache_laws : OneVerdict (IsCacheVerdict version)
      → ((text : List ℕ) (m : CacheMeaning) (room : ℕ) → SpellsCache text m → room < cache_need version m room → IsCacheVerdict version text room (no_room (cache_need version m room) room))
      → ((m : CacheMeaning) (in_version : ℕ) (base image : Image) → IsLawfulCache m → (in_version ≡ 1) ⊎ (in_version ≡ 2) → cache_need in_version m (room_of (length base)) ≤ room_of (length base)
      → IsLaid (laid_cache m in_version (room_of (length base))) base image → IsCleanCache image m)
      → ((m : CacheMeaning) (in_version : ℕ) (base image : Image) → IsLawfulCache m → (in_version ≡ 1) ⊎ (in_version ≡ 2) → cache_need in_version m (room_of (length base)) ≤ room_of (length base)
      → IsLaid (laid_cache m in_version (room_of (length base))) base image → (cache_fields (block_at image 0)).version ≡ in_version)
      → AreLaws (IsCacheVerdict version) (λ m room. laid_cache m version room) SpellsCache (cache_need version) (IsCleanCacheIn version)
  cache_laws one above clean version_is = record {
    one = one;
    spelled = λ text room m is. is.1;
    above = λ text m room spells less. (cache_need version m room, above text m room spells less);
    clean = λ text m base image spells enough laid. record {
      cache = clean m version base image spells.means.lawful asked enough laid;
      version_is = version_is m version base image spells.means.lawful asked enough laid;
    };
  }

pub target_laws : OneVerdict IsEraVerdict
    → ((text : List ℕ) (m : EraMeaning) (room : ℕ) → SpellsEra text m → room < era_need m room → IsEraVerdict text room (no_room (era_need m room) room))
    → ((m : EraMeaning) (base image : Image) → IsLawfulEra m → era_need m (room_of (length base)) ≤ room_of (length base)
    → IsLaid (laid_era m (room_of (length base))) base image → IsCleanEra image m)
    → AreLaws IsEraVerdict laid_era SpellsEra era_need IsCleanEra
target_laws one above clean = record {
  one = one;
  spelled = λ text room m is. is.1;
  above = λ text m room spells less. (era_need m room, above text m room spells less);
  clean = λ text m base image spells. clean m base image spells.means.lawful;
}

-- Where there is no fault up to a stage, there is none up to an earlier one.

none_before : (checked : Checked) (image : Image) (earlier later : List Stage) → first_failing checked image (earlier ++ later) ≡ [] → first_failing checked image earlier ≡ []
unfolding first_failing
none_before checked image [] later none = refl
none_before checked image (stage ∷ earlier) later none = elim (cases_Bool (nat_lt 0 (length (stage_faults checked image stage)))) [
  | inl some ↦ rw some (rw some at none)
  | inr nothing ↦ rw nothing (none_before checked image earlier later (rw nothing at none))
]

pub none_of_super : (kind : Kind) (image : Image) → faults kind stages.Whole image ≡ [] → faults kind stages.Super image ≡ []
unfolding faults
none_of_super kind image none = none_before (checked_of kind image) image (stages.Super ∷ []) (stages.Walk ∷ stages.Order ∷ stages.Whole ∷ []) none

pub none_up_to_whole : (image : Image) → faults Thin stages.Counts image ≡ [] → faults Thin stages.Whole image ≡ []
unfolding faults
none_up_to_whole image none = none_before (checked_of Thin image) image (stages.Super ∷ stages.Walk ∷ stages.Order ∷ stages.Whole ∷ []) (stages.Counts ∷ []) none

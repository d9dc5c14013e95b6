-- What is held in memory of a pool, as its lines are restored.
use Rattle.std.proofs.Common.{◌≡◌, ℕ, ◌≤◌, Bool, List, [], ◌∷◌, ◌++◌, Option, Result, Ok, Err, refl, sym, ◌∙◌, ap, subst, arith}
use Rattle.std.specs.Prelude.{IfErr, OnOk, MatchResult}
use Rattle.pd_grammar.specs.Texts.{Reading, whole, written}
use Rattle.pd_grammar.proofs.GrammarLemmas.{AreRead}
use Rattle.pd_grammar.specs.ThinText.{Line, pool_line, end_line, pool_format}
use Rattle.pd_laid.specs.PoolText.{pool_need_so_far}
use Rattle.pd_draft.specs.Closed.{DraftState}
use Rattle.pd_texts.specs.Reader.{in_order, IsReadAfter}
use Rattle.pd_restoring.specs.declared.fault.RestoreFault.{RestoreFault}
use Rattle.pd_restoring.specs.Reading.{SaysOf}
use Rattle.pd_restoring.proofs.ReadingLemmas.{above_next}
use Rattle.pd_restore.specs.Whole.{Coming, HasMade, IsTextOf, TakesLines, lines_to_end, made_begun, version_line, head_of_pool}
use Rattle.pd_restore.specs.Reading.{EndsAll, Follows, Gathers, HasRoom, IsOver}
use Rattle.pd_restore.proofs.ReadingLemmas.{lacking}
use Rattle.pd_salvage.specs.declared.saved.SavedHead.{SavedHead}

-- the first of some lines that may follow others
first_read : (before : List Line) (line : Line) (lines : List Line) → AreRead pool_format before (line ∷ lines) → IsReadAfter pool_format before line
first_read before line lines reads = record { going = reads.0; bytes = written pool_format line; short = reads.1.0; is = reads.1.1.0 }

-- the pool line of a pool that is held in memory
pub made_pool : (shared : Bool) (p : SavedHead) (coming : List Line) → AreRead pool_format [] (in_order (made_begun shared p) (lines_to_end coming))
    → IsReadAfter pool_format (version_line shared ∷ []) (pool_line (head_of_pool p))
made_pool shared p coming reads = first_read (version_line shared ∷ []) (pool_line (head_of_pool p)) (lines_to_end coming) reads.1.1.1

-- the first two lines, with what comes after them
pub made_coming : {G : Type 0} (Has : Gathers G) (shared : Bool) (p : SavedHead) (room : ℕ) (coming : List Line) (s : G) (start : DraftState) → HasMade shared coming p room start
    → Has room (made_begun shared p) s start start → Coming Has (made_begun shared p) room coming s start start
made_coming Has shared p room coming s start has gathered = record {
  so_far = record {
    gathered = gathered;
    lines = (made_pool shared p coming has.reads, (first_read [] (version_line shared) (pool_line (head_of_pool p) ∷ lines_to_end coming) has.reads, tt));
    need = has.need;
    most = has.most;
    there = has.there;
  };
  later = omega arith;
  above = above_next pool_need_so_far room (version_line shared ∷ []) (pool_line (head_of_pool p)) (λ lines. refl) has.need;
  lines = has.reads.1.1.1.1.1.1;
}

-- with the last line
to_end : (coming lines : List Line) → coming ≡ lines → lines_to_end coming ≡ lines ++ end_line ∷ []
to_end coming lines is = ap (λ (ls : List Line). ls ++ end_line ∷ []) is

module _ {G : Type 0} (Has : Gathers G) (before : List Line) (room : ℕ) (old coming : List Line) (s : G) (start now : DraftState) (took : TakesLines Has before room old coming s start now) where
  follows_first : (line : Line) (lines : List Line) → lines_to_end coming ≡ line ∷ lines → Follows Has took.lines room s line start now
  follows_first line lines is =
      let h = took.so_far in
      record { so_far = h.so_far; later = h.later; lines = (first_read took.lines line lines (subst (AreRead pool_format took.lines) is h.lines), h.so_far.lines) }

  -- the line that comes next may be taken
  pub line_follows : (rest : List Line) (line : Line) → coming ≡ line ∷ rest → Follows Has took.lines room s line start now
  line_follows rest line is = follows_first line (lines_to_end rest) (to_end coming (line ∷ rest) is)

  -- and the last one where no other does
  pub last_follows : coming ≡ [] → Follows Has took.lines room s end_line start now
  last_follows none = follows_first end_line [] (to_end coming [] none)

  -- where there is no room for it, so much is needed of the text
  first_says : (result : Result (Unit {0}) RestoreFault) (line : Line) (lines : List Line) (left : Option (List ℕ)) (t : List ℕ) → lines_to_end coming ≡ line ∷ lines → IsTextOf before old left t
      → MatchResult result (λ _. pool_need_so_far room (line ∷ took.lines) ≤ room) (IsOver room (pool_need_so_far room (line ∷ took.lines))) → IfErr result (SaysOf pool_format pool_need_so_far room t)
  first_says result line lines left t all is need =
      lacking result took.lines lines line room t took.so_far.above (omega (arith, took.so_far.later))
      (ap (λ (r : Reading Line). r.lines) is.0 ∙ (sym took.same ∙ ap (in_order took.lines) all)) need

  pub line_says : (result : Result (Unit {0}) RestoreFault) (rest : List Line) (line : Line) (left : Option (List ℕ)) (t : List ℕ) → coming ≡ line ∷ rest → IsTextOf before old left t
      → MatchResult result (λ _. pool_need_so_far room (line ∷ took.lines) ≤ room) (IsOver room (pool_need_so_far room (line ∷ took.lines))) → IfErr result (SaysOf pool_format pool_need_so_far room t)
  line_says result rest line left t is = first_says result line (lines_to_end rest) left t (to_end coming (line ∷ rest) is)

  pub last_says : (result : Result (Unit {0}) RestoreFault) (left : Option (List ℕ)) (t : List ℕ) → coming ≡ [] → IsTextOf before old left t
      → MatchResult result (λ _. pool_need_so_far room (end_line ∷ took.lines) ≤ room) (IsOver room (pool_need_so_far room (end_line ∷ took.lines)))
      → IfErr result (SaysOf pool_format pool_need_so_far room t)
  last_says result left t none = first_says result end_line [] left t (to_end coming [] none)

  module _ (t : G) (to : DraftState) (blocks : to.device.blocks ≡ now.device.blocks) where
    has_room : (line : Line) → Follows Has took.lines room s line start now → Has room (line ∷ took.lines) t start to
        → pool_need_so_far room (line ∷ took.lines) ≤ room → HasRoom Has (line ∷ took.lines) room t start to
    has_room line follows gathered need =
        record { gathered = gathered; lines = follows.lines; need = need; most = follows.so_far.most; there = omega (arith, follows.so_far.there, blocks) }

    -- it was taken
    pub took_next : (rest : List Line) (line : Line) → coming ≡ line ∷ rest → Has room (line ∷ took.lines) t start to
        → pool_need_so_far room (line ∷ took.lines) ≤ room → TakesLines Has before room old rest t start to
    took_next rest line is gathered need =
        let all = to_end coming (line ∷ rest) is in
        let h = took.so_far in
        record {
          lines = line ∷ took.lines;
          so_far = record {
            so_far = has_room line (line_follows rest line is) gathered need;
            later = omega (arith, h.later);
            above = above_next pool_need_so_far room took.lines line h.above need;
            lines = (subst (AreRead pool_format took.lines) all h.lines).1.1.1;
          };
          same = sym (ap (in_order took.lines) all) ∙ took.same;
        }

    -- and the last one
    pub took_all : (result : Result (Unit {0}) RestoreFault) (left : Option (List ℕ)) → coming ≡ [] → OnOk result (Has room (end_line ∷ took.lines) t start to)
        → MatchResult result (λ _. pool_need_so_far room (end_line ∷ took.lines) ≤ room) (IsOver room (pool_need_so_far room (end_line ∷ took.lines)))
        → OnOk result (EndsAll Has before room (IsTextOf before old left) left t start to)
    took_all (Err fault) left none gathered need = tt
    took_all (Ok done) left none gathered need =
        let front : in_order (end_line ∷ took.lines) [] ≡ in_order before (lines_to_end old) = sym (ap (in_order took.lines) (to_end coming [] none)) ∙ took.same in
        record {
          lines = end_line ∷ took.lines;
          later = lines_to_end old;
          front = front;
          all = record {
            all = has_room end_line (last_follows none) gathered need;
            ended = refl;
            above = above_next pool_need_so_far room took.lines end_line took.so_far.above need;
          };
          told = λ t is. (is.0 ∙ ap whole (sym front), is.1);
        }

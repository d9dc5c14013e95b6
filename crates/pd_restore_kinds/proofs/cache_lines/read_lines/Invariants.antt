use Rattle.std.proofs.Common.{◌≡◌, ℕ, ◌-◌, ◌^◌, List, length}
use Rattle.pd_image.specs.Source.{KeepsSource}
use Rattle.pd_grammar.specs.CacheText.{cache_single}
use Rattle.pd_texts.specs.Reader.{LeavesOf}
use Rattle.pd_restore_kinds.specs.CacheReading.{lines_of}
use Rattle.pd_restore_kinds.specs.CacheReading.{Reads}
use Rattle.pd_restore_kinds.proofs.cache_lines.read_lines.Given as goal

abbrev pub invariant-lines : goal.invariant-lines
invariant-lines g l =
    let source = g.S.Source.state in
    record {
      reads : Reads l.text l.gathered;
      cache_is : l.gathered.cache ≡ l.initial.gathered.cache;
      told : (t : List ℕ) → LeavesOf cache_single t (lines_of l.initial.gathered) l.initial.text (source l.initial.source).left
          → LeavesOf cache_single t (lines_of l.gathered) l.text (source l.source).left;
      kept : KeepsSource (source l.initial.source) (source l.source);
      faults : (source l.source).faults ≡ (source l.initial.source).faults;
    }

abbrev pub decreases-lines : goal.decreases-lines
decreases-lines g l = 2 ^ 33 - length l.gathered.rows.items

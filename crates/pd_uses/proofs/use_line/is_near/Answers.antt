use Rattle.std.proofs.Common.{◌&&◌, ◌/◌, eqb, nat_le, sym, ◌∙◌}
use Rattle.std.proofs.lemmas.Bool.{and_parts, eqb-true, leb-true}
use Rattle.pd_uses.proofs.use_line.is_near.Goals as goal

pub returns : goal.returns
returns c = λ yes.
    let old = c.args.old in
    let new = c.args.new in
    let whole = and_parts (c.is_beside-block.result && c.is_beside-virt.result) (eqb old.id new.id) yes in
    let both = and_parts c.is_beside-block.result c.is_beside-virt.result whole.0 in
    let block = and_parts (eqb (old.block / 100) (new.block / 100)) (nat_le 100 old.block) (sym c.is_beside-block.ensures ∙ both.0) in
    let virt = and_parts (eqb (old.virt / 100) (new.virt / 100)) (nat_le 100 old.virt) (sym c.is_beside-virt.ensures ∙ both.1) in
    record {
      block = eqb-true (old.block / 100) (new.block / 100) block.0;
      virt = eqb-true (old.virt / 100) (new.virt / 100) virt.0;
      id = eqb-true old.id new.id whole.1;
      long_block = leb-true 100 old.block block.1;
      long_virt = leb-true 100 old.virt virt.1;
    }

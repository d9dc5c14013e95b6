use Rattle.pd_count.proofs.FormLemmas.{written}
use Rattle.pd_count.proofs.dense.write.Goals as goal

pub returns-clause-put : goal.returns-clause-put
returns-clause-put c =
    written c.args.at c.args.number c.args.digits.now c.put_digit.new.digits c.put_digit-2.new.digits c.put_digit-3.new.digits c.put_digit-4.new.digits c.requires.place
    (record { put = c.put_digit.ensures.put; others = c.put_digit.ensures.others })
    (record { put = c.put_digit-2.ensures.put; others = c.put_digit-2.ensures.others })
    (record { put = c.put_digit-3.ensures.put; others = c.put_digit-3.ensures.others })
    (record { put = c.put_digit-4.ensures.put; others = c.put_digit-4.ensures.others })

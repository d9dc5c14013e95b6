use Rattle.pd_laws_changed.proofs.LawfulPool.{pool_lawful}
use Rattle.pd_laws_changed.proofs.moved.moved_pool_is_lawful.Goals as goal

pub returns : goal.returns
returns c = λ m end free lawful moving. pool_lawful m end free lawful moving

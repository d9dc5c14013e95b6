use Rattle.pd_laws_changed.proofs.AlikeCaches.{clean_checksum, meaning_same}
use Rattle.pd_laws_changed.proofs.alike.alike_caches_mean_the_same.Goals as goal

pub returns : goal.returns
returns c = λ until image other alike clean looks none.
    meaning_same image other alike (clean_checksum until image none) (c.caches_in_order_are_known.ensures until image looks none) clean

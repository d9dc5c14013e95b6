-- Where a draft stands.
use Rattle.pd_image.specs.declared.device.Device.{Ghosts}
use Rattle.pd_draft.specs.declared.draft.Draft.{Draft}
use Rattle.pd_draft.specs.Closed.{DraftState}

-- its device, and the place of the next block
abbrev pub draft_state : {D : Type 0} {device : Ghosts D} → Draft D device → DraftState
draft_state {D} {device} draft = record { device = device.state draft.dev.now; place = draft.next }

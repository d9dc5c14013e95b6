use Rattle.pd_tools.proofs.ending.Stop.put.Goals as goal

pub returns-in-Device : goal.returns-in-Device
returns-in-Device g c = rw c.in-Device.is c.put_line.ensures

pub returns-in-Stream : goal.returns-in-Stream
returns-in-Stream g c = rw c.in-Stream.is c.put_line-in-Stream.ensures

pub returns-in-Memory : goal.returns-in-Memory
returns-in-Memory g c = rw c.in-Memory.is c.put_line-in-Memory.ensures

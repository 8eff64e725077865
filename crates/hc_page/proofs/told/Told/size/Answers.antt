-- The size does not depend on the child.
use Rattle.hc_page.proofs.told.Told.size.Goals as goal

pub returns-in-Child : goal.returns-in-Child
returns-in-Child c = rw c.in-Child.is (c.child_size.ensures c.in-Child.child)

-- Of a child too.
use Rattle.hc_split.proofs.joined.Added.size.Goals as goal

pub returns-in-Child : goal.returns-in-Child
returns-in-Child c = rw c.in-Child.is (c.child_size.ensures c.in-Child.child)

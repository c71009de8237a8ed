-- `order` writes an accepted file of version 1 as it stands, and sorts any other.
use Rattle.calls.proofs.Writer.{order-accepted}
use Rattle.calls.proofs.orders.order.Goals as goal

pub returns-in-Some : goal.returns-in-Some
returns-in-Some c =
    rw (← c.in-Some.ensures.file) (order-accepted _ _ _ c.in-Some.file.accepted (rw (← c.in-Some.ensures.file) at c.in-Some.ensures.version) c.write_accepted.ensures)

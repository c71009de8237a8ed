-- `render` meets its contract: the line of the refusal is written where the conversion is refused, and else the file that it wrote, as far as its
-- last link.
use Rattle.vouch_order.proofs.Converting.{converted-refused, converted-written}
use Rattle.vouch_order.proofs.render.Goals as goal

pub returns-in-Ok : goal.returns-in-Ok
returns-in-Ok c = converted-written c.requires c.order.ensures c.in-Ok.size c.in-Ok.is c.link_at.ensures

pub returns-in-Err : goal.returns-in-Err
returns-in-Err c = converted-refused c.requires c.order.ensures c.in-Err.refusal c.in-Err.is c.put_refusal.ensures

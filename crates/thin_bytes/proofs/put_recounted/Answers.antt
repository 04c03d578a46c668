-- The bytes before the count, the count and the bytes behind it, one after the other.
use Rattle.thin_bytes.proofs.Recounting.{all_put}
use Rattle.thin_bytes.proofs.put_recounted.Goals as goal

pub returns : goal.returns
returns c = all_put c.requires c.args.count c.bytes.ensures c.number.ensures c.bytes-2.ensures

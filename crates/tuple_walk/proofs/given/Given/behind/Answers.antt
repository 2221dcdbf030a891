use Rattle.std.proofs.Common.{refl}
use Rattle.tuple_walk.specs.Serving.{sought_of}
use Rattle.tuple_walk.proofs.Coming.{behind-by}
use Rattle.tuple_walk.proofs.given.Given.behind.Goals as goal

pub returns : goal.returns
returns c n =
    behind-by (sought_of c.args.self.now) _ c.args.places.now n c.stays.result c.stays-2.result
    c.stays-3.result c.stays-4.result refl c.behind_first.ensures refl c.stays.ensures c.stays-2.ensures
    c.stays-3.ensures c.stays-4.ensures

-- What the fields of a forest keep.
use Rattle.dc_mdb.specs.declared.forests.Forest.TheInside.{Inside}
use Rattle.dc_mdb.specs.Forests.{IsForest}
use Rattle.dc_mdb.specs.Links.{nodes_of}
use Rattle.dc_mdb.specs.Counts.{IsCounted}

pub record IsWithin (f : Inside) : Type 0 where
  pub forest : IsForest (nodes_of f.links)
  pub counted : IsCounted f.links f.children

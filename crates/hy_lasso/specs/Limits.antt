-- The limit on how many positions are judged.
use Rattle.hy_base.specs.declared.limit.Kind.TheVariants.{Joint}
use Rattle.hy_base.specs.declared.limit.Limit.{Limit}
use Rattle.hy_lasso.specs.Joint.{most_positions}

abbrev pub joint_limit : Limit
joint_limit = record { kind = Joint; limit = most_positions }

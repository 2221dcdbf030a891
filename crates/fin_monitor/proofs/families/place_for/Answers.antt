use Rattle.std.proofs.Common.{◌≡◌, Bool, true, false, not, refl, sym, rules}
use Rattle.std.proofs.lemmas.List.Sorted.{IsPartitionPoint-from_clause}
use Rattle.fin_monitor.specs.Duties.{Duty}
use Rattle.fin_monitor.specs.Lefts.{precedes}
use Rattle.fin_monitor.proofs.Order.{ascending-parted}
use Rattle.fin_monitor.proofs.families.place_for.Goals as goal

turned : (b : Bool) → (not b ≡ true → b ≡ false) × (not b ≡ false → b ≡ true)
turned true = (λ h. sym h, λ h. refl)
turned false = (λ h. refl, λ h. sym h)

pub returns : goal.returns
returns g c =
    let p : Duty → Bool = λ e. not (precedes c.args.d.now e) in
    let parted = ascending-parted c.args.list.now c.args.d.now c.requires in
    let point = IsPartitionPoint-from_clause p _ _ c.partition_point.ensures.partitioned parted (λ a r q k. search rules) in
    record {
      inside = c.partition_point.ensures.bound;
      before = λ k e low lt. (turned _).0 (point.0 k e low lt);
      behind = λ k e low lt. (turned _).1 (point.1 k e low lt);
    }

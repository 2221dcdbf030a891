-- Steps of one walk within the bound of its spec, and of all within the sum.
use Rattle.std.proofs.Common.{◌≡◌, ℕ, ◌+◌, ◌*◌, ◌<◌, ◌≤◌, Bool, false, IsTrue, List, ◌∷◌, length, slice_get, slice_index_or, Some, take, sum, arith}
use Rattle.std.specs.List.{Contains}
use Rattle.std.proofs.lemmas.List.{length-map}
use Rattle.std.proofs.lemmas.List.Sums.{sum_by_more, sum_by-take-le}
use Rattle.std.proofs.lemmas.Nat.{mul-le}
use Rattle.hy_base.proofs.Members.{contains-here}
use Rattle.hy_formula.specs.Quantifiers.{IsTuple}
use Rattle.hy_formula.proofs.Each.{each-like}
use Rattle.hy_finite.specs.declared.lengths.Lengths.{Lengths}
use Rattle.hy_finite.specs.Traces.{Trace}
use Rattle.fin_monitor.specs.Machines.{Machine}
use Rattle.tuple_walk.specs.JointPrefixes.{Row, IsJointPrefix, IsFirstPrefix}
use Rattle.tuple_walk.specs.Finds.{traces_of}
use Rattle.rv_core.specs.declared.rv.Rv.{Rv}
use Rattle.rv_core.specs.Held.{Held, spec_of}
use Rattle.rv_core.specs.Keeping.{kept_at}
use Rattle.rv_core.specs.Masks.{masked}
use Rattle.rv_core.specs.Seen.{held, watched, watched_by}
use Rattle.rv_core.specs.StepBounds.{IsBound, by_joint, by_first, IsSpecBound, AreBounds}
use Rattle.rv_core.specs.Watched.{IsExact}
use Rattle.rv_core.proofs.Below.{machine-some}

-- a first joint prefix is a joint one
joint-of : (rule : Lengths) (list : List Trace) (t : Trace) (n : ℕ) (rows : List Row)
    → IsFirstPrefix rule list t n rows → IsJointPrefix rule list t n rows
joint-of rule list t n rows is = record {
  tuple = t ∷ is.others;
  members = is.members;
  one = contains-here t is.others;
  prefix = is.prefix;
}

-- members of fewer traces are members of more
tuple-among : (few list : List Trace) → ((u : Trace) → Contains few u → Contains list u) → (n : ℕ)
    (tuple : List Trace) → IsTuple (Contains few) n tuple → IsTuple (Contains list) n tuple
tuple-among few list among n tuple is = record {
  count = is.count;
  members = each-like (Contains few) (Contains list) among tuple is.members;
}

-- a bound for more traces is one for fewer of them
pub bound-fewer : (rule : Lengths) (m : Machine) (t : Trace) (few list : List Trace)
    → ((u : Trace) → Contains few u → Contains list u) → (bound : ℕ) → IsBound rule m list t bound
    → IsBound rule m few t bound
bound-fewer rule m t few list among bound (by_joint prefixes all) =
    by_joint prefixes (λ rows is. all rows (record {
      tuple = is.tuple;
      members = tuple-among few list among m.variables is.tuple is.members;
      one = is.one;
      prefix = is.prefix;
    }))
bound-fewer rule m t few list among bound (by_first prefixes same all) =
    by_first prefixes same (λ rows is. all rows (record {
      others = is.others;
      members = tuple-among few list among m.variables (t ∷ is.others) is.members;
      prefix = is.prefix;
    }))

-- as many as that are at most as many for each variable
pub within-times : (n count old new : ℕ) → 1 ≤ n → new ≤ old + count → new ≤ old + n * count
within-times n count old new some within =
    omega (arith, within, mul-le 1 count n count some (omega arith))

-- of a search for tuples with the trace first
pub first-bound : (rule : Lengths) (m : Machine) (list : List Trace) (t : Trace) (old new : ℕ)
    → 1 ≤ m.variables
    → ((prefixes : List (List Row))
    → ((rows : List Row) → IsFirstPrefix rule list t m.variables rows → Contains prefixes rows)
    → new ≤ old + length prefixes)
    → (bound : ℕ) → IsBound rule m list t bound → new ≤ old + bound
first-bound rule m list t old new some first bound (by_joint prefixes all) =
    within-times m.variables (length prefixes) old new some
    (first prefixes (λ rows is. all rows (joint-of rule list t m.variables rows is)))
first-bound rule m list t old new some first bound (by_first prefixes same all) = first prefixes all

-- of a search for all tuples, where it is not said that the order does not matter
pub joint-bound : (said : Bool) (rule : Lengths) (m : Machine) (list : List Trace) (t : Trace)
    (old new : ℕ) → 1 ≤ m.variables → said ≡ false → IsExact said m
    → ((prefixes : List (List Row))
    → ((rows : List Row) → IsJointPrefix rule list t m.variables rows → Contains prefixes rows)
    → new ≤ old + length prefixes)
    → (bound : ℕ) → IsBound rule m list t bound → new ≤ old + bound
joint-bound said rule m list t old new some e exact joint bound (by_joint prefixes all) =
    within-times m.variables (length prefixes) old new some (joint prefixes all)
joint-bound said rule m list t old new some e exact joint bound (by_first prefixes same all) =
    let f : IsTrue said = exact rule same in absurd (cc)

-- ---- specs one after another

module _ (m : Held) (t : Trace) (bounds : List ℕ) (are : AreBounds m t bounds) (start : ℕ) where
  pub bounds-more : (i : ℕ) → i < length m.machines → (before after : ℕ)
      → before ≤ start + sum (take i bounds)
      → ((q : Machine) (bound : ℕ) → slice_get m.machines i ≡ Some q
      → IsSpecBound m.rule q (traces_of (kept_at m.kept i)) (masked (spec_of q) t) bound
      → after ≤ before + bound)
      → after ≤ start + sum (take (i + 1) bounds)
  bounds-more i lt before after within one =
      let (q, there) = machine-some m.machines i lt in
      let inside : i < length bounds = omega (arith, are.long) in
      omega (
        arith,
        within,
        one q (slice_index_or bounds i 0) there (are.right i q there),
        sum_by_more (λ x. x) bounds i 0 inside,
      )

  pub bounds-all : (i end : ℕ) → end ≤ start + sum (take i bounds) → end ≤ start + sum bounds
  bounds-all i end within = omega (arith, within, sum_by-take-le (λ x. x) bounds i)

-- where it ends with one of the specs
pub bounds-end : (rv : Rv) (t : Trace) (bounds : List ℕ) → AreBounds (held rv) t bounds
    → (start i before after : ℕ) → i < length rv.watches → before ≤ start + sum (take i bounds)
    → ((q : Machine) (bound : ℕ) → slice_get (watched_by rv.watches) i ≡ Some q
    → IsSpecBound rv.rule q (traces_of (kept_at rv.kept i)) (masked (spec_of q) t) bound
    → after ≤ before + bound)
    → after ≤ start + sum bounds
bounds-end rv t bounds are start i before after lt within one =
    bounds-all (held rv) t bounds are start (i + 1) after
    (bounds-more (held rv) t bounds are start i (omega (arith, length-map rv.watches watched, lt))
    before after within one)

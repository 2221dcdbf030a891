-- Traces as a spec tells them apart: of each letter the names alone that stand in its body.
use Rattle.std.specs.Prelude.{◌≡◌, ℕ, nat_eq, List, map}
use Rattle.std.specs.Coded.{Π_prop, Coded-set, coded_bool}
use Rattle.std.specs.FinSet.{contains, retain}
use Rattle.std.specs.List.{list_any}
use Rattle.hy_bits.specs.Letter.{Letter}
use Rattle.hy_formula.specs.Atoms.{has_name}
use Rattle.hy_formula.specs.Trees.{Tree}
use Rattle.hy_finite.specs.Traces.{Trace}
use Rattle.rv_core.specs.Endings.{Spec}

abbrev pub masked_letter : Spec → Letter → Letter
masked_letter spec letter = retain letter (has_name spec.body)

abbrev pub masked : Spec → Trace → Trace
masked spec t = map (masked_letter spec) t

abbrev pub masked_list : Spec → List Trace → List Trace
masked_list spec list = map (masked spec) list

-- The names of the set are these.
abbrev pub AreListed : List ℕ → Letter → Type 0
AreListed names all = (k : ℕ) → list_any (λ n. nat_eq n k) names ≡ contains all k

-- The names are those that stand in the body.
abbrev pub AreNamesOf : Letter → Tree → Type 0
AreNamesOf names body = (k : ℕ) → contains names k ≡ has_name body k

pub AreNamesOf-prop : (names : Letter) (body : Tree) → IsProp (AreNamesOf names body)
AreNamesOf-prop names body =
    Π_prop (λ k. Coded-set coded_bool (contains names k) (has_name body k))

-- Which quantifiers a prefix has, and in which order.
use Rattle.std.specs.Prelude.{List, [], ◌∷◌, Bool, true, false, if◌then◌else◌, length, nat_eq}
use Rattle.hy_formula.specs.declared.prefix.Quant.{Quant}
use Rattle.hy_formula.specs.declared.prefix.Quant.TheVariants as quant
use Rattle.hy_formula.specs.declared.classes.Class.{Class}
use Rattle.hy_formula.specs.declared.classes.Class.TheVariants as class

abbrev pub is_same : Quant → Quant → Bool
is_same quant.Exists quant.Exists = true
is_same quant.Forall quant.Forall = true
is_same _ _ = false

-- what stands behind the first quantifiers, as far as they are of that kind
abbrev pub behind : Quant → List Quant → List Quant
behind q [] = []
behind q (x ∷ xs) = if is_same x q then behind q xs else x ∷ xs

-- no quantifier but those of that kind
abbrev pub has_only : Quant → List Quant → Bool
has_only q prefix = nat_eq (length (behind q prefix)) 0

-- The class of a prefix that has a quantifier.
abbrev pub class_of : List Quant → Class
class_of prefix =
    if has_only quant.Exists prefix then class.Exists
    else if has_only quant.Forall prefix then class.Forall
    else if has_only quant.Forall (behind quant.Exists prefix) then class.ExistsForall
    else class.Other

-- Which formulas a command may take, by their classes or prefixes, and the first formula that it does not take.
use Rattle.std.specs.Prelude.{◌≡◌, ◌&&◌, nat_lt, ℕ, zero, suc, Bool, true, false, List, [], ◌∷◌, length}
use Rattle.hy_formula.specs.Classes.{behind, class_of, has_only}
use Rattle.hy_formula.specs.Quantifiers.{Each}
use Rattle.hy_formula.specs.declared.prefix.Quant.{Quant}
use Rattle.hy_formula.specs.declared.prefix.Quant.TheVariants as quant
use Rattle.hy_formula.specs.declared.classes.Class.{Class}
use Rattle.hy_formula.specs.declared.classes.Class.TheVariants.{Exists, Forall, ExistsForall, Other}
use Rattle.hy_formula.specs.Formulas.{Plain}

-- Each class is taken.
abbrev pub is_any : Class → Bool
is_any class = true

abbrev pub is_universal : Class → Bool
is_universal Exists = false
is_universal Forall = true
is_universal ExistsForall = false
is_universal Other = false

-- All quantifiers are of one kind.
abbrev pub is_of_one_kind : Class → Bool
is_of_one_kind Exists = true
is_of_one_kind Forall = true
is_of_one_kind ExistsForall = false
is_of_one_kind Other = false

-- No universal quantifier stands before an existential one.
abbrev pub is_decided : Class → Bool
is_decided Exists = true
is_decided Forall = true
is_decided ExistsForall = true
is_decided Other = false

-- whether the class of a prefix is one of these
abbrev pub by_class : (Class → Bool) → List Quant → Bool
by_class is_one prefix = is_one (class_of prefix)

-- Universal quantifiers come first, and existential ones behind them: at least one of each.
abbrev pub is_forall_exists : List Quant → Bool
is_forall_exists prefix =
    nat_lt (length (behind quant.Forall prefix)) (length prefix) && nat_lt 0 (length (behind quant.Forall prefix))
    && has_only quant.Exists (behind quant.Forall prefix)

-- Formula j is the first whose prefix is not taken: one of this class.
abbrev pub FirstUntaken : (List Quant → Bool) → List Plain → ℕ → Class → Type 0
FirstUntaken takes [] j class = ⊥
FirstUntaken takes (f ∷ formulas) zero class = (class_of f.prefix ≡ class) × (takes f.prefix ≡ false)
FirstUntaken takes (f ∷ formulas) (suc j) class = (takes f.prefix ≡ true) × FirstUntaken takes formulas j class

-- The prefix of each formula is taken.
abbrev pub AreTaken : (List Quant → Bool) → List Plain → Type 0
AreTaken takes formulas = Each (λ (f : Plain). takes f.prefix ≡ true) formulas

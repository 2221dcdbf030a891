-- What a certificate says of a claim, and which answers are free.
use Rattle.std.specs.Prelude.{◌≡◌, ℕ, ◌<◌, ◌⊎◌, Bool, IsTrue, List, length, Result, Err}
use Rattle.hy_base.specs.declared.limit.Kind.TheVariants.{CnfVariables, CnfLiterals}
use Rattle.hy_bits.specs.Letter.{Letter}
use Rattle.hy_formula.specs.Formulas.{Plain}
use Rattle.hy_formula.specs.Lassos.{Lasso}
use Rattle.hy_formula.specs.Normals.{Signed}
use Rattle.hy_formula.specs.Trees.{vars_below}
use Rattle.hy_lasso.specs.Words as words
use Rattle.hy_lasso.specs.Words.{AreLassos}
use Rattle.aig_net.specs.declared.signals.Signal.{Signal}
use Rattle.aig_net.specs.Nets.{Net}
use Rattle.net_names.specs.Names.{AreSignals}
use Rattle.wit_lasso.specs.Satisfaction as circuits
use Rattle.cert_text.specs.Certificates.{Certificate, first, second, model, refuted, both, induction, runs}
use Rattle.claim_check.specs.declared.error.CertError.{CertError}
use Rattle.claim_check.specs.declared.error.CertError.TheVariants.{Limit, Memory}
use Rattle.claim_check.specs.Claims.{Claim, formula, implication, equivalence, circuit}
use Rattle.claim_check.specs.Good.{Separates}

-- The variables of the body are places of the prefix.
abbrev pub IsBound : Plain → Type 0
IsBound f = IsTrue (vars_below (length f.prefix) f.body)

-- ---- formulas

-- Some list of lassos satisfies the formula.
abbrev pub IsSatisfiable : Plain → Type 0
IsSatisfiable f = words.IsSatisfiable f.prefix f.body

-- Each list of lassos that satisfies the first formula satisfies the second.
abbrev pub Implies : Plain → Plain → Type 0
Implies f g =
    (list : List (Lasso Letter)) → 0 < length list → AreLassos list
    → words.Satisfies list f.prefix f.body → words.Satisfies list g.prefix g.body

-- Some list of lassos satisfies the first formula and not the second.
abbrev pub AreApart : Plain → Plain → Type 0
AreApart f g = (list : List (Lasso Letter)) × Separates f g list

-- ---- circuits

-- The circuit satisfies the formula, or does not, whatever signals its names are said by.
abbrev pub Says : Bool → Net → List (List ℕ) → Plain → Type 0
Says holds net names f =
    (signals : List Signal) → AreSignals net names f.body signals
    → Signed holds (circuits.Satisfies net signals f.prefix f.body)

-- ---- certificates

abbrev pub IsSaid : List (List ℕ) → Claim → Certificate → Type 0
IsSaid names (formula f) (model side lassos) = IsSatisfiable f
IsSaid names (formula f) (refuted proof) = ¬ IsSatisfiable f
IsSaid names (implication f g) (model side lassos) = AreApart f g
IsSaid names (implication f g) (refuted proof) = Implies f g
IsSaid names (equivalence f g) (model first lassos) = AreApart f g
IsSaid names (equivalence f g) (model second lassos) = AreApart g f
IsSaid names (equivalence f g) (both one two) = Implies f g × Implies g f
IsSaid names (circuit net f) (induction holds proof) = Says holds net names f
IsSaid names (circuit net f) (runs holds lassos tuple) = Says holds net names f
IsSaid names _ _ = ⊥

-- ---- answers

-- Memory ran out, or a query is past a limit: this may come where another answer may.
abbrev pub IsFree : Result Bool CertError → Type 0
IsFree (Err Memory) = Unit {0}
IsFree (Err (Limit limit)) = (limit.kind ≡ CnfVariables) ⊎ (limit.kind ≡ CnfLiterals)
IsFree _ = ⊥

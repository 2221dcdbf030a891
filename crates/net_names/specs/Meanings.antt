-- What a name may stand for: nothing, one literal, or several; and what is known of a search under
-- way.
use Rattle.std.specs.Prelude.{◌≡◌, ◌≢◌, ℕ, ◌<◌, cond, nat_eq, IsTrue, List, Contains, All}
use Rattle.hy_formula.specs.Trees.{Tree}
use Rattle.aig_net.specs.declared.signals.Signal.{Signal}
use Rattle.aig_net.specs.Nets.{Net}
use Rattle.aig_net.specs.Signals.{has_signal}
use Rattle.net_names.specs.declared.meaning.Meaning.{Meaning}
use Rattle.net_names.specs.declared.meaning.Meaning.TheVariants.{Nothing, Literal, Several}
use Rattle.hy_formula.specs.Atoms.{has_name}
use Rattle.net_names.specs.Names.{IsOnly, name_at}

-- P holds of no literal, of this one alone, or of several.
abbrev pub Means : (ℕ → Type 0) → Meaning → Type 0
Means P Nothing = (l : ℕ) → ¬ P l
Means P (Literal l) = P l × ((m : ℕ) → P m → m ≡ l)
Means P Several = (l m : ℕ) × P l × P m × (l ≢ m)

-- what two together stand for
abbrev pub merged : Meaning → Meaning → Meaning
merged Nothing b = b
merged a Nothing = a
merged (Literal l) (Literal m) = cond (nat_eq l m) (Literal l) Several
merged a b = Several

-- The signals are those of the names below k, each of which stands for one literal.
pub record AreBelow (net : Net) (names : List (List ℕ)) (body : Tree) (k : ℕ)
    (signals : List Signal) : Type 0 where
  pub own : All (λ s. s.var ≡ 0) signals
  pub each : (s : Signal) → Contains signals s →
      IsTrue (has_name body s.name) × IsOnly net (name_at names s.name) s.literal
  pub every : (j : ℕ) → j < k → IsTrue (has_name body j) → IsTrue (has_signal signals j 0)
  pub below : All (λ s. s.name < k) signals
  pub only : (j : ℕ) → j < k → IsTrue (has_name body j) →
      (l : ℕ) × IsOnly net (name_at names j) l

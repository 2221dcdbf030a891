-- What a checker keeps: its clauses are over its variables, and between two entries nothing is true.
use Rattle.std.proofs.Common.{◌≡◌, ℕ, ◌≤◌, inl, inr, List, [], ◌∷◌, ◌++◌, refl, sym, ap, ◌∙◌, subst, arith, append_assoc, append-nil}
use Rattle.std.proofs.lemmas.List.Elements.{Contains-append_cases}
use Rattle.chain_check.specs.Clauses.{Clause, AreLiterals, AreClauses}
use Rattle.chain_check.specs.Store.{Trues}
use Rattle.chain_check.proofs.Storing.{clauses-more}

abbrev pub IsReady : List Clause → Trues → Type 0
IsReady clauses trues = AreClauses trues.variables clauses × (trues.literals ≡ [])

pub ready-first : (n : ℕ) (given learned : List Clause) (trues : Trues) → AreClauses n given →
    learned ≡ [] → trues ≡ record { variables = n; literals = [] } → IsReady (given ++ learned) trues
ready-first n given learned trues right none e =
    let T : Trues → Type 0 = IsReady (given ++ learned) in
    let C : List Clause → Type 0 = AreClauses n in
    let same : given ++ learned ≡ given = ap (λ cs. given ++ cs) none ∙ append-nil given in
    subst T (sym e) (subst C (sym same) right, refl)

pub ready-again : (clauses : List Clause) (before tried after : Trues) → AreClauses before.variables clauses →
    tried.variables ≡ before.variables → after ≡ record tried { literals = [] } → IsReady clauses after
ready-again clauses before tried after right same e =
    let T : Trues → Type 0 = IsReady clauses in
    let V : ℕ → Type 0 = λ n. AreClauses n clauses in
    subst T (sym e) (subst V (sym same) right, refl)

pub ready-same : (given learned more : List Clause) (trues : Trues) →
    IsReady (given ++ learned) trues → more ≡ learned → IsReady (given ++ more) trues
ready-same given learned more trues ready e =
    let L : List Clause → Type 0 = λ cs. IsReady (given ++ cs) trues in
    subst L (sym e) ready

pub more-known : (given learned more : List Clause) (c : Clause) → more ≡ learned ++ c ∷ [] →
    given ++ more ≡ (given ++ learned) ++ c ∷ []
more-known given learned more c e =
    ap (λ cs. given ++ cs) e ∙ sym (append_assoc given learned (c ∷ []))

pub ready-more : (n : ℕ) (given learned more : List Clause) (c : Clause) (trues : Trues) →
    IsReady (given ++ learned) trues → AreLiterals n c → n ≡ trues.variables →
    more ≡ learned ++ c ∷ [] → IsReady (given ++ more) trues
ready-more n given learned more c trues ready right same e =
    let C : List Clause → Type 0 = λ cs. IsReady cs trues in
    let V : ℕ → Type 0 = λ n. AreLiterals n c in
    subst C (sym (more-known given learned more c e))
    (clauses-more trues.variables (given ++ learned) c ready.0 (subst V same right), ready.1)

clauses-behind : (n m : ℕ) (given more : List Clause) → n ≤ m → AreClauses n given →
    AreClauses m more → AreClauses m (given ++ more)
clauses-behind n m given more le first second c there l here = elim
    (Contains-append_cases given more c there) [
      | inl h ↦ let right = first c h l here in (right.0, omega (arith, le, right.1))
      | inr h ↦ second c h l here
    ]

pub ready-anew : (n m : ℕ) (given more : List Clause) (trues : Trues) → n ≤ m →
    AreClauses n given → AreClauses m more → trues ≡ record { variables = m; literals = [] } →
    IsReady (given ++ more) trues
ready-anew n m given more trues le first second e =
    let T : Trues → Type 0 = IsReady (given ++ more) in
    subst T (sym e) (clauses-behind n m given more le first second, refl)

pub ready-kept : (clauses : List Clause) (before after : Trues) → IsReady clauses before →
    after ≡ before → IsReady clauses after
ready-kept clauses before after ready e =
    let T : Trues → Type 0 = IsReady clauses in
    subst T (sym e) ready

-- The opposites of a clause's literals, one after the other; and the clauses of a log.
use Rattle.std.proofs.Common.{◌≡◌, ℕ, ◌+◌, ◌<◌, ◌↔◌, List, [], ◌∷◌, ◌++◌, length, get_or, map, take, drop, inl, inr, sym, ap, ◌∙◌, subst}
use Rattle.std.specs.Prelude.{ℤ, neg_ℤ}
use Rattle.std.specs.List.{Contains}
use Rattle.std.proofs.lemmas.List.{map_push, drop_more, take-append-drop}
use Rattle.std.proofs.lemmas.List.Elements.{Contains-append_left, Contains-push_cases}
use Rattle.chain_check.specs.declared.logs.Learned.{Learned}
use Rattle.chain_check.specs.Clauses.{Clause, IsLiteral, AreLiterals, IsApart}
use Rattle.chain_check.specs.Chains.{Follows}
use Rattle.chain_check.specs.Logs.{IsPassed}
use Rattle.chain_check.proofs.Literals.{twice, not-own-opposite, opposites, opposite-there}
use Rattle.chain_check.proofs.Marking.{literals-more}

-- the opposites of the literals of the front are listed
pub record IsOpposed (n : ℕ) (literals : List ℤ) (front : Clause) : Type 0 where
  pub listed : literals ≡ map neg_ℤ front
  pub right : AreLiterals n front
  pub apart : IsApart front

pub opposed-more : (n : ℕ) (literals : List ℤ) (front : Clause) (l : ℤ) →
    IsOpposed n literals front → IsLiteral n l → ¬ Contains literals l →
    IsOpposed n (literals ++ neg_ℤ l ∷ []) (front ++ l ∷ [])
opposed-more n literals front l is right none =
    record {
      listed = ap (λ xs. xs ++ neg_ℤ l ∷ []) is.listed ∙ sym (map_push neg_ℤ front l);
      right = literals-more n front l is.right right;
      apart = apart;
    }
  where
    met : (a : ℤ) → Contains front a → Contains literals (neg_ℤ a)
    met a there = let P : List ℤ → Type 0 = λ xs. Contains xs (neg_ℤ a) in
        subst P (sym is.listed) (opposite-there front a there)

    apart : IsApart (front ++ l ∷ [])
    apart a there there' =
        let P : ℤ → Type 0 = Contains literals in
        elim (Contains-push_cases front l a there) [
          | inl old ↦ elim (Contains-push_cases front l (neg_ℤ a) there') [
            | inl old' ↦ is.apart a old old'
            | inr e ↦ none (subst P (sym e) (met a old))
          ]
          | inr here ↦ elim (Contains-push_cases front l (neg_ℤ a) there') [
            | inl old' ↦ none (subst P (twice a ∙ sym here) (met (neg_ℤ a) old'))
            | inr e ↦ not-own-opposite l right.0 (e ∙ ap neg_ℤ (sym here))
          ]
        ]

-- a literal whose opposite is in the front, too
pub clash : (n : ℕ) (literals : List ℤ) (clause : Clause) (i : ℕ) (l : ℤ) →
    IsOpposed n literals (take i clause) → Contains literals l → Contains clause l →
    ¬ IsApart clause
clash n literals clause i l is there here apart =
    let P : List ℤ → Type 0 = λ xs. Contains xs l in
    let Q : Clause → Type 0 = λ c. Contains c (neg_ℤ l) in
    let back : Contains (take i clause) (neg_ℤ l) =
    opposites (take i clause) l (subst P is.listed there) in
    apart l here (subst Q (take-append-drop i clause)
    (Contains-append_left (take i clause) (drop i clause) (neg_ℤ l) back))

pub passed-step : (n : ℕ) (before : List Clause) (log : List Learned) (i : ℕ) (e : Learned)
    (P : Type 0) → i < length log → e ≡ get_or log i e → Follows n before e.clause e.chain →
    IsPassed n before (drop i log) ↔ P → IsPassed n (before ++ e.clause ∷ []) (drop (i + 1) log) ↔ P
passed-step n before log i e P lt is follows iff =
    let Q : List Learned → Type 0 = IsPassed n before in
    (λ h. iff.0 (subst Q (sym here) (follows, h)), λ p. (subst Q here (iff.1 p)).1)
  where
    here : drop i log ≡ e ∷ drop (i + 1) log
    here = drop_more log i e lt ∙ ap (λ x. x ∷ drop (i + 1) log) (sym is)

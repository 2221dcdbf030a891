-- The lists that are read off answers of a query.
use Rattle.std.proofs.Common.{◌≡◌, ℕ, ◌+◌, ◌<◌, Bool, true, List, [], ◌∷◌, ◌++◌, take, length, get_or, inl, inr, sym, ap, ◌∙◌, subst, arith, length-append}
use Rattle.std.specs.FinSet.{contains}
use Rattle.std.specs.List.{Contains}
use Rattle.std.proofs.lemmas.Bool.{cases_lt}
use Rattle.std.proofs.lemmas.List.{get_or_append_left, get_or_default, take_more}
use Rattle.std.proofs.lemmas.List.Elements.{Contains-append_left, Contains-append_right, Contains-append_cases}
use Rattle.hy_base.proofs.Members.{contains-one}
use Rattle.hy_base.proofs.Places.{last-of}
use Rattle.hy_base.specs.Rows.{row}
use Rattle.hy_bits.specs.Letter.{Letter}
use Rattle.hy_formula.specs.Lassos.{Lasso}
use Rattle.hy_formula.specs.Trees.{Tree, vars_below}
use Rattle.hy_formula.specs.declared.prefix.Quant.{Quant}
use Rattle.hy_lasso.specs.NormalForms.{IsNormal}
use Rattle.hy_lasso.specs.Words.{no_lasso, letter_at, Meets}
use Rattle.chain_check.specs.Clauses.{SatisfiesAll}
use Rattle.chain_check.specs.Values.{AllMet}
use Rattle.chain_check.proofs.Values.{satisfied-met}
use Rattle.bound_search.specs.declared.bound.Bound.{Bound}
use Rattle.bound_search.specs.Bounds.{IsBound, IsWithin}
use Rattle.bound_search.specs.Names.{names_of}
use Rattle.bound_search.specs.Queries.{clauses_of, member_clauses}
use Rattle.bound_search.specs.Searches.{StandOnce, AddsOnce, HasEachOnce, IsFound}
use Rattle.bound_search.specs.Spelling.{AreMembersRead}
use Rattle.bound_search.proofs.Answering.{answer-met, list-within}
use Rattle.bound_search.proofs.Choosing.{quantified-same}
use Rattle.bound_search.proofs.Naming.{own-names}

-- ---- each lasso once

-- A new lasso stands apart from those before.
once-more : (list : List (Lasso Letter)) (l : Lasso Letter) → StandOnce list →
    ¬ Contains list l → StandOnce (list ++ l ∷ [])
once-more list l once new j k lt few same =
    let whole = length-append list (l ∷ []) in
    let first : get_or (list ++ l ∷ []) j no_lasso ≡ get_or list j no_lasso =
    get_or_append_left list (l ∷ []) no_lasso j (omega (arith, whole, lt, few)) in
    elim (cases_lt k (length list)) [
      | inl inside ↦
          once j k lt inside
          (sym first ∙ same ∙ get_or_append_left list (l ∷ []) no_lasso k inside)
      | inr last ↦
          let e : k ≡ length list = omega (arith, whole, few, last) in
          let own : get_or (list ++ l ∷ []) k no_lasso ≡ l =
          ap (λ i. get_or (list ++ l ∷ []) i no_lasso) e ∙ last-of list l no_lasso in
          let before : j < length list = omega (arith, e, lt) in
          new (
            j,
            before,
            get_or_default list j l no_lasso before ∙ sym first ∙ same ∙ own,
          )
    ]

-- none of the list
pub none_once : (list made : List (Lasso Letter)) → made ≡ [] → HasEachOnce (take 0 list) made
none_once list made none =
    let P : List (Lasso Letter) → Type 0 = HasEachOnce [] in
    subst P (sym none) (record {
      same = λ x. (λ c. c, λ c. c);
      few = omega arith;
      once = λ j k lt few. absurd (omega arith);
    })

-- One more lasso of the list is added, where it is new.
pub each-more : (list made more : List (Lasso Letter)) (k : ℕ) (l : Lasso Letter) →
    k < length list → l ≡ get_or list k l → HasEachOnce (take k list) made →
    AddsOnce made more l → HasEachOnce (take (k + 1) list) more
each-more list made more k l lt at h adds = subst P (sym whole) (of adds)
  where
    P : List (Lasso Letter) → Type 0
    P front = HasEachOnce front more

    whole : take (k + 1) list ≡ take k list ++ l ∷ []
    whole = take_more list k l lt ∙ ap (λ x. take k list ++ x ∷ []) (sym at)

    there : (x : Lasso Letter) → Contains made x → Contains (take k list ++ l ∷ []) x
    there x c = Contains-append_left (take k list) (l ∷ []) x ((h.same x).0 c)

    of : AddsOnce made more l → HasEachOnce (take k list ++ l ∷ []) more
    of (inl (old, e)) =
        let Q : List (Lasso Letter) → Type 0 = HasEachOnce (take k list ++ l ∷ []) in
        subst Q (sym e) (record {
          same = λ x. (
            there x,
            λ c. elim (Contains-append_cases (take k list) (l ∷ []) x c) [
              | inl before ↦ (h.same x).1 before
              | inr last ↦
                  let R : Lasso Letter → Type 0 = Contains made in
                  subst R (contains-one l x last) old
            ],
          );
          few = omega (arith, h.few, length-append (take k list) (l ∷ []));
          once = h.once;
        })
    of (inr (new, e)) =
        let Q : List (Lasso Letter) → Type 0 = HasEachOnce (take k list ++ l ∷ []) in
        subst Q (sym e) (record {
          same = λ x. (
            λ c. elim (Contains-append_cases made (l ∷ []) x c) [
              | inl before ↦ there x before
              | inr last ↦ Contains-append_right (take k list) (l ∷ []) x last
            ],
            λ c. elim (Contains-append_cases (take k list) (l ∷ []) x c) [
              | inl before ↦ Contains-append_left made (l ∷ []) x ((h.same x).1 before)
              | inr last ↦ Contains-append_right made (l ∷ []) x last
            ],
          );
          few = omega (
            arith,
            h.few,
            length-append (take k list) (l ∷ []),
            length-append made (l ∷ []),
          );
          once = once-more made l h.once new;
        })

-- ---- the list

module _ (bound : Bound) (ok : IsBound bound) (prefix : List Quant) (body : Tree)
    (known : vars_below (length prefix) body ≡ true) (values : List Bool)
    (met : SatisfiesAll values (clauses_of bound prefix body)) where
  all-met : AllMet (row values) (clauses_of bound prefix body)
  all-met = satisfied-met values _ met

  -- What is said of each member is true.
  pub members-met : (t : ℕ) → t < bound.traces →
      AllMet (row values) (member_clauses (names_of body) bound t)
  members-met = ((answer-met bound ok prefix body known (row values)).0 all-met).members

  -- Its members, each once, are a list within the bound.
  pub found : (members list : List (Lasso Letter)) →
      AreMembersRead (row values) (names_of body) bound members → HasEachOnce members list →
      IsFound bound prefix body list
  found members list read each =
      let answer = (answer-met bound ok prefix body known (row values)).0 all-met in
      let within : IsWithin bound prefix body members =
      list-within bound ok prefix body known (row values) answer members read.long
      (λ t lt. ((read.each t lt).short, (read.each t lt).spells)) in
      let (i, lt, e) = (each.same (get_or members 0 no_lasso)).1
      (0, within.some, get_or_default members 0 _ no_lasso within.some) in
      record {
        within = record {
          some = omega (arith, lt);
          few = omega (arith, each.few, within.few);
          short = λ l c. within.short l ((each.same l).0 c);
          satisfies = quantified-same (Contains members) (Contains list)
              (λ x. ((each.same x).1, (each.same x).0)) prefix (Meets body) within.satisfies;
        };
        once = each.once;
        normal = λ l c.
            let (k, few, same) = (each.same l).0 c in
            let P : Lasso Letter → Type 0 = IsNormal in
            subst P (get_or_default members k no_lasso l few ∙ same)
            (read.each k (omega (arith, few, read.long))).normal;
        named = λ l c i name h.
            let (k, few, same) = (each.same l).0 c in
            let P : Lasso Letter → Type 0 = λ x. (j n : ℕ) → contains (letter_at x j) n ≡ true →
            Contains (names_of body) n in
            own-names body name (subst P (get_or_default members k no_lasso l few ∙ same)
            (read.each k (omega (arith, few, read.long))).named i name h);
      }

-- The closure of one body, each variable standing for itself.
use Rattle.std.proofs.Common.{◌≡◌, ℕ, zero, suc, ◌+◌, ◌<◌, ◌≤◌, ◌↔◌, Bool, true, false, not, IsTrue, List, [], ◌∷◌, ◌++◌, length, map, get_or, All, None, inl, inr, sym, ap, ◌∙◌, subst, arith, length-append}
use Rattle.std.proofs.lemmas.Bool.{cases_eq}
use Rattle.std.proofs.lemmas.List.{get_or_append_left, length-map}
use Rattle.hy_base.proofs.Places.{last-of}
use Rattle.hy_formula.specs.Temporal.{Span, Words, SatisfiesAt, IsDecided}
use Rattle.hy_formula.specs.Trees.{Tree, vars_below}
use Rattle.hy_formula.specs.Normals.{Normal, HoldsAt, Signed, normal_form}
use Rattle.hy_formula.specs.Renamed.{renamed}
use Rattle.hy_formula.proofs.Normalising.{normal-right}
use Rattle.hy_formula.proofs.Renaming.{renamed-kept}
use Rattle.ltl_closure.specs.declared.numbering.Numbering.{Numbering}
use Rattle.ltl_closure.specs.Bodies.{body_closure, body_nodes, body_root}
use Rattle.ltl_closure.specs.Closures.{closure, form_in, node_of, with_form}
use Rattle.ltl_closure.specs.Jobs.{IsIdentity, Rooted, variable_in}
use Rattle.ltl_closure.specs.Nodes.{Node, node_at, PartsBelow}
use Rattle.ltl_closure.specs.Plain.{plain_node}
use Rattle.ltl_closure.specs.Numbered.{IsClosure, IsNumber, Stands, Visits}
use Rattle.ltl_closure.proofs.Closing.{closure-numbers, number-found}
use Rattle.ltl_closure.proofs.Tasks.{forms-there, none-closed}

pub identity-more : (m : List ℕ) (n : ℕ) → IsIdentity m n → IsIdentity (m ++ n ∷ []) (n + 1)
identity-more m n is =
    record {
      long = length-append m (n ∷ []) ∙ ap (λ k. k + 1) is.long;
      same = λ v lt.
          elim (cases_eq v n) [
            | inl e ↦ ap (λ k. get_or (m ++ n ∷ []) k 0) (e ∙ sym is.long) ∙ last-of m n 0 ∙ sym e
            | inr apart ↦ get_or_append_left m (n ∷ []) 0 v (omega (arith, is.long))
                ∙ is.same v (omega arith)
          ];
    }

-- The root stands in the closure.
root-there : (body : Tree) (b : Bool) → (body_root body b < length (body_nodes body b))
    × (form_in (closure (normal_form b body ∷ [])) (body_root body b) ≡ normal_form b body)
root-there body b =
    let forms : List Normal = normal_form b body ∷ [] in
    let (p, _, below, at) = (forms-there forms [] none-closed).0 in
    let found = number-found (closure forms) (normal_form b body) p below at in
    let many = length-map (closure forms) (node_of (closure forms)) in
    (omega (arith, found.0, below, many), found.1)

pub root-inside : (body : Tree) (b : Bool) → body_root body b < length (body_nodes body b)
root-inside body b = (root-there body b).0

-- The root says the body, or its negation.
pub body-right : (span : Span) (words : Words) → IsDecided span words → (body : Tree) (b : Bool)
    → HoldsAt span words (form_in (closure (normal_form b body ∷ [])) (body_root body b)) 0
    ↔ Signed b (SatisfiesAt span words body 0)
body-right span words decided body b =
    let P : Normal → Type 0 = λ f. HoldsAt span words f 0 ↔ Signed b (SatisfiesAt span words body 0) in
    subst P (sym (root-there body b).1) (normal-right span words decided b body 0)

-- ---- a visit of the body alone

none-stands : (n : Numbering) → n.members.keys ≡ [] → n.full ≡ false → Stands [] n
none-stands n none room =
    record {
      closed = none-closed;
      full = λ full. absurd (let clash : false ≡ true = sym room ∙ full in cc);
      nodes = λ _. ap (map plain_node) none;
    }

one-within : (nodes : List Node) (root : ℕ) → root < length nodes →
    All (λ k. k < length nodes) (root ∷ [])
one-within nodes root lt zero d few = lt
one-within nodes root lt (suc k) d few = absurd (omega (arith, few))

module _ (body : Tree) (b : Bool) (n : ℕ) (small : IsTrue (vars_below n body)) (m : List ℕ)
    (is : IsIdentity m n) where
  module _ (old new : Numbering) (k : ℕ) (none : old.members.keys ≡ []) (room : old.full ≡ false)
      (visits : Visits old (normal_form b (renamed (variable_in m) body)) None
      (normal_form (not b) (renamed (variable_in m) body)) new k) where
    visited : Stands (closure (normal_form b body ∷ [])) new
        × IsNumber (closure (normal_form b body ∷ [])) new k (normal_form b body)
    visited =
        let P : Tree → Type 0 = λ f. Stands (with_form (normal_form b f) []) new
        × IsNumber (with_form (normal_form b f) []) new k (normal_form b f) in
        subst P (renamed-kept (variable_in m) n is.same body small)
        (visits [] (none-stands old none room) tt)

    long : length (body_nodes body b) ≡ length (closure (normal_form b body ∷ []))
    long = length-map (closure (normal_form b body ∷ []))
        (node_of (closure (normal_form b body ∷ [])))

    pub too-many : new.full ≡ true → 1024 < length (body_nodes body b)
    too-many full = let many = visited.0.full full in omega (arith, long, many)

    module _ (fits : new.full ≡ false) where
      nodes-are : map plain_node new.members.keys ≡ body_nodes body b
      nodes-are = visited.0.nodes fits

      pub made : (roots : List ℕ) → roots ≡ k ∷ []
          → record { nodes = map plain_node new.members.keys; roots = roots } ≡ body_closure body b
      made roots e =
          let at : k ≡ body_root body b = visited.1.number fits in
          let R : List Node → List ℕ → Rooted = λ nodes roots. record { nodes = nodes; roots = roots } in
          ap (λ l. R l roots) nodes-are ∙ ap (R (body_nodes body b)) (e ∙ ap (λ r. r ∷ []) at)

      pub few : length new.members.keys ≤ 1024 → length (body_nodes body b) ≤ 1024
      few le =
          let l = length-map new.members.keys plain_node in
          let e = ap length nodes-are in
          omega (arith, l, e, le)

      pub is-closure : length new.members.keys ≤ 1024 → (roots : List ℕ) → roots ≡ k ∷ []
          → IsClosure (map plain_node new.members.keys) roots
      is-closure le roots e =
          let l = length-map new.members.keys plain_node in
          let at : k ≡ body_root body b = visited.1.number fits in
          let R : List ℕ → Type 0 = All (λ j. j < length (map plain_node new.members.keys)) in
          let Q : List Node → Type 0 = λ nodes. All (λ j. j < length nodes) (body_root body b ∷ []) in
          let P : List Node → Type 0 =
          λ nodes. (j : ℕ) → j < length nodes → PartsBelow j (node_at nodes j) in
          record {
            few = omega (arith, l, le);
            operands = subst P (sym nodes-are) (closure-numbers (normal_form b body ∷ [])).parts;
            within = subst R (sym (e ∙ ap (λ r. r ∷ []) at)) (subst Q (sym nodes-are)
                (one-within (body_nodes body b) (body_root body b) (root-inside body b)));
          }

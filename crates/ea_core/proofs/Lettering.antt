-- The letters at branches, member by member and branch by branch.
use Rattle.std.proofs.Common.{◌≡◌, ℕ, suc, ◌+◌, ◌<◌, Bool, cond, List, [], ◌∷◌, ◌++◌, length, take, get_or, Some, slice_get, sym, ap, ◌∙◌, arith}
use Rattle.std.specs.FinSet.{empty, contains}
use Rattle.std.proofs.lemmas.List.FromFn.{fill_by_all}
use Rattle.std.proofs.lemmas.Option.{get_or_from_slice_get}
use Rattle.hy_bits.specs.Letter.{Letter}
use Rattle.ltl_closure.specs.Nodes.{Node, node_at}
use Rattle.ltl_tableau.specs.Branches.{Members, Branch}
use Rattle.ltl_tableau.specs.Reached.{branch_at}
use Rattle.ltl_tableau.specs.Walks.{no_branch}
use Rattle.ltl_tableau.specs.WalkWords.{with_literal, letter_below, letter_of}
use Rattle.ea_reduce.proofs.Adding.{map-next}
use Rattle.ea_core.specs.Shown.{letters_of, rows_of}

module _ (nodes : List Node) (now : Members) (vars k : ℕ) where
  -- The row has the letters of the members below a number.
  abbrev pub AreLetters : List Letter → ℕ → Type 0
  AreLetters row n = (v : ℕ) → v < vars → get_or row v empty ≡ letter_below nodes now v n

  next : (v : ℕ) (b : Bool) → contains now k ≡ b
      → letter_below nodes now v (k + 1) ≡ cond b (with_literal v (node_at nodes k) (letter_below nodes now v k)) (letter_below nodes now v k)
  next v b e =
      let one : k + 1 ≡ suc k = omega arith in
      ap (letter_below nodes now v) one ∙ ap (λ c. cond c (with_literal v (node_at nodes k) (letter_below nodes now v k)) (letter_below nodes now v k)) e

pub letters-all : (nodes : List Node) (branch : Branch) (vars : ℕ) (row : List Letter) → length row ≡ vars
    → ((v : ℕ) → v < vars → get_or row v empty ≡ letter_of nodes v branch) → row ≡ letters_of nodes vars branch
letters-all nodes branch vars row long letters = fill_by_all (λ v. letter_of nodes v branch) row vars empty long letters

-- the row of one more node
pub rows-more : (nodes : List Node) (vars : ℕ) (list : List Branch) (walk : List ℕ) (i node : ℕ) (branch : Branch) (rows new : List (List Letter)) (row : List Letter)
    → slice_get walk i ≡ Some node → slice_get list node ≡ Some branch → row ≡ letters_of nodes vars branch
    → rows ≡ rows_of nodes vars list (take i walk) → new ≡ rows ++ row ∷ [] → new ≡ rows_of nodes vars list (take (i + 1) walk)
rows-more nodes vars list walk i node branch rows new row at there is before e =
    let f : ℕ → List Letter = λ k. letters_of nodes vars (branch_at list k) in
    e ∙ ap (λ rs. rs ++ row ∷ []) before ∙ ap (λ r. rows_of nodes vars list (take i walk) ++ r ∷ []) (is ∙ sym (ap (letters_of nodes vars) (get_or_from_slice_get list node branch no_branch there)))
    ∙ sym (map-next f walk i node at)

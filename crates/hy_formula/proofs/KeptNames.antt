-- Names in buffers: the place of one, and what is there once a new one is added.
use Rattle.std.proofs.Common.{◌≡◌, ℕ, ◌≤◌, ◌<◌, false, List, [], ◌∷◌, ◌++◌, length, position, Vec, vec_items, None, is_some, nat_eq, if◌then◌else◌, IsTrue, refl, ap, ◌∙◌, subst, sym, arith, length-append}
use Rattle.std.specs.List.{list_any}
use Rattle.std.proofs.lemmas.List.{map-append}
use Rattle.std.specs.Cmp.Lexicographic.{pointwise, nat_list_eq_equiv}
use Rattle.hy_formula.specs.Names.{place_of, are_distinct}
use Rattle.hy_formula.specs.KeptNames.{kept_names, is_named}
use Rattle.hy_formula.proofs.Names.{list_any-place_of, position-place_of, are_distinct-push}

module _ {A : Type 0} (name : List ℕ) (kept : List (Vec ℕ A)) where
  pub position-kept : position (λ k. pointwise nat_eq name k.items) kept ≡ place_of name (kept_names kept)
  position-kept = position-place_of (λ b. vec_items b) name _ (λ k. nat_list_eq_equiv.symm name k.items) kept

  pub position-named : position (is_named name) kept ≡ place_of name (kept_names kept)
  position-named = position-place_of (λ b. vec_items b) name _ (λ k. refl) kept

  pub kept-push : (owned : Vec ℕ A) (new : List (Vec ℕ A)) → owned.items ≡ name → place_of name (kept_names kept) ≡ None
      → new ≡ (if list_any (λ k. pointwise nat_eq owned.items k.items) kept then kept else kept ++ owned ∷ [])
      → kept_names new ≡ kept_names kept ++ name ∷ []
  kept-push owned new same none is =
      let absent : list_any (λ k. pointwise nat_eq owned.items k.items) kept ≡ false =
      ap (λ n. list_any (λ k. pointwise nat_eq n k.items) kept) same
      ∙ list_any-place_of (λ b. vec_items b) name _ (λ k. nat_list_eq_equiv.symm name k.items) kept
      ∙ ap is_some none
      in
      ap kept_names is
      ∙ ap (λ b. kept_names (if b then kept else kept ++ owned ∷ [])) absent
      ∙ map-append (λ b. vec_items b) kept (owned ∷ [])
      ∙ ap (λ n. kept_names kept ++ n ∷ []) same

-- what a table keeps
abbrev pub IsTable : List (List ℕ) → Type 0
IsTable names = IsTrue (are_distinct names) × (length names ≤ 64)

pub IsTable-push : (name : List ℕ) (old new : List (List ℕ)) → new ≡ old ++ name ∷ [] → place_of name old ≡ None → length old < 64 → IsTable old → IsTable new
IsTable-push name old new is none room table =
    subst IsTable (sym is) (are_distinct-push name old none table.0, omega (arith, length-append old (name ∷ [])))

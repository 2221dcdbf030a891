-- Rows of values, and the paths that they show.
use Rattle.std.proofs.Common.{◌≡◌, ℕ, suc, ◌+◌, ◌*◌, ◌<◌, Bool, false, List, [], ◌∷◌, ◌++◌, length, get_or, sym, ap, ◌∙◌, arith}
use Rattle.std.specs.Prelude.{slice_index_or}
use Rattle.aig_net.specs.Nets.{latch_variable, variables}
use Rattle.hy_base.specs.Rows.{listed}
use Rattle.hy_base.proofs.Listed.{length-listed, listed-last}
use Rattle.live_safe.specs.declared.safe_net.SafeNet.{SafeNet}
use Rattle.live_safe.specs.declared.safe_net.Path.{Path}
use Rattle.cnf_frames.specs.QueryPaths.{Shows, word_of, row_at}
use Rattle.cnf_frames.proofs.Listing.{listed-at}

-- one more
pub row_more : {A : Type 0} (f : ℕ → A) (n : ℕ) (row more : List A) (x : A) → row ≡ listed 0 n f →
    x ≡ f n → more ≡ row ++ x ∷ [] → more ≡ listed 0 (n + 1) f
row_more f n row more x e same g =
    let up : n + 1 ≡ suc n = omega arith in
    let at : n ≡ 0 + n = omega arith in
    g ∙ ap (λ l. l ++ x ∷ []) e ∙ ap (λ y. listed 0 n f ++ y ∷ []) (same ∙ ap f at)
    ∙ sym (listed-last 0 n f) ∙ ap (λ m. listed 0 m f) (sym up)

-- the values of a row
abbrev pub values_from : List Bool → ℕ → ℕ → List Bool
values_from values start n = listed 0 n (λ v. slice_index_or values (start + v) false)

pub row-as : (values shown : List Bool) (start start' n n' : ℕ) (row : List Bool) →
    row ≡ values_from shown start n → shown ≡ values → start ≡ start' → n ≡ n' →
    row ≡ values_from values start' n'
row-as values shown start start' n n' row e p q r =
    e ∙ ap (λ l. values_from l start n) p ∙ ap (λ x. values_from values x n) q
    ∙ ap (values_from values start') r

value-at : (values : List Bool) (start n v : ℕ) → v < n →
    get_or (values_from values start n) v false ≡ get_or values (start + v) false
value-at values start n v lt =
    listed-at n (λ v. slice_index_or values (start + v) false) false v lt

module _ (safe : SafeNet) (values : List Bool) (path : Path) (n : ℕ) where
  abbrev V : ℕ
  V = variables safe.net

  abbrev L : ℕ
  L = length safe.net.latches

  abbrev I : ℕ
  I = safe.net.inputs

  abbrev row_values : ℕ → List Bool
  row_values i = values_from values (i * V + 1) I

  row-is : path.inputs ≡ listed 0 n row_values → (i : ℕ) → i < length path.inputs →
      row_at path.inputs i ≡ row_values i
  row-is f i lt =
      let few : i < n = omega (arith, lt, ap length f, length-listed 0 n row_values) in
      ap (λ l. row_at l i) f ∙ listed-at n row_values [] i few

  pub shown : path.first ≡ values_from values (1 + I) L → path.inputs ≡ listed 0 n row_values →
      Shows safe path (word_of safe values)
  shown e f = record {
    latches = ap length e ∙ length-listed 0 L (λ v. slice_index_or values (1 + I + v) false);
    first = λ j lt.
        let at : 1 + I + j ≡ 0 * V + latch_variable safe.net j = omega arith in
        ap (λ l. get_or l j false) e ∙ value-at values (1 + I) L j lt
        ∙ ap (λ x. get_or values x false) at;
    inputs = λ i lt. ap length (row-is f i lt)
        ∙ length-listed 0 I (λ v. slice_index_or values (i * V + 1 + v) false);
    rows = λ i v lt few.
        let at : i * V + 1 + v ≡ i * V + suc v = omega arith in
        ap (λ l. get_or l v false) (row-is f i lt) ∙ value-at values (i * V + 1) I v few
        ∙ ap (λ x. get_or values x false) at;
  }

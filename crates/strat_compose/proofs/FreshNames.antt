-- Fresh names differ.
use Rattle.std.proofs.Common.{◌≡◌, ℕ, zero, suc, ◌+◌, ◌<◌, ◌≤◌, false, None, refl, sym, ap, ◌∙◌, arith}
use Rattle.std.specs.Str.{bytes_eq}
use Rattle.std.proofs.lemmas.Bool.{false_from_ne_true}
use Rattle.std.proofs.lemmas.Slice.Eq.{bytes_eq-Decides}
use Rattle.hy_formula.specs.Names.{added_unless, place_of, with_name}
use Rattle.hy_base.specs.Rows.{listed}
use Rattle.hy_base.proofs.Listed.{last-listed}
use Rattle.strat_compose.specs.Driving.{fresh_name, fresh_names}

apart : (c k : ℕ) → c < k → bytes_eq (fresh_name c) (fresh_name k) ≡ false
apart c k lt =
    false_from_ne_true _ (λ is.
    let same : fresh_name c ≡ fresh_name k =
    (bytes_eq-Decides (fresh_name c) (fresh_name k)).0 is in
    let heads : 48 + c ≡ 48 + k = cc in omega (arith, heads))

absent : (k c n : ℕ) → c + n ≤ k → place_of (fresh_name k) (listed c n fresh_name) ≡ None
absent k c zero le = refl
absent k c (suc n) le =
    let rest = absent k (suc c) n (omega arith) in
    let here = apart c k (omega arith) in
    rw (here, rest) refl

-- one more name
pub fresh-more : (k : ℕ) → with_name (fresh_name k) (fresh_names k) ≡ fresh_names (k + 1)
fresh-more k =
    ap (λ place. added_unless place (fresh_name k) (fresh_names k)) (absent k 0 k (omega arith))
    ∙ sym (last-listed k fresh_name)

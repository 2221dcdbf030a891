-- What the variables of a member spell: the letters of a lasso.
use Rattle.std.specs.Prelude.{◌≡◌, ℕ, suc, ◌<◌, true, List, length, slice_index_or}
use Rattle.std.specs.FinSet.{contains, from_list}
use Rattle.std.specs.List.{Contains, filter}
use Rattle.hy_base.specs.Rows.{listed}
use Rattle.hy_bits.specs.Letter.{Letter}
use Rattle.hy_formula.specs.Lassos.{Lasso}
use Rattle.hy_lasso.specs.NormalForms.{IsNormal}
use Rattle.hy_lasso.specs.Words.{no_lasso, letter_at}
use Rattle.chain_check.specs.Values.{Assignment}
use Rattle.bound_search.specs.declared.bound.Bound.{Bound}
use Rattle.bound_search.specs.Bounds.{IsShort}
use Rattle.bound_search.specs.Names.{name_place}
use Rattle.bound_search.specs.Queries.{places, letter_variable}

-- The variables of member t say of each name and each place whether the letter there has the name.
abbrev pub Spells : Assignment → List ℕ → Bound → ℕ → Lasso Letter → Type 0
Spells a names bound t l =
    (name : ℕ) → Contains names name → (i : ℕ) → i < places bound →
    a (letter_variable names bound t (name_place name names) i) ≡ contains (letter_at l i) name

-- the letter that the variables of member t give to place i
abbrev pub letter_read : Assignment → List ℕ → Bound → ℕ → ℕ → Letter
letter_read a names bound t i =
    from_list (filter (λ name. a (letter_variable names bound t (name_place name names) i)) names)

-- the lasso with a cycle of d + 1 letters
abbrev pub lasso_read : Assignment → List ℕ → Bound → ℕ → ℕ → Lasso Letter
lasso_read a names bound t d = record {
  stem = listed 0 bound.stem (letter_read a names bound t);
  cycle = listed bound.stem (suc d) (letter_read a names bound t);
}

-- The variables of member t spell the lasso, which is short, in normal form and over these names.
pub record IsMemberRead (a : Assignment) (names : List ℕ) (bound : Bound) (t : ℕ)
    (l : Lasso Letter) : Type 0 where
  pub short : IsShort bound l
  pub normal : IsNormal l
  pub spells : Spells a names bound t l
  pub named : (i name : ℕ) → contains (letter_at l i) name ≡ true → Contains names name

-- the lassos of all members, in their order
pub record AreMembersRead (a : Assignment) (names : List ℕ) (bound : Bound)
    (list : List (Lasso Letter)) : Type 0 where
  pub long : length list ≡ bound.traces
  pub each : (t : ℕ) → t < bound.traces →
      IsMemberRead a names bound t (slice_index_or list t no_lasso)

-- The row of an operator says where it holds, by rows that say where its parts do.
use Rattle.std.proofs.Common.{◌≡◌, ℕ, ◌+◌, true, false, refl}
use Rattle.hy_formula.specs.Trees.{Tree}
use Rattle.hy_formula.specs.Temporal.{endless, Words, Repeats, SatisfiesAt}
use Rattle.hy_formula.proofs.Repeating.{Steady, steady-or, steady-tree}
use Rattle.chain_check.specs.Values.{Assignment}
use Rattle.bound_search.specs.declared.connectives.Binary.{Binary}
use Rattle.bound_search.specs.declared.connectives.Binary.TheVariants.{And, Or, Implies, Iff, Until, Release, Weak}
use Rattle.bound_search.specs.declared.connectives.Unary.{Unary}
use Rattle.bound_search.specs.declared.connectives.Unary.TheVariants.{Not, Next, Finally, Globally}
use Rattle.bound_search.specs.Rows.{Row, turned, both_here, either_here, alike_here, row_by_one, row_by_two}
use Rattle.bound_search.specs.Shapes.{is_temporal_one, is_temporal_two}
use Rattle.bound_search.proofs.RightGates.{Gives, gives-plain, gives-followed}
use Rattle.bound_search.proofs.Saying.{says-both, says-either, says-alike, says-implies}
use Rattle.bound_search.proofs.Shapes.{one_tree, two_tree}
use Rattle.bound_search.proofs.Stepping.{told-pairs, told-until, told-finally, told-release, told-globally}
use Rattle.bound_search.proofs.Telling.{IsTold, told-like, told-turned, told-next}

module _ (a : Assignment) (sure_is : a 0 ≡ true) (u : Words) where
  -- the row says at the first z places whether the tree holds
  abbrev Tells : ℕ → Tree → Row → Type 0
  Tells z f = IsTold a (SatisfiesAt endless u f) 0 z

  -- ---- at any number of places

  pub told-at-one : (op : Unary) → is_temporal_one op ≡ false → (s z : ℕ) (f : Tree) (row : Row) →
      Tells z f row → Gives a (row_by_one op s row) (Tells z (one_tree op f))
  told-at-one Not e s z f row t = gives-plain a _ _ (told-turned a _ 0 z row t)
  told-at-one _ e s z f row t = absurd (cc)

  pub told-at-two : (op : Binary) → is_temporal_two op ≡ false → (s z : ℕ) (f g : Tree)
      (left right : Row) → Tells z f left → Tells z g right →
      Gives a (row_by_two op s left right) (Tells z (two_tree op f g))
  told-at-two And e s z f g left right =
      told-pairs a sure_is both_here _ _ _ (λ k l r _. says-both a l r _ _) z left right
  told-at-two Or e s z f g left right =
      told-pairs a sure_is either_here _ _ _ (λ k l r _. says-either a l r _ _) z left right
  told-at-two Implies e s z f g left right = λ t.
      told-pairs a sure_is either_here _ _ _ (λ k l r _. says-implies a l r _ _) z (turned left)
      right (told-turned a _ 0 z left t)
  told-at-two Iff e s z f g left right =
      told-pairs a sure_is alike_here _ _ _ (λ k l r _. says-alike a l r _ _) z left right
  told-at-two _ e s z f g left right = absurd (cc)

  -- ---- at s + c places of words that repeat after c places from s on

  module _ (s c : ℕ) (repeats : Repeats u s c) where
    steady : (f : Tree) → Steady s c (SatisfiesAt endless u f)
    steady f = steady-tree s c u repeats f

    pub told-by-one : (op : Unary) (f : Tree) (row : Row) → Tells (s + c) f row →
        Gives a (row_by_one op s row) (Tells (s + c) (one_tree op f))
    told-by-one Next f row t =
        gives-plain a _ _ (told-like a _ _ 0 (s + c) (λ k _. (λ h. (tt, h), λ (_, h). h)) _
        (told-next a _ s c repeats.some (steady f) row t))
    told-by-one Finally f row t = told-finally a sure_is s c repeats.some _ (steady f) row t
    told-by-one Globally f row t = told-globally a sure_is s c repeats.some _ (steady f) row t
    told-by-one op f row t = told-at-one op refl s (s + c) f row t

    pub told-by-two : (op : Binary) (f g : Tree) (left right : Row) → Tells (s + c) f left →
        Tells (s + c) g right → Gives a (row_by_two op s left right) (Tells (s + c) (two_tree op f g))
    told-by-two Until f g left right =
        told-until a sure_is s c repeats.some _ _ (steady f) (steady g) left right
    told-by-two Release f g left right =
        told-release a sure_is s c repeats.some _ _ (steady f) (steady g) left right
    told-by-two Weak f g left right = λ t v.
        gives-followed a _ _ _ _ (told-at-two Or refl s (s + c) f g left right t v) (λ one w.
        told-release a sure_is s c repeats.some _ _ (steady g)
        (steady-or s c _ _ (steady f) (steady g)) right one v w)
    told-by-two op f g left right = told-at-two op refl s (s + c) f g left right

-- A node to which one of the last component leads is taken up: it is opened, joined, or done.
use Rattle.std.proofs.Common.{◌≡◌, ℕ, ◌<◌, ◌≤◌, List, [], ◌∷◌, length, get_or, refl, sym, ap, subst, arith}
use Rattle.std.specs.List.{Contains}
use Rattle.std.proofs.Math.ListN.{length-append, get_or-append}
use Rattle.rank_check.specs.Graphs.{Shape, IsEdge}
use Rattle.fair_search.specs.declared.pass.Place.{Place}
use Rattle.fair_search.specs.declared.pass.Place.TheVariants.{New, Open, Done}
use Rattle.fair_search.specs.declared.pass.Pass.{Pass}
use Rattle.fair_search.specs.Passing.{place_of, IsUp, SettledAt, IsPass, IsLast, HasReached}
use Rattle.fair_search.proofs.Opening.{MayOpen, Opened, opened_pass, open_here}
use Rattle.fair_search.proofs.Merging.{from_all, Merged, merged_pass, merged_settled}

module _ (g : Shape) (p : Pass) (is : IsPass g p) (i w : ℕ) (last : IsLast p i)
    (edge : IsEdge g (get_or p.stack i 0) w) where
  pub may_open : place_of p w ≡ New → w < length g.nodes → MayOpen g p w
  may_open unseen made = record {
    unseen = unseen;
    made = made;
    reached = λ q lt. from_all g p is i w last edge q lt;
    starting = λ e. absurd (omega (arith, e, last.0));
  }

  module _ (unseen : place_of p w ≡ New) (made : w < length g.nodes) where
    pub reached_new : HasReached g p (Opened g p is w (may_open unseen made)) i w
    reached_new = record {
      pass = opened_pass g p is w (may_open unseen made);
      settled =
          (let P : Place → Type 0 = SettledAt (Opened g p is w (may_open unseen made)) i in
          subst P (sym (open_here g p is w (may_open unseen made)))
          (λ b there lt le. omega (arith, lt, le, last.0)));
      explored = refl;
      begun = refl;
      standing = omega (arith, length-append p.stack (w ∷ []), last.0);
      node = get_or-append p.stack (w ∷ []) 0 i last.0;
      size = omega (
        arith,
        length-append p.stack (w ∷ []),
        length-append p.pending (length p.stack ∷ []),
      );
    }

  module _ (j : ℕ) (at : place_of p w ≡ Open j) (starts : List ℕ) (rises : IsUp starts)
      (was : (b : ℕ) → Contains starts b → Contains p.starts b × (b ≤ j))
      (kept : (b : ℕ) → Contains p.starts b → b ≤ j → Contains starts b) where
    node_j : get_or p.stack j 0 ≡ w
    node_j = (is.opened w j at).1

    pub edge_j : IsEdge g (get_or p.stack i 0) (get_or p.stack j 0)
    edge_j = let P : ℕ → Type 0 = IsEdge g (get_or p.stack i 0) in subst P (sym node_j) edge

    pub reached_open : HasReached g p (Merged g p is i j last edge_j (is.opened w j at).0 starts
        rises was kept) i w
    reached_open = record {
      pass = merged_pass g p is i j last edge_j (is.opened w j at).0 starts rises was kept;
      settled =
          (let P : Place → Type 0 = SettledAt (Merged g p is i j last edge_j (is.opened w j at).0
          starts rises was kept) i in
          subst P (ap (place_of p) node_j) (merged_settled g p is i j last edge_j
          (is.opened w j at).0 starts rises was kept));
      explored = refl;
      begun = refl;
      standing = last.0;
      node = refl;
      size = omega arith;
    }

  pub reached_done : (r : ℕ) → place_of p w ≡ Done r → HasReached g p p i w
  reached_done r at = record {
    pass = is;
    settled = (let P : Place → Type 0 = SettledAt p i in subst P (sym at) tt);
    explored = refl;
    begun = refl;
    standing = last.0;
    node = refl;
    size = omega arith;
  }

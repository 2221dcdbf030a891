-- Nodes of a component are done one after another.
use Rattle.std.proofs.Common.{◌≡◌, ◌≢◌, ℕ, ◌+◌, ◌<◌, ◌≤◌, Bool, true, cond, List, [], ◌∷◌, ◌++◌, length, get_or, set, take, inl, inr, refl, sym, ap, ◌∙◌, subst, arith}
use Rattle.std.specs.List.{Contains, All}
use Rattle.std.proofs.Math.ListN.{length-set}
use Rattle.std.proofs.lemmas.Bool.{cases_eq}
use Rattle.std.proofs.lemmas.List.{get_or-set_same, get_or-set_other, take_more, take_all}
use Rattle.std.proofs.lemmas.List.Elements.{Contains-push, Contains-append_left, Contains-push_cases}
use Rattle.std.proofs.lemmas.List.Sums.{sum_by-set}
use Rattle.fair_search.specs.declared.pass.Place.{Place}
use Rattle.fair_search.specs.declared.pass.Place.TheVariants.{New, Done}
use Rattle.fair_search.specs.Passing.{is_seen, AreDone}

pub done-none : (r : ℕ) (old : List Place) → AreDone [] r old old
done-none r old = record {
  long = refl;
  count = refl;
  seen = λ v. refl;
  done = λ v there. absurd (omega (arith, there.1));
  kept = λ v none. refl;
}

module _ (xs : List ℕ) (r : ℕ) (old new : List Place) (so : AreDone xs r old new) (v : ℕ)
    (made : v < length old) (was : is_seen (get_or old v New) ≡ true) where
  abbrev Next : List Place
  Next = set new v (Done r)

  there : v < length new
  there = omega (arith, so.long, made)

  here : get_or Next v New ≡ Done r
  here = get_or-set_same new v (Done r) New there

  other : (w : ℕ) → w ≢ v → get_or Next w New ≡ get_or new w New
  other w apart = get_or-set_other new v w (Done r) New apart

  next_seen : (w : ℕ) → is_seen (get_or Next w New) ≡ is_seen (get_or old w New)
  next_seen w =
      elim (cases_eq w v) [
        | inl e ↦ ap (λ w. is_seen (get_or Next w New)) e ∙ ap is_seen here ∙ sym was
            ∙ sym (ap (λ w. is_seen (get_or old w New)) e)
        | inr apart ↦ ap is_seen (other w apart) ∙ so.seen w
      ]

  next_done : (w : ℕ) → Contains (xs ++ v ∷ []) w → get_or Next w New ≡ Done r
  next_done w in_it =
      elim (cases_eq w v) [
        | inl e ↦ ap (λ w. get_or Next w New) e ∙ here
        | inr apart ↦
            elim (Contains-push_cases xs v w in_it) [
              | inl before ↦ other w apart ∙ so.done w before
              | inr e ↦ absurd (apart (sym e))
            ]
      ]

  next_kept : (w : ℕ) → ¬ Contains (xs ++ v ∷ []) w → get_or Next w New ≡ get_or old w New
  next_kept w none =
      let P : ℕ → Type 0 = Contains (xs ++ v ∷ []) in
      other w (λ e. none (subst P (sym e) (Contains-push xs v)))
      ∙ so.kept w (λ before. none (Contains-append_left xs (v ∷ []) w before))

  pub done-more : AreDone (xs ++ v ∷ []) r old Next
  done-more = record {
    long = length-set new v (Done r) ∙ so.long;
    count =
        (let unit : Bool → ℕ = λ b. cond b 1 0 in
        let one : unit (is_seen (get_or new v New)) ≡ 1 = ap unit (so.seen v ∙ was) in
        let sums = sum_by-set (λ x. cond (is_seen x) 1 0) new v (Done r) New there in
        omega (arith, sums, one, so.count));
    seen = next_seen;
    done = next_done;
    kept = next_kept;
  }

-- the step of the loop at index i
pub done-step : (nodes : List ℕ) (i r : ℕ) (old new : List Place) → i < length nodes
    → All (λ v. v < length old) nodes → All (λ v. is_seen (get_or old v New) ≡ true) nodes
    → AreDone (take i nodes) r old new → AreDone (take (i + 1) nodes) r old
    (set new (get_or nodes i 0) (Done r))
done-step nodes i r old new lt made seen so =
    let P : List ℕ → Type 0 = λ xs. AreDone xs r old (set new (get_or nodes i 0) (Done r)) in
    subst P (sym (take_more nodes i 0 lt)) (done-more (take i nodes) r old new so (get_or nodes i 0)
    (made i 0 lt) (seen i 0 lt))

pub done-all : (nodes : List ℕ) (i r : ℕ) (old new : List Place) → length nodes ≤ i
    → AreDone (take i nodes) r old new → AreDone nodes r old new
done-all nodes i r old new le so = let P : List ℕ
    → Type 0 = λ xs. AreDone xs r old new in subst P (take_all i nodes le) so

-- Sublists, and those facts for which something holds.
use Rattle.std.proofs.Common.{◌≡◌, ℕ, ◌+◌, ◌<◌, ◌≤◌, List, [], ◌∷◌, ◌++◌, length, inl, inr, sym, ◌∙◌, ap, subst, arith, get_or, take}
use Rattle.std.specs.Prelude.{Contains, Some, slice_get}
use Rattle.std.proofs.lemmas.Option.{get_or_from_slice_get, slice_get_within}
use Rattle.std.proofs.lemmas.List.{append-nil, take_more}
use Rattle.std.proofs.lemmas.List.Elements.{Contains-append_left, Contains-append_right, Contains-push, Contains-push_cases}
use Rattle.hy_base.proofs.Members.{contains-none, contains-cases}
use Rattle.cnf_frames.specs.declared.facts.Fact.{Fact}
use Rattle.cnf_frames.specs.Facts.{AllIn, IsIn}
use Rattle.invar_find.specs.Parts.{IsSublist, none, leaves, takes, AreThose}

pub sublist-refl : (facts : List Fact) → IsSublist facts facts
sublist-refl [] = none
sublist-refl (f ∷ facts) = takes (sublist-refl facts)

pub sublist-trans : {some more all : List Fact} → IsSublist some more → IsSublist more all →
    IsSublist some all
sublist-trans s none = s
sublist-trans s (leaves t) = leaves (sublist-trans s t)
sublist-trans (leaves s) (takes t) = leaves (sublist-trans s t)
sublist-trans (takes s) (takes t) = takes (sublist-trans s t)

pub sublist-among : (some all : List Fact) → IsSublist some all → (f : Fact) →
    Contains some f → Contains all f
sublist-among some all none f has = has
sublist-among some (g ∷ all) (leaves s) f has =
    Contains-append_right (g ∷ []) all f (sublist-among some all s f has)
sublist-among (g ∷ some) (g' ∷ all) (takes s) f has = elim (contains-cases g f some has) [
  | inl same ↦
      let P : Fact → Type 0 = λ x. Contains (g ∷ all) x in
      subst P same (Contains-append_left (g ∷ []) all g (Contains-push [] g))
  | inr later ↦ Contains-append_right (g ∷ []) all f (sublist-among some all s f later)
]

pub sublist-length : {some all : List Fact} → IsSublist some all → length some ≤ length all
sublist-length none = omega arith
sublist-length (leaves s) = let h = sublist-length s in omega arith
sublist-length (takes s) = let h = sublist-length s in omega arith

pub sublist-shorter : (some all : List Fact) (f : Fact) → IsSublist some all → Contains all f →
    ¬ Contains some f → length some < length all
sublist-shorter some all f none has not_there = absurd (not_there has)
sublist-shorter some (g ∷ all) f (leaves s) has not_there =
    let h = sublist-length s in omega arith
sublist-shorter (g ∷ some) (g' ∷ all) f (takes s) has not_there =
    let rest = sublist-shorter some all f s
    (elim (contains-cases g f all has) [
      | inl same ↦
          let P : Fact → Type 0 = λ x. Contains (g ∷ some) x in
          absurd (not_there
          (subst P same (Contains-append_left (g ∷ []) some g (Contains-push [] g))))
      | inr later ↦ later
    ])
    (λ there. not_there (Contains-append_right (g ∷ []) some f there)) in
    omega arith

pub sublist-append : {some all more whole : List Fact} → IsSublist some all →
    IsSublist more whole → IsSublist (some ++ more) (all ++ whole)
sublist-append none t = t
sublist-append (leaves s) t = leaves (sublist-append s t)
sublist-append (takes s) t = takes (sublist-append s t)

-- ---- those for which something holds

pub those-none : (P : Fact → Type 0) → AreThose P [] []
those-none P = record {
  sublist = none;
  right = λ f has. absurd (contains-none f has);
  whole = λ f has holds. has;
}

pub those-more : (P : Fact → Type 0) (all some : List Fact) (f : Fact) → AreThose P all some →
    P f → AreThose P (all ++ f ∷ []) (some ++ f ∷ [])
those-more P all some f those holds = record {
  sublist = sublist-append those.sublist (takes none);
  right = λ g has. elim (Contains-push_cases some f g has) [
    | inl before ↦ those.right g before
    | inr same ↦ subst P same holds
  ];
  whole = λ g has right. elim (Contains-push_cases all f g has) [
    | inl before ↦ Contains-append_left some (f ∷ []) g (those.whole g before right)
    | inr same ↦
        let Q : Fact → Type 0 = λ x. Contains (some ++ f ∷ []) x in
        subst Q same (Contains-push some f)
  ];
}

pub those-less : (P : Fact → Type 0) (all some : List Fact) (f : Fact) → AreThose P all some →
    ¬ P f → AreThose P (all ++ f ∷ []) some
those-less P all some f those fails = record {
  sublist =
      let S : List Fact → Type 0 = λ x. IsSublist x (all ++ f ∷ []) in
      subst S (append-nil some) (sublist-append those.sublist (leaves {f = f} none));
  right = those.right;
  whole = λ g has right. elim (Contains-push_cases all f g has) [
    | inl before ↦ those.whole g before right
    | inr same ↦ absurd (fails (subst P (sym same) right))
  ];
}

-- ---- along a list

more-taken : (all : List Fact) (i : ℕ) (f : Fact) → i < length all → f ≡ get_or all i f →
    take (i + 1) all ≡ take i all ++ f ∷ []
more-taken all i f lt at = take_more all i f lt ∙ ap (λ g. take i all ++ g ∷ []) (sym at)

pub those-taken : (P : Fact → Type 0) (all some left : List Fact) (i : ℕ) (f : Fact) →
    AreThose P (take i all) some → i < length all → f ≡ get_or all i f → P f →
    left ≡ some ++ f ∷ [] → AreThose P (take (i + 1) all) left
those-taken P all some left i f those lt at holds e =
    let A : List Fact → Type 0 = λ all. AreThose P all left in
    let L : List Fact → Type 0 = AreThose P (take i all ++ f ∷ []) in
    subst A (sym (more-taken all i f lt at))
    (subst L (sym e) (those-more P (take i all) some f those holds))

pub those-left : (P : Fact → Type 0) (all some left : List Fact) (i : ℕ) (f : Fact) →
    AreThose P (take i all) some → i < length all → f ≡ get_or all i f → ¬ P f → left ≡ some →
    AreThose P (take (i + 1) all) left
those-left P all some left i f those lt at fails e =
    let A : List Fact → Type 0 = λ all. AreThose P all left in
    let L : List Fact → Type 0 = AreThose P (take i all ++ f ∷ []) in
    subst A (sym (more-taken all i f lt at))
    (subst L (sym e) (those-less P (take i all) some f those fails))

pub in-push : (n : ℕ) (facts more : List Fact) (f : Fact) → AllIn n facts → IsIn n f →
    more ≡ facts ++ f ∷ [] → AllIn n more
in-push n facts more f inside here made g has =
    let M : List Fact → Type 0 = λ more. Contains more g in
    elim (Contains-push_cases facts f g (subst M made has)) [
      | inl old ↦ inside g old
      | inr same ↦ let P : Fact → Type 0 = IsIn n in subst P same here
    ]

pub in-more : (n : ℕ) (facts items basis left : List Fact) (i : ℕ) (g : Fact) → AllIn n facts →
    items ≡ facts → AllIn n basis → i < length items → g ≡ get_or items i g →
    left ≡ basis ++ g ∷ [] → AllIn n left
in-more n facts items basis left i g inside e before lt at made =
    let C : List Fact → Type 0 = λ facts. Contains facts g in
    in-push n basis left g before (inside g (subst C e (i, lt, sym at))) made

pub in-at : (n : ℕ) (facts : List Fact) (k : ℕ) (f : Fact) → AllIn n facts →
    slice_get facts k ≡ Some f → IsIn n f
in-at n facts k f inside at =
    inside f (k, slice_get_within facts k f at, get_or_from_slice_get facts k f f at)

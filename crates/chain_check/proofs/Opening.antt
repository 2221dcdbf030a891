-- How many literals of a growing clause are not false.
use Rattle.std.proofs.Common.{◌≡◌, ◌≢◌, ℕ, List, [], ◌∷◌, ◌++◌, take, drop, inl, inr, sym, subst, arith}
use Rattle.std.specs.Prelude.{ℤ}
use Rattle.std.proofs.lemmas.List.{take-append-drop}
use Rattle.std.proofs.lemmas.List.Elements.{Contains-append_left, Contains-push, Contains-push_cases}
use Rattle.chain_check.specs.declared.partial.Open.{Open}
use Rattle.chain_check.specs.declared.partial.Open.TheVariants.{Nothing, One, More}
use Rattle.chain_check.specs.Clauses.{Clause}
use Rattle.chain_check.specs.Chains.{IsFalseIn, AllFalseIn, IsUnit, AreTwo}
use Rattle.chain_check.specs.Opens.{IsOpenness}

pub still-false : (trues : List ℤ) (c : Clause) (l : ℤ) → IsFalseIn trues l → AllFalseIn trues c →
    AllFalseIn trues (c ++ l ∷ [])
still-false trues c l false' all m there = elim
    (Contains-push_cases c l m there) [
      | inl h ↦ all m h
      | inr e ↦ let P : ℤ → Type 0 =
          IsFalseIn trues in subst P e false'
    ]

still-unit : (trues : List ℤ) (c : Clause) (l u : ℤ) → IsFalseIn trues l → IsUnit trues c u →
    IsUnit trues (c ++ l ∷ []) u
still-unit trues c l u false' unit = record {
  there = Contains-append_left c (l ∷ []) u unit.there;
  open_yet = unit.open_yet;
  others = λ m there apart. elim (Contains-push_cases c l m there) [
    | inl h ↦ unit.others m h apart
    | inr e ↦ let P : ℤ → Type 0 = IsFalseIn trues in
        subst P e false'
  ];
}

two-more : (trues : List ℤ) (c d : Clause) (l m : ℤ) → AreTwo trues c l m →
    AreTwo trues (c ++ d) l m
two-more trues c d l m two = record {
  first = Contains-append_left c d l two.first;
  second = Contains-append_left c d m two.second;
  differ = two.differ;
  open_first = two.open_first;
  open_second = two.open_second;
}

pub openness-false : (trues : List ℤ) (c : Clause) (l : ℤ) (o : Open) → IsFalseIn trues l →
    IsOpenness trues c o → IsOpenness trues (c ++ l ∷ []) o
openness-false trues c l Nothing false' is = still-false trues c l false' is
openness-false trues c l (One u) false' is = still-unit trues c l u false' is
openness-false trues c l More false' (u, v, two) = (u, v, two-more trues c (l ∷ []) u v two)

pub openness-first : (trues : List ℤ) (c : Clause) (l : ℤ) → ¬ IsFalseIn trues l →
    AllFalseIn trues c → IsUnit trues (c ++ l ∷ []) l
openness-first trues c l open' all = record {
  there = Contains-push c l;
  open_yet = open';
  others = λ m there apart. elim (Contains-push_cases c l m there)
      [ inl h ↦ all m h | inr e ↦ absurd (apart (sym e)) ];
}

pub openness-again : (trues : List ℤ) (c : Clause) (l : ℤ) → IsUnit trues c l →
    IsUnit trues (c ++ l ∷ []) l
openness-again trues c l unit = record {
  there = Contains-push c l;
  open_yet = unit.open_yet;
  others = λ m there apart. elim (Contains-push_cases c l m there)
      [ inl h ↦ unit.others m h apart | inr e ↦ absurd (apart (sym e)) ];
}

pub openness-second : (trues : List ℤ) (c : Clause) (l u : ℤ) → ¬ IsFalseIn trues l → u ≢ l →
    IsUnit trues c u → AreTwo trues (c ++ l ∷ []) u l
openness-second trues c l u open' apart unit = record {
  first = Contains-append_left c (l ∷ []) u unit.there;
  second = Contains-push c l;
  differ = apart;
  open_first = unit.open_yet;
  open_second = open';
}

pub openness-front : (trues : List ℤ) (c : Clause) (i : ℕ) → IsOpenness trues (take i c) More →
    IsOpenness trues c More
openness-front trues c i (u, v, two) =
    let P : Clause → Type 0 = λ d. AreTwo trues d u v in
    (u, v, subst P (take-append-drop i c) (two-more trues (take i c) (drop i c) u v two))

pub openness-none : (trues : List ℤ) → AllFalseIn trues []
openness-none trues l (k, lt, e) = absurd (omega arith)

-- with one literal more that is not false
abbrev pub Widens : ℤ → Open → Open → Type 0
Widens l before after = (trues : List ℤ) (c : Clause) → ¬ IsFalseIn trues l →
    IsOpenness trues c before → IsOpenness trues (c ++ l ∷ []) after

pub widens-none : (l : ℤ) → Widens l Nothing (One l)
widens-none l trues c open' is = openness-first trues c l open' is

pub widens-one : (l m : ℤ) → m ≡ l → Widens l (One m) (One l)
widens-one l m same trues c open' is = let P : ℤ → Type 0 = IsUnit trues c in
    openness-again trues c l (subst P same is)

pub widens-two : (l m : ℤ) → m ≢ l → Widens l (One m) More
widens-two l m apart trues c open' is = (m, l, openness-second trues c l m open' apart is)

pub widens-more : (l : ℤ) → Widens l More More
widens-more l trues c open' (u, v, two) = (u, v, two-more trues c (l ∷ []) u v two)

-- The signals of the names of a body, one name more at a time.
use Rattle.std.proofs.Common.{◌≡◌, ℕ, zero, suc, ◌+◌, ◌<◌, Bool, true, false, ◌&&◌, cond, nat_eq, List, [], ◌∷◌, ◌++◌, IsTrue, Some, is_some, All, inl, inr, refl, sym, ap, ◌∙◌, subst, arith}
use Rattle.std.proofs.lemmas.Bool.{cases_eq, false_from_ne_true}
use Rattle.std.proofs.lemmas.Bool.Decides.{Decides-eqb}
use Rattle.std.proofs.lemmas.List.Elements.{Contains-append_cases, All-push}
use Rattle.hy_formula.specs.Trees.{Tree}
use Rattle.aig_net.specs.declared.signals.Signal.{Signal}
use Rattle.aig_net.specs.Nets.{Net}
use Rattle.aig_net.specs.Signals.{has_signal, is_for, literal_of}
use Rattle.net_names.specs.declared.meaning.Meaning.{Meaning}
use Rattle.net_names.specs.declared.meaning.Meaning.TheVariants.{Nothing, Literal, Several}
use Rattle.net_names.specs.Meanings.{AreBelow, Means}
use Rattle.hy_formula.specs.Atoms.{has_name}
use Rattle.net_names.specs.Names.{HasLiteral, IsFirstBad, IsOnly, name_at}

-- a list whose names are below k has none of it
lacks : (signals : List Signal) (k : ℕ) → All (λ s. s.name < k) signals →
    has_signal signals k 0 ≡ false
lacks [] k below = refl
lacks (s ∷ signals) k below =
    let no : nat_eq s.name k ≡ false = false_from_ne_true _ (λ h.
    (let e = (Decides-eqb s.name k).0 h in let lt = below 0 s (omega arith) in
    omega (arith, e, lt))) in
    ap (λ b. is_some (cond (b && nat_eq s.var 0) (Some s.literal) (literal_of signals k 0))) no
    ∙ lacks signals k (λ j d lt. below (suc j) d (omega arith))

has-more : (xs ys : List Signal) (name : ℕ) → has_signal xs name 0 ≡ true →
    has_signal (xs ++ ys) name 0 ≡ true
has-more [] ys name h = absurd (cc)
has-more (x ∷ xs) ys name h = at (is_for name 0 x) h (has-more xs ys name)
  where
    at : (b : Bool) → is_some (cond b (Some x.literal) (literal_of xs name 0)) ≡ true →
        (has_signal xs name 0 ≡ true → has_signal (xs ++ ys) name 0 ≡ true) →
        is_some (cond b (Some x.literal) (literal_of (xs ++ ys) name 0)) ≡ true
    at true h rec = refl
    at false h rec = rec h

has-last : (xs : List Signal) (s : Signal) → s.var ≡ 0 →
    has_signal (xs ++ s ∷ []) s.name 0 ≡ true
has-last [] s own =
    let here : is_for s.name 0 s ≡ true =
    ap (λ b. b && nat_eq s.var 0) ((Decides-eqb s.name s.name).1 refl)
    ∙ (Decides-eqb s.var 0).1 own in
    ap (λ b. is_some (cond b (Some s.literal) (literal_of [] s.name 0))) here
has-last (x ∷ xs) s own = at (is_for s.name 0 x) (has-last xs s own)
  where
    at : (b : Bool) → has_signal (xs ++ s ∷ []) s.name 0 ≡ true →
        is_some (cond b (Some x.literal) (literal_of (xs ++ s ∷ []) s.name 0)) ≡ true
    at true h = refl
    at false h = h

module _ (net : Net) (names : List (List ℕ)) (body : Tree) where
  pub fresh_name : (k : ℕ) (signals : List Signal) → AreBelow net names body k signals →
      has_signal signals k 0 ≡ false
  fresh_name k signals are = lacks signals k are.below

  pub below_skip : (k : ℕ) (signals : List Signal) → has_name body k ≡ false →
      AreBelow net names body k signals → AreBelow net names body (k + 1) signals
  below_skip k signals off are = record {
    own = are.own;
    each = are.each;
    every = λ j lt h. elim (cases_eq j k) [
      | inl e ↦ absurd (let clash : has_name body k ≡ true = ap (has_name body) (sym e) ∙ h in cc)
      | inr apart ↦ are.every j (omega (arith, lt, apart)) h
    ];
    below = λ i d lt. let b = are.below i d lt in omega (arith, b);
    only = λ j lt h. elim (cases_eq j k) [
      | inl e ↦ absurd (let clash : has_name body k ≡ true = ap (has_name body) (sym e) ∙ h in cc)
      | inr apart ↦ are.only j (omega (arith, lt, apart)) h
    ];
  }

  pub below_push : (k : ℕ) (signals more : List Signal) (s : Signal) → has_name body k ≡ true →
      s.name ≡ k → s.var ≡ 0 → IsOnly net (name_at names k) s.literal →
      AreBelow net names body k signals → more ≡ signals ++ s ∷ [] →
      AreBelow net names body (k + 1) more
  below_push k signals more s on named own only are added =
      let P : List Signal → Type 0 = AreBelow net names body (k + 1) in
      subst P (sym added) (record {
        own = All-push (λ s. s.var ≡ 0) signals s are.own own;
        each = λ y there. elim (Contains-append_cases signals (s ∷ []) y there) [
          | inl before ↦ are.each y before
          | inr (zero, lt, e) ↦
              let Q : Signal → Type 0 = λ y. IsTrue (has_name body y.name)
              × IsOnly net (name_at names y.name) y.literal in
              let R : ℕ → Type 0 = λ n. IsTrue (has_name body n)
              × IsOnly net (name_at names n) s.literal in
              subst Q e (subst R (sym named) (on, only))
          | inr (suc i, lt, e) ↦ absurd (omega (arith, lt))
        ];
        every = λ j lt h. elim (cases_eq j k) [
          | inl e ↦
              let Q : ℕ → Type 0 = λ j. has_signal (signals ++ s ∷ []) j 0 ≡ true in
              subst Q (named ∙ sym e) (has-last signals s own)
          | inr apart ↦ has-more signals (s ∷ []) j (are.every j (omega (arith, lt, apart)) h)
        ];
        below = All-push (λ s. s.name < k + 1) signals s
            (λ i d lt. let b = are.below i d lt in omega (arith, b)) (omega (arith, named));
        only = λ j lt h. elim (cases_eq j k) [
          | inl e ↦
              let Q : ℕ → Type 0 = λ j. IsOnly net (name_at names j) s.literal in
              (s.literal, subst Q (sym e) only)
          | inr apart ↦ are.only j (omega (arith, lt, apart)) h
        ];
      })

  pub literal_only : (name : List ℕ) (m : Meaning) (l : ℕ) → Means (HasLiteral net name) m →
      m ≡ Literal l → IsOnly net name l
  literal_only name m l means is =
      let P : Meaning → Type 0 = Means (HasLiteral net name) in
      let (has, only) = subst P is means in
      record { has = has; only = only }

  pub first_none : (k : ℕ) (signals : List Signal) (m : Meaning) (name : List ℕ) →
      name ≡ name_at names k → AreBelow net names body k signals → has_name body k ≡ true →
      Means (HasLiteral net name) m → m ≡ Nothing → IsFirstBad net names body k false
  first_none k signals m name same are on means is =
      let P : Meaning → Type 0 = Means (HasLiteral net name) in
      let Q : List ℕ → Type 0 = λ name. (l : ℕ) → ¬ HasLiteral net name l in
      record { there = on; bad = subst Q same (subst P is means); first = are.only }

  pub first_several : (k : ℕ) (signals : List Signal) (m : Meaning) (name : List ℕ) →
      name ≡ name_at names k → AreBelow net names body k signals → has_name body k ≡ true →
      Means (HasLiteral net name) m → m ≡ Several → IsFirstBad net names body k true
  first_several k signals m name same are on means is =
      let P : Meaning → Type 0 = Means (HasLiteral net name) in
      let Q : List ℕ → Type 0 = λ name. Means (HasLiteral net name) Several in
      record { there = on; bad = subst Q same (subst P is means); first = are.only }

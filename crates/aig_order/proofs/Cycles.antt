-- What an and depends on, it depends on by few others.
use Rattle.std.proofs.Common.{◌≡◌, ℕ, zero, suc, ◌+◌, ◌-◌, ◌<◌, ◌≤◌, true, inl, inr, refl, sym, ◌∙◌, subst, arith, List, length, ap}
use Rattle.std.specs.Prelude.{IsTrue, ◌↔◌}
use Rattle.std.proofs.lemmas.Bool.{cases_eq, cases_lt, and_parts, or_cases}
use Rattle.hy_base.proofs.Places.{two-equal}
use Rattle.aig_order.specs.declared.gate.Gate.{Gate}
use Rattle.aig_order.specs.Gates.{uses, Depends, at_once, through, depends}
use Rattle.aig_order.proofs.Firsts.{any-some}
use Rattle.aig_order.proofs.AllTaken.{along, raised}

module _ (gates : List Gate) where
  from-test : (d k j : ℕ) → k < length gates → j < length gates → depends gates d k j ≡ true → Depends gates k j
  from-test zero k j small inside e = at_once k j small inside e
  from-test (suc d) k j small inside e =
      elim (or_cases (uses gates k j) _ e) [
        | inl here ↦ at_once k j small inside here
        | inr rest ↦
            let (i, lt, both) = any-some (length gates) _ rest in
            let parts = and_parts (uses gates k i) (depends gates d i j) both in
            through k i j small lt parts.0 (from-test d i j lt inside parts.1)
      ]

  -- ands, each of which uses the next, up to the last
  record Path (k j last : ℕ) : Type 0 where
    f : ℕ → ℕ
    begins : f 0 ≡ k
    ends : f (suc last) ≡ j
    steps : (m : ℕ) → m < suc last → uses gates (f m) (f (suc m)) ≡ true
    small : (m : ℕ) → m < suc last → f m < length gates

  short-enough : (k j last : ℕ) → last ≤ length gates → Path k j last → depends gates (length gates) k j ≡ true
  short-enough k j last le path =
      let here : depends gates last (path.f 0) (path.f (suc last)) ≡ true = along gates path.f (suc last) path.steps path.small last 0 (suc last) (omega arith) (omega arith) in
      let P : ℕ → Type 0 = λ m. depends gates m (path.f 0) (path.f (suc last)) ≡ true in
      let q : length gates - last + last ≡ length gates = omega arith in
      let high : depends gates (length gates) (path.f 0) (path.f (suc last)) ≡ true = subst P q (raised gates (length gates - last) last _ _ here) in
      let Q : ℕ → Type 0 = λ v. depends gates (length gates) v (path.f (suc last)) ≡ true in
      let R : ℕ → Type 0 = λ v. depends gates (length gates) k v ≡ true in
      subst R path.ends (subst Q path.begins high)

  -- the path without what stands between two places of one and
  abbrev cut : (ℕ → ℕ) → ℕ → ℕ → ℕ → ℕ
  cut f a c m = elim (cases_lt a m) [ inl past ↦ f (m + c) | inr before ↦ f m ]

  cut-low : (f : ℕ → ℕ) (a c m : ℕ) → m ≤ a → cut f a c m ≡ f m
  cut-low f a c m le = elim (cases_lt a m) as (λ s. elim s [ inl past ↦ f (m + c) | inr before ↦ f m ] ≡ f m) [ inl past ↦ absurd (omega arith) | inr before ↦ refl ]

  cut-high : (f : ℕ → ℕ) (a c m : ℕ) → a < m → cut f a c m ≡ f (m + c)
  cut-high f a c m lt = elim (cases_lt a m) as (λ s. elim s [ inl past ↦ f (m + c) | inr before ↦ f m ] ≡ f (m + c)) [ inl past ↦ refl | inr before ↦ absurd (omega arith) ]

  by-both : (x y x' y' : ℕ) → x' ≡ x → y' ≡ y → uses gates x y ≡ true → uses gates x' y' ≡ true
  by-both x y x' y' e e' h =
      let P : ℕ → Type 0 = λ v. uses gates v y ≡ true in
      let Q : ℕ → Type 0 = λ v. uses gates x' v ≡ true in
      subst Q (sym e') (subst P (sym e) h)

  below-too : (x x' : ℕ) → x' ≡ x → x < length gates → x' < length gates
  below-too x x' e lt = omega arith

  shorter : (k j last a b : ℕ) → a < b → b ≤ last → (path : Path k j last) → path.f a ≡ path.f b → Path k j (last - (b - a))
  shorter k j last a b lt le path same = record {
    f = cut path.f a (b - a);
    begins = cut-low path.f a (b - a) 0 (omega arith) ∙ path.begins;
    ends =
        let q : suc (last - (b - a)) + (b - a) ≡ suc last = omega arith in
        cut-high path.f a (b - a) (suc (last - (b - a))) (omega arith) ∙ ap path.f q ∙ path.ends;
    steps = λ m less.
        elim (cases_lt a m) [
          | inl past ↦
              let q : suc m + (b - a) ≡ suc (m + (b - a)) = omega arith in
              by-both (path.f (m + (b - a))) (path.f (suc (m + (b - a)))) _ _ (cut-high path.f a (b - a) m past) (cut-high path.f a (b - a) (suc m) (omega arith) ∙ ap path.f q) (path.steps (m + (b - a)) (omega arith))
          | inr before ↦
              elim (cases_eq m a) [
                | inl is ↦
                    let q : suc m + (b - a) ≡ suc b = omega arith in
                    by-both (path.f b) (path.f (suc b)) _ _ (cut-low path.f a (b - a) m before ∙ ap path.f is ∙ same) (cut-high path.f a (b - a) (suc m) (omega arith) ∙ ap path.f q) (path.steps b (omega arith))
                | inr other ↦ by-both (path.f m) (path.f (suc m)) _ _ (cut-low path.f a (b - a) m before) (cut-low path.f a (b - a) (suc m) (omega arith)) (path.steps m (omega arith))
              ]
        ];
    small = λ m less.
        elim (cases_lt a m) [
          | inl past ↦ below-too _ _ (cut-high path.f a (b - a) m past) (path.small (m + (b - a)) (omega arith))
          | inr before ↦ below-too _ _ (cut-low path.f a (b - a) m before) (path.small m (omega arith))
        ];
  }

  shortened : (fuel k j last : ℕ) → last ≤ fuel → Path k j last → depends gates (length gates) k j ≡ true
  shortened zero k j last le path = short-enough k j last (omega arith) path
  shortened (suc fuel) k j last le path =
      elim (cases_lt (length gates) last) [
        | inl long ↦
            let (a, b, lt, inside, same) = two-equal (length gates) path.f (λ i le. path.small i (omega arith)) in
            shortened fuel k j (last - (b - a)) (omega arith) (shorter k j last a b lt (omega arith) path same)
        | inr short ↦ short-enough k j last short path
      ]

  abbrev after : ℕ → (ℕ → ℕ) → ℕ → ℕ
  after k f zero = k
  after k f (suc m) = f m

  to-path : (k j : ℕ) → Depends gates k j → (last : ℕ) × Path k j last
  to-path _ _ (at_once k j small inside used) = (
    0,
    record {
      f = after k (λ m. j);
      begins = refl;
      ends = refl;
      steps = λ m lt. let P : ℕ → Type 0 = λ v. uses gates (after k (λ m. j) v) (after k (λ m. j) (suc v)) ≡ true in let q : 0 ≡ m = omega arith in subst P q used;
      small = λ m lt. let P : ℕ → Type 0 = λ v. after k (λ m. j) v < length gates in let q : 0 ≡ m = omega arith in subst P q small;
    },
  )
  to-path _ _ (through k i j small inside used rest) =
      let (last, path) = to-path i j rest in (
        suc last,
        record {
          f = after k path.f;
          begins = refl;
          ends = path.ends;
          steps = λ m lt. next-step path m lt;
          small = λ m lt. next-small path m lt;
        },
      )
    where
      next-step : {last : ℕ} (path : Path i j last) (m : ℕ) → m < suc (suc last) → uses gates (after k path.f m) (after k path.f (suc m)) ≡ true
      next-step path zero lt = by-both k i k (path.f 0) refl path.begins used
      next-step path (suc m) lt = path.steps m (omega arith)

      next-small : {last : ℕ} (path : Path i j last) (m : ℕ) → m < suc (suc last) → after k path.f m < length gates
      next-small path zero lt = small
      next-small path (suc m) lt = path.small m (omega arith)

  pub depends-right : (k j : ℕ) → k < length gates → j < length gates → Depends gates k j ↔ IsTrue (depends gates (length gates) k j)
  depends-right k j small inside = (λ d. let (last, path) = to-path k j d in shortened last k j last (omega arith) path, from-test (length gates) k j small inside)

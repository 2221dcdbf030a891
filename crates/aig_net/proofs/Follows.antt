-- Rows that follow: one more, in two parts, only one way, and by places.
use Rattle.std.proofs.Common.{◌≡◌, ℕ, zero, suc, ◌+◌, ◌<◌, Bool, List, [], ◌∷◌, ◌++◌, length, map, take, drop, refl, sym, ap, ◌∙◌, subst, arith}
use Rattle.std.proofs.Math.Seq.{split_at}
use Rattle.std.proofs.lemmas.List.{take_more}
use Rattle.aig_net.specs.Nets.{Net, first_and, AreOrdered, IsRight, AllTrue}
use Rattle.hy_base.specs.Rows.{row}
use Rattle.aig_net.specs.Rows.{input_row, latch_row}
use Rattle.aig_net.specs.Following.{next_row, IsState, Follows, row_at}
use Rattle.aig_net.proofs.States.{IsFull, only}

module _ (net : Net) where
  pub follows-last : (l m given values : List Bool) (inputs rows : List (List Bool)) →
      Follows net l inputs rows m → IsState net m given values →
      Follows net l (inputs ++ given ∷ []) (rows ++ values ∷ []) (next_row net values)
  follows-last l m given values [] [] f is = let S : List Bool → Type 0 =
      λ x. IsState net x given values in (subst S f is, refl)
  follows-last l m given values [] (v ∷ rows) f is = absurd f
  follows-last l m given values (i ∷ inputs) [] f is = absurd f
  follows-last l m given values (i ∷ inputs) (v ∷ rows) f is =
      (f.0, follows-last (next_row net v) m given values inputs rows f.1 is)

  -- the row for one more place of the inputs
  pub follows_next : (l m values : List Bool) (inputs rows : List (List Bool)) (i : ℕ) →
      i < length inputs → Follows net l (take i inputs) rows m →
      IsState net m (row_at inputs i) values →
      Follows net l (take (i + 1) inputs) (rows ++ values ∷ []) (next_row net values)
  follows_next l m values inputs rows i lt f is =
      let F : List (List Bool) → Type 0 =
      λ x. Follows net l x (rows ++ values ∷ []) (next_row net values) in
      subst F (sym (take_more inputs i [] lt))
      (follows-last l m (row_at inputs i) values (take i inputs) rows f is)

  pub follows-append : (l m n : List Bool) (inputs inputs' rows rows' : List (List Bool)) →
      Follows net l inputs rows m → Follows net m inputs' rows' n →
      Follows net l (inputs ++ inputs') (rows ++ rows') n
  follows-append l m n [] inputs' [] rows' f g = let F : List Bool → Type 0 =
      λ x. Follows net x inputs' rows' n in subst F f g
  follows-append l m n [] inputs' (v ∷ rows) rows' f g = absurd f
  follows-append l m n (i ∷ inputs) inputs' [] rows' f g = absurd f
  follows-append l m n (i ∷ inputs) inputs' (v ∷ rows) rows' f g =
      (f.0, follows-append (next_row net v) m n inputs inputs' rows rows' f.1 g)

  pub follows-split : (l n : List Bool) (inputs inputs' rows : List (List Bool)) →
      Follows net l (inputs ++ inputs') rows n →
      (m : List Bool) × (xs : List (List Bool)) × (ys : List (List Bool)) × (rows ≡ xs ++ ys)
      × Follows net l inputs xs m × Follows net m inputs' ys n
  follows-split l n [] inputs' rows f = (l, [], rows, refl, refl, f)
  follows-split l n (i ∷ inputs) inputs' [] f = absurd f
  follows-split l n (i ∷ inputs) inputs' (v ∷ rows) f =
      let (m, xs, ys, e, g, h) = follows-split (next_row net v) n inputs inputs' rows f.1 in
      (m, v ∷ xs, ys, ap (λ r. v ∷ r) e, (f.0, g), h)

  pub follows-length : (l m : List Bool) (inputs rows : List (List Bool)) →
      Follows net l inputs rows m → length rows ≡ length inputs
  follows-length l m [] [] f = refl
  follows-length l m [] (v ∷ rows) f = absurd f
  follows-length l m (i ∷ inputs) [] f = absurd f
  follows-length l m (i ∷ inputs) (v ∷ rows) f =
      ap suc (follows-length (next_row net v) m inputs rows f.1)

  pub follows-only : AreOrdered (first_and net) net.ands →
      (l m n : List Bool) (inputs rows rows' : List (List Bool)) → Follows net l inputs rows m →
      Follows net l inputs rows' n → (rows ≡ rows') × (m ≡ n)
  follows-only ordered l m n [] [] [] f g = (refl, f ∙ sym g)
  follows-only ordered l m n [] [] (w ∷ rows') f g = absurd g
  follows-only ordered l m n [] (v ∷ rows) rows' f g = absurd f
  follows-only ordered l m n (i ∷ inputs) [] rows' f g = absurd f
  follows-only ordered l m n (i ∷ inputs) (v ∷ rows) [] f g = absurd g
  follows-only ordered l m n (i ∷ inputs) (v ∷ rows) (w ∷ rows') f g =
      let a = f.0 in
      let b = g.0 in
      let same : v ≡ w = only net ordered v w a.full b.full a.right b.right (a.inputs
      ∙ sym b.inputs) (a.latches ∙ sym b.latches) in
      let F : List Bool → Type 0 = λ x. Follows net (next_row net x) inputs rows m in
      let (rest, last) = follows-only ordered (next_row net w) m n inputs rows rows'
      (subst F same f.1) g.1 in
      (ap (λ x. x ∷ rows) same ∙ ap (λ r. w ∷ r) rest, last)

  -- where one step has no row, no rows follow
  pub stuck : AreOrdered (first_and net) net.ands →
      (l m n : List Bool) (inputs rows rows' : List (List Bool)) (i : ℕ) → i < length inputs →
      Follows net l (take i inputs) rows m →
      ((values : List Bool) → ¬ IsState net m (row_at inputs i) values) →
      ¬ Follows net l inputs rows' n
  stuck ordered l m n inputs rows rows' i lt f none g =
      let I : List (List Bool) → Type 0 = λ x. Follows net l x rows' n in
      let (m', xs, ys, e, h, k) = follows-split l n (take i inputs)
      (row_at inputs i ∷ drop (suc i) inputs) rows' (subst I (split_at inputs i [] lt) g) in
      at m' ys (follows-only ordered l m m' (take i inputs) rows xs f h).1 k
    where
      at : (m' : List Bool) (ys : List (List Bool)) → m ≡ m' →
          Follows net m' (row_at inputs i ∷ drop (suc i) inputs) ys n → ⊥
      at m' [] e k = k
      at m' (v ∷ ys) e k = let S : List Bool → Type 0 = λ x. IsState net x (row_at inputs i) v in
          none v (subst S (sym e) k.0)

  -- ---- by places

  -- what holds of each row, whatever stands before it
  pub record IsGood (values : List Bool) : Type 0 where
    pub full : IsFull net values
    pub right : IsRight net (row values)
    pub kept : AllTrue net.constraints (row values)

  pub record AreLinked (l : List Bool) (rows : List (List Bool)) : Type 0 where
    pub good : (k : ℕ) → k < length rows → IsGood (row_at rows k)
    pub first : 0 < length rows → latch_row net (row_at rows 0) ≡ l
    pub goes : (k : ℕ) → suc k < length rows →
        latch_row net (row_at rows (suc k)) ≡ next_row net (row_at rows k)

  pub follows-inputs : (l m : List Bool) (inputs rows : List (List Bool)) →
      Follows net l inputs rows m → map (input_row net) rows ≡ inputs
  follows-inputs l m [] [] f = refl
  follows-inputs l m [] (v ∷ rows) f = absurd f
  follows-inputs l m (i ∷ inputs) [] f = absurd f
  follows-inputs l m (i ∷ inputs) (v ∷ rows) f =
      let s = f.0 in
      ap (λ x. x ∷ map (input_row net) rows) s.inputs
      ∙ ap (λ r. i ∷ r) (follows-inputs (next_row net v) m inputs rows f.1)

  linked-more : (l i v : List Bool) (rows : List (List Bool)) → IsState net l i v →
      AreLinked (next_row net v) rows → AreLinked l (v ∷ rows)
  linked-more l i v rows s rest = record { good = good; first = λ lt. s.latches; goes = goes }
    where
      good : (k : ℕ) → k < length (v ∷ rows) → IsGood (row_at (v ∷ rows) k)
      good zero lt = record { full = s.full; right = s.right; kept = s.kept }
      good (suc k) lt = rest.good k (omega arith)

      goes : (k : ℕ) → suc k < length (v ∷ rows) →
          latch_row net (row_at (v ∷ rows) (suc k)) ≡ next_row net (row_at (v ∷ rows) k)
      goes zero lt = rest.first (omega arith)
      goes (suc k) lt = rest.goes k (omega arith)

  pub follows-linked : (l m : List Bool) (inputs rows : List (List Bool)) →
      Follows net l inputs rows m → AreLinked l rows
  follows-linked l m [] [] f = record {
    good = λ k lt. absurd (omega arith);
    first =
        λ lt. absurd (omega arith);
    goes = λ k lt. absurd (omega arith);
  }
  follows-linked l m [] (v ∷ rows) f = absurd f
  follows-linked l m (i ∷ inputs) [] f = absurd f
  follows-linked l m (i ∷ inputs) (v ∷ rows) f =
      linked-more l i v rows f.0 (follows-linked (next_row net v) m inputs rows f.1)

  pub follows-end : (l m : List Bool) (inputs rows : List (List Bool)) →
      Follows net l inputs rows m → (k : ℕ) → suc k ≡ length rows → m ≡ next_row net (row_at rows k)
  follows-end l m [] [] f k e = absurd (omega (arith, e))
  follows-end l m [] (v ∷ rows) f k e = absurd f
  follows-end l m (i ∷ inputs) [] f k e = absurd f
  follows-end l m (i ∷ []) (v ∷ []) f zero e = f.1
  follows-end l m (i ∷ []) (v ∷ []) f (suc k) e = absurd (omega (arith, e))
  follows-end l m (i ∷ []) (v ∷ w ∷ rows) f k e = absurd f.1
  follows-end l m (i ∷ j ∷ inputs) (v ∷ []) f k e = absurd f.1
  follows-end l m (i ∷ j ∷ inputs) (v ∷ w ∷ rows) f zero e = absurd (omega (arith, e))
  follows-end l m (i ∷ j ∷ inputs) (v ∷ w ∷ rows) f (suc k) e =
      follows-end (next_row net v) m (j ∷ inputs) (w ∷ rows) f.1 k (omega (arith, e))

  -- linked rows follow from their own inputs
  pub linked-follows : (l : List Bool) (rows : List (List Bool)) → AreLinked l rows →
      (m : List Bool) × Follows net l (map (input_row net) rows) rows m
  linked-follows l [] linked = (l, refl)
  linked-follows l (v ∷ rows) linked =
      let g = linked.good 0 (omega arith) in
      let (m, f) = linked-follows (next_row net v) rows rest in (
        m,
        (
          record {
            full = g.full;
            right = g.right;
            kept = g.kept;
            latches =
                linked.first (omega arith);
            inputs = refl;
          },
          f,
        ),
      )
    where
      rest : AreLinked (next_row net v) rows
      rest = record {
        good = λ k lt. linked.good (suc k) (omega arith);
        first = λ lt. linked.goes 0 (omega arith);
        goes = λ k lt. linked.goes (suc k) (omega arith);
      }

-- Tuples that fulfil a plan, and lists that satisfy its formulas.
use Rattle.std.proofs.Common.{◌≡◌, ◌≢◌, ℕ, zero, suc, ◌+◌, ◌<◌, ◌≤◌, Bool, true, false, List, [], ◌∷◌, ◌++◌, length, get_or, map, inl, inr, refl, sym, ap, ◌∙◌, subst, arith, IsTrue, length-append, append-nil, zero-add}
use Rattle.std.specs.List.{Contains}
use Rattle.std.proofs.lemmas.List.{length-map, get_or_append_left, get_or-append_right, get_or_default}
use Rattle.std.proofs.lemmas.List.Elements.{Contains-get_or}
use Rattle.hy_bits.specs.Letter.{Letter}
use Rattle.hy_formula.specs.Trees.{Tree, vars_below}
use Rattle.hy_formula.specs.Temporal.{endless, Words}
use Rattle.hy_formula.specs.Normals.{Signed}
use Rattle.hy_formula.specs.Lassos.{Lasso}
use Rattle.hy_formula.specs.Classes.{class_of}
use Rattle.hy_formula.specs.declared.classes.Class.{Class}
use Rattle.hy_formula.specs.declared.classes.Class.TheVariants as class
use Rattle.hy_formula.specs.declared.prefix.Quant.{Quant}
use Rattle.hy_formula.specs.declared.prefix.Quant.TheVariants.{Exists, Forall}
use Rattle.hy_formula.specs.Quantifiers.{Quantified, Each, repeated, turned}
use Rattle.hy_formula.proofs.Shapes.{exists-shape, forall-shape, exists_forall-shape}
use Rattle.hy_formula.proofs.Each.{each-append, each-map, each-unmap, each-place}
use Rattle.hy_lasso.specs.Words.{no_lasso, lasso_words, picked, Meets, IsSatisfiable}
use Rattle.hy_lasso.proofs.Negating.{negation, are-lassos}
use Rattle.ltl_closure.specs.Jobs.{tasks_by, AllHold}
use Rattle.ea_reduce.specs.Plans.{PlainPlan, existentials, maps_of, lassos_for, reduction, implication, plan_tasks}
use Rattle.ea_reduce.specs.Fulfilled.{Fulfils, IsFulfillable, IsModel, Separates, IsOfOneKind}
use Rattle.ea_reduce.specs.Joints.{AreShortened}
use Rattle.ea_reduce.proofs.Each.{each-range, each-in_range, each-both}
use Rattle.ea_reduce.proofs.Maps.{IsAsLong, are-as_long}
use Rattle.ea_reduce.proofs.Jobs.{HoldsUnder, all-under, each-under, hold-append, hold-left, hold-right}
use Rattle.ea_reduce.proofs.Same.{under-picked, shortened-words}

-- ---- from a tuple to the list of its lassos

-- under all maps the body holds
abbrev UnderAll : List (Lasso Letter) → (List (Lasso Letter) → Type 0) → List (List ℕ) → Type 0
UnderAll tuple Body maps = Each (λ m. Body (picked tuple m)) maps

module _ (tuple : List (Lasso Letter)) (vars : ℕ) (count : length tuple ≡ vars) where
  quantified : (Body : List (Lasso Letter) → Type 0) (next : ℕ) (prefix : List Quant) → next + existentials prefix ≤ vars
      → UnderAll tuple Body (maps_of vars next prefix) → Quantified (Contains tuple) Body prefix
  quantified Body next [] le (b, _) = b
  quantified Body next (Exists ∷ prefix) le all =
      let x = get_or tuple next no_lasso in (
        x,
        Contains-get_or tuple next no_lasso (omega arith),
        quantified (λ t. Body (x ∷ t)) (suc next) prefix (omega arith)
            (each-unmap (λ m. Body (picked tuple m)) (λ m. next ∷ m) (maps_of vars (suc next) prefix) all),
      )
  quantified Body next (Forall ∷ prefix) le all = λ x (k, lt, e).
      let y = get_or tuple k no_lasso in
      let Q : Lasso Letter → Type 0 = λ z. Quantified (Contains tuple) (λ t. Body (z ∷ t)) prefix in
      subst Q (get_or_default tuple k no_lasso x lt ∙ e)
      (quantified (λ t. Body (y ∷ t)) next prefix le
      (each-unmap (λ m. Body (picked tuple m)) (λ m. k ∷ m) (maps_of vars next prefix)
      (each-in_range (λ m. Body (picked tuple m)) (λ j. map (λ m. j ∷ m) (maps_of vars next prefix)) 0 vars all k (omega arith) (omega arith))))

-- ---- from a list to a tuple of its lassos

choose : (list : List (Lasso Letter)) (Body : List (Lasso Letter) → Type 0) (n : ℕ) (rest : List Quant)
    → Quantified (Contains list) Body (repeated Exists n ++ rest)
    → (xs : List (Lasso Letter)) × (length xs ≡ n) × Each (Contains list) xs × Quantified (Contains list) (λ ys. Body (xs ++ ys)) rest
choose list Body zero rest q = ([], refl, tt, q)
choose list Body (suc n) rest (x, c, q) =
    let (xs, l, e, r) = choose list (λ t. Body (x ∷ t)) n rest q in (x ∷ xs, ap suc l, (c, e), r)

module _ (list tuple : List (Lasso Letter)) (vars : ℕ) (count : length tuple ≡ vars) (members : Each (Contains list) tuple) where
  every : (Body : List (Lasso Letter) → Type 0) (next k : ℕ) → Quantified (Contains list) Body (repeated Forall k)
      → UnderAll tuple Body (maps_of vars next (repeated Forall k))
  every Body next zero q = (q, tt)
  every Body next (suc k) q =
      each-range (λ m. Body (picked tuple m)) (λ j. map (λ m. j ∷ m) (maps_of vars next (repeated Forall k))) 0 vars
      (λ j _ lt.
      let y = get_or tuple j no_lasso in
      each-map (λ m. Body (picked tuple m)) (λ m. j ∷ m) (maps_of vars next (repeated Forall k))
      (every (λ t. Body (y ∷ t)) next k (q y (each-place (Contains list) tuple no_lasso members j (omega arith)))))

  chosen : (Body : List (Lasso Letter) → Type 0) (next : ℕ) (xs : List (Lasso Letter)) (k : ℕ)
      → ((j : ℕ) → j < length xs → get_or tuple (next + j) no_lasso ≡ get_or xs j no_lasso)
      → Quantified (Contains list) (λ ys. Body (xs ++ ys)) (repeated Forall k)
      → UnderAll tuple Body (maps_of vars next (repeated Exists (length xs) ++ repeated Forall k))
  chosen Body next [] k at q = every Body next k q
  chosen Body next (x ∷ xs) k at q =
      let maps = maps_of vars (suc next) (repeated Exists (length xs) ++ repeated Forall k) in
      let here : x ≡ get_or tuple next no_lasso = sym (at 0 (omega arith)) ∙ ap (λ j. get_or tuple j no_lasso) (omega arith) in
      let Q : Lasso Letter → Type 0 = λ y. Each (λ m. Body (y ∷ picked tuple m)) maps in
      each-map (λ m. Body (picked tuple m)) (λ m. next ∷ m) maps
      (subst Q here (chosen (λ t. Body (x ∷ t)) (suc next) xs k
      (λ j lt. ap (λ i. get_or tuple i no_lasso) (omega arith) ∙ at (suc j) (omega arith)) q))

-- a tuple that is not empty
padded : (list : List (Lasso Letter)) → 0 < length list → (xs : List (Lasso Letter)) → Each (Contains list) xs
    → (tuple : List (Lasso Letter)) × (length tuple ≡ lassos_for (length xs)) × Each (Contains list) tuple
    × ((j : ℕ) → j < length xs → get_or tuple j no_lasso ≡ get_or xs j no_lasso)
padded list some [] h =
    (get_or list 0 no_lasso ∷ [], refl, (Contains-get_or list 0 no_lasso some, tt), λ j lt. absurd (omega arith))
padded list some (x ∷ xs) h = (x ∷ xs, refl, h, λ j lt. refl)

-- ---- prefixes

-- Each exists stands before each forall.
abbrev IsSorted : List Quant → Type 0
IsSorted prefix = (n k : ℕ) × (prefix ≡ repeated Exists n ++ repeated Forall k)

existentials-repeated : (n k : ℕ) → existentials (repeated Exists n ++ repeated Forall k) ≡ n
existentials-repeated zero zero = refl
existentials-repeated zero (suc k) = existentials-repeated zero k
existentials-repeated (suc n) k = ap suc (existentials-repeated n k)

turned-repeated : (n : ℕ) → map turned (repeated Exists n) ≡ repeated Forall n
turned-repeated zero = refl
turned-repeated (suc n) = ap (λ xs. Forall ∷ xs) (turned-repeated n)

turned-forall : (n : ℕ) → map turned (repeated Forall n) ≡ repeated Exists n
turned-forall zero = refl
turned-forall (suc n) = ap (λ xs. Exists ∷ xs) (turned-forall n)

sorted-taken : (prefix : List Quant) → class_of prefix ≢ class.Other → IsSorted prefix
sorted-taken prefix ne = by (class_of prefix) refl
  where
    by : (c : Class) → class_of prefix ≡ c → IsSorted prefix
    by class.Exists e = let (n, is) = exists-shape prefix e in (n, 0, is ∙ sym (append-nil (repeated Exists n)))
    by class.Forall e = let (n, is) = forall-shape prefix e in (0, n, is)
    by class.ExistsForall e = let (n, k, _, _, is) = exists_forall-shape prefix e in (n, k, is)
    by class.Other e = absurd (ne e)

sorted-one_kind : (prefix : List Quant) → IsOfOneKind prefix → IsSorted prefix
sorted-one_kind prefix (inl e) = let (n, is) = exists-shape prefix e in (n, 0, is ∙ sym (append-nil (repeated Exists n)))
sorted-one_kind prefix (inr e) = let (n, is) = forall-shape prefix e in (0, n, is)

sorted-turned : (prefix : List Quant) → IsOfOneKind prefix → IsSorted (map turned prefix)
sorted-turned prefix (inl e) = let (n, is) = exists-shape prefix e in (0, n, ap (map turned) is ∙ turned-repeated n)
sorted-turned prefix (inr e) =
    let (n, is) = forall-shape prefix e in (n, 0, ap (map turned) is ∙ turned-forall n ∙ sym (append-nil (repeated Exists n)))

-- ---- the witnesses of a formula

-- Members of the list, as many as there are existential variables, such that the body holds under all maps of each
-- tuple of members that has them from its place `next` on.
abbrev Witnesses : List (Lasso Letter) → (List (Lasso Letter) → Type 0) → List Quant → Type 0
Witnesses list Body prefix =
    (xs : List (Lasso Letter)) × (length xs ≡ existentials prefix) × Each (Contains list) xs
    × ((tuple : List (Lasso Letter)) (vars next : ℕ) → length tuple ≡ vars → Each (Contains list) tuple
    → ((j : ℕ) → j < length xs → get_or tuple (next + j) no_lasso ≡ get_or xs j no_lasso)
    → UnderAll tuple Body (maps_of vars next prefix))

witnesses : (list : List (Lasso Letter)) (Body : List (Lasso Letter) → Type 0) (prefix : List Quant) → IsSorted prefix
    → Quantified (Contains list) Body prefix → Witnesses list Body prefix
witnesses list Body prefix (n, k, is) =
    let Q : List Quant → Type 0 = λ p. Quantified (Contains list) Body p → Witnesses list Body p in
    subst Q (sym is) of-repeated
  where
    of-repeated : Quantified (Contains list) Body (repeated Exists n ++ repeated Forall k) → Witnesses list Body (repeated Exists n ++ repeated Forall k)
    of-repeated q =
        let (xs, l, e, r) = choose list Body n (repeated Forall k) q in (
          xs,
          l ∙ sym (existentials-repeated n k),
          e,
          λ tuple vars next count members at.
              let R : ℕ → Type 0 = λ i. UnderAll tuple Body (maps_of vars next (repeated Exists i ++ repeated Forall k)) in
              subst R l (chosen list tuple vars count members Body next xs k at r),
        )

-- ---- one job

module _ (body : Tree) (positive : Bool) where
  abbrev Says : List (Lasso Letter) → Type 0
  Says tuple = Signed positive (Meets body tuple)

  module _ (prefix : List Quant) (bound : IsTrue (vars_below (length prefix) body)) (tuple : List (Lasso Letter)) (vars next : ℕ) where
    bound-by : (m : List ℕ) → IsAsLong prefix m → IsTrue (vars_below (length m) body)
    bound-by m e = let P : ℕ → Type 0 = λ n. IsTrue (vars_below n body) in subst P (sym e) bound

    says : AllHold endless (lasso_words tuple) (tasks_by body positive (maps_of vars next prefix)) → UnderAll tuple Says (maps_of vars next prefix)
    says h =
        each-both (IsAsLong prefix) (HoldsUnder endless (lasso_words tuple) body positive) (λ m. Says (picked tuple m))
        (λ m e p. (under-picked tuple m body positive (bound-by m e)).0 p) _
        (are-as_long vars next prefix) (each-under endless (lasso_words tuple) body positive _ h)

    said : UnderAll tuple Says (maps_of vars next prefix) → AllHold endless (lasso_words tuple) (tasks_by body positive (maps_of vars next prefix))
    said h =
        all-under endless (lasso_words tuple) body positive _
        (each-both (IsAsLong prefix) (λ m. Says (picked tuple m)) (HoldsUnder endless (lasso_words tuple) body positive)
        (λ m e p. (under-picked tuple m body positive (bound-by m e)).1 p) _
        (are-as_long vars next prefix) h)

some-lassos : (n : ℕ) → (0 < lassos_for n) × (n ≤ lassos_for n)
some-lassos zero = (omega arith, omega arith)
some-lassos (suc n) = (omega arith, omega arith)

-- ---- a formula

module _ (prefix : List Quant) (body : Tree) (bound : IsTrue (vars_below (length prefix) body)) where
  abbrev vars : ℕ
  vars = lassos_for (existentials prefix)

  pub reduced-model : (tuple : List (Lasso Letter)) → Fulfils (reduction prefix body) tuple → IsModel prefix body tuple
  reduced-model tuple f =
      let (some, enough) = some-lassos (existentials prefix) in
      record {
        some = omega (arith, f.count);
        lassos = f.lassos;
        satisfies =
            quantified tuple vars f.count (Meets body) 0 prefix (omega arith)
            (says body true prefix bound tuple vars 0 (hold-left endless (lasso_words tuple) (tasks_by body true (maps_of vars 0 prefix)) [] f.hold));
      }

  pub reduced-satisfiable : IsFulfillable (reduction prefix body) → IsSatisfiable prefix body
  reduced-satisfiable (tuple, f) = let m = reduced-model tuple f in (tuple, m.some, m.lassos, m.satisfies)

  pub satisfiable-reduced : class_of prefix ≢ class.Other → IsSatisfiable prefix body → IsFulfillable (reduction prefix body)
  satisfiable-reduced ne (list, some, are, q) =
      let (xs, l, e, holds) = witnesses list (Meets body) prefix (sorted-taken prefix ne) q in
      let (tuple, count, members, same) = padded list some xs e in
      let full : length tuple ≡ vars = count ∙ ap lassos_for l in (
        tuple,
        record {
          count = full;
          lassos = are-lassos list are tuple members;
          hold =
              hold-append endless (lasso_words tuple) (tasks_by body true (maps_of vars 0 prefix)) []
              (said body true prefix bound tuple vars 0
              (holds tuple vars 0 full members (λ j lt. ap (λ i. get_or tuple i no_lasso) (zero-add j) ∙ same j lt))) tt;
        },
      )

-- ---- two formulas

module _ (first : List Quant) (body : Tree) (second : List Quant) (other : Tree)
    (bound : IsTrue (vars_below (length first) body)) (below : IsTrue (vars_below (length second) other)) where
  abbrev more : List Quant
  more = map turned second

  abbrev next : ℕ
  next = existentials first

  abbrev all : ℕ
  all = lassos_for (next + existentials more)

  below-more : IsTrue (vars_below (length more) other)
  below-more = let P : ℕ → Type 0 = λ n. IsTrue (vars_below n other) in subst P (sym (length-map second turned)) below

  pub separated-model : (tuple : List (Lasso Letter)) → Fulfils (implication first body second other) tuple → Separates first body second other tuple
  separated-model tuple f =
      let (some, enough) = some-lassos (next + existentials more) in
      let words = lasso_words tuple in
      let ones = tasks_by body true (maps_of all 0 first) in
      let others = tasks_by other false (maps_of all next more) in
      record {
        model = record {
          some = omega (arith, f.count);
          lassos = f.lassos;
          satisfies =
              quantified tuple all f.count (Meets body) 0 first (omega arith)
              (says body true first bound tuple all 0 (hold-left endless words ones (others ++ []) f.hold));
        };
        fails =
            (negation tuple f.lassos second other).0
            (quantified tuple all f.count (Says other false) next more (omega arith)
            (says other false more below-more tuple all next
            (hold-left endless words others [] (hold-right endless words ones (others ++ []) f.hold))));
      }

  pub separated-implication : IsOfOneKind first → IsOfOneKind second → (list : List (Lasso Letter)) → Separates first body second other list
      → IsFulfillable (implication first body second other)
  separated-implication one two list s =
      let are = s.model.lassos in
      let (xs, l, e, holds) = witnesses list (Meets body) first (sorted-one_kind first one) s.model.satisfies in
      let (ys, l', e', holds') = witnesses list (Says other false) more (sorted-turned second two) ((negation list are second other).1 s.fails) in
      let (tuple, count, members, same) = padded list s.model.some (xs ++ ys) (each-append (Contains list) xs ys e e') in
      let both = length-append xs ys in
      let full : length tuple ≡ all = count ∙ ap lassos_for (omega (arith, l, l', both)) in (
        tuple,
        record {
          count = full;
          lassos = are-lassos list are tuple members;
          hold =
              hold-append endless (lasso_words tuple) (tasks_by body true (maps_of all 0 first)) (tasks_by other false (maps_of all next more) ++ [])
              (said body true first bound tuple all 0 (holds tuple all 0 full members
              (λ j lt. ap (λ i. get_or tuple i no_lasso) (zero-add j) ∙ same j (omega (arith, both)) ∙ get_or_append_left xs ys no_lasso j lt)))
              (hold-append endless (lasso_words tuple) (tasks_by other false (maps_of all next more)) []
              (said other false more below-more tuple all next (holds' tuple all next full members
              (λ j lt. same (next + j) (omega (arith, both, l)) ∙ get_or-append_right xs ys next (next + j) no_lasso l (omega arith) ∙ ap (λ i. get_or ys i no_lasso) (omega arith))))
              tt);
        },
      )

-- Lassos may be shortened.
pub shortened-fulfils : (plan : PlainPlan) (tuple list : List (Lasso Letter)) → AreShortened tuple list → Fulfils plan tuple → Fulfils plan list
shortened-fulfils plan tuple list s f =
    let P : Words → Type 0 = λ w. AllHold endless w (plan_tasks plan) in
    record {
      count = s.count ∙ f.count;
      lassos = s.some;
      hold = subst P (shortened-words tuple list s) f.hold;
    }

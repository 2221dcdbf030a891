-- How many variables and literals a query has, and that these are not many.
use Rattle.std.proofs.Common.{◌≡◌, ℕ, zero, suc, ◌+◌, ◌-◌, ◌*◌, ◌^◌, ◌<◌, ◌≤◌, Bool, true, false, cond, List, [], ◌∷◌, ◌++◌, length, refl, sym, ap, ◌∙◌, subst, arith, length-append, min, inl, inr}
use Rattle.std.specs.Prelude.{ℤ}
use Rattle.std.proofs.Math.Nat.{mul-le-mul_left, mul-le-mul_right, mul-pos, pow-le-pow_right, pow-suc, pow-zero}
use Rattle.std.proofs.lemmas.Bool.{cases_lt}
use Rattle.hy_formula.specs.Trees.{Tree, vars_below}
use Rattle.hy_formula.specs.declared.prefix.Quant.{Quant}
use Rattle.chain_check.specs.Clauses.{Clause}
use Rattle.hy_base.specs.declared.limit.Kind.{Kind}
use Rattle.hy_base.specs.declared.limit.Kind.TheVariants.{CnfVariables, CnfLiterals}
use Rattle.bound_search.specs.declared.bound_error.BoundError.{BoundError}
use Rattle.bound_search.specs.declared.bound_error.BoundError.TheVariants.{Limit, Memory}
use Rattle.bound_search.specs.Sizes.{sum_for, IsPastBy, query_gates, query_variables, member_literals, query_literals, most_gates, most_of_query, IsTaken, IsRefusalBy}
use Rattle.chain_check.specs.FewClauses.{for_each, further, alone, literals_in}
use Rattle.bound_search.specs.declared.bound.Bound.{Bound}
use Rattle.bound_search.specs.Bounds.{IsBound}
use Rattle.bound_search.specs.Names.{names_of}
use Rattle.bound_search.specs.Drawings.{Gate, Drawn, gate_clauses}
use Rattle.bound_search.specs.declared.connectives.Binary.{Binary}
use Rattle.bound_search.specs.declared.connectives.Binary.TheVariants.{Iff, Until, Release, Weak}
use Rattle.bound_search.specs.declared.connectives.Unary.{Unary}
use Rattle.bound_search.specs.declared.connectives.Unary.TheVariants.{Finally, Globally}
use Rattle.bound_search.specs.Shapes.{Shape, constant, atom, one, two, shape_of, nodes, is_temporal_one, is_temporal_two}
use Rattle.bound_search.specs.Sheets.{variables_in, more_gates, gates_by_one, gates_by_two, first_gates, sheet_gates}
use Rattle.bound_search.specs.Choices.{chosen_gates}
use Rattle.bound_search.specs.Queries.{round, places, first_gate, repeat_clauses, cycle_clauses, some_cycle, member_clauses, formula_drawn, clauses_of, variables_of}
use Rattle.bound_search.proofs.Atoms.{EachAtom, atoms-like}
use Rattle.bound_search.proofs.Formulas.{fits-formula}
use Rattle.bound_search.proofs.Naming.{IsAtomOf, own-atoms}
use Rattle.bound_search.proofs.Variables.{few-variables}
use Rattle.bound_search.proofs.Rounds.{common-some}

-- ---- literals of lists of clauses

both : (xs ys : List Clause) → literals_in (xs ++ ys) ≡ literals_in xs + literals_in ys
both [] ys = omega arith
both (c ∷ xs) ys = omega (arith, both xs ys)

each : (f : ℕ → List Clause) (g : ℕ → ℕ) (n : ℕ) →
    ((i : ℕ) → i < n → literals_in (f i) ≡ g i) → literals_in (for_each f n) ≡ sum_for g n
each f g zero all = refl
each f g (suc n) all =
    let a = each f g n (λ i lt. all i (omega arith)) in
    let b = all n (omega arith) in
    both (for_each f n) (f n) ∙ omega (arith, a, b)

same : (c n : ℕ) → sum_for (λ _. c) n ≡ n * c
same c zero = omega arith
same c (suc n) = omega (arith, same c n)

as-many : (f : ℕ → List Clause) (c n : ℕ) → ((i : ℕ) → i < n → literals_in (f i) ≡ c) →
    literals_in (for_each f n) ≡ n * c
as-many f c n all = each f (λ _. c) n all ∙ same c n

long : (f : ℕ → ℤ) (n : ℕ) → length (for_each (λ i. f i ∷ []) n) ≡ n
long f zero = refl
long f (suc n) =
    length-append (for_each (λ i. f i ∷ []) n) (f n ∷ []) ∙ omega (arith, long f n)

gates-literals : (from : ℕ) (gates : List Gate) →
    literals_in (gate_clauses from gates) ≡ 7 * length gates
gates-literals from [] = refl
gates-literals from (g ∷ gates) = omega (arith, gates-literals (suc from) gates)

member-literals : (names : List ℕ) (bound : Bound) (t : ℕ) →
    literals_in (member_clauses names bound t) ≡ member_literals (length names) bound
member-literals names bound t =
    let some : literals_in (some_cycle names bound t) ≡ bound.cycle =
    omega (
      arith,
      long (λ d. further (Rattle.bound_search.specs.Queries.cycle_variable names bound t d))
          bound.cycle,
    ) in
    let rest = each (cycle_clauses names bound t)
    (λ d. length names * ((round bound - suc d) * 6)) bound.cycle (λ d lt.
    as-many _ _ (length names) (λ r there.
    as-many (repeat_clauses names bound t d r) 6 (round bound - suc d) (λ j behind. refl))) in
    both (some_cycle names bound t) _ ∙ omega (arith, some, rest)

module _ (bound : Bound) (ok : IsBound bound) (prefix : List Quant) (body : Tree)
    (known : vars_below (length prefix) body ≡ true) where
  abbrev names : List ℕ
  names = names_of body

  abbrev drawn : Drawn ℤ
  drawn = formula_drawn names bound prefix body

  gates-counted : length drawn.gates ≡ query_gates bound prefix body
  gates-counted = (fits-formula bound ok prefix body known).many (first_gate names bound)
      (omega arith)

  pub variables-counted : variables_of bound prefix body ≡ query_variables bound prefix body
  unfolding variables_of
  variables-counted = ap (λ n. first_gate names bound + n) gates-counted

  pub literals-counted : literals_in (clauses_of bound prefix body)
      ≡ query_literals bound prefix body
  unfolding clauses_of
  literals-counted =
      let members : List Clause = for_each (member_clauses names bound) bound.traces in
      let gates : List Clause = gate_clauses (first_gate names bound) drawn.gates in
      let one = both members (gates ++ alone drawn.out) in
      let two = both gates (alone drawn.out) in
      let three = as-many (member_clauses names bound) (member_literals (length names) bound)
      bound.traces (λ t lt. member-literals names bound t) in
      let four = gates-literals (first_gate names bound) drawn.gates in
      let five = gates-counted in
      omega (arith, one, two, three, four, five)

-- ---- not many

-- a node takes five gates for each place of each choice at most
more-few : (m w i j e a : ℕ) → i ≤ m * (5 * (w * a)) → j ≤ m → e ≤ 5 * w →
    i + j * e ≤ m * (5 * (w * suc a))
more-few m w i j e a p few each =
    let one : j * e ≤ m * e = mul-le-mul_right e few in
    let two : m * e ≤ m * (5 * w) = mul-le-mul_left m each in
    omega (arith, p, one, two)

one-few : (w c : ℕ) → c ≤ w → (op : Unary) → gates_by_one w c op ≤ 5 * w
one-few w c le Finally = omega (arith, le)
one-few w c le Globally = omega (arith, le)
one-few w c le _ = omega arith

two-few : (w c : ℕ) → c ≤ w → (op : Binary) → gates_by_two w c op ≤ 5 * w
two-few w c le Iff = omega arith
two-few w c le Until = omega (arith, le)
two-few w c le Release = omega (arith, le)
two-few w c le Weak = omega (arith, le)
two-few w c le _ = omega arith

either-few : (b : Bool) (i j most : ℕ) → i ≤ most → j ≤ most → cond b i j ≤ most
either-few true i j most p q = p
either-few false i j most p q = q

module _ (t k w c : ℕ) (some : 0 < t) (le : c ≤ w) where
  -- as many gates for each choice of all quantifiers
  abbrev Few : ℕ → Shape → Type 0
  Few gates f = gates ≤ t ^ k * (5 * (w * nodes f))

  abbrev Below : Shape → Type 0
  Below f = EachAtom (λ name v. v < k) f

  choices-few : (f : Shape) → Below f → t ^ length (variables_in f) ≤ t ^ k
  choices-few f h = pow-le-pow_right some (few-variables k f h)

  by-one : (op : Unary) (f : Shape) (i e : ℕ) → Below f → e ≤ 5 * w → Few i f →
      Few (more_gates t i (variables_in f) e) (one op f)
  by-one op f i e h each p = more-few (t ^ k) w i _ e (nodes f) p (choices-few f h) each

  by-two : (op : Binary) (f g : Shape) (i j e : ℕ) → Below (two op f g) → e ≤ 5 * w → Few i f →
      Few j g → Few (more_gates t (i + j) (variables_in (two op f g)) e) (two op f g)
  by-two op f g i j e h each p q =
      more-few (t ^ k) w (i + j) _ e (nodes f + nodes g) (omega (arith, p, q))
      (choices-few (two op f g) h) each

  gates-few : (f : Shape) → Below f → Few (sheet_gates t w c f) f
  gates-few (constant value) h = omega arith
  gates-few (atom name v) h = omega arith
  gates-few (one op f) h = by-one op f _ _ h (one-few w c le op) (gates-few f h)
  gates-few (two op f g) h =
      by-two op f g _ _ _ h (two-few w c le op) (gates-few f h.0) (gates-few g h.1)

  -- those of the first places
  first-few : 0 < w → (f : Shape) → Below f → Few (first_gates t w c f) f
  first-few wide (constant value) h = omega arith
  first-few wide (atom name v) h = omega arith
  first-few wide (one op f) h =
      let own = one-few 1 1 (omega arith) op in
      either-few (is_temporal_one op) _ _ _ (gates-few (one op f) h)
      (by-one op f _ _ h (omega (arith, own, wide)) (first-few wide f h))
  first-few wide (two op f g) h =
      let own = two-few 1 1 (omega arith) op in
      either-few (is_temporal_two op) _ _ _ (gates-few (two op f g) h)
      (by-two op f g _ _ _ h (omega (arith, own, wide)) (first-few wide f h.0)
      (first-few wide g h.1))

power-some : (t : ℕ) → 0 < t → (n : ℕ) → 0 < t ^ n
power-some t some zero = omega (arith, pow-zero t)
power-some t some (suc n) =
    let e : t ^ suc n ≡ t ^ n * t = pow-suc t n in
    omega (arith, e, mul-pos (power-some t some n) some)

chosen-few : (t g : ℕ) → 0 < t → (n : ℕ) → chosen_gates t g n ≤ t ^ n * (g + n)
chosen-few t g some zero = rw (pow-zero t) (omega arith)
chosen-few t g some (suc n) =
    let m : ℕ = t ^ n in
    let e : t ^ suc n ≡ m * t = pow-suc t n in
    let one : 0 < m = power-some t some n in
    let fewer : chosen_gates t g n ≤ m * (g + n) = chosen-few t g some n in
    let more : suc (chosen_gates t g n) ≤ m * (g + suc n) = omega (arith, fewer, one) in
    let all : t * suc (chosen_gates t g n) ≤ t * (m * (g + suc n)) = mul-le-mul_left t more in
    let P : ℕ → Type 0 = λ x. t * suc (chosen_gates t g n) ≤ x * (g + suc n) in
    subst P (sym e) (omega (arith, all))

-- the sum of the places that are left of rounds
rounds-few : (names w c n : ℕ) → c ≤ w →
    sum_for (λ d. names * ((c - suc d) * 6)) n ≤ n * (6 * (names * w))
rounds-few names w c zero le = omega arith
rounds-few names w c (suc n) le =
    let rest = rounds-few names w c n le in
    let one : names * (c - suc n) ≤ names * w = mul-le-mul_left names (omega arith) in
    omega (arith, rest, one)

-- Each summand is at most 64 times its own, over the members T, the names N, the nodes B, the
-- places W, the length of the prefix n, the length of cycles L, and m choices.
summands : (T N B W n L m gates rounds : ℕ) → 0 < T → 0 < L → L ≤ 4 → 0 < W →
    gates ≤ m * (5 * (W * B) + n) → rounds ≤ L * (6 * (N * W)) →
    (suc (T * (N * W + L)) + gates ≤ 64 * (m + T) * W * (B + N + n + L))
    × (2 + T * (L + rounds) + 7 * gates ≤ 64 * (m + T) * W * (B + N + n + L))
summands T N B W n L m gates rounds t l l4 w g r =
    let long : L ≤ W * L = omega (arith, mul-le-mul_right L w) in
    let wide : n ≤ W * n = omega (arith, mul-le-mul_right n w) in
    let four : L * (6 * (N * W)) ≤ 4 * (6 * (N * W)) = mul-le-mul_right (6 * (N * W)) l4 in
    let few : rounds ≤ 24 * (N * W) = omega (arith, r, four) in
    let one : 0 < T * L = mul-pos t l in
    let lengths : T * L ≤ T * (W * L) = mul-le-mul_left T long in
    let choices : m * n ≤ m * (W * n) = mul-le-mul_left m wide in
    let turns : T * rounds ≤ T * (24 * (N * W)) = mul-le-mul_left T few in
    (omega (arith, g, one, lengths, choices), omega (arith, g, one, lengths, choices, turns))

module _ (bound : Bound) (ok : IsBound bound) (prefix : List Quant) (body : Tree)
    (known : vars_below (length prefix) body ≡ true) where
  pub sizes-few : (query_variables bound prefix body ≤ most_of_query bound prefix body)
      × (query_literals bound prefix body ≤ most_of_query bound prefix body)
  sizes-few =
      let c : ℕ = round bound in
      let W : ℕ = places bound in
      let names : ℕ = length (names_of body) in
      let n : ℕ = length prefix in
      let m : ℕ = bound.traces ^ n in
      let gone = common-some bound.cycle ok.short_cycle in
      let shape : Shape = shape_of body in
      let below : EachAtom (λ name v. v < n) shape =
      atoms-like (IsAtomOf (names_of body) n) _ (λ name v h. h.1) shape (own-atoms n body known) in
      let parts : first_gates bound.traces W c shape ≤ m * (5 * (W * nodes shape)) =
      first-few bound.traces n W c ok.some_traces (omega arith) (omega (arith, gone)) shape below in
      let choices : chosen_gates bound.traces 0 n ≤ m * (0 + n) =
      chosen-few bound.traces 0 ok.some_traces n in
      summands bound.traces names (nodes shape) W n bound.cycle m _ _ ok.some_traces
      ok.some_cycle ok.short_cycle (omega (arith, gone)) (omega (arith, parts, choices))
      (rounds-few names W c bound.cycle (omega arith))

  pub variables-few : variables_of bound prefix body ≤ most_of_query bound prefix body
  variables-few =
      let e = variables-counted bound ok prefix body known in
      let few = sizes-few.0 in
      omega (arith, e, few)

  pub literals-few :
      literals_in (clauses_of bound prefix body) ≤ most_of_query bound prefix body
  literals-few =
      let e = literals-counted bound ok prefix body known in
      let few = sizes-few.1 in
      omega (arith, e, few)

-- Where a number is counted up to c alone, so is its product.
pub times_capped : (t x y c : ℕ) → 0 < t → x ≡ min y c → min (t * (x + 1)) c ≡ min (t * suc y) c
times_capped t x y c some e = elim (cases_lt y c) [
  | inl below ↦
      let same : x ≡ y = omega (arith, e) in
      ap (λ z. min (t * z) c) (let up : x + 1 ≡ suc y = omega arith in up)
  | inr past ↦
      let same : x ≡ c = omega (arith, e) in
      let left : 1 * (x + 1) ≤ t * (x + 1) = mul-le-mul_right (x + 1) some in
      let right : 1 * suc y ≤ t * suc y = mul-le-mul_right (suc y) some in
      omega (arith, left, right)
]

-- ---- counts of gates up to a number past the limits

module _ (own members gates counted : ℕ) (capped : counted ≡ min gates most_gates) where
  pub taken-same : IsTaken (own + counted) (members + 7 * counted) →
      IsTaken (own + gates) (members + 7 * gates)
  taken-same t =
      let few = t.few_variables in
      let same : counted ≡ gates = omega (arith, few, capped) in
      let P : ℕ → Type 0 = λ g. IsTaken (own + g) (members + 7 * g) in
      subst P same t

  past-same : (kind : Kind) → IsPastBy (own + counted) (members + 7 * counted) kind →
      IsPastBy (own + gates) (members + 7 * gates) kind
  past-same CnfVariables h = omega (arith, h, capped)
  past-same CnfLiterals (few, past) =
      let same : counted ≡ gates = omega (arith, few, capped) in
      (omega (arith, few, same), omega (arith, past, same))
  past-same _ h = absurd h

  pub refusal-same : (e : BoundError) → IsRefusalBy (own + counted) (members + 7 * counted) e →
      IsRefusalBy (own + gates) (members + 7 * gates) e
  refusal-same (Limit limit) (past, is) = (past-same limit.kind past, is)
  refusal-same Memory h = tt

module _ (bound : Bound) (ok : IsBound bound) (prefix : List Quant) (body : Tree)
    (known : vars_below (length prefix) body ≡ true) (names : List ℕ)
    (own parts choices gates member : ℕ) (named : names ≡ names_of body)
    (before : own ≡ first_gate names bound)
    (in_parts : parts
    ≡ min (first_gates bound.traces (places bound) (round bound) (shape_of body)) most_gates)
    (in_choices : choices ≡ min (chosen_gates bound.traces 0 (length prefix)) most_gates)
    (in_all : gates ≡ min (parts + choices) most_gates)
    (in_member : member ≡ member_literals (length names) bound) where
  all-capped : gates ≡ min (query_gates bound prefix body) most_gates
  all-capped = omega (arith, in_parts, in_choices, in_all)

  variables-are : own + query_gates bound prefix body ≡ variables_of bound prefix body
  variables-are =
      ap (λ n. n + query_gates bound prefix body) (before ∙ ap (λ l. first_gate l bound) named)
      ∙ sym (variables-counted bound ok prefix body known)

  literals-are : 2 + bound.traces * member + 7 * query_gates bound prefix body
      ≡ literals_in (clauses_of bound prefix body)
  literals-are =
      ap (λ m. 2 + bound.traces * m + 7 * query_gates bound prefix body)
      (in_member ∙ ap (λ l. member_literals (length l) bound) named)
      ∙ sym (literals-counted bound ok prefix body known)

  pub query-taken : IsTaken (own + gates) (2 + bound.traces * member + 7 * gates) →
      IsTaken (variables_of bound prefix body) (literals_in (clauses_of bound prefix body))
  query-taken t =
      let P : ℕ → Type 0 = λ v.
      IsTaken v (2 + bound.traces * member + 7 * query_gates bound prefix body) in
      let Q : ℕ → Type 0 = IsTaken (variables_of bound prefix body) in
      subst Q literals-are (subst P variables-are
      (taken-same own (2 + bound.traces * member) _ gates all-capped t))

  pub query-refused : (e : BoundError) →
      IsRefusalBy (own + gates) (2 + bound.traces * member + 7 * gates) e →
      IsRefusalBy (variables_of bound prefix body) (literals_in (clauses_of bound prefix body)) e
  query-refused e r =
      let P : ℕ → Type 0 = λ v.
      IsRefusalBy v (2 + bound.traces * member + 7 * query_gates bound prefix body) e in
      let Q : ℕ → Type 0 = λ l. IsRefusalBy (variables_of bound prefix body) l e in
      subst Q literals-are (subst P variables-are
      (refusal-same own (2 + bound.traces * member) _ gates all-capped e r))

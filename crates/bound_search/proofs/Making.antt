-- Gates made by code, one drawing after the other.
use Rattle.std.proofs.Common.{◌≡◌, ℕ, zero, suc, ◌+◌, ◌-◌, ◌<◌, ◌≤◌, Bool, false, cond, List, [], ◌∷◌, ◌++◌, length, get_or, take, drop, reverse, slice_get, Some, append_assoc, append-nil, refl, sym, ap, ◌∙◌, subst, arith, length-append, length-drop}
use Rattle.std.specs.Prelude.{ℤ, neg_ℤ, unsigned_abs}
use Rattle.std.proofs.Math.Seq.{take-suc}
use Rattle.std.proofs.lemmas.List.{reverse-append, get_or-drop}
use Rattle.std.proofs.lemmas.Option.{get_or_from_slice_get}
use Rattle.hy_base.proofs.Places.{drop-at}
use Rattle.chain_check.specs.Clauses.{Clause}
use Rattle.chain_check.proofs.Literals.{same-variable}
use Rattle.chain_check.specs.FewClauses.{further, and_clauses}
use Rattle.hy_base.specs.Rows.{listed}
use Rattle.hy_base.proofs.Listed.{listed-same}
use Rattle.bound_search.specs.declared.bound.Bound.{Bound}
use Rattle.bound_search.specs.declared.gates.Gates.{Gates}
use Rattle.bound_search.specs.Names.{name_place}
use Rattle.bound_search.specs.Queries.{places, letter_variable, letters_row}
use Rattle.bound_search.specs.Drawings.{Gate, Drawing, plain, followed, both, either, alike, never, gate_clauses}
use Rattle.bound_search.specs.Rows.{Row, Step, turned, next_row, first_or, back, steps, either_here, until_here, pairs, around, until_row, finally_row, release_row, globally_row, weak_row}
use Rattle.bound_search.specs.Making.{Draws}

pub same_size : (l : ℤ) (n : ℕ) → unsigned_abs l < n → unsigned_abs (neg_ℤ l) < n
same_size l n lt = omega (arith, same-variable l, lt)

pub gate-append : (from : ℕ) (xs ys : List Gate) →
    gate_clauses from (xs ++ ys) ≡ gate_clauses from xs ++ gate_clauses (from + length xs) ys
gate-append from [] ys = let e : from ≡ from + 0 = omega arith in ap (λ n. gate_clauses n ys) e
gate-append from (x ∷ xs) ys =
    let e : suc from + length xs ≡ from + suc (length xs) = omega arith in
    let own : List Clause = and_clauses (further from) x.left x.right in
    ap (λ l. own ++ l) (gate-append (suc from) xs ys
    ∙ ap (λ n. gate_clauses (suc from) xs ++ gate_clauses n ys) e)
    ∙ sym (append_assoc own (gate_clauses (suc from) xs) (gate_clauses (from + suc (length xs)) ys))

pub draws-plain : {A : Type 0} (x y : A) (old : Gates) → y ≡ x → Draws (plain x) old old y
draws-plain x y old e = record {
  clauses = sym (append-nil old.clauses);
  next = omega arith;
  drawn = e;
}

pub draws-followed : {A B : Type 0} (first : Drawing A) (next : A → Drawing B)
    (old mid new : Gates) (x : A) (y : B) → Draws first old mid x → Draws (next x) mid new y →
    Draws (followed first next) old new y
draws-followed {A} {B} first next old mid new x y p q =
    record { clauses = clauses; next = next_is; drawn = drawn }
  where
    behind : ℕ
    behind = old.next + length (first old.next).gates

    gates : List Gate
    gates = (next (first old.next).out behind).gates

    same : {C : Type 0} (f : A → ℕ → C) → f x mid.next ≡ f (first old.next).out behind
    same f = ap (λ z. f z mid.next) p.drawn ∙ ap (f (first old.next).out) p.next

    clauses : new.clauses ≡ old.clauses ++ gate_clauses old.next ((first old.next).gates ++ gates)
    clauses =
        q.clauses ∙ ap (λ l. mid.clauses ++ l) (same (λ z n. gate_clauses n (next z n).gates))
        ∙ ap (λ l. l ++ gate_clauses behind gates) p.clauses
        ∙ append_assoc old.clauses (gate_clauses old.next (first old.next).gates)
        (gate_clauses behind gates)
        ∙ ap (λ l. old.clauses ++ l) (sym (gate-append old.next (first old.next).gates gates))

    next_is : new.next ≡ old.next + length ((first old.next).gates ++ gates)
    next_is =
        let more = same (λ z n. length (next z n).gates) in
        let whole = length-append (first old.next).gates gates in
        omega (arith, q.next, p.next, more, whole)

    drawn : y ≡ (next (first old.next).out behind).out
    drawn = q.drawn ∙ same (λ z n. (next z n).out)

pub alike-drawn : (l m l' m' all none x : ℤ) (old mid late new : Gates) → l' ≡ neg_ℤ l →
    m' ≡ neg_ℤ m → Draws (both l m) old mid all → Draws (both l' m') mid late none →
    Draws (either all none) late new x → Draws (alike l m) old new x
alike-drawn l m l' m' all none x old mid late new e f p q r =
    draws-followed (both l m)
    (λ all. followed (both (neg_ℤ l) (neg_ℤ m)) (λ none. either all none)) old mid new all x p
    (draws-followed (both (neg_ℤ l) (neg_ℤ m)) (λ none. either all none) mid late new none x
    (let P : ℤ → Type 0 = λ z. Draws (both z (neg_ℤ m)) mid late none in
    let Q : ℤ → Type 0 = λ z. Draws (both l' z) mid late none in
    subst P e (subst Q f q)) r)

pub until-drawn : (l r later held x : ℤ) (old mid new : Gates) → Draws (both l later) old mid held →
    Draws (either r held) mid new x → Draws (until_here l r later) old new x
until-drawn l r later held x old mid new p q =
    draws-followed (both l later) (λ held. either r held) old mid new held x p q

-- one of two drawings
pub second-drawn : {A : Type 0} (b : Bool) (first second : Drawing A) (old new : Gates) (x : A) →
    b ≡ false → Draws second old new x → Draws (cond b first second) old new x
second-drawn {A} b first second old new x e p =
    let P : Bool → Type 0 = λ c. Draws (cond c first second) old new x in
    subst P (sym e) p

-- ---- rows, from the last place to the first

steps-from : (here : ℤ → ℤ → Step) (left right : Row) (i : ℕ) → i < length left →
    length left ≡ length right → drop i (steps here left right)
    ≡ here (get_or left i never) (get_or right i never) ∷ drop (suc i) (steps here left right)
steps-from here [] right i lt e = absurd (omega arith)
steps-from here (l ∷ left) [] i lt e = absurd (omega (arith, e))
steps-from here (l ∷ left) (r ∷ right) zero lt e = refl
steps-from here (l ∷ left) (r ∷ right) (suc i) lt e =
    steps-from here left right i (omega arith) (omega (arith, e))

steps-past : (here : ℤ → ℤ → Step) (left right : Row) (i : ℕ) → i ≡ length left →
    drop i (steps here left right) ≡ []
steps-past here [] right zero e = refl
steps-past here [] right (suc i) e = refl
steps-past here (l ∷ left) right zero e = absurd (omega (arith, e))
steps-past here (l ∷ left) [] (suc i) e = refl
steps-past here (l ∷ left) (r ∷ right) (suc i) e = steps-past here left right i (omega (arith, e))

module _ (here : ℤ → ℤ → Step) (left right : Row) (later : ℤ) where
  -- The steps from place i on are drawn, and so is the row of them, its last place first.
  pub record IsBack (i : ℕ) (old new : Gates) (row : Row) (now : ℤ) : Type 0 where
    pub draws : Draws (back (drop i (steps here left right)) later) old new (reverse row)
    pub first : now ≡ first_or later (reverse row)

  pub back-begin : (i : ℕ) (old : Gates) → i ≡ length left → IsBack i old old [] later
  back-begin i old e = record {
    draws =
        let P : List Step → Type 0 = λ s. Draws (back s later) old old [] in
        subst P (sym (steps-past here left right i e)) (draws-plain [] [] old refl);
    first = refl;
  }

  pub back-more : (i j : ℕ) (old mid new : Gates) (row made : Row) (now l r x : ℤ) →
      IsBack j old mid row now → suc i ≡ j → i < length left → length left ≡ length right →
      slice_get left i ≡ Some l → slice_get right i ≡ Some r → Draws (here l r now) mid new x →
      made ≡ row ++ x ∷ [] → IsBack i old new made x
  back-more i j old mid new row made now l r x t next lt even is_left is_right d e =
      record { draws = draws; first = refl' }
    where
      turned_row : reverse made ≡ x ∷ reverse row
      turned_row = ap reverse e ∙ reverse-append row (x ∷ [])

      rest : Drawing Row
      rest = back (drop j (steps here left right)) later

      step_here : Draws (here l r (first_or later (reverse row))) mid new x
      step_here = let P : ℤ → Type 0 = λ z. Draws (here l r z) mid new x in subst P t.first d

      more : Draws (back (here l r ∷ drop j (steps here left right)) later) old new
          (x ∷ reverse row)
      more =
          draws-followed rest
          (λ row. followed (here l r (first_or later row)) (λ h. plain (h ∷ row)))
          old mid new (reverse row) (x ∷ reverse row) t.draws
          (draws-followed (here l r (first_or later (reverse row))) (λ h. plain (h ∷ reverse row))
          mid new new x (x ∷ reverse row) step_here (draws-plain _ _ new refl))

      all : here l r ∷ drop j (steps here left right) ≡ drop i (steps here left right)
      all =
          ap (λ k. here l r ∷ drop k (steps here left right)) (sym next)
          ∙ ap (λ z. here z r ∷ drop (suc i) (steps here left right))
          (sym (get_or_from_slice_get left i l never is_left))
          ∙ ap (λ z. here (get_or left i never) z ∷ drop (suc i) (steps here left right))
          (sym (get_or_from_slice_get right i r never is_right))
          ∙ sym (steps-from here left right i lt even)

      draws : Draws (back (drop i (steps here left right)) later) old new (reverse made)
      draws =
          let P : List Step → Type 0 = λ s. Draws (back s later) old new (x ∷ reverse row) in
          let Q : Row → Type 0 =
          λ z. Draws (back (drop i (steps here left right)) later) old new z in
          subst Q (sym turned_row) (subst P all more)

      refl' : x ≡ first_or later (reverse made)
      refl' = ap (first_or later) (sym turned_row)

-- ---- rows made of rows

pub around-drawn : (s : ℕ) (here : ℤ → ℤ → Step) (left right round row : Row) (n f : ℤ)
    (old mid new : Gates) → n ≡ never → f ≡ first_or never round →
    Draws (back (drop s (steps here left right)) n) old mid round →
    Draws (back (steps here left right) f) mid new row → Draws
    (around s here left right) old new row
around-drawn s here left right round row n f old mid new e g p q =
    let P : ℤ → Type 0 = λ z. Draws (back (drop s (steps here left right)) z) old mid round in
    let Q : ℤ → Type 0 = λ z. Draws (back (steps here left right) z) mid new row in
    draws-followed (back (drop s (steps here left right)) never)
    (λ round. back (steps here left right) (first_or never round)) old mid new round row
    (subst P e p) (subst Q g q)

-- then each literal turned
pub turned-drawn : (drawing : Drawing Row) (old new : Gates) (row made : Row) →
    Draws drawing old new row → made ≡ turned row →
    Draws (followed drawing (λ row. plain (turned row))) old new made
turned-drawn drawing old new row made p e =
    draws-followed drawing (λ row. plain (turned row)) old new new row made p
    (draws-plain _ _ new e)

pub next-more : (row made more : Row) (i : ℕ) (x : ℤ) → made ≡ take (i - 1) (drop 1 row) →
    slice_get row i ≡ Some x → 0 < i → i < length row → more ≡ made ++ x ∷ [] →
    more ≡ take (i + 1 - 1) (drop 1 row)
next-more row made more i x e at some lt f =
    let short = length-drop 1 row in
    let up : suc (i - 1) ≡ i + 1 - 1 = omega arith in
    let there : 1 + (i - 1) ≡ i = omega (arith, some) in
    let is : get_or (drop 1 row) (i - 1) never ≡ x =
    get_or-drop 1 row (i - 1) never ∙ ap (λ k. get_or row k never) there
    ∙ get_or_from_slice_get row i x never at in
    f ∙ ap (λ l. l ++ x ∷ []) e ∙ ap (λ z. take (i - 1) (drop 1 row) ++ z ∷ []) (sym is)
    ∙ sym (take-suc (drop 1 row) (i - 1) never (omega (arith, short, lt, some)))
    ∙ ap (λ k. take k (drop 1 row)) up

pub next-end : (row made more : Row) (i s : ℕ) (x : ℤ) → made ≡ take (i - 1) (drop 1 row) →
    length row ≤ i → slice_get row s ≡ Some x → more ≡ made ++ x ∷ [] → more ≡ next_row s row
next-end row made more i s x e past at f =
    let short = length-drop 1 row in
    let whole : take (i - 1) (drop 1 row) ≡ drop 1 row =
    take-all (i - 1) (drop 1 row) (omega (arith, short, past)) in
    f ∙ ap (λ l. l ++ x ∷ []) (e ∙ whole)
    ∙ ap (λ l. drop 1 row ++ take 1 l) (sym (drop-at row s x at))
  where
    take-all : (n : ℕ) (xs : Row) → length xs ≤ n → take n xs ≡ xs
    take-all zero [] le = refl
    take-all zero (x ∷ xs) le = absurd (omega arith)
    take-all (suc n) [] le = refl
    take-all (suc n) (x ∷ xs) le = ap (λ l. x ∷ l) (take-all n xs (omega arith))

pub globally-drawn : (s : ℕ) (row failing some made : Row) (old new : Gates) →
    failing ≡ turned row → Draws (finally_row s failing) old new some → made ≡ turned some →
    Draws (globally_row s row) old new made
globally-drawn s row failing some made old new e p f =
    let P : Row → Type 0 = λ r. Draws (finally_row s r) old new some in
    turned-drawn (finally_row s (turned row)) old new some made (subst P e p) f

pub release-drawn : (s : ℕ) (left right no_left no_right row made : Row) (old new : Gates) →
    no_left ≡ turned left → no_right ≡ turned right →
    Draws (until_row s no_left no_right) old new row → made ≡ turned row →
    Draws (release_row s left right) old new made
release-drawn s left right no_left no_right row made old new e f p g =
    let P : Row → Type 0 = λ r. Draws (until_row s r no_right) old new row in
    let Q : Row → Type 0 = λ r. Draws (until_row s (turned left) r) old new row in
    turned-drawn (until_row s (turned left) (turned right)) old new row made (subst Q f
    (subst P e p)) g

-- ---- rows of two parts

pub weak-drawn : (s : ℕ) (left right one row : Row) (old mid new : Gates) →
    Draws (pairs either_here left right) old mid one → Draws (release_row s right one) mid new row →
    Draws (weak_row s left right) old new row
weak-drawn s left right one row old mid new p q =
    draws-followed (pairs either_here left right) (λ one. release_row s right one) old mid new one
    row p q

-- ---- rows of letters

pub letters-listed : (names : List ℕ) (bound : Bound) (name t r start n : ℕ) (row : Row) →
    r ≡ name_place name names → start ≡ letter_variable names bound t r 0 → n ≡ places bound →
    row ≡ listed 0 n (λ k. further (start + k)) → row ≡ letters_row names bound name t
letters-listed names bound name t r start n row place begins many e =
    let literal : ℕ → ℕ → ℤ = λ r k. further (letter_variable names bound t r k) in
    let each : (k : ℕ) → further (start + k) ≡ literal r k =
    λ k. (let there : start + k ≡ letter_variable names bound t r k = omega (arith, begins) in
    ap further there) in
    e ∙ listed-same 0 n _ (literal r) (λ k from below. each k) ∙ ap (λ w. listed 0 w (literal r)) many
    ∙ ap (λ p. listed 0 (places bound) (literal p)) place

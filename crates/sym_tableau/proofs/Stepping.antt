-- Loops that make wires: there is room for what comes next, and it is made.
use Rattle.std.proofs.Common.{◌≡◌, ℕ, zero, suc, ◌+◌, ◌-◌, ◌<◌, ◌≤◌, List, [], ◌∷◌, ◌++◌, length, refl, sym, ap, ◌∙◌, subst, arith, append_assoc, append-nil}
use Rattle.aig_net.specs.declared.parts.And.{And}
use Rattle.aig_net.specs.Nets.{literal_at}
use Rattle.aig_net.specs.Wires.{Wire, made, made_all, made_each, Fits, FitsAll, Makes}
use Rattle.hy_base.specs.Rows.{listed}
use Rattle.aig_net.proofs.Wiring.{all-grow, grows}
use Rattle.aig_net.proofs.Making.{all-ands, all-literals}
use Rattle.hy_base.proofs.Listed.{listed-last}
use Rattle.sym_tableau.specs.Oracles.{gathered}
use Rattle.sym_tableau.specs.Places.{Adds, FitsEach, MakesEach}

-- ---- wires that use those before

each-more : (first : ℕ) (old : List And) (wire : (ℕ → ℕ) → ℕ → Wire) (k d : ℕ) →
    length (made_each first old wire k).ands ≤ length (made_each first old wire (k + d)).ands
each-more first old wire k zero =
    let e : k + 0 ≡ k = omega arith in
    let same = ap (λ n. length (made_each first old wire n).ands) e in
    omega (arith, same)
each-more first old wire k (suc d) =
    let e : k + suc d ≡ suc (k + d) = omega arith in
    let same = ap (λ n. length (made_each first old wire n).ands) e in
    let more = grows first (made_each first old wire (k + d)).ands
    (wire (literal_at (made_each first old wire (k + d)).literals) (k + d)) in
    omega (arith, same, more, each-more first old wire k d)

module _ (first other : ℕ) (old ands : List And) (wire : (ℕ → ℕ) → ℕ → Wire) (k : ℕ)
    (ls : List ℕ) (w : Wire) (all : MakesEach first old wire k ands ls) (e : other ≡ first)
    (same : w ≡ wire (literal_at ls) k) where
  abbrev next : Wire
  next = wire (literal_at (made_each first old wire k).literals) k

  next-is : w ≡ next
  next-is = same ∙ ap (λ l. wire (literal_at l) k) all.literals

  pub each-room : (n : ℕ) → k < n → FitsEach first old wire n → Fits other ands w
  each-room n lt room =
      let up : suc k + (n - suc k) ≡ n = omega (arith, lt) in
      let at = ap (λ n. length (made_each first old wire n).ands) up in
      let here = ap (λ a. length (made first a next).ands) all.ands in
      let P : ℕ → Type 0 = λ first. Fits first ands w in
      let Q : Wire → Type 0 = λ w. Fits first ands w in
      subst P (sym e) (subst Q (sym next-is) (omega (
        arith,
        each-more first old wire (suc k) (n - suc k),
        at,
        here,
        room,
      )))

  pub each-made : (new : List And) (l : ℕ) (more : List ℕ) → Makes other ands w new l →
      more ≡ ls ++ l ∷ [] → MakesEach first old wire (k + 1) new more
  each-made new l more one added =
      let up : k + 1 ≡ suc k = omega arith in
      let P : ℕ → Type 0 = λ n. MakesEach first old wire n new more in
      let Q : ℕ → Type 0 = λ first. Makes first ands w new l in
      let R : Wire → Type 0 = λ w. Makes first ands w new l in
      let here = subst R next-is (subst Q e one) in
      subst P (sym up) (record {
        ands = here.ands ∙ ap (λ a. (made first a next).ands) all.ands;
        literals =
            added ∙ ap (λ l'. l' ++ l ∷ []) all.literals
            ∙ ap (λ l. (made_each first old wire k).literals ++ l ∷ []) (here.literal
            ∙ ap (λ a. (made first a next).literal) all.ands);
      })

-- ---- lists of wires, one after the other

pub adds-none : (first : ℕ) (old : List And) (before : List ℕ) → Adds first old [] old before before
adds-none first old before = record { ands = refl; literals = sym (append-nil before) }

pub adds-both : (first : ℕ) (old mid new : List And) (xs ys : List Wire) (a b c : List ℕ) →
    Adds first old xs mid a b → Adds first mid ys new b c → Adds first old (xs ++ ys) new a c
adds-both first old mid new xs ys a b c one two = record {
  ands = two.ands ∙ ap (λ m. (made_all first m ys).ands) one.ands
      ∙ sym (all-ands first old xs ys);
  literals =
      two.literals ∙ ap (λ l. l ++ (made_all first mid ys).literals) one.literals
      ∙ ap (λ m. (a ++ (made_all first old xs).literals) ++ (made_all first m ys).literals)
      one.ands
      ∙ append_assoc a (made_all first old xs).literals
      (made_all first (made_all first old xs).ands ys).literals
      ∙ ap (λ l. a ++ l) (sym (all-literals first old xs ys));
}

pub front-room : (first : ℕ) (old : List And) (xs ys : List Wire) →
    FitsAll first old (xs ++ ys) → FitsAll first old xs
front-room first old xs ys room =
    let parts = ap length (all-ands first old xs ys) in
    omega (arith, room, parts, all-grow first (made_all first old xs).ands ys)

pub rest-room : (first other : ℕ) (old mid : List And) (xs ys ws : List Wire) (a b : List ℕ) →
    FitsAll first old (xs ++ ys) → Adds first old xs mid a b → other ≡ first → ws ≡ ys →
    FitsAll other mid ws
rest-room first other old mid xs ys ws a b room one e same =
    let parts = ap length (all-ands first old xs ys) in
    let here = ap (λ m. length (made_all first m ys).ands) one.ands in
    let P : ℕ → Type 0 = λ first. FitsAll first mid ws in
    let Q : List Wire → Type 0 = FitsAll first mid in
    subst P (sym e) (subst Q (sym same) (omega (arith, room, parts, here)))

gathered-front : (f : ℕ → List Wire) (k d : ℕ) →
    (rest : List Wire) × (gathered f (k + d) ≡ gathered f k ++ rest)
gathered-front f k zero =
    let e : k + 0 ≡ k = omega arith in
    ([], ap (gathered f) e ∙ sym (append-nil (gathered f k)))
gathered-front f k (suc d) =
    let (rest, same) = gathered-front f k d in
    let e : k + suc d ≡ suc (k + d) = omega arith in (
      rest ++ f (k + d),
      ap (gathered f) e ∙ ap (λ l. l ++ f (k + d)) same
          ∙ append_assoc (gathered f k) rest (f (k + d)),
    )

module _ (first other : ℕ) (old ands : List And) (f : ℕ → List Wire) (k : ℕ)
    (before after : List ℕ) (ws : List Wire)
    (all : Adds first old (gathered f k) ands before after) (e : other ≡ first)
    (same : ws ≡ f k) where
  pub adds-room : (n : ℕ) → k < n → FitsAll first old (gathered f n) → FitsAll other ands ws
  adds-room n lt room =
      let (rest, parts) = gathered-front f (suc k) (n - suc k) in
      let up : suc k + (n - suc k) ≡ n = omega (arith, lt) in
      let at = ap (λ n. length (made_all first old (gathered f n)).ands) up in
      let whole = ap (λ l. length (made_all first old l).ands) parts in
      let split = ap length (all-ands first old (gathered f k ++ f k) rest) in
      let grow = all-grow first (made_all first old (gathered f k ++ f k)).ands rest in
      let last = ap length (all-ands first old (gathered f k) (f k)) in
      let here = ap (λ a. length (made_all first a (f k)).ands) all.ands in
      let P : ℕ → Type 0 = λ first. FitsAll first ands ws in
      let Q : List Wire → Type 0 = λ ws. FitsAll first ands ws in
      subst P (sym e) (subst Q (sym same) (omega (
        arith,
        at,
        whole,
        split,
        grow,
        last,
        here,
        room,
      )))

  pub adds-next : (new : List And) (more : List ℕ) → Adds other ands ws new after more →
      Adds first old (gathered f (k + 1)) new before more
  adds-next new more one =
      let up : k + 1 ≡ suc k = omega arith in
      let P : ℕ → Type 0 = λ n. Adds first old (gathered f n) new before more in
      let Q : ℕ → Type 0 = λ first. Adds first ands ws new after more in
      let R : List Wire → Type 0 = λ ws. Adds first ands ws new after more in
      subst P (sym up) (adds-both first old ands new (gathered f k) (f k) before after more all
      (subst R same (subst Q e one)))

-- ---- one more of a list

pub listed-more : {B : Type 0} (n m : ℕ) (f : ℕ → B) (made more : List B) (x : B) → m ≡ n + 1 →
    made ≡ listed 0 n f → x ≡ f n → more ≡ made ++ x ∷ [] → more ≡ listed 0 m f
listed-more n m f made more x up e h added =
    let next : n + 1 ≡ suc n = omega arith in
    let plain : 0 + n ≡ n = omega arith in
    added ∙ ap (λ l. l ++ x ∷ []) e ∙ ap (λ x. listed 0 n f ++ x ∷ []) h
    ∙ ap (λ k. listed 0 n f ++ f k ∷ []) (sym plain) ∙ sym (listed-last 0 n f)
    ∙ ap (λ k. listed 0 k f) (sym next) ∙ ap (λ k. listed 0 k f) (sym up)

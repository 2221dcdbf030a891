-- A conjunction that is made one wire after the other.
use Rattle.std.proofs.Common.{◌≡◌, ℕ, zero, suc, ◌+◌, ◌-◌, ◌<◌, ◌≤◌, List, [], ◌∷◌, ◌++◌, length, refl, sym, ap, ◌∙◌, subst, arith, append_assoc, length-append}
use Rattle.aig_net.specs.declared.parts.And.{And}
use Rattle.aig_net.specs.Wires.{Wire, literal, made, Fits, Makes, both, all_of, and_of}
use Rattle.hy_base.specs.Rows.{listed}
use Rattle.aig_net.proofs.Wiring.{grows}
use Rattle.hy_base.proofs.Listed.{last-listed}
use Rattle.aig_net.proofs.Making.{all-of-last}
use Rattle.live_safe.proofs.Sizes.{all-of-append}

listed-parts : {B : Type 0} (c n d : ℕ) (f : ℕ → B) →
    listed c (n + d) f ≡ listed c n f ++ listed (c + n) d f
listed-parts c zero d f =
    let none : 0 + d ≡ d = omega arith in
    let here : c ≡ c + 0 = omega arith in
    ap (λ k. listed c k f) none ∙ ap (λ c. listed c d f) here
listed-parts c (suc n) d f =
    let up : suc n + d ≡ suc (n + d) = omega arith in
    let e : suc c + n ≡ c + suc n = omega arith in
    ap (λ k. listed c k f) up ∙ ap (λ l. f c ∷ l) (listed-parts (suc c) n d f
    ∙ ap (λ k. listed (suc c) n f ++ listed k d f) e)

-- The wires so far, one more, and the conjunction of both.
module _ (first : ℕ) (old : List And) (w : Wire) where
  abbrev Conjunction : List Wire → List And → ℕ → Type 0
  Conjunction ws ands l = Makes first old (all_of w ws) ands l

  conjoined : (ands more new : List And) (x : Wire) (ws : List Wire) (l m r : ℕ) →
      Conjunction ws ands l → Makes first ands x more m →
      Makes first more (both (literal l) (literal m)) new r → Conjunction (ws ++ x ∷ []) new r
  conjoined ands more new x ws l m r all one joined =
      let P : Wire → Type 0 = λ v. Makes first old v new r in
      subst P (sym (all-of-last w x ws))
      (same (all_of w ws) ands l more m all.ands all.literal one.ands one.literal joined)
    where
      same : (v : Wire) (ands : List And) (l : ℕ) (more : List And) (m : ℕ) →
          ands ≡ (made first old v).ands → l ≡ (made first old v).literal →
          more ≡ (made first ands x).ands → m ≡ (made first ands x).literal →
          Makes first more (both (literal l) (literal m)) new r → Makes first old (both v x) new r
      same v ands l more m e f g h joined =
          let base : List And = (made first old v).ands in
          let more-is : more ≡ (made first base x).ands = g ∙ ap (λ a. (made first a x).ands) e in
          let m-is : m ≡ (made first base x).literal =
          h ∙ ap (λ a. (made first a x).literal) e in
          let Q : List And → ℕ → ℕ → Type 0 = λ a l m.
          Makes first a (both (literal l) (literal m)) new r in
          let P : List And → Type 0 = λ a. Q a l m in
          let R : ℕ → Type 0 = λ l. Q (made first base x).ands l m in
          let S : ℕ → Type 0 = λ m. Q (made first base x).ands (made first old v).literal m in
          let moved = subst S m-is (subst R f (subst P more-is joined)) in
          record { ands = moved.ands; literal = moved.literal }

  pub literal-joined : (other : ℕ) (ands new : List And) (f : ℕ → ℕ) (j l m r : ℕ) →
      Conjunction (listed 0 j (λ k. literal (f k))) ands l → other ≡ first → m ≡ f j →
      Makes other ands (both (literal l) (literal m)) new r →
      Conjunction (listed 0 (j + 1) (λ k. literal (f k))) new r
  literal-joined other ands new f j l m r all e h joined =
      let g : ℕ → Wire = λ k. literal (f k) in
      let P : List Wire → Type 0 = λ ws. Conjunction ws new r in
      let Q : ℕ → Type 0 = λ first. Makes first ands (both (literal l) (literal m)) new r in
      subst P (sym (last-listed j g))
      (conjoined ands ands new (g j) (listed 0 j g) l m r all
      (record { ands = refl; literal = h }) (subst Q e joined))

  pub wire-joined : (other another : ℕ) (ands more new : List And) (ws : List Wire)
      (f : ℕ → Wire) (x : Wire) (j l m r : ℕ) → Conjunction (ws ++ listed 0 j f) ands l →
      other ≡ first → another ≡ other → x ≡ f j → Makes other ands x more m →
      Makes another more (both (literal l) (literal m)) new r →
      Conjunction (ws ++ listed 0 (j + 1) f) new r
  wire-joined other another ands more new ws f x j l m r all e e' h one joined =
      let P : List Wire → Type 0 = λ vs. Conjunction vs new r in
      let longer : ws ++ listed 0 (j + 1) f ≡ (ws ++ listed 0 j f) ++ f j ∷ [] =
      ap (λ l. ws ++ l) (last-listed j f) ∙ sym (append_assoc ws (listed 0 j f) (f j ∷ [])) in
      let Q : ℕ → Type 0 = λ first. Makes first more (both (literal l) (literal m)) new r in
      let R : ℕ → Type 0 = λ first. Makes first ands x more m in
      let S : Wire → Type 0 = λ x. Makes first ands x more m in
      subst P (sym longer) (conjoined ands more new (f j) (ws ++ listed 0 j f) l m r all
      (subst S h (subst R e one)) (subst Q (e' ∙ e) joined))

  -- ---- there is room for each

  all-grows : (v : Wire) (ws : List Wire) →
      length (made first old v).ands ≤ length (made first old (all_of v ws)).ands
  all-grows v [] = omega arith
  all-grows v (x ∷ ws) =
      let here = grows first (made first old v).ands x in
      let l = length-append (made first (made first old v).ands x).ands
      (and_of (made first old v).literal
      (made first (made first old v).ands x).literal ∷ []) in
      omega (arith, here, l, all-grows (both v x) ws)

  -- a front takes no more ands
  pub front-fits : (xs ys : List Wire) → Fits first old (all_of w (xs ++ ys)) →
      Fits first old (all_of w xs)
  front-fits xs ys room =
      let e = ap (λ v. length (made first old v).ands) (all-of-append w xs ys) in
      omega (arith, e, all-grows (all_of w xs) ys, room)

  next-fits : (ws : List Wire) (f : ℕ → Wire) (j n : ℕ) → j < n →
      Fits first old (all_of w (ws ++ listed 0 n f)) →
      Fits first old (both (all_of w (ws ++ listed 0 j f)) (f j))
  next-fits ws f j n lt room =
      let d : ℕ = n - (j + 1) in
      let whole : n ≡ j + 1 + d = omega (arith, lt) in
      let parts : ws ++ listed 0 n f ≡ ((ws ++ listed 0 j f) ++ f j ∷ []) ++ listed (0 + (j + 1)) d
      f =
      ap (λ n. ws ++ listed 0 n f) whole ∙ ap (λ l. ws ++ l) (listed-parts 0 (j + 1) d f)
      ∙ ap (λ l. ws ++ (l ++ listed (0 + (j + 1)) d f)) (last-listed j f)
      ∙ sym (append_assoc ws (listed 0 j f ++ f j ∷ []) (listed (0 + (j + 1)) d f))
      ∙ ap (λ l. l ++ listed (0 + (j + 1)) d f) (sym (append_assoc ws (listed 0 j f) (f j ∷ []))) in
      let P : List Wire → Type 0 = λ ws. Fits first old (all_of w ws) in
      let Q : Wire → Type 0 = Fits first old in
      subst Q (all-of-last w (f j) (ws ++ listed 0 j f))
      (front-fits ((ws ++ listed 0 j f) ++ f j ∷ []) (listed (0 + (j + 1)) d f)
      (subst P parts room))

  both-many : (v x : Wire) → length (made first old (both v x)).ands ≡
      suc (length (made first (made first old v).ands x).ands)
  both-many v x =
      let l = length-append (made first (made first old v).ands x).ands
      (and_of (made first old v).literal (made first (made first old v).ands x).literal ∷ []) in
      omega (arith, l)

  last-many : (more : List And) (l m : ℕ) →
      length (made first more (both (literal l) (literal m))).ands ≡ suc (length more)
  last-many more l m = let e = length-append more (and_of l m ∷ []) in omega (arith, e)

  pub literal-room : (other : ℕ) (ands : List And) (f : ℕ → ℕ) (ys : List Wire) (j n l m : ℕ) →
      j < n → Fits first old (all_of w (listed 0 n (λ k. literal (f k)) ++ ys)) →
      Conjunction (listed 0 j (λ k. literal (f k))) ands l → other ≡ first →
      Fits other ands (both (literal l) (literal m))
  literal-room other ands f ys j n l m lt room all e =
      let g : ℕ → Wire = λ k. literal (f k) in
      let next = next-fits [] g j n lt (front-fits (listed 0 n g) ys room) in
      let many = both-many (all_of w (listed 0 j g)) (g j) in
      let same = ap length all.ands in
      let P : ℕ → Type 0 = λ first. Fits first ands (both (literal l) (literal m)) in
      subst P (sym e) (omega (arith, next, many, same, last-many ands l m))

  pub wire-room : (other : ℕ) (ands : List And) (ws : List Wire) (f : ℕ → Wire) (x : Wire)
      (j n l : ℕ) → j < n → Fits first old (all_of w (ws ++ listed 0 n f)) →
      Conjunction (ws ++ listed 0 j f) ands l → other ≡ first → x ≡ f j → Fits other ands x
  wire-room other ands ws f x j n l lt room all e h =
      let next = next-fits ws f j n lt room in
      let many = both-many (all_of w (ws ++ listed 0 j f)) (f j) in
      let same = ap (λ a. length (made first a (f j)).ands) all.ands in
      let P : ℕ → Type 0 = λ first. Fits first ands x in
      let Q : Wire → Type 0 = λ x. Fits first ands x in
      subst P (sym e) (subst Q (sym h) (omega (arith, next, many, same)))

  pub joined-room : (other another : ℕ) (ands more : List And) (ws : List Wire) (f : ℕ → Wire)
      (x : Wire) (j n l m : ℕ) → j < n → Fits first old (all_of w (ws ++ listed 0 n f)) →
      Conjunction (ws ++ listed 0 j f) ands l → other ≡ first → another ≡ other → x ≡ f j →
      Makes other ands x more m → Fits another more (both (literal l) (literal m))
  joined-room other another ands more ws f x j n l m lt room all e e' h one =
      let next = next-fits ws f j n lt room in
      let many = both-many (all_of w (ws ++ listed 0 j f)) (f j) in
      let same = ap (λ a. length (made first a (f j)).ands) all.ands in
      let R : ℕ → Type 0 = λ first. Makes first ands x more m in
      let S : Wire → Type 0 = λ x. Makes first ands x more m in
      let here = ap length (subst S h (subst R e one)).ands in
      let P : ℕ → Type 0 = λ first. Fits first more (both (literal l) (literal m)) in
      subst P (sym (e' ∙ e)) (omega (arith, next, many, same, here, last-many more l m))

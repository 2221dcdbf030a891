-- Lassos in normal form with one word are one lasso.
use Rattle.std.proofs.Common.{◌≡◌, ℕ, zero, suc, ◌+◌, ◌-◌, ◌*◌, ◌<◌, ◌≤◌, List, [], ◌∷◌, ◌++◌, length, take, refl, sym, ap, ◌∙◌, inl, inr, subst, arith}
use Rattle.std.specs.FinSet.{empty}
use Rattle.std.proofs.Math.Seq.{take-length}
use Rattle.std.proofs.lemmas.Bool.{cases_eq, cases_lt}
use Rattle.std.proofs.lemmas.List.{ext_get_or, get_or-take, get_or-append_right, get_or_append_left, length-take-le, get_or_default}
use Rattle.hy_bits.specs.Letter.{Letter}
use Rattle.hy_formula.specs.Lassos.{Lasso}
use Rattle.hy_lasso.specs.Words.{letter_at}
use Rattle.hy_lasso.specs.Joint.{IsMultiple}
use Rattle.hy_lasso.specs.NormalForms.{times, IsNormal}
use Rattle.hy_lasso.specs.Rounds.{letter_of, RepeatsAfter}
use Rattle.hy_lasso.proofs.Periods.{front-more, multiple-le}
use Rattle.hy_lasso.proofs.Periodic.{Comes, rounds, IsWordOf, lasso_of, own-word}
use Rattle.hy_lasso.proofs.Shortening.{length-times}

-- What comes after c and after d positions comes after a number of which both are multiples.
common-round : (w : ℕ → Letter) (s fuel c d : ℕ) → c + d ≤ fuel → 0 < c → 0 < d → Comes w s c → Comes w s d → (g : ℕ) × (0 < g) × IsMultiple c g × IsMultiple d g × Comes w s g
common-round w s zero c d few some more p q = absurd (omega (arith, few, some))
common-round w s (suc fuel) c d few some more p q =
    elim (cases_eq c d) [
      | inl same ↦ (c, some, (1, omega arith), (1, omega (arith, same)), p)
      | inr apart ↦
          elim (cases_lt c d) [
            | inl lt ↦ first (common-round w s fuel c (d - c) (omega (arith, few, some, lt)) some (omega (arith, lt)) p (less c d lt p q)) lt
            | inr le ↦ second (common-round w s fuel (c - d) d (omega (arith, few, more, le)) (omega (arith, le, apart)) more (less d c (omega (arith, le, apart)) q p) q) le
          ]
    ]
  where
    less : (a b : ℕ) → a < b → Comes w s a → Comes w s b → Comes w s (b - a)
    less a b lt f g i le =
        let e : i + (b - a) + a ≡ i + b = omega (arith, lt) in
        sym (f (i + (b - a)) (omega (arith, le))) ∙ ap w e ∙ g i le

    first : ((g : ℕ) × (0 < g) × IsMultiple c g × IsMultiple (d - c) g × Comes w s g) → c < d → (g : ℕ) × (0 < g) × IsMultiple c g × IsMultiple d g × Comes w s g
    first (g, pos, (k, e), (j, f), r) lt = (g, pos, (k, e), (k + j, omega (arith, e, f, lt)), r)

    second : ((g : ℕ) × (0 < g) × IsMultiple (c - d) g × IsMultiple d g × Comes w s g) → d ≤ c → (g : ℕ) × (0 < g) × IsMultiple c g × IsMultiple d g × Comes w s g
    second (g, pos, (k, e), (j, f), r) le = (g, pos, (k + j, omega (arith, e, f, le)), (j, f), r)

-- A list that repeats is its beginning again and again.
repeated-is : (letters : List Letter) (g : ℕ) → g ≤ length letters → RepeatsAfter letters g → (n i : ℕ) → n * g ≤ length letters → i < n * g → letter_of (times n (take g letters)) i ≡ letter_of letters i
repeated-is letters g few r zero i all lt = absurd (omega (arith, lt))
repeated-is letters g few r (suc n) i all lt =
    let long = length-take-le g letters few in
    elim (cases_lt i g) [
      | inl first ↦ get_or_append_left (take g letters) _ empty i (omega (arith, long, first)) ∙ get_or-take g letters i empty first
      | inr second ↦
          let back : i - g + g ≡ i = omega (arith, second) in
          let less : i - g < n * g = omega (arith, lt, second) in
          get_or-append_right (take g letters) _ g i empty long second
          ∙ repeated-is letters g few r n (i - g) (omega (arith, all)) less
          ∙ sym (r (i - g) (omega (arith, back, lt, all)))
          ∙ ap (letter_of letters) back
    ]

-- A cycle that is no repetition has no shorter round.
whole-round : (stem cycle : List Letter) (w : ℕ → Letter) (s g : ℕ) → IsWordOf stem cycle w → IsNormal (lasso_of stem cycle) → 0 < g → IsMultiple (length cycle) g → Comes w s g → length cycle ≡ g
whole-round stem cycle w s g of form pos (n, e) r =
    let some = of.some in
    let few : g ≤ length cycle = multiple-le (length cycle) g some (n, e) in
    let long = length-take-le g cycle few in
    let same : cycle ≡ times n (take g cycle) =
    ext_get_or empty cycle (times n (take g cycle)) (e ∙ ap (λ x. n * x) (sym long) ∙ sym (length-times n (take g cycle)))
    (λ i lt. sym (repeated-is cycle g few repeats n i (omega (arith, e)) (omega (arith, e, lt))))
    in
    let one : n ≡ 1 = form.primitive (take g cycle) n same in
    e ∙ ap (λ x. x * g) one ∙ omega arith
  where
    repeats : RepeatsAfter cycle g
    repeats i lt =
        let some = of.some in
        let far : s ≤ s * length cycle = many s (length cycle) some in
        let over : length stem + (i + g) + s * length cycle ≡ length stem + i + s * length cycle + g = omega arith in
        of.back (i + g) lt
        ∙ sym (rounds w (length stem) (length cycle) of.comes s (length stem + (i + g)) (omega arith))
        ∙ ap w over
        ∙ r (length stem + i + s * length cycle) (omega (arith, far))
        ∙ rounds w (length stem) (length cycle) of.comes s (length stem + i) (omega arith)
        ∙ sym (of.back i (omega (arith, lt)))
      where
        many : (a b : ℕ) → 0 < b → a ≤ a * b
        many a zero pos = absurd (omega (arith, pos))
        many a (suc b) pos = omega arith

split-last : (xs : List Letter) (n : ℕ) → length xs ≡ suc n → xs ≡ take n xs ++ letter_of xs n ∷ []
split-last xs n long =
    let e : n + 1 ≡ length xs = omega (arith, long) in
    sym (take-length xs) ∙ ap (λ k. take k xs) (sym e) ∙ front-more xs n (letter_of xs n) (omega (arith, long)) (get_or_default xs n empty _ (omega (arith, long)))

-- the stem of a normal form is the shortest
not-longer : (stem cycle : List Letter) (w : ℕ → Letter) (s : ℕ) → IsWordOf stem cycle w → IsNormal (lasso_of stem cycle) → Comes w s (length cycle) → ¬ (s < length stem)
not-longer stem cycle w s of form comes lt = go (length stem) refl (length cycle) refl
  where
    go : (t : ℕ) → length stem ≡ t → (d : ℕ) → length cycle ≡ d → ⊥
    go zero long d wide = omega (arith, long, lt)
    go (suc t) long zero wide = let some = of.some in omega (arith, some, wide)
    go (suc t) long (suc d) wide =
        let e : length stem + d ≡ t + length cycle = omega (arith, long, wide) in
        form.apart (take t stem) (take d cycle) (letter_of stem t) (letter_of cycle d) (split-last stem t long) (split-last cycle d wide)
        (of.front t (omega (arith, long)) ∙ sym (comes t (omega (arith, long, lt))) ∙ ap w (sym e) ∙ sym (of.back d (omega (arith, wide))))

pub one-form : (l m : Lasso Letter) → 0 < length l.cycle → 0 < length m.cycle → IsNormal l → IsNormal m → ((i : ℕ) → letter_at l i ≡ letter_at m i) → l ≡ m
one-form l m some more f g same = ap (λ x. lasso_of x l.cycle) stems ∙ ap (lasso_of m.stem) cycles
  where
    one : IsWordOf l.stem l.cycle (letter_at l)
    one = own-word l.stem l.cycle some

    other : IsWordOf m.stem m.cycle (letter_at l)
    other =
        let own = own-word m.stem m.cycle more in
        record {
          some = more;
          front = λ i lt. own.front i lt ∙ sym (same i);
          back = λ j lt. own.back j lt ∙ sym (same (length m.stem + j));
          comes = λ i le. same (i + length m.cycle) ∙ own.comes i le ∙ sym (same i);
        }

    even : length l.cycle ≡ length m.cycle
    even =
        let (r, pos, c, d, comes) =
        common-round (letter_at l) (length l.stem + length m.stem) (length l.cycle + length m.cycle) (length l.cycle) (length m.cycle) (omega arith) some more
        (λ i le. one.comes i (omega (arith, le)))
        (λ i le. other.comes i (omega (arith, le)))
        in
        whole-round l.stem l.cycle (letter_at l) _ r one f pos c comes ∙ sym (whole-round m.stem m.cycle (letter_at l) _ r other g pos d comes)

    level : length l.stem ≡ length m.stem
    level =
        let F : ℕ → Type 0 = Comes (letter_at l) (length l.stem) in
        let G : ℕ → Type 0 = Comes (letter_at l) (length m.stem) in
        let a = not-longer m.stem m.cycle (letter_at l) (length l.stem) other g (subst F even one.comes) in
        let b = not-longer l.stem l.cycle (letter_at l) (length m.stem) one f (subst G (sym even) other.comes) in
        elim (cases_lt (length l.stem) (length m.stem)) [
          | inl lt ↦ absurd (a lt)
          | inr le ↦ elim (cases_lt (length m.stem) (length l.stem)) [ inl lt ↦ absurd (b lt) | inr ge ↦ omega (arith, le, ge) ]
        ]

    stems : l.stem ≡ m.stem
    stems = ext_get_or empty l.stem m.stem level (λ i lt. one.front i lt ∙ sym (other.front i (omega (arith, lt, level))))

    cycles : l.cycle ≡ m.cycle
    cycles =
        ext_get_or empty l.cycle m.cycle even
        (λ j lt. one.back j lt ∙ ap (λ n. letter_at l (n + j)) level ∙ sym (other.back j (omega (arith, lt, even))))

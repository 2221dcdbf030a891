-- What members and residuals leave after the joint letter of a code, by families.
use Rattle.std.proofs.Common.{◌≡◌, ◌+◌, ◌<◌, ◌≤◌, ℕ, zero, suc, Bool, true, false, cond, List, [], ◌∷◌, ◌++◌, length, take, get_or, slice_get, Some, set, Vec, vec_items, ◌≢◌, bit_and, inl, inr, refl, sym, ap, ◌∙◌, subst, arith, append_assoc}
use Rattle.std.specs.FinSet.{contains}
use Rattle.std.proofs.lemmas.Bool.{cases_eq}
use Rattle.std.proofs.lemmas.List.{take_more, get_or_append_left, append-nil, get_or-set_same, get_or-set_other, length-set}
use Rattle.hy_base.proofs.Places.{last-of}
use Rattle.hy_bits.specs.Sets.{NumberSet, HasNone}
use Rattle.ltl_closure.specs.Nodes.{Node, and, or, until, release, node_at}
use Rattle.hy_formula.specs.Atoms.{IndexedAtom}
use Rattle.fin_monitor.specs.Codes.{letter_of}
use Rattle.fin_monitor.specs.Duties.{Duty, no_duty, strongly, weakly, joined, after, after_members, after_duty, after_each, AreAlike}
use Rattle.fin_monitor.specs.Lefts.{IsFamily, IsFamilyOf, IsLeft, AreLefts, IsUnionsBelow, IsStepOf, IsPartialStep, IsJoinedWith, IsAsked, kept_lists, list_at}
use Rattle.fin_monitor.proofs.Alike.{alike-itself, alike-through, alike-append, alike-joined}
use Rattle.fin_monitor.proofs.FamilySteps.{alike-more, joined-append, family-none, family-single}
use Rattle.fin_monitor.proofs.Unrolled.{left-by, family-like}

-- the list at a place
pub list-there : {A : Type 0} (lists : List (Vec Duty A)) (k : ℕ) (v : Vec Duty A) → slice_get lists k ≡ Some v → list_at (kept_lists lists) k ≡ vec_items v
list-there [] k v e = absurd (cc)
list-there {A} (x ∷ xs) zero v e = let same : x ≡ v = cc in ap (λ (b : Vec Duty A). vec_items b) same
list-there (x ∷ xs) (suc k) v e = list-there xs k v e

-- ---- one added to nothing

pub of-one : (made xs : List Duty) → IsFamily made → AreAlike made ([] ++ xs) → IsFamilyOf made xs
of-one made xs is alike = record { family = is; alike = alike }

pub of-two : (first made xs ys : List Duty) → IsFamily made → AreAlike first ([] ++ xs) → AreAlike made (first ++ ys) → IsFamilyOf made (xs ++ ys)
of-two first made xs ys is a b = record { family = is; alike = alike-more first made [] xs ys a b }

pub of-none : IsFamilyOf [] []
of-none = record { family = family-none; alike = alike-itself [] }

pub of-single : (list : List Duty) (d : Duty) → list ≡ d ∷ [] → IsFamilyOf list (d ∷ [])
of-single list d e = let P : List Duty → Type 0 = λ l. IsFamilyOf l (d ∷ []) in subst P (sym e) (record { family = family-single d; alike = alike-itself (d ∷ []) })

pub of-literal : (list : List Duty) (b : Bool) (xs : List Duty) → IsFamilyOf list xs → xs ≡ cond b (no_duty ∷ []) [] → IsFamilyOf list (cond b (no_duty ∷ []) [])
of-literal list b xs is e = let P : List Duty → Type 0 = IsFamilyOf list in subst P e is

-- ---- a member by its parts

module _ (nodes : List Node) (atoms : List IndexedAtom) (code k : ℕ) (lt : k < length nodes) (lists : List (List Duty)) (lefts : AreLefts nodes atoms code lists k) where
  abbrev letter : ℕ → ℕ → Bool
  letter = letter_of atoms code

  part-alike : (f : ℕ) (list : List Duty) → f < k → list_at lists f ≡ list → AreAlike list (after nodes letter f)
  part-alike f list less e = let P : List Duty → Type 0 = λ l. AreAlike l (after nodes letter f) in subst P e (lefts f less).alike

  pub left-and : (g h : ℕ) → and g h ≡ node_at nodes k → (g < k) × (h < k) → (xs ys list : List Duty) → list_at lists g ≡ xs → list_at lists h ≡ ys → IsFamilyOf list (joined xs ys) → IsLeft nodes atoms code k list
  left-and g h is (bg, bh) xs ys list p q made =
      left-by nodes atoms code k lt (and g h) is (bg, bh) list
      (family-like list (joined xs ys) _ made (alike-joined xs (after nodes letter g) ys (after nodes letter h) (part-alike g xs bg p) (part-alike h ys bh q)))

  pub left-or : (g h : ℕ) → or g h ≡ node_at nodes k → (g < k) × (h < k) → (xs ys list : List Duty) → list_at lists g ≡ xs → list_at lists h ≡ ys → IsFamilyOf list (xs ++ ys) → IsLeft nodes atoms code k list
  left-or g h is (bg, bh) xs ys list p q made =
      left-by nodes atoms code k lt (or g h) is (bg, bh) list
      (family-like list (xs ++ ys) _ made (alike-append xs (after nodes letter g) ys (after nodes letter h) (part-alike g xs bg p) (part-alike h ys bh q)))

  pub left-until : (g h : ℕ) → until g h ≡ node_at nodes k → (g < k) × (h < k) → (again : Duty) → again ≡ strongly k → (xs ys list : List Duty) → list_at lists g ≡ xs → list_at lists h ≡ ys
      → IsFamilyOf list (ys ++ joined (again ∷ []) xs) → IsLeft nodes atoms code k list
  left-until g h is (bg, bh) again e xs ys list p q made =
      let P : Duty → Type 0 = λ d. IsFamilyOf list (ys ++ joined (d ∷ []) xs) in
      left-by nodes atoms code k lt (until g h) is (bg, bh) list
      (family-like list (ys ++ joined (strongly k ∷ []) xs) _ (subst P e made)
      (alike-append ys (after nodes letter h) (joined (strongly k ∷ []) xs) (joined (strongly k ∷ []) (after nodes letter g)) (part-alike h ys bh q)
      (alike-joined (strongly k ∷ []) (strongly k ∷ []) xs (after nodes letter g) (alike-itself (strongly k ∷ [])) (part-alike g xs bg p))))

  pub left-release : (g h : ℕ) → release g h ≡ node_at nodes k → (g < k) × (h < k) → (again : Duty) → again ≡ weakly k → (xs ys list : List Duty) → list_at lists g ≡ xs → list_at lists h ≡ ys
      → IsFamilyOf list (joined ys xs ++ joined (again ∷ []) ys) → IsLeft nodes atoms code k list
  left-release g h is (bg, bh) again e xs ys list p q made =
      let P : Duty → Type 0 = λ d. IsFamilyOf list (joined ys xs ++ joined (d ∷ []) ys) in
      let x = part-alike g xs bg p in
      let y = part-alike h ys bh q in
      left-by nodes atoms code k lt (release g h) is (bg, bh) list
      (family-like list (joined ys xs ++ joined (weakly k ∷ []) ys) _ (subst P e made)
      (alike-append (joined ys xs) (joined (after nodes letter h) (after nodes letter g)) (joined (weakly k ∷ []) ys) (joined (weakly k ∷ []) (after nodes letter h))
      (alike-joined ys (after nodes letter h) xs (after nodes letter g) y x)
      (alike-joined (weakly k ∷ []) (weakly k ∷ []) ys (after nodes letter h) (alike-itself (weakly k ∷ [])) y)))

-- ---- unions

pub unions-none : (lists : List (List Duty)) (code : ℕ) (s : NumberSet) (made : List Duty) → made ≡ no_duty ∷ [] → IsUnionsBelow lists code s 0 made
unions-none lists code s made e nodes atoms long lefts = let P : List Duty → Type 0 = λ l. AreAlike l (no_duty ∷ []) in subst P (sym e) (alike-itself (no_duty ∷ []))

pub unions-has : (lists : List (List Duty)) (code : ℕ) (s : NumberSet) (k : ℕ) (made xs more : List Duty) → k < length lists → IsUnionsBelow lists code s k made → contains s k ≡ true → list_at lists k ≡ xs
    → AreAlike more ([] ++ joined xs made) → IsUnionsBelow lists code s (k + 1) more
unions-has lists code s k made xs more lt is has at alike nodes atoms long lefts =
    let P : List Duty → Type 0 = λ l. AreAlike l (after nodes (letter_of atoms code) k) in
    let Q : ℕ → Type 0 = λ n. AreAlike more (after_members nodes (letter_of atoms code) s n) in
    let R : Bool → Type 0 = λ b. AreAlike more (cond b (joined (after nodes (letter_of atoms code) k) (after_members nodes (letter_of atoms code) s k)) (after_members nodes (letter_of atoms code) s k)) in
    let here : AreAlike more (after_members nodes (letter_of atoms code) s (suc k)) =
    subst R (sym has)
    (alike-through more (joined xs made) _ alike
    (alike-joined xs (after nodes (letter_of atoms code) k) made (after_members nodes (letter_of atoms code) s k) (subst P at (lefts k lt).alike) (is nodes atoms long lefts))) in
    let step : suc k ≡ k + 1 = omega arith in
    subst Q step here

pub unions-not : (lists : List (List Duty)) (code : ℕ) (s : NumberSet) (k : ℕ) (made : List Duty) → IsUnionsBelow lists code s k made → contains s k ≡ false → IsUnionsBelow lists code s (k + 1) made
unions-not lists code s k made is none nodes atoms long lefts =
    let Q : ℕ → Type 0 = λ n. AreAlike made (after_members nodes (letter_of atoms code) s n) in
    let R : Bool → Type 0 = λ b. AreAlike made (cond b (joined (after nodes (letter_of atoms code) k) (after_members nodes (letter_of atoms code) s k)) (after_members nodes (letter_of atoms code) s k)) in
    let here : AreAlike made (after_members nodes (letter_of atoms code) s (suc k)) = subst R (sym none) (is nodes atoms long lefts) in
    let step : suc k ≡ k + 1 = omega arith in
    subst Q step here

-- up to a number, where no member lies between
pub unions-skip : (lists : List (List Duty)) (code : ℕ) (s : NumberSet) (from to : ℕ) (made : List Duty) → from ≤ to → HasNone s from to → IsUnionsBelow lists code s from made → IsUnionsBelow lists code s to made
unions-skip lists code s from zero made le none is = let P : ℕ → Type 0 = λ n. IsUnionsBelow lists code s n made in let e : from ≡ 0 = omega arith in subst P e is
unions-skip lists code s from (suc to) made le none is =
    let P : ℕ → Type 0 = λ n. IsUnionsBelow lists code s n made in
    elim (cases_eq from (suc to)) [
      | inl e ↦ subst P e is
      | inr apart ↦
          let before = unions-skip lists code s from to made (omega arith) (λ q ge lt. none q ge (omega arith)) is in
          let step : to + 1 ≡ suc to = omega arith in
          subst P step (unions-not lists code s to made before (none to (omega arith) (omega arith)))
    ]

-- ---- residuals

pub each-append : (nodes : List Node) (l : ℕ → ℕ → Bool) (xs ys : List Duty) → after_each nodes l (xs ++ ys) ≡ after_each nodes l xs ++ after_each nodes l ys
each-append nodes l [] ys = refl
each-append nodes l (x ∷ xs) ys = ap (λ z. after_duty nodes l x ++ z) (each-append nodes l xs ys) ∙ sym (append_assoc (after_duty nodes l x) (after_each nodes l xs) (after_each nodes l ys))

module _ (lists : List (List Duty)) (code : ℕ) where
  pub partial-none : (done strong : List Duty) (weak : NumberSet) → done ≡ [] → strong ≡ [] → IsPartialStep lists code [] done strong weak
  partial-none done strong weak e f nodes atoms long lefts =
      let w : List Duty = after_members nodes (letter_of atoms code) weak (length lists) in
      let P : List Duty → Type 0 = λ l. AreAlike (l ++ joined strong w) [] in
      let Q : List Duty → Type 0 = λ l. AreAlike ([] ++ joined l w) [] in
      subst P (sym e) (subst Q (sym f) (alike-itself []))

  pub joined-by : (done strong left made : List Duty) (weak : NumberSet) → AreAlike made (done ++ joined strong left) → IsUnionsBelow lists code weak (length lists) left → IsJoinedWith lists code done strong weak made
  joined-by done strong left made weak alike is nodes atoms long lefts =
      alike-through made (done ++ joined strong left) _ alike
      (alike-append done done (joined strong left) _ (alike-itself done) (alike-joined strong strong left _ (alike-itself strong) (is nodes atoms long lefts)))

  pub partial-closed : (residual done strong made : List Duty) (weak : NumberSet) → IsPartialStep lists code residual done strong weak → IsJoinedWith lists code done strong weak made → IsStepOf lists code residual made
  partial-closed residual done strong made weak so joins nodes atoms long lefts = alike-through made _ _ (joins nodes atoms long lefts) (so nodes atoms long lefts)

  pub step-partial : (residual done strong : List Duty) (weak : NumberSet) → IsStepOf lists code residual done → strong ≡ [] → IsPartialStep lists code residual done strong weak
  step-partial residual done strong weak so none nodes atoms long lefts =
      let w : List Duty = after_members nodes (letter_of atoms code) weak (length lists) in
      let P : List Duty → Type 0 = λ l. AreAlike (done ++ joined l w) (after_each nodes (letter_of atoms code) residual) in
      let Q : List Duty → Type 0 = λ l. AreAlike l (after_each nodes (letter_of atoms code) residual) in
      subst P (sym none) (subst Q (sym (append-nil done)) (so nodes atoms long lefts))

  pub partial-more : (residual : List Duty) (i : ℕ) (d : Duty) (done strong left more : List Duty) → i < length residual → d ≡ get_or residual i d → IsPartialStep lists code (take i residual) done strong d.weak
      → IsUnionsBelow lists code d.strong (length lists) left → AreAlike more (strong ++ left) → IsPartialStep lists code (take (i + 1) residual) done more d.weak
  partial-more residual i d done strong left more lt is so s alike nodes atoms long lefts =
      let l : ℕ → ℕ → Bool = letter_of atoms code in
      let w : List Duty = after_members nodes l d.weak (length lists) in
      let P : ℕ → Type 0 = λ n. AreAlike left (after_members nodes l d.strong n) in
      let Q : ℕ → Type 0 = λ n. AreAlike w (after_members nodes l d.weak n) in
      let R : List Duty → Type 0 = AreAlike (done ++ joined more w) in
      let S : List Duty → Type 0 = AreAlike (joined left w) in
      let T : List Duty → Type 0 = AreAlike (joined more w) in
      let here : AreAlike (joined left w) (after_duty nodes l d ++ []) =
      subst S (sym (append-nil (after_duty nodes l d))) (alike-joined left _ w _ (subst P (sym long) (s nodes atoms long lefts)) (subst Q (sym long) (alike-itself w))) in
      let parted : AreAlike (joined more w) (joined strong w ++ joined left w) =
      subst T (joined-append strong left w) (alike-joined more (strong ++ left) w w alike (alike-itself w)) in
      let all : AreAlike (done ++ joined more w) ((done ++ joined strong w) ++ joined left w) =
      subst R (sym (append_assoc done (joined strong w) (joined left w))) (alike-append done done (joined more w) _ (alike-itself done) parted) in
      subst R (sym (each-append nodes l (take i residual) (d ∷ [])) ∙ ap (after_each nodes l) (ap (λ y. take i residual ++ y ∷ []) is ∙ sym (take_more residual i d lt)))
      (alike-through (done ++ joined more w) _ _ all (alike-append (done ++ joined strong w) (after_each nodes l (take i residual)) (joined left w) (after_duty nodes l d ++ []) (so nodes atoms long lefts) here))

-- ---- lists that say what members leave

pub lefts-push : (nodes : List Node) (atoms : List IndexedAtom) (code : ℕ) (lists : List (List Duty)) (list : List Duty) → AreLefts nodes atoms code lists (length lists) → IsLeft nodes atoms code (length lists) list
    → AreLefts nodes atoms code (lists ++ list ∷ []) (length lists + 1)
lefts-push nodes atoms code lists list lefts here q lt =
    elim (cases_eq q (length lists)) [
      | inl e ↦
          let P : List Duty → Type 0 = IsLeft nodes atoms code q in
          let Q : ℕ → Type 0 = λ j. IsLeft nodes atoms code j list in
          subst P (sym (ap (λ j. get_or (lists ++ list ∷ []) j []) e ∙ last-of lists list [])) (subst Q (sym e) here)
      | inr apart ↦ let P : List Duty → Type 0 = IsLeft nodes atoms code q in subst P (sym (get_or_append_left lists (list ∷ []) [] q (omega arith))) (lefts q (omega arith))
    ]

pub kept-push : {A : Type 0} (lists : List (Vec Duty A)) (v : Vec Duty A) → kept_lists (lists ++ v ∷ []) ≡ kept_lists lists ++ vec_items v ∷ []
kept-push [] v = refl
kept-push (x ∷ xs) v = ap (λ l. vec_items x ∷ l) (kept-push xs v)

pub kept-length : {A : Type 0} (lists : List (Vec Duty A)) → length (kept_lists lists) ≡ length lists
kept-length [] = refl
kept-length (x ∷ xs) = ap suc (kept-length xs)

pub kept-set : {A : Type 0} (lists : List (Vec Duty A)) (k : ℕ) (v : Vec Duty A) → kept_lists (set lists k v) ≡ set (kept_lists lists) k (vec_items v)
kept-set [] k v = refl
kept-set (x ∷ xs) zero v = refl
kept-set (x ∷ xs) (suc k) v = ap (λ l. vec_items x ∷ l) (kept-set xs k v)

-- lists of which the first say it of the new code, and the others still of the old one
pub record AreTurned (nodes : List Node) (atoms : List IndexedAtom) (old code : ℕ) (lists : List (List Duty)) (k : ℕ) : Type 0 where
  pub done : AreLefts nodes atoms code lists k
  pub todo : (q : ℕ) → k ≤ q → q < length lists → IsLeft nodes atoms old q (list_at lists q)

pub turned-kept : (nodes : List Node) (atoms : List IndexedAtom) (old code : ℕ) (lists : List (List Duty)) (k mask : ℕ) → k < length lists → AreTurned nodes atoms old code lists k → IsAsked nodes atoms k mask → bit_and code mask ≡ bit_and old mask
    → AreTurned nodes atoms old code lists (k + 1)
turned-kept nodes atoms old code lists k mask lt is asked e =
    record {
      done = λ q less.
          elim (cases_eq q k) [
            | inl same ↦
                let P : ℕ → Type 0 = λ j. IsLeft nodes atoms code j (list_at lists j) in
                let Q : List Duty → Type 0 = IsFamilyOf (list_at lists k) in
                subst P (sym same) (subst Q (sym (asked code old e)) (is.todo k (omega arith) lt))
            | inr apart ↦ is.done q (omega arith)
          ];
      todo = λ q le less. is.todo q (omega arith) less;
    }

pub turned-set : (nodes : List Node) (atoms : List IndexedAtom) (old code : ℕ) (lists : List (List Duty)) (k : ℕ) (list : List Duty) → k < length lists → AreTurned nodes atoms old code lists k → IsLeft nodes atoms code k list
    → AreTurned nodes atoms old code (set lists k list) (k + 1)
turned-set nodes atoms old code lists k list lt is here =
    record {
      done = λ q less.
          elim (cases_eq q k) [
            | inl same ↦
                let P : ℕ → Type 0 = λ j. IsLeft nodes atoms code j (list_at (set lists k list) j) in
                let Q : List Duty → Type 0 = IsLeft nodes atoms code k in
                subst P (sym same) (subst Q (sym (get_or-set_same lists k list [] lt)) here)
            | inr apart ↦ let Q : List Duty → Type 0 = IsLeft nodes atoms code q in subst Q (sym (get_or-set_other lists k q list [] apart)) (is.done q (omega arith))
          ];
      todo = λ q le less.
          let apart : q ≢ k = λ e. omega arith in
          let Q : List Duty → Type 0 = IsLeft nodes atoms old q in
          subst Q (sym (get_or-set_other lists k q list [] apart)) (is.todo q (omega arith) (omega (arith, length-set {A = List Duty})));
    }

pub lefts-more : {A : Type 0} (nodes : List Node) (atoms : List IndexedAtom) (code : ℕ) (lists new : List (Vec Duty A)) (v : Vec Duty A) (k : ℕ) → length lists ≡ k → new ≡ lists ++ v ∷ []
    → AreLefts nodes atoms code (kept_lists lists) k → IsLeft nodes atoms code k (vec_items v) → AreLefts nodes atoms code (kept_lists new) (k + 1)
lefts-more {A} nodes atoms code lists new v k long is lefts here =
    let P : List (List Duty) → Type 0 = λ l. AreLefts nodes atoms code l (k + 1) in
    let Q : ℕ → Type 0 = λ n. AreLefts nodes atoms code (kept_lists lists) n in
    let R : ℕ → Type 0 = λ n. IsLeft nodes atoms code n (vec_items v) in
    let S : ℕ → Type 0 = λ n. AreLefts nodes atoms code (kept_lists lists ++ vec_items v ∷ []) (n + 1) in
    let e : k ≡ length (kept_lists lists) = sym (kept-length lists ∙ long) in
    subst P (sym (ap (λ l. kept_lists l) is ∙ kept-push lists v))
    (subst S (sym e) (lefts-push nodes atoms code (kept_lists lists) (vec_items v) (subst Q e lefts) (subst R e here)))

pub turned-start : {A : Type 0} (nodes : List Node) (atoms : List IndexedAtom) (old code : ℕ) (lists : List (Vec Duty A)) → AreLefts nodes atoms old (kept_lists lists) (length lists) → AreTurned nodes atoms old code (kept_lists lists) 0
turned-start nodes atoms old code lists lefts = record { done = λ k lt. absurd (omega arith); todo = λ q le lt. lefts q (omega (arith, kept-length lists)) }

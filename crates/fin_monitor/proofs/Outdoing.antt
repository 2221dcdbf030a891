-- Duties that leave nothing, after any letter, that others do not.
use Rattle.std.proofs.Common.{◌≡◌, ◌+◌, ◌<◌, ℕ, zero, suc, Bool, true, false, ◌||◌, cond, List, [], ◌∷◌, ◌++◌, drop, length, get_or, inl, inr, refl, sym, ap, ◌∙◌, subst, arith}
use Rattle.std.specs.Cmp.{nat_cmp_total}
use Rattle.std.specs.List.{Contains}
use Rattle.std.specs.FinSet.{empty, contains, union, is_subset, is_subset-contains, contains-is_subset}
use Rattle.std.proofs.lemmas.Bool.{cases_eq, or_cases, or_left, or_right, and_parts, and_from}
use Rattle.std.proofs.lemmas.List.{drop_more}
use Rattle.std.proofs.lemmas.List.Elements.{Contains-append_left, Contains-append_right, Contains-append_cases}
use Rattle.hy_base.proofs.Members.{contains-here, contains-cases, contains-none}
use Rattle.hy_bits.specs.Sets.{NumberSet}
use Rattle.ltl_closure.specs.Nodes.{Node, until, node_at, PartsBelow}
use Rattle.fin_monitor.specs.Duties.{Duty, no_duty, strongly, both, joined, within, after_node, after, after_members, after_duty, after_each, minimal, residual_step, Same, Covers, AreAlike}
use Rattle.fin_monitor.specs.Lefts.{IsFamily}
use Rattle.fin_monitor.specs.Reductions.{Outdoes, OutdoesSome, OutdoesDuty, OutdoneBy, LeaveAlike}
use Rattle.fin_monitor.proofs.Alike.{within-itself, within-through, joined-from, joined-of, covers-itself, covers-through, same-alike, alike-through, alike-back}
use Rattle.fin_monitor.proofs.FamilySteps.{family-minimal}
use Rattle.fin_monitor.proofs.Minimal.{alike-minimal}
use Rattle.fin_monitor.proofs.Sets.{has-none, has-union}
use Rattle.fin_monitor.proofs.Stepping.{each-append}
use Rattle.fin_monitor.proofs.Unrolled.{after-unrolled}

-- ---- members

pub outdoes-itself : (nodes : List Node) (k : ℕ) → Outdoes nodes k k
outdoes-itself nodes k letter = covers-itself (after nodes letter k)

covers-first : (xs ys : List Duty) → Covers (xs ++ ys) xs
covers-first xs ys d c = (d, Contains-append_left xs ys d c, within-itself d)

pub outdoes-until : (nodes : List Node) (b k g h : ℕ) → k < length nodes → until g h ≡ node_at nodes k → PartsBelow k (node_at nodes k) → Outdoes nodes b k → Outdoes nodes b h
outdoes-until nodes b k g h lt is parts so letter =
    let P : List Duty → Type 0 = λ l. Covers l (after nodes letter h) in
    let e : after nodes letter h ++ joined (strongly k ∷ []) (after nodes letter g) ≡ after nodes letter k =
    ap (after_node letter (after nodes letter) k) is ∙ sym (after-unrolled nodes letter k lt parts) in
    covers-through (after nodes letter b) (after nodes letter k) (after nodes letter h) (so letter)
    (subst P e (covers-first (after nodes letter h) (joined (strongly k ∷ []) (after nodes letter g))))

-- ---- unions

within-left : (x y : Duty) → within x (both x y) ≡ true
within-left x y =
    and_from _ _ (contains-is_subset nat_cmp_total x.strong (union x.strong y.strong) (λ k h. (has-union x.strong y.strong k).1 (inl h)))
    (contains-is_subset nat_cmp_total x.weak (union x.weak y.weak) (λ k h. (has-union x.weak y.weak k).1 (inl h)))

within-right : (x y : Duty) → within y (both x y) ≡ true
within-right x y =
    and_from _ _ (contains-is_subset nat_cmp_total y.strong (union x.strong y.strong) (λ k h. (has-union x.strong y.strong k).1 (inr h)))
    (contains-is_subset nat_cmp_total y.weak (union x.weak y.weak) (λ k h. (has-union x.weak y.weak k).1 (inr h)))

union-over : (s t u : NumberSet) → is_subset s u ≡ true → is_subset t u ≡ true → is_subset (union s t) u ≡ true
union-over s t u p q =
    contains-is_subset nat_cmp_total (union s t) u
    (λ k h. elim ((has-union s t k).0 h) [ inl a ↦ is_subset-contains nat_cmp_total s u p k a | inr b ↦ is_subset-contains nat_cmp_total t u q k b ])

both-over : (x y z : Duty) → within x z ≡ true → within y z ≡ true → within (both x y) z ≡ true
both-over x y z p q =
    let (a, b) = and_parts (is_subset x.strong z.strong) (is_subset x.weak z.weak) p in
    let (c, d) = and_parts (is_subset y.strong z.strong) (is_subset y.weak z.weak) q in
    and_from _ _ (union-over x.strong y.strong z.strong a c) (union-over x.weak y.weak z.weak b d)

none-within : (x : Duty) → within no_duty x ≡ true
none-within x = and_from _ _ (contains-is_subset nat_cmp_total empty x.strong (λ k h. absurd (has-none k h))) (contains-is_subset nat_cmp_total empty x.weak (λ k h. absurd (has-none k h)))

module _ (nodes : List Node) (letter : ℕ → ℕ → Bool) where
  -- Some duty of the list is within x.
  abbrev pub IsOver : List Duty → Duty → Type 0
  IsOver list x = (y : Duty) × Contains list y × (within y x ≡ true)

  members-under : (set : NumberSet) (n k : ℕ) (x : Duty) → k < n → contains set k ≡ true → Contains (after_members nodes letter set n) x → IsOver (after nodes letter k) x
  members-under set zero k x lt has c = absurd (omega arith)
  members-under set (suc n) k x lt has c = step (contains set n) refl c (λ z less there. members-under set n k z less has there)
    where
      step : (b : Bool) → contains set n ≡ b → Contains (cond b (joined (after nodes letter n) (after_members nodes letter set n)) (after_members nodes letter set n)) x
          → ((z : Duty) → k < n → Contains (after_members nodes letter set n) z → IsOver (after nodes letter k) z) → IsOver (after nodes letter k) x
      step true is there ih =
          let (y, z, cy, cz, e) = joined-from (after nodes letter n) (after_members nodes letter set n) x there in
          let P : Duty → Type 0 = λ w. IsOver (after nodes letter k) w in
          subst P e
          (elim (cases_eq k n) [
            | inl same ↦ let Q : ℕ → Type 0 = λ j. Contains (after nodes letter j) y in (y, subst Q (sym same) cy, within-left y z)
            | inr apart ↦ let (w, cw, le) = ih z (omega arith) cz in (w, cw, within-through w z (both y z) le (within-right y z))
          ])
      step false is there ih =
          elim (cases_eq k n) [
            | inl same ↦ let no : true ≡ false = sym has ∙ ap (contains set) same ∙ is in absurd (cc)
            | inr apart ↦ ih x (omega arith) there
          ]

  members-over : (set : NumberSet) (n : ℕ) (x : Duty) → ((k : ℕ) → k < n → contains set k ≡ true → IsOver (after nodes letter k) x) → IsOver (after_members nodes letter set n) x
  members-over set zero x over = (no_duty, contains-here no_duty [], none-within x)
  members-over set (suc n) x over = step (contains set n) refl (members-over set n x (λ k lt. over k (omega arith)))
    where
      step : (b : Bool) → contains set n ≡ b → IsOver (after_members nodes letter set n) x → IsOver (cond b (joined (after nodes letter n) (after_members nodes letter set n)) (after_members nodes letter set n)) x
      step true is (z, cz, wz) = let (y, cy, wy) = over n (omega arith) is in (both y z, joined-of (after nodes letter n) (after_members nodes letter set n) y z cy cz, both-over y z x wy wz)
      step false is so = so

  each-under : (list : List Duty) (e : Duty) → Contains list e → Covers (after_each nodes letter list) (after_duty nodes letter e)
  each-under [] e c d cd = absurd (contains-none e c)
  each-under (x ∷ xs) e c d cd =
      elim (contains-cases x e xs c) [
        | inl same ↦
            let P : Duty → Type 0 = λ y. Contains (after_duty nodes letter y) d in
            (d, Contains-append_left (after_duty nodes letter x) (after_each nodes letter xs) d (subst P (sym same) cd), within-itself d)
        | inr later ↦ let (y, cy, w) = each-under xs e later d cd in (y, Contains-append_right (after_duty nodes letter x) (after_each nodes letter xs) y cy, w)
      ]

pub outdoes-duty : (nodes : List Node) (e d : Duty) → ((k : ℕ) → k < length nodes → (contains e.strong k || contains e.weak k) ≡ true → OutdoesSome nodes k d) → OutdoesDuty nodes e d
outdoes-duty nodes e d some letter x c =
    let n = length nodes in
    let (s, w, cs, cw, is) = joined-from (after_members nodes letter d.strong n) (after_members nodes letter d.weak n) x c in
    let P : Duty → Type 0 = λ y. IsOver nodes letter (after_duty nodes letter e) y in
    let under : (f : ℕ) → f < n → (contains d.strong f || contains d.weak f) ≡ true → IsOver nodes letter (after nodes letter f) (both s w) = λ f lt has.
    elim (or_cases (contains d.strong f) (contains d.weak f) has) [
      | inl a ↦ let (z, cz, le) = members-under nodes letter d.strong n f s lt a cs in (z, cz, within-through z s (both s w) le (within-left s w))
      | inr b ↦ let (z, cz, le) = members-under nodes letter d.weak n f w lt b cw in (z, cz, within-through z w (both s w) le (within-right s w))
    ] in
    let pick : (k : ℕ) → k < n → (contains e.strong k || contains e.weak k) ≡ true → IsOver nodes letter (after nodes letter k) (both s w) = λ k lt has.
    (let (f, less, in_d, out) = some k lt has in
    let (z, cz, wz) = under f less in_d in
    let (y, cy, wy) = out letter z cz in
    (y, cy, within-through y z (both s w) wy wz)) in
    let (p, cp, wp) = members-over nodes letter e.strong n (both s w) (λ k lt h. pick k lt (or_left (contains e.strong k) (contains e.weak k) h)) in
    let (q, cq, wq) = members-over nodes letter e.weak n (both s w) (λ k lt h. pick k lt (or_right (contains e.strong k) (contains e.weak k) h)) in
    subst P is (both p q, joined-of (after_members nodes letter e.strong n) (after_members nodes letter e.weak n) p q cp cq, both-over p q (both s w) wp wq)

pub outdone-by : (nodes : List Node) (list : List Duty) (e d : Duty) → Contains list e → OutdoesDuty nodes e d → OutdoneBy nodes d list
outdone-by nodes list e d c out letter =
    covers-through (after_each nodes letter list) (after_duty nodes letter e) (after_duty nodes letter d) (each-under nodes letter list e c) (out letter)

-- ---- residuals, from the last duty on

module _ (nodes : List Node) (made residual : List Duty) (i : ℕ) (d : Duty) (lt : i < length residual) (at : d ≡ get_or residual i d) (so : LeaveAlike nodes made (drop (i + 1) residual)) where
  here : drop i residual ≡ d ∷ drop (i + 1) residual
  here = drop_more residual i d lt ∙ ap (λ x. x ∷ drop (i + 1) residual) (sym at)

  pub alike-kept_duty : LeaveAlike nodes (made ++ d ∷ []) (drop i residual)
  alike-kept_duty letter =
      let a = after_each nodes letter made in
      let b = after_each nodes letter (drop (i + 1) residual) in
      let c = after_duty nodes letter d in
      let (p, q) = so letter in
      let P : List Duty → Type 0 = λ l. AreAlike l (after_each nodes letter (drop i residual)) in
      let Q : List Duty → Type 0 = λ l. AreAlike (a ++ (c ++ [])) (after_each nodes letter l) in
      subst P (sym (each-append nodes letter made (d ∷ [])))
      (subst Q (sym here) (
        (λ x cx. elim (Contains-append_cases c b x cx) [
          | inl l ↦ (x, Contains-append_right a (c ++ []) x (Contains-append_left c [] x l), within-itself x)
          | inr r ↦ let (y, cy, w) = p x r in (y, Contains-append_left a (c ++ []) y cy, w)
        ]),
        (λ x cx. elim (Contains-append_cases a (c ++ []) x cx) [
          | inl l ↦ let (y, cy, w) = q x l in (y, Contains-append_right c b y cy, w)
          | inr r ↦ elim (Contains-append_cases c [] x r) [ inl l ↦ (x, Contains-append_left c b x l, within-itself x) | inr none ↦ absurd (contains-none x none) ]
        ]),
      ))

  pub alike-dropped_duty : OutdoneBy nodes d made → LeaveAlike nodes made (drop i residual)
  alike-dropped_duty out letter =
      let a = after_each nodes letter made in
      let b = after_each nodes letter (drop (i + 1) residual) in
      let c = after_duty nodes letter d in
      let (p, q) = so letter in
      let Q : List Duty → Type 0 = λ l. AreAlike a (after_each nodes letter l) in
      subst Q (sym here) (
        (λ x cx. elim (Contains-append_cases c b x cx) [ inl l ↦ out letter x l | inr r ↦ p x r ]),
        (λ x cx. let (y, cy, w) = q x cx in (y, Contains-append_right c b y cy, w)),
      )

pub alike-both_ways : (nodes : List Node) (r s : List Duty) → LeaveAlike nodes r s → LeaveAlike nodes s r
alike-both_ways nodes r s so letter = alike-back (after_each nodes letter r) (after_each nodes letter s) (so letter)

pub step-alike : (nodes : List Node) (letter : ℕ → ℕ → Bool) (r s left : List Duty) → IsFamily left → LeaveAlike nodes r s → Same left (residual_step nodes letter r) → Same left (residual_step nodes letter s)
step-alike nodes letter r s left family so same =
    let a = after_each nodes letter r in
    let b = after_each nodes letter s in
    family-minimal left b family (alike-through left a b (alike-through left (minimal a) a (same-alike left (minimal a) same) (alike-minimal a)) (so letter))

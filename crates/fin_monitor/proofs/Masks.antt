-- Masks of the atoms that are asked.
use Rattle.std.proofs.Common.{◌≡◌, ◌+◌, ◌<◌, ℕ, true, false, ◌||◌, List, [], ◌∷◌, ◌++◌, length, take, get_or, slice_get, Some, inl, inr, sym, ap, ◌∙◌, subst, arith, bit_or}
use Rattle.std.specs.FinSet.{contains}
use Rattle.std.proofs.lemmas.Bool.{cases_eq}
use Rattle.std.proofs.lemmas.List.{take_more, get_or_append_left}
use Rattle.std.proofs.lemmas.Option.{get_or_from_slice_get}
use Rattle.hy_base.proofs.Places.{last-of}
use Rattle.hy_formula.proofs.Each.{each-append}
use Rattle.ltl_closure.specs.Nodes.{Node, node_at, PartsBelow}
use Rattle.hy_formula.specs.Atoms.{IndexedAtom}
use Rattle.fin_monitor.specs.Duties.{Duty}
use Rattle.fin_monitor.specs.Lefts.{IsPart, IsAsked, AreAsked, IsAskedNode, IsAskedBelow, IsAskedAll}
use Rattle.fin_monitor.proofs.CodeBits.{part-left, part-right, part-through}
use Rattle.fin_monitor.proofs.Unrolled.{asked-one}

pub parts-either : (masks : List ℕ) (g h x y : ℕ) → slice_get masks g ≡ Some x → slice_get masks h ≡ Some y
    → IsPart (get_or masks g 0) (bit_or x y) × IsPart (get_or masks h 0) (bit_or x y)
parts-either masks g h x y p q =
    let P : ℕ → Type 0 = λ m. IsPart m (bit_or x y) in
    (subst P (sym (get_or_from_slice_get masks g x 0 p)) (part-left x y), subst P (sym (get_or_from_slice_get masks h y 0 q)) (part-right x y))

below-on : (masks : List ℕ) (d : Duty) (n a b : ℕ) → IsAskedBelow masks d n a → IsPart a b → IsAskedBelow masks d n b
below-on masks d n a b asked part k lt has = part-through (get_or masks k 0) a b (asked k lt has) part

all-on : (masks : List ℕ) (ds : List Duty) (a b : ℕ) → IsAskedAll masks ds a → IsPart a b → IsAskedAll masks ds b
all-on masks [] a b asked part = tt
all-on masks (d ∷ ds) a b (here, asked) part = (below-on masks d (length masks) a b here part, all-on masks ds a b asked part)

pub all-more : (masks : List ℕ) (ds : List Duty) (i : ℕ) (d : Duty) (a b : ℕ) → i < length ds → d ≡ get_or ds i d → IsAskedAll masks (take i ds) a → IsAskedBelow masks d (length masks) b
    → IsAskedAll masks (take (i + 1) ds) (bit_or a b)
all-more masks ds i d a b lt is asked here =
    let P : List Duty → Type 0 = λ l. IsAskedAll masks l (bit_or a b) in
    subst P (ap (λ y. take i ds ++ y ∷ []) is ∙ sym (take_more ds i d lt))
    (each-append (λ (x : Duty). IsAskedBelow masks x (length masks) (bit_or a b)) (take i ds) (d ∷ []) (all-on masks (take i ds) a (bit_or a b) asked (part-left a b)) (below-on masks d (length masks) b (bit_or a b) here (part-right a b), tt))

pub below-has : (masks : List ℕ) (d : Duty) (k a x : ℕ) → IsAskedBelow masks d k a → slice_get masks k ≡ Some x → IsAskedBelow masks d (k + 1) (bit_or a x)
below-has masks d k a x asked at q lt has =
    elim (cases_eq q k) [
      | inl e ↦ let P : ℕ → Type 0 = λ m. IsPart m (bit_or a x) in subst P (sym (ap (λ j. get_or masks j 0) e ∙ get_or_from_slice_get masks k x 0 at)) (part-right a x)
      | inr apart ↦ below-on masks d k a (bit_or a x) asked (part-left a x) q (omega arith) has
    ]

pub below-not : (masks : List ℕ) (d : Duty) (k a : ℕ) → IsAskedBelow masks d k a → contains d.strong k ≡ false → contains d.weak k ≡ false → IsAskedBelow masks d (k + 1) a
below-not masks d k a asked no_strong no_weak q lt has =
    elim (cases_eq q k) [
      | inl e ↦
          let P : ℕ → Type 0 = λ j. (contains d.strong j || contains d.weak j) ≡ true in
          let here : (contains d.strong k || contains d.weak k) ≡ true = subst P e has in
          let none : (contains d.strong k || contains d.weak k) ≡ false = (λ i. no_strong i || no_weak i) in
          absurd (let wrong : false ≡ true = sym none ∙ here in cc)
      | inr apart ↦ asked q (omega arith) has
    ]

-- one member more
pub masks-more : (nodes : List Node) → ((k : ℕ) → k < length nodes → PartsBelow k (node_at nodes k)) → (atoms : List IndexedAtom) (masks : List ℕ) (k : ℕ) (node : Node) (mask : ℕ) → k < length nodes → length masks ≡ k
    → node ≡ node_at nodes k → AreAsked nodes atoms masks k → IsAskedNode atoms masks node mask → AreAsked nodes atoms (masks ++ mask ∷ []) (k + 1)
masks-more nodes parts atoms masks k node mask lt long is asked here q less =
    elim (cases_eq q k) [
      | inl e ↦
          let P : ℕ → Type 0 = λ m. IsAsked nodes atoms q m in
          let Q : ℕ → Type 0 = λ j. IsAsked nodes atoms j mask in
          let R : Node → Type 0 = λ x. IsAskedNode atoms masks x mask in
          let at : get_or (masks ++ mask ∷ []) q 0 ≡ mask = ap (λ j. get_or (masks ++ mask ∷ []) j 0) (e ∙ sym long) ∙ last-of masks mask 0 in
          subst P (sym at) (subst Q (sym e) (asked-one nodes parts atoms masks k mask lt asked (subst R is here)))
      | inr apart ↦
          let P : ℕ → Type 0 = λ m. IsAsked nodes atoms q m in
          subst P (sym (get_or_append_left masks (mask ∷ []) 0 q (omega arith))) (asked q (omega arith))
    ]

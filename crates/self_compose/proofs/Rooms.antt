-- The copies of a net's literals have room where its copies have.
use Rattle.std.proofs.Common.{◌≡◌, ℕ, ◌+◌, ◌*◌, ◌/◌, ◌<◌, ◌≤◌, ◌^◌, List, length, get_or, sym, ap, ◌∙◌, subst, arith}
use Rattle.std.proofs.Math.Nat.{mul-le-mul_left}
use Rattle.std.proofs.lemmas.List.{get_or_default}
use Rattle.aig_net.specs.declared.parts.And.{And}
use Rattle.aig_net.specs.declared.parts.NetParts.{NetParts}
use Rattle.aig_net.specs.Nets.{Net, no_and, and_at, literal_at, variables, Below, AllBelow, AreOrdered, first_and, IsNet}
use Rattle.aig_net.proofs.Copying.{length-copied}
use Rattle.self_compose.specs.Copies.{copy_literal, copy_and, compose}
use Rattle.self_compose.proofs.Tuples.{composed-net}

abbrev pub HasRoom : ℕ → ℕ → Type 0
HasRoom n l = l / 2 * n < 2 ^ 31

module _ (net : Net) (n : ℕ) (few : variables (compose net n) ≤ 2 ^ 31) where
  below-room : (l m : ℕ) → m ≤ variables net → Below m l → HasRoom n l
  below-room l m le below =
      let a : length (compose net n).latches ≡ length net.latches * n =
      length-copied n (copy_literal n) net.latches in
      let b : length (compose net n).ands ≡ length net.ands * n =
      length-copied n (copy_and n) net.ands in
      let most : n * (l / 2) ≤ n * (net.inputs + length net.latches + length net.ands) =
      mul-le-mul_left n (omega (arith, le, below)) in
      omega (arith, a, b, most, few)

  pub literal-rooms : (count : ℕ) (list literals : List ℕ) → list ≡ literals → count ≡ n →
      AllBelow (variables net) literals → (k d : ℕ) → k < length list →
      HasRoom count (get_or list k d)
  literal-rooms count list literals e same good k d lt =
      let long : length list ≡ length literals = ap length e in
      let at : get_or list k d ≡ literal_at literals k =
      get_or_default list k d 0 lt ∙ ap (λ l. literal_at l k) e in
      let P : ℕ → Type 0 = HasRoom count in
      let Q : ℕ → Type 0 = λ c. HasRoom c (literal_at literals k) in
      subst P (sym at) (subst Q (sym same)
      (below-room (literal_at literals k) (variables net) (omega arith)
      (good k (omega (arith, lt, long)))))

  pub and-rooms : (count : ℕ) (list : List And) → list ≡ net.ands → count ≡ n →
      AreOrdered (first_and net) net.ands → (k : ℕ) (d : And) → k < length list →
      HasRoom count (get_or list k d).left × HasRoom count (get_or list k d).right
  and-rooms count list e same good k d lt =
      let long : length list ≡ length net.ands = ap length e in
      let at : get_or list k d ≡ and_at net.ands k =
      get_or_default list k d no_and lt ∙ ap (λ l. and_at l k) e in
      let (l, r) = good k (omega (arith, lt, long)) in
      let P : And → Type 0 = λ a. HasRoom count a.left × HasRoom count a.right in
      let Q : ℕ → Type 0 = λ c. HasRoom c (and_at net.ands k).left
      × HasRoom c (and_at net.ands k).right in
      let low : first_and net + k ≤ variables net = omega (arith, lt, long) in
      subst P (sym at) (subst Q (sym same) (
        below-room (and_at net.ands k).left (first_and net + k) low l,
        below-room
            (and_at net.ands k).right (first_and net + k) low r,
      ))

pub composed_parts : (net : Net) (n : ℕ) → 0 < n → IsNet net → (parts : NetParts) →
    parts ≡ compose net n → IsNet parts
composed_parts net n some good parts e = let P : NetParts → Type 0 = IsNet in
    subst P (sym e) (composed-net net n some good)

pub composed-size : (net : Net) (n : ℕ) → 0 < n → variables (compose net n) ≤ n * variables net
composed-size net n some =
    let a : length (compose net n).latches ≡ length net.latches * n =
    length-copied n (copy_literal n) net.latches in
    let b : length (compose net n).ands ≡ length net.ands * n =
    length-copied n (copy_and n) net.ands in
    omega (arith, a, b, some)

pub composed-latches : (net : Net) (n : ℕ) →
    length (compose net n).latches ≡ n * length net.latches
composed-latches net n = length-copied n (copy_literal n) net.latches ∙ omega arith

pub composed-fairs : (net : Net) (n : ℕ) → length (compose net n).fairs ≡ n * length net.fairs
composed-fairs net n = length-copied n (copy_literal n) net.fairs ∙ omega arith

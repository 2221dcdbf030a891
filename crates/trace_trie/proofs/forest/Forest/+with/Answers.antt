use Rattle.std.proofs.Common.{◌≡◌, ◌<◌, ◌+◌, List, [], ◌∷◌, ◌++◌, slice_get, Some, length, drop, sym, ap, ◌∙◌, subst, arith}
use Rattle.std.proofs.lemmas.Result.{IfOk-weaker}
use Rattle.hy_bits.specs.Letter.{Letter}
use Rattle.hy_formula.specs.Quantifiers.{Each}
use Rattle.hy_formula.proofs.Each.{each-left, each-right, each-unmap}
use Rattle.trace_trie.specs.Numbered.{Numbered, ended}
use Rattle.trace_trie.specs.Kids.{Kid, IsMore, IsSwapped, behind, spread}
use Rattle.trace_trie.specs.Forests.{passing, kids_alone}
use Rattle.trace_trie.proofs.Alone.{tail-alone, child-itself, child-here}
use Rattle.trace_trie.proofs.Lettering.{letter-itself}
use Rattle.trace_trie.proofs.Planting.{more-put, more-end, more-passing}
use Rattle.trace_trie.proofs.Rests.{each-behind, more-none}
use Rattle.trace_trie.proofs.forest.Forest.+with.Goals as goal

pub put-requires : goal.put-requires
put-requires t c =
    let e : slice_get c.args.trace.now.value c.args.at ≡ Some c.at-letter.result =
    ap (λ (q : List Letter). slice_get q c.args.at) (sym c.deref-2.ensures) ∙ c.at-letter.ensures in
    let is : c.tail-tail.result ≡ kids_alone c.args.number (drop c.args.at c.args.trace.now.value) =
    c.tail-tail.ensures ∙ ap (λ (q : List Letter). kids_alone c.args.number (drop c.args.at q))
    c.in_ok-clone-in-None.ensures.cases in
    child-itself (tail-alone c.tail-tail.result c.args.number c.args.trace.now.value c.args.at
    c.at-letter.result is e)

pub add-requires : goal.add-requires
add-requires t c =
    let P : List Numbered → Type 0 = Each (λ (p : Numbered). p.0 < c.args.number) in
    let node = c.in_ok-ends-in-Some.field-0 in
    each-unmap (λ (p : Numbered). p.0 < c.args.number) (λ (p : Numbered). (p.0, [])) node.ends
    (each-left (λ (p : Numbered). p.0 < c.args.number) (ended node.ends) (spread node.children)
    (subst P (c.in-Some.ensures.some ∙ sym c.in_ok-ends-in-Some.ensures)
    (each-behind (λ (p : Numbered). p.0 < c.args.number) c.at-letter.result c.args.self.now
    c.requires.above)))

pub with-requires : goal.with-requires
with-requires t c =
    let len : c.len-end.result ≡ length c.args.trace.now.value =
    c.len-end.ensures.len ∙ ap length c.deref.ensures in
    let lt : c.args.at + 1 < length c.args.trace.now.value =
    omega (arith, len, c.if-at-end.false, c.requires.within) in
    let P : List Numbered → Type 0 = Each (λ (p : Numbered). p.0 < c.args.number) in
    let node = c.in_ok-ends-in-Some.field-0 in (
      omega (arith, lt, c.decreases),
      (
        lt,
        each-right (λ (p : Numbered). p.0 < c.args.number) (ended node.ends) (spread node.children)
            (subst P (c.in-Some.ensures.some ∙ sym c.in_ok-ends-in-Some.ensures)
            (each-behind (λ (p : Numbered). p.0 < c.args.number) c.at-letter.result c.args.self.now
            c.requires.above)),
      ),
    )

pub returns-in_ok-clone-in-None-clause-planted : goal.returns-in_ok-clone-in-None-clause-planted
returns-in_ok-clone-in-None-clause-planted t c =
    let trace : List Letter = c.args.trace.now.value in
    let letter : Letter = c.at-letter.result in
    let kids : List Kid = c.args.self.now in
    let new : Numbered = (c.args.number, drop (c.args.at + 1) trace) in
    let held : List Numbered = behind letter c.tail-tail.result in
    let e : slice_get trace c.args.at ≡ Some letter =
    ap (λ (q : List Letter). slice_get q c.args.at) (sym c.deref-2.ensures) ∙ c.at-letter.ensures in
    let is : c.tail-tail.result ≡ kids_alone c.args.number (drop c.args.at trace) =
    c.tail-tail.ensures ∙ ap (λ (q : List Letter). kids_alone c.args.number (drop c.args.at q))
    c.in_ok-clone-in-None.ensures.cases in
    let tail = tail-alone c.tail-tail.result c.args.number trace c.args.at letter is e in
    let P : List Numbered → Type 0 = λ q. IsMore new q held in
    let Q : List Numbered → Type 0 = λ q. IsMore new [] q in
    let here : held ≡ new ∷ [] = child-here tail letter (letter-itself letter) in
    let more : P (behind letter kids) =
    subst P (sym c.in-None.ensures.none) (subst Q (sym here) (more-none new)) in
    IfOk-weaker c.put.result (λ made. IsSwapped letter held kids made)
    (λ made. IsMore (c.args.number, drop c.args.at trace) (spread kids) (spread made))
    (λ made s. more-put c.args.at trace e s more) c.put.ensures

pub returns-in_ok-add-in-Some-clause-planted : goal.returns-in_ok-add-in-Some-clause-planted
returns-in_ok-add-in-Some-clause-planted t c =
    let trace : List Letter = c.args.trace.now.value in
    let letter : Letter = c.at-letter.result in
    let kids : List Kid = c.args.self.now in
    let new : Numbered = (c.args.number, drop (c.args.at + 1) trace) in
    let node = c.in_ok-ends-in-Some.field-0 in
    let held : List Numbered = passing c.add.new.self node.children in
    let e : slice_get trace c.args.at ≡ Some letter =
    ap (λ (q : List Letter). slice_get q c.args.at) (sym c.deref-2.ensures) ∙ c.at-letter.ensures in
    let len : c.len-end.result ≡ length trace = c.len-end.ensures.len ∙ ap length c.deref.ensures in
    let P : List Numbered → Type 0 = λ q. IsMore new q held in
    let Q : List Numbered → Type 0 =
    λ q. IsMore new (passing node.ends node.children) (passing q node.children) in
    let whole : c.add.new.self ≡ node.ends ++ (c.args.number, trace) ∷ [] =
    c.in_ok-add-in-Some.ensures.added in
    let more : P (behind letter kids) =
    subst P (c.in_ok-ends-in-Some.ensures ∙ sym c.in-Some.ensures.some)
    (subst Q (sym whole) (more-end c.args.number c.args.at trace node.ends node.children
    (omega (arith, len, c.if-at-end.true)))) in
    IfOk-weaker c.swap.result (λ made. IsSwapped letter held kids made)
    (λ made. IsMore (c.args.number, drop c.args.at trace) (spread kids) (spread made))
    (λ made s. more-put c.args.at trace e s more) c.swap.ensures

pub returns-in_ok-children-in-Some-clause-planted :
    goal.returns-in_ok-children-in-Some-clause-planted
returns-in_ok-children-in-Some-clause-planted t c =
    let trace : List Letter = c.args.trace.now.value in
    let letter : Letter = c.at-letter.result in
    let kids : List Kid = c.args.self.now in
    let new : Numbered = (c.args.number, drop (c.args.at + 1) trace) in
    let node = c.in_ok-ends-in-Some.field-0 in
    let held : List Numbered = passing node.ends c.in_ok-children-in-Some.children in
    let e : slice_get trace c.args.at ≡ Some letter =
    ap (λ (q : List Letter). slice_get q c.args.at) (sym c.deref-2.ensures) ∙ c.at-letter.ensures in
    let P : List Numbered → Type 0 = λ q. IsMore new q held in
    let more : P (behind letter kids) =
    subst P (c.in_ok-ends-in-Some.ensures ∙ sym c.in-Some.ensures.some)
    (more-passing node.children c.in_ok-children-in-Some.children c.in_ok-children-in-Some.ensures.planted node.ends) in
    IfOk-weaker c.swap-else-at-end.result (λ made. IsSwapped letter held kids made)
    (λ made. IsMore (c.args.number, drop c.args.at trace) (spread kids) (spread made))
    (λ made s. more-put c.args.at trace e s more) c.swap-else-at-end.ensures

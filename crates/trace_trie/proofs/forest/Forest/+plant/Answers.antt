use Rattle.std.proofs.Common.{◌≡◌, ◌+◌, ◌<◌, List, [], ◌∷◌, ◌++◌, length, length-append, drop, slice_get, Some, refl, sym, ap, ◌∙◌, subst, inl, inr, arith, rules}
use Rattle.std.proofs.lemmas.Result.{on_ok_weaker}
use Rattle.hy_bits.specs.Letter.{Letter}
use Rattle.hy_formula.specs.Quantifiers.{Each}
use Rattle.hy_formula.proofs.Each.{each-left, each-right, each-unmap}
use Rattle.trace_trie.specs.Numbered.{Numbered, letters_in, ended}
use Rattle.trace_trie.specs.Kids.{Kid, AreKids, IsMore, spread}
use Rattle.trace_trie.specs.Forests.{passing}
use Rattle.trace_trie.proofs.Forked.{at_fork, at_child, fork_is}
use Rattle.trace_trie.proofs.Planting.{more-same, more-first, more-second, more-passing, more-end, more-below, each-first, each-second, above-child, fall-first, fall-second, fall-child, fork-first, fork-second}
use Rattle.trace_trie.proofs.forest.Forest.+plant.Goals as goal

-- ---- the second part of a fork

pub plant-requires : goal.plant-requires
plant-requires t c =
    let at = at_fork c.self.view_is c.self.invariant c.in-Fork.is in
    let P : List Kid → Type 0 = λ q. Each (λ (p : Numbered). p.0 < c.args.number) (spread q) in
    let kids : List Kid = c.in-Fork.second.value in
    let same : c.in_ok-make_mut-in-Fork.field-0.now ≡ kids =
    elim c.in_ok-make_mut-in-Fork.ensures.value [ inl e ↦ e | inr e ↦ e ] in
    let fall : letters_in (spread kids) < letters_in (spread c.args.self.now) = fall-second at in (
      rw same (omega (arith, fall, c.decreases)),
      (
        c.requires.within,
        subst P (sym same) (each-second at (λ (p : Numbered). p.0 < c.args.number) c.requires.above),
      ),
    )

pub invariant_of-self-then-has : goal.invariant_of-self-then-has
invariant_of-self-then-has t c =
    let at = at_fork c.self.view_is c.self.invariant c.in-Fork.is in
    let trace : List Letter = c.args.trace.now.value in
    let kids : List Kid = c.in-Fork.second.value in
    let new = c.make_mut.follows.lender c.plant.new.self in
    let same : c.in_ok-make_mut-in-Fork.field-0.now ≡ kids =
    elim c.in_ok-make_mut-in-Fork.ensures.value [ inl e ↦ e | inr e ↦ e ] in
    let back : new.value ≡ c.plant.new.self = c.make_mut.follows.holds _ (search rules) in
    let e : slice_get trace c.args.at ≡ Some c.at-letter.result =
    ap (λ (q : List Letter). slice_get q c.args.at) (sym c.deref-2.ensures) ∙ c.at-letter.ensures in
    let first : c.deref-then-has.result.now ≡ c.in-Fork.first.value = c.deref-then-has.ensures in
    let second : c.deref-then-has-2.result.now ≡ new.value = c.deref-then-has-2.ensures in
    fork_is {count = c.counted.result} {l = c.in-Fork.first} {r = new} refl
    (fork-second at c.args.at trace e (sym c.has.ensures ∙ c.if-has.true)
    (more-same kids new.value same back c.in_ok-plant-in-Fork.ensures.planted)
    (subst AreKids first c.counted.ensures.first)
    (subst AreKids second c.counted.ensures.second))
    (omega (
      arith,
      c.counted.ensures.sum,
      ap (length {A = Kid}) first,
      ap (length {A = Kid}) second,
      length-append c.in-Fork.first.value new.value,
    )) c.counted.ensures.fits

pub returns-then-has-clause-planted : goal.returns-then-has-clause-planted
returns-then-has-clause-planted t c =
    let at = at_fork c.self.view_is c.self.invariant c.in-Fork.is in
    let kids : List Kid = c.in-Fork.second.value in
    let new = c.make_mut.follows.lender c.plant.new.self in
    let same : c.in_ok-make_mut-in-Fork.field-0.now ≡ kids =
    elim c.in_ok-make_mut-in-Fork.ensures.value [ inl e ↦ e | inr e ↦ e ] in
    let back : new.value ≡ c.plant.new.self = c.make_mut.follows.holds _ (search rules) in
    more-same c.args.self.now (c.in-Fork.first.value ++ new.value) (sym at.is) refl
    (more-second kids new.value
    (more-same kids new.value same back c.in_ok-plant-in-Fork.ensures.planted)
    c.in-Fork.first.value)

-- ---- and the first

pub plant-requires-in-Fork : goal.plant-requires-in-Fork
plant-requires-in-Fork t c =
    let at = at_fork c.self.view_is c.self.invariant c.in-Fork.is in
    let P : List Kid → Type 0 = λ q. Each (λ (p : Numbered). p.0 < c.args.number) (spread q) in
    let kids : List Kid = c.in-Fork.first.value in
    let same : c.in_ok-make_mut-in-Fork-2.field-0.now ≡ kids =
    elim c.in_ok-make_mut-in-Fork-2.ensures.value [ inl e ↦ e | inr e ↦ e ] in
    let fall : letters_in (spread kids) < letters_in (spread c.args.self.now) = fall-first at in (
      rw same (omega (arith, fall, c.decreases)),
      (
        c.requires.within,
        subst P (sym same) (each-first at (λ (p : Numbered). p.0 < c.args.number) c.requires.above),
      ),
    )

pub invariant_of-self-in-Fork-1 : goal.invariant_of-self-in-Fork-1
invariant_of-self-in-Fork-1 t c =
    let at = at_fork c.self.view_is c.self.invariant c.in-Fork.is in
    let trace : List Letter = c.args.trace.now.value in
    let kids : List Kid = c.in-Fork.first.value in
    let new = c.make_mut-in-Fork.follows.lender c.plant-in-Fork.new.self in
    let same : c.in_ok-make_mut-in-Fork-2.field-0.now ≡ kids =
    elim c.in_ok-make_mut-in-Fork-2.ensures.value [ inl e ↦ e | inr e ↦ e ] in
    let back : new.value ≡ c.plant-in-Fork.new.self =
    c.make_mut-in-Fork.follows.holds _ (search rules) in
    let e : slice_get trace c.args.at ≡ Some c.at-letter.result =
    ap (λ (q : List Letter). slice_get q c.args.at) (sym c.deref-2.ensures) ∙ c.at-letter.ensures in
    let first : c.deref-in-Fork.result.now ≡ new.value = c.deref-in-Fork.ensures in
    let second : c.deref-in-Fork-2.result.now ≡ c.in-Fork.second.value = c.deref-in-Fork-2.ensures in
    fork_is {count = c.counted-in-Fork.result} {l = new} {r = c.in-Fork.second} refl
    (fork-first at c.args.at trace e (sym c.has.ensures ∙ c.if-has.false)
    (more-same kids new.value same back c.in_ok-plant-in-Fork-2.ensures.planted)
    (subst AreKids first c.counted-in-Fork.ensures.first)
    (subst AreKids second c.counted-in-Fork.ensures.second))
    (omega (
      arith,
      c.counted-in-Fork.ensures.sum,
      ap (length {A = Kid}) first,
      ap (length {A = Kid}) second,
      length-append new.value c.in-Fork.second.value,
    )) c.counted-in-Fork.ensures.fits

pub returns-in_ok-plant-in-Fork-2-clause-planted :
    goal.returns-in_ok-plant-in-Fork-2-clause-planted
returns-in_ok-plant-in-Fork-2-clause-planted t c =
    let at = at_fork c.self.view_is c.self.invariant c.in-Fork.is in
    let kids : List Kid = c.in-Fork.first.value in
    let new = c.make_mut-in-Fork.follows.lender c.plant-in-Fork.new.self in
    let same : c.in_ok-make_mut-in-Fork-2.field-0.now ≡ kids =
    elim c.in_ok-make_mut-in-Fork-2.ensures.value [ inl e ↦ e | inr e ↦ e ] in
    let back : new.value ≡ c.plant-in-Fork.new.self =
    c.make_mut-in-Fork.follows.holds _ (search rules) in
    more-same c.args.self.now (new.value ++ c.in-Fork.second.value) (sym at.is) refl
    (more-first kids new.value
    (more-same kids new.value same back c.in_ok-plant-in-Fork-2.ensures.planted)
    c.in-Fork.second.value)

-- ---- the child of the letter

pub add-requires : goal.add-requires
add-requires t c =
    let at = at_child c.self.view_is c.self.invariant c.in-Child.is in
    each-unmap (λ (p : Numbered). p.0 < c.args.number) (λ (p : Numbered). (p.0, []))
    c.in-Child.ends
    (each-left (λ (p : Numbered). p.0 < c.args.number) (ended c.in-Child.ends)
    (spread c.in-Child.children.value) (above-child at c.args.number c.requires.above))

pub returns-then-at-end-clause-planted : goal.returns-then-at-end-clause-planted
returns-then-at-end-clause-planted t c =
    let at = at_child c.self.view_is c.self.invariant c.in-Child.is in
    let trace : List Letter = c.args.trace.now.value in
    let ends : List Numbered = c.in-Child.ends in
    let kids : List Kid = c.in-Child.children.value in
    let len : c.len-end.result ≡ length trace = c.len-end.ensures.len ∙ ap length c.deref.ensures in
    let e : slice_get trace c.args.at ≡ Some c.at-letter.result =
    ap (λ (q : List Letter). slice_get q c.args.at) (sym c.deref-2.ensures) ∙ c.at-letter.ensures in
    let whole : c.add.new.self ≡ ends ++ (c.args.number, trace) ∷ [] =
    c.in_ok-add-in-Child.ensures.added in
    let P : List Numbered → Type 0 =
    λ q. IsMore (c.args.number, drop (c.args.at + 1) trace) (passing ends kids) (passing q kids) in
    more-below at c.args.at trace e (sym c.same.ensures ∙ c.if-same.true)
    (subst P (sym whole) (more-end c.args.number c.args.at trace ends kids
    (omega (arith, len, c.if-at-end.true))))

pub plant-requires-in-Child : goal.plant-requires-in-Child
plant-requires-in-Child t c =
    let at = at_child c.self.view_is c.self.invariant c.in-Child.is in
    let P : List Kid → Type 0 = λ q. Each (λ (p : Numbered). p.0 < c.args.number) (spread q) in
    let ends : List Numbered = c.in-Child.ends in
    let kids : List Kid = c.in-Child.children.value in
    let same : c.in_ok-make_mut-in-Child.field-0.now ≡ kids =
    elim c.in_ok-make_mut-in-Child.ensures.value [ inl e ↦ e | inr e ↦ e ] in
    let fall : letters_in (spread kids) < letters_in (spread c.args.self.now) =
    fall-child ends kids at in
    let len : c.len-end.result ≡ length c.args.trace.now.value =
    c.len-end.ensures.len ∙ ap length c.deref.ensures in
    let lt : c.args.at + 1 < length c.args.trace.now.value =
    omega (arith, len, c.if-at-end.false, c.requires.within) in (
      rw same (omega (arith, fall, c.decreases)),
      (
        lt,
        subst P (sym same) (each-right (λ (p : Numbered). p.0 < c.args.number) (ended ends)
            (spread kids) (above-child at c.args.number c.requires.above)),
      ),
    )

pub returns-in_ok-make_mut-in-Child-clause-planted :
    goal.returns-in_ok-make_mut-in-Child-clause-planted
returns-in_ok-make_mut-in-Child-clause-planted t c =
    let at = at_child c.self.view_is c.self.invariant c.in-Child.is in
    let trace : List Letter = c.args.trace.now.value in
    let ends : List Numbered = c.in-Child.ends in
    let kids : List Kid = c.in-Child.children.value in
    let new = c.make_mut-in-Child.follows.lender c.plant-in-Child.new.self in
    let same : c.in_ok-make_mut-in-Child.field-0.now ≡ kids =
    elim c.in_ok-make_mut-in-Child.ensures.value [ inl e ↦ e | inr e ↦ e ] in
    let back : new.value ≡ c.plant-in-Child.new.self =
    c.make_mut-in-Child.follows.holds _ (search rules) in
    let e : slice_get trace c.args.at ≡ Some c.at-letter.result =
    ap (λ (q : List Letter). slice_get q c.args.at) (sym c.deref-2.ensures) ∙ c.at-letter.ensures in
    on_ok_weaker c.plant-in-Child.result
    (λ m. more-below at c.args.at trace e (sym c.same.ensures ∙ c.if-same.true)
    (more-passing kids new.value (more-same kids new.value same back m) ends))
    c.plant-in-Child.ensures.planted

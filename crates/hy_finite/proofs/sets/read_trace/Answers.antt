use Rattle.std.proofs.Common.{ℕ, Option, ◌≤◌, List, length, refl, ap, sym, ◌∙◌, subst, eq-eqb, arith}
use Rattle.std.proofs.lemmas.Bool.{eqb-true}
use Rattle.std.proofs.lemmas.List.{nil_from_length}
use Rattle.hy_text.specs.Found.{IsWordFound}
use Rattle.hy_text.specs.Words.{SpellsWord}
use Rattle.hy_text.specs.declared.words.WordRead.{WordRead}
use Rattle.hy_finite.proofs.LineAnswers.{no-word, trace-found, trace-fits}
use Rattle.hy_finite.proofs.sets.read_trace.Goals as goal

pub returns-then-not-is_empty : goal.returns-then-not-is_empty
returns-then-not-is_empty c =
    let P : Option WordRead → Type 0 = λ o. IsWordFound c.args.names.now 1024 c.truncate.new.self
    c.read_word.new.letters c.args.text.now o in
    let (sets, spelled, count, kept) = (subst P c.in-Some.is c.in_ok-word.ensures.found).0 in (
      refl,
      no-word c.args.text.now sets c.in-Some.word.rest.now spelled
          (λ none. let e = eq-eqb (length c.in-Some.word.rest.now) 0 (ap length none) in
          cc (e, c.is_empty.ensures, c.if-not-is_empty.true)),
    )

pub returns-in-Some-new : goal.returns-in-Some-new
returns-in-Some-new c =
    let P : Option WordRead → Type 0 = λ o. IsWordFound c.args.names.now 1024 c.truncate.new.self
    c.read_word.new.letters c.args.text.now o in
    let (sets, spelled, count, kept) = (subst P c.in-Some.is c.in_ok-word.ensures.found).0 in
    let none = nil_from_length c.in-Some.word.rest.now (eqb-true _ 0 (sym c.is_empty.ensures
    ∙ c.if-not-is_empty.false)) in
    let Q : List ℕ → Type 0 = λ rest. SpellsWord c.args.text.now sets rest in
    let short : length sets ≤ 1024 = omega (arith, count) in (
      sets,
      subst Q none spelled,
      short,
      c.in-Some-new.ensures.made ∙ c.replace.ensures.value
          ∙ trace-found c.args.names.now sets c.truncate.new.self c.read_word.new.letters
          c.truncate.ensures short kept,
    )

pub returns-in-None : goal.returns-in-None
returns-in-None c =
    let P : Option WordRead → Type 0 = λ o. IsWordFound c.args.names.now 1024 c.truncate.new.self
    c.read_word.new.letters c.args.text.now o in
    let (sets, spelled, count, kept) = (subst P c.in-Some.is c.in_ok-word.ensures.found).0 in
    let short : length sets ≤ 1024 = omega (arith, count) in
    let letters = trace-found c.args.names.now sets c.truncate.new.self c.read_word.new.letters
    c.truncate.ensures short kept in
    absurd (trace-fits c.args.names.now c.args.text.now c.in-Some.word.rest.now sets
    c.replace.result spelled short (c.replace.ensures.value ∙ letters) c.in-None.ensures.refused)

use Rattle.std.proofs.Common.{rules, ◌≡◌, Some, sym, subst, OnOk, OnErr}
use Rattle.rv_core.specs.Opened.{Open, letters_in, Extends}
use Rattle.rv_core.proofs.SessionLists.{longer-ok, unchanged-err}
use Rattle.rv_core.proofs.session_map.SessionMap.extend.Goals as goal

pub returns-in-Some-clause-extended : goal.returns-in-Some-clause-extended
returns-in-Some-clause-extended c =
    let w = c.add_letter.new.word in
    let written = c.get_mut.follows.holds w in
    let known : letters_in c.args.number c.self.inside.map.entries ≡ Some c.in-Some.word.now =
    sym c.in-Some.ensures.value in
    let P : Open → Type 0 =
    λ old. OnOk c.add_letter.result
    (Extends c.args.number c.args.letter old (c.get_mut.follows.lender w).entries) in
    subst P c.self.view_is
    (longer-ok c.args.number c.args.letter c.self.inside.map.entries
    (c.get_mut.follows.lender w).entries c.in-Some.word.now w
    c.add_letter.result known c.add_letter.ensures.short c.add_letter.ensures.added
    (written.3 (search rules)).0 written.2)

pub returns-in-Some-clause-unchanged : goal.returns-in-Some-clause-unchanged
returns-in-Some-clause-unchanged c =
    let w = c.add_letter.new.word in
    let written = c.get_mut.follows.holds w in
    let known : letters_in c.args.number c.self.inside.map.entries ≡ Some c.in-Some.word.now =
    sym c.in-Some.ensures.value in
    let P : Open → Type 0 = λ new. OnErr c.add_letter.result (new ≡ c.self.inside.map.entries) in
    let Q : Open → Type 0 =
    λ old. OnErr c.add_letter.result ((c.get_mut.follows.lender w).entries ≡ old) in
    subst Q c.self.view_is
    (subst P (sym written.0)
    (unchanged-err c.args.number c.self.inside.map.entries c.in-Some.word.now w
    c.add_letter.result known c.add_letter.ensures.unchanged))

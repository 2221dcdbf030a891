use Rattle.std.proofs.Common.{◌∷◌, [], List, Bool, map, cond, sym, ap, ◌∙◌, subst}
use Rattle.std.specs.Bool.{beq}
use Rattle.hy_formula.specs.Atoms.{plain_atom}
use Rattle.fin_monitor.specs.Duties.{Duty, no_duty, strongly, weakly}
use Rattle.fin_monitor.specs.Lefts.{IsFamilyOf, kept_lists}
use Rattle.fin_monitor.proofs.Exploring.{on-ok-map}
use Rattle.fin_monitor.proofs.Unrolled.{left-by}
use Rattle.fin_monitor.proofs.Stepping.{list-there, of-none, left-and, left-or, left-until, left-release}
use Rattle.fin_monitor.proofs.lefts.put_left.Goals as goal

pub returns-in-True : goal.returns-in-True
returns-in-True g c =
    on-ok-map c.literal.result c.literal.ensures (λ made. left-by c.args.judge.now.closure.now.nodes (map plain_atom c.args.judge.now.atoms.now) c.args.code c.args.k c.requires.there _ c.in-True.ensures.node c.in-True.ensures.operands c.literal.new.made.items
    made)

pub returns-in-False : goal.returns-in-False
returns-in-False g c =
    let P : List Duty → Type 0 = λ l. IsFamilyOf l [] in
    left-by c.args.judge.now.closure.now.nodes (map plain_atom c.args.judge.now.atoms.now) c.args.code c.args.k c.requires.there _ c.in-False.ensures.node c.in-False.ensures.operands c.clear.new.self.items (subst P (sym c.clear.ensures.items) of-none)

pub returns-in-Lit : goal.returns-in-Lit
returns-in-Lit g c =
    on-ok-map c.literal-in-Lit.result c.literal-in-Lit.ensures (λ made. left-by c.args.judge.now.closure.now.nodes (map plain_atom c.args.judge.now.atoms.now) c.args.code c.args.k c.requires.there _ c.in-Lit.ensures.node c.in-Lit.ensures.operands c.literal-in-Lit.new.made.items
    (let P : Bool → Type 0 = λ b. IsFamilyOf c.literal-in-Lit.new.made.items (cond (beq b c.in-Lit.positive) (no_duty ∷ []) []) in subst P c.holds.ensures made))

pub returns-in-Next : goal.returns-in-Next
returns-in-Next g c =
    on-ok-map c.obligation.result c.obligation.ensures (λ made. left-by c.args.judge.now.closure.now.nodes (map plain_atom c.args.judge.now.atoms.now) c.args.code c.args.k c.requires.there _ c.in-Next.ensures.node c.in-Next.ensures.operands c.obligation.new.made.items
    (subst (λ d. IsFamilyOf c.obligation.new.made.items (d ∷ [])) c.strongly.ensures made))

pub returns-in-WeakNext : goal.returns-in-WeakNext
returns-in-WeakNext g c =
    on-ok-map c.obligation-in-WeakNext.result c.obligation-in-WeakNext.ensures (λ made. left-by c.args.judge.now.closure.now.nodes (map plain_atom c.args.judge.now.atoms.now) c.args.code c.args.k c.requires.there _ c.in-WeakNext.ensures.node c.in-WeakNext.ensures.operands c.obligation-in-WeakNext.new.made.items
    (subst (λ d. IsFamilyOf c.obligation-in-WeakNext.new.made.items (d ∷ [])) c.weakly.ensures made))

pub returns-in-And : goal.returns-in-And
returns-in-And g c =
    on-ok-map c.conjunction.result c.conjunction.ensures (λ made. left-and c.args.judge.now.closure.now.nodes (map plain_atom c.args.judge.now.atoms.now) c.args.code c.args.k c.requires.there (kept_lists c.args.lists.now) c.requires.lefts c.in-And.g c.in-And.h c.in-And.ensures.node c.in-And.ensures.operands _ _ c.conjunction.new.made.items
    (list-there c.args.lists.now c.in-And.g _ c.at.ensures ∙ sym c.deref.ensures.value) (list-there c.args.lists.now c.in-And.h _ c.at-in-And.ensures ∙ sym c.deref-in-And.ensures.value) made)

pub returns-in-Or : goal.returns-in-Or
returns-in-Or g c =
    on-ok-map c.disjunction.result c.disjunction.ensures (λ made. left-or c.args.judge.now.closure.now.nodes (map plain_atom c.args.judge.now.atoms.now) c.args.code c.args.k c.requires.there (kept_lists c.args.lists.now) c.requires.lefts c.in-Or.g c.in-Or.h c.in-Or.ensures.node c.in-Or.ensures.operands _ _ c.disjunction.new.made.items
    (list-there c.args.lists.now c.in-Or.g _ c.at-in-Or.ensures ∙ sym c.deref-in-Or.ensures.value) (list-there c.args.lists.now c.in-Or.h _ c.at-in-Or-2.ensures ∙ sym c.deref-in-Or-2.ensures.value) made)

pub returns-in-Until : goal.returns-in-Until
returns-in-Until g c =
    on-ok-map c.until.result c.until.ensures (λ made. left-until c.args.judge.now.closure.now.nodes (map plain_atom c.args.judge.now.atoms.now) c.args.code c.args.k c.requires.there (kept_lists c.args.lists.now) c.requires.lefts c.in-Until.g c.in-Until.h c.in-Until.ensures.node c.in-Until.ensures.operands c.strongly-in-Until.result (c.strongly-in-Until.ensures ∙ ap strongly c.from-at.ensures) _ _ c.until.new.made.items
    (list-there c.args.lists.now c.in-Until.g _ c.at-in-Until.ensures ∙ sym c.deref-in-Until.ensures.value) (list-there c.args.lists.now c.in-Until.h _ c.at-in-Until-2.ensures ∙ sym c.deref-in-Until-2.ensures.value) made)

pub returns-in-Release : goal.returns-in-Release
returns-in-Release g c =
    on-ok-map c.release.result c.release.ensures (λ made. left-release c.args.judge.now.closure.now.nodes (map plain_atom c.args.judge.now.atoms.now) c.args.code c.args.k c.requires.there (kept_lists c.args.lists.now) c.requires.lefts c.in-Release.g c.in-Release.h c.in-Release.ensures.node c.in-Release.ensures.operands c.weakly-in-Release.result (c.weakly-in-Release.ensures ∙ ap weakly c.from-at.ensures) _ _ c.release.new.made.items
    (list-there c.args.lists.now c.in-Release.g _ c.at-in-Release.ensures ∙ sym c.deref-in-Release.ensures.value) (list-there c.args.lists.now c.in-Release.h _ c.at-in-Release-2.ensures ∙ sym c.deref-in-Release-2.ensures.value) made)

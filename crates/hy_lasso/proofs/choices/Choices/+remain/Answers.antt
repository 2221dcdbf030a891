use Rattle.std.proofs.Common.{◌≡◌, ℕ, ◌+◌, ◌++◌, ◌∷◌, [], Bool, not, List, length, drop, sym, ap, ◌∙◌, subst, arith}
use Rattle.std.specs.Bool.{Decides}
use Rattle.hy_base.proofs.Places.{drop-at}
use Rattle.hy_formula.specs.Trees.{tree_of}
use Rattle.hy_formula.specs.declared.prefix.Quant.{Quant}
use Rattle.hy_lasso.specs.Words.{picked, Remains}
use Rattle.hy_lasso.proofs.Periods.{judged-picked}
use Rattle.hy_lasso.proofs.Choosing.{Tries, found, none, drop-all, beq-same, tries-of, remains-none, meaning-like, only-memory}
use Rattle.hy_lasso.proofs.choices.Choices.+remain.Goals as goal

pub returns-then-chosen-len-clause-meaning : goal.returns-then-chosen-len-clause-meaning
returns-then-chosen-len-clause-meaning fuel c =
    let none_left : drop (length c.args.tuple.now) c.args.self.now.formula.now.prefix ≡ [] =
    drop-all c.args.self.now.formula.now.prefix (length c.args.tuple.now) (omega (arith, c.len.ensures.len, c.len-chosen.ensures, c.if-chosen-len.true))
    in
    let same = remains-none c.args.self.now.list.now (tree_of c.args.self.now.formula.now.body) (picked c.args.self.now.list.now c.args.tuple.now) _ none_left in
    meaning-like _ _ _ same (rw c.as_slice.ensures at c.holds_body.ensures.meaning)

pub returns-then-chosen-len-clause-causes : goal.returns-then-chosen-len-clause-causes
returns-then-chosen-len-clause-causes fuel c =
    only-memory _ _ c.holds_body.ensures.limit c.holds_body.ensures.causes
    (judged-picked _ _ (rw c.as_slice.ensures c.requires.members) c.requires.judged)

pub returns-then-holds-wanted-clause-meaning : goal.returns-then-holds-wanted-clause-meaning
returns-then-holds-wanted-clause-meaning fuel c =
    let list = c.args.self.now.list.now in
    let prefix = c.args.self.now.formula.now.prefix in
    let body = tree_of c.args.self.now.formula.now.body in
    let T : List ℕ → Type 0 = λ xs. Decides c.in_ok-holds.holds (Remains list body (picked list xs) (drop (length xs) prefix)) in
    let tried : Tries list body (picked list c.args.tuple.now) (drop (length c.args.tuple.now + 1) prefix) c.in_ok-holds.holds c.loop-k.k =
    tries-of list body prefix c.args.tuple.now c.loop-k.k _
    (subst T (c.in_ok-push.ensures.added ∙ ap (λ xs. xs ++ c.loop-k.k ∷ []) c.loop-k.invariant.0) c.in_ok-holds.ensures.meaning)
    in
    let B : Bool → Type 0 = λ b. Tries list body (picked list c.args.tuple.now) (drop (length c.args.tuple.now + 1) prefix) b c.loop-k.k in
    let D : List Quant → Type 0 = λ qs. Decides c.stops_at-wanted.result (Remains list body (picked list c.args.tuple.now) qs) in
    let at = rw c.len-chosen.ensures at c.at.ensures in
    subst D (sym (drop-at prefix (length c.args.tuple.now) c.at.result at))
    (rw c.stops_at-wanted.ensures (found _ _ _ _ c.at.result c.loop-k.k (omega arith) (subst B (beq-same _ _ c.if-holds-wanted.true ∙ c.stops_at-wanted.ensures) tried)))

pub returns-clause-meaning : goal.returns-clause-meaning
returns-clause-meaning fuel c =
    let list = c.args.self.now.list.now in
    let prefix = c.args.self.now.formula.now.prefix in
    let body = tree_of c.args.self.now.formula.now.body in
    let D : List Quant → Type 0 = λ qs. Decides (not c.stops_at-wanted.result) (Remains list body (picked list c.args.tuple.now) qs) in
    let at = rw c.len-chosen.ensures at c.at.ensures in
    let end : c.loop-k.k ≡ length list = omega (arith, c.loop-k-test.false, c.len-k-end.ensures) in
    subst D (sym (drop-at prefix (length c.args.tuple.now) c.at.result at))
    (rw c.stops_at-wanted.ensures (none _ _ _ _ c.at.result (rw (end, c.len-chosen.ensures, c.stops_at-wanted.ensures) at c.loop-k.invariant.1)))

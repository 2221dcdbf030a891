use Rattle.std.proofs.Common.{◌≡◌, [], ◌∷◌, ◌++◌, length, refl, sym, ap, ◌∙◌, arith, append_assoc, append-nil}
use Rattle.std.proofs.lemmas.Result.{err_from_is_err_and}
use Rattle.hy_read.specs.Results.{names_of}
use Rattle.hy_read.specs.Scans.{plain}
use Rattle.hy_read.specs.Tokens.{Token}
use Rattle.hy_read.proofs.Collecting.{names_first, names_grow, names_kept}
use Rattle.hy_read.proofs.Stepping.{stands_left, none_left}
use Rattle.hy_read.proofs.names.collect_names.Goals as goal

pub loop-next-init : goal.loop-next-init
loop-next-init c = record {
  collected = λ tokens left. (tokens, left, refl);
  kept = ([], sym (append-nil c.args.names.now));
  within = omega arith;
}

pub loop-next-preserved : goal.loop-next-preserved
loop-next-preserved c =
    let t : Token = plain c.in-Some.next.token in
    let added : c.add_name.new.names ≡ names_of c.loop-next.names (t ∷ []) = c.in_ok-add_name.ensures.added in
    let (front, kept) = c.loop-next.invariant.kept in
    let (one, new) = names_kept (t ∷ []) c.loop-next.names in
    record {
      collected = λ tokens left.
          let (rest, there, is) = c.loop-next.invariant.collected tokens left in
          let (more, begins, behind) = stands_left c.args.text.now c.loop-next.at c.in-Some.next rest c.in-Some.ensures there in
          (more, behind, is ∙ ap (names_of c.loop-next.names) begins ∙ names_first t c.loop-next.names more ∙ ap (λ x. names_of x more) (sym added));
      kept = (front ++ one, added ∙ new ∙ ap (λ x. x ++ one) kept ∙ append_assoc c.args.names.now front one);
      within = c.in-Some.ensures.within;
    }

pub returns-in_err-add_name-clause-limit : goal.returns-in_err-add_name-clause-limit
returns-in_err-add_name-clause-limit c = λ e tokens left.
    let p = err_from_is_err_and c.from_residual.result c.from_residual.ensures.1 in
    let t : Token = plain c.in-Some.next.token in
    let first = p.1 in
    let second = p.2 in
    let many = c.in_err-add_name.ensures.limit cc in
    let (rest, there, is) = c.loop-next.invariant.collected tokens left in
    let (more, begins, behind) = stands_left c.args.text.now c.loop-next.at c.in-Some.next rest c.in-Some.ensures there in
    let whole = ap length (is ∙ ap (names_of c.loop-next.names) begins ∙ names_first t c.loop-next.names more) in
    omega (arith, many, whole, names_grow more (names_of c.loop-next.names (t ∷ [])))

pub returns-clause-collected : goal.returns-clause-collected
returns-clause-collected c = λ tokens left.
    let (rest, there, is) = c.loop-next.invariant.collected tokens left in
    let none = none_left c.args.text.now c.loop-next.at rest c.in_default.ensures there in
    (sym (is ∙ ap (names_of c.loop-next.names) none), omega (arith, c.len.ensures.few))

use Rattle.std.proofs.Common.{◌≡◌, [], List, length, replicate, reverse, sym, ap, ◌∙◌, subst, arith}
use Rattle.std.proofs.lemmas.List.{length-map}
use Rattle.std.proofs.lemmas.Slice.Zip.{AllZip-long}
use Rattle.trace_trie.specs.Numbered.{Numbered}
use Rattle.rv_core.specs.declared.saved.Saved.{Saved}
use Rattle.rv_core.specs.Histories.{empty_history}
use Rattle.rv_core.specs.Opened.{Open}
use Rattle.rv_core.specs.Built.{IsFresh}
use Rattle.rv_core.specs.Held.{AreWithin, StandsFor}
use Rattle.rv_core.specs.Keeping.{AreBelow}
use Rattle.rv_core.specs.Seen.{watched, watched_by}
use Rattle.rv_core.proofs.Building.{fresh_held, fresh-stands, fresh-specs, none-below}
use Rattle.rv_core.proofs.rv.Rv.new.Goals as goal

pub invariant_of-result : goal.invariant_of-result
invariant_of-result c =
    let watches = c.in_ok-watches.watches in
    let n = length watches in
    let kept : c.in_ok-kept.kept ≡ replicate n [] =
    c.in_ok-kept.ensures ∙ ap (λ k. replicate k []) c.len.ensures in
    let P : List (List Numbered) → Type 0 = AreBelow n 0 in
    let Q : List Saved → Type 0 = AreWithin n in
    let long =
    AllZip-long IsFresh c.args.formulas.now (watched_by watches) c.in_ok-watches.ensures.fresh in
    record {
      below = subst P (sym kept) (none-below n 0);
      within = subst Q (sym c.new.ensures) tt;
      countable = omega (arith, long, length-map watches watched, c.requires.countable);
    }

pub returns-clause-stands : goal.returns-clause-stands
returns-clause-stands c =
    let watches = c.in_ok-watches.watches in
    let ms = watched_by watches in
    let made = fresh_held c.args.rule c.args.drop_dominated ms in
    let kept : c.in_ok-kept.kept ≡ replicate (length ms) [] =
    c.in_ok-kept.ensures
    ∙ ap (λ k. replicate k []) (c.len.ensures ∙ sym (length-map watches watched)) in
    let P : Open → Type 0 =
    λ os. StandsFor (made c.in_ok-kept.kept os (reverse c.new.result)) empty_history in
    let Q : List Saved → Type 0 =
    λ saves. StandsFor (made c.in_ok-kept.kept [] (reverse saves)) empty_history in
    let R : List (List Numbered) → Type 0 = λ ks. StandsFor (made ks [] []) empty_history in
    subst P (sym c.in_ok-sessions.ensures) (subst Q (sym c.new.ensures) (subst R (sym kept)
    (fresh-stands c.args.rule c.args.drop_dominated c.args.formulas.now ms
    c.in_ok-watches.ensures.fresh)))

pub returns-clause-specs : goal.returns-clause-specs
returns-clause-specs c =
    fresh-specs c.args.formulas.now (watched_by c.in_ok-watches.watches)
    c.in_ok-watches.ensures.fresh

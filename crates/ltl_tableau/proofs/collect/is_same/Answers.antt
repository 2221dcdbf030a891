use Rattle.std.proofs.Common.{sym, ap, ◌∙◌}
use Rattle.std.proofs.lemmas.Bool.{OnTrue_from}
use Rattle.ltl_tableau.specs.Drafts.{some_ways, ways_of}
use Rattle.ltl_tableau.proofs.Collecting.{same-work}
use Rattle.ltl_tableau.proofs.collect.is_same.Goals as goal

pub returns-in-Some-Some : goal.returns-in-Some-Some
returns-in-Some-Some g c =
    OnTrue_from c.eq.result _
    (λ e nodes.
    ap (some_ways nodes) c.in-Some-Some.is-0
    ∙ ap (ways_of nodes) (same-work c.in-Some-Some.one.work c.in-Some-Some.other.work (sym c.eq.ensures ∙ e))
    ∙ sym (ap (some_ways nodes) c.in-Some-Some.is-1))

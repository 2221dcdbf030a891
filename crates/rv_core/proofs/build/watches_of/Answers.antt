use Rattle.std.proofs.Common.{◌≡◌, ◌+◌, ◌++◌, ◌∷◌, [], List, Option, Some, None, length, take, refl, sym, ap, subst, ◌∙◌}
use Rattle.std.proofs.lemmas.List.{map_push}
use Rattle.std.proofs.lemmas.Option.{slice_get_read, none-some}
use Rattle.hy_base.specs.declared.limit.Kind.{Kind}
use Rattle.fin_monitor.specs.declared.monitor_error.MonitorError.{MonitorError}
use Rattle.fin_monitor.specs.Limits.{IsRefusal}
use Rattle.hy_formula.specs.Trees.{tree_of}
use Rattle.hy_formula.specs.declared.formula.Formula.{Formula}
use Rattle.fin_monitor.specs.Machines.{Machine}
use Rattle.rv_core.specs.Built.{IsCause, AreFresh, earlier}
use Rattle.rv_core.specs.Seen.{watched, watched_by}
use Rattle.rv_core.proofs.Places.{take-next}
use Rattle.rv_core.proofs.Building.{cause-taken, cause-refused, fresh-push}
use Rattle.rv_core.proofs.build.watches_of.Goals as goal
use Rattle.rv_core.proofs.build.watches_of.Goals.{in-Ok+in_ok-push-in-Ok, in-Err-Limit}

pub loop-formula-preserved : goal.loop-formula-preserved
loop-formula-preserved c =
    let list = c.args.formulas.now in
    let k = c.loop-formula.formula-index in
    let f : Formula = c.formula-item.result in
    let next : take (k + 1) list ≡ take k list ++ f ∷ [] =
    take-next list k f
    (slice_get_read list (length list) k f refl c.loop-formula-test.true c.formula-item.is) in
    let P : List Formula → Type 0 = λ fs. IsCause fs c.match-watch_of.refused in
    let Q : List Formula → Type 0 = λ fs. c.match-watch_of.refused ≡ None
    → AreFresh fs (watched_by c.match-watch_of.watches) in
    elim c.match-watch_of.branch [
      | in-Ok+in_ok-push-in-Ok w ↦
          let R : Option Kind → Type 0 = λ r. IsCause (take k list ++ f ∷ []) r in
          let ws : watched_by c.match-watch_of.watches ≡ watched_by c.loop-formula.watches
          ++ watched w.in-Ok.watch ∷ [] =
          ap watched_by (w.watches-is ∙ w.in_ok-push-in-Ok.ensures.added)
          ∙ map_push watched c.loop-formula.watches w.in-Ok.watch in
          let S : List Machine → Type 0 = λ q. AreFresh (take k list ++ f ∷ []) q in
          record {
            cause = subst P (sym next) (subst R (sym w.refused-is)
                (cause-taken (take k list) f c.loop-formula.refused c.loop-formula.invariant.cause
                w.in-Ok.ensures.taken));
            fresh = subst Q (sym next) (λ none. subst S (sym ws)
                (fresh-push (take k list) (watched_by c.loop-formula.watches) f
                (watched w.in-Ok.watch)
                (c.loop-formula.invariant.fresh (sym w.refused-is ∙ none)) w.in-Ok.ensures.fresh));
          }
      | in-Err-Limit w ↦
          let R : Option Kind → Type 0 = λ r. IsCause (take k list ++ f ∷ []) r in
          let B : MonitorError → Type 0 = IsRefusal (tree_of f.body) in
          let now : c.match-watch_of.refused ≡ Some
          (earlier c.loop-formula.refused w.in-Err-Limit.kind) =
          w.refused-is ∙ ap Some (rw w.in-Err-Limit.field-0-is at w.first_kind.ensures) in
          record {
            cause = subst P (sym next) (subst R (sym now)
                (cause-refused
                (take k list) f c.loop-formula.refused w.in-Err-Limit.kind
                c.loop-formula.invariant.cause
                (subst B w.in-Err-Limit.field-0-is w.in-Err-Limit.ensures.refused)));
            fresh = λ none. absurd
                (none-some (earlier c.loop-formula.refused w.in-Err-Limit.kind) (sym none ∙ now));
          }
    ]

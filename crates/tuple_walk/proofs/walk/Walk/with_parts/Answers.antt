use Rattle.std.proofs.Common.{◌≡◌, ◌+◌, suc, List, [], ◌∷◌, ◌++◌, set, take, sym, ap, ◌∙◌, subst, arith, length-set}
use Rattle.std.proofs.Math.Seq.{take-suc-set}
use Rattle.std.proofs.lemmas.List.{map_push}
use Rattle.hy_finite.specs.Traces.{Trace}
use Rattle.fin_monitor.specs.Parts.{AreParts}
use Rattle.fin_monitor.specs.declared.variable_parts.VariableParts.{VariableParts}
use Rattle.fin_monitor.proofs.LowParts.{parts-more}
use Rattle.tuple_walk.specs.Alone.{left_of}
use Rattle.tuple_walk.specs.TraceParts.{traces_in, parts_in}
use Rattle.tuple_walk.specs.Walks.{machine_in}
use Rattle.tuple_walk.specs.declared.trace_parts.TraceParts.{TraceParts}
use Rattle.tuple_walk.proofs.Following.{left-there}
use Rattle.tuple_walk.proofs.Lists.{take-more}
use Rattle.tuple_walk.proofs.walk.Walk.with_parts.Goals as goal

pub loop-var-preserved : goal.loop-var-preserved
loop-var-preserved g c =
    let w = c.args.self.now in
    let v = c.loop-var.var in
    let all = c.loop-var.all in
    let rest = c.index-rests-var.result in
    let lefts = left_of c.args.rests.now in
    let t : TraceParts = record { parts = c.parts_of-in-loop-var.result; trace = rest } in
    let one : v + 1 ≡ suc v = omega arith in
    let stored : take (v + 1) (set all v t) ≡ take v all ++ t ∷ [] =
    ap (λ k. take k (set all v t)) one
    ∙ take-suc-set all v t (omega (arith, w.monitor.monitor.now.right.few)) in
    let P : List VariableParts → Type 0 = λ l. AreParts l (machine_in w).atoms (v + 1) in
    record {
      long = length-set all v t ∙ c.loop-var.invariant.long;
      traces = ap traces_in stored
          ∙ map_push (λ (u : TraceParts). u.trace.now) (take v all) t
          ∙ ap (λ (l : List Trace). l ++ rest.now ∷ []) c.loop-var.invariant.traces
          ∙ sym (ap (λ k. take k lefts) one ∙ take-more lefts v rest.now
          (left-there c.args.rests.now v rest (omega arith) c.index-rests-var.is));
      parts = subst P
          (sym (ap parts_in stored ∙ map_push (λ (u : TraceParts). u.parts.now) (take v all) t))
          (parts-more (parts_in (take v all)) t.parts.now (machine_in w).atoms v
          c.loop-var.invariant.parts c.parts_of-in-loop-var.ensures);
    }

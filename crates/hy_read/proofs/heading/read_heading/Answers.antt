use Rattle.std.proofs.Common.{◌≡◌, ◌++◌, ◌∷◌, [], ap, ◌∙◌, map, length, arith, length-append}
use Rattle.std.proofs.lemmas.List.{map-append}
use Rattle.hy_read.proofs.HeadsOfFormulas.{headed_more, headed_all}
use Rattle.hy_read.proofs.heading.read_heading.Goals as goal

pub returns-clause-headed : goal.returns-clause-headed
returns-clause-headed c = λ qs body left none.
    headed_all c.args.text.now c.loop-head.at c.loop-head.quants.items _ qs body c.in_default.ensures.head (c.loop-head.invariant.headed qs body left none)

pub loop-head-preserved : goal.loop-head-preserved
loop-head-preserved c =
    let quants : c.push.new.self.items ≡ c.loop-head.quants.items ++ c.in-Some.head.quant ∷ [] = c.in_ok-push.ensures.items in
    let variables : c.push-in-Some.new.self.items ≡ c.loop-head.variables.items ++ c.in-Some.head.variable ∷ [] = c.in_ok-push-2.ensures.items in
    let alike = c.loop-head.invariant.alike in
    let named = ap (map (λ v. v.now)) variables ∙ map-append (λ v. v.now) c.loop-head.variables.items (c.in-Some.head.variable ∷ []) in
    let here = c.in-Some.ensures.within in
    let last = here.1 in
    record {
      headed = λ qs body left none. rw (quants, named)
          (headed_more c.args.text.now c.loop-head.at c.in-Some.head.behind c.loop-head.quants.items (map (λ v. v.now) c.loop-head.variables.items) qs body c.in-Some.head.quant c.in-Some.head.variable.now none c.in-Some.ensures.head (c.loop-head.invariant.headed qs body left none));
      within = last;
      alike = omega (arith, ap length quants, ap length variables, alike, length-append c.loop-head.quants.items (c.in-Some.head.quant ∷ []), length-append c.loop-head.variables.items (c.in-Some.head.variable ∷ []));
    }

use Rattle.std.proofs.Common.{◌≡◌, ◌∷◌, [], ◌+◌, ◌*◌, ◌^◌, ◌<◌, ◌≤◌, List, ℕ, bit_and, get_or, map, length, refl, sym, ap, ◌∙◌, subst, arith, length-append}
use Rattle.std.proofs.lemmas.Option.{get_or_from_slice_get}
use Rattle.hy_formula.specs.Quantifiers.{Each}
use Rattle.hy_formula.specs.Atoms.{plain_atom}
use Rattle.fin_monitor.specs.Duties.{residual_at}
use Rattle.fin_monitor.specs.Lefts.{kept_lists}
use Rattle.fin_monitor.specs.Reductions.{LeaveAlike}
use Rattle.fin_monitor.specs.Tables.{row_of, AreAllLefts, IsExplored}
use Rattle.fin_monitor.proofs.Exploring.{Ready, explored-push, copied, row-power}
use Rattle.fin_monitor.proofs.CodeBits.{small-power}
use Rattle.fin_monitor.proofs.Stepping.{kept-length}
use Rattle.fin_monitor.proofs.explore.Explored.fill_row.Goals as goal
use Rattle.fin_monitor.proofs.explore.Explored.fill_row.Goals.{then-asked-code+in_ok-next, else-asked-code}

pub loop-code-init : goal.loop-code-init
loop-code-init g c =
    record { explored = c.requires.explored; long = omega (arith, c.requires.rows); there = c.requires.there; same = c.requires.residual; grows = omega arith; stays = λ q lt. refl; some = c.requires.some; lefts = c.requires.lefts }

pub loop-code-preserved : goal.loop-code-preserved
loop-code-preserved g c =
    let atoms = map plain_atom c.args.judge.now.atoms.now in
    let nodes = c.args.judge.now.closure.now.nodes in
    let inv = c.loop-code.invariant in
    let w : row_of atoms ≡ 2 ^ length c.args.judge.now.atoms.now = row-power c.args.judge.now.atoms.now in
    let code = c.loop-code.code in
    let row = c.args.row in
    let W : ℕ → Type 0 = λ x. length c.loop-code.self.table ≡ row * x + code in
    let long : length c.loop-code.self.table ≡ row * row_of atoms + code = subst W (sym w) inv.long in
    let less : code < row_of atoms = omega (arith, c.loop-code-test.true, small-power (length c.args.judge.now.atoms.now) (omega (arith, c.requires.few)), w) in
    let Kept : Type 0 = (length (kept_lists c.args.self.now.residuals.keys) ≤ length (kept_lists c.if-asked-code.self.residuals.keys))
    × ((q : ℕ) → q < length c.args.self.now.residuals.keys → residual_at (kept_lists c.if-asked-code.self.residuals.keys) q ≡ residual_at (kept_lists c.args.self.now.residuals.keys) q)
    × (0 < length c.if-asked-code.self.lefts.kept.items) × Each (λ k. AreAllLefts nodes atoms k.code (kept_lists k.lists)) c.if-asked-code.self.lefts.kept.items in
    let ready : Ready nodes c.args.root atoms (kept_lists c.if-asked-code.self.residuals.keys) c.if-asked-code.self.table row code c.if-asked-code.next c.args.residual.now Kept =
    elim c.if-asked-code.branch [
      | then-asked-code+in_ok-next w' ↦
          let f = w'.in_ok-next.ensures.follows in
          let T : List ℕ → Type 0 = IsExplored nodes c.args.root atoms (kept_lists w'.follow.new.self.residuals.keys) in
          rw (w'.self-is, w'.next-is)
          (record {
            explored = subst T (sym w'.follow.ensures.table) f.explored;
            long = ap length w'.follow.ensures.table ∙ long;
            there = omega (arith, kept-length c.loop-code.self.residuals.keys, f.more, inv.there);
            same = subst (LeaveAlike nodes c.args.residual.now) (sym (f.stays row (omega (arith, kept-length c.loop-code.self.residuals.keys, inv.there)))) inv.same;
            inside = f.inside;
            follows = f.follows;
            lefts = (omega (arith, inv.grows, f.more), (λ q lt. f.stays q (omega (arith, lt, inv.grows, kept-length c.args.self.now.residuals.keys)) ∙ inv.stays q lt), w'.in_ok-next.ensures.some, w'.in_ok-next.ensures.lefts);
          })
      | else-asked-code w' ↦
          let low : ℕ = bit_and code c.asked_in-mask.result in
          let at : get_or c.loop-code.self.table (c.len-first.result + low) 0 ≡ w'.at.result.now = get_or_from_slice_get c.loop-code.self.table (c.len-first.result + low) _ 0 w'.at.ensures in
          let R : ℕ → Type 0 = λ x. c.len-first.result ≡ row * x in
          let first : c.len-first.result ≡ row * row_of atoms = subst R (sym w) (c.len-first.ensures ∙ c.requires.rows) in
          let D : ℕ → Type 0 = λ x. get_or c.loop-code.self.table (x + low) 0 ≡ w'.at.result.now in
          let (inside, follows) = copied nodes c.args.root atoms c.args.masks.now (kept_lists c.loop-code.self.residuals.keys) c.loop-code.self.table row code c.asked_in-mask.result w'.at.result.now c.args.residual.now
          c.requires.masks.long c.requires.masks.asked inv.explored long less inv.same (c.asked_in-mask.ensures) w'.if-asked-code.false (subst D first at) in
          rw (w'.self-is, w'.next-is)
          (record {
            explored = inv.explored;
            long = long;
            there = omega (arith, kept-length c.loop-code.self.residuals.keys, inv.there);
            same = inv.same;
            inside = inside;
            follows = follows;
            lefts = (inv.grows, inv.stays, inv.some, inv.lefts);
          })
    ] in
    let P : List ℕ → Type 0 = IsExplored nodes c.args.root atoms (kept_lists c.if-asked-code.self.residuals.keys) in
    let added = c.in_ok-push.ensures.added in
    let V : ℕ → Type 0 = λ x. length c.push.new.self ≡ row * x + (code + 1) in
    record {
      explored = subst P (sym added)
          (explored-push nodes c.args.root atoms (kept_lists c.if-asked-code.self.residuals.keys) c.if-asked-code.self.table row code c.if-asked-code.next c.args.residual.now Kept less ready);
      long = subst V w (omega (arith, ap length added, length-append c.if-asked-code.self.table (c.if-asked-code.next ∷ []), ready.long));
      there = omega (arith, kept-length c.if-asked-code.self.residuals.keys, ready.there);
      same = ready.same;
      grows = ready.lefts.0;
      stays = ready.lefts.1;
      some = ready.lefts.2;
      lefts = ready.lefts.3;
    }

pub returns : goal.returns
returns g c =
    let inv = c.loop-code.invariant in
    let power = small-power (length c.args.judge.now.atoms.now) (omega (arith, c.requires.few)) in
    let end : c.loop-code.code ≡ 2 ^ length c.args.judge.now.atoms.now = omega (arith, c.loop-code-test.false, c.loop-code.auto.code-end, power) in
    record { rows = omega (arith, inv.long, end); more = inv.there; explored = inv.explored; stays = inv.stays; some = inv.some; lefts = inv.lefts; refused = tt }

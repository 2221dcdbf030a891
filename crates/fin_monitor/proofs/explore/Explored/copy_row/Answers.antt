use Rattle.std.proofs.Common.{◌≡◌, ◌∷◌, [], ◌+◌, ◌*◌, ◌^◌, ◌<◌, ◌≤◌, List, ℕ, suc, get_or, map, length, sym, ap, subst, arith, length-append}
use Rattle.std.proofs.Math.Nat.{mod-eq_of_lt, mul-le-mul_right}
use Rattle.std.proofs.lemmas.Option.{get_or_from_slice_get}
use Rattle.hy_formula.specs.Atoms.{plain_atom}
use Rattle.fin_monitor.specs.Duties.{residual_at}
use Rattle.fin_monitor.specs.Lefts.{kept_lists}
use Rattle.fin_monitor.specs.Tables.{row_of, IsExplored}
use Rattle.fin_monitor.proofs.Exploring.{explored-push, copied-row, row-power}
use Rattle.fin_monitor.proofs.CodeBits.{small-power}
use Rattle.fin_monitor.proofs.Stepping.{kept-length}
use Rattle.fin_monitor.proofs.explore.Explored.copy_row.Goals as goal

pub loop-code-preserved : goal.loop-code-preserved
loop-code-preserved g c =
    let atoms = map plain_atom c.args.judge.now.atoms.now in
    let nodes = c.args.judge.now.closure.now.nodes in
    let list = kept_lists c.args.self.now.residuals.keys in
    let table : List ℕ = c.loop-code.self.table in
    let inv = c.loop-code.invariant in
    let w : row_of atoms ≡ 2 ^ length c.args.judge.now.atoms.now = row-power c.args.judge.now.atoms.now in
    let code = c.loop-code.code in
    let row = c.args.row in
    let first = c.args.first in
    let next = c.at-next.result.now in
    let W : ℕ → Type 0 = λ x. length table ≡ row * x + code in
    let long : length table ≡ row * row_of atoms + code = subst W (sym w) inv.long in
    let less : code < row_of atoms = omega (arith, c.loop-code-test.true, small-power (length c.args.judge.now.atoms.now) (omega (arith, c.requires.few)), w) in
    let m : suc first * row_of atoms ≤ row * row_of atoms = mul-le-mul_right (row_of atoms) c.requires.before in
    let e : suc first * row_of atoms ≡ first * row_of atoms + row_of atoms = omega arith in
    let there : row < length list = omega (arith, kept-length c.args.self.now.residuals.keys, c.requires.there) in
    let most : row * row_of atoms ≤ length list * row_of atoms = mul-le-mul_right (row_of atoms) (omega (arith, there)) in
    let fits : first * row_of atoms < 18446744073709551616 = omega (arith, m, e, most, inv.explored.few) in
    let F : ℕ → Type 0 = λ x. first * x < 18446744073709551616 in
    let D : ℕ → Type 0 = λ x. get_or table (x + code) 0 ≡ next in
    let E : ℕ → Type 0 = λ x. get_or table (first * x + code) 0 ≡ next in
    let at : get_or table (first * row_of atoms + code) 0 ≡ next = subst E (sym w) (subst D (mod-eq_of_lt (subst F w fits)) (get_or_from_slice_get table _ next 0 c.at-next.ensures)) in
    let (inside, follows) = copied-row nodes c.args.root atoms list table row first code next inv.explored (omega (arith, long, m, e, less)) less c.requires.alike at in
    let P : List ℕ → Type 0 = IsExplored nodes c.args.root atoms list in
    let added = c.in_ok-push.ensures.added in
    let residual = residual_at list first in
    record {
      explored = subst P (sym added)
          (explored-push nodes c.args.root atoms list table row code next residual (row < length list) less
          (record { explored = inv.explored; long = long; there = there; same = c.requires.alike; inside = inside; follows = follows; lefts = there }));
      long = omega (arith, ap length added, length-append table (next ∷ []), inv.long);
      residuals = inv.residuals;
      lefts = inv.lefts;
    }

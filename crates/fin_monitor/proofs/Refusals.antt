-- Why a body has no monitor, by which of its parts is too large.
use Rattle.std.proofs.Common.{◌≡◌, Result, Ok, Err, sym, subst, true}
use Rattle.std.specs.Result.{IfErr, IsErrAnd}
use Rattle.hy_base.specs.declared.limit.Kind.{Kind}
use Rattle.hy_base.specs.declared.limit.Kind.TheVariants as kind
use Rattle.hy_formula.specs.Trees.{Tree}
use Rattle.fin_monitor.specs.declared.monitor_error.MonitorError.{MonitorError}
use Rattle.fin_monitor.specs.declared.monitor_error.MonitorError.TheVariants.{Limit, Memory}
use Rattle.hy_formula.specs.Atoms.{atoms_of}
use Rattle.ltl_closure.specs.Bodies.{body_nodes, body_root}
use Rattle.fin_monitor.specs.Limits.{HasSmallClosure, HasFewAtoms, IsRefusal, IsClosureRefusal, IsAtomsRefusal}
use Rattle.fin_monitor.specs.Tables.{IsTableRefusal}

-- what is said of the error of a call is said of the same one that is handed on
pub err-on : {T E : Type 0} (P : E → Type 0) (r : Result T E) (x : E) → IsErrAnd r (λ y. y ≡ x) → P x → IfErr r P
err-on P (Ok t) x is p = tt
err-on {T} {E} P (Err y) x is p = subst P (sym is) p

at-kind : (body : Tree) (k j : Kind) → k ≡ j → IsRefusal body (Limit j) → IsRefusal body (Limit k)
at-kind body k j is h = let P : Kind → Type 0 = λ l. IsRefusal body (Limit l) in subst P (sym is) h

pub closure-refused : (body : Tree) (e : MonitorError) → IsClosureRefusal body e → IsRefusal body e
closure-refused body (Limit k) (is, large) = at-kind body k kind.Closure is large
closure-refused body Memory h = tt

pub atoms-refused : (body : Tree) → HasSmallClosure body → (e : MonitorError) → IsAtomsRefusal body e → IsRefusal body e
atoms-refused body small (Limit k) (is, many) = at-kind body k kind.Atoms is (small, many)
atoms-refused body small Memory h = tt

pub table-refused : (body : Tree) → HasSmallClosure body → HasFewAtoms body → (e : MonitorError) → IsTableRefusal (body_nodes body true) (body_root body true) (atoms_of body) e → IsRefusal body e
table-refused body small few (Limit k) (is, list, reached, many) =
    at-kind body k kind.Table is (small, few, record { list = list; reached = reached; many = many })
table-refused body small few Memory h = tt

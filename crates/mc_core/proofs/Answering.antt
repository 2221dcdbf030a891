-- The answers of a check by those of its parts.
use Rattle.std.proofs.Common.{ℕ, ◌<◌, ◌≤◌, List, Result, Ok, Err, IfErr, IfOk, inl, inr, refl}
use Rattle.std.specs.Prelude.{IsErrOf}
use Rattle.hy_base.specs.Limits.{most}
use Rattle.hy_base.specs.declared.limit.Kind.TheVariants.{Closure}
use Rattle.hy_formula.specs.Trees.{Tree}
use Rattle.hy_formula.specs.declared.prefix.Quant.{Quant}
use Rattle.ltl_closure.specs.declared.closure_error.ClosureError.{ClosureError}
use Rattle.ltl_closure.specs.declared.closure_error.ClosureError.TheVariants as closures
use Rattle.aig_net.specs.declared.signals.Signal.{Signal}
use Rattle.aig_net.specs.Nets.{Net}
use Rattle.net_names.specs.declared.name_error.NameError.{NameError}
use Rattle.net_names.specs.declared.name_error.NameError.TheVariants as bad_names
use Rattle.net_names.specs.Names.{IsNameRefusal}
use Rattle.formula_nets.specs.Posed.{IsPosed, IsTaken, checked_safe, members}
use Rattle.mc_core.specs.declared.ask.Ask.{Ask}
use Rattle.mc_core.specs.declared.checked.Checked.{Checked}
use Rattle.mc_core.specs.declared.mc_error.McError.{McError}
use Rattle.mc_core.specs.declared.mc_error.McError.TheVariants.{Prefix, Limit, CnfLimit, Name, Memory}
use Rattle.mc_core.specs.Answers.{IsAnswer, IsChecked, IsRefused, IsWorkRefusal, of_closure, of_names}

pub judged : (net : Net) (names : List (List ℕ)) (prefix : List Quant) (body : Tree) (ask : Ask)
    (signals : List Signal) (result : Result Checked McError) →
    IsPosed net names prefix body signals →
    IfOk result (IsChecked net signals prefix body ask) →
    IfErr result (IsWorkRefusal (checked_safe net signals prefix body) ask) →
    IsAnswer net names prefix body ask result
judged net names prefix body ask signals (Ok checked) posed is _ = (signals, posed, is)
judged net names prefix body ask signals (Err (Prefix k)) posed _ is = absurd is
judged net names prefix body ask signals (Err (Limit l)) posed _ is = inr (signals, posed, is)
judged net names prefix body ask signals (Err (CnfLimit k l m)) posed _ is = (signals, posed, is)
judged net names prefix body ask signals (Err (Name k t)) posed _ is = absurd is
judged net names prefix body ask signals (Err Memory) posed _ is = tt

pub unclosed : {T : Type 0} (net : Net) (names : List (List ℕ)) (prefix : List Quant) (body : Tree) (ask : Ask)
    (e : ClosureError) → IsTaken prefix →
    (IsErrOf {T = T} (Err e) closures.Limit → most Closure < members prefix body) →
    IsRefused net names prefix body ask (of_closure e)
unclosed net names prefix body ask closures.Limit taken many = inl (taken, (many refl, refl, refl))
unclosed net names prefix body ask closures.Memory taken many = tt

pub unnamed : (net : Net) (names : List (List ℕ)) (prefix : List Quant) (body : Tree) (ask : Ask)
    (e : NameError) → IsTaken prefix → members prefix body ≤ most Closure →
    IsNameRefusal net names body e → IsRefused net names prefix body ask (of_names e)
unnamed net names prefix body ask (bad_names.Bad name twice) taken few is = (taken, few, is)
unnamed net names prefix body ask bad_names.Memory taken few is = tt

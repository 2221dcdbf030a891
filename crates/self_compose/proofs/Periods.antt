-- Lassos of the copies and tuples of lassos.
use Rattle.std.proofs.Common.{◌≡◌, ℕ, ◌<◌, length, sym, ap, ◌∙◌, subst, arith}
use Rattle.std.proofs.Math.Path.{fun_ext}
use Rattle.aig_net.specs.Nets.{Net, IsNet}
use Rattle.aig_net.specs.Executions.{Word, Lasso, IsExecution, IsLassoExecution, Recurs, gone, lasso_of}
use Rattle.aig_net.proofs.Periods.{common}
use Rattle.aig_net.proofs.Rounds.{gone-recurs, recurring}
use Rattle.aig_net.proofs.Closings.{gone-execution, recurring-execution}
use Rattle.self_compose.specs.Copies.{compose, copy, joined, place}
use Rattle.self_compose.proofs.Tuples.{copy-execution, join-execution, copy-joined, copy-recurs, joined-recurs}

pub copy-lasso : (net : Net) (n : ℕ) (lasso : Lasso) → IsNet net →
    IsLassoExecution (compose net n) lasso → (c : ℕ) → c < n →
    (own : Lasso) × IsLassoExecution net own
    × ((i v : ℕ) → gone own i v ≡ copy n c (gone lasso) i v)
copy-lasso net n lasso good is c few =
    let word : Word = copy n c (gone lasso) in
    let s : ℕ = length lasso.stem in
    let p : ℕ = length lasso.cycle in
    let r : Recurs word s p = copy-recurs n (gone lasso) s p c (gone-recurs lasso is.some) in
    let some : 0 < n = omega (arith, few) in
    let execution : IsExecution net word =
    copy-execution net n some (gone lasso) good
    (gone-execution (compose net n) lasso is) c few in
    (lasso_of word s p, recurring-execution net word s p r execution, recurring word s p r)

pub join-lasso : (net : Net) (n : ℕ) (owns : ℕ → Lasso) → IsNet net → 0 < n →
    ((c : ℕ) → c < n → IsLassoExecution net (owns c)) →
    (lasso : Lasso) × IsLassoExecution (compose net n) lasso
    × ((c i v : ℕ) → c < n → copy n c (gone lasso) i v ≡ gone (owns c) i v)
join-lasso net n owns good some are =
    let (s, p, many, recur) = common n words
    (λ c few. (
      length (owns c).stem,
      length (owns c).cycle,
      gone-recurs (owns c)
          (are c few).some,
    )) in
    let r : Recurs word s p = joined-recurs n some words s p many recur in (
      lasso_of word s p,
      recurring-execution (compose net n) word s p r execution,
      λ c i v few. recurring word s p r i (place n c v) ∙ ap (λ w. w i v) (same c few),
    )
  where
    words : ℕ → Word
    words c = gone (owns c)

    word : Word
    word = joined n words

    runs : (c : ℕ) → c < n → IsExecution net (words c)
    runs c few = gone-execution net (owns c) (are c few)

    same : (c : ℕ) → c < n → copy n c word ≡ words c
    same c few = fun_ext (λ i. fun_ext
        (copy-joined n words c i few ((runs c few).run.right i).constant))

    execution : IsExecution (compose net n) word
    execution = let W : Word → Type 0 = IsExecution net in
        join-execution net n some word good (λ c few. subst W (sym (same c few)) (runs c few))

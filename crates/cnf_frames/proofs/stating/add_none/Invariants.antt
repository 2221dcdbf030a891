use Rattle.std.proofs.Common.{◌≡◌, [], ◌∷◌, ◌++◌, map, take}
use Rattle.std.specs.Prelude.{neg_ℤ}
use Rattle.chain_check.specs.FewClauses.{guarded}
use Rattle.cnf_frames.specs.Queries.{literal_in}
use Rattle.cnf_frames.proofs.stating.add_none.Given as goal

-- those so far are added
abbrev pub invariant-loop-l : goal.invariant-loop-l
invariant-loop-l l =
    (l.cnf.variables ≡ l.initial.cnf.variables)
    × (l.cnf.clauses ≡ l.initial.cnf.clauses
    ++ guarded l.d (map (λ x. neg_ℤ (literal_in l.net 1 x) ∷ []) (take l.l-index l.literals)))

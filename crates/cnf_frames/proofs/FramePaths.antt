-- The clauses of frames say that an assignment is a path.
use Rattle.std.proofs.Common.{◌≡◌, ℕ, suc, ◌+◌, ◌*◌, ◌<◌, ◌↔◌, Bool, true, false, not, List, ◌++◌, length, inl, inr, sym, ap, subst, arith}
use Rattle.std.specs.Prelude.{neg_ℤ}
use Rattle.std.proofs.lemmas.Bool.{cases_eq, not-true}
use Rattle.aig_net.specs.declared.parts.Reset.{Reset}
use Rattle.aig_net.specs.declared.parts.Reset.TheVariants.{Zero}
use Rattle.aig_net.specs.Nets.{Net, ResetTo, literal_value, literal_at, reset_at, and_at, latch_variable, and_value, first_and, variables, IsRight, IsStart, IsStep, AllTrue}
use Rattle.aig_net.specs.Executions.{Word}
use Rattle.aig_net.proofs.Literals.{value-even}
use Rattle.live_safe.specs.declared.safe_net.SafeNet.{SafeNet}
use Rattle.live_safe.specs.Paths.{IsPath, IsBadPath}
use Rattle.chain_check.specs.Clauses.{Clause}
use Rattle.cnf_frames.specs.Queries.{in_frame, latch_in, gate_clauses, frame_gates, constraint_clauses, latch_clauses, frame_step, frames, start_clauses, bad_in, base_clauses}
use Rattle.chain_check.specs.FewClauses.{for_each, alone}
use Rattle.chain_check.proofs.Values.{met-append, met-each, each-met}
use Rattle.chain_check.specs.Values.{Assignment, AllMet, Means}
use Rattle.cnf_frames.proofs.Meanings.{path_of, frame-means}
use Rattle.chain_check.proofs.FewMeanings.{alone-met, opposite-met, and-met, next-met}

module _ (net : Net) (a : Assignment) where
  abbrev V : ℕ
  V = variables net

  abbrev word : Word
  word = path_of V a

  means : (j l : ℕ) → Means a (in_frame V j l) (literal_value (word j) l)
  means j l = frame-means a V j l

  -- the variable itself
  pub variable-means : (j u : ℕ) → Means a (in_frame V j (2 * u)) (word j u)
  variable-means j u =
      let P : Bool → Type 0 = Means a (in_frame V j (2 * u)) in
      subst P (value-even (word j) u) (means j (2 * u))

  gate-met : (j i : ℕ) → AllMet a (gate_clauses net j i) ↔
      (word j (first_and net + i) ≡ and_value (word j) (and_at net.ands i))
  gate-met j i = and-met a _ _ _ _ _ _ (variable-means j (first_and net + i))
      (means j (and_at net.ands i).left) (means j (and_at net.ands i).right)

  gates-met : (j : ℕ) → AllMet a (frame_gates net j) ↔ IsRight net (word j)
  gates-met j =
      let constant = alone-met a _ _ (means j 1) in
      let both = met-append a (alone (in_frame V j 1))
      (for_each (gate_clauses net j) (length net.ands)) in (
        λ h.
            let (c, g) = both.0 h in
            record {
              constant = not-true (word j 0) (constant.0 c);
              gates = λ i lt.
                  (gate-met j i).0 (met-each a (gate_clauses net j) (length net.ands) g i lt);
            },
        λ right. both.1 (
          constant.1 (ap not right.constant),
          each-met a (gate_clauses net j) (length net.ands)
              (λ i lt. (gate-met j i).1 (right.gates i lt)),
        ),
      )

  constraint-met : (j i : ℕ) → AllMet a (constraint_clauses net j i) ↔
      (literal_value (word j) (literal_at net.constraints i) ≡ true)
  constraint-met j i = alone-met a _ _ (means j (literal_at net.constraints i))

  latch-met : (j i : ℕ) → AllMet a (latch_clauses net j i) ↔
      (word (suc j) (latch_variable net i) ≡ literal_value (word j) (literal_at net.latches i))
  latch-met j i = next-met a _ _ _ _ (variable-means (suc j) (latch_variable net i))
      (means j (literal_at net.latches i))

  abbrev IsOnward : ℕ → Type 0
  IsOnward j =
      IsRight net (word j) × (AllTrue net.constraints (word j) × IsStep net (word j) (word (suc j)))

  step-met : (j : ℕ) → AllMet a (frame_step net j) ↔ IsOnward j
  step-met j =
      let cs : List Clause = for_each (constraint_clauses net j) (length net.constraints) in
      let ls : List Clause = for_each (latch_clauses net j) (length net.latches) in
      let outer = met-append a (frame_gates net j) (cs ++ ls) in
      let inner = met-append a cs ls in (
        λ h.
            let (g, rest) = outer.0 h in
            let (c, l) = inner.0 rest in (
              (gates-met j).0 g,
              (
                λ i lt. (constraint-met j i).0
                    (met-each a (constraint_clauses net j) (length net.constraints) c i lt),
                λ i lt. (latch-met j i).0
                    (met-each a (latch_clauses net j) (length net.latches) l i lt),
              ),
            ),
        λ (g, (c, l)). outer.1 (
          (gates-met j).1 g,
          inner.1 (
            each-met a (constraint_clauses net j) (length net.constraints)
                (λ i lt. (constraint-met j i).1 (c i lt)),
            each-met a (latch_clauses net j) (length net.latches)
                (λ i lt. (latch-met j i).1 (l i lt)),
          ),
        ),
      )

  pub frames-met : (k : ℕ) → AllMet a (frames net k) ↔ IsPath net k word
  frames-met k = (to, from)
    where
      to : AllMet a (frames net k) → IsPath net k word
      to h =
          let (before, last) = (met-append a (for_each (frame_step net) k) (frame_gates net k)).0 h in
          let at : (j : ℕ) → j < k → IsOnward j =
          λ j lt. (step-met j).0 (met-each a (frame_step net) k before j lt) in
          record {
            right = λ i le.
                elim (cases_eq i k) [
                  | inl e ↦ let P : ℕ → Type 0 = λ i. IsRight net (word i) in
                      subst P (sym e) ((gates-met k).0 last)
                  | inr apart ↦ (at i (omega arith)).0
                ];
            kept = λ i lt. (at i lt).1.0;
            goes = λ i lt. (at i lt).1.1;
          }

      from : IsPath net k word → AllMet a (frames net k)
      from path =
          (met-append a (for_each (frame_step net) k) (frame_gates net k)).1 (
            each-met a (frame_step net) k
                (λ j lt. (step-met j).1 (path.right j (omega arith), (path.kept j lt, path.goes j lt))),
            (gates-met k).1 (path.right k (omega arith)),
          )

  start-met : ((j : ℕ) → reset_at net.resets j ≡ Zero) →
      AllMet a (start_clauses net) ↔ IsStart net (word 0)
  start-met zeros = (to, from)
    where
      each : (i : ℕ) → AllMet a (alone (neg_ℤ (latch_in net 0 i))) ↔
          (word 0 (latch_variable net i) ≡ false)
      each i = opposite-met a _ _ (variable-means 0 (latch_variable net i))

      to : AllMet a (start_clauses net) → IsStart net (word 0)
      to h j lt =
          let P : Reset → Type 0 = λ r. ResetTo r (word 0 (latch_variable net j)) in
          subst P (sym (zeros j)) ((each j).0
          (met-each a (λ i. alone (neg_ℤ (latch_in net 0 i))) (length net.latches) h j lt))

      from : IsStart net (word 0) → AllMet a (start_clauses net)
      from starts = each-met a (λ i. alone (neg_ℤ (latch_in net 0 i))) (length net.latches)
          (λ j lt. let P : Reset → Type 0 = λ r. ResetTo r (word 0 (latch_variable net j)) in
          (each j).1 (subst P (zeros j) (starts j lt)))

pub base-met : (safe : SafeNet) (k : ℕ) (a : Assignment) →
    ((j : ℕ) → reset_at safe.net.resets j ≡ Zero) →
    AllMet a (base_clauses safe k) ↔ IsBadPath safe k (path_of (variables safe.net) a)
base-met safe k a zeros =
    let V : ℕ = variables safe.net in
    let outer = met-append a (frames safe.net k) (start_clauses safe.net ++ alone (bad_in safe k)) in
    let inner = met-append a (start_clauses safe.net) (alone (bad_in safe k)) in
    let bad = alone-met a (bad_in safe k) _ (frame-means a V k safe.bad) in (
      λ h.
          let (f, rest) = outer.0 h in
          let (s, b) = inner.0 rest in
          record {
            starts = (start-met safe.net a zeros).0 s;
            along = (frames-met safe.net a k).0 f;
            ends = bad.0 b;
          },
      λ is. outer.1 (
        (frames-met safe.net a k).1 is.along,
        inner.1 ((start-met safe.net a zeros).1 is.starts, bad.1 is.ends),
      ),
    )

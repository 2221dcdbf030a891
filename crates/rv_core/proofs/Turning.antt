-- Where the order of two traces does not matter, the tuples with a trace first are enough.
use Rattle.std.proofs.Common.{◌≡◌, ◌≤◌, List, [], ◌∷◌, length, inl, inr, sym, subst, ◌∙◌, arith}
use Rattle.std.specs.List.{Contains}
use Rattle.hy_base.proofs.Members.{contains-cases, contains-none}
use Rattle.hy_formula.specs.Quantifiers.{Each}
use Rattle.hy_finite.specs.declared.lengths.Lengths.{Lengths}
use Rattle.hy_finite.specs.declared.lengths.Lengths.TheVariants.{Min}
use Rattle.hy_finite.specs.Traces.{Trace, Meets, judged, trace_words}
use Rattle.hy_formula.proofs.Deciding.{decided-below}
use Rattle.hy_formula.proofs.Each.{each-at}
use Rattle.fin_monitor.specs.Machines.{Machine}
use Rattle.trace_trie.specs.Numbered.{Numbered, AreTraces}
use Rattle.dominance.specs.Dominance.{IsTrace, IsSymmetric}
use Rattle.tuple_walk.specs.Finds.{AllMeet, FirstMeet, traces_of}
use Rattle.rv_core.specs.Watched.{MayTurn}
use Rattle.rv_core.proofs.Keepings.{traces-from}

pub turns-of : (m : Machine) → ((rule : Lengths) → IsSymmetric rule m.variables m.body) → MayTurn m
turns-of m same = (
  (same Min).two,
  λ rule t u some_t some_u fails meets. fails (((same rule).same t u some_t some_u).1 meets),
)

trace-of : (list : List Numbered) (t : Trace) → AreTraces list → Contains (traces_of list) t
    → IsTrace t
trace-of list t are c =
    let (n, d) = traces-from list t c in
    (each-at (λ (p : Numbered). (1 ≤ length p.1) × (length p.1 ≤ 1024)) list (n, t) are d).0

pub all-meet : (m : Machine) (rule : Lengths) (list : List Numbered) (t : Trace) → MayTurn m
    → AreTraces list → FirstMeet m rule (traces_of list) t → AllMeet m rule (traces_of list) t
all-meet m rule list t (two, turn) are first tuple is has =
    by tuple (is.count ∙ two) is.members has
  where
    turned : (u : Trace) → Contains (traces_of list) u → Contains (traces_of list) t
        → Meets rule m.body (t ∷ u ∷ []) → Meets rule m.body (u ∷ t ∷ [])
    turned u in_u in_t meets =
        elim (decided-below (judged rule (u ∷ t ∷ [])) (trace_words (u ∷ t ∷ [])) m.body 0) [
          | inl meets_too ↦ meets_too
          | inr fails ↦
              absurd (turn rule u t (trace-of list u are in_u) (trace-of list t are in_t)
              fails meets)
        ]

    by : (tuple : List Trace) → length tuple ≡ 2 → Each (Contains (traces_of list)) tuple
        → Contains tuple t → Meets rule m.body tuple
    by [] long members c = absurd (omega arith)
    by (u ∷ []) long members c = absurd (omega arith)
    by (u ∷ v ∷ w ∷ ws) long members c = absurd (omega arith)
    by (u ∷ v ∷ []) long (in_u, (in_v, rest)) c =
        elim (contains-cases u t (v ∷ []) c) [
          | inl e ↦
              let P : Trace → Type 0 = λ q. Meets rule m.body (q ∷ v ∷ []) in
              let Q : Trace → Type 0 = Contains (traces_of list) in
              subst P (sym e) (first (v ∷ []) (record {
                count = sym two;
                members = (subst Q e in_u, (in_v, tt));
              }))
          | inr later ↦ elim (contains-cases v t [] later) [
            | inl e ↦
                let P : Trace → Type 0 = λ q. Meets rule m.body (u ∷ q ∷ []) in
                let Q : Trace → Type 0 = Contains (traces_of list) in
                let in_t = subst Q e in_v in
                subst P (sym e) (turned u in_u in_t (first (u ∷ []) (record {
                  count = sym two;
                  members = (in_t, (in_u, tt));
                })))
            | inr none ↦ absurd (contains-none t none)
          ]
        ]

-- Signals of the names of one body: the safe net is the same, and so is what runs show.
use mathlib.Core.Path.{fun_ext}
use Rattle.std.proofs.Common.{◌≡◌, ◌≢◌, refl, sym, ap, ◌∙◌, subst, true≢false, eqb-true, arith, inl, inr}
use Rattle.std.specs.Prelude.{ℕ, zero, suc, ◌+◌, ◌≤◌, Bool, true, false, ◌&&◌, cond, nat_eq, List, [], ◌∷◌, ◌++◌, length, IsTrue}
use Rattle.std.specs.Prelude.{Option, Some, None, is_some, unwrap_or}
use Rattle.std.specs.Option.{option_map}
use Rattle.std.specs.List.{Contains}
use Rattle.std.proofs.lemmas.Bool.{cases_lt, false_from_ne_true}
use Rattle.std.proofs.lemmas.Bool.Decides.{Decides-eqb}
use Rattle.hy_base.specs.Rows.{listed}
use Rattle.hy_base.proofs.Members.{contains-here, contains-later}
use Rattle.hy_base.proofs.Truths.{and-false}
use Rattle.hy_bits.specs.Letter.{Letter}
use Rattle.hy_formula.specs.Atoms.{has_name}
use Rattle.hy_formula.specs.Formulas.{Plain}
use Rattle.hy_formula.specs.Lassos as letters
use Rattle.hy_formula.specs.Trees.{Tree}
use Rattle.aig_net.specs.declared.run.Run.{Run}
use Rattle.aig_net.specs.declared.signals.Signal.{Signal}
use Rattle.aig_net.specs.Executions.{gone}
use Rattle.aig_net.specs.Nets.{Net, literal_value}
use Rattle.aig_net.specs.Signals.{is_for, literal_of}
use Rattle.aig_net.specs.Simulations.{valuations}
use Rattle.net_names.specs.Names.{AreSignals, IsOnly, name_at}
use Rattle.self_compose.specs.Copies.{copy_literal}
use Rattle.sym_tableau.specs.Oracles.{attach, signal_in}
use Rattle.ltl_closure.specs.Bodies.{body_nodes, body_root}
use Rattle.self_compose.specs.Copies.{compose}
use Rattle.live_safe.specs.Safe.{to_safe}
use Rattle.wit_lasso.specs.FormulaNets.{copy_signal, copy_signals}
use Rattle.wit_lasso.specs.Seeing.{IsTraceOf}
use Rattle.wit_lasso.proofs.CopySignals.{literal-copied}
use Rattle.formula_nets.specs.Posed.{is_existential}
use Rattle.claim_check.specs.Good.{AreGoodRuns, safe_net}

-- The literal that a name has is that of a signal of the list.
literal-there : (signals : List Signal) (name l : ℕ) → literal_of signals name 0 ≡ Some l
    → (s : Signal) × Contains signals s × (s.name ≡ name) × (s.literal ≡ l)
literal-there [] name l e = absurd (true≢false (sym (ap is_some e)))
literal-there (s ∷ signals) name l e =
    by (nat_eq s.name name) (nat_eq s.var 0) refl e (literal-there signals name l)
  where
    by : (a b : Bool) → nat_eq s.name name ≡ a
        → cond (a && b) (Some s.literal) (literal_of signals name 0) ≡ Some l
        → (literal_of signals name 0 ≡ Some l
        → (r : Signal) × Contains signals r × (r.name ≡ name) × (r.literal ≡ l))
        → (r : Signal) × Contains (s ∷ signals) r × (r.name ≡ name) × (r.literal ≡ l)
    by true true known e behind =
        (s, contains-here s signals, eqb-true s.name name known, ap (λ o. unwrap_or o 0) e)
    by true false known e behind =
        let (r, more, same, is) = behind e in (r, contains-later s r signals more, same, is)
    by false b known e behind =
        let (r, more, same, is) = behind e in (r, contains-later s r signals more, same, is)

-- ---- copies

-- no copy is past the last one
none-past : (n : ℕ) (name c : ℕ) → n ≤ c → (s : Signal) (m a : ℕ) → a + m ≤ n → (rest : List Signal)
    → literal_of rest name c ≡ None
    → literal_of (listed a m (λ k. copy_signal n k s) ++ rest) name c ≡ None
none-past n name c past s zero a few rest none = none
none-past n name c past s (suc m) a few rest none =
    let no : nat_eq a c ≡ false = false_from_ne_true _ (λ h. omega (arith, (Decides-eqb a c).0 h, few, past)) in
    let off : is_for name c (copy_signal n a s) ≡ false =
    ap (λ b. nat_eq s.name name && b) no ∙ and-false (nat_eq s.name name) in
    ap (λ b. cond b (Some (copy_literal n a s.literal))
    (literal_of (listed (suc a) m (λ k. copy_signal n k s) ++ rest) name c)) off
    ∙ none-past n name c past s m (suc a) (omega arith) rest none

copies-past : (n name c : ℕ) → n ≤ c → (signals : List Signal)
    → literal_of (copy_signals n signals) name c ≡ None
copies-past n name c past [] = refl
copies-past n name c past (s ∷ signals) =
    none-past n name c past s n 0 (omega arith) (copy_signals n signals)
    (copies-past n name c past signals)

module _ (net : Net) (names : List (List ℕ)) (body : Tree) where
  -- A name with a literal is one of the body, and stands for this literal alone.
  pub name-known : (signals : List Signal) → AreSignals net names body signals → (name l : ℕ)
      → literal_of signals name 0 ≡ Some l
      → IsTrue (has_name body name) × IsOnly net (name_at names name) l
  name-known signals are name l e =
      let (s, there, same, is) = literal-there signals name l e in
      let (has, only) = are.each s there in
      let P : ℕ → Type 0 = λ n. IsTrue (has_name body n) × IsOnly net (name_at names n) s.literal in
      let Q : ℕ → Type 0 = λ m. IsTrue (has_name body name) × IsOnly net (name_at names name) m in
      subst Q is (subst P same (has, only))

  -- A name of the body has a literal.
  not-missing : (signals : List Signal) → AreSignals net names body signals → (name : ℕ)
      → IsTrue (has_name body name) → literal_of signals name 0 ≢ None
  not-missing signals are name has e =
      true≢false (sym (are.every name has) ∙ ap is_some e)

  module _ (a b : List Signal) (one : AreSignals net names body a)
      (two : AreSignals net names body b) where
    pub same-literal : (name : ℕ) → literal_of a name 0 ≡ literal_of b name 0
    same-literal name = by (literal_of a name 0) (literal_of b name 0) refl refl
      where
        by : (x y : Option ℕ) → literal_of a name 0 ≡ x → literal_of b name 0 ≡ y → x ≡ y
        by None None e d = refl
        by None (Some m) e d =
            absurd (not-missing a one name (name-known b two name m d).0 e)
        by (Some l) None e d =
            absurd (not-missing b two name (name-known a one name l e).0 d)
        by (Some l) (Some m) e d =
            ap Some ((name-known b two name m d).1.only l (name-known a one name l e).1.has)

    same-copied : (n name c : ℕ)
        → signal_in (copy_signals n a) name c ≡ signal_in (copy_signals n b) name c
    same-copied n name c = elim (cases_lt c n) [
      | inl few ↦ ap (λ o. unwrap_or o 0) (literal-copied n name c few a one.own
          ∙ ap (option_map (copy_literal n c)) (same-literal name)
          ∙ sym (literal-copied n name c few b two.own))
      | inr past ↦ ap (λ o. unwrap_or o 0) (copies-past n name c past a
          ∙ sym (copies-past n name c past b))
    ]

pub same-net : (net : Net) (names : List (List ℕ)) (f : Plain) (a b : List Signal)
    → AreSignals net names f.body a → AreSignals net names f.body b
    → safe_net net a f ≡ safe_net net b f
same-net net names f a b one two =
    let n = length f.prefix in
    let positive = is_existential f.prefix in
    ap (λ (signals : ℕ → ℕ → ℕ). to_safe (attach (compose net n) (body_nodes f.body positive)
    signals (body_root f.body positive ∷ [])))
    (fun_ext (λ name. fun_ext (λ c. same-copied net names f.body a b one two n name c)))

pub same-runs : (net : Net) (names : List (List ℕ)) (f : Plain) (a b : List Signal)
    → AreSignals net names f.body a → AreSignals net names f.body b
    → (list : List (letters.Lasso Letter)) (tuple : List Run)
    → AreGoodRuns net a f list tuple → AreGoodRuns net b f list tuple
same-runs net names f a b one two list tuple are = record {
  many_runs = are.many_runs;
  many_traces = are.many_traces;
  each = λ c few. moved _ _ (are.each c few);
  says = are.says;
}
  where
    moved : (run : Run) (trace : letters.Lasso Letter) → IsTraceOf net a run trace
        → IsTraceOf net b run trace
    moved run trace is = record {
      values = is.values;
      execution = is.execution;
      normal = is.normal;
      shows = λ i name. is.shows i name
          ∙ ap (λ o. literal_value (gone (valuations is.values) i) (unwrap_or o 0))
          (same-literal net names f.body a b one two name);
    }

-- Signals of the names of one body show the same of a word, so they say the same of a circuit.
use mathlib.Core.Path.{fun_ext}
use Rattle.std.proofs.Common.{◌≡◌, ◌≢◌, refl, sym, ap, ◌∙◌, subst, true≢false, eqb-true}
use Rattle.std.specs.Prelude.{ℕ, Bool, true, false, ◌&&◌, cond, nat_eq, List, [], ◌∷◌, IsTrue}
use Rattle.std.specs.Prelude.{Option, Some, None, is_some, unwrap_or}
use Rattle.std.specs.List.{Contains}
use Rattle.hy_base.proofs.Members.{contains-here, contains-later}
use Rattle.hy_formula.specs.declared.prefix.Quant.{Quant}
use Rattle.hy_formula.specs.declared.prefix.Quant.TheVariants.{Exists, Forall}
use Rattle.hy_formula.specs.Trees.{Tree}
use Rattle.hy_formula.specs.Quantifiers.{Quantified}
use Rattle.aig_net.specs.declared.signals.Signal.{Signal}
use Rattle.aig_net.specs.Nets.{Net, literal_value}
use Rattle.aig_net.specs.Executions.{Word, gone}
use Rattle.aig_net.specs.Signals.{literal_of, visible}
use Rattle.wit_lasso.specs.Satisfaction.{Trace, IsVisible, Meets, Satisfies}
use Rattle.hy_formula.specs.Atoms.{has_name}
use Rattle.net_names.specs.Names.{AreSignals, IsOnly, name_at}

-- Quantifiers over the same members say the same.
same-members : {A : Type 0} (P Q : A → Type 0) (Body : List A → Type 0) → ((x : A) → P x → Q x)
    → ((x : A) → Q x → P x) → (prefix : List Quant) → Quantified P Body prefix
    → Quantified Q Body prefix
same-members P Q Body f g [] q = q
same-members P Q Body f g (Exists ∷ prefix) (x, p, q) =
    (x, f x p, same-members P Q (λ tuple. Body (x ∷ tuple)) f g prefix q)
same-members P Q Body f g (Forall ∷ prefix) q =
    λ x p. same-members P Q (λ tuple. Body (x ∷ tuple)) f g prefix (q x (g x p))

-- The literal that a name has is that of a signal of the list.
literal-there : (signals : List Signal) (name l : ℕ) → literal_of signals name 0 ≡ Some l
    → (s : Signal) × Contains signals s × (s.name ≡ name) × (s.literal ≡ l)
literal-there [] name l e = absurd (true≢false (sym (ap is_some e)))
literal-there (s ∷ signals) name l e =
    by (nat_eq s.name name) (nat_eq s.var 0) refl e (literal-there signals name l)
  where
    by : (a b : Bool) → nat_eq s.name name ≡ a
        → cond (a && b) (Some s.literal) (literal_of signals name 0) ≡ Some l
        → (literal_of signals name 0 ≡ Some l
        → (r : Signal) × Contains signals r × (r.name ≡ name) × (r.literal ≡ l))
        → (r : Signal) × Contains (s ∷ signals) r × (r.name ≡ name) × (r.literal ≡ l)
    by true true known e behind =
        (s, contains-here s signals, eqb-true s.name name known, ap (λ o. unwrap_or o 0) e)
    by true false known e behind =
        let (r, more, same, is) = behind e in (r, contains-later s r signals more, same, is)
    by false b known e behind =
        let (r, more, same, is) = behind e in (r, contains-later s r signals more, same, is)

module _ (net : Net) (names : List (List ℕ)) (body : Tree) where
  -- A name with a literal is one of the body, and stands for this literal alone.
  name-known : (signals : List Signal) → AreSignals net names body signals → (name l : ℕ)
      → literal_of signals name 0 ≡ Some l
      → IsTrue (has_name body name) × IsOnly net (name_at names name) l
  name-known signals are name l e =
      let (s, there, same, is) = literal-there signals name l e in
      let (has, only) = are.each s there in
      let P : ℕ → Type 0 = λ n. IsTrue (has_name body n) × IsOnly net (name_at names n) s.literal in
      let Q : ℕ → Type 0 = λ m. IsTrue (has_name body name) × IsOnly net (name_at names name) m in
      subst Q is (subst P same (has, only))

  -- A name of the body has a literal.
  not-missing : (signals : List Signal) → AreSignals net names body signals → (name : ℕ)
      → IsTrue (has_name body name) → literal_of signals name 0 ≢ None
  not-missing signals are name has e =
      true≢false (sym (are.every name has) ∙ ap is_some e)

  module _ (a b : List Signal) (one : AreSignals net names body a)
      (two : AreSignals net names body b) where
    same-literal : (name : ℕ) → literal_of a name 0 ≡ literal_of b name 0
    same-literal name = by (literal_of a name 0) (literal_of b name 0) refl refl
      where
        by : (x y : Option ℕ) → literal_of a name 0 ≡ x → literal_of b name 0 ≡ y → x ≡ y
        by None None e d = refl
        by None (Some m) e d =
            absurd (not-missing a one name (name-known b two name m d).0 e)
        by (Some l) None e d =
            absurd (not-missing b two name (name-known a one name l e).0 d)
        by (Some l) (Some m) e d =
            ap Some ((name-known b two name m d).1.only l (name-known a one name l e).1.has)

    same-visible : (word : Word) → visible a word ≡ visible b word
    same-visible word = fun_ext (λ name. fun_ext (λ i.
        ap (λ o. literal_value (word i) (unwrap_or o 0)) (same-literal name)))

    same-traces : (trace : Trace) → IsVisible net a trace → IsVisible net b trace
    same-traces trace is = record {
      lasso = is.lasso;
      execution = is.execution;
      seen = is.seen ∙ same-visible (gone is.lasso);
    }

pub same-satisfaction : (net : Net) (names : List (List ℕ)) (prefix : List Quant) (body : Tree)
    (a b : List Signal) → AreSignals net names body a → AreSignals net names body b
    → Satisfies net a prefix body → Satisfies net b prefix body
same-satisfaction net names prefix body a b one two =
    same-members (IsVisible net a) (IsVisible net b) (Meets body)
    (same-traces net names body a b one two) (same-traces net names body b a two one) prefix

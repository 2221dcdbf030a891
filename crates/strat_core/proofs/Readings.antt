-- A question is read in one way: the shape of a prefix, and the literals of names.
use Rattle.std.proofs.Common.{◌≡◌, ◌≢◌, ℕ, Bool, true, false, cond, Option, Some, None, is_some, unwrap_or, IsTrue, List, [], ◌∷◌, refl, sym, ap, ◌∙◌, subst, true≢false}
use Rattle.std.specs.List.{Contains}
use Rattle.std.proofs.Math.Path.{fun_ext}
use Rattle.std.proofs.lemmas.Bool.{and_parts, eqb-true}
use Rattle.hy_base.proofs.Members.{contains-here, contains-later}
use Rattle.hy_formula.specs.Atoms.{has_name}
use Rattle.hy_formula.specs.Trees.{Tree}
use Rattle.hy_formula.specs.declared.prefix.Quant.{Quant}
use Rattle.aig_net.specs.declared.signals.Signal.{Signal}
use Rattle.aig_net.specs.Nets.{Net}
use Rattle.aig_net.specs.Signals.{is_for, literal_of}
use Rattle.net_names.specs.Names.{AreSignals, IsBadName, IsFirstBad, IsOnly, name_at}
use Rattle.strat_compose.specs.Driving.{signal_of}
use Rattle.strat_compose.specs.Prefixes.{IsForallExists}
use Rattle.strat_compose.proofs.Prefixes.{counts-are}

pub one-shape : (prefix : List Quant) (m e n k : ℕ) → IsForallExists prefix m e →
    IsForallExists prefix n k → (m ≡ n) × (e ≡ k)
one-shape prefix m e n k one two =
    let (_, _, _, m-is, e-is) = counts-are prefix m e one in
    let (_, _, _, n-is, k-is) = counts-are prefix n k two in
    (m-is ∙ sym n-is, e-is ∙ sym k-is)

-- a signal that has the literal of a name; it stands in formula_nets, too
signal-there : (signals : List Signal) (name l : ℕ) → literal_of signals name 0 ≡ Some l →
    (s : Signal) × Contains signals s × (s.name ≡ name) × (s.literal ≡ l)
signal-there [] name l e = absurd (cc)
signal-there (s ∷ signals) name l e = of (is_for name 0 s) refl e (signal-there signals name l)
  where
    of : (b : Bool) → is_for name 0 s ≡ b →
        cond b (Some s.literal) (literal_of signals name 0) ≡ Some l →
        (literal_of signals name 0 ≡ Some l →
        (r : Signal) × Contains signals r × (r.name ≡ name) × (r.literal ≡ l)) →
        (r : Signal) × Contains (s ∷ signals) r × (r.name ≡ name) × (r.literal ≡ l)
    of true own e behind =
        let (same, _) = and_parts _ _ own in
        (s, contains-here s signals, eqb-true s.name name same, ap (λ o. unwrap_or o 0) e)
    of false own e behind =
        let (r, there, same, is) = behind e in (r, contains-later s r signals there, same, is)

module _ (net : Net) (names : List (List ℕ)) (body : Tree) where
  -- A name with a literal is one of the body, and stands for this literal alone.
  known : (signals : List Signal) → AreSignals net names body signals → (name l : ℕ) →
      literal_of signals name 0 ≡ Some l →
      IsTrue (has_name body name) × IsOnly net (name_at names name) l
  known signals are name l e =
      let (s, there, same, is) = signal-there signals name l e in
      let P : ℕ → Type 0 = λ n. IsTrue (has_name body n) × IsOnly net (name_at names n) s.literal in
      let Q : ℕ → Type 0 = λ m. IsTrue (has_name body name) × IsOnly net (name_at names name) m in
      subst Q is (subst P same (are.each s there))

  -- A name of the body has a literal.
  there : (signals : List Signal) → AreSignals net names body signals → (name : ℕ) →
      IsTrue (has_name body name) → literal_of signals name 0 ≢ None
  there signals are name has e = true≢false (sym (are.every name has) ∙ ap is_some e)

  pub one-signal : (a b : List Signal) → AreSignals net names body a →
      AreSignals net names body b → signal_of a ≡ signal_of b
  one-signal a b one two =
      fun_ext (λ name. by name (literal_of a name 0) (literal_of b name 0) refl refl)
    where
      by : (name : ℕ) (x y : Option ℕ) → literal_of a name 0 ≡ x → literal_of b name 0 ≡ y →
          signal_of a name ≡ signal_of b name
      by name None None e d = ap (λ o. unwrap_or o 0) (e ∙ sym d)
      by name None (Some l) e d = absurd (there a one name (known b two name l d).0 e)
      by name (Some l) None e d = absurd (there b two name (known a one name l e).0 d)
      by name (Some l) (Some m) e d =
          let same : l ≡ m = (known b two name m d).1.only l (known a one name l e).1.has in
          ap (λ o. unwrap_or o 0) e ∙ same ∙ sym (ap (λ o. unwrap_or o 0) d)

  -- Where all names have signals, none is bad.
  pub no-bad : (signals : List Signal) → AreSignals net names body signals → (name : ℕ)
      (twice : Bool) → ¬ IsFirstBad net names body name twice
  no-bad signals are name twice bad = at (literal_of signals name 0) refl
    where
      of : (l : ℕ) → IsOnly net (name_at names name) l → (twice : Bool) →
          ¬ IsBadName net (name_at names name) twice
      of l only false none = none l only.has
      of l only true (x, y, has-x, has-y, apart) =
          apart (only.only x has-x ∙ sym (only.only y has-y))

      at : (o : Option ℕ) → literal_of signals name 0 ≡ o → ⊥
      at None e = there signals are name bad.there e
      at (Some l) e = of l (known signals are name l e).1 twice bad.bad

-- The names of a driven net stand for its outputs, and what is seen by them is what the outputs
-- show.
use Rattle.std.proofs.Common.{◌≡◌, ◌≢◌, ℕ, ◌+◌, ◌<◌, ◌⊎◌, ◌↔◌, Bool, true, false, cond, ◌||◌, IsTrue, Option, Some, None, is_some, unwrap_or, List, [], ◌∷◌, length, inl, inr, refl, sym, ap, ap₂, ◌∙◌, subst, arith}
use Rattle.std.specs.List.{Contains}
use Rattle.std.proofs.Math.Path.{fun_ext}
use Rattle.std.proofs.lemmas.Bool.{and_parts, eq-eqb, eqb-true, ltb-true, or_left, or_right}
use Rattle.hy_base.proofs.Listed.{at-listed, length-listed}
use Rattle.hy_base.proofs.Members.{contains-here, contains-later}
use Rattle.hy_formula.specs.Atoms.{IndexedAtom, atoms_of, has_name}
use Rattle.hy_formula.specs.Temporal.{IsRelease, IsUntil, SatisfiesAt, Span, Within, Words, endless}
use Rattle.hy_formula.specs.Trees.{Tree, always, never, atom, not, next, finally, globally, and, or, implies, iff, until, release, weak, vars_below}
use Rattle.aig_net.specs.declared.signals.Signal.{Signal}
use Rattle.aig_net.specs.Executions.{Word}
use Rattle.aig_net.specs.Nets.{Net, literal_at, literal_value}
use Rattle.aig_net.specs.Signals.{is_for, literal_of, visible}
use Rattle.net_names.specs.Names.{AreSignals, IsOnly, StandsAt, name_at}
use Rattle.strat_compose.specs.Driving.{driven, driven_outputs, fresh_name, fresh_names, name_count, no_names, parts_of}
use Rattle.strat_compose.specs.Formulas.{driven_body, output_words}
use Rattle.strat_compose.specs.Winning.{driven_for}
use Rattle.strat_compose.proofs.AtomBounds.{driven-bound}
use Rattle.strat_compose.proofs.Fitting.{many-outputs}
use Rattle.strat_compose.proofs.NamesBelow.{driven-below}

-- ---- words that agree on the names of a tree

module _ (span : Span) (words told : Words) where
  -- They do, for the one variable.
  abbrev AgreeOn : (ℕ → Bool) → Type 0
  AgreeOn test = (name i : ℕ) → test name ≡ true → words name 0 i ≡ told name 0 i

  agree-left : (f g : ℕ → Bool) → AgreeOn (λ k. f k || g k) → AgreeOn f
  agree-left f g same name i h = same name i (or_left _ _ h)

  agree-right : (f g : ℕ → Bool) → AgreeOn (λ k. f k || g k) → AgreeOn g
  agree-right f g same name i h = same name i (or_right _ _ h)

  pub named-same : (f : Tree) → vars_below 1 f ≡ true → AgreeOn (has_name f) →
      SatisfiesAt span words f ≡ SatisfiesAt span told f
  named-same always b same = refl
  named-same never b same = refl
  named-same (atom n v) b same =
      let small : v < 1 = ltb-true v 1 b in
      let only : v ≡ 0 = omega (arith, small) in
      fun_ext (λ i. ap IsTrue (ap (λ u. words n u i) only ∙ same n i (eq-eqb n n refl)
      ∙ sym (ap (λ u. told n u i) only)))
  named-same (not f) b same =
      ap (λ (P : ℕ → Type 0). λ (i : ℕ). ¬ P i) (named-same f b same)
  named-same (next f) b same =
      ap (λ (P : ℕ → Type 0). λ (i : ℕ). Within span (i + 1) × P (i + 1)) (named-same f b same)
  named-same (finally f) b same = ap (IsUntil span (λ _. Unit {0})) (named-same f b same)
  named-same (globally f) b same = ap (IsRelease span (λ _. ⊥)) (named-same f b same)
  named-same (and f g) b same =
      let (p, q) = and_parts _ _ b in
      ap₂ (λ (P Q : ℕ → Type 0). λ (i : ℕ). P i × Q i)
      (named-same f p (agree-left (has_name f) (has_name g) same))
      (named-same g q (agree-right (has_name f) (has_name g) same))
  named-same (or f g) b same =
      let (p, q) = and_parts _ _ b in
      ap₂ (λ (P Q : ℕ → Type 0). λ (i : ℕ). P i ⊎ Q i)
      (named-same f p (agree-left (has_name f) (has_name g) same))
      (named-same g q (agree-right (has_name f) (has_name g) same))
  named-same (implies f g) b same =
      let (p, q) = and_parts _ _ b in
      ap₂ (λ (P Q : ℕ → Type 0). λ (i : ℕ). P i → Q i)
      (named-same f p (agree-left (has_name f) (has_name g) same))
      (named-same g q (agree-right (has_name f) (has_name g) same))
  named-same (iff f g) b same =
      let (p, q) = and_parts _ _ b in
      ap₂ (λ (P Q : ℕ → Type 0). λ (i : ℕ). (P i → Q i) × (Q i → P i))
      (named-same f p (agree-left (has_name f) (has_name g) same))
      (named-same g q (agree-right (has_name f) (has_name g) same))
  named-same (until f g) b same =
      let (p, q) = and_parts _ _ b in
      ap₂ (IsUntil span)
      (named-same f p (agree-left (has_name f) (has_name g) same))
      (named-same g q (agree-right (has_name f) (has_name g) same))
  named-same (release f g) b same =
      let (p, q) = and_parts _ _ b in
      ap₂ (IsRelease span)
      (named-same f p (agree-left (has_name f) (has_name g) same))
      (named-same g q (agree-right (has_name f) (has_name g) same))
  named-same (weak f g) b same =
      let (p, q) = and_parts _ _ b in
      ap₂ (λ (P Q : ℕ → Type 0). IsRelease span Q (λ k. P k ⊎ Q k))
      (named-same f p (agree-left (has_name f) (has_name g) same))
      (named-same g q (agree-right (has_name f) (has_name g) same))

-- ---- what the names stand for

fresh-at : (n k : ℕ) → k < n → name_at (fresh_names n) k ≡ fresh_name k
fresh-at n k lt = at-listed 0 n fresh_name [] k lt ∙ ap fresh_name (omega arith)

fresh-apart : (j k : ℕ) → fresh_name j ≡ fresh_name k → j ≡ k
fresh-apart j k same = let heads : 48 + j ≡ 48 + k = cc in omega (arith, heads)

-- Where there are no names, only the empty one stands.
no-name : (n j : ℕ) (name : List ℕ) → StandsAt (no_names n) name j → name ≡ []
no-name n j name (lt, e) =
    let many = length-listed {B = List ℕ} 0 n (λ _. []) in
    sym e ∙ at-listed 0 n (λ _. []) [] j (omega (arith, many, lt))

module _ (net strategy : Net) (m e : ℕ) (signal : ℕ → ℕ) (atoms : List IndexedAtom) where
  abbrev outputs : List ℕ
  outputs = driven_outputs net strategy (parts_of net strategy m e) signal atoms

  abbrev whole : Net
  whole = driven net strategy (parts_of net strategy m e) signal atoms

  abbrev names : List (List ℕ)
  names = fresh_names (name_count net e atoms)

  many : length outputs ≡ name_count net e atoms
  many = many-outputs net strategy m e signal atoms

  -- Each name stands for the output of its number alone.
  pub only-output : (k : ℕ) → k < name_count net e atoms →
      IsOnly whole (name_at names k) (literal_at outputs k)
  only-output k lt =
      let own : name_at names k ≡ fresh_name k = fresh-at (name_count net e atoms) k lt in
      let inside : k < length outputs = omega (arith, many, lt) in
      let long = length-listed 0 (length outputs) fresh_name in
      let there : name_at (fresh_names (length outputs)) k ≡ fresh_name k =
      fresh-at (length outputs) k inside in
      let some : name_at names k ≢ [] = λ none. let wrong : fresh_name k ≡ [] = sym own ∙ none in cc in
      record {
        has = (some, inr (inr (k, (omega (arith, long, inside), there ∙ sym own), refl)));
        only = λ l (_, has). elim has [
          | inl (j, stands, is) ↦ absurd (some (no-name _ j _ stands))
          | inr more ↦ elim more [
            | inl (j, stands, is) ↦ absurd (some (no-name _ j _ stands))
            | inr (j, (low, same), is) ↦
                let here = fresh-at (length outputs) j (omega (arith, long, low)) in
                is ∙ ap (literal_at outputs) (fresh-apart j k (sym here ∙ same ∙ own))
          ]
        ];
      }

-- ---- what is seen

-- a signal that has this literal
signal-there : (signals : List Signal) (name l : ℕ) → literal_of signals name 0 ≡ Some l →
    (s : Signal) × Contains signals s × (s.name ≡ name) × (s.literal ≡ l)
signal-there [] name l e = absurd (cc)
signal-there (s ∷ signals) name l e = of (is_for name 0 s) refl e (signal-there signals name l)
  where
    of : (b : Bool) → is_for name 0 s ≡ b →
        cond b (Some s.literal) (literal_of signals name 0) ≡ Some l →
        (literal_of signals name 0 ≡ Some l →
        (r : Signal) × Contains signals r × (r.name ≡ name) × (r.literal ≡ l)) →
        (r : Signal) × Contains (s ∷ signals) r × (r.name ≡ name) × (r.literal ≡ l)
    of true own e behind =
        let (same, _) = and_parts _ _ own in
        (s, contains-here s signals, eqb-true s.name name same, ap (λ o. unwrap_or o 0) e)
    of false own e behind =
        let (r, there, same, is) = behind e in (r, contains-later s r signals there, same, is)

module _ (net strategy : Net) (m e : ℕ) (signal : ℕ → ℕ) (body : Tree) (signals : List Signal)
    (are : AreSignals (driven_for net strategy m e signal body)
    (fresh_names (name_count net e (atoms_of body))) (driven_body net e body) signals) where
  -- the literal of a name is that of its output
  shown-literal : (name : ℕ) → has_name (driven_body net e body) name ≡ true →
      unwrap_or (literal_of signals name 0) 0
      ≡ literal_at (outputs net strategy m e signal (atoms_of body)) name
  shown-literal name h = of (literal_of signals name 0) refl (are.every name h)
    where
      of : (o : Option ℕ) → literal_of signals name 0 ≡ o → is_some o ≡ true →
          unwrap_or o 0 ≡ literal_at (outputs net strategy m e signal (atoms_of body)) name
      of None e some = absurd (cc)
      of (Some l) found some =
          let (s, there, same, is) = signal-there signals name l found in
          let (_, own) = are.each s there in
          let P : ℕ → Type 0 = λ k.
          IsOnly (driven_for net strategy m e signal body)
          (name_at (fresh_names (name_count net e (atoms_of body))) k) s.literal in
          let output = only-output net strategy m e signal (atoms_of body) name
          (driven-below net e body name h) in
          sym is ∙ sym ((subst P same own).only _ output.has)

  pub seen-outputs : (word : Word) (words : Words) →
      ((name i : ℕ) → words name 0 i ≡ visible signals word name i) →
      SatisfiesAt endless words (driven_body net e body) 0
      ↔ SatisfiesAt endless (output_words net strategy (parts_of net strategy m e) signal
      (atoms_of body) word) (driven_body net e body) 0
  seen-outputs word words seen =
      let told : Words =
      output_words net strategy (parts_of net strategy m e) signal (atoms_of body) word in
      let same = named-same endless words told (driven_body net e body) (driven-bound net e body)
      (λ name i h. seen name i ∙ ap (literal_value (word i)) (shown-literal name h)) in
      let P : (ℕ → Type 0) → Type 0 = λ F. F 0 in
      (λ h. subst P same h, λ h. subst P (sym same) h)

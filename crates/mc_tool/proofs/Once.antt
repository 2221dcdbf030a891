-- The rules are settled: words ask one thing, files are one text, and a question comes to one answer.
use Rattle.std.proofs.Common.{◌≡◌, ℕ, zero, suc, Bool, false, List, [], ◌∷◌, sym, subst, ◌∙◌}
use Rattle.hy_formula.specs.Formulas.{Plain}
use Rattle.aig_net.specs.Nets.{Net}
use Rattle.hy_files.specs.Contents as contents
use Rattle.hy_files.specs.declared.fault.FileFault.{FileFault}
use Rattle.circuit_files.specs.Circuits.{IsCircuit, IsNoCircuit}
use Rattle.hy_words.specs.Words.{AreItems, GiveSame, Item}
use Rattle.hy_run.specs.Laws.{AgreeOrShort, AreSettled}
use Rattle.hy_run.specs.Names.{Text}
use Rattle.mc_tool.specs.Checking.{IsCheck}
use Rattle.mc_tool.specs.Driving.{IsDrive}
use Rattle.mc_tool.specs.Rules.{ComesTo, IsRefused, IsText, mc_rules, same}
use Rattle.mc_tool.specs.Words.{mc_syntax}
use Rattle.mc_tool.specs.declared.verdict.Question.{Question}
use Rattle.mc_tool.specs.declared.verdict.Question.TheVariants.{Check, CheckByStrategy}
use Rattle.mc_tool.proofs.Asking.{asks_once}
use Rattle.mc_tool.proofs.Checking.{Said, checks_agree}
use Rattle.mc_tool.proofs.Driving.{drives_agree}

module _ (one-reading : (words : List Text) (items others : List Item) → AreItems mc_syntax words items → AreItems mc_syntax words others → GiveSame mc_syntax items others)
    (formulas : (many : Bool) (quantifiers : ℕ) (old : List Text) (bytes : List ℕ) (formulas others : List Plain) (new later : List Text)
    → contents.IsText many quantifiers old bytes formulas new → contents.IsText many quantifiers old bytes others later → (formulas ≡ others) × (new ≡ later))
    (faults : (many : Bool) (quantifiers : ℕ) (old : List Text) (bytes : List ℕ) (a b : FileFault)
    → contents.IsRefused many quantifiers old bytes a → contents.IsRefused many quantifiers old bytes b → a ≡ b)
    (apart : (many : Bool) (quantifiers : ℕ) (old : List Text) (bytes : List ℕ) (formulas : List Plain) (new : List Text) (fault : FileFault)
    → contents.IsText many quantifiers old bytes formulas new → ¬ contents.IsRefused many quantifiers old bytes fault)
    (circuits : (bytes : List ℕ) (net other : Net) → IsCircuit bytes net → IsCircuit bytes other → net ≡ other)
    (circuit-faults : (bytes : List ℕ) (a b : FileFault) → IsNoCircuit bytes a → IsNoCircuit bytes b → a ≡ b)
    (circuit-apart : (bytes : List ℕ) (net : Net) (fault : FileFault) → IsCircuit bytes net → ¬ IsNoCircuit bytes fault) where
  -- ---- files

  circuit_once : (bytes : List ℕ) (old new later : List Text) → (net : Net) × IsCircuit bytes net × (new ≡ old)
      → (net : Net) × IsCircuit bytes net × (later ≡ old) → new ≡ later
  circuit_once bytes old new later (net, is, one) (other, also, two) = one ∙ sym two

  text_once : (k : ℕ) (old : List Text) (bytes : List ℕ) (new later : List Text) → IsText k old bytes new → IsText k old bytes later → new ≡ later
  text_once zero old bytes new later one two = circuit_once bytes old new later one two
  text_once (suc zero) old bytes new later (f, is) (g, also) = (formulas false 4 old bytes (f ∷ []) (g ∷ []) new later is also).1
  text_once (suc (suc k)) old bytes new later one two = circuit_once bytes old new later one two

  fault_once : (k : ℕ) (old : List Text) (bytes : List ℕ) (a b : FileFault) → IsRefused k old bytes a → IsRefused k old bytes b → a ≡ b
  fault_once zero old bytes a b one two = circuit-faults bytes a b one two
  fault_once (suc zero) old bytes a b one two = faults false 4 old bytes a b one two
  fault_once (suc (suc k)) old bytes a b one two = circuit-faults bytes a b one two

  never_both : (k : ℕ) (old : List Text) (bytes : List ℕ) (new : List Text) (fault : FileFault) → IsText k old bytes new → ¬ IsRefused k old bytes fault
  never_both zero old bytes new fault (net, is, one) refused = circuit-apart bytes net fault is refused
  never_both (suc zero) old bytes new fault (f, is) refused = apart false 4 old bytes (f ∷ []) new fault is refused
  never_both (suc (suc k)) old bytes new fault (net, is, one) refused = circuit-apart bytes net fault is refused

  -- ---- questions

  formula_once : (bytes : List ℕ) (f g : Plain) (names : List Text) → contents.IsFormula 4 [] bytes f names → contents.IsFormula 4 [] bytes g names → f ≡ g
  formula_once bytes f g names one two = let both = (formulas false 4 [] bytes (f ∷ []) (g ∷ []) names names one two).0 in cc

  comes_once : (question : Question) (files : List (List ℕ)) (names : List Text) (a b : Said) → ComesTo question files names a
      → ComesTo question files names b → AgreeOrShort mc_rules a b
  comes_once (Check ask proof) (one ∷ two ∷ []) names a b (net, f, first, second, is) (other, g, also, then, was) =
      let P : Net → Type 0 = λ n. IsCheck n names f ask a in
      let Q : Plain → Type 0 = λ h. IsCheck other names h ask a in
      checks_agree other names g ask a b (subst Q (formula_once two f g names second then) (subst P (circuits one net other first also) is)) was
  comes_once (CheckByStrategy ask) (one ∷ two ∷ three ∷ []) names a b (net, player, f, first, second, third, is) (other, more, g, also, then, last, was) =
      let P : Net → Type 0 = λ n. IsDrive n player names f ask a in
      let Q : Plain → Type 0 = λ h. IsDrive other player names h ask a in
      let U : Net → Type 0 = λ n. IsDrive other n names g ask a in
      drives_agree other more names g ask a b
      (subst U (circuits three player more third last) (subst Q (formula_once two f g names second then) (subst P (circuits one net other first also) is))) was
  comes_once _ _ names a b none also = absurd none

  pub mc_settled : AreSettled mc_rules
  mc_settled = record {
    command = asks_once one-reading;
    text = λ question. text_once;
    fault = λ question. fault_once;
    apart = λ question. never_both;
    answer = comes_once;
    same = same;
  }

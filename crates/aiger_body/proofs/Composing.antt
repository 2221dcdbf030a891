-- The outcome, stage after stage.
use Rattle.std.proofs.Common.{◌≡◌, ℕ, ◌*◌, true, false, cond, inl, inr, refl, sym, ◌∙◌, ap, subst, length, List, Option, Some, None}
use Rattle.std.proofs.lemmas.Bool.{cases_Bool}
use Rattle.aig_net.specs.declared.parts.NetParts.{NetParts}
use Rattle.aiger_body.specs.declared.error.AigerError.{AigerError}
use Rattle.aiger_body.specs.declared.error.AigerError.TheVariants.{Bad, Limit as PastLimit, Memory}
use Rattle.aiger_body.specs.declared.header.Header.{Header}
use Rattle.aig_order.specs.Firsts.{otherwise, first_some}
use Rattle.aiger_body.specs.Files.{counted, content, is_header}
use Rattle.aiger_body.specs.Symbols.{symbol_lines}
use Rattle.aiger_body.specs.Outcomes.{Outcome, Refusal, outcome, judged, circuit, after_header, numbers, of_line, of_number, of_uses, of_cycle, of_symbol}
use Rattle.aiger_body.specs.Answers.{Tells, Refuses, IsHeaderRead}
use Rattle.aiger_body.proofs.Stages.{outcome_headed, tells_nothing}
use Rattle.aiger_body.proofs.Known.{binary-uses}

pub tells_first : (o rest : Option Refusal) (e : AigerError) → Tells o e → Tells (otherwise o rest) e
tells_first o rest (Bad kind byte) tells = ap (λ x. otherwise x rest) tells
tells_first o rest (PastLimit l) tells = (ap (λ x. otherwise x rest) tells.0, tells.1)
tells_first o rest Memory tells = tt

pub tells_later : (o rest : Option Refusal) (e : AigerError) → o ≡ None → Tells rest e → Tells (otherwise o rest) e
tells_later o rest e none tells = let P : Option Refusal → Type 0 = λ x. Tells x e in subst P (sym (ap (λ x. otherwise x rest) none)) tells

pub refuses : (c : NetParts) (o rest : Option Refusal) (e : AigerError) (said : Outcome) → said ≡ judged c (otherwise o rest) → Tells o e → Refuses said e
refuses c o rest (Bad kind byte) said is tells = is ∙ ap (λ x. judged c (otherwise x rest)) tells
refuses c o rest (PastLimit l) said is tells = (is ∙ ap (λ x. judged c (otherwise x rest)) tells.0, tells.1)
refuses c o rest Memory said is tells = tt

regrouped : (a b c d : Option Refusal) → otherwise a (otherwise b (otherwise c d)) ≡ otherwise (otherwise a (otherwise b c)) d
regrouped (Some x) b c d = refl
regrouped None (Some x) c d = refl
regrouped None None c d = refl

abbrev cycle_count : Header → List ℕ → ℕ
cycle_count h bytes = length (content h bytes).gates

module _ (h : Header) (bytes : List ℕ) where
  abbrev in_lines : Option Refusal
  in_lines = first_some (counted h bytes) (of_line h bytes)

  abbrev in_numbers : Option Refusal
  in_numbers = first_some (numbers h) (of_number h bytes)

  abbrev in_uses : Option Refusal
  in_uses = first_some (counted h bytes) (of_uses h bytes)

  pub no_numbers : h.binary ≡ false → in_numbers ≡ None
  no_numbers form = ap (λ b. first_some (cond b (2 * h.ands) 0) (of_number h bytes)) form

  pub all_numbers : h.binary ≡ true → in_numbers ≡ first_some (2 * h.ands) (of_number h bytes)
  all_numbers form = ap (λ b. first_some (cond b (2 * h.ands) 0) (of_number h bytes)) form

  -- a fault in what lines use
  pub uses_tells : (e : AigerError) → is_header h ≡ true → in_lines ≡ None → Tells in_uses e → Tells (otherwise in_lines (otherwise in_numbers in_uses)) e
  uses_tells e large clear tells =
      elim (cases_Bool h.binary) [
        | inl form ↦ tells_nothing in_uses _ e (binary-uses h bytes form large clear) tells
        | inr form ↦ tells_later in_lines _ e clear (tells_later in_numbers in_uses e (no_numbers form) tells)
      ]

  abbrev in_cycles : Option Refusal
  in_cycles = first_some (cycle_count h bytes) (of_cycle h bytes)

  abbrev in_symbols : Option Refusal
  in_symbols = first_some (symbol_lines h bytes) (of_symbol h bytes)

  module _ (at : ℕ) (read : IsHeaderRead bytes h at) where
    -- the outcome behind the header
    pub headed : outcome bytes ≡ judged (circuit h bytes) (otherwise (otherwise in_lines (otherwise in_numbers in_uses)) (otherwise in_cycles in_symbols))
    headed =
        outcome_headed bytes (Some h) read.ended read.is
        ∙ ap (λ o. judged (circuit h bytes) (otherwise o (after_header h bytes))) read.clear
        ∙ ap (judged (circuit h bytes)) (regrouped in_lines in_numbers in_uses (otherwise in_cycles in_symbols))

    -- behind the content
    pub settled : in_lines ≡ None → in_numbers ≡ None → in_uses ≡ None → outcome bytes ≡ judged (circuit h bytes) (otherwise in_cycles in_symbols)
    settled a b c =
        headed ∙ ap (λ o. judged (circuit h bytes) (otherwise (otherwise o (otherwise in_numbers in_uses)) (otherwise in_cycles in_symbols))) a
        ∙ ap (λ o. judged (circuit h bytes) (otherwise (otherwise o in_uses) (otherwise in_cycles in_symbols))) b
        ∙ ap (λ o. judged (circuit h bytes) (otherwise o (otherwise in_cycles in_symbols))) c

    -- and behind the order
    pub ordered_left : in_lines ≡ None → in_numbers ≡ None → in_uses ≡ None → in_cycles ≡ None → outcome bytes ≡ judged (circuit h bytes) in_symbols
    ordered_left a b c d = settled a b c ∙ ap (λ o. judged (circuit h bytes) (otherwise o in_symbols)) d

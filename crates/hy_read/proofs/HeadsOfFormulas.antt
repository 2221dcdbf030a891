-- The quantifiers of a formula, one after another: those so far, and those that are left.
use Rattle.std.proofs.Common.{◌≡◌, ◌≢◌, ℕ, List, [], ◌∷◌, ◌++◌, ◌+◌, drop, refl, ap, sym, subst, ◌∙◌, append_assoc, append-nil}
use Rattle.hy_formula.specs.declared.prefix.Quant.{Quant}
use Rattle.hy_read.specs.declared.symbol.Symbol.TheVariants as signs
use denote.Ref.{Bor}
use Rattle.hy_read.specs.declared.token.Placed.{Placed}
use Rattle.hy_read.specs.declared.token.Token.{Token as Scanned}
use Rattle.hy_read.specs.declared.token.Token.TheVariants as scanned
use Rattle.hy_read.specs.Scanning.{blanks}
use Rattle.hy_read.specs.Grammar.{Quantifier, quantifier_tokens, quantifier_word}
use Rattle.hy_read.specs.Headings.{NoWord, quantified, quants_of}
use Rattle.hy_read.specs.Parses.{AreLeft}
use Rattle.hy_read.specs.Results.{variables_of}
use Rattle.hy_read.specs.Scans.{plain, Stands}
use Rattle.hy_read.specs.Tokens.{Token, symbol, variable}
use Rattle.hy_read.proofs.Once.{is-word, same-words, words-once}
use Rattle.hy_read.proofs.Stepping.{stands_left, none_left}

pub record IsHeadedSoFar (text : List ℕ) (at : ℕ) (quants : List Quant) (variables : List (List ℕ)) (qs : List Quantifier) (body : List Token) : Type 0 where
  pub more : List Quantifier
  pub quants_are : quants ++ quants_of more ≡ quants_of qs
  pub variables_are : variables ++ variables_of more ≡ variables_of qs
  pub left : AreLeft text at (quantifier_tokens more ++ body)

no_word_there : (q : Quant) (v : List ℕ) (rest body : List Token) → body ≡ quantified q v rest → NoWord body → ⊥
no_word_there q v rest body e none = subst (λ x. NoWord x) e none (is-word q)

-- one more quantifier
pub headed_more : (text : List ℕ) (at behind : ℕ) (quants : List Quant) (variables : List (List ℕ)) (qs : List Quantifier) (body : List Token) (quant : Quant) (bound : List ℕ) → NoWord body → ((tokens : List Token) → AreLeft text at tokens → (rest : List Token) × (tokens ≡ quantified quant bound rest) × AreLeft text behind rest) → IsHeadedSoFar text at quants variables qs body → IsHeadedSoFar text behind (quants ++ quant ∷ []) (variables ++ bound ∷ []) qs body
headed_more text at behind quants variables qs body quant bound none head h = through h.more h.quants_are h.variables_are h.left
  where
    through : (more : List Quantifier) → quants ++ quants_of more ≡ quants_of qs → variables ++ variables_of more ≡ variables_of qs → AreLeft text at (quantifier_tokens more ++ body) → IsHeadedSoFar text behind (quants ++ quant ∷ []) (variables ++ bound ∷ []) qs body
    through [] e f left =
        let (rest, is, there) = head body left in
        absurd (no_word_there quant bound rest body is none)
    through (q ∷ more) e f left =
        let (rest, is, there) = head (quantifier_tokens (q ∷ more) ++ body) left in
        let same = same-words (quantifier_word q.quant) (quantifier_word quant) q.bound bound (quantifier_tokens more ++ body) rest is in
        let quant_is : q.quant ≡ quant = words-once q.quant quant same.0 in
        record {
          more = more;
          quants_are = append_assoc quants (quant ∷ []) (quants_of more) ∙ ap (λ x. quants ++ x ∷ quants_of more) (sym quant_is) ∙ e;
          variables_are = append_assoc variables (bound ∷ []) (variables_of more) ∙ ap (λ x. variables ++ x ∷ variables_of more) (sym same.1) ∙ f;
          left = subst (λ x. AreLeft text behind x) (sym same.2) there;
        }

-- no other quantifier
pub headed_all : (text : List ℕ) (at : ℕ) (quants : List Quant) (variables : List (List ℕ)) (qs : List Quantifier) (body : List Token) → ((quant : Quant) (bound : List ℕ) (rest : List Token) → ¬ AreLeft text at (quantified quant bound rest)) → IsHeadedSoFar text at quants variables qs body → (quants ≡ quants_of qs) × (variables ≡ variables_of qs) × AreLeft text at body
headed_all text at quants variables qs body none h = through h.more h.quants_are h.variables_are h.left
  where
    through : (more : List Quantifier) → quants ++ quants_of more ≡ quants_of qs → variables ++ variables_of more ≡ variables_of qs → AreLeft text at (quantifier_tokens more ++ body) → (quants ≡ quants_of qs) × (variables ≡ variables_of qs) × AreLeft text at body
    through [] e f left = (sym (append-nil quants) ∙ e, sym (append-nil variables) ∙ f, left)
    through (q ∷ more) e f left = absurd (none q.quant q.bound (quantifier_tokens more ++ body) left)

-- ---- one token of a head

same_cons : (a b : Token) (xs ys : List Token) → a ∷ xs ≡ b ∷ ys → (a ≡ b) × (xs ≡ ys)
same_cons a b xs ys e = (cc, cc)

pub first_stands : (text : List ℕ) (at : ℕ) (t : Placed) (x : Token) (rest : List Token) → Stands text at t → AreLeft text at (x ∷ rest) → (plain t.token ≡ x) × AreLeft text t.behind rest
first_stands text at t x rest stands left =
    let (more, is, there) = stands_left text at t (x ∷ rest) stands left in
    let same = same_cons x (plain t.token) rest more is in
    (sym same.0, subst (λ y. AreLeft text t.behind y) (sym same.1) there)

pub first_missing : (text : List ℕ) (at : ℕ) (x : Token) (rest : List Token) → drop (at + blanks (drop at text)) text ≡ [] → AreLeft text at (x ∷ rest) → ⊥
first_missing text at x rest e left = let none = none_left text at (x ∷ rest) e left in cc

pub no_variable_there : (t : Scanned) (v : List ℕ) → ((x : Bor (List ℕ)) → t ≢ scanned.Variable x) → plain t ≢ variable v
no_variable_there (scanned.Symbol r) v none e = cc
no_variable_there (scanned.Variable x) v none e = none x refl
no_variable_there (scanned.Atom a x) v none e = cc
no_variable_there scanned.Nothing v none e = cc

pub head_stands : (text : List ℕ) (at : ℕ) (word name dot : Placed) (quant : Quant) (bound : List ℕ) → Stands text at word → plain word.token ≡ symbol (quantifier_word quant) → Stands text word.behind name → plain name.token ≡ variable bound → Stands text name.behind dot → plain dot.token ≡ symbol signs.Dot → (tokens : List Token) → AreLeft text at tokens → (rest : List Token) × (tokens ≡ quantified quant bound rest) × AreLeft text dot.behind rest
head_stands text at word name dot quant bound w wis n nis d dis tokens left =
    let (one, e, here) = stands_left text at word tokens w left in
    let (two, f, there) = stands_left text word.behind name one n here in
    let (three, g, behind) = stands_left text name.behind dot two d there in
    let third : two ≡ symbol signs.Dot ∷ three = g ∙ ap (λ t. t ∷ three) dis in
    let second : one ≡ variable bound ∷ symbol signs.Dot ∷ three = f ∙ ap (λ t. t ∷ two) nis ∙ ap (λ l. variable bound ∷ l) third in
    (three, e ∙ ap (λ t. t ∷ one) wis ∙ ap (λ l. symbol (quantifier_word quant) ∷ l) second, behind)

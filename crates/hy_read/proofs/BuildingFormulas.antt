-- The formulas of a text, built one after another.
use Rattle.std.proofs.Common.{◌≡◌, ℕ, zero, suc, max, ◌-◌, ◌<◌, ◌≤◌, List, [], ◌∷◌, ◌++◌, length, map, Bool, Option, Result, Ok, Err, ap, sym, subst, ◌∙◌, arith, append_assoc, append-nil}
use Rattle.std.proofs.lemmas.List.{length-map, map-append}
use Rattle.hy_formula.specs.Trees.{Tree, tree_of, height}
use Rattle.hy_formula.specs.declared.formula.Formula.{Formula}
use Rattle.hy_formula.specs.declared.prefix.Quant.{Quant}
use Rattle.hy_read.specs.declared.build_error.BuildError.{BuildError}
use Rattle.hy_read.specs.declared.build_error.BuildError.TheVariants.{TooHigh, Memory}
use Rattle.hy_read.specs.declared.formulas.Built.{Built}
use Rattle.hy_read.specs.declared.heading.Heading.{Heading}
use Rattle.hy_read.specs.declared.parsed.Follow.{Follow}
use Rattle.hy_read.specs.declared.parsed.Parsed.{Parsed}
use Rattle.hy_read.specs.declared.symbol.Symbol.{Symbol}
use Rattle.hy_read.specs.declared.symbol.Symbol.TheVariants as signs
use Rattle.hy_formula.specs.Formulas.{Plain}
use Rattle.hy_read.specs.Answers.{plain_of}
use Rattle.hy_formula.specs.Formulas.{plain_formula, plain_formulas}
use Rattle.hy_read.specs.Builds.{AreBuilt, IsFormulaBuilt, meaning_in, most_of_heights, most_of_quantifiers}
use Rattle.hy_read.specs.Grammar.{AreFormulas, IsFormula, Read, loosest}
use Rattle.hy_read.specs.Headings.{IsHeading, quants_of}
use Rattle.hy_read.specs.Parses.{AreLeft, Builds, IsBuilt, IsFollowed, Stops, meaning}
use Rattle.hy_read.specs.Results.{most_open, variables_of}
use Rattle.hy_read.specs.Tokens.{Token, symbol}
use Rattle.hy_read.specs.Within.{Within}
use Rattle.hy_read.proofs.Once.{body-word}
use Rattle.hy_read.proofs.Parens.{formula-within}

-- ---- one formula

-- the heading of a formula
pub record HeadOf (text : List ℕ) (h : Heading) (f : Read) (body : List Token) : Type 0 where
  pub quants : h.quants.items ≡ quants_of f.quantifiers
  pub variables : map (λ v. v.now) h.variables.items ≡ variables_of f.quantifiers
  pub left : AreLeft text h.at body

pub head_of : (o : Option (List (List ℕ))) (text : List ℕ) (at : ℕ) (h : Heading) (f : Read) (tokens rest : List Token) → IsHeading text at h → AreLeft text at tokens → (k : IsFormula (meaning_in o) f tokens rest) → HeadOf text h f k.body
head_of o text at h f tokens rest heading left k =
    let (quants, variables, behind) = heading f.quantifiers k.body (subst (λ x. AreLeft text at x) k.split left) (body-word k.derived) in
    record { quants = quants; variables = variables; left = behind }

-- so many quantifiers
pub head_count : (text : List ℕ) (h : Heading) (f : Read) (body : List Token) → HeadOf text h f body → length h.quants.items ≡ length f.quantifiers
head_count text h f body head = ap length head.quants ∙ length-map f.quantifiers (λ q. q.quant)

-- what is built of its body
pub body_built : (o : Option (List (List ℕ))) (text : List ℕ) (h : Heading) (f : Read) (tokens rest : List Token) (variables : List (List ℕ)) (r : Result Parsed BuildError) → (k : IsFormula (meaning_in o) f tokens rest) → HeadOf text h f k.body → variables ≡ map (λ v. v.now) h.variables.items → most_open zero tokens ≤ 200 → Stops loosest rest → ((body : List Token) → AreLeft text h.at body → Builds (meaning o variables) text 200 loosest 200 body r) → IsBuilt text 200 f.tree rest r
body_built o text h f tokens rest variables r k head same low stops built =
    let within = (formula-within (meaning_in o) 200 f tokens rest k low).0 in
    let moved = subst (λ vs. Within (meaning o vs) 200 loosest k.body f.tree rest) (sym (same ∙ head.variables)) within in
    built k.body head.left f.tree rest moved stops

pub formula_refused : (text : List ℕ) (f : Read) (rest : List Token) (e : BuildError) → IsBuilt text 200 f.tree rest (Err e) → IsFormulaBuilt text f rest (Err e)
formula_refused text f rest TooHigh h = h
formula_refused text f rest Memory h = tt

abbrev plain : List Quant → Tree → Plain
plain prefix body = record { prefix = prefix; body = body }

pub formula_made : (text : List ℕ) (h : Heading) (f : Read) (body rest : List Token) (p : Parsed) (prefix : List Quant) → HeadOf text h f body → IsBuilt text 200 f.tree rest (Ok p) → p.height ≤ 200 → prefix ≡ h.quants.items → (plain prefix (tree_of p.body) ≡ plain_of f) × (height f.tree ≤ 200) × IsFollowed text p.follow rest
formula_made text h f body rest p prefix head parsed low is =
    let counted = parsed.counted in (
      ap (λ x. plain x (tree_of p.body)) (is ∙ head.quants) ∙ ap (λ x. plain (quants_of f.quantifiers) x) parsed.is,
      omega arith,
      parsed.followed,
    )

-- ---- all formulas

-- These formulas stand in the text from a place on, if there are any.
abbrev StandAt : Option (List (List ℕ)) → Bool → List ℕ → ℕ → List Read → Type 0
StandAt o many text at [] = Unit {0}
StandAt o many text at (f ∷ fs) =
    (tokens : List Token) × AreLeft text at tokens × AreFormulas (meaning_in o) many (f ∷ fs) tokens × (most_open zero tokens ≤ 200)

-- Some formulas have been built, and these are left.
pub record Progress (o : Option (List (List ℕ))) (many : Bool) (text : List ℕ) (at : ℕ) (formulas : List Formula) (left : ℕ) (fs : List Read) : Type 0 where
  pub more : List Read
  pub made : plain_formulas formulas ++ map plain_of more ≡ map plain_of fs
  pub count : left ≡ length more
  pub low : most_of_heights more ≤ 200 → most_of_heights fs ≤ 200
  pub high : 200 < most_of_heights more → 200 < most_of_heights fs
  pub few : most_of_quantifiers more ≤ 8
  pub there : StandAt o many text at more

-- the next formula, and how what is behind it is found
pub record NextOf (o : Option (List (List ℕ))) (many : Bool) (text : List ℕ) (at : ℕ) (formulas : List Formula) (fs : List Read) : Type 0 where
  pub f : Read
  pub others : List Read
  pub made : plain_formulas formulas ++ plain_of f ∷ map plain_of others ≡ map plain_of fs
  pub tokens : List Token
  pub rest : List Token
  pub left : AreLeft text at tokens
  pub is : IsFormula (meaning_in o) f tokens rest
  pub few : length f.quantifiers ≤ 8
  pub opens : most_open zero tokens ≤ 200
  pub stops : Stops loosest rest
  pub behind : (follow : Follow) (next : ℕ) → IsFollowed text follow rest → ((s : Symbol) (more : List Token) → IsFollowed text follow (symbol s ∷ more) → AreLeft text next more) → StandAt o many text next others
  pub few_others : most_of_quantifiers others ≤ 8
  pub low : height f.tree ≤ 200 → most_of_heights others ≤ 200 → most_of_heights fs ≤ 200
  pub high : 200 < max (height f.tree) (most_of_heights others) → 200 < most_of_heights fs

pub next_of : (o : Option (List (List ℕ))) (many : Bool) (text : List ℕ) (at : ℕ) (formulas : List Formula) (left : ℕ) (fs : List Read) → 0 < left → (p : Progress o many text at formulas left fs) → (n : NextOf o many text at formulas fs) × (left ≡ suc (length n.others))
next_of o many text at formulas left fs some p = through p.more p.made p.count p.low p.high p.few p.there
  where
    through : (more : List Read) → plain_formulas formulas ++ map plain_of more ≡ map plain_of fs → left ≡ length more → (most_of_heights more ≤ 200 → most_of_heights fs ≤ 200) → (200 < most_of_heights more → 200 < most_of_heights fs) → most_of_quantifiers more ≤ 8 → StandAt o many text at more → (n : NextOf o many text at formulas fs) × (left ≡ suc (length n.others))
    through [] made count low high few there = absurd (omega arith)
    through (f ∷ []) made count low high few (tokens, here, is, opens) = (
      record {
        f = f;
        others = [];
        made = made;
        tokens = tokens;
        rest = [];
        left = here;
        is = is;
        few = omega arith;
        opens = opens;
        stops = tt;
        behind = λ follow next followed past. tt;
        few_others = omega arith;
        low = λ h k. low (omega arith);
        high = λ h. high (omega arith);
      },
      count,
    )
    through (f ∷ g ∷ gs) made count low high few (tokens, here, (m, (rest, is, are)), opens) =
        let tail = (formula-within (meaning_in o) 200 f tokens (symbol signs.Semicolon ∷ rest) is opens).1 in (
          record {
            f = f;
            others = g ∷ gs;
            made = made;
            tokens = tokens;
            rest = symbol signs.Semicolon ∷ rest;
            left = here;
            is = is;
            few = omega arith;
            opens = opens;
            stops = tt;
            behind = λ follow next followed past. (rest, past signs.Semicolon rest followed, are, omega arith);
            few_others = omega arith;
            low = λ h k. low (omega arith);
            high = λ h. high (omega arith);
          },
          count,
        )

-- one more formula is built
pub progress_more : (o : Option (List (List ℕ))) (many : Bool) (text : List ℕ) (at next : ℕ) (formulas : List Formula) (left : ℕ) (fs : List Read) (n : NextOf o many text at formulas fs) (b : Built) → left ≡ suc (length n.others) → IsFormulaBuilt text n.f n.rest (Ok b) → ((s : Symbol) (more : List Token) → IsFollowed text b.follow (symbol s ∷ more) → AreLeft text next more) → Progress o many text next (formulas ++ b.formula ∷ []) (left - 1) fs
progress_more o many text at next formulas left fs n b count (same, low, followed) past = record {
  more = n.others;
  made = ap (λ x. x ++ map plain_of n.others) (map-append plain_formula formulas (b.formula ∷ []) ∙ ap (λ x. plain_formulas formulas ++ x ∷ []) same)
      ∙ append_assoc (plain_formulas formulas) (plain_of n.f ∷ []) (map plain_of n.others) ∙ n.made;
  count = omega arith;
  low = λ h. n.low low h;
  high = λ h. n.high (omega arith);
  few = n.few_others;
  there = n.behind b.follow next followed past;
}

pub progress_refused : (o : Option (List (List ℕ))) (many : Bool) (text : List ℕ) (at : ℕ) (formulas : List Formula) (fs : List Read) (n : NextOf o many text at formulas fs) (e : BuildError) → IsFormulaBuilt text n.f n.rest (Err e) → AreBuilt fs (Err e)
progress_refused o many text at formulas fs n TooHigh h = n.high (omega arith)
progress_refused o many text at formulas fs n Memory h = tt

pub progress_all : (o : Option (List (List ℕ))) (many : Bool) (text : List ℕ) (at : ℕ) (formulas : List Formula) (left : ℕ) (fs : List Read) → left ≡ 0 → Progress o many text at formulas left fs → AreBuilt fs (Ok formulas)
progress_all o many text at formulas left fs none p = through p.more p.made p.count p.low
  where
    through : (more : List Read) → plain_formulas formulas ++ map plain_of more ≡ map plain_of fs → left ≡ length more → (most_of_heights more ≤ 200 → most_of_heights fs ≤ 200) → AreBuilt fs (Ok formulas)
    through [] made count low = (sym (append-nil (plain_formulas formulas)) ∙ made, low (omega arith))
    through (f ∷ more) made count low = absurd (omega arith)

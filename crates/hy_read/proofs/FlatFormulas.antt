-- The heights of formulas do not depend on what their atoms mean.
use Rattle.std.proofs.Common.{◌≡◌, ℕ, suc, max, List, [], ◌∷◌, length, map, Bool, None, refl, ap, ◌∙◌}
use Rattle.hy_formula.specs.Trees.{height}
use Rattle.hy_read.specs.declared.symbol.Symbol.TheVariants as signs
use Rattle.hy_read.specs.Builds.{meaning_in, most_of_heights, most_of_quantifiers}
use Rattle.hy_read.specs.Grammar.{AreFormulas, IsFormula, Read}
use Rattle.hy_read.specs.Results.{Bound, IsBound, variables_of}
use Rattle.hy_read.specs.Tokens.{Token, symbol}
use Rattle.hy_read.proofs.Heights.{flatten}

record FlatOf (f : Read) (tokens rest : List Token) : Type 0 where
  pub g : Read
  pub is : IsFormula (meaning_in None) g tokens rest
  pub quantifiers : length g.quantifiers ≡ length f.quantifiers
  pub tall : height g.tree ≡ height f.tree

flat_formula : (names : List (List ℕ)) (f : Read) (tokens rest : List Token) → IsFormula (Bound names) f tokens rest → FlatOf f tokens rest
flat_formula names f tokens rest k =
    let (b, d, e) = flatten (IsBound names (variables_of f.quantifiers)) (λ n v x h. ap height h.is_atom) k.derived in
    record {
      g = record { quantifiers = f.quantifiers; tree = b };
      is = record { some = k.some; body = k.body; split = k.split; derived = d };
      quantifiers = refl;
      tall = Rattle.std.proofs.Common.sym e;
    }

-- The same text with `true` for each atom.
pub record FlatText (many : Bool) (fs : List Read) (tokens : List Token) : Type 0 where
  pub gs : List Read
  pub are : AreFormulas (meaning_in None) many gs tokens
  pub long : length gs ≡ length fs
  pub quantifiers : most_of_quantifiers gs ≡ most_of_quantifiers fs
  pub tall : most_of_heights gs ≡ most_of_heights fs

pub flat_text : (names : List (List ℕ)) (many : Bool) (fs : List Read) (tokens : List Token) → AreFormulas (Bound names) many fs tokens → FlatText many fs tokens
flat_text names many [] tokens are = absurd are
flat_text names many (f ∷ []) tokens are =
    let g = flat_formula names f tokens [] are in
    record {
      gs = g.g ∷ [];
      are = g.is;
      long = refl;
      quantifiers = ap (λ n. max n 0) g.quantifiers;
      tall = ap (λ n. max n 0) g.tall;
    }
flat_text names many (f ∷ f2 ∷ fs) tokens (m, (rest, is, are)) =
    let g = flat_formula names f tokens (symbol signs.Semicolon ∷ rest) is in
    let more = flat_text names many (f2 ∷ fs) rest are in
    through g more.gs more.are more.long more.quantifiers more.tall
  where
    through : (g : FlatOf f tokens (symbol signs.Semicolon ∷ rest)) (gs : List Read) → AreFormulas (meaning_in None) many gs rest → length gs ≡ length (f2 ∷ fs) → most_of_quantifiers gs ≡ most_of_quantifiers (f2 ∷ fs) → most_of_heights gs ≡ most_of_heights (f2 ∷ fs) → FlatText many (f ∷ f2 ∷ fs) tokens
    through g [] are long quantified tall = absurd are
    through g (h ∷ hs) are long quantified tall = record {
      gs = g.g ∷ h ∷ hs;
      are = (m, (rest, g.is, are));
      long = ap suc long;
      quantifiers = ap (λ n. max n (most_of_quantifiers (h ∷ hs))) g.quantifiers ∙ ap (λ n. max (length f.quantifiers) n) quantified;
      tall = ap (λ n. max n (most_of_heights (h ∷ hs))) g.tall ∙ ap (λ n. max (height f.tree) n) tall;
    }

-- A printed formula is read, and it is what was printed.
use Rattle.std.proofs.Common.{◌≡◌, ℕ, ◌^◌, ◌<◌, ◌≤◌, Bool, if◌then◌else◌, IsTrue, List, [], ◌∷◌, ◌++◌, length, map, Some, None, refl, sym, ap, subst, ◌∙◌, append-nil, arith}
use Rattle.std.proofs.lemmas.Bool.{le-ltb}
use Rattle.std.proofs.lemmas.List.Elements.{All-head}
use Rattle.hy_formula.specs.Names.{are_distinct}
use Rattle.hy_text.specs.Names.{AreNames}
use Rattle.hy_formula.specs.Formulas.{Plain}
use Rattle.hy_read.specs.Answers.{Answers, plain_of, read_as, tokens_of}
use Rattle.hy_read.specs.Grammar.{AreFormulas, IsFormula, Quantifier, Read, loosest, quantifier_tokens}
use Rattle.hy_read.specs.Printing.{printed, printed_body}
use Rattle.hy_read.specs.Readings.{IsReading}
use Rattle.hy_read.specs.Results.{Bound, Count, IsBound, Reads, count_of, first_past, in_order, most, names_of, taken, variables_of}
use Rattle.hy_read.specs.Tokens.{Token}
use Rattle.hy_read.proofs.PrintedTokens.{Scans, printed_heads, printed_tokens, scan_end, written_body, written_quantifiers}
use Rattle.hy_read.proofs.ReadFormulas.{AreFew, taken_of, distinct_names, few_names, good_names, all_readings}
use Rattle.hy_read.proofs.PrintedTrees.{derived, heads_long, heads_quants, lifted, opens_body, opens_heads}
use Rattle.hy_read.proofs.PrintedNames.{heads_names, names_derived, names_kept_by, names_printed, tree_names}

none-one : (limit count : Count → ℕ) (c : Count) (cs : List Count) → count c ≤ limit c → first_past limit count cs ≡ None → first_past limit count (c ∷ cs) ≡ None
none-one limit count c cs le none = ap (λ b. if b then Some c else first_past limit count cs) (le-ltb (limit c) (count c) le) ∙ none

few_none : (limit count : Count → ℕ) (cs : List Count) → AreFew limit count cs → first_past limit count cs ≡ None
few_none limit count [] few = refl
few_none limit count (c ∷ cs) few = none-one limit count c cs few.0 (few_none limit count cs few.1)

module _ (limit : ℕ) (old table : List (List ℕ)) (f : Plain) (small : limit < 2 ^ 64) (are : AreNames table) (distinct : IsTrue (are_distinct table)) (few : length table ≤ 64) (reading : IsReading limit (length table) f) where
  abbrev heads : List Quantifier
  heads = printed_heads 0 f.prefix

  abbrev body : List Token
  body = printed_tokens table f.body ++ []

  abbrev tokens : List Token
  tokens = quantifier_tokens heads ++ body

  abbrev formula : Read
  formula = record { quantifiers = heads; tree = f.body }

  short : length f.prefix < 2 ^ 64
  short = let less = reading.few in omega arith

  printed_scans : Scans (printed table f) tokens
  printed_scans =
      let less = short in
      let all : Scans (printed_body table f.body ++ []) body = written_body table are (length f.prefix) short f.body (reading.named, reading.bound) [] [] (record { word = refl; plain = refl }) scan_end in
      let here : Scans (printed_body table f.body) body = subst (λ l. Scans l body) (append-nil (printed_body table f.body)) all in
      written_quantifiers 0 f.prefix (omega arith) (printed_body table f.body) body here

  is_formula : IsFormula (Bound table) formula tokens []
  is_formula =
      let long = heads_long 0 f.prefix in
      let some = reading.some in
      record {
        some = omega arith;
        body = body;
        split = refl;
        derived = lifted (IsBound table (variables_of heads)) loosest (derived table distinct f.prefix short f.body (reading.named, reading.bound) []);
      }

  printed_names : names_of old tokens ≡ tree_names table f.body old
  printed_names = heads_names heads body old ∙ names_printed table f.body old []

  module _ (named : tree_names table f.body old ≡ table) where
    counts : AreFew (most limit) (count_of old tokens (formula ∷ [])) in_order
    counts =
        let long = heads_long 0 f.prefix in
        let less = reading.few in
        let low = reading.low in
        let opens = opens_heads heads body 0 in
        let inner = opens_body table f.body 0 [] in
        let known : length (names_of old tokens) ≡ length table = ap length (printed_names ∙ named) in
        (omega arith, (omega arith, (omega (arith, opens, inner), (omega arith, (omega arith, tt)))))

    taken_tokens : (ts : List Token) → ts ≡ tokens → (again : Bool) → Reads again limit old ts (taken (formula ∷ []) table)
    taken_tokens ts e again =
        let known : names_of old tokens ≡ table = printed_names ∙ named in
        let bound : AreFormulas (Bound (names_of old tokens)) again (formula ∷ []) tokens = subst (λ x. IsFormula (Bound x) formula tokens []) (sym known) is_formula in
        subst (λ l. Reads again limit old l (taken (formula ∷ []) table)) (sym e) (bound, few_none (most limit) (count_of old tokens (formula ∷ [])) in_order counts, sym known)

    pub printed_answers : (again : Bool) → Answers again limit old (printed table f) (read_as (f ∷ []) table)
    printed_answers again =
        let (spans, split, is) = printed_scans 0 in
        record {
          spans = spans;
          result = taken (formula ∷ []) table;
          split = split;
          reads = taken_tokens (tokens_of spans) is again;
          is = ap (λ p. read_as (record { prefix = p; body = f.body } ∷ []) table) (sym (heads_quants 0 f.prefix));
        }

-- over the names that are there
pub printed_over : (again : Bool) (limit : ℕ) (table : List (List ℕ)) (f : Plain) → limit < 2 ^ 64 → AreNames table → IsTrue (are_distinct table) → length table ≤ 64 → IsReading limit (length table) f → Answers again limit table (printed table f) (read_as (f ∷ []) table)
printed_over again limit table f small are distinct few reading =
    printed_answers limit table table f small are distinct few reading (names_kept_by table distinct f.body reading.named) again

-- ---- over the names of before

one_read : (many : Bool) (old table : List (List ℕ)) (f : Plain) (fs : List Read) (tokens : List Token) → f ∷ [] ≡ map plain_of fs → AreFormulas (Bound table) many fs tokens → names_of old tokens ≡ tree_names table f.body old
one_read many old table f [] tokens e are = absurd are
one_read many old table f (r ∷ []) tokens e are =
    let same : f ≡ plain_of r = cc in
    ap (names_of old) are.split ∙ heads_names r.quantifiers are.body old ∙ names_derived table (variables_of r.quantifiers) are.derived old
    ∙ ap (λ (x : Plain). tree_names table x.body old) (sym same)
one_read many old table f (r ∷ q ∷ fs) tokens e are = absurd cc

pub printed_again : (many again : Bool) (limit : ℕ) (old : List (List ℕ)) (bytes : List ℕ) (f : Plain) (table : List (List ℕ)) → Answers many limit old bytes (read_as (f ∷ []) table) → limit < 2 ^ 64 → AreNames old → IsTrue (are_distinct old) → Answers again limit old (printed table f) (read_as (f ∷ []) table)
printed_again many again limit old bytes f table a small are distinct =
    let t = taken_of many limit old bytes (f ∷ []) table a in
    let reading : IsReading limit (length table) f = All-head (IsReading limit (length table)) f [] (all_readings many limit old bytes (f ∷ []) table a) in
    printed_answers limit old table f small (good_names many limit old bytes (f ∷ []) table a are) (distinct_names many limit old bytes (f ∷ []) table a distinct) (few_names many limit old bytes (f ∷ []) table a) reading
    (sym (one_read many old table f t.reads (tokens_of t.spans) t.formulas_are t.are) ∙ sym t.table_is) again

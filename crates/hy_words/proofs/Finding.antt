-- From the answer of the parser to what is found in the words.
use Rattle.std.proofs.Common.{◌≡◌, ◌≢◌, ◌≤◌, inl, inr, length, List, [], ◌∷◌, Option, Some, None, IfSome, IfNone, refl, sym, subst, ◌∙◌}
use Rattle.std.specs.Prelude.{String}
use Rattle.std.specs.Bool.{IsTrue}
use Rattle.std.specs.List.{list_all}
use Rattle.std.specs.Str.{IsUtf8}
use Rattle.std.proofs.lemmas.Str.{IsUtf8-string_bytes}
use Rattle.clap.specs.Walk.{rows_of}
use Rattle.clap.specs.Matches.{found_of}
use Rattle.clap.specs.Simple.{matches_of}
use Rattle.clap.specs.Faults.{fault_of}
use Rattle.clap.specs.Kinds.{HasKind, IsAmong, Kinds}
use Rattle.clap.specs.Values.{kind_of}
use Rattle.clap.specs.declared.error.Error.{Error}
use Rattle.clap.specs.declared.error.kind.ErrorKind.TheVariants.{OutOfMemory}
use Rattle.hy_formula.specs.Quantifiers.{Each}
use Rattle.hy_words.specs.declared.found.Found.{Found}
use Rattle.hy_words.specs.Found.{AreProper, Tells, found_value}
use Rattle.hy_words.specs.Parsers.{is_syntax, parser_of}
use Rattle.hy_words.specs.Words.{AreItems, HasNoItems, IsProper, Item, Syntax, Text, given_in, is_filled, is_value, texts}
use Rattle.hy_words.proofs.Names.{fine}
use Rattle.hy_words.proofs.Telling.{parsed, taken, tells}

pub texts_utf8 : {Z : Type 0} (words : List (String Z)) → Each IsUtf8 (texts words)
texts_utf8 [] = tt
texts_utf8 (word ∷ words) = (IsUtf8-string_bytes word, texts_utf8 words)

-- Values that are the same are values alike.
values_alike : (names : List Text) (a b : Text → List Text) → Each (λ name. a name ≡ b name) names
    → list_all (λ name. list_all is_value (a name)) names ≡ list_all (λ name. list_all is_value (b name)) names
values_alike [] a b same = refl
values_alike (name ∷ names) a b (first, rest) = rw (first, values_alike names a b rest) refl

-- What the matches of words tell.
module _ (syntax : Syntax) (is : IsTrue (is_syntax syntax)) (words : List Text) (found : Found)
    (same : rows_of (found_of found.matches) ≡ matches_of (parser_of syntax) words) where
  -- Items of which nothing is refused are what was found, and what was found is proper.
  told : (items : List Item) → AreItems syntax words items → Tells syntax items found
  told items (says, proper) = tells syntax items found _ same proper.once (taken syntax (fine syntax is) words items says proper).1

  items_proper : (items : List Item) → Tells syntax items found → AreProper syntax found → ((name : Text) → length (given_in name items) ≤ 1)
      → IsProper syntax items
  items_proper items tells proper once = record {
    once = once;
    files = subst (λ names. IsTrue (list_all is_filled names)) (sym tells.files) proper.0;
    values = values_alike syntax.options (λ name. given_in name items) (found_value found) tells.options ∙ proper.1;
  }

  found_proper : (items : List Item) → Tells syntax items found → IsProper syntax items → AreProper syntax found
  found_proper items tells proper = (
    subst (λ names. IsTrue (list_all is_filled names)) tells.files proper.files,
    sym (values_alike syntax.options (λ name. given_in name items) (found_value found) tells.options) ∙ proper.values,
  )

  pub found_is : (out : Option Found) → Each IsUtf8 words → fault_of (parser_of syntax) words ≡ []
      → IfSome out (λ f. (f ≡ found) × AreProper syntax found) → IfSome out (λ f. (items : List Item) × AreItems syntax words items)
  found_is None utf8 passes kept = tt
  found_is (Some f) utf8 passes (e, proper) =
      let (items, says, once, rows) = parsed syntax (fine syntax is) words utf8 passes in
      (items, (says, items_proper items (tells syntax items found _ same once rows) proper once))

  pub found_told : (out : Option Found) → IfSome out (λ f. (f ≡ found) × AreProper syntax found)
      → IfSome out (λ f. (items : List Item) → AreItems syntax words items → Tells syntax items f)
  found_told None kept = tt
  found_told (Some f) (e, proper) = λ items are. subst (Tells syntax items) (sym e) (told items are)

  pub found_none : (out : Option Found) → IfNone out (¬ AreProper syntax found) → IfNone out (HasNoItems syntax words)
  found_none (Some f) none = tt
  found_none None none = λ items are. none (found_proper items (told items are) are.1)

among-none : (e : Error) (kinds : Kinds) → kinds ≡ [] → kind_of e ≢ OutOfMemory → HasKind kinds e → ⊥
among-none e kinds empty other (inl memory) = other memory
among-none e kinds empty other (inr among) = let P : Kinds → Type 0 = λ ks. IsAmong (kind_of e) ks in subst P empty among

-- Words that the parser refuses, for another cause than memory, are no items.
pub refused_none : (syntax : Syntax) → IsTrue (is_syntax syntax) → (words : List Text) (e : Error) → HasKind (fault_of (parser_of syntax) words) e
    → kind_of e ≢ OutOfMemory → HasNoItems syntax words
refused_none syntax is words e kinds other = λ items (says, proper). among-none e _ (taken syntax (fine syntax is) words items says proper).0 other kinds

pub none_of : (found : Option Found) (P : Type 0) → found ≡ None → P → IfNone found P
none_of None P e p = p
none_of (Some f) P e p = tt

-- What rows hold of items.
use Rattle.std.proofs.Common.{◌≡◌, ◌≤◌, Bool, true, false, cond, List, [], ◌∷◌, ◌++◌, length, Option, Some, None, is_some, refl, sym, ap, subst, ◌∙◌, arith, true≢false, append-nil}
use Rattle.std.specs.Str.{bytes_eq}
use Rattle.std.proofs.lemmas.Grind.{flat_map-append}
use Rattle.clap.specs.Walk.{Row, all_of, with_values, without, has_row}
use Rattle.clap.specs.declared.builder.value_parser.Reading.{Reading}
use Rattle.clap.specs.declared.parser.matches.ValueSource.{ValueSource}
use Rattle.hy_base.proofs.Truths.{same-bytes, bytes-themselves}
use Rattle.hy_words.specs.Words.{Text, Item, file, item_files, item_gives, files_in, given_in}
use Rattle.hy_words.specs.Parsers.{files_name}
use Rattle.hy_words.proofs.Lookups.{more, given_values, without_none, row_there}

-- values, where there are some
abbrev pub held : List Text → Option (List Text)
held [] = None
held (v ∷ vs) = Some (v ∷ vs)

held-more : (olds : List Text) (v : Text) → more (held olds) (v ∷ []) ≡ held (olds ++ v ∷ [])
held-more [] v = refl
held-more (w ∷ olds) v = refl

held-none : (olds : List Text) → held olds ≡ None → olds ≡ []
held-none [] e = refl
held-none (v ∷ olds) e = absurd cc

-- The rows hold what the items give, and each name is given at most once.
pub record Holds (rows : List Row) (items : List Item) : Type 0 where
  pub files : all_of files_name rows ≡ held (files_in items)
  pub named : (id : Text) → bytes_eq files_name id ≡ false → all_of id rows ≡ held (given_in id items)
  pub once : (id : Text) → length (given_in id items) ≤ 1

pub nothing_holds : Holds [] []
nothing_holds = record { files = refl; named = λ id e. refl; once = λ id. omega arith }

pub given-more : (id : Text) (items : List Item) (i : Item) → given_in id (items ++ i ∷ []) ≡ given_in id items ++ item_gives id i
given-more id items i = flat_map-append (item_gives id) items (i ∷ []) ∙ ap (λ vs. given_in id items ++ vs) (append-nil (item_gives id i))

files-more : (items : List Item) (i : Item) → files_in (items ++ i ∷ []) ≡ files_in items ++ item_files i
files-more items i = flat_map-append item_files items (i ∷ []) ∙ ap (λ vs. files_in items ++ vs) (append-nil (item_files i))

row-none : (id : Text) (rows : List Row) → has_row id rows ≡ false → all_of id rows ≡ None
row-none id rows e = by (all_of id rows) refl
  where
    by : (o : Option (List Text)) → all_of id rows ≡ o → o ≡ None
    by None f = refl
    by (Some vs) f = absurd (true≢false (sym (row_there id rows ∙ ap is_some f) ∙ e))

not-the-other : (a b : Text) → bytes_eq a b ≡ false → bytes_eq b a ≡ false
not-the-other a b e = by (bytes_eq b a) refl
  where
    by : (t : Bool) → bytes_eq b a ≡ t → t ≡ false
    by false f = refl
    by true f = absurd (true≢false (sym (bytes-themselves a) ∙ ap (λ n. bytes_eq a n) (sym (same-bytes b a f)) ∙ e))

module _ (rows : List Row) (items : List Item) (holds : Holds rows items) (how : Reading) (s : ValueSource) (v : Text) where
  -- A name that was not given yet is given a value.
  module _ (name : Text) (i : Item) (gives : (id : Text) → item_gives id i ≡ cond (bytes_eq name id) (v ∷ []) []) (silent : item_files i ≡ [])
      (other : bytes_eq files_name name ≡ false) (new : has_row name rows ≡ false) where
    not-given : given_in name items ≡ []
    not-given = held-none (given_in name items) (sym (holds.named name other) ∙ row-none name rows new)

    pub named-more : Holds (with_values name how s (v ∷ []) (without name rows)) (items ++ i ∷ [])
    named-more = rw (without_none name rows new) record {
      files = rw (given_values name files_name how s (v ∷ []) rows, not-the-other files_name name other, files-more items i, silent, append-nil (files_in items)) holds.files;
      named = λ id free. rw (given_values name id how s (v ∷ []) rows, given-more id items i, gives id) (by id (bytes_eq name id) free);
      once = λ id. rw (given-more id items i, gives id) (few id (bytes_eq name id) refl);
    }
      where
        by : (id : Text) (b : Bool) → bytes_eq files_name id ≡ false → cond b (more (all_of id rows) (v ∷ [])) (all_of id rows) ≡ held (given_in id items ++ cond b (v ∷ []) [])
        by id true free = ap (λ o. more o (v ∷ [])) (holds.named id free) ∙ held-more (given_in id items) v
        by id false free = holds.named id free ∙ ap held (sym (append-nil (given_in id items)))

        few : (id : Text) (b : Bool) → bytes_eq name id ≡ b → length (given_in id items ++ cond b (v ∷ []) []) ≤ 1
        few id true e = let P : Text → Type 0 = λ n. length (given_in n items ++ v ∷ []) ≤ 1 in subst P (same-bytes name id e) (rw not-given (omega arith))
        few id false e = rw (append-nil (given_in id items)) (holds.once id)

  -- One more name of a file.
  pub file-more : Holds (with_values files_name how s (v ∷ []) rows) (items ++ file v ∷ [])
  file-more = record {
    files = rw (given_values files_name files_name how s (v ∷ []) rows, files-more items (file v)) (ap (λ o. more o (v ∷ [])) holds.files ∙ held-more (files_in items) v);
    named = λ id free. rw (given_values files_name id how s (v ∷ []) rows, free, given-more id items (file v), append-nil (given_in id items)) (holds.named id free);
    once = λ id. rw (given-more id items (file v), append-nil (given_in id items)) (holds.once id);
  }

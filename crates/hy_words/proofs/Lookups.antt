-- What the rows of matches hold, by name, and the arguments that a name finds.
use Rattle.std.proofs.Common.{◌≡◌, ◌||◌, Bool, true, false, cond, List, [], ◌∷◌, ◌++◌, map, Option, Some, None, is_some, refl, sym, ap, ◌∙◌, true≢false}
use Rattle.std.specs.List.{find}
use Rattle.std.specs.Str.{bytes_eq}
use Rattle.clap.specs.Walk.{Row, Rule, all_of, with_values, without, has_row}
use Rattle.clap.specs.declared.builder.value_parser.Reading.{Reading}
use Rattle.clap.specs.declared.parser.matches.ValueSource.{ValueSource}
use Rattle.hy_base.proofs.Truths.{same-bytes, bytes-themselves}
use Rattle.hy_words.specs.Words.{Text, has}

-- ---- the first argument that passes a test

module _ (make : Text → Rule) (p : Rule → Bool) (name : Text) (passes : (m : Text) → p (make m) ≡ bytes_eq m name) where
  pub find_named : (names : List Text) (rest : List Rule) → has names name ≡ true → find p (map make names ++ rest) ≡ Some (make name)
  find_named [] rest there = absurd (true≢false (sym there))
  find_named (m ∷ names) rest there = by (bytes_eq m name) refl (find_named names rest)
    where
      by : (b : Bool) → bytes_eq m name ≡ b → (has names name ≡ true → find p (map make names ++ rest) ≡ Some (make name))
          → find p (map make (m ∷ names) ++ rest) ≡ Some (make name)
      by true e behind = rw (passes m, e) (ap (λ n. Some (make n)) (same-bytes m name e))
      by false e behind = rw (passes m, e) (behind (sym (ap (λ b. b || has names name) e) ∙ there))

  pub find_past : (names : List Text) (rest : List Rule) → has names name ≡ false → find p (map make names ++ rest) ≡ find p rest
  find_past [] rest gone = refl
  find_past (m ∷ names) rest gone = by (bytes_eq m name) refl (find_past names rest)
    where
      by : (b : Bool) → bytes_eq m name ≡ b → (has names name ≡ false → find p (map make names ++ rest) ≡ find p rest)
          → find p (map make (m ∷ names) ++ rest) ≡ find p rest
      by true e behind = absurd (true≢false (sym (ap (λ b. b || has names name) e) ∙ gone))
      by false e behind = rw (passes m, e) (behind (sym (ap (λ b. b || has names name) e) ∙ gone))

pub find_skip : (make : Text → Rule) (p : Rule → Bool) → ((m : Text) → p (make m) ≡ false) → (names : List Text) (rest : List Rule) → find p (map make names ++ rest) ≡ find p rest
find_skip make p fails [] rest = refl
find_skip make p fails (m ∷ names) rest = rw (fails m) (find_skip make p fails names rest)

-- ---- rows

-- The values of a row, with more behind them.
abbrev pub more : Option (List Text) → List Text → Option (List Text)
more None values = Some values
more (Some olds) values = Some (olds ++ values)

-- A name is given values.
pub given_values : (k id : Text) (how : Reading) (s : ValueSource) (values : List Text) (rows : List Row)
    → all_of id (with_values k how s values rows) ≡ cond (bytes_eq k id) (more (all_of id rows) values) (all_of id rows)
given_values k id how s values [] = by (bytes_eq k id) refl
  where
    by : (b : Bool) → bytes_eq k id ≡ b → all_of id (with_values k how s values []) ≡ cond b (Some values) None
    by true e = rw e refl
    by false e = rw e refl
given_values k id how s values (r ∷ rows) = by (bytes_eq r.id k) (bytes_eq r.id id) (bytes_eq k id) refl refl refl (given_values k id how s values rows)
  where
    by : (a b c : Bool) → bytes_eq r.id k ≡ a → bytes_eq r.id id ≡ b → bytes_eq k id ≡ c
        → all_of id (with_values k how s values rows) ≡ cond (bytes_eq k id) (more (all_of id rows) values) (all_of id rows)
        → all_of id (with_values k how s values (r ∷ rows)) ≡ cond (bytes_eq k id) (more (all_of id (r ∷ rows)) values) (all_of id (r ∷ rows))
    by true true true e f g behind = rw (e, f, g) refl
    by true true false e f g behind = absurd (true≢false (sym f ∙ ap (λ n. bytes_eq n id) (same-bytes r.id k e) ∙ g))
    by true false true e f g behind = absurd (true≢false (sym g ∙ ap (λ n. bytes_eq n id) (sym (same-bytes r.id k e)) ∙ f))
    by true false false e f g behind = rw (e, f, g) refl
    by false true true e f g behind = absurd (true≢false (sym (bytes-themselves k) ∙ ap (λ n. bytes_eq n k) (same-bytes k id g ∙ sym (same-bytes r.id id f)) ∙ e))
    by false true false e f g behind = rw (e, f, g) refl
    by false false true e f g behind = rw (e, f) behind
    by false false false e f g behind = rw (e, f) behind

-- A name that has no row is in none.
pub without_none : (id : Text) (rows : List Row) → has_row id rows ≡ false → without id rows ≡ rows
without_none id [] none = refl
without_none id (r ∷ rows) none = by (bytes_eq r.id id) refl (without_none id rows)
  where
    by : (b : Bool) → bytes_eq r.id id ≡ b → (has_row id rows ≡ false → without id rows ≡ rows) → without id (r ∷ rows) ≡ r ∷ rows
    by true e behind = absurd (true≢false (sym (ap (λ b. b || has_row id rows) e) ∙ none))
    by false e behind = rw e (ap (λ rs. r ∷ rs) (behind (sym (ap (λ b. b || has_row id rows) e) ∙ none)))

pub row_there : (id : Text) (rows : List Row) → has_row id rows ≡ is_some (all_of id rows)
row_there id [] = refl
row_there id (r ∷ rows) = by (bytes_eq r.id id) refl (row_there id rows)
  where
    by : (b : Bool) → bytes_eq r.id id ≡ b → has_row id rows ≡ is_some (all_of id rows) → has_row id (r ∷ rows) ≡ is_some (all_of id (r ∷ rows))
    by true e behind = rw e refl
    by false e behind = rw e behind

-- How a word splits: at its dashes, and at its first equals sign.
use Rattle.std.proofs.Common.{suc, ◌+◌, ◌≡◌, ℕ, ◌||◌, ◌&&◌, ◌==◌, Bool, true, false, not, List, [], ◌∷◌, ◌++◌, length, Option, Some, None, refl, sym, ap, subst, ◌∙◌, arith, true≢false, eqb-true, ne_eqb}
use Rattle.std.specs.List.{slice_get}
use Rattle.std.specs.Bool.{IsTrue}
use Rattle.std.specs.Char.{encode_utf8}
use Rattle.std.specs.Str.{bytes_eq, chars, IsUtf8, is_utf8, all_scalars, encode_utf8_all}
use Rattle.std.proofs.lemmas.Str.{is_utf8-from_IsUtf8}
use Rattle.std.proofs.lemmas.Option.{none-some}
use Rattle.clap.specs.Lexer.{long_of, short_of, name_and_value}
use Rattle.hy_base.proofs.Truths.{same-bytes}
use Rattle.hy_words.specs.Words.{Text, dashed, is_bare}

-- A text is its name, or its name, an equals sign and its value.
abbrev pub IsSplit : Text → Text → Option Text → Type 0
IsSplit text name None = text ≡ name
IsSplit text name (Some value) = text ≡ name ++ 61 ∷ value

keep : (b : ℕ) (text name : Text) (value : Option Text) → IsSplit text name value → IsSplit (b ∷ text) (b ∷ name) value
keep b text name None e = ap (λ t. b ∷ t) e
keep b text name (Some value) e = ap (λ t. b ∷ t) e

pub one-more : (n : ℕ) → 1 + n ≡ suc n
one-more n = omega arith

pub one-more-behind : (n : ℕ) → suc n + 1 ≡ suc (n + 1)
one-more-behind n = omega arith

split_at : (text : Text) → IsSplit text (name_and_value text).0 (name_and_value text).1
split_at [] = refl
split_at (b ∷ text) = by (b == 61) refl (split_at text)
  where
    by : (t : Bool) → (b == 61) ≡ t → IsSplit text (name_and_value text).0 (name_and_value text).1
        → IsSplit (b ∷ text) (name_and_value (b ∷ text)).0 (name_and_value (b ∷ text)).1
    by true e behind = rw e (ap (λ n. n ∷ text) (eqb-true b 61 e))
    by false e behind = rw e (simp (one-more-behind, one-more) (keep b text _ _ behind))

-- A word that begins with two dashes.
pub long_word : (word name : Text) (value : Option Text) → long_of word ≡ Some (name, value) → (text : Text) × (word ≡ dashed text) × IsSplit text name value
long_word [] name value e = absurd cc
long_word (a ∷ []) name value e = by (a == 45) refl
  where
    by : (s : Bool) → (a == 45) ≡ s → (rest : Text) × (a ∷ [] ≡ dashed rest) × IsSplit rest name value
    by true f = absurd (none-some (name, value) (sym (rw f refl) ∙ e))
    by false f = absurd (none-some (name, value) (sym (rw f refl) ∙ e))
long_word (a ∷ b ∷ []) name value e = by (a == 45) (b == 45) refl refl
  where
    by : (s t : Bool) → (a == 45) ≡ s → (b == 45) ≡ t → (rest : Text) × (a ∷ b ∷ [] ≡ dashed rest) × IsSplit rest name value
    by false t f g = absurd (none-some (name, value) (sym (rw f refl) ∙ e))
    by true false f g = absurd (none-some (name, value) (sym (rw (f, g) refl) ∙ e))
    by true true f g = absurd (none-some (name, value) (sym (rw (f, g) refl) ∙ e))
long_word (a ∷ b ∷ c ∷ text) name value e = by (a == 45) (b == 45) refl refl
  where
    by : (s t : Bool) → (a == 45) ≡ s → (b == 45) ≡ t → (rest : Text) × (a ∷ b ∷ c ∷ text ≡ dashed rest) × IsSplit rest name value
    by false t f g = absurd (none-some (name, value) (sym (rw f refl) ∙ e))
    by true false f g = absurd (none-some (name, value) (sym (rw (f, g) refl) ∙ e))
    by true true f g =
        let whole : Some (name_and_value (c ∷ text)) ≡ Some (name, value) = sym (rw (f, g) refl) ∙ e in
        let same : name_and_value (c ∷ text) ≡ (name, value) = cc in
        (c ∷ text, let first = eqb-true a 45 f in let second = eqb-true b 45 g in cc, subst (λ (p : Text × Option Text). IsSplit (c ∷ text) p.0 p.1) same (split_at (c ∷ text)))

pub not_dashes : (word : Text) (p : Text × Option Text) → long_of word ≡ Some p → bytes_eq word (45 ∷ 45 ∷ []) ≡ false
not_dashes word p e = by (bytes_eq word (45 ∷ 45 ∷ [])) refl
  where
    by : (b : Bool) → bytes_eq word (45 ∷ 45 ∷ []) ≡ b → b ≡ false
    by true f = let same = sym (ap long_of (same-bytes word (45 ∷ 45 ∷ []) f)) ∙ e in cc
    by false f = refl

-- A word that is not bare begins with a dash: it is two dashes, long or short.
pub bare_word : (word : Text) → IsTrue (is_bare word) → (long_of word ≡ None) × (short_of word ≡ None) × (bytes_eq word (45 ∷ 45 ∷ []) ≡ false)
bare_word [] bare = (refl, refl, refl)
bare_word (b ∷ bs) bare = by bs (b == 45) refl bare
  where
    by : (cs : Text) (t : Bool) → (b == 45) ≡ t → IsTrue (is_bare (b ∷ cs)) → (long_of (b ∷ cs) ≡ None) × (short_of (b ∷ cs) ≡ None) × (bytes_eq (b ∷ cs) (45 ∷ 45 ∷ []) ≡ false)
    by cs false e known = (rw e refl, rw e refl, rw e refl)
    by [] true e known = (rw e refl, rw e refl, rw e refl)
    by (c ∷ cs) true e known =
        let P : Bool → Type 0 = λ t. IsTrue (not t || length (c ∷ cs) == 0) in
        let none = subst P e known in
        let few : (length (c ∷ cs) == 0) ≡ false = ne_eqb (length (c ∷ cs)) 0 (λ z. omega (arith, z)) in
        let Q : Bool → Type 0 = λ t. IsTrue t in absurd (true≢false (sym (subst Q few none)))

-- A short word begins with one dash, and more stands behind it.
pub short_word : (word flags : Text) → short_of word ≡ Some flags → (b : ℕ) × (bs : Text) × (word ≡ 45 ∷ b ∷ bs) × (flags ≡ b ∷ bs)
short_word [] flags e = absurd (none-some flags e)
short_word (a ∷ []) flags e = by (a == 45) refl
  where
    by : (s : Bool) → (a == 45) ≡ s → (b : ℕ) × (bs : Text) × (a ∷ [] ≡ 45 ∷ b ∷ bs) × (flags ≡ b ∷ bs)
    by true f = absurd (none-some flags (sym (rw f refl) ∙ e))
    by false f = absurd (none-some flags (sym (rw f refl) ∙ e))
short_word (a ∷ b ∷ bs) flags e = by (a == 45) (b == 45) refl refl
  where
    by : (s t : Bool) → (a == 45) ≡ s → (b == 45) ≡ t → (c : ℕ) × (cs : Text) × (a ∷ b ∷ bs ≡ 45 ∷ c ∷ cs) × (flags ≡ c ∷ cs)
    by false t f g = absurd (none-some flags (sym (rw f refl) ∙ e))
    by true true f g = absurd (none-some flags (sym (rw (f, g) refl) ∙ e))
    by true false f g =
        let whole : Some (b ∷ bs) ≡ Some flags = sym (rw (f, g) refl) ∙ e in
        let same : b ∷ bs ≡ flags = cc in
        (b, bs, ap (λ c. c ∷ b ∷ bs) (eqb-true a 45 f), sym same)

no-dash : (a b : ℕ) (cs : Text) (t : Bool) → (a == 45) ≡ true → (b == 45) ≡ t → long_of (a ∷ b ∷ cs) ≡ None → short_of (a ∷ b ∷ cs) ≡ None
    → bytes_eq (a ∷ b ∷ cs) (45 ∷ 45 ∷ []) ≡ false → ⊥
no-dash a b cs false f g l s o = none-some (b ∷ cs) (sym s ∙ rw (f, g) refl)
no-dash a b [] true f g l s o = true≢false (sym (rw (f, g) refl) ∙ o)
no-dash a b (c ∷ cs) true f g l s o = none-some (name_and_value (c ∷ cs)) (sym l ∙ rw (f, g) refl)

-- A word that is no long or short one and not two dashes is bare.
pub other_word : (word : Text) → long_of word ≡ None → short_of word ≡ None → bytes_eq word (45 ∷ 45 ∷ []) ≡ false → IsTrue (is_bare word)
other_word [] long short other = refl
other_word (a ∷ bs) long short other = by bs (a == 45) refl long short other
  where
    by : (cs : Text) (s : Bool) → (a == 45) ≡ s → long_of (a ∷ cs) ≡ None → short_of (a ∷ cs) ≡ None → bytes_eq (a ∷ cs) (45 ∷ 45 ∷ []) ≡ false → IsTrue (is_bare (a ∷ cs))
    by cs false f l s o = rw f refl
    by [] true f l s o = rw f refl
    by (b ∷ cs) true f l s o = absurd (no-dash a b cs (b == 45) f refl l s o)

-- A text that begins with a dash has a character behind it.
pub first_char : (b : ℕ) (bs : Text) → IsUtf8 (45 ∷ b ∷ bs) → (x : ℕ) × (slice_get (chars (b ∷ bs)) 0 ≡ Some x)
unfolding chars encode_utf8 is_utf8
first_char b bs text = by (chars (b ∷ bs)) refl
  where
    by : (cs : List ℕ) → chars (b ∷ bs) ≡ cs → (x : ℕ) × (slice_get cs 0 ≡ Some x)
    by [] e =
        let f : List ℕ → Bool = λ cs. all_scalars (45 ∷ cs) && bytes_eq (encode_utf8_all (45 ∷ cs)) (45 ∷ b ∷ bs) in
        absurd (true≢false (sym (is_utf8-from_IsUtf8 (45 ∷ b ∷ bs) text) ∙ ap f e))
    by (x ∷ cs) e = (x, refl)

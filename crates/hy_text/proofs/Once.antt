-- A text has one set at its front, and one word of sets.
use Rattle.std.proofs.Common.{◌≡◌, ℕ, List, [], ◌∷◌, refl, sym, ap, ◌∙◌, subst, arith}
use Rattle.hy_text.specs.Bytes.{past_blanks}
use Rattle.hy_text.specs.Sets.{SpellsNames, SpellsSet}
use Rattle.hy_text.specs.Words.{SpellsWord}
use Rattle.hy_text.proofs.ReadingSets.{same_name, same_set, no_brace, apart, behind_byte}

names_once : (here : List ℕ) (names others : List (List ℕ)) (rest end : List ℕ)
    → SpellsNames here names rest → SpellsNames here others end → names ≡ others
names_once here [] others rest end one two = absurd one
names_once here (x ∷ []) [] rest end one two = absurd two
names_once here (x ∷ []) (y ∷ []) rest end (b, e, close) (c, f, shut) =
    ap (λ n. n ∷ []) (same_name here x b y c e f).0
names_once here (x ∷ []) (y ∷ z ∷ others) rest end (b, e, close) (c, n, f, comma, two) =
    let same = ap past_blanks (same_name here x b y c e f).1 in
    absurd (apart 125 44 (past_blanks b) rest n (omega arith) close (same ∙ comma))
names_once here (x ∷ w ∷ names) [] rest end one two = absurd two
names_once here (x ∷ w ∷ names) (y ∷ []) rest end (b, n, e, comma, one) (c, f, shut) =
    let same = ap past_blanks (same_name here x b y c e f).1 in
    absurd (apart 44 125 (past_blanks b) n end (omega arith) comma (same ∙ shut))
names_once here (x ∷ w ∷ names) (y ∷ z ∷ others) rest end (b, n, e, comma, one)
    (c, m, f, other, two) =
    let same = same_name here x b y c e f in
    let left = behind_byte 44 (past_blanks b) n m comma (ap past_blanks same.1 ∙ other) in
    let P : List ℕ → Type 0 = λ t. SpellsNames (past_blanks t) (w ∷ names) rest in
    let later = names_once (past_blanks m) (w ∷ names) (z ∷ others) rest end
    (subst P left one) two in
    ap (λ v. v ∷ w ∷ names) same.0 ∙ ap (λ vs. y ∷ vs) later

set_once : (text : List ℕ) (names others : List (List ℕ)) (rest end : List ℕ)
    → SpellsSet text names rest → SpellsSet text others end → names ≡ others
set_once text [] [] rest end one two = refl
set_once text [] (y ∷ others) rest end (inner, brace, one) (more, braced, two) =
    let P : List ℕ → Type 0 = λ t. SpellsNames (past_blanks t) (y ∷ others) end in
    let same = behind_byte 123 text more inner braced brace in
    absurd (no_brace (past_blanks inner) rest one (y ∷ others) end (subst P same two))
set_once text (x ∷ names) [] rest end (inner, brace, one) (more, braced, two) =
    let P : List ℕ → Type 0 = λ t. SpellsNames (past_blanks t) (x ∷ names) rest in
    let same = behind_byte 123 text inner more brace braced in
    absurd (no_brace (past_blanks more) end two (x ∷ names) rest (subst P same one))
set_once text (x ∷ names) (y ∷ others) rest end (inner, brace, one) (more, braced, two) =
    let P : List ℕ → Type 0 = λ t. SpellsNames (past_blanks t) (y ∷ others) end in
    let same = behind_byte 123 text more inner braced brace in
    names_once (past_blanks inner) (x ∷ names) (y ∷ others) rest end one (subst P same two)

pub one-set : (text : List ℕ) (names others : List (List ℕ)) (rest end : List ℕ)
    → SpellsSet text names rest → SpellsSet text others end → (names ≡ others) × (rest ≡ end)
one-set text names others rest end one two =
    (set_once text names others rest end one two, same_set text names others rest end one two)

pub one-word : (text : List ℕ) (sets others : List (List (List ℕ))) (rest end : List ℕ)
    → SpellsWord text sets rest → SpellsWord text others end → (sets ≡ others) × (rest ≡ end)
one-word text [] others rest end one two = absurd one
one-word text (x ∷ []) [] rest end one two = absurd two
one-word text (x ∷ []) (y ∷ []) rest end (b, one, e, bare) (c, two, f, other) =
    let (names, behind) = one-set text x y b c one two in
    (ap (λ s. s ∷ []) names, sym e ∙ ap past_blanks behind ∙ f)
one-word text (x ∷ []) (y ∷ z ∷ others) rest end (b, one, e, bare) (c, next, two, semicolon, more) =
    absurd (bare next (sym e ∙ ap past_blanks (same_set text x y b c one two) ∙ semicolon))
one-word text (x ∷ w ∷ sets) [] rest end one two = absurd two
one-word text (x ∷ w ∷ sets) (y ∷ []) rest end (b, next, one, semicolon, more) (c, two, f, bare) =
    absurd (bare next (sym f ∙ ap past_blanks (same_set text y x c b two one) ∙ semicolon))
one-word text (x ∷ w ∷ sets) (y ∷ z ∷ others) rest end (b, next, one, semicolon, more)
    (c, m, two, other, tail) =
    let (names, behind) = one-set text x y b c one two in
    let same = behind_byte 59 (past_blanks b) next m semicolon (ap past_blanks behind ∙ other) in
    let P : List ℕ → Type 0 = λ t. SpellsWord (past_blanks t) (w ∷ sets) rest in
    let (later, left) = one-word (past_blanks m) (w ∷ sets) (z ∷ others) rest end
    (subst P same more) tail in
    (ap (λ v. v ∷ w ∷ sets) names ∙ ap (λ vs. y ∷ vs) later, left)

pub ruleset laws = (one-word)

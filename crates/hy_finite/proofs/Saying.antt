-- What a text says: how it begins, and that it says one thing.
use Rattle.std.proofs.Common.{◌≡◌, ◌≢◌, ℕ, Bool, true, false, nat_eq, if◌then◌else◌, List, [], ◌∷◌, ◌++◌, Option, Some, None, unwrap_or, drop, inl, inr, codes, refl, sym, ap, ◌∙◌, subst, arith}
use Rattle.std.proofs.lemmas.Bool.{eqb-true}
use Rattle.std.specs.Option.{option_map}
use Rattle.hy_text.specs.Bytes.{past_blanks}
use Rattle.hy_text.specs.Sets.{SpellsSet}
use Rattle.hy_text.specs.Words.{SpellsWord}
use Rattle.hy_text.proofs.ReadingSets.{apart}
use Rattle.hy_text.proofs.Once.{one-set, one-word}
use Rattle.hy_finite.specs.EventLines.{Said, word, letter, finish, save, back, SaysNothing, Says, Spells, IsOnly, session_at, number_at, behind_blanks}

-- the first byte of a text that says this
abbrev pub first_of : Said → ℕ
first_of (word sets) = 123
first_of (letter n names) = 64
first_of (finish n) = 64
first_of save = 33
first_of back = 33

set-begins : (text : List ℕ) (names : List (List ℕ)) (rest : List ℕ) → SpellsSet text names rest
    → (inner : List ℕ) × (text ≡ 123 ∷ inner)
set-begins text names rest (inner, brace, members) = (inner, brace)

word-begins : (text : List ℕ) (sets : List (List (List ℕ))) (rest : List ℕ)
    → SpellsWord text sets rest
    → (inner : List ℕ) × (text ≡ 123 ∷ inner)
word-begins text [] rest spelled = absurd spelled
word-begins text (x ∷ []) rest (behind, set, end, bare) = set-begins text x behind set
word-begins text (x ∷ y ∷ sets) rest (behind, next, set, semicolon, more) =
    set-begins text x behind set

pub session-begins : (text : List ℕ) (n : ℕ) (behind : List ℕ) → session_at text ≡ Some (n, behind)
    → (inner : List ℕ) × (text ≡ 64 ∷ inner)
session-begins [] n behind e = absurd (cc)
session-begins (b ∷ inner) n behind e = by-test (nat_eq b 64) refl e
  where
    by-test : (t : Bool) → nat_eq b 64 ≡ t
        → (if t then option_map behind_blanks (number_at inner) else None) ≡ Some (n, behind)
        → (inner' : List ℕ) × (b ∷ inner ≡ 64 ∷ inner')
    by-test true same e = (inner, ap (λ x. x ∷ inner) (eqb-true b 64 same))
    by-test false apart e = absurd (cc)

pub begins : (text : List ℕ) (said : Said) → Spells text said
    → (inner : List ℕ) × (text ≡ first_of said ∷ inner)
begins text (word sets) spelled = word-begins text sets [] spelled
begins text (letter n names) (behind, rest, session, set, end) =
    session-begins text n behind session
begins text (finish n) (behind, session, only) = session-begins text n behind session
begins text save (rest, e, end) = (codes "save" ++ rest, e)
begins text back (rest, e, end) = (codes "back" ++ rest, e)

-- A text does not say what begins with another byte.
pub begins-not : (text : List ℕ) (b : ℕ) (inner : List ℕ) → text ≡ b ∷ inner → (said : Said)
    → b ≢ first_of said → ¬ Spells text said
begins-not text b inner first said differ spelled =
    let (other, e) = begins text said spelled in
    let same : b ≡ first_of said = cc (first, e) in
    differ same

no-bytes : (text : List ℕ) → text ≡ [] → (said : Said) → ¬ Spells text said
no-bytes text none said spelled =
    let (other, e) = begins text said spelled in
    let clash : [] ≡ first_of said ∷ other = sym none ∙ e in cc

no-comment : (text rest : List ℕ) → text ≡ 35 ∷ rest → (said : Said) → ¬ Spells text said
no-comment text rest first (word sets) = begins-not text 35 rest first (word sets) (omega arith)
no-comment text rest first (letter n names) =
    begins-not text 35 rest first (letter n names) (omega arith)
no-comment text rest first (finish n) = begins-not text 35 rest first (finish n) (omega arith)
no-comment text rest first save = begins-not text 35 rest first save (omega arith)
no-comment text rest first back = begins-not text 35 rest first back (omega arith)

-- A line that says nothing says nothing else.
pub nothing-said : (line : List ℕ) (said : Said) → SaysNothing line → ¬ Says line said
nothing-said line said (inl none) spelled = no-bytes (past_blanks line) none said spelled
nothing-said line said (inr (rest, comment)) spelled =
    no-comment (past_blanks line) rest comment said spelled

-- ---- a text says one thing

pub same-session : (text : List ℕ) (n m : ℕ) (b c : List ℕ) → session_at text ≡ Some (n, b)
    → session_at text ≡ Some (m, c) → (n ≡ m) × (b ≡ c)
same-session text n m b c one two =
    let found : Option (ℕ × List ℕ) → ℕ × List ℕ = λ o. unwrap_or o (n, b) in
    let pair = ap found (sym one ∙ two) in
    (ap (λ p. p.0) pair, ap (λ p. p.1) pair)

pub end-no_set : (text : List ℕ) → IsOnly text (codes "end")
    → (names : List (List ℕ)) (rest : List ℕ) → ¬ SpellsSet text names rest
end-no_set text (tail, e, end) names rest set =
    let (inner, brace) = set-begins text names rest set in
    apart 101 123 text _ inner (omega arith) e brace

save-no_back : (text : List ℕ) → IsOnly text (codes "!save") → ¬ IsOnly text (codes "!back")
save-no_back text (tail, e, end) (rest, f, ended) =
    apart 115 98 (drop 1 text) _ _ (omega arith) (ap (drop 1) e) (ap (drop 1) f)

same-first : (text : List ℕ) (a b : Said) → Spells text a → Spells text b → first_of a ≡ first_of b
same-first text a b one two =
    let (x, e) = begins text a one in
    let (y, f) = begins text b two in
    cc (e, f)

pub one-said : (text : List ℕ) (a b : Said) → Spells text a → Spells text b → a ≡ b
one-said text (word s) (word t) one two = ap word (one-word text s t [] [] one two).0
one-said text (word s) b one two = absurd (omega (arith, same-first text (word s) b one two))
one-said text (letter n names) (letter m others) (b, rest, session, set, end)
    (c, tail, second, other, ended) =
    let (same, behind) = same-session text n m b c session second in
    let P : List ℕ → Type 0 = λ t. SpellsSet t names rest in
    let once = (one-set c names others rest tail (subst P behind set) other).0 in
    ap (λ k. letter k names) same ∙ ap (letter m) once
one-said text (letter n names) (finish m) (b, rest, session, set, end) (c, second, only) =
    let P : List ℕ → Type 0 = λ t. SpellsSet t names rest in
    absurd (end-no_set c only names rest (subst P (same-session text n m b c session second).1 set))
one-said text (letter n names) b one two =
    absurd (omega (arith, same-first text (letter n names) b one two))
one-said text (finish n) (finish m) (b, session, only) (c, second, other) =
    ap finish (same-session text n m b c session second).0
one-said text (finish n) (letter m names) (b, session, only) (c, rest, second, set, end) =
    let P : List ℕ → Type 0 = λ t. SpellsSet t names rest in
    absurd (end-no_set b only names rest (subst P (sym
    (same-session text n m b c session second).1) set))
one-said text (finish n) b one two = absurd (omega (arith, same-first text (finish n) b one two))
one-said text save save one two = refl
one-said text save back one two = absurd (save-no_back text one two)
one-said text save b one two = absurd (omega (arith, same-first text save b one two))
one-said text back back one two = refl
one-said text back save one two = absurd (save-no_back text two one)
one-said text back b one two = absurd (omega (arith, same-first text back b one two))

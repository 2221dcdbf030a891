-- The longest viable prefix, and what viable lists are prefixes of.
use Rattle.std.proofs.Common.{◌≡◌, ℕ, zero, suc, ◌≤◌, ◌↔◌, List, [], ◌∷◌, ◌++◌, length, take, Bool, Option, Some, None, IsTrue, is_some, refl, sym, ap, subst, ◌∙◌, arith}
use Rattle.std.specs.Option.{option_and_then}
use Rattle.hy_read.specs.declared.symbol.Symbol.TheVariants as signs
use Rattle.hy_read.specs.Tokens.{Token, symbol, variable, kind_of}
use Rattle.hy_read.specs.Grammar.{IsText}
use Rattle.hy_read.specs.Places.{Place, start, worded, named, dotted, operand, operator, next_place, place_after, IsViable, IsLongest}
use Rattle.hy_read.proofs.Deriving.{allowed-text}
use Rattle.hy_read.proofs.Running.{text-runs}

-- behind tokens that are allowed the reader goes on from its place
pub after-append : (many : Bool) (ts us : List Token) (p q : Place) → place_after many p ts ≡ Some q → place_after many p (ts ++ us) ≡ place_after many q us
after-append many [] us p q e = ap (λ x. option_and_then (λ y. place_after many y us) x) e
after-append many (t ∷ ts) us p q e = through (next_place many p (kind_of t)) (λ y. after-append many ts us y q) e
  where
    through : (o : Option Place) → ((y : Place) → place_after many y ts ≡ Some q → place_after many y (ts ++ us) ≡ place_after many q us) → option_and_then (λ y. place_after many y ts) o ≡ Some q → option_and_then (λ y. place_after many y (ts ++ us)) o ≡ place_after many q us
    through None f e = absurd cc
    through (Some y) f e = f y e

-- a prefix of what is viable is viable
before-append : (many : Bool) (ts us : List Token) (p : Place) → IsTrue (is_some (place_after many p (ts ++ us))) → IsTrue (is_some (place_after many p ts))
before-append many [] us p h = refl
before-append many (t ∷ ts) us p h = through (next_place many p (kind_of t)) (λ y. before-append many ts us y) h
  where
    through : (o : Option Place) → ((y : Place) → IsTrue (is_some (place_after many y (ts ++ us))) → IsTrue (is_some (place_after many y ts))) → IsTrue (is_some (option_and_then (λ y. place_after many y (ts ++ us)) o)) → IsTrue (is_some (option_and_then (λ y. place_after many y ts) o))
    through None f e = e
    through (Some y) f e = f y e

-- from each place the end can be reached
abbrev closes : ℕ → List Token
closes zero = []
closes (suc n) = symbol signs.CloseParen ∷ closes n

closed : (many : Bool) (n : ℕ) → place_after many (operator n) (closes n) ≡ Some (operator zero)
closed many zero = refl
closed many (suc n) = closed many n

goes-on : (many : Bool) (p : Place) → (us : List Token) × (place_after many p us ≡ Some (operator zero))
goes-on many start = (symbol signs.Forall ∷ variable (120 ∷ []) ∷ symbol signs.Dot ∷ symbol signs.True ∷ [], refl)
goes-on many worded = (variable (120 ∷ []) ∷ symbol signs.Dot ∷ symbol signs.True ∷ [], refl)
goes-on many named = (symbol signs.Dot ∷ symbol signs.True ∷ [], refl)
goes-on many dotted = (symbol signs.True ∷ [], refl)
goes-on many (operand n) = (symbol signs.True ∷ closes n, closed many n)
goes-on many (operator n) = (closes n, closed many n)

from-some : (o : Option Place) → IsTrue (is_some o) → (p : Place) × (o ≡ Some p)
from-some None h = absurd cc
from-some (Some p) h = (p, refl)

some-from : (o : Option Place) (p : Place) → o ≡ Some p → IsTrue (is_some o)
some-from None p e = absurd cc
some-from (Some p) q e = refl

-- viable lists are the prefixes of texts
pub viable-extends : (many : Bool) (tokens : List Token) → IsViable many tokens ↔ ((rest : List Token) × IsText many (tokens ++ rest))
viable-extends many tokens = (there, λ (rest, text). before-append many tokens rest start (some-from _ _ (text-runs many (tokens ++ rest) text)))
  where
    there : IsViable many tokens → (rest : List Token) × IsText many (tokens ++ rest)
    there h =
        let (p, e) = from-some (place_after many start tokens) h in
        let (us, done) = goes-on many p in
        (us, allowed-text many (tokens ++ us) (after-append many tokens us start p e ∙ done))

-- the longest viable prefix, from a place
abbrev Longest : Bool → Place → List Token → ℕ → Type 0
Longest many p ts k = (k ≤ length ts) × IsTrue (is_some (place_after many p (take k ts))) × ((j : ℕ) → j ≤ length ts → IsTrue (is_some (place_after many p (take j ts))) → j ≤ k)

-- where the first token is not allowed
none-longest : (many : Bool) (p : Place) (t : Token) (ts : List Token) → next_place many p (kind_of t) ≡ None → Longest many p (t ∷ ts) zero
none-longest many p t ts e = (omega arith, refl, none)
  where
    none : (j : ℕ) → j ≤ length (t ∷ ts) → IsTrue (is_some (place_after many p (take j (t ∷ ts)))) → j ≤ zero
    none zero le h = omega arith
    none (suc j) le h =
        let P : Option Place → Type 0 = λ o. IsTrue (is_some (option_and_then (λ y. place_after many y (take j ts)) o)) in
        let bad : P None = subst P e h in
        absurd cc

-- where it is
some-longest : (many : Bool) (p q : Place) (t : Token) (ts : List Token) (k : ℕ) → next_place many p (kind_of t) ≡ Some q → Longest many q ts k → Longest many p (t ∷ ts) (suc k)
some-longest many p q t ts k e (within, viable, longest) = (omega arith, subst P (sym e) viable, most)
  where
    P : Option Place → Type 0
    P o = IsTrue (is_some (option_and_then (λ y. place_after many y (take k ts)) o))

    most : (j : ℕ) → j ≤ length (t ∷ ts) → IsTrue (is_some (place_after many p (take j (t ∷ ts)))) → j ≤ suc k
    most zero le h = omega arith
    most (suc j) le h =
        let Q : Option Place → Type 0 = λ o. IsTrue (is_some (option_and_then (λ y. place_after many y (take j ts)) o)) in
        let below : j ≤ k = longest j (omega arith) (subst Q e h) in
        omega arith

longest-from : (many : Bool) (ts : List Token) (p : Place) → (k : ℕ) × Longest many p ts k
longest-from many [] p = (zero, (omega arith, refl, λ j le h. le))
longest-from many (t ∷ ts) p = through (next_place many p (kind_of t)) refl (λ q. longest-from many ts q)
  where
    through : (o : Option Place) → next_place many p (kind_of t) ≡ o → ((q : Place) → (k : ℕ) × Longest many q ts k) → (k : ℕ) × Longest many p (t ∷ ts) k
    through None e f = (zero, none-longest many p t ts e)
    through (Some q) e f = let (k, h) = f q in (suc k, some-longest many p q t ts k e h)

-- one allowed token, and then the others
first-goes : (many : Bool) (p q : Place) (t : Token) (ts : List Token) → place_after many p (t ∷ ts) ≡ Some q → (y : Place) × (next_place many p (kind_of t) ≡ Some y) × (place_after many y ts ≡ Some q)
first-goes many p q t ts e = through (next_place many p (kind_of t)) refl e
  where
    through : (o : Option Place) → next_place many p (kind_of t) ≡ o → option_and_then (λ y. place_after many y ts) o ≡ Some q → (y : Place) × (next_place many p (kind_of t) ≡ Some y) × (place_after many y ts ≡ Some q)
    through None h e = absurd cc
    through (Some y) h e = (y, h, e)

stuck-from : (many : Bool) (front : List Token) (p q : Place) (t : Token) (rest : List Token) → place_after many p front ≡ Some q → next_place many q (kind_of t) ≡ None → Longest many p (front ++ t ∷ rest) (length front)
stuck-from many [] p q t rest e h =
    let same : q ≡ p = cc in
    none-longest many p t rest (subst (λ x. next_place many x (kind_of t) ≡ None) same h)
stuck-from many (x ∷ front) p q t rest e h =
    let (y, first, others) = first-goes many p q x front e in
    some-longest many p y x (front ++ t ∷ rest) (length front) first (stuck-from many front y q t rest others h)

ended-from : (many : Bool) (tokens : List Token) (p q : Place) → place_after many p tokens ≡ Some q → Longest many p tokens (length tokens)
ended-from many [] p q e = (omega arith, refl, λ j le h. le)
ended-from many (t ∷ ts) p q e =
    let (y, first, others) = first-goes many p q t ts e in
    some-longest many p y t ts (length ts) first (ended-from many ts y q others)

stuck-after : (many : Bool) (front : List Token) (p q : Place) (t : Token) (rest : List Token) → place_after many p front ≡ Some q → next_place many q (kind_of t) ≡ None → place_after many p (front ++ t ∷ rest) ≡ None
stuck-after many front p q t rest e h =
    after-append many front (t ∷ rest) p q e ∙ ap (option_and_then (λ y. place_after many y rest)) h

is-longest : (many : Bool) (tokens : List Token) (k : ℕ) → Longest many start tokens k → IsLongest many tokens k
is-longest many tokens k (within, viable, longest) = record { within = within; viable = viable; longest = longest }

-- A token that is not allowed behind those that are is the fault.
pub stuck-faults : (many : Bool) (front : List Token) (q : Place) (t : Token) (rest : List Token) → place_after many start front ≡ Some q → next_place many q (kind_of t) ≡ None → ¬ IsText many (front ++ t ∷ rest) × IsLongest many (front ++ t ∷ rest) (length front)
stuck-faults many front q t rest e h =
    (λ text. let one = text-runs many (front ++ t ∷ rest) text in let two = stuck-after many front start q t rest e h in cc, is-longest many (front ++ t ∷ rest) (length front) (stuck-from many front start q t rest e h))

-- An end that is not allowed is the fault.
pub ended-faults : (many : Bool) (tokens : List Token) (q : Place) → place_after many start tokens ≡ Some q → (q ≡ operator zero → ⊥) → ¬ IsText many tokens × IsLongest many tokens (length tokens)
ended-faults many tokens q e h =
    (λ text. let one = text-runs many tokens text in let two : q ≡ operator zero = cc in h two, is-longest many tokens (length tokens) (ended-from many tokens start q e))

-- there is one longest viable prefix
pub longest-one : (many : Bool) (tokens : List Token) → (k : ℕ) × IsLongest many tokens k
longest-one many tokens =
    let (k, (within, viable, longest)) = longest-from many tokens start in
    (k, record { within = within; viable = viable; longest = longest })

pub longest-once : (many : Bool) (tokens : List Token) (j k : ℕ) → IsLongest many tokens j → IsLongest many tokens k → j ≡ k
longest-once many tokens j k h g =
    let one = g.longest j h.within h.viable in
    let two = h.longest k g.within g.viable in
    omega arith

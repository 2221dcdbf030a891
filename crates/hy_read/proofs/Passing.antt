-- One more token is passed: what is counted, and what is bound.
use Rattle.std.proofs.Common.{◌≡◌, ℕ, zero, suc, max, ◌+◌, ◌<◌, ◌≤◌, Bool, true, false, is_some, if◌then◌else◌, List, [], ◌∷◌, ◌++◌, length, drop, take, map, get_or, add-one, Option, Some, None, refl, ap, sym, ◌∙◌, arith, append_assoc}
use Rattle.std.specs.Option.{option_map, is_none}
use Rattle.std.proofs.Math.Seq.{drop-append_seam, take-suc}
use Rattle.std.proofs.lemmas.Grind.{common_steps}
use Rattle.std.proofs.lemmas.List.{map-append, length-map}
use Rattle.hy_read.specs.declared.symbol.Symbol.TheVariants as signs
use Rattle.hy_read.specs.declared.counts.Counts.{Counts}
use Rattle.hy_read.specs.Tokens.{Token, Kind, symbol, variable, atom, nothing, kind_of}
use Rattle.hy_read.specs.Scanning.{Span}
use Rattle.hy_read.specs.Answers.{first_of, tokens_of}
use Rattle.hy_read.specs.Scopes.{Binds}
use Rattle.std.specs.Str.{bytes_eq}
use Rattle.hy_read.specs.Results.{opened, most_open, unbound_at, here_unless, last_place_of, later_or}
use Rattle.hy_read.specs.Counting.{opened_by, quantified_by, ended_by, most_quantified, semicolons, IsCounted}

opened_kind : (t : Token) (n : ℕ) → opened t n ≡ opened_by (kind_of t) n
opened_kind (symbol signs.OpenParen) n = refl
opened_kind (symbol signs.CloseParen) n = refl
opened_kind (symbol _) n = refl
opened_kind (variable v) n = refl
opened_kind (atom a v) n = refl
opened_kind nothing n = refl

pub opens_at_least : (n : ℕ) (ts : List Token) → n ≤ most_open n ts
opens_at_least n [] = omega arith
opens_at_least n (t ∷ ts) = omega arith

pub words_at_least : (n : ℕ) (ts : List Token) → n ≤ most_quantified n ts
words_at_least n [] = omega arith
words_at_least n (t ∷ ts) = omega arith

-- a largest count so far, and what is behind
largest_so_far : (all m n most left : ℕ) → all ≡ max m (max n left) → n ≤ m → most ≤ left → all ≡ max (max m most) left
largest_so_far all m n most left e h k = omega arith

pub counted_more : (front : List Token) (t : Token) (k : Kind) (old new : Counts) → kind_of t ≡ k → IsCounted front old → new.parens ≡ opened_by k old.parens → new.most_parens ≡ max old.most_parens new.parens → new.quantifiers ≡ quantified_by k old.quantifiers → new.most_quantifiers ≡ max old.most_quantifiers new.quantifiers → new.semicolons ≡ ended_by k old.semicolons → IsCounted (front ++ t ∷ []) new
counted_more front t k old new kind before p mp q mq s = record {
  opens = λ rest.
      let behind : most_open (opened t old.parens) rest ≡ most_open new.parens rest = ap (λ n. most_open n rest) (opened_kind t old.parens ∙ ap (λ x. opened_by x old.parens) kind ∙ sym p) in
      let all : most_open zero ((front ++ t ∷ []) ++ rest) ≡ max old.most_parens (max old.parens (most_open new.parens rest)) =
      ap (most_open zero) (append_assoc front (t ∷ []) rest) ∙ before.opens (t ∷ rest) ∙ ap (λ x. max old.most_parens (max old.parens x)) behind in
      largest_so_far _ old.most_parens old.parens new.parens (most_open new.parens rest) all before.most_of_opens (opens_at_least new.parens rest)
      ∙ ap (λ x. max x (most_open new.parens rest)) (sym mp);
  words = λ rest.
      let behind : most_quantified (quantified_by (kind_of t) old.quantifiers) rest ≡ most_quantified new.quantifiers rest = ap (λ n. most_quantified n rest) (ap (λ x. quantified_by x old.quantifiers) kind ∙ sym q) in
      let all : most_quantified zero ((front ++ t ∷ []) ++ rest) ≡ max old.most_quantifiers (max old.quantifiers (most_quantified new.quantifiers rest)) =
      ap (most_quantified zero) (append_assoc front (t ∷ []) rest) ∙ before.words (t ∷ rest) ∙ ap (λ x. max old.most_quantifiers (max old.quantifiers x)) behind in
      largest_so_far _ old.most_quantifiers old.quantifiers new.quantifiers (most_quantified new.quantifiers rest) all before.most_of_words (words_at_least new.quantifiers rest)
      ∙ ap (λ x. max x (most_quantified new.quantifiers rest)) (sym mq);
  ends = λ rest.
      ap (semicolons zero) (append_assoc front (t ∷ []) rest) ∙ before.ends (t ∷ rest)
      ∙ ap (λ n. semicolons n rest) (ap (λ x. ended_by x old.semicolons) kind ∙ sym s);
  most_of_opens = omega arith;
  most_of_words = omega arith;
}

-- ---- what is bound

tokens_more : (front : List Span) (s : Span) (rest : List Token) → tokens_of (front ++ s ∷ []) ++ rest ≡ tokens_of front ++ s.token ∷ rest
tokens_more front s rest = ap (λ x. x ++ rest) (map-append (λ x. x.token) front (s ∷ [])) ∙ append_assoc (tokens_of front) (s.token ∷ []) rest

-- the first unbound atom
pub binds_not : (front : List Span) (s : Span) (old new : List (List ℕ)) → ((rest : List Token) → unbound_at old (s.token ∷ rest) ≡ Some 0) → Binds front old None → Binds (front ++ s ∷ []) new (Some s.first)
binds_not front s old new stop before = (
  length front,
  λ rest. ap (unbound_at []) (tokens_more front s rest) ∙ before (s.token ∷ rest) ∙ ap (option_map (λ k. length front + k)) (stop rest) ∙ ap Some (omega arith),
  λ bytes more. ap (λ l. first_of bytes (drop (length front) l)) (append_assoc front (s ∷ []) more) ∙ ap (first_of bytes) (drop-append_seam front (s ∷ more)),
)

free_step : (o later : Option ℕ) → is_some o ≡ false → here_unless o later ≡ Some 0
free_step None later e = refl
free_step (Some k) later e = absurd cc

pub pass_free : (front : List Span) (s : Span) (vs : List (List ℕ)) (u : Option ℕ) (name v : List ℕ) → s.token ≡ atom name v → is_none u ≡ true → is_some (last_place_of v vs) ≡ false → Binds front vs u → Binds (front ++ s ∷ []) vs (Some s.first)
pass_free front s vs None name v is new free before =
    binds_not front s vs vs (λ rest. ap (λ t. unbound_at vs (t ∷ rest)) is ∙ free_step (last_place_of v vs) (unbound_at vs rest) free) before
pass_free front s vs (Some byte) name v is new free before = absurd cc

-- ---- where a variable stands

place_more : (o : Option ℕ) (b : Bool) (n k : ℕ) → ((j : ℕ) → o ≡ Some j → j < n) → later_or o (if b then Some 0 else None) ≡ Some k → k < suc n
place_more (Some j) b n k below e = let is : suc j ≡ k = cc in let low = below j refl in omega arith
place_more None true n k below e = let is : 0 ≡ k = cc in omega arith
place_more None false n k below e = absurd cc

pub last_place_below : (variables : List (List ℕ)) (bound : List ℕ) (k : ℕ) → last_place_of bound variables ≡ Some k → k < length variables
last_place_below [] bound k e = absurd cc
last_place_below (x ∷ xs) bound k e = place_more (last_place_of bound xs) (bytes_eq x bound) (length xs) k (last_place_below xs bound) e

pub last_place_push : (bound x : List ℕ) (xs : List (List ℕ)) → last_place_of bound (xs ++ x ∷ []) ≡ (if bytes_eq x bound then Some (length xs) else last_place_of bound xs)
last_place_push bound x [] = refl
last_place_push bound x (y ∷ ys) = through (bytes_eq x bound) (last_place_push bound x ys)
  where
    here : Option ℕ
    here = if bytes_eq y bound then Some 0 else None

    through : (b : Bool) → last_place_of bound (ys ++ x ∷ []) ≡ (if b then Some (length ys) else last_place_of bound ys) → later_or (last_place_of bound (ys ++ x ∷ [])) here ≡ (if b then Some (suc (length ys)) else later_or (last_place_of bound ys) here)
    through true e = ap (λ o. later_or o here) e
    through false e = ap (λ o. later_or o here) e

-- The last place among one more.
pub place_step : {V : Type 0} (vs : List V) (f : V → List ℕ) (bound : List ℕ) (i : ℕ) (d : V) (last : Option ℕ) (b : Bool) → i < length vs → last ≡ last_place_of bound (map f (take i vs)) → bytes_eq (f (get_or vs i d)) bound ≡ b → (if b then Some i else last) ≡ last_place_of bound (map f (take (i + 1) vs))
place_step {V = V} vs f bound i d last b less before is =
    let one : take (i + 1) vs ≡ take i vs ++ get_or vs i d ∷ [] = rw add-one (take-suc vs i d less) in
    let more : map f (take (i + 1) vs) ≡ map f (take i vs) ++ f (get_or vs i d) ∷ [] = ap (map f) one ∙ map-append f (take i vs) (get_or vs i d ∷ []) in
    let long : length (map f (take i vs)) ≡ i = length-map (take i vs) f ∙ length-take_le i vs less in
    ap (λ x. if b then Some x else last) (sym long) ∙ ap (λ o. if b then Some (length (map f (take i vs))) else o) before
    ∙ ap (λ x. if x then Some (length (map f (take i vs))) else last_place_of bound (map f (take i vs))) (sym is)
    ∙ sym (last_place_push bound (f (get_or vs i d)) (map f (take i vs))) ∙ ap (last_place_of bound) (sym more)
  where
    length-take_le : (i : ℕ) (vs : List V) → i < length vs → length (take i vs) ≡ i
    length-take_le i vs less = grind (arith, common_steps)

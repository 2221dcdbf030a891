-- Where a reader stops at a span, or at the end, is the answer.
use Rattle.std.proofs.Common.{◌≡◌, ℕ, zero, List, ◌∷◌, ◌++◌, length, Bool, Some, None, ap, sym, subst}
use Rattle.std.proofs.Math.Seq.{drop-append_seam, drop-length}
use Rattle.std.proofs.lemmas.List.{map-append, length-map}
use Rattle.hy_read.specs.Tokens.{kind_of}
use Rattle.hy_read.specs.Places.{Place, start, operator, next_place, place_after}
use Rattle.hy_read.specs.Scanning.{Span, Spans}
use Rattle.hy_read.specs.Results.{fault, Reads}
use Rattle.hy_read.specs.Answers.{Answers, faulty, first_of, tokens_of}
use Rattle.hy_read.proofs.Viable.{stuck-faults, ended-faults}

-- a token that is not allowed
pub fault-answered : (many : Bool) (limit : ℕ) (old : List (List ℕ)) (bytes : List ℕ) (front rest : List Span) (s : Span) (q : Place) → Spans zero bytes (front ++ s ∷ rest) → place_after many start (tokens_of front) ≡ Some q → next_place many q (kind_of s.token) ≡ None → Answers many limit old bytes (faulty (length front) s.first)
fault-answered many limit old bytes front rest s q split here stops =
    let tokens : tokens_of (front ++ s ∷ rest) ≡ tokens_of front ++ s.token ∷ tokens_of rest = map-append (λ x. x.token) front (s ∷ rest) in
    let count : length (tokens_of front) ≡ length front = length-map front (λ x. x.token) in
    let reads = stuck-faults many (tokens_of front) q s.token (tokens_of rest) here stops in
    record {
      spans = front ++ s ∷ rest;
      result = fault (length front);
      split = split;
      reads = subst (λ x. Reads many limit old x (fault (length front))) (sym tokens) (subst (λ k. Reads many limit old (tokens_of front ++ s.token ∷ tokens_of rest) (fault k)) count reads);
      is = ap (λ x. faulty (length front) (first_of bytes x)) (sym (drop-append_seam front (s ∷ rest)));
    }

-- an end that is not allowed
pub end-answered : (many : Bool) (limit : ℕ) (old : List (List ℕ)) (bytes : List ℕ) (spans : List Span) (q : Place) → Spans zero bytes spans → place_after many start (tokens_of spans) ≡ Some q → (q ≡ operator zero → ⊥) → Answers many limit old bytes (faulty (length spans) (length bytes))
end-answered many limit old bytes spans q split here more =
    let count : length (tokens_of spans) ≡ length spans = length-map spans (λ x. x.token) in
    let reads = ended-faults many (tokens_of spans) q here more in
    record {
      spans = spans;
      result = fault (length spans);
      split = split;
      reads = subst (λ k. Reads many limit old (tokens_of spans) (fault k)) count reads;
      is = ap (λ x. faulty (length spans) (first_of bytes x)) (sym (drop-length spans));
    }

-- The first pass over a text: one more token, a token that is not allowed, and the end.
use Rattle.std.proofs.Common.{◌≡◌, ℕ, zero, ◌+◌, ◌≤◌, max, List, [], ◌∷◌, ◌++◌, length, drop, Bool, Option, Some, None, ap, sym, subst, ◌∙◌, arith, append_assoc, append-nil, length-append}
use Rattle.std.specs.Option.{option_and_then}
use Rattle.std.proofs.lemmas.List.{map-append}
use Rattle.hy_read.specs.declared.counts.Counts.{Counts}
use Rattle.hy_read.specs.declared.scope.Scope.{Scope}
use Rattle.hy_read.specs.declared.table.Kind.{Kind}
use Rattle.hy_read.specs.declared.table.Stage.{Stage}
use Rattle.hy_read.specs.declared.token.Placed.{Placed}
use Rattle.hy_read.specs.Answers.{Answers, faulty, free, first_of, tokens_of}
use Rattle.hy_read.specs.Counting.{most_quantified, semicolons, opened_by, IsCounted}
use Rattle.hy_read.specs.Moves.{place_of, kind_of}
use Rattle.hy_read.specs.Places.{Place, start, operator, next_place, place_after}
use Rattle.hy_read.specs.Results.{unbound, unbound_at, most_open}
use Rattle.hy_read.specs.Scanning.{Span, Spans, blanks}
use Rattle.hy_read.specs.Scans.{plain, span_of, Stands}
use Rattle.hy_read.specs.Scopes.{Binds, IsScoped, variables_of}
use Rattle.hy_read.specs.Surveys.{IsPassed, IsSound}
use Rattle.hy_read.specs.Tokens as tokens
use Rattle.hy_read.specs.Tokens.{Token}
use Rattle.hy_read.proofs.Deriving.{allowed-text}
use Rattle.hy_read.proofs.Faulting.{fault-answered, end-answered}
use Rattle.hy_read.proofs.Spanning.{spans-one}
use Rattle.hy_read.proofs.Stepping.{Reached, reached-all, stands_next}
use Rattle.hy_read.proofs.Viable.{after-append}

-- one more token is read
pub reached_next : (text : List ℕ) (at : ℕ) (front : List Span) (t : Placed) → Reached text at front → Stands text at t → Reached text t.behind (front ++ span_of t ∷ [])
reached_next text at front t reached stands spans h =
    let (rest, is, left) = reached spans h in
    let (others, begins, behind) = stands_next text at t rest stands left in
    (others, is ∙ ap (λ x. front ++ x) begins ∙ sym (append_assoc front (span_of t ∷ []) others), behind)

kinds_meet : (many : Bool) (p : Place) (k : Kind) (t : Token) (o : Option Place) → kind_of k ≡ tokens.kind_of t → o ≡ next_place many p (kind_of k) → next_place many p (tokens.kind_of t) ≡ o
kinds_meet many p k t o kind next = ap (next_place many p) (sym kind) ∙ sym next

-- the token that is not allowed
pub stuck_there : (many : Bool) (limit : ℕ) (old : List (List ℕ)) (text : List ℕ) (at : ℕ) (front : List Span) (t : Placed) (k : Kind) (count : ℕ) (stage : Stage) (c : Counts) (s : Scope) → Reached text at front → Stands text at t → IsPassed many front count stage c s → kind_of k ≡ tokens.kind_of (plain t.token) → None ≡ next_place many (place_of stage c.parens) (kind_of k) → Answers many limit old text (faulty count t.first)
stuck_there many limit old text at front t k count stage c s reached stands passed kind stops =
    let (spans, split) = spans-one text in
    let (rest, is, left) = reached_next text at front t reached stands spans split in
    let whole : spans ≡ front ++ span_of t ∷ rest = is ∙ append_assoc front (span_of t ∷ []) rest in
    subst (λ n. Answers many limit old text (faulty n t.first)) (sym passed.count)
    (fault-answered many limit old text front rest (span_of t) (place_of stage c.parens) (subst (λ x. Spans zero text x) whole split) passed.here
    (kinds_meet many (place_of stage c.parens) k (plain t.token) None kind stops))

-- all tokens are read
all_read : (text : List ℕ) (at : ℕ) (front : List Span) → Reached text at front → drop (at + blanks (drop at text)) text ≡ [] → Spans zero text front
all_read text at front reached none =
    let (spans, split) = spans-one text in
    subst (λ x. Spans zero text x) (reached-all text at front spans reached none split) split

pub ended_there : (many : Bool) (limit : ℕ) (old : List (List ℕ)) (text : List ℕ) (at : ℕ) (front : List Span) (count : ℕ) (stage : Stage) (c : Counts) (s : Scope) → Reached text at front → drop (at + blanks (drop at text)) text ≡ [] → IsPassed many front count stage c s → (place_of stage c.parens ≡ operator zero → ⊥) → Answers many limit old text (faulty count (length text))
ended_there many limit old text at front count stage c s reached none passed wants =
    subst (λ n. Answers many limit old text (faulty n (length text))) (sym passed.count)
    (end-answered many limit old text front (place_of stage c.parens) (all_read text at front reached none) passed.here wants)

pub unbound_there : (many : Bool) (limit : ℕ) (old : List (List ℕ)) (text : List ℕ) (at : ℕ) (front : List Span) (count : ℕ) (stage : Stage) (c : Counts) (s : Scope) (byte : ℕ) → Reached text at front → drop (at + blanks (drop at text)) text ≡ [] → IsPassed many front count stage c s → place_of stage c.parens ≡ operator zero → s.unbound ≡ Some byte → Answers many limit old text (free byte)
unbound_there many limit old text at front count stage c s byte reached none passed done is =
    let (k, there, first) = subst (λ u. Binds front (variables_of s) u) is passed.scoped in
    record {
      spans = front;
      result = unbound k;
      split = all_read text at front reached none;
      reads = (allowed-text many (tokens_of front) (passed.here ∙ ap Some (done)), ap (unbound_at []) (sym (append-nil (tokens_of front))) ∙ there []);
      is = ap free (sym (first text []) ∙ ap (λ l. first_of text (drop k l)) (append-nil front));
    }

pub sound_there : (many : Bool) (text : List ℕ) (at : ℕ) (front : List Span) (count : ℕ) (stage : Stage) (c : Counts) (s : Scope) → Reached text at front → drop (at + blanks (drop at text)) text ≡ [] → IsPassed many front count stage c s → place_of stage c.parens ≡ operator zero → s.unbound ≡ None → IsSound many text c
sound_there many text at front count stage c s reached none passed done is =
    let binds : Binds front (variables_of s) None = subst (λ u. Binds front (variables_of s) u) is passed.scoped in
    let all : tokens_of front ++ [] ≡ tokens_of front = append-nil (tokens_of front) in
    let opens = passed.counted.opens [] in
    let words = passed.counted.words [] in
    let most_opens = passed.counted.most_of_opens in
    let most_words = passed.counted.most_of_words in
    record {
      spans = front;
      split = all_read text at front reached none;
      text = allowed-text many (tokens_of front) (passed.here ∙ ap Some (done));
      bound = ap (unbound_at []) (sym all) ∙ binds [];
      ends = sym (ap (semicolons zero) (sym all) ∙ passed.counted.ends []);
      words = largest _ _ _ (ap (most_quantified zero) (sym all) ∙ words) most_words;
      opens = largest _ _ _ (ap (most_open zero) (sym all) ∙ opens) most_opens;
    }
  where
    largest : (x m n : ℕ) → x ≡ max m n → n ≤ m → m ≡ x
    largest x m n e le = omega arith

-- What is known behind one more token.
pub passed_more : (many : Bool) (front : List Span) (t : Placed) (k : Kind) (count : ℕ) (stage after : Stage) (old new : Counts) (s u : Scope) → IsPassed many front count stage old s → kind_of k ≡ tokens.kind_of (plain t.token) → Some (place_of after (opened_by (kind_of k) old.parens)) ≡ next_place many (place_of stage old.parens) (kind_of k) → new.parens ≡ opened_by (kind_of k) old.parens → IsCounted (tokens_of front ++ plain t.token ∷ []) new → IsScoped (front ++ span_of t ∷ []) u → IsPassed many (front ++ span_of t ∷ []) (count + 1) after new u
passed_more many front t k count stage after old new s u passed kind next opened counted scoped =
    let all : tokens_of (front ++ span_of t ∷ []) ≡ tokens_of front ++ plain t.token ∷ [] = map-append (λ x. x.token) front (span_of t ∷ []) in
    let before = passed.count in
    record {
      count = omega (arith, before, length-append front (span_of t ∷ []));
      here = ap (place_after many start) all ∙ after-append many (tokens_of front) (plain t.token ∷ []) start (place_of stage old.parens) passed.here
          ∙ ap (option_and_then (λ q. Some q)) (kinds_meet many (place_of stage old.parens) k (plain t.token) _ kind next) ∙ ap (λ n. Some (place_of after n)) (sym opened);
      counted = subst (λ x. IsCounted x new) (sym all) counted;
      scoped = scoped;
    }

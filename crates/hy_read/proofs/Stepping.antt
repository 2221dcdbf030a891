-- One token of a text, at a place of it.
use Rattle.std.proofs.Common.{◌≡◌, ℕ, zero, ◌+◌, List, [], ◌∷◌, ◌++◌, length, length-drop, arith, drop, refl, ap, sym, subst, ◌∙◌, append-nil}
use Rattle.std.proofs.Math.Seq.{drop-drop}
use Rattle.hy_read.specs.Tokens.{Token}
use Rattle.hy_read.specs.declared.token.Placed.{Placed}
use Rattle.hy_read.specs.Answers.{tokens_of}
use Rattle.hy_read.specs.Parses.{AreLeft}
use Rattle.hy_read.specs.Scanning.{Span, first_token, blanks, Spans}
use Rattle.hy_read.specs.Scans.{plain, span_of, Stands}
use Rattle.hy_read.proofs.Spanning.{span, same-span}

-- where only blanks are left
pub no-span : (at : ℕ) (text : List ℕ) (spans : List Span) → Spans at text spans → drop (blanks text) text ≡ [] → spans ≡ []
no-span at text [] h e = refl
no-span at text (s ∷ spans) (b, bs, n, f, t, g, h) e = absurd cc

-- the first token and what is behind it
pub next-span : (at : ℕ) (text : List ℕ) (spans : List Span) (c : ℕ) (cs : List ℕ) (t : Token) (m : ℕ) → Spans at text spans → drop (blanks text) text ≡ c ∷ cs → first_token (c ∷ cs) ≡ (t, m) → (rest : List Span) × (spans ≡ span t (at + blanks text) ∷ rest) × Spans (at + blanks text + m) (drop m (c ∷ cs)) rest
next-span at text [] c cs t m h e f = absurd cc
next-span at text (s ∷ spans) c cs t m (b, bs, n, d, r, g, h) e f =
    let same : b ∷ bs ≡ c ∷ cs = sym d ∙ e in
    let pairs : (s.token, n) ≡ (t, m) = sym r ∙ ap first_token same ∙ f in
    let tokens : s.token ≡ t = ap (λ (p : Token × ℕ). p.0) pairs in
    let ends : n ≡ m = ap (λ (p : Token × ℕ). p.1) pairs in
    let one : Spans (at + blanks text + m) (drop m (b ∷ bs)) spans = subst (λ x. Spans (at + blanks text + x) (drop x (b ∷ bs)) spans) ends h in
    let two : Spans (at + blanks text + m) (drop m (c ∷ cs)) spans = subst (λ x. Spans (at + blanks text + m) (drop m x) spans) same one in
    (spans, ap (λ x. x ∷ spans) (same-span s (span t (at + blanks text)) tokens g), two)

-- the token that stands there and what is behind it
pub stands_next : (text : List ℕ) (at : ℕ) (t : Placed) (spans : List Span) → Stands text at t → Spans at (drop at text) spans → (rest : List Span) × (spans ≡ span_of t ∷ rest) × Spans t.behind (drop t.behind text) rest
stands_next text at t spans stands h = through (drop t.first text) refl
  where
    through : (here : List ℕ) → drop t.first text ≡ here → (rest : List Span) × (spans ≡ span_of t ∷ rest) × Spans t.behind (drop t.behind text) rest
    through [] e =
        let none = ap length e in
        let longer = stands.longer in
        let within = stands.within in
        absurd (omega (arith, none, longer, within, length-drop t.first text))
    through (c ∷ cs) e =
        let here : drop (blanks (drop at text)) (drop at text) ≡ c ∷ cs = drop-drop (blanks (drop at text)) at text ∙ ap (λ n. drop n text) (sym stands.blank) ∙ e in
        let is : first_token (c ∷ cs) ≡ (plain t.token, stands.size) = ap first_token (sym e) ∙ stands.is in
        let (others, begins, behind) = next-span at (drop at text) spans c cs (plain t.token) stands.size h here is in
        let moved : drop stands.size (c ∷ cs) ≡ drop t.behind text = ap (drop stands.size) (sym e) ∙ drop-drop stands.size t.first text ∙ ap (λ n. drop n text) (sym stands.ends) in
        let place : at + blanks (drop at text) + stands.size ≡ t.behind = ap (λ n. n + stands.size) (sym stands.blank) ∙ sym stands.ends in
        (others, begins ∙ ap (λ f. span (plain t.token) f ∷ others) (sym stands.blank), subst (λ x. Spans t.behind x others) moved (subst (λ n. Spans n (drop stands.size (c ∷ cs)) others) place behind))

-- the tokens from a place on
pub stands_left : (text : List ℕ) (at : ℕ) (t : Placed) (tokens : List Token) → Stands text at t → AreLeft text at tokens → (more : List Token) × (tokens ≡ plain t.token ∷ more) × AreLeft text t.behind more
stands_left text at t tokens stands (spans, split, is) =
    let (rest, begins, left) = stands_next text at t spans stands split in
    (tokens_of rest, is ∙ ap tokens_of begins, (rest, left, refl))

pub none_left : (text : List ℕ) (at : ℕ) (tokens : List Token) → drop (at + blanks (drop at text)) text ≡ [] → AreLeft text at tokens → tokens ≡ []
none_left text at tokens e (spans, split, is) =
    is ∙ ap tokens_of (no-span at (drop at text) spans split (drop-drop (blanks (drop at text)) at text ∙ e))

-- what is read of the spans of a file, up to a place
abbrev pub Reached : List ℕ → ℕ → List Span → Type 0
Reached bytes at front = (spans : List Span) → Spans zero bytes spans → (rest : List Span) × (spans ≡ front ++ rest) × Spans at (drop at bytes) rest

-- all tokens are read
pub reached-all : (bytes : List ℕ) (at : ℕ) (front spans : List Span) → Reached bytes at front → drop (at + blanks (drop at bytes)) bytes ≡ [] → Spans zero bytes spans → spans ≡ front
reached-all bytes at front spans reached e h =
    let (rest, is, left) = reached spans h in
    let none = no-span at (drop at bytes) rest left (drop-drop (blanks (drop at bytes)) at bytes ∙ e) in
    is ∙ ap (λ x. front ++ x) none ∙ append-nil front

-- The given trace among what comes at the places of a walk.
use Rattle.std.proofs.Common.{◌≡◌, ℕ, zero, suc, ◌<◌, ◌≤◌, Bool, true, false, IsTrue, nat_eq, List, [], ◌∷◌, length, take, slice_get, get_or, Option, Some, None, IfSome, IfNone, refl, sym, ap, ◌∙◌, subst, arith}
use Rattle.std.specs.List.{Contains}
use Rattle.hy_base.proofs.Members.{map-from}
use Rattle.hy_bits.specs.Letter.{Letter as NameSet}
use Rattle.hy_finite.specs.Traces.{Trace}
use Rattle.trace_trie.specs.Numbered.{Numbered, same_letter, tail, under, led_by}
use Rattle.trace_trie.proofs.Lettering.{equal-letter, letter-itself}
use Rattle.hy_finite.specs.declared.lengths.Lengths.{Lengths}
use Rattle.tuple_walk.specs.declared.place.Taken.{Taken}
use Rattle.tuple_walk.specs.declared.place.Taken.TheVariants.{Nothing, Letter, Gap}
use Rattle.tuple_walk.specs.declared.place.Place.{Place}
use Rattle.tuple_walk.specs.declared.places.Places.{Places}
use Rattle.tuple_walk.specs.Four.{four, first_places}
use Rattle.tuple_walk.specs.JointPrefixes.{entry}
use Rattle.tuple_walk.specs.Places.{whole_of, whole_behind, IsWay, IsMoved, IsMovedTo}
use Rattle.tuple_walk.specs.Searches.{Sought}
use Rattle.tuple_walk.specs.Serving.{Agrees, MayServe, IsBehind, Stays}
use Rattle.tuple_walk.proofs.Lists.{some-same, some-in}
use Rattle.tuple_walk.proofs.Nexts.{at-some}
use Rattle.tuple_walk.proofs.Stepping.{left_at, first-member}
use Rattle.tuple_walk.proofs.Ways.{kept-under, letter-way, long-led}

-- marks by what is asked of them
pub marked-at : (marks : List Bool) (i : ℕ) → get_or marks i false ≡ true
    → slice_get marks i ≡ Some true
marked-at [] i e = absurd (cc)
marked-at (a ∷ marks) zero e = ap (λ (x : Bool). Some x) e
marked-at (a ∷ marks) (suc i) e = marked-at marks i e

pub not-marked : (marks : List Bool) (i : ℕ) → get_or marks i false ≡ false
    → ¬ (slice_get marks i ≡ Some true)
not-marked [] i e is = absurd (cc)
not-marked (a ∷ marks) zero e is = absurd (cc)
not-marked (a ∷ marks) (suc i) e is = not-marked marks i e is

-- what a trace has first, by the test of its letter
pub same-first : (a b : NameSet) (t : Trace) (r : Bool) → r ≡ same_letter a b → b ≡ get_or t 0 b
    → nat_eq (length t) 0 ≡ false → (IsTrue r → entry t ≡ Some a) × (entry t ≡ Some a → IsTrue r)
same-first a b [] r is at some = absurd (cc)
same-first a b (d ∷ t) r is at some = (
  λ same. ap (λ (x : NameSet). Some x) (sym (equal-letter a b (sym is ∙ same) ∙ at)),
  λ e.
      let same : a ≡ d = cc in
      is ∙ ap (same_letter a) (at ∙ sym same) ∙ letter-itself a,
)

pub get-take : {A : Type 0} (n : ℕ) (xs : List A) (i : ℕ) (x : A) → slice_get (take n xs) i ≡ Some x
    → slice_get xs i ≡ Some x
get-take zero xs i x e = absurd (cc)
get-take (suc n) [] i x e = e
get-take (suc n) (y ∷ ys) zero x e = e
get-take (suc n) (y ∷ ys) (suc i) x e = get-take n ys i x e

pub take-get : {A : Type 0} (n : ℕ) (xs : List A) (i : ℕ) (x : A) → i < n
    → slice_get xs i ≡ Some x → slice_get (take n xs) i ≡ Some x
take-get zero xs i x lt e = absurd (omega arith)
take-get (suc n) [] i x lt e = e
take-get (suc n) (y ∷ ys) zero x lt e = e
take-get (suc n) (y ∷ ys) (suc i) x lt e = take-get n ys i x (omega arith) e

-- the trace behind a step, by what stays at each of four places
pub behind-by : (s u : Sought) (places : Places) (n : ℕ) (a b c d : Bool)
    → u.given.0 ≡ s.given.0 → u.given.1 ≡ tail s.given.1 → u.marks ≡ a ∷ b ∷ c ∷ d ∷ []
    → Stays s (four places) 0 a → Stays s (four places) 1 b → Stays s (four places) 2 c
    → Stays s (four places) 3 d → IsBehind s u (first_places n places)
behind-by s u places n a b c d number rest marks f g h k = record {
  number = number;
  rest = rest;
  kept = λ i may.
      ap (λ (l : List Bool). slice_get l i) marks
      ∙ stays i may.place (get-take n (four places) i may.place may.at) may.marked may.agrees;
  only = λ i p marked at.
      left i p (get-take n (four places) i p at)
      (sym (ap (λ (l : List Bool). slice_get l i) marks) ∙ marked);
}
  where
    stays : (i : ℕ) (p : Place) → slice_get (four places) i ≡ Some p
        → slice_get s.marks i ≡ Some true → Agrees p.taken s.given.1
        → slice_get (a ∷ b ∷ c ∷ d ∷ []) i ≡ Some true
    stays zero p at marked agrees = ap (λ (x : Bool). Some x) ((f p at).1 (marked, agrees))
    stays (suc zero) p at marked agrees = ap (λ (x : Bool). Some x) ((g p at).1 (marked, agrees))
    stays (suc (suc zero)) p at marked agrees =
        ap (λ (x : Bool). Some x) ((h p at).1 (marked, agrees))
    stays (suc (suc (suc zero))) p at marked agrees =
        ap (λ (x : Bool). Some x) ((k p at).1 (marked, agrees))
    stays (suc (suc (suc (suc i)))) p at marked agrees = absurd (cc)

    left : (i : ℕ) (p : Place) → slice_get (four places) i ≡ Some p
        → slice_get (a ∷ b ∷ c ∷ d ∷ []) i ≡ Some true
        → (slice_get s.marks i ≡ Some true) × Agrees p.taken s.given.1
    left zero p at e = (f p at).0 (some-same e)
    left (suc zero) p at e = (g p at).0 (some-same e)
    left (suc (suc zero)) p at e = (h p at).0 (some-same e)
    left (suc (suc (suc zero))) p at e = (k p at).0 (some-same e)
    left (suc (suc (suc (suc i)))) p at e = absurd (cc)

pub first-is : (b : NameSet) (t : Trace) → nat_eq (length t) 0 ≡ false
    → entry t ≡ Some (get_or t 0 b)
first-is b [] some = absurd (cc)
first-is b (d ∷ t) some = refl

-- where the given trace may come, by the test
module _ (s : Sought) (places : Places) (n j : ℕ) (b : Bool) (stays : Stays s (four places) j b) where
  pub may-serve : j < n → n ≤ 4 → b ≡ true → MayServe s (first_places n places) j
  may-serve lt few yes_so =
      let (p, at) = at-some (four places) j (omega (arith, lt, few)) in
      let (marked, agrees) = (stays p at).0 yes_so in
      record { marked = marked; place = p; at = take-get n (four places) j p lt at; agrees = agrees }

  pub may-not : b ≡ false → ¬ MayServe s (first_places n places) j
  may-not no_so may =
      let at = get-take n (four places) j may.place may.at in
      let e : b ≡ true = (stays may.place at).1 (may.marked, may.agrees) in
      absurd (cc)

-- behind the letter that the given trace has next
module _ (rests : List Numbered) (x : Numbered) (there : Contains rests x) (a : NameSet)
    (first : entry x.1 ≡ Some a) (r : Option Place) where
  goes : 0 < length (under a rests)
  goes =
      let some = some-in (led_by a (under a rests)) x (kept-under a rests x first there) in
      omega (arith, some, long-led a (under a rests))

  pub given-way : IfSome r (λ p. whole_of p ≡ led_by a (under a rests))
      → IfSome r (λ p. IsWay rests (entry x.1) (whole_of p))
  given-way is = at r is
    where
      at : (r : Option Place) → IfSome r (λ p. whole_of p ≡ led_by a (under a rests))
          → IfSome r (λ p. IsWay rests (entry x.1) (whole_of p))
      at None is = tt
      at (Some p) is =
          let P : List Numbered → Type 0 = IsWay rests (Some a) in
          let Q : Option NameSet → Type 0 = λ e. IsWay rests e (whole_of p) in
          subst Q (sym first) (subst P (sym is) (letter-way a rests goes))

  pub given-serves : IfSome r (λ p. whole_of p ≡ led_by a (under a rests))
      → IfSome r (λ p. Contains (whole_of p) x)
  given-serves is = at r is
    where
      at : (r : Option Place) → IfSome r (λ p. whole_of p ≡ led_by a (under a rests))
          → IfSome r (λ p. Contains (whole_of p) x)
      at None is = tt
      at (Some p) is =
          let P : List Numbered → Type 0 = λ l. Contains l x in
          subst P (sym is) (kept-under a rests x first there)

  pub given-none : IfNone r (under a rests ≡ []) → (P : Type 0) → IfNone r P
  given-none none P = at r none
    where
      at : (r : Option Place) → IfNone r (under a rests ≡ []) → IfNone r P
      at (Some p) none = tt
      at None none = absurd (omega (arith, goes, ap (λ (l : List Numbered). length l) none))

-- past an end comes what has ended
gap-agrees : (lengths : Lengths) (p : Place) (rests : List Numbered) (t : Trace) → IsMoved lengths p
    → IsWay rests None (whole_of p) → Agrees p.taken t → t ≡ []
gap-agrees lengths p rests t moved way agrees = at p.taken moved way agrees
  where
    at : (k : Taken) → IsMovedTo lengths k (left_at p) → IsWay rests None (whole_behind k (left_at p))
        → Agrees k t → t ≡ []
    at Nothing moved way agrees = absurd moved
    at (Letter a) moved way agrees =
        let (x, c) = first-member (led_by a (left_at p)) way.some in
        let (y, d, e) = map-from (λ (q : Numbered). (q.0, a ∷ q.1)) (left_at p) x c in
        let first : Some a ≡ None = ap (λ (q : Numbered). entry q.1) e ∙ way.first x c in
        absurd (cc)
    at Gap moved way agrees = agrees

pub gap-serves : (lengths : Lengths) (rests : List Numbered) (x : Numbered) (P : Type 0)
    (r : Option Place) → ¬ (P × (x.1 ≡ [])) → IfSome r (IsMoved lengths)
    → IfSome r (λ p. IsWay rests None (whole_of p))
    → IfSome r (λ p. P → Agrees p.taken x.1 → Contains (whole_of p) x)
gap-serves lengths rests x P None other moved way = tt
gap-serves lengths rests x P (Some p) other moved way =
    λ marked agrees. absurd (other (marked, gap-agrees lengths p rests x.1 moved way agrees))

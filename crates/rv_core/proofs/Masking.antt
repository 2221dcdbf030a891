-- A body says of masked traces what it says of the traces, and so a list violates a spec where the
-- masked one does.
use Rattle.std.proofs.Common.{◌≡◌, ◌↔◌, ◌⊎◌, ℕ, zero, suc, ◌+◌, ◌<◌, Bool, true, false, ◌||◌, ◌&&◌, List, [], ◌∷◌, ◌++◌, length, slice_index_or, IsTrue, refl, sym, ap, ap₂, ◌∙◌, subst, arith}
use Rattle.std.specs.List.{Contains, All}
use Rattle.std.specs.FinSet.{empty, contains, intersection, contains-intersection, contains-retain, nat_cmp-IsAntisymmetric}
use Rattle.std.specs.Cmp.{nat_cmp_total}
use Rattle.std.proofs.Math.Path.{fun_ext}
use Rattle.std.proofs.lemmas.Bool.{eq-eqb, or_left, or_right}
use Rattle.std.proofs.lemmas.List.{length-map, map-append}
use Rattle.std.proofs.lemmas.List.Elements.{All-head, All-tail}
use Rattle.hy_base.proofs.Members.{map-of, map-from}
use Rattle.hy_bits.specs.Letter.{Letter}
use Rattle.hy_bits.specs.BinaryLaws.{same_members}
use Rattle.hy_formula.specs.Atoms.{has_name}
use Rattle.hy_formula.specs.Quantifiers.{Each}
use Rattle.hy_formula.specs.Temporal.{Span, below, Within, Words, IsUntil, IsRelease, SatisfiesAt}
use Rattle.hy_formula.specs.Trees.{Tree, always, never, atom, not, next, finally, globally, and, or, implies, iff, until, release, weak}
use Rattle.hy_finite.specs.declared.lengths.Lengths.{Lengths}
use Rattle.hy_finite.specs.Traces.{Trace, of_two, judged, trace_words, Meets, picked}
use Rattle.dominance.specs.Dominance.{IsTrace, Dominates}
use Rattle.rv_core.specs.Endings.{Spec, ViolatesSpec}
use Rattle.rv_core.specs.Masks.{masked_letter, masked, masked_list, AreNamesOf}
use Rattle.rv_core.specs.Replies.{IsViolatedBy}

-- ---- a body reads its own names

module _ (span : Span) (words told : Words) where
  -- The words say the same of each name of the tree.
  abbrev AgreeOn : Tree → Type 0
  AgreeOn f = (n : ℕ) → has_name f n ≡ true → words n ≡ told n

  agree-left : (f g : Tree) → ((n : ℕ) → (has_name f n || has_name g n) ≡ true → words n ≡ told n)
      → AgreeOn f
  agree-left f g both n has = both n (or_left (has_name f n) (has_name g n) has)

  agree-right : (f g : Tree) → ((n : ℕ) → (has_name f n || has_name g n) ≡ true → words n ≡ told n)
      → AgreeOn g
  agree-right f g both n has = both n (or_right (has_name f n) (has_name g n) has)

  pub says-same : (f : Tree) → AgreeOn f → SatisfiesAt span words f ≡ SatisfiesAt span told f
  says-same always on = refl
  says-same never on = refl
  says-same (atom n v) on =
      ap (λ (w : ℕ → ℕ → Bool). λ (i : ℕ). IsTrue (w v i)) (on n (eq-eqb n n refl))
  says-same (not f) on = ap (λ (P : ℕ → Type 0). λ (i : ℕ). ¬ P i) (says-same f on)
  says-same (next f) on =
      ap (λ (P : ℕ → Type 0). λ (i : ℕ). Within span (i + 1) × P (i + 1)) (says-same f on)
  says-same (finally f) on = ap (IsUntil span (λ _. Unit {0})) (says-same f on)
  says-same (globally f) on = ap (IsRelease span (λ _. ⊥)) (says-same f on)
  says-same (and f g) on =
      ap₂ (λ (P Q : ℕ → Type 0). λ (i : ℕ). P i × Q i)
      (says-same f (agree-left f g on)) (says-same g (agree-right f g on))
  says-same (or f g) on =
      ap₂ (λ (P Q : ℕ → Type 0). λ (i : ℕ). P i ⊎ Q i)
      (says-same f (agree-left f g on)) (says-same g (agree-right f g on))
  says-same (implies f g) on =
      ap₂ (λ (P Q : ℕ → Type 0). λ (i : ℕ). P i → Q i)
      (says-same f (agree-left f g on)) (says-same g (agree-right f g on))
  says-same (iff f g) on =
      ap₂ (λ (P Q : ℕ → Type 0). λ (i : ℕ). (P i → Q i) × (Q i → P i))
      (says-same f (agree-left f g on)) (says-same g (agree-right f g on))
  says-same (until f g) on =
      ap₂ (IsUntil span) (says-same f (agree-left f g on)) (says-same g (agree-right f g on))
  says-same (release f g) on =
      ap₂ (IsRelease span) (says-same f (agree-left f g on)) (says-same g (agree-right f g on))
  says-same (weak f g) on =
      ap₂ (λ (P Q : ℕ → Type 0). IsRelease span Q (λ k. P k ⊎ Q k))
      (says-same f (agree-left f g on)) (says-same g (agree-right f g on))

-- ---- masked letters

contains-masked : (spec : Spec) (a : Letter) (n : ℕ)
    → contains (masked_letter spec a) n ≡ (contains a n && has_name spec.body n)
contains-masked spec a n =
    contains-retain a (has_name spec.body) n
    (λ x tie. sym (ap (has_name spec.body) (nat_cmp-IsAntisymmetric n x tie)))

and-again : (a b : Bool) → ((a && b) && b) ≡ (a && b)
and-again true true = refl
and-again true false = refl
and-again false b = refl

masked-again : (spec : Spec) (a : Letter)
    → masked_letter spec (masked_letter spec a) ≡ masked_letter spec a
masked-again spec a =
    same_members _ _ (λ n.
    contains-masked spec (masked_letter spec a) n
    ∙ ap (λ b. b && has_name spec.body n) (contains-masked spec a n)
    ∙ and-again (contains a n) (has_name spec.body n)
    ∙ sym (contains-masked spec a n))

-- the names of a body are the mask
pub mask-names : (spec : Spec) (names a : Letter) → AreNamesOf names spec.body
    → intersection a names ≡ masked_letter spec a
mask-names spec names a are =
    same_members _ _ (λ n.
    contains-intersection nat_cmp_total a names n
    ∙ ap (λ b. contains a n && b) (are n)
    ∙ sym (contains-masked spec a n))

-- ---- masked traces

pub masked-twice : (spec : Spec) (t : Trace) → masked spec (masked spec t) ≡ masked spec t
masked-twice spec [] = refl
masked-twice spec (a ∷ t) = λ i. masked-again spec a i ∷ masked-twice spec t i

pub masked-some : (spec : Spec) (t : Trace) → IsTrace t → IsTrace (masked spec t)
masked-some spec t some = omega (arith, some, length-map t (masked_letter spec))

pub masked-all-some : (spec : Spec) (list : List Trace) → Each IsTrace list
    → Each IsTrace (masked_list spec list)
masked-all-some spec [] some = tt
masked-all-some spec (t ∷ ts) (here, some) = (masked-some spec t here, masked-all-some spec ts some)

pub masked-index : (spec : Spec) (list : List Trace) (k : ℕ)
    → slice_index_or (masked_list spec list) k [] ≡ masked spec (slice_index_or list k [])
masked-index spec [] k = refl
masked-index spec (t ∷ ts) zero = refl
masked-index spec (t ∷ ts) (suc k) = masked-index spec ts k

masked-picked : (spec : Spec) (list : List Trace) (pick : List ℕ)
    → picked (masked_list spec list) pick ≡ masked_list spec (picked list pick)
masked-picked spec list [] = refl
masked-picked spec list (k ∷ ks) = λ i. masked-index spec list k i ∷ masked-picked spec list ks i

module _ (spec : Spec) (name : ℕ) (has : has_name spec.body name ≡ true) where
  and-true : (a b : Bool) → b ≡ true → (a && b) ≡ a
  and-true true b e = e
  and-true false b e = refl

  letter-says : (t : Trace) (i : ℕ)
      → contains (slice_index_or (masked spec t) i empty) name
      ≡ contains (slice_index_or t i empty) name
  letter-says [] i = refl
  letter-says (a ∷ t) zero =
      contains-masked spec a name ∙ and-true (contains a name) (has_name spec.body name) has
  letter-says (a ∷ t) (suc i) = letter-says t i

  words-say : (tuple : List Trace)
      → trace_words (masked_list spec tuple) name ≡ trace_words tuple name
  words-say tuple =
      fun_ext (λ v. fun_ext (λ i.
      ap (λ (t : Trace). contains (slice_index_or t i empty) name) (masked-index spec tuple v)
      ∙ letter-says (slice_index_or tuple v []) i))

pub masked-judged : (rule : Lengths) (spec : Spec) (tuple : List Trace)
    → judged rule (masked_list spec tuple) ≡ judged rule tuple
masked-judged rule spec [] = refl
masked-judged rule spec (t ∷ []) = length-map t (masked_letter spec)
masked-judged rule spec (t ∷ u ∷ ts) =
    ap₂ (of_two rule) (length-map t (masked_letter spec)) (masked-judged rule spec (u ∷ ts))

module _ (rule : Lengths) (spec : Spec) where
  pub meets-masked : (tuple : List Trace)
      → Meets rule spec.body tuple ↔ Meets rule spec.body (masked_list spec tuple)
  meets-masked tuple =
      let masks = masked_list spec tuple in
      let P : ℕ → Type 0 = λ n. SatisfiesAt (below n) (trace_words masks) spec.body 0 in
      let Q : (ℕ → Type 0) → Type 0 = λ F. F 0 in
      let same = says-same (below (judged rule tuple)) (trace_words masks) (trace_words tuple)
      spec.body (λ n has. words-say spec n has tuple) in
      let long = masked-judged rule spec tuple in (
        λ m. subst P (sym long) (subst Q (sym same) m),
        λ m. subst Q same (subst P long m),
      )

  -- tuples that are seen alike
  meets-alike : (tuple other : List Trace) → masked_list spec tuple ≡ masked_list spec other
      → Meets rule spec.body tuple → Meets rule spec.body other
  meets-alike tuple other same m =
      let P : List Trace → Type 0 = Meets rule spec.body in
      (meets-masked other).1 (subst P same ((meets-masked tuple).0 m))

  seen-alike : (before after : List Trace) (t : Trace)
      → masked_list spec (before ++ masked spec t ∷ after) ≡ masked_list spec (before ++ t ∷ after)
  seen-alike [] after t = ap (λ (u : Trace). u ∷ masked_list spec after) (masked-twice spec t)
  seen-alike (b ∷ before) after t =
      ap (λ (us : List Trace). masked spec b ∷ us) (seen-alike before after t)

  pub dominates-masked : (t u : Trace)
      → Dominates rule spec.variables spec.body t u
      ↔ Dominates rule spec.variables spec.body (masked spec t) (masked spec u)
  dominates-masked t u = (
    λ over before after some_before some_after count fails m.
        over before after some_before some_after count
        (λ n. fails (meets-alike (before ++ u ∷ after) (before ++ masked spec u ∷ after)
        (sym (seen-alike before after u)) n))
        (meets-alike (before ++ masked spec t ∷ after) (before ++ t ∷ after)
        (seen-alike before after t) m),
    λ over before after some_before some_after count fails m.
        over before after some_before some_after count
        (λ n. fails (meets-alike (before ++ masked spec u ∷ after) (before ++ u ∷ after)
        (seen-alike before after u) n))
        (meets-alike (before ++ t ∷ after) (before ++ masked spec t ∷ after)
        (sym (seen-alike before after t)) m),
  )

  -- ---- lists

  each-masked : (list tuple : List Trace) → Each (Contains list) tuple
      → Each (Contains (masked_list spec list)) (masked_list spec tuple)
  each-masked list [] members = tt
  each-masked list (t ∷ ts) (here, members) =
      (map-of (masked spec) list t here, each-masked list ts members)

  pub violates-masked : (list : List Trace) → ViolatesSpec rule list spec
      → ViolatesSpec rule (masked_list spec list) spec
  violates-masked list (tuple, (is, fails)) = (
    masked_list spec tuple,
    (
      record {
        count = length-map tuple (masked spec) ∙ is.count;
        members = each-masked list tuple is.members;
      },
      λ m. fails ((meets-masked tuple).1 m),
    ),
  )

  -- members that are seen so
  pub unmasked : (list masks : List Trace) → Each (Contains (masked_list spec list)) masks
      → (tuple : List Trace) × Each (Contains list) tuple × (masked_list spec tuple ≡ masks)
  unmasked list [] members = ([], tt, refl)
  unmasked list (u ∷ us) (here, members) =
      let (t, in_list, e) = map-from (masked spec) list u here in
      let (ts, rest, es) = unmasked list us members in
      (t ∷ ts, (in_list, rest), λ i. e i ∷ es i)

  pub violates-unmasked : (list : List Trace) → ViolatesSpec rule (masked_list spec list) spec
      → ViolatesSpec rule list spec
  violates-unmasked list (masks, (is, fails)) =
      let (tuple, members, same) = unmasked list masks is.members in
      let P : List Trace → Type 0 = λ us. ¬ Meets rule spec.body us in (
        tuple,
        (
          record {
            count = sym (length-map tuple (masked spec))
                ∙ ap (λ (us : List Trace). length us) same ∙ is.count;
            members = members;
          },
          λ m. subst P (sym same) fails ((meets-masked tuple).0 m),
        ),
      )

  at-inside : (list : List Trace) (k : ℕ) → k < length list
      → Contains list (slice_index_or list k [])
  at-inside list k lt = (k, lt, get_or-default list k lt)
    where
      get_or-default : (list : List Trace) (k : ℕ) → k < length list
          → slice_index_or list k (slice_index_or list k []) ≡ slice_index_or list k []
      get_or-default [] k lt = absurd (omega arith)
      get_or-default (t ∷ ts) zero lt = refl
      get_or-default (t ∷ ts) (suc k) lt = get_or-default ts k (omega arith)

  inside-members : (list : List Trace) (pick : List ℕ) → All (λ k. k < length list) pick
      → Each (Contains list) (picked list pick)
  inside-members list [] inside = tt
  inside-members list (k ∷ ks) inside = (
    at-inside list k (All-head (λ j. j < length list) k ks inside),
    inside-members list ks (All-tail (λ j. j < length list) k ks inside),
  )

  pub violated-unmasked : (list : List Trace) (tuple : List ℕ)
      → IsViolatedBy rule spec (masked_list spec list) tuple → IsViolatedBy rule spec list tuple
  violated-unmasked list tuple v =
      let P : ℕ → Type 0 = λ n. All (λ k. k < n) tuple in
      let Q : List Trace → Type 0 = λ us. ¬ Meets rule spec.body us in
      let inside = subst P (length-map list (masked spec)) v.inside in
      record {
        long = v.long;
        inside = inside;
        violates = (
          record {
            count = length-map tuple (λ k. slice_index_or list k []) ∙ v.long;
            members = inside-members list tuple inside;
          },
          λ m. subst Q (masked-picked spec list tuple) v.violates.1
              ((meets-masked (picked list tuple)).0 m),
        );
      }

pub masked-push : (spec : Spec) (list : List Trace) (t : Trace)
    → masked_list spec (list ++ t ∷ []) ≡ masked_list spec list ++ masked spec t ∷ []
masked-push spec list t = map-append (masked spec) list (t ∷ [])

-- What one depends on is what is found, step by step.
use Rattle.std.proofs.Common.{◌≡◌, ◌≢◌, ℕ, ◌+◌, ◌/◌, ◌<◌, ◌≤◌, ◌⊎◌, Bool, true, false, nat_eq, inl, inr, refl, sym, ◌∙◌, ap, subst, arith, Option, Some, None, List, [], ◌∷◌, ◌++◌, length, get_or, set, length-append}
use Rattle.std.specs.Prelude.{slice_get, slice_index_or, IsTrue, ◌↔◌}
use Rattle.std.proofs.lemmas.Bool.{cases_eq, cases_lt, eqb-true, eq-eqb, or_left, or_right, or_cases}
use Rattle.std.proofs.lemmas.List.{get_or-set_same, get_or-set_other, length-set, get_or_append_left}
use Rattle.std.proofs.lemmas.Option.{get_or_from_slice_get}
use Rattle.std.proofs.Math.Seq.{get_or-append_seam}
use Rattle.hy_base.proofs.Places.{two-equal}
use Rattle.aig_order.specs.declared.gate.Gate.{Gate}
use Rattle.aig_order.specs.Gates.{gate_at, uses, Depends, at_once, through}
use Rattle.aig_order.specs.Takings.{AreDefiners}
use Rattle.aig_order.specs.Reaching.{IsVisited, AreVisited}

pub read-at : {A : Type 0} (xs : List A) (i : ℕ) (x d : A) → slice_get xs i ≡ Some x → x ≡ get_or xs i d
read-at xs i x d e = sym (get_or_from_slice_get xs i x d e)

-- ---- what an and uses

pub sides : (gates : List Gate) (top : ℕ) (definers : List (Option ℕ)) (k : ℕ) (a b : Option ℕ) (seen mid_seen new_seen : List Bool) (found mid_found new_found : List ℕ) → AreDefiners gates top (length gates) definers → a ≡ slice_index_or definers ((gate_at gates k).left / 2) None → b ≡ slice_index_or definers ((gate_at gates k).right / 2) None → IsVisited a seen found mid_seen mid_found → IsVisited b mid_seen mid_found new_seen new_found → AreVisited gates k seen found new_seen new_found
sides gates top definers k a b seen mid_seen new_seen found mid_found new_found are left right one two = record {
  left = a;
  right = b;
  mid_seen = mid_seen;
  mid_found = mid_found;
  first = one;
  second = two;
  used_left = λ j e. let (lt, is) = are.right _ j (sym left ∙ e) in (lt, or_left _ _ (eq-eqb _ _ (sym is)));
  used_right = λ j e. let (lt, is) = are.right _ j (sym right ∙ e) in (lt, or_right (nat_eq ((gate_at gates k).left / 2) _) _ (eq-eqb _ _ (sym is)));
  all = λ j lt used. elim (or_cases (nat_eq ((gate_at gates k).left / 2) ((gate_at gates j).lhs / 2)) _ used) [
    | inl l ↦ inl (left ∙ ap (λ v. slice_index_or definers v None) (eqb-true _ _ l) ∙ are.all j lt)
    | inr r ↦ inr (right ∙ ap (λ v. slice_index_or definers v None) (eqb-true _ _ r) ∙ are.all j lt)
  ];
}

pub visited_long : (o : Option ℕ) (seen new_seen : List Bool) (found new_found : List ℕ) → IsVisited o seen found new_seen new_found → length new_seen ≡ length seen
visited_long None seen new_seen found new_found (same, also) = ap length same
visited_long (Some j) seen new_seen found new_found (inl (there, same, also)) = ap length same
visited_long (Some j) seen new_seen found new_found (inr (fresh, same, also)) = ap length same ∙ length-set seen j true

-- ---- what is found

module _ (gates : List Gate) (k : ℕ) where
  pub record AreFound (seen : List Bool) (found : List ℕ) : Type 0 where
    pub long : length seen ≡ length gates
    pub sound : (j : ℕ) → j < length gates → get_or seen j false ≡ true → Depends gates k j
    pub listed : (j : ℕ) → j < length gates → get_or seen j false ≡ true → (q : ℕ) × (q < length found) × (get_or found q 0 ≡ j)
    pub marked : (q : ℕ) → q < length found → (get_or found q 0 < length gates) × (get_or seen (get_or found q 0) false ≡ true)
    pub distinct : (i j : ℕ) → i < j → j < length found → get_or found i 0 ≢ get_or found j 0

  -- one more is found
  found-more : (seen : List Bool) (found : List ℕ) (i : ℕ) → AreFound seen found → i < length gates → Depends gates k i → get_or seen i false ≡ false → AreFound (set seen i true) (found ++ i ∷ [])
  found-more seen found i are lt dep fresh = record {
    long = length-set seen i true ∙ are.long;
    sound = λ j inside e. elim (cases_eq j i) [
      | inl same ↦ let P : ℕ → Type 0 = λ n. Depends gates k n in subst P (sym same) dep
      | inr other ↦ are.sound j inside (sym (get_or-set_other seen i j true false other) ∙ e)
    ];
    listed = λ j inside e. elim (cases_eq j i) [
      | inl same ↦ (length found, omega (arith, length-append found (i ∷ [])), get_or-append_seam found i [] 0 ∙ sym same)
      | inr other ↦
          let (q, less, is) = are.listed j inside (sym (get_or-set_other seen i j true false other) ∙ e) in
          (q, omega (arith, length-append found (i ∷ [])), get_or_append_left found (i ∷ []) 0 q less ∙ is)
    ];
    marked = λ q less. elim (cases_lt q (length found)) [
      | inl before ↦
          let (inside, there) = are.marked q before in
          let at : get_or (found ++ i ∷ []) q 0 ≡ get_or found q 0 = get_or_append_left found (i ∷ []) 0 q before in
          (omega (arith, at, inside), ap (λ n. get_or (set seen i true) n false) at ∙ kept (get_or found q 0) there (cases_eq (get_or found q 0) i))
      | inr past ↦
          let last : q ≡ length found = omega (arith, length-append found (i ∷ [])) in
          let at : get_or (found ++ i ∷ []) q 0 ≡ i = ap (λ n. get_or (found ++ i ∷ []) n 0) last ∙ get_or-append_seam found i [] 0 in
          (omega (arith, at, lt), ap (λ n. get_or (set seen i true) n false) at ∙ get_or-set_same seen i true false (omega (arith, are.long)))
    ];
    distinct = λ a b less inside e. elim (cases_lt b (length found)) [
      | inl before ↦ are.distinct a b less before (sym (get_or_append_left found (i ∷ []) 0 a (omega arith)) ∙ e ∙ get_or_append_left found (i ∷ []) 0 b before)
      | inr past ↦
          let last : b ≡ length found = omega (arith, length-append found (i ∷ [])) in
          let at : get_or found a 0 ≡ i = sym (get_or_append_left found (i ∷ []) 0 a (omega arith)) ∙ e ∙ ap (λ n. get_or (found ++ i ∷ []) n 0) last ∙ get_or-append_seam found i [] 0 in
          let there : get_or seen i false ≡ true = ap (λ n. get_or seen n false) (sym at) ∙ (are.marked a (omega arith)).1 in
          absurd (cc)
    ];
  }
    where
      kept : (n : ℕ) → get_or seen n false ≡ true → (n ≡ i) ⊎ (n ≡ i → ⊥) → get_or (set seen i true) n false ≡ true
      kept n e (inl same) = absurd (let no_one : get_or seen n false ≡ false = ap (λ m. get_or seen m false) same ∙ fresh in cc)
      kept n e (inr other) = get_or-set_other seen i n true false other ∙ e

  -- what one visit does
  pub record IsGrown (o : Option ℕ) (seen : List Bool) (found : List ℕ) (new_seen : List Bool) (new_found : List ℕ) : Type 0 where
    pub are : AreFound new_seen new_found
    pub kept : (j : ℕ) → get_or seen j false ≡ true → get_or new_seen j false ≡ true
    pub here : (j : ℕ) → o ≡ Some j → get_or new_seen j false ≡ true
    pub front : (q : ℕ) → q < length found → get_or new_found q 0 ≡ get_or found q 0
    pub more : length found ≤ length new_found

  same-grown : (o : Option ℕ) (seen new_seen : List Bool) (found new_found : List ℕ) → AreFound seen found → new_seen ≡ seen → new_found ≡ found → ((j : ℕ) → o ≡ Some j → get_or seen j false ≡ true) → IsGrown o seen found new_seen new_found
  same-grown o seen new_seen found new_found are same also there = record {
    are = (let P : List Bool → Type 0 = λ s. AreFound s new_found in subst P (sym same) (subst (AreFound seen) (sym also) are));
    kept = λ j e. ap (λ (l : List Bool). get_or l j false) same ∙ e;
    here = λ j e. ap (λ (l : List Bool). get_or l j false) same ∙ there j e;
    front = λ q lt. ap (λ l. get_or l q 0) also;
    more = omega (arith, ap length also);
  }

  pub grown : (o : Option ℕ) (seen new_seen : List Bool) (found new_found : List ℕ) → AreFound seen found → ((j : ℕ) → o ≡ Some j → (j < length gates) × Depends gates k j) → IsVisited o seen found new_seen new_found → IsGrown o seen found new_seen new_found
  grown None seen new_seen found new_found are deps (same, also) = same-grown None seen new_seen found new_found are same also (λ j e. absurd (cc))
  grown (Some i) seen new_seen found new_found are deps (inl (there, same, also)) = same-grown (Some i) seen new_seen found new_found are same also (λ j e. let is : i ≡ j = cc in ap (λ n. get_or seen n false) (sym is) ∙ there)
  grown (Some i) seen new_seen found new_found are deps (inr (fresh, same, also)) =
      let (lt, dep) = deps i refl in
      let more = found-more seen found i are lt dep fresh in
      record {
        are = (let P : List Bool → Type 0 = λ s. AreFound s new_found in subst P (sym same) (subst (AreFound (set seen i true)) (sym also) more));
        kept = λ j e. ap (λ (l : List Bool). get_or l j false) same ∙ elim (cases_eq j i) [ inl is ↦ ap (λ n. get_or (set seen i true) n false) is ∙ get_or-set_same seen i true false (omega (arith, are.long)) | inr other ↦ get_or-set_other seen i j true false other ∙ e ];
        here = λ j e. let is : i ≡ j = cc in ap (λ (l : List Bool). get_or l j false) same ∙ ap (λ n. get_or (set seen i true) n false) (sym is) ∙ get_or-set_same seen i true false (omega (arith, are.long));
        front = λ q less. ap (λ l. get_or l q 0) also ∙ get_or_append_left found (i ∷ []) 0 q less;
        more = omega (arith, ap length also, length-append found (i ∷ []));
      }

  -- and both sides of an and
  pub record AreGrown (g : ℕ) (seen : List Bool) (found : List ℕ) (new_seen : List Bool) (new_found : List ℕ) : Type 0 where
    pub are : AreFound new_seen new_found
    pub kept : (j : ℕ) → get_or seen j false ≡ true → get_or new_seen j false ≡ true
    pub uses_found : (j : ℕ) → j < length gates → uses gates g j ≡ true → get_or new_seen j false ≡ true
    pub front : (q : ℕ) → q < length found → get_or new_found q 0 ≡ get_or found q 0
    pub more : length found ≤ length new_found

  pub grown-both : (g : ℕ) (seen new_seen : List Bool) (found new_found : List ℕ) → AreFound seen found → ((j : ℕ) → j < length gates → uses gates g j ≡ true → Depends gates k j) → AreVisited gates g seen found new_seen new_found → AreGrown g seen found new_seen new_found
  grown-both g seen new_seen found new_found are deps v =
      let a = grown v.left seen v.mid_seen found v.mid_found are (λ j e. let (lt, used) = v.used_left j e in (lt, deps j lt used)) v.first in
      let b = grown v.right v.mid_seen new_seen v.mid_found new_found a.are (λ j e. let (lt, used) = v.used_right j e in (lt, deps j lt used)) v.second in
      record {
        are = b.are;
        kept = λ j e. b.kept j (a.kept j e);
        uses_found = λ j lt used. elim (v.all j lt used) [ inl l ↦ b.kept j (a.here j l) | inr r ↦ b.here j r ];
        front = λ q less. b.front q (omega (arith, a.more)) ∙ a.front q less;
        more = omega (arith, a.more, b.more);
      }

-- what the and uses is found, and what those before place p use
pub record IsReach (gates : List Gate) (k p : ℕ) (seen : List Bool) (found : List ℕ) : Type 0 where
  pub are : AreFound gates k seen found
  pub first : (j : ℕ) → j < length gates → uses gates k j ≡ true → get_or seen j false ≡ true
  pub closed : (q j : ℕ) → q < p → q < length found → j < length gates → uses gates (get_or found q 0) j ≡ true → get_or seen j false ≡ true

module _ (gates : List Gate) (k : ℕ) (lt : k < length gates) where
  pub reach-start : (seen new_seen : List Bool) (found new_found : List ℕ) → length seen ≡ length gates → ((j : ℕ) → get_or seen j false ≡ false) → found ≡ [] → AreVisited gates k seen found new_seen new_found → IsReach gates k 0 new_seen new_found
  reach-start seen new_seen found new_found long none empty v =
      let start : AreFound gates k seen [] = record {
        long = long;
        sound = λ j inside e. let no_one = none j in absurd (cc);
        listed = λ j inside e. let no_one = none j in absurd (cc);
        marked = λ q less. absurd (omega arith);
        distinct = λ i j less inside. absurd (omega arith);
      } in
      let grown = grown-both gates k k seen new_seen found new_found (subst (AreFound gates k seen) (sym empty) start) (λ j inside used. at_once k j lt inside used) v in
      record { are = grown.are; first = grown.uses_found; closed = λ q j less. absurd (omega arith) }

  pub reach-next : (p : ℕ) (seen new_seen : List Bool) (found new_found : List ℕ) (g : ℕ) → IsReach gates k p seen found → p < length found → g ≡ get_or found p 0 → AreVisited gates g seen found new_seen new_found → IsReach gates k (p + 1) new_seen new_found
  reach-next p seen new_seen found new_found g is inside at v =
      let (small, there) = is.are.marked p inside in
      let here : Depends gates k g = (let P : ℕ → Type 0 = λ n. Depends gates k n in subst P (sym at) (is.are.sound (get_or found p 0) small there)) in
      let g_small : g < length gates = omega (arith, at, small) in
      let grown = grown-both gates k g seen new_seen found new_found is.are (λ j less used. join k g j here less used g_small) v in
      record {
        are = grown.are;
        first = λ j less used. grown.kept j (is.first j less used);
        closed = λ q j less len inside_j used. elim (cases_eq q p) [
          | inl same ↦
              let q_is : get_or new_found q 0 ≡ g = grown.front q (omega arith) ∙ ap (λ n. get_or found n 0) same ∙ sym at in
              grown.uses_found j inside_j (ap (λ n. uses gates n j) (sym q_is) ∙ used)
          | inr other ↦
              let before : q < length found = omega arith in
              let q_is : get_or new_found q 0 ≡ get_or found q 0 = grown.front q before in
              grown.kept j (is.closed q j (omega arith) before inside_j (ap (λ n. uses gates n j) (sym q_is) ∙ used))
        ];
      }
    where
      join : (a g j : ℕ) → Depends gates a g → j < length gates → uses gates g j ≡ true → g < length gates → Depends gates a j
      join _ _ j (at_once a g small inside used) less last g_small = through a g j small inside used (at_once g j g_small less last)
      join _ _ j (through a i g small inside used rest) less last g_small = through a i j small inside used (join i g j rest less last g_small)

  pub reach-past : (p : ℕ) (seen : List Bool) (found : List ℕ) → IsReach gates k p seen found → length found ≤ p → IsReach gates k (p + 1) seen found
  reach-past p seen found is past = record { are = is.are; first = is.first; closed = λ q j less len. is.closed q j (omega arith) len }

  -- not more are found than there are
  found-few : (seen : List Bool) (found : List ℕ) → AreFound gates k seen found → length found ≤ length gates
  found-few seen found are = elim (cases_lt (length gates) (length found)) [
    | inl more ↦
        let (i, j, less, le, same) = two-equal (length gates) (λ q. get_or found q 0) (λ q le. (are.marked q (omega arith)).0) in
        absurd (are.distinct i j less (omega arith) same)
    | inr le ↦ le
  ]

  pub reach-all : (seen : List Bool) (found : List ℕ) → IsReach gates k (length gates) seen found → (j : ℕ) → j < length gates → IsTrue (get_or seen j false) ↔ Depends gates k j
  reach-all seen found is j inside = (λ e. is.are.sound j inside e, λ d. reached j d)
    where
      on : (a b : ℕ) → get_or seen a false ≡ true → Depends gates a b → get_or seen b false ≡ true
      on _ _ e (at_once a b small less used) =
          let (q, len, at) = is.are.listed a small e in
          is.closed q b (omega (arith, found-few seen found is.are)) len less (ap (λ n. uses gates n b) at ∙ used)
      on _ _ e (through a i b small less used rest) =
          let (q, len, at) = is.are.listed a small e in
          on i b (is.closed q i (omega (arith, found-few seen found is.are)) len less (ap (λ n. uses gates n i) at ∙ used)) rest

      from : (a b : ℕ) → ((i : ℕ) → i < length gates → uses gates a i ≡ true → get_or seen i false ≡ true) → Depends gates a b → get_or seen b false ≡ true
      from _ _ first (at_once a b small less used) = first b less used
      from _ _ first (through a i b small less used rest) = on i b (first i less used) rest

      reached : (b : ℕ) → Depends gates k b → get_or seen b false ≡ true
      reached b d = from k b is.first d

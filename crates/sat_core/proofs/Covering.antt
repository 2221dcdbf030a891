-- Watched literals stay right as the trail grows and shrinks, and give complete propagation.
use Rattle.std.proofs.Common.{◌≡◌, ℕ, suc, ◌<◌, ◌≤◌, ◌⊎◌, List, [], ◌∷◌, ◌++◌, length, get_or, take, drop, Some, inl, inr, sym, ◌∙◌, subst, arith}
use Rattle.std.specs.Prelude.{ℤ, pos, neg_ℤ, Option, None, MatchOption}
use Rattle.std.specs.List.{Contains}
use Rattle.std.proofs.lemmas.Bool.{cases_eq, cases_lt}
use Rattle.std.proofs.lemmas.List.{length_push, take-append-drop, length-append, length-take-le, get_or_append_left, get_or_push, get_or-take, get_or_default}
use Rattle.std.proofs.lemmas.List.Elements.{Contains-push_cases, Contains-append_left, Contains-append_cases}
use Rattle.sat_core.specs.declared.watches.Found.{Found}
use Rattle.chain_check.specs.Clauses.{Clause}
use Rattle.chain_check.specs.Chains.{IsFalseIn, AllFalseIn, IsUnit}
use Rattle.sat_core.specs.Trails.{IsSettled}
use Rattle.sat_core.specs.Watches.{StandsAt, IsNotAbove, IsBelow, IsCovered, IsFixed, IsWatched, AllFalseBut, IsReplacement}
use Rattle.chain_check.proofs.Literals.{same-or-not}
use Rattle.chain_check.proofs.ThreeWays.{there-or-not}

pub place-of : (trail : List ℤ) (l : ℤ) → Contains trail l → (i : ℕ) × StandsAt trail l i
place-of trail l (i, lt, e) = (i, (lt, get_or_default trail i (pos 0) l lt ∙ e))

pub there-at : (trail : List ℤ) (l : ℤ) (i : ℕ) → StandsAt trail l i → Contains trail l
there-at trail l i (lt, e) = (i, lt, get_or_default trail i l (pos 0) lt ∙ e)

-- at the end of the trail a watched clause is settled
pub watched-settled : (trail : List ℤ) (limits : List ℕ) (c : Clause) (l m : ℤ) → Contains c l →
    Contains c m → IsWatched trail limits (length trail) c l m → IsSettled trail c
watched-settled trail limits c l m of of' is =
    elim (there-or-not trail (neg_ℤ l)) [
      | inl there ↦ let (i, at) = place-of trail (neg_ℤ l) there in let (b, j, t) =
          is.left i at.0 at in inl (b, t.0, there-at trail b j t.1)
      | inr open-l ↦ elim (there-or-not trail (neg_ℤ m)) [
        | inl there ↦ let (i, at) = place-of trail (neg_ℤ m) there in let (b, j, t) =
            is.right i at.0 at in inl (b, t.0, there-at trail b j t.1)
        | inr open-m ↦ inr (
          l,
          m,
          record {
            first = of;
            second = of';
            differ = is.differ;
            open_first = open-l;
            open_second = open-m;
          },
        )
      ]
    ]

pub fixed-settled : (trail : List ℤ) (limits : List ℕ) (c : Clause) → IsFixed trail limits c →
    IsSettled trail c
fixed-settled trail limits c (b, j, t) = inl (b, t.0, there-at trail b j t.1)

pub stands-more : (trail more : List ℤ) (l : ℤ) (j : ℕ) → StandsAt trail l j →
    StandsAt (trail ++ more) l j
stands-more trail more l j (lt, e) = (
  omega (arith, lt, length-append trail more),
  get_or_append_left trail more (pos 0) j lt ∙ e,
)

stands-less : (trail more : List ℤ) (l : ℤ) (i : ℕ) → i < length trail →
    StandsAt (trail ++ more) l i → StandsAt trail l i
stands-less trail more l i lt (lt', e) = (lt, sym (get_or_append_left trail more (pos 0) i lt) ∙ e)

-- more literals, by clauses
covered-implied : (trail more : List ℤ) (limits : List ℕ) (done : ℕ) (c : Clause) (l : ℤ) →
    done ≤ length trail → IsCovered trail limits done c l →
    IsCovered (trail ++ more) limits done c l
covered-implied trail more limits done c l le is i lt at =
    let (b, j, t) = is i lt (stands-less trail more (neg_ℤ l) i (omega arith) at) in
    (b, j, (t.0, stands-more trail more b j t.1, t.2))

pub watched-implied : (trail more : List ℤ) (limits : List ℕ) (done : ℕ) (c : Clause) (l m : ℤ) →
    done ≤ length trail → IsWatched trail limits done c l m →
    IsWatched (trail ++ more) limits done c l m
watched-implied trail more limits done c l m le is = record {
  differ = is.differ;
  left = covered-implied trail more limits done c l le is.left;
  right = covered-implied trail more limits done c m le is.right;
}

pub fixed-implied : (trail more : List ℤ) (limits : List ℕ) (c : Clause) → IsFixed trail limits c →
    IsFixed (trail ++ more) limits c
fixed-implied trail more limits c (b, j, t) = (b, j, (t.0, stands-more trail more b j t.1, t.2))

-- a limit more, at the end of the trail
not-above-decided : (trail : List ℤ) (limits : List ℕ) (i j : ℕ) → j < length trail →
    IsNotAbove limits i j → IsNotAbove (limits ++ length trail ∷ []) i j
not-above-decided trail limits i j inside low q less small =
    elim (cases_lt q (length limits)) [
      | inl old ↦ let same = get_or_append_left limits (length trail ∷ []) 0 q old in
          omega (arith, same, low q old (omega (arith, same, small)))
      | inr past ↦ omega (
        arith,
        inside,
        get_or_push limits (length trail) 0 q
            (omega (arith, less, past, length_push limits (length trail))),
      )
    ]

below-decided : (trail : List ℤ) (limits : List ℕ) (j : ℕ) → j < length trail → IsBelow limits j →
    IsBelow (limits ++ length trail ∷ []) j
below-decided trail limits j inside low q less =
    elim (cases_lt q (length limits)) [
      | inl old ↦ omega (arith, get_or_append_left limits (length trail ∷ []) 0 q old, low q old)
      | inr past ↦ omega (
        arith,
        inside,
        get_or_push limits (length trail) 0 q
            (omega (arith, less, past, length_push limits (length trail))),
      )
    ]

covered-limit : (trail : List ℤ) (limits : List ℕ) (done : ℕ) (c : Clause) (l : ℤ) →
    IsCovered trail limits done c l → IsCovered trail (limits ++ length trail ∷ []) done c l
covered-limit trail limits done c l is i lt at =
    let (b, j, t) = is i lt at in
    (b, j, (t.0, t.1, not-above-decided trail limits i j t.1.0 t.2))

pub watched-decided : (trail more : List ℤ) (limits : List ℕ) (done : ℕ) (c : Clause) (l m : ℤ) →
    done ≤ length trail → IsWatched trail limits done c l m →
    IsWatched (trail ++ more) (limits ++ length trail ∷ []) done c l m
watched-decided trail more limits done c l m le is = record {
  differ = is.differ;
  left = covered-implied trail more (limits ++ length trail ∷ []) done c l le
      (covered-limit trail limits done c l is.left);
  right = covered-implied trail more (limits ++ length trail ∷ []) done c m le
      (covered-limit trail limits done c m is.right);
}

pub fixed-decided : (trail more : List ℤ) (limits : List ℕ) (c : Clause) → IsFixed trail limits c →
    IsFixed (trail ++ more) (limits ++ length trail ∷ []) c
fixed-decided trail more limits c (b, j, t) =
    (b, j, (t.0, stands-more trail more b j t.1, below-decided trail limits j t.1.0 t.2))

-- back to before the decision of a level
stands-front : (trail : List ℤ) (to : ℕ) (l : ℤ) (j : ℕ) → to ≤ length trail → j < to →
    StandsAt trail l j → StandsAt (take to trail) l j
stands-front trail to l j fits early (lt, e) =
    (omega (arith, early, length-take-le to trail fits), get_or-take to trail j (pos 0) early ∙ e)

stands-whole : (trail : List ℤ) (to : ℕ) (l : ℤ) (i : ℕ) → i < to → to ≤ length trail →
    StandsAt (take to trail) l i → StandsAt trail l i
stands-whole trail to l i early fits (lt, e) =
    (omega arith, sym (get_or-take to trail i (pos 0) early) ∙ e)

few-limits : (limits : List ℕ) (level : ℕ) → level < length limits →
    length (take level limits) ≡ level
few-limits limits level inside = length-take-le level limits (omega (arith, inside))

not-above-back : (limits : List ℕ) (level i j : ℕ) → level < length limits → IsNotAbove limits i j →
    IsNotAbove (take level limits) i j
not-above-back limits level i j inside low q less small =
    let within : q < level = omega (arith, less, few-limits limits level inside) in
    let same : get_or (take level limits) q 0 ≡ get_or limits q 0 =
    get_or-take level limits q 0 within in
    omega (arith, same, low q (omega (arith, within, inside)) (omega (arith, same, small)))

below-back : (limits : List ℕ) (level j : ℕ) → level < length limits → IsBelow limits j →
    IsBelow (take level limits) j
below-back limits level j inside low q less =
    let within : q < level = omega (arith, less, few-limits limits level inside) in
    omega (arith, get_or-take level limits q 0 within, low q (omega (arith, within, inside)))

covered-back : (trail : List ℤ) (limits : List ℕ) (done level : ℕ) (c : Clause) (l : ℤ) →
    level < length limits → get_or limits level 0 ≤ done → get_or limits level 0 ≤ length trail →
    IsCovered trail limits done c l → IsCovered (take (get_or limits level 0) trail)
    (take level limits) (get_or limits level 0) c l
covered-back trail limits done level c l inside le fits is i lt at =
    let (b, j, t) = is i (omega arith) (stands-whole trail (get_or limits level 0)
    (neg_ℤ l) i lt fits at) in (
      b,
      j,
      (
        t.0,
        stands-front trail (get_or limits level 0) b j fits (t.2 level inside lt) t.1,
        not-above-back limits level i j inside t.2,
      ),
    )

pub watched-back : (trail : List ℤ) (limits : List ℕ) (done level : ℕ) (c : Clause) (l m : ℤ) →
    level < length limits → get_or limits level 0 ≤ done → get_or limits level 0 ≤ length trail →
    IsWatched trail limits done c l m → IsWatched (take (get_or limits level 0) trail)
    (take level limits) (get_or limits level 0) c l m
watched-back trail limits done level c l m inside le fits is = record {
  differ = is.differ;
  left = covered-back trail limits done level c l inside le fits is.left;
  right = covered-back trail limits done level c m inside le fits is.right;
}

pub fixed-back : (trail : List ℤ) (limits : List ℕ) (level : ℕ) (c : Clause) →
    level < length limits → get_or limits level 0 ≤ length trail → IsFixed trail limits c →
    IsFixed (take (get_or limits level 0) trail) (take level limits) c
fixed-back trail limits level c inside fits (b, j, t) = (
  b,
  j,
  (
    t.0,
    stands-front trail (get_or limits level 0) b j fits (t.2 level inside) t.1,
    below-back limits level j inside t.2,
  ),
)

-- The next place is dealt with: the literal there does not make this watch false, or the clause is true.
covered-next : (trail : List ℤ) (limits : List ℕ) (done : ℕ) (c : Clause) (l : ℤ) →
    ((q : ℕ) → q < length limits → get_or limits q 0 ≤ done) →
    (StandsAt trail (neg_ℤ l) done → (b : ℤ) × Contains c b × Contains trail b) →
    IsCovered trail limits done c l → IsCovered trail limits (suc done) c l
covered-next trail limits done c l low dealt is i lt at =
    elim (cases_eq i done) [
      | inr apart ↦ is i (omega arith) at
      | inl same ↦
          let P : ℕ → Type 0 = StandsAt trail (neg_ℤ l) in
          let (b, of, true') = dealt (subst P same at) in
          let (j, stands) = place-of trail b true' in
          (b, j, (of, stands, λ q less small. absurd (omega (arith, same, small, low q less))))
    ]

pub watched-next : (trail : List ℤ) (limits : List ℕ) (done : ℕ) (c : Clause) (l m : ℤ) →
    ((q : ℕ) → q < length limits → get_or limits q 0 ≤ done) →
    (StandsAt trail (neg_ℤ l) done → (b : ℤ) × Contains c b × Contains trail b) →
    (StandsAt trail (neg_ℤ m) done → (b : ℤ) × Contains c b × Contains trail b) →
    IsWatched trail limits done c l m → IsWatched trail limits (suc done) c l m
watched-next trail limits done c l m low one two is = record {
  differ = is.differ;
  left = covered-next trail limits done c l low one is.left;
  right = covered-next trail limits done c m low two is.right;
}

-- a literal that is not false is covered
pub covered-open : (trail : List ℤ) (limits : List ℕ) (done : ℕ) (c : Clause) (l : ℤ) →
    ¬ IsFalseIn trail l → IsCovered trail limits done c l
covered-open trail limits done c l open' i lt at = absurd (open' (there-at trail (neg_ℤ l) i at))

pub covered-none : (trail : List ℤ) (limits : List ℕ) (c : Clause) (l : ℤ) →
    IsCovered trail limits 0 c l
covered-none trail limits c l i lt at = absurd (omega arith)

-- one that is false since the last decision is covered by a true one
pub covered-late : (trail : List ℤ) (limits : List ℕ) (done : ℕ) (c : Clause) (l m : ℤ) →
    Contains c l → Contains trail l → ((i : ℕ) → StandsAt trail (neg_ℤ m) i → (q : ℕ) →
    q < length limits → get_or limits q 0 ≤ i) → IsCovered trail limits done c m
covered-late trail limits done c l m of true' late i lt at =
    let (j, stands) = place-of trail l true' in
    (l, j, (of, stands, λ q less small. absurd (omega (arith, late i at q less))))

-- with no replacement the other one is all that is left
pub left-unit : (trues : List ℤ) (c : Clause) (other : ℤ) → AllFalseBut trues c other →
    Contains c other → ¬ IsFalseIn trues other → IsUnit trues c other
left-unit trues c other all there open' = record { there = there; open_yet = open'; others = all }

pub left-false : (trues : List ℤ) (c : Clause) (other : ℤ) → AllFalseBut trues c other →
    IsFalseIn trues other → AllFalseIn trues c
left-false trues c other all false' m there =
    elim (same-or-not m other) [
      | inl same ↦ let P : ℤ → Type 0 = IsFalseIn trues in subst P (sym same) false'
      | inr apart ↦ all m there apart
    ]

pub front-more : (trues : List ℤ) (front : Clause) (l other : ℤ) → AllFalseBut trues front other →
    (l ≡ other) ⊎ IsFalseIn trues l → AllFalseBut trues (front ++ l ∷ []) other
front-more trues front l other all here m there apart =
    elim (Contains-push_cases front l m there) [
      | inl old ↦ all m old apart
      | inr same ↦ elim here [
        | inl is ↦ absurd (apart (sym same ∙ is))
        | inr false' ↦ let P : ℤ → Type 0 = IsFalseIn trues in subst P same false'
      ]
    ]

-- what is found in the front of a clause behind which nothing is
pub found-in-front : (trues : List ℤ) (c : Clause) (k : ℕ) (other : ℤ) (found : Option Found) →
    AllFalseBut trues (drop k c) other →
    MatchOption found (AllFalseBut trues (take k c) other)
    (λ it. IsReplacement trues (take k c) other it.literal) →
    MatchOption found (AllFalseBut trues c other) (λ it. IsReplacement trues c other it.literal)
found-in-front trues c k other None behind front = λ m there apart.
    let P : Clause → Type 0 = λ d. Contains d m in
    elim (Contains-append_cases (take k c) (drop k c) m
    (subst P (sym (take-append-drop k c)) there)) [
      | inl first ↦ front m first apart
      | inr last ↦ behind m last apart
    ]
found-in-front trues c k other (Some it) behind front =
    let P : Clause → Type 0 = λ d. Contains d it.literal in
    record {
      there = subst P (take-append-drop k c)
          (Contains-append_left (take k c) (drop k c) it.literal front.there);
      differ = front.differ;
      open_yet = front.open_yet;
    }

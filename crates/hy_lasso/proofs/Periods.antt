-- Least common multiples, and the periods of tuples of lassos.
use Rattle.std.proofs.Common.{◌≡◌, ℕ, zero, suc, ◌+◌, ◌-◌, ◌*◌, ◌/◌, ◌%◌, ◌<◌, ◌≤◌, max, List, [], ◌∷◌, ◌++◌, length, get_or, take, drop, map, Some, slice_get, sym, ap, ◌∙◌, inl, inr, subst, arith}
use Rattle.std.proofs.Math.Nat.{mod-add-div, mod-lt, mul_comm, mul_assoc, mul-mod_left, mul-le-mul_right, mul-sub}
use Rattle.std.proofs.lemmas.Bool.{cases_eq, cases_lt}
use Rattle.std.proofs.lemmas.Grind.{common_steps}
use Rattle.std.proofs.lemmas.List.{get_or_append_left, length-append, append_assoc, take-append-drop, map-append, length-map, get_or_default}
use Rattle.std.proofs.lemmas.Option.{get_or_from_slice_get, slice_get-get_or}
use Rattle.std.specs.List.{All}
use Rattle.std.proofs.Math.Seq.{take-suc}
use Rattle.hy_bits.specs.Letter.{Letter}
use Rattle.hy_formula.specs.Lassos.{Lasso}
use Rattle.hy_lasso.specs.Words.{no_lasso, picked}
use Rattle.hy_lasso.specs.Joint.{IsMultiple, IsPeriod, IsLeastPeriod, IsJudged, IsCommon, IsLeastCommon, most_positions}

pub multiple-zero : (c n : ℕ) → c % n ≡ 0 → IsMultiple c n
multiple-zero c n e =
    let parts : c % n + n * (c / n) ≡ c = mod-add-div c n in
    (c / n, omega (arith, parts, e, mul_comm n (c / n)))

multiple-through : (a b c : ℕ) → IsMultiple a b → IsMultiple b c → IsMultiple a c
multiple-through a b c (k, e) (j, f) = (k * j, e ∙ ap (λ x. k * x) f ∙ sym (mul_assoc k j c))

-- what is left of a multiple by another one is a multiple
multiple-rest : (d m n : ℕ) → IsMultiple d n → IsMultiple m n → IsMultiple (d % m) n
multiple-rest d m n (k, e) (j, f) =
    let parts : d % m + m * (d / m) ≡ d = mod-add-div d m in
    let whole : m * (d / m) ≡ d / m * j * n = mul_comm m (d / m) ∙ ap (λ x. d / m * x) f ∙ sym (mul_assoc (d / m) j n) in
    let rest : d % m ≡ k * n - d / m * j * n = omega (arith, parts, whole, e) in
    let apart : (k - d / m * j) * n ≡ k * n - d / m * j * n =
    mul_comm (k - d / m * j) n ∙ mul-sub n k (d / m * j) ∙ ap (λ x. x - n * (d / m * j)) (mul_comm n k) ∙ ap (λ x. k * n - x) (mul_comm n (d / m * j))
    in
    (k - d / m * j, rest ∙ sym apart)

-- Each common multiple is one of the least.
pub least-divides : (c n m : ℕ) → IsLeastCommon c n m → (d : ℕ) → IsCommon c n d → IsMultiple d m
least-divides c n m l d common =
    elim (cases_eq (d % m) 0) [
      | inl e ↦ multiple-zero d m e
      | inr some ↦
          let lt : d % m < m = mod-lt d l.common.some in
          let le : m ≤ d % m =
          l.least (d % m) (record {
            some = omega arith;
            first = multiple-rest d m c common.first l.common.first;
            second = multiple-rest d m n common.second l.common.second;
          }) in
          absurd (omega (arith, lt, le))
    ]

pub multiple-le : (d c : ℕ) → 0 < d → IsMultiple d c → c ≤ d
multiple-le d c some (zero, e) = absurd (omega (arith, e))
multiple-le d c some (suc k, e) = omega (arith, e)

-- The next multiple is not past a common one either, where this one is none.
pub multiple-next : (c n m k d : ℕ) → m ≡ suc k * c → m ≤ d → (m % n ≡ 0 → ⊥) → 0 < n → IsCommon c n d → m + c ≤ d
multiple-next c n m k d e le not_here some common = step common.first
  where
    apart : m ≡ d → ⊥
    apart same = not_here (ap (λ x. x % n) same ∙ zero-rest common.second)
      where
        zero-rest : IsMultiple d n → d % n ≡ 0
        zero-rest (j, f) = ap (λ x. x % n) f ∙ mul-mod_left j n

    step : IsMultiple d c → m + c ≤ d
    step (j, f) =
        elim (cases_lt (suc k) j) [
          | inl lt ↦
              let more : suc (suc k) * c ≤ j * c = mul-le-mul_right c lt in
              let once : suc (suc k) * c ≡ suc k * c + c = omega arith in
              omega (arith, more, once, e, f)
          | inr few ↦
              let less : j * c ≤ suc k * c = mul-le-mul_right c few in
              absurd (apart (omega (arith, less, e, f, le)))
        ]

-- ---- a tuple with one lasso more

module _ (tuple : List (Lasso Letter)) (l : Lasso Letter) where
  last-is : get_or (tuple ++ l ∷ []) (length tuple) no_lasso ≡ l
  last-is = grind (arith, common_steps)

  period-less : (t d : ℕ) → IsPeriod (tuple ++ l ∷ []) t d → IsPeriod tuple t d
  period-less t d p =
      record {
        some = p.some;
        stems = λ v lt.
            let P : Lasso Letter → Type 0 = λ x. length x.stem ≤ t in
            subst P (get_or_append_left tuple (l ∷ []) no_lasso v lt) (p.stems v (omega (arith, length-append tuple (l ∷ []))));
        cycles = λ v lt.
            let P : Lasso Letter → Type 0 = λ x. IsMultiple d (length x.cycle) in
            subst P (get_or_append_left tuple (l ∷ []) no_lasso v lt) (p.cycles v (omega (arith, length-append tuple (l ∷ []))));
      }

  period-last : (t d : ℕ) → IsPeriod (tuple ++ l ∷ []) t d → (length l.stem ≤ t) × IsMultiple d (length l.cycle)
  period-last t d p =
      let lt : length tuple < length (tuple ++ l ∷ []) = omega (arith, length-append tuple (l ∷ [])) in (
        let P : Lasso Letter → Type 0 = λ x. length x.stem ≤ t in subst P last-is (p.stems (length tuple) lt),
        let P : Lasso Letter → Type 0 = λ x. IsMultiple d (length x.cycle) in subst P last-is (p.cycles (length tuple) lt),
      )

  period-more : (t d : ℕ) → IsPeriod tuple t d → length l.stem ≤ t → IsMultiple d (length l.cycle) → IsPeriod (tuple ++ l ∷ []) t d
  period-more t d p short multiple = record { some = p.some; stems = each (λ x. length x.stem ≤ t) p.stems short; cycles = each (λ x. IsMultiple d (length x.cycle)) p.cycles multiple }
    where
      each : (P : Lasso Letter → Type 0) → ((v : ℕ) → v < length tuple → P (get_or tuple v no_lasso)) → P l → (v : ℕ) → v < length (tuple ++ l ∷ []) → P (get_or (tuple ++ l ∷ []) v no_lasso)
      each P all here v lt =
          elim (cases_lt v (length tuple)) [
            | inl before ↦ subst P (sym (get_or_append_left tuple (l ∷ []) no_lasso v before)) (all v before)
            | inr past ↦
                let e : length tuple ≡ v = omega (arith, length-append tuple (l ∷ [])) in
                let Q : ℕ → Type 0 = λ k. P (get_or (tuple ++ l ∷ []) k no_lasso) in
                subst Q e (subst P (sym last-is) here)
          ]

  -- the longest stem, and the least common multiple
  pub least-more : (s c m : ℕ) → IsLeastPeriod tuple s c → IsLeastCommon c (length l.cycle) m → IsLeastPeriod (tuple ++ l ∷ []) (max (length l.stem) s) m
  least-more s c m p common = record { period = period-more _ m (up p.period) (omega arith) common.common.second; least = least }
    where
      up : IsPeriod tuple s c → IsPeriod tuple (max (length l.stem) s) m
      up q =
          record {
            some = common.common.some;
            stems = λ v lt. let le = q.stems v lt in omega (arith, le);
            cycles = λ v lt. multiple-through m c _ common.common.first (q.cycles v lt);
          }

      least : (t d : ℕ) → IsPeriod (tuple ++ l ∷ []) t d → (max (length l.stem) s ≤ t) × IsMultiple d m
      least t d q =
          let (le, multiple) = p.least t d (period-less t d q) in
          let (short, last) = period-last t d q in
          (omega (arith, le, short), least-divides c (length l.cycle) m common d (record { some = q.some; first = multiple; second = last }))

  -- a period of the tuple has a common multiple of the cycles
  pub common-of : (s c t d : ℕ) → IsLeastPeriod tuple s c → IsPeriod (tuple ++ l ∷ []) t d → IsCommon c (length l.cycle) d
  common-of s c t d p q =
      record { some = q.some; first = (p.least t d (period-less t d q)).1; second = (period-last t d q).1 }

-- the beginning of a longer tuple
period-front : (front more : List (Lasso Letter)) (t d : ℕ) → IsPeriod (front ++ more) t d → IsPeriod front t d
period-front front more t d p =
    record {
      some = p.some;
      stems = λ v lt.
          let P : Lasso Letter → Type 0 = λ x. length x.stem ≤ t in
          subst P (get_or_append_left front more no_lasso v lt) (p.stems v (omega (arith, length-append front more)));
      cycles = λ v lt.
          let P : Lasso Letter → Type 0 = λ x. IsMultiple d (length x.cycle) in
          subst P (get_or_append_left front more no_lasso v lt) (p.cycles v (omega (arith, length-append front more)));
    }

pub past-common : (tuple : List (Lasso Letter)) (l : Lasso Letter) (more : List (Lasso Letter)) (s c : ℕ) → IsLeastPeriod tuple s c → ((d : ℕ) → IsCommon c (length l.cycle) d → most_positions < d) → ¬ IsJudged (tuple ++ l ∷ more)
past-common tuple l more s c p past (t, d, q, few) =
    let all : IsPeriod (tuple ++ l ∷ []) t d = period-front (tuple ++ l ∷ []) more t d (rw (append_assoc tuple (l ∷ []) more) q) in
    let lt : most_positions < d = past d (common-of tuple l s c t d p all) in
    omega (arith, lt, few)

pub past-together : (tuple : List (Lasso Letter)) (l : Lasso Letter) (more : List (Lasso Letter)) (s c m : ℕ) → IsLeastPeriod tuple s c → IsLeastCommon c (length l.cycle) m → most_positions < max (length l.stem) s + m → ¬ IsJudged (tuple ++ l ∷ more)
past-together tuple l more s c m p common past (t, d, q, few) =
    let all : IsPeriod (tuple ++ l ∷ []) t d = period-front (tuple ++ l ∷ []) more t d (rw (append_assoc tuple (l ∷ []) more) q) in
    let (le, multiple) = (least-more tuple l s c m p common).least t d all in
    let below = multiple-le d m q.some multiple in
    omega (arith, le, below, few, past)

pub least-none : IsLeastPeriod [] 0 1
least-none =
    record {
      period = record { some = omega arith; stems = λ v lt. absurd (omega arith); cycles = λ v lt. absurd (omega arith) };
      least = λ t d p. (omega arith, (d, omega arith));
    }

-- ---- the front of a list, and what stands behind it

pub front-more : {A : Type 0} (xs : List A) (i : ℕ) (x : A) → i < length xs → x ≡ get_or xs i x → take (i + 1) xs ≡ take i xs ++ x ∷ []
front-more xs i x lt is =
    let e : i + 1 ≡ suc i = omega arith in
    ap (λ n. take n xs) e ∙ take-suc xs i x lt ∙ ap (λ y. take i xs ++ y ∷ []) (sym is)

pub front-whole : {A : Type 0} (xs : List A) (i : ℕ) (x : A) → i < length xs → x ≡ get_or xs i x → xs ≡ take i xs ++ x ∷ drop (i + 1) xs
front-whole xs i x lt is =
    sym (take-append-drop (i + 1) xs) ∙ ap (λ ys. ys ++ drop (i + 1) xs) (front-more xs i x lt is) ∙ append_assoc (take i xs) (x ∷ []) (drop (i + 1) xs)

module _ (list : List (Lasso Letter)) (pick : List ℕ) (i : ℕ) (l : Lasso Letter) (lt : i < length pick) (is : slice_get list (get_or pick i 0) ≡ Some l) where
  picked-one : (more : List ℕ) → picked list (get_or pick i 0 ∷ more) ≡ l ∷ picked list more
  picked-one more = ap (λ x. x ∷ picked list more) (get_or_from_slice_get list (get_or pick i 0) l no_lasso is)

  pub picked-more : picked list (take (i + 1) pick) ≡ picked list (take i pick) ++ l ∷ []
  picked-more =
      let f : ℕ → Lasso Letter = λ k. get_or list k no_lasso in
      ap (map f) (front-more pick i (get_or pick i 0) lt (get_or_default pick i 0 _ lt)) ∙ map-append f (take i pick) (get_or pick i 0 ∷ []) ∙ ap (λ xs. picked list (take i pick) ++ xs) (picked-one [])

  pub picked-whole : picked list pick ≡ picked list (take i pick) ++ l ∷ picked list (drop (i + 1) pick)
  picked-whole =
      let f : ℕ → Lasso Letter = λ k. get_or list k no_lasso in
      ap (map f) (front-whole pick i (get_or pick i 0) lt (get_or_default pick i 0 _ lt)) ∙ map-append f (take i pick) (get_or pick i 0 ∷ drop (i + 1) pick) ∙ ap (λ xs. picked list (take i pick) ++ xs) (picked-one (drop (i + 1) pick))

pub picked-at : (list : List (Lasso Letter)) (pick : List ℕ) (v : ℕ) (l : Lasso Letter) → v < length pick → slice_get list (get_or pick v 0) ≡ Some l → get_or (picked list pick) v no_lasso ≡ l
picked-at list [] v l lt is = absurd (omega arith)
picked-at list (k ∷ pick) zero l lt is = get_or_from_slice_get list k l no_lasso is
picked-at list (k ∷ pick) (suc v) l lt is = picked-at list pick v l (omega arith) is

-- Members of a list that is judged are judged.
pub judged-picked : (list : List (Lasso Letter)) (pick : List ℕ) → All (λ k. k < length list) pick → IsJudged list → IsJudged (picked list pick)
judged-picked list pick members (s, c, p, few) = (
  s,
  c,
  record {
    some = p.some;
    stems = λ v lt. let P : Lasso Letter → Type 0 = λ l. length l.stem ≤ s in subst P (sym (at v lt)) (p.stems (get_or pick v 0) (within v lt));
    cycles = λ v lt. let P : Lasso Letter → Type 0 = λ l. IsMultiple c (length l.cycle) in subst P (sym (at v lt)) (p.cycles (get_or pick v 0) (within v lt));
  },
  few,
)
  where
    same-length : length (picked list pick) ≡ length pick
    same-length = length-map pick (λ k. get_or list k no_lasso)

    short : (v : ℕ) → v < length (picked list pick) → v < length pick
    short v lt = omega (arith, lt, same-length)

    within : (v : ℕ) → v < length (picked list pick) → get_or pick v 0 < length list
    within v lt = members v 0 (short v lt)

    at : (v : ℕ) → v < length (picked list pick) → get_or (picked list pick) v no_lasso ≡ get_or list (get_or pick v 0) no_lasso
    at v lt = picked-at list pick v _ (short v lt) (slice_get-get_or list (get_or pick v 0) no_lasso (within v lt))

-- Members of a list tried one after another.
use Rattle.std.proofs.Common.{◌≡◌, ℕ, zero, suc, ◌+◌, ◌<◌, ◌⊎◌, ◌↔◌, Bool, true, false, not, IsTrue, List, [], ◌∷◌, ◌++◌, length, get_or, drop, Result, Ok, Err, IfOk, IfErr, refl, sym, ◌∙◌, inl, inr, subst, arith}
use Rattle.std.specs.List.{Contains}
use Rattle.std.specs.Bool.{beq, Decides}
use Rattle.std.proofs.lemmas.List.{append_assoc, append-nil, length-append, map-append, get_or_default}
use Rattle.hy_bits.specs.Letter.{Letter}
use Rattle.hy_formula.specs.Trees.{Tree}
use Rattle.hy_formula.specs.declared.prefix.Quant.{Quant}
use Rattle.hy_formula.specs.declared.prefix.Quant.TheVariants.{Exists, Forall}
use Rattle.hy_formula.specs.Classes.{is_same}
use Rattle.hy_formula.specs.Quantifiers.{Quantified}
use Rattle.hy_formula.specs.Lassos.{Lasso}
use Rattle.hy_lasso.specs.Words.{no_lasso, picked, Meets, Remains}
use Rattle.hy_lasso.specs.Limits.{joint_limit}
use Rattle.hy_lasso.specs.declared.error.HoldsError.{HoldsError}
use Rattle.hy_lasso.specs.declared.error.HoldsError.TheVariants.{Memory as OfMemory, Limit as OfLimit}

-- What is said of a tuple may be said in other words.
pub quantified-like : {A : Type 0} (Member : A → Type 0) (Body Other : List A → Type 0) → ((tuple : List A) → Body tuple → Other tuple) → (prefix : List Quant) → Quantified Member Body prefix → Quantified Member Other prefix
quantified-like Member Body Other f [] q = f [] q
quantified-like Member Body Other f (Exists ∷ prefix) (x, m, q) =
    (x, m, quantified-like Member (λ tuple. Body (x ∷ tuple)) (λ tuple. Other (x ∷ tuple)) (λ tuple b. f (x ∷ tuple) b) prefix q)
quantified-like Member Body Other f (Forall ∷ prefix) q =
    λ x m. quantified-like Member (λ tuple. Body (x ∷ tuple)) (λ tuple. Other (x ∷ tuple)) (λ tuple b. f (x ∷ tuple) b) prefix (q x m)

module _ (list : List (Lasso Letter)) (body : Tree) (chosen : List (Lasso Letter)) (prefix : List Quant) where
  -- one more chosen
  abbrev After : Lasso Letter → Type 0
  After x = Quantified (Contains list) (λ more. Meets body (chosen ++ x ∷ more)) prefix

  after : (x : Lasso Letter) → Remains list body (chosen ++ x ∷ []) prefix ↔ After x
  after x = (
    quantified-like (Contains list) _ _ (λ more h. let P : List (Lasso Letter) → Type 0 = Meets body in subst P (append_assoc chosen (x ∷ []) more) h) prefix,
    quantified-like (Contains list) _ _ (λ more h. let P : List (Lasso Letter) → Type 0 = Meets body in subst P (sym (append_assoc chosen (x ∷ []) more)) h) prefix,
  )

  -- what the choice of member k gives is decided as b
  abbrev pub Tries : Bool → ℕ → Type 0
  Tries b k = Decides b (Remains list body (chosen ++ get_or list k no_lasso ∷ []) prefix)

  -- Each of the first n members fails to give what is wanted.
  abbrev pub Tried : Bool → ℕ → Type 0
  Tried wanted n = (k : ℕ) → k < n → Tries (not wanted) k

  member : (k : ℕ) → k < length list → Contains list (get_or list k no_lasso)
  member k lt = (k, lt, get_or_default list k _ _ lt)

  of-member : (P : Lasso Letter → Type 0) (x : Lasso Letter) → Contains list x → ((k : ℕ) → k < length list → P (get_or list k no_lasso)) → P x
  of-member P x (k, lt, e) all = subst P (get_or_default list k no_lasso x lt ∙ e) (all k lt)

  pub exists-found : (k : ℕ) → k < length list → Tries true k → Remains list body chosen (Exists ∷ prefix)
  exists-found k lt t = (get_or list k no_lasso, member k lt, (after _).0 (t.0 refl))

  pub exists-none : Tried true (length list) → ¬ Remains list body chosen (Exists ∷ prefix)
  exists-none tried (x, m, h) =
      of-member (λ y. ¬ After y) x m (λ k lt a. let e : false ≡ true = (tried k lt).1 ((after _).1 a) in cc) h

  pub forall-fails : (k : ℕ) → k < length list → Tries false k → ¬ Remains list body chosen (Forall ∷ prefix)
  forall-fails k lt t all = let e : false ≡ true = t.1 ((after _).1 (all _ (member k lt))) in cc

  pub forall-all : Tried false (length list) → Remains list body chosen (Forall ∷ prefix)
  forall-all tried x m = of-member After x m (λ k lt. (after _).0 ((tried k lt).0 refl))

  -- a member that stops the quantifier, and none
  pub found : (q : Quant) (k : ℕ) → k < length list → Tries (is_same q Exists) k → Decides (is_same q Exists) (Remains list body chosen (q ∷ prefix))
  found Exists k lt t = (λ _. exists-found k lt t, λ _. refl)
  found Forall k lt t = (λ e. absurd (cc), λ h. absurd (forall-fails k lt t h))

  pub none : (q : Quant) → Tried (is_same q Exists) (length list) → Decides (not (is_same q Exists)) (Remains list body chosen (q ∷ prefix))
  none Exists tried = (λ e. absurd (cc), λ h. absurd (exists-none tried h))
  none Forall tried = (λ _. forall-all tried, λ _. refl)

pub drop-all : {A : Type 0} (xs : List A) (n : ℕ) → length xs ≡ n → drop n xs ≡ []
drop-all [] zero e = refl
drop-all [] (suc n) e = refl
drop-all (x ∷ xs) zero e = absurd (omega (arith, e))
drop-all (x ∷ xs) (suc n) e = drop-all xs n (omega (arith, e))

pub beq-same : (x y : Bool) → beq x y ≡ true → x ≡ y
beq-same true true e = refl
beq-same false false e = refl
beq-same true false e = cc
beq-same false true e = cc

-- where number k was chosen last
pub tries-of : (list : List (Lasso Letter)) (body : Tree) (prefix : List Quant) (tuple : List ℕ) (k : ℕ) (holds : Bool)
    → Decides holds (Remains list body (picked list (tuple ++ k ∷ [])) (drop (length (tuple ++ k ∷ [])) prefix)) → Tries list body (picked list tuple) (drop (length tuple + 1) prefix) holds k
tries-of list body prefix tuple k holds d =
    let P : List (Lasso Letter) → Type 0 = λ xs. Decides holds (Remains list body xs (drop (length (tuple ++ k ∷ [])) prefix)) in
    let Q : ℕ → Type 0 = λ n. Decides holds (Remains list body (picked list tuple ++ get_or list k no_lasso ∷ []) (drop n prefix)) in
    let f : ℕ → Lasso Letter = λ j. get_or list j no_lasso in
    subst Q (length-append tuple (k ∷ [])) (subst P (map-append f tuple (k ∷ [])) d)

-- no quantifier is left
pub remains-none : (list : List (Lasso Letter)) (body : Tree) (chosen : List (Lasso Letter)) (prefix : List Quant) → prefix ≡ [] → Meets body chosen ↔ Remains list body chosen prefix
remains-none list body chosen prefix e =
    let P : List Quant → Type 0 = Remains list body chosen in
    let Q : List (Lasso Letter) → Type 0 = Meets body in
    (λ h. subst P (sym e) (subst Q (sym (append-nil chosen)) h), λ h. subst Q (append-nil chosen) (subst P e h))

pub meaning-like : {E : Type 0} (r : Result Bool E) (P Q : Type 0) → P ↔ Q → IfOk r (λ holds. IsTrue holds ↔ P) → IfOk r (λ holds. IsTrue holds ↔ Q)
meaning-like (Ok b) P Q same h = (λ is. same.0 (h.0 is), λ q. h.1 (same.1 q))
meaning-like (Err e) P Q same h = h

pub only-memory : {T : Type 0} (r : Result T HoldsError) (J : Type 0) → IfErr r (λ e. e ≡ OfLimit joint_limit → ¬ J) → IfErr r (λ e. (e ≡ OfLimit joint_limit) ⊎ (e ≡ OfMemory)) → J → IfErr r (λ e. e ≡ OfMemory)
only-memory (Ok x) J limit causes judged = causes
only-memory (Err e) J limit causes judged = elim causes [ inl past ↦ absurd (limit past judged) | inr memory ↦ memory ]

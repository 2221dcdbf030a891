-- What a numbering stands for once a form goes last, or is found.
use Rattle.std.proofs.Common.{◌≡◌, ℕ, suc, ◌+◌, ◌<◌, ◌≤◌, Bool, true, false, not, ◌&&◌, ◌||◌, cond, nat_eq, List, [], ◌∷◌, ◌++◌, length, map, if◌then◌else◌, refl, sym, ap, ◌∙◌, subst, arith, length-append}
use Rattle.std.specs.Bool.{beq}
use Rattle.std.specs.List.{list_any, position_or_len}
use Rattle.std.proofs.lemmas.List.{map-append, length-map}
use Rattle.std.proofs.lemmas.Bool.{eqb-true, eq-eqb, false_from_ne_true}
use Rattle.hy_formula.specs.Normals.{Normal, always, never, literal, and, or, next, weak_next, until, release}
use Rattle.ltl_closure.specs.declared.node.Node.{Node as Kept}
use Rattle.ltl_closure.specs.declared.node.Node.TheVariants.{True, False, Lit, And, Or, Next, WeakNext, Until, Release}
use Rattle.ltl_closure.specs.contracts.node.NodePartialEq.TheImpl.{ghosts}
use Rattle.ltl_closure.specs.declared.numbering.Numbering.{Numbering}
use Rattle.ltl_closure.specs.Nodes.{Node}
use Rattle.ltl_closure.specs.Closures.{same_form, with_new, number_in, form_in, node_of, nodes_of}
use Rattle.ltl_closure.specs.Plain.{plain_node, same_node}
use Rattle.ltl_closure.specs.Numbered.{Below, PartsIn, Closed, Stands, IsNumber}
use Rattle.ltl_closure.proofs.Closing.{Grown, grown-new, equal-form, form-itself, number-found}

-- kept nodes are compared as plain ones
pub same-kept : (x y : Kept) → ghosts.eq x y ≡ same_node (plain_node x) (plain_node y)
same-kept True True = refl
same-kept False False = refl
same-kept (Lit a b) (Lit c d) = refl
same-kept (And g h) (And k l) = refl
same-kept (Or g h) (Or k l) = refl
same-kept (Next g) (Next k) = refl
same-kept (WeakNext g) (WeakNext k) = refl
same-kept (Until g h) (Until k l) = refl
same-kept (Release g h) (Release k l) = refl
same-kept _ _ = refl

-- ---- nodes of members that stand are one where their forms are

module _ (members : List Normal) where
  same-number : (f g : Normal) → Below members (length members) f → Below members (length members) g → nat_eq (number_in members f) (number_in members g) ≡ same_form f g
  same-number f g (p, _, lt, e) (q, _, lt', e') = step (same_form f g) refl
    where
      at : form_in members (number_in members f) ≡ f
      at = (number-found members f p lt e).1

      at' : form_in members (number_in members g) ≡ g
      at' = (number-found members g q lt' e').1

      step : (b : Bool) → same_form f g ≡ b → nat_eq (number_in members f) (number_in members g) ≡ b
      step true is = let same : f ≡ g = equal-form f g is in eq-eqb _ _ (ap (number_in members) same)
      step false is =
          false_from_ne_true _ (λ t.
          let same : number_in members f ≡ number_in members g = eqb-true _ _ t in
          let one : f ≡ g = sym at ∙ ap (form_in members) same ∙ at' in
          let P : Normal → Type 0 = λ h. same_form f h ≡ true in
          let itself : same_form f g ≡ true = subst P one (form-itself f) in
          cc)

  two-same : (f g h k : Normal) → Below members (length members) f → Below members (length members) g → Below members (length members) h → Below members (length members) k
      → (nat_eq (number_in members f) (number_in members h) && nat_eq (number_in members g) (number_in members k)) ≡ (same_form f h && same_form g k)
  two-same f g h k a b c d = let x = same-number f h a c in let y = same-number g k b d in cc

  turned : (a b c : Bool) → ((b && c) && a) ≡ (a && (b && c))
  turned true true true = refl
  turned true true false = refl
  turned true false c = refl
  turned false true true = refl
  turned false true false = refl
  turned false false c = refl

  same-nodes : (f g : Normal) → PartsIn members (length members) f → PartsIn members (length members) g → same_node (node_of members f) (node_of members g) ≡ same_form f g
  same-nodes always always p q = refl
  same-nodes never never p q = refl
  same-nodes (literal b n v) (literal c m u) p q = turned (beq b c) (nat_eq n m) (nat_eq v u)
  same-nodes (and f g) (and h k) (a, b) (c, d) = two-same f g h k a b c d
  same-nodes (or f g) (or h k) (a, b) (c, d) = two-same f g h k a b c d
  same-nodes (next f) (next h) a c = same-number f h a c
  same-nodes (weak_next f) (weak_next h) a c = same-number f h a c
  same-nodes (until f g) (until h k) (a, b) (c, d) = two-same f g h k a b c d
  same-nodes (release f g) (release h k) (a, b) (c, d) = two-same f g h k a b c d
  same-nodes _ _ p q = refl

-- ---- what is kept against the forms

-- the node passes the test at k exactly where the form does
abbrev pub Tells : (Kept → Bool) → (Normal → Bool) → List Kept → List Normal → Type 0
Tells test is [] [] = Unit {0}
Tells test is (k ∷ ks) (f ∷ fs) = (test k ≡ is f) × Tells test is ks fs
Tells test is _ _ = ⊥

tells-any : (test : Kept → Bool) (is : Normal → Bool) (ks : List Kept) (fs : List Normal) → Tells test is ks fs → list_any test ks ≡ list_any is fs
tells-any test is [] [] t = refl
tells-any test is [] (f ∷ fs) t = absurd t
tells-any test is (k ∷ ks) [] t = absurd t
tells-any test is (k ∷ ks) (f ∷ fs) (e, t) = let rest = tells-any test is ks fs t in cc

place-cond : (b : Bool) (n : ℕ) → cond (not b) (1 + n) 0 ≡ cond b 0 (suc n)
place-cond true n = refl
place-cond false n = omega arith

tells-place : (test : Kept → Bool) (f : Normal) (ks : List Kept) (fs : List Normal) → Tells test (same_form f) ks fs → position_or_len test ks ≡ number_in fs f
tells-place test f [] [] t = refl
tells-place test f [] (g ∷ fs) t = absurd t
tells-place test f (k ∷ ks) [] t = absurd t
tells-place test f (k ∷ ks) (g ∷ fs) (e, t) =
    place-cond (test k) (position_or_len test ks) ∙ (λ i. cond (e i) 0 (suc (tells-place test f ks fs t i)))

module _ (test : Kept → Bool) (x : Node) (tests : (k : Kept) → test k ≡ same_node x (plain_node k)) (members : List Normal) (f : Normal) (node : x ≡ node_of members f) (parts : PartsIn members (length members) f) where
  tells-nodes : (ks : List Kept) (fs : List Normal) → map plain_node ks ≡ map (node_of members) fs → ((k : ℕ) → k < length fs → PartsIn members (length members) (form_in fs k)) → Tells test (same_form f) ks fs
  tells-nodes [] [] e all = tt
  tells-nodes [] (g ∷ fs) e all = absurd (cc)
  tells-nodes (k ∷ ks) [] e all = absurd (cc)
  tells-nodes (k ∷ ks) (g ∷ fs) e all =
      let here : plain_node k ≡ node_of members g = cc in
      let rest : map plain_node ks ≡ map (node_of members) fs = cc in (
        tests k ∙ ap (same_node x) here ∙ ap (λ y. same_node y (node_of members g)) node ∙ same-nodes members f g parts (all 0 (omega arith)),
        tells-nodes ks fs rest (λ q lt. all (suc q) (omega arith)),
      )

-- ---- numbers and nodes as the forms grow

module _ (old new : List Normal) (f : Normal) (grown : Grown old new f) where
  pub number-grown : (h : Normal) → Below old (length old) h → number_in new h ≡ number_in old h
  number-grown h (p, _, lt, e) =
      let (le, at) = number-found old h p lt e in
      let here : number_in old h < length old = omega arith in
      let there : form_in new (number_in old h) ≡ h = grown.stays (number_in old h) here ∙ at in
      let (le', at') = number-found new h (number_in old h) (omega (arith, grown.longer)) there in
      let back : form_in old (number_in new h) ≡ h = sym (grown.stays (number_in new h) (omega arith)) ∙ at' in
      let (le'', _) = number-found old h (number_in new h) (omega arith) back in
      omega arith

  pub node-grown : (h : Normal) → PartsIn old (length old) h → node_of new h ≡ node_of old h
  node-grown always p = refl
  node-grown never p = refl
  node-grown (literal b n v) p = refl
  node-grown (and g h) (a, b) = let x = number-grown g a in let y = number-grown h b in cc
  node-grown (or g h) (a, b) = let x = number-grown g a in let y = number-grown h b in cc
  node-grown (next g) a = let x = number-grown g a in cc
  node-grown (weak_next g) a = let x = number-grown g a in cc
  node-grown (until g h) (a, b) = let x = number-grown g a in let y = number-grown h b in cc
  node-grown (release g h) (a, b) = let x = number-grown g a in let y = number-grown h b in cc

pub below-later : (members : List Normal) (k l : ℕ) (f : Normal) → k ≤ l → Below members k f → Below members l f
below-later members k l f le (p, lt, inside, e) = (p, omega arith, inside, e)

parts-later : (members : List Normal) (k l : ℕ) (f : Normal) → k ≤ l → PartsIn members k f → PartsIn members l f
parts-later members k l always le h = tt
parts-later members k l never le h = tt
parts-later members k l (literal b n v) le h = tt
parts-later members k l (and f g) le (x, y) = (below-later members k l f le x, below-later members k l g le y)
parts-later members k l (or f g) le (x, y) = (below-later members k l f le x, below-later members k l g le y)
parts-later members k l (next f) le x = below-later members k l f le x
parts-later members k l (weak_next f) le x = below-later members k l f le x
parts-later members k l (until f g) le (x, y) = (below-later members k l f le x, below-later members k l g le y)
parts-later members k l (release f g) le (x, y) = (below-later members k l f le x, below-later members k l g le y)

pub parts-there : (members : List Normal) → Closed members → (k : ℕ) → k < length members → PartsIn members (length members) (form_in members k)
parts-there members closed k lt = parts-later members k (length members) (form_in members k) (omega arith) (closed k lt)

map-like : (f g : Normal → Node) (xs : List Normal) → ((k : ℕ) → k < length xs → f (form_in xs k) ≡ g (form_in xs k)) → map f xs ≡ map g xs
map-like f g [] same = refl
map-like f g (x ∷ xs) same = let here : f x ≡ g x = same 0 (omega arith) in let rest = map-like f g xs (λ k lt. same (suc k) (omega arith)) in cc

-- the number of a form that goes last where it is new
number-new : (xs : List Normal) (f : Normal) → number_in (xs ++ f ∷ []) f ≡ number_in xs f
number-new [] f = let e = form-itself f in ap (λ b. cond b 0 1) e
number-new (x ∷ xs) f = ap (λ n. cond (same_form f x) 0 (suc n)) (number-new xs f)

number-with_new : (xs : List Normal) (f : Normal) (b : Bool) → number_in (cond b xs (xs ++ f ∷ [])) f ≡ number_in xs f
number-with_new xs f true = refl
number-with_new xs f false = number-new xs f

-- ---- an insertion

pub few-left : (full any : Bool) (keys new : List Kept) (kept : Kept) → (full || (nat_eq (length keys) 1024 && not any)) ≡ false → length keys ≤ 1024 → new ≡ (if any then keys else keys ++ kept ∷ []) → length new ≤ 1024
few-left true any keys new kept room few is = absurd (cc)
few-left false true keys new kept room few is = omega (arith, ap length is)
few-left false false keys new kept room few is =
    let apart : nat_eq (length keys) 1024 ≡ false = left (nat_eq (length keys) 1024) room in
    let l : length (keys ++ kept ∷ []) ≡ length keys + 1 = length-append keys (kept ∷ []) in
    let ne : length keys ≡ 1024 → ⊥ = λ e. let there = eq-eqb (length keys) 1024 e in absurd (cc) in
    omega (arith, ap length is)
  where
    left : (b : Bool) → (b && true) ≡ false → b ≡ false
    left true e = absurd (cc)
    left false e = refl

module _ (old : Numbering) (kept : Kept) (forms : List Normal) (f : Normal) (stands : Stands forms old) (parts : PartsIn forms (length forms) f) (is : old.full ≡ false → plain_node kept ≡ node_of forms f) where
  grown : Grown forms (with_new f forms) f
  grown = grown-new forms f stands.closed parts

  abbrev test : Kept → Bool
  test k = same_node (plain_node kept) (plain_node k)

  tells : (by : Kept → Bool) → ((k : Kept) → by k ≡ test k) → old.full ≡ false → Tells by (same_form f) old.members.keys forms
  tells by same e = tells-nodes by (plain_node kept) same forms f (is e) parts old.members.keys forms (stands.nodes e) (parts-there forms stands.closed)

  size : old.full ≡ false → length forms ≡ length old.members.keys
  size e = sym (length-map forms (node_of forms)) ∙ ap length (sym (stands.nodes e)) ∙ length-map old.members.keys plain_node

  no-room : (full any : Bool) → old.full ≡ full → list_any test old.members.keys ≡ any → (full || (nat_eq (length old.members.keys) 1024 && not any)) ≡ true → 1024 < length (with_new f forms)
  no-room true any e a r = omega (arith, stands.full e, grown.longer)
  no-room false true e a r = absurd (no (nat_eq (length old.members.keys) 1024) r)
    where
      no : (b : Bool) → (b && false) ≡ true → ⊥
      no true r = cc
      no false r = cc
  no-room false false e a r =
      let full : length old.members.keys ≡ 1024 = eqb-true _ _ (yes (nat_eq (length old.members.keys) 1024) r) in
      let absent : list_any (same_form f) forms ≡ false = sym (tells-any test (same_form f) old.members.keys forms (tells test (λ k. refl) e)) ∙ a in
      let l : length (forms ++ f ∷ []) ≡ length forms + 1 = length-append forms (f ∷ []) in
      let last : length (with_new f forms) ≡ length (forms ++ f ∷ []) = ap (λ b. length (cond b forms (forms ++ f ∷ []))) absent in
      omega (arith, size e)
    where
      yes : (b : Bool) → (b && true) ≡ true → b ≡ true
      yes true r = refl
      yes false r = absurd (cc)

  pub inserted-full : (new : Numbering) → new.full ≡ true → (old.full || (nat_eq (length old.members.keys) 1024 && not (list_any test old.members.keys))) ≡ true → Stands (with_new f forms) new × IsNumber (with_new f forms) new 0 f
  inserted-full new full r = (
    record { closed = grown.closed; full = λ _. no-room old.full (list_any test old.members.keys) refl refl r; nodes = λ e. absurd (let clash : true ≡ false = sym full ∙ e in cc) },
    record { there = grown.there; number = λ e. absurd (let clash : true ≡ false = sym full ∙ e in cc) },
  )

  nodes-after : (b : Bool) → list_any (same_form f) forms ≡ b → old.full ≡ false → (keys : List Kept) → keys ≡ (if b then old.members.keys else old.members.keys ++ kept ∷ []) → map plain_node keys ≡ nodes_of (cond b forms (forms ++ f ∷ []))
  nodes-after true any e keys at = ap (map plain_node) at ∙ stands.nodes e
  nodes-after false any e keys at =
      let G : List Normal → Type 0 = λ n. Grown forms n f in
      let more : Grown forms (forms ++ f ∷ []) f = subst G (ap (λ b. cond b forms (forms ++ f ∷ [])) any) grown in
      ap (map plain_node) at
      ∙ map-append plain_node old.members.keys (kept ∷ [])
      ∙ ap (λ ns. ns ++ plain_node kept ∷ []) (stands.nodes e)
      ∙ ap (λ n. map (node_of forms) forms ++ n ∷ []) (is e)
      ∙ sym (map-append (node_of (forms ++ f ∷ [])) forms (f ∷ [])
      ∙ ap (λ ns. ns ++ node_of (forms ++ f ∷ []) f ∷ []) (map-like (node_of (forms ++ f ∷ [])) (node_of forms) forms (λ k lt. node-grown forms (forms ++ f ∷ []) f more (form_in forms k) (parts-there forms stands.closed k lt)))
      ∙ ap (λ n. map (node_of forms) forms ++ n ∷ []) (node-grown forms (forms ++ f ∷ []) f more f parts))

  pub inserted-room : (by : Kept → Bool) → ((k : Kept) → by k ≡ test k) → (new : Numbering) (place : ℕ) → new.full ≡ old.full → (old.full ≡ true → ⊥)
      → new.members.keys ≡ (if list_any by old.members.keys then old.members.keys else old.members.keys ++ kept ∷ []) → place ≡ position_or_len by old.members.keys
      → Stands (with_new f forms) new × IsNumber (with_new f forms) new place f
  inserted-room by same new place full room keys at =
      let any : old.full ≡ false → list_any by old.members.keys ≡ list_any (same_form f) forms = λ e. tells-any by (same_form f) old.members.keys forms (tells by same e) in (
        record {
          closed = grown.closed;
          full = λ e. absurd (room (sym full ∙ e));
          nodes = λ e.
              let was : old.full ≡ false = sym full ∙ e in
              nodes-after (list_any (same_form f) forms) refl was new.members.keys
              (keys ∙ ap (λ b. if b then old.members.keys else old.members.keys ++ kept ∷ []) (any was));
        },
        record {
          there = grown.there;
          number = λ e.
              at ∙ tells-place by f old.members.keys forms (tells by same (sym full ∙ e)) ∙ sym (number-with_new forms f (list_any (same_form f) forms));
        },
      )

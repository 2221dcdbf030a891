-- What a visit of a form leaves, by the visits of its parts.
use Rattle.std.proofs.Common.{◌≡◌, ℕ, ◌<◌, Bool, true, false, not, cond, List, [], ◌∷◌, ◌++◌, length, map, Option, Some, None, Result, Ok, Err, IfOk, refl, sym, ap, ◌∙◌, subst, arith}
use Rattle.std.proofs.lemmas.List.{get_or-map}
use Rattle.hy_formula.specs.Trees as tree
use Rattle.hy_formula.specs.Trees.{Tree}
use Rattle.hy_formula.specs.Normals.{Normal, always, never, literal, and, or, next, weak_next, until, release, normal_form}
use Rattle.ltl_closure.specs.declared.node.Node.{Node as Kept}
use Rattle.ltl_closure.specs.declared.numbering.Numbering.{Numbering}
use Rattle.ltl_closure.specs.declared.numbering.Operands.{Operands}
use Rattle.ltl_closure.specs.declared.numbering.Sides.{Sides}
use Rattle.ltl_closure.specs.Nodes as node
use Rattle.ltl_closure.specs.Nodes.{Node, node_at}
use Rattle.ltl_closure.specs.Closures.{with_new, with_form, number_in, node_of}
use Rattle.ltl_closure.specs.Plain.{plain_node, constant, conjunction, next_of, until_of}
use Rattle.ltl_closure.specs.Numbered.{Below, PartsIn, Closed, Stands, IsNumber, IsKnown, Inserts, Visits, operands_of, operands_at, AreSides, VisitsSides}
use Rattle.ltl_closure.proofs.Closing.{Grown, grown-form, grown-new, number-found, form-there}
use Rattle.ltl_closure.proofs.Inserting.{number-grown}

-- ---- a second visit

with-new_again : (f : Normal) (forms : List Normal) → Below forms (length forms) f → with_new f forms ≡ forms
with-new_again f forms (p, _, lt, e) = ap (λ b. cond b forms (forms ++ f ∷ [])) (form-there forms f p lt e)

-- below a place is below the end
to-end : (forms : List Normal) (k : ℕ) (f : Normal) → Below forms k f → Below forms (length forms) f
to-end forms k f (p, _, lt, e) = (p, lt, lt, e)

parts-of : (forms : List Normal) → Closed forms → (f : Normal) (there : Below forms (length forms) f) → PartsIn forms there.0 f
parts-of forms closed f (p, _, lt, e) = let P : Normal → Type 0 = PartsIn forms p in subst P e (closed p lt)

-- a form that stands is visited for nothing
pub with-again : (f : Normal) (forms : List Normal) → Closed forms → Below forms (length forms) f → with_form f forms ≡ forms
with-again always forms closed there = with-new_again always forms there
with-again never forms closed there = with-new_again never forms there
with-again (literal b n v) forms closed there = with-new_again (literal b n v) forms there
with-again (and f g) forms closed there =
    let parts = parts-of forms closed (and f g) there in
    ap (with_new (and f g)) (ap (with_form g) (with-again f forms closed (to-end forms _ f parts.0)) ∙ with-again g forms closed (to-end forms _ g parts.1))
    ∙ with-new_again (and f g) forms there
with-again (or f g) forms closed there =
    let parts = parts-of forms closed (or f g) there in
    ap (with_new (or f g)) (ap (with_form g) (with-again f forms closed (to-end forms _ f parts.0)) ∙ with-again g forms closed (to-end forms _ g parts.1))
    ∙ with-new_again (or f g) forms there
with-again (next f) forms closed there =
    ap (with_new (next f)) (with-again f forms closed (to-end forms _ f (parts-of forms closed (next f) there))) ∙ with-new_again (next f) forms there
with-again (weak_next f) forms closed there =
    ap (with_new (weak_next f)) (with-again f forms closed (to-end forms _ f (parts-of forms closed (weak_next f) there))) ∙ with-new_again (weak_next f) forms there
with-again (until f g) forms closed there =
    let parts = parts-of forms closed (until f g) there in
    ap (with_new (until f g)) (ap (with_form g) (with-again f forms closed (to-end forms _ f parts.0)) ∙ with-again g forms closed (to-end forms _ g parts.1))
    ∙ with-new_again (until f g) forms there
with-again (release f g) forms closed there =
    let parts = parts-of forms closed (release f g) there in
    ap (with_new (release f g)) (ap (with_form g) (with-again f forms closed (to-end forms _ f parts.0)) ∙ with-again g forms closed (to-end forms _ g parts.1))
    ∙ with-new_again (release f g) forms there

-- ---- what is known stays known

-- what is full stays full
abbrev pub Keeps : Numbering → Numbering → Type 0
Keeps old new = old.full ≡ true → new.full ≡ true

was-open : (a b : Bool) → (a ≡ true → b ≡ true) → b ≡ false → a ≡ false
was-open true b keeps e = absurd (let t = keeps refl in cc)
was-open false b keeps e = refl

module _ (forms more : List Normal) (f : Normal) (grown : Grown forms more f) (old new : Numbering) (keeps : Keeps old new) where
  pub number-later : (k : ℕ) (g : Normal) → IsNumber forms old k g → IsNumber more new k g
  number-later k g is =
      let (p, lt, inside, e) = is.there in
      record {
        there = (p, omega (arith, grown.longer), omega (arith, grown.longer), grown.stays p inside ∙ e);
        number = λ room. is.number (was-open old.full new.full keeps room) ∙ sym (number-grown forms more f grown g is.there);
      }

  known-later : (o : Option ℕ) (g : Normal) → IsKnown forms old o g → IsKnown more new o g
  known-later None g is = tt
  known-later (Some k) g is = number-later k g is

-- ---- the operands of a number

known-of : (forms : List Normal) (n : Numbering) (o : Option ℕ) (f : Normal) → Below forms (length forms) f → (n.full ≡ false → o ≡ Some (number_in forms f)) → IsKnown forms n o f
known-of forms n None f there is = tt
known-of forms n (Some k) f there is = record { there = there; number = λ e. let same = is e in cc }

pub node-known : (forms : List Normal) (n : Numbering) → Stands forms n → (k : ℕ) (f : Normal) → IsNumber forms n k f → n.full ≡ false → node_at (map plain_node n.members.keys) k ≡ node_of forms f
node-known forms n stands k f is room =
    let (p, _, lt, e) = is.there in
    let (le, at) = number-found forms f p lt e in
    let here : number_in forms f < length forms = omega arith in
    ap (node_at (map plain_node n.members.keys)) (is.number room)
    ∙ ap (λ nodes. node_at nodes (number_in forms f)) (stands.nodes room)
    ∙ get_or-map (node_of forms) forms (number_in forms f) always node.always here
    ∙ ap (node_of forms) at

-- the forms with two operands
pub data Pairing : Type 0 where
  conjoins : Pairing
  disjoins : Pairing
  awaits : Pairing
  releases : Pairing

abbrev pub pair-form : Pairing → Normal → Normal → Normal
pair-form conjoins f g = and f g
pair-form disjoins f g = or f g
pair-form awaits f g = until f g
pair-form releases f g = release f g

abbrev pub pair-node : Pairing → ℕ → ℕ → Node
pair-node conjoins g h = node.and g h
pair-node disjoins g h = node.or g h
pair-node awaits g h = node.until g h
pair-node releases g h = node.release g h

pair-of : (p : Pairing) (forms : List Normal) (f g : Normal) → node_of forms (pair-form p f g) ≡ pair-node p (number_in forms f) (number_in forms g)
pair-of conjoins forms f g = refl
pair-of disjoins forms f g = refl
pair-of awaits forms f g = refl
pair-of releases forms f g = refl

pair-parts : (p : Pairing) (forms : List Normal) (k : ℕ) (f g : Normal) → Below forms k f → Below forms k g → PartsIn forms k (pair-form p f g)
pair-parts conjoins forms k f g a b = (a, b)
pair-parts disjoins forms k f g a b = (a, b)
pair-parts awaits forms k f g a b = (a, b)
pair-parts releases forms k f g a b = (a, b)

parts-pair : (p : Pairing) (forms : List Normal) (k : ℕ) (f g : Normal) → PartsIn forms k (pair-form p f g) → Below forms k f × Below forms k g
parts-pair conjoins forms k f g h = h
parts-pair disjoins forms k f g h = h
parts-pair awaits forms k f g h = h
parts-pair releases forms k f g h = h

pair-operands : (p : Pairing) (x y : ℕ) → operands_of (pair-node p x y) ≡ record { first = Some x; second = Some y }
pair-operands conjoins x y = refl
pair-operands disjoins x y = refl
pair-operands awaits x y = refl
pair-operands releases x y = refl

pair-visit : (p : Pairing) (f g : Normal) (forms : List Normal) → with_form (pair-form p f g) forms ≡ with_new (pair-form p f g) (with_form g (with_form f forms))
pair-visit conjoins f g forms = refl
pair-visit disjoins f g forms = refl
pair-visit awaits f g forms = refl
pair-visit releases f g forms = refl

module _ (forms : List Normal) (n : Numbering) (stands : Stands forms n) where
  pair-known : (p : Pairing) (f g : Normal) (o : Option ℕ) (ops : Operands) → ops ≡ operands_at (map plain_node n.members.keys) o → IsKnown forms n o (pair-form p f g) → IsKnown forms n ops.first f × IsKnown forms n ops.second g
  pair-known p f g None ops is known = let e : ops.first ≡ None = ap (λ (x : Operands). x.first) is in let e' : ops.second ≡ None = ap (λ (x : Operands). x.second) is in
      let P : Option ℕ → Type 0 = λ o. IsKnown forms n o f in let Q : Option ℕ → Type 0 = λ o. IsKnown forms n o g in
      (subst P (sym e) tt, subst Q (sym e') tt)
  pair-known p f g (Some k) ops is known =
      let parts = parts-pair p forms _ f g (parts-of forms stands.closed (pair-form p f g) known.there) in
      let at : n.full ≡ false → ops ≡ record { first = Some (number_in forms f); second = Some (number_in forms g) } =
      λ room. is ∙ ap operands_of (node-known forms n stands k (pair-form p f g) known room ∙ pair-of p forms f g) ∙ pair-operands p _ _
      in (
        known-of forms n ops.first f (to-end forms _ f parts.0) (λ room. ap (λ (x : Operands). x.first) (at room)),
        known-of forms n ops.second g (to-end forms _ g parts.1) (λ room. ap (λ (x : Operands). x.second) (at room)),
      )

  nexts-known : (b : Bool) (f : Normal) (o : Option ℕ) (ops : Operands) → ops ≡ operands_at (map plain_node n.members.keys) o → IsKnown forms n o (cond b (next f) (weak_next f)) → IsKnown forms n ops.first f
  nexts-known b f None ops is known = let e : ops.first ≡ None = ap (λ (x : Operands). x.first) is in let P : Option ℕ → Type 0 = λ o. IsKnown forms n o f in subst P (sym e) tt
  nexts-known true f (Some k) ops is known =
      known-of forms n ops.first f (to-end forms _ f (parts-of forms stands.closed (next f) known.there))
      (λ room. ap (λ (x : Operands). x.first) (is ∙ ap operands_of (node-known forms n stands k (next f) known room)))
  nexts-known false f (Some k) ops is known =
      known-of forms n ops.first f (to-end forms _ f (parts-of forms stands.closed (weak_next f) known.there))
      (λ room. ap (λ (x : Operands). x.first) (is ∙ ap operands_of (node-known forms n stands k (weak_next f) known room)))

-- ---- the visits

-- a visit of a form without parts
pub leaf-visited : (old new : Numbering) (kept : Kept) (k : ℕ) (other : Option ℕ) (f g : Normal) → Inserts old kept new k → ((forms : List Normal) → with_form f forms ≡ with_new f forms) → ((forms : List Normal) → PartsIn forms (length forms) f) → ((forms : List Normal) → plain_node kept ≡ node_of forms f) → Visits old f other g new k
leaf-visited old new kept k other f g inserts visit parts is forms stands known =
    let P : List Normal → Type 0 = λ l. Stands l new × IsNumber l new k f in
    subst P (sym (visit forms)) (inserts forms f stands (parts forms) (λ _. is forms))

module _ (old m1 m2 new : Numbering) (x y k : ℕ) (kept : Kept) (keeps : Keeps old m1) (keeps' : Keeps m1 m2) (inserts : Inserts m2 kept new k) where
  -- a form with two parts, after visits of them
  pair-visited : (p : Pairing) (f g fo go h : Normal) (a b other : Option ℕ) → Visits old f a fo m1 x → Visits m1 g b go m2 y
      → ((forms : List Normal) → Stands forms old → IsKnown forms old other h → IsKnown forms old a fo × IsKnown forms old b go)
      → plain_node kept ≡ pair-node p x y → Visits old (pair-form p f g) other h new k
  pair-visited p f g fo go h a b other first second split is forms stands known =
      let both = split forms stands known in
      let one : List Normal = with_form f forms in
      let two : List Normal = with_form g one in
      let grown : Grown forms one f = grown-form f forms stands.closed in
      let v = first forms stands both.0 in
      let w = second one v.0 (known-later forms one f grown old m1 keeps b go both.1) in
      let grown' : Grown one two g = grown-form g one v.0.closed in
      let here : IsNumber two m2 x f = number-later one two g grown' m1 m2 keeps' x f v.1 in
      let P : List Normal → Type 0 = λ l. Stands l new × IsNumber l new k (pair-form p f g) in
      subst P (sym (pair-visit p f g forms))
      (inserts two (pair-form p f g) w.0 (pair-parts p two _ f g here.there w.1.there)
      (λ room. is ∙ (λ i. pair-node p (here.number room i) (w.1.number room i)) ∙ sym (pair-of p two f g)))

module _ (old m1 new : Numbering) (x k : ℕ) (kept : Kept) (inserts : Inserts m1 kept new k) where
  nexts-visited : (b : Bool) (f fo h : Normal) (a other : Option ℕ) → Visits old f a fo m1 x
      → ((forms : List Normal) → Stands forms old → IsKnown forms old other h → IsKnown forms old a fo)
      → plain_node kept ≡ next_of b x → Visits old (cond b (next f) (weak_next f)) other h new k
  nexts-visited true f fo h a other first split is forms stands known =
      let v = first forms stands (split forms stands known) in
      inserts (with_form f forms) (next f) v.0 v.1.there (λ room. is ∙ ap node.next (v.1.number room))
  nexts-visited false f fo h a other first split is forms stands known =
      let v = first forms stands (split forms stands known) in
      inserts (with_form f forms) (weak_next f) v.0 v.1.there (λ room. is ∙ ap node.weak_next (v.1.number room))

-- ---- the visits of each kind of tree

abbrev nf : Bool → Tree → Normal
nf = normal_form

pub on-ok : {E : Type 0} {P Q : ℕ → Type 0} → (r : Result ℕ E) → ((k : ℕ) → P k → Q k) → IfOk r P → IfOk r Q
on-ok (Ok k) f h = f k h
on-ok (Err e) f h = h

-- the premise of a tree's arm
abbrev pub Visited : {E : Type 0} → Numbering → Bool → Tree → Option ℕ → Result ℕ E → Numbering → Type 0
Visited old b t other r new = IfOk r (Visits old (normal_form b t) other (normal_form (not b) t) new)

module _ {E : Type 0} (old new : Numbering) (other : Option ℕ) (ops : Operands) (at : ops ≡ operands_at (map plain_node old.members.keys) other) (kept : Kept) (r : Result ℕ E) where
  pub next-arm : (m1 : Numbering) (x : ℕ) → IfOk r (Inserts m1 kept new) → (b : Bool) (t f : Tree) → t ≡ tree.next f → Visits old (normal_form b f) ops.first (normal_form (not b) f) m1 x → plain_node kept ≡ next_of b x → Visited old b t other r new
  next-arm m1 x ins true t f e v is =
      let P : Tree → Type 0 = λ t. Visited old true t other r new in
      subst P (sym e) (on-ok r (λ k i. nexts-visited old m1 new x k kept i true (nf true f) (nf false f) (weak_next (nf false f)) ops.first other v (λ forms s. nexts-known forms old s false (nf false f) other ops at) is) ins)
  next-arm m1 x ins false t f e v is =
      let P : Tree → Type 0 = λ t. Visited old false t other r new in
      subst P (sym e) (on-ok r (λ k i. nexts-visited old m1 new x k kept i false (nf false f) (nf true f) (next (nf true f)) ops.first other v (λ forms s. nexts-known forms old s true (nf true f) other ops at) is) ins)

  module _ (m1 m2 : Numbering) (x y : ℕ) (keeps : Keeps old m1) (keeps' : Keeps m1 m2) (ins : IfOk r (Inserts m2 kept new)) where
    pair-arm : (p p' : Pairing) (f g fo go : Normal) → Visits old f ops.first fo m1 x → Visits m1 g ops.second go m2 y → plain_node kept ≡ pair-node p x y → IfOk r (Visits old (pair-form p f g) other (pair-form p' fo go) new)
    pair-arm p p' f g fo go v w is =
        on-ok r (λ k i. pair-visited old m1 m2 new x y k kept keeps keeps' i p f g fo go (pair-form p' fo go) ops.first ops.second other v w (λ forms s. pair-known forms old s p' fo go other ops at) is) ins

    pub and-arm : (b : Bool) (t f g : Tree) → t ≡ tree.and f g → Visits old (normal_form b f) ops.first (normal_form (not b) f) m1 x → Visits m1 (normal_form b g) ops.second (normal_form (not b) g) m2 y → plain_node kept ≡ conjunction b x y → Visited old b t other r new
    and-arm true t f g e v w is = let P : Tree → Type 0 = λ t. Visited old true t other r new in subst P (sym e) (pair-arm conjoins disjoins _ _ _ _ v w is)
    and-arm false t f g e v w is = let P : Tree → Type 0 = λ t. Visited old false t other r new in subst P (sym e) (pair-arm disjoins conjoins _ _ _ _ v w is)

    pub or-arm : (b : Bool) (t f g : Tree) → t ≡ tree.or f g → Visits old (normal_form b f) ops.first (normal_form (not b) f) m1 x → Visits m1 (normal_form b g) ops.second (normal_form (not b) g) m2 y → plain_node kept ≡ conjunction (not b) x y → Visited old b t other r new
    or-arm true t f g e v w is = let P : Tree → Type 0 = λ t. Visited old true t other r new in subst P (sym e) (pair-arm disjoins conjoins _ _ _ _ v w is)
    or-arm false t f g e v w is = let P : Tree → Type 0 = λ t. Visited old false t other r new in subst P (sym e) (pair-arm conjoins disjoins _ _ _ _ v w is)

    pub implies-arm : (b : Bool) (t f g : Tree) → t ≡ tree.implies f g → Visits old (normal_form (not b) f) ops.first (normal_form (not (not b)) f) m1 x → Visits m1 (normal_form b g) ops.second (normal_form (not b) g) m2 y → plain_node kept ≡ conjunction (not b) x y → Visited old b t other r new
    implies-arm true t f g e v w is = let P : Tree → Type 0 = λ t. Visited old true t other r new in subst P (sym e) (pair-arm disjoins conjoins _ _ _ _ v w is)
    implies-arm false t f g e v w is = let P : Tree → Type 0 = λ t. Visited old false t other r new in subst P (sym e) (pair-arm conjoins disjoins _ _ _ _ v w is)

    pub until-arm : (b : Bool) (t f g : Tree) → t ≡ tree.until f g → Visits old (normal_form b f) ops.first (normal_form (not b) f) m1 x → Visits m1 (normal_form b g) ops.second (normal_form (not b) g) m2 y → plain_node kept ≡ until_of b x y → Visited old b t other r new
    until-arm true t f g e v w is = let P : Tree → Type 0 = λ t. Visited old true t other r new in subst P (sym e) (pair-arm awaits releases _ _ _ _ v w is)
    until-arm false t f g e v w is = let P : Tree → Type 0 = λ t. Visited old false t other r new in subst P (sym e) (pair-arm releases awaits _ _ _ _ v w is)

    pub release-arm : (b : Bool) (t f g : Tree) → t ≡ tree.release f g → Visits old (normal_form b f) ops.first (normal_form (not b) f) m1 x → Visits m1 (normal_form b g) ops.second (normal_form (not b) g) m2 y → plain_node kept ≡ until_of (not b) x y → Visited old b t other r new
    release-arm true t f g e v w is = let P : Tree → Type 0 = λ t. Visited old true t other r new in subst P (sym e) (pair-arm releases awaits _ _ _ _ v w is)
    release-arm false t f g e v w is = let P : Tree → Type 0 = λ t. Visited old false t other r new in subst P (sym e) (pair-arm awaits releases _ _ _ _ v w is)

    constant-visited : (b : Bool) (kept1 : Kept) → Inserts old kept1 m1 x → plain_node kept1 ≡ constant b → (f : Normal) → f ≡ cond b always never → (g : Normal) → Visits old f ops.first g m1 x
    constant-visited true kept1 i is f e g = let P : Normal → Type 0 = λ f. Visits old f ops.first g m1 x in subst P (sym e) (leaf-visited old m1 kept1 x ops.first always g i (λ _. refl) (λ _. tt) (λ _. is))
    constant-visited false kept1 i is f e g = let P : Normal → Type 0 = λ f. Visits old f ops.first g m1 x in subst P (sym e) (leaf-visited old m1 kept1 x ops.first never g i (λ _. refl) (λ _. tt) (λ _. is))

    pub finally-arm : (b : Bool) (t g : Tree) → t ≡ tree.finally g → (kept1 : Kept) → Inserts old kept1 m1 x → plain_node kept1 ≡ constant b → Visits m1 (normal_form b g) ops.second (normal_form (not b) g) m2 y → plain_node kept ≡ until_of b x y → Visited old b t other r new
    finally-arm true t g e kept1 i is1 w is = let P : Tree → Type 0 = λ t. Visited old true t other r new in subst P (sym e) (pair-arm awaits releases always _ never _ (constant-visited true kept1 i is1 always refl never) w is)
    finally-arm false t g e kept1 i is1 w is = let P : Tree → Type 0 = λ t. Visited old false t other r new in subst P (sym e) (pair-arm releases awaits never _ always _ (constant-visited false kept1 i is1 never refl always) w is)

    pub globally-arm : (b : Bool) (t g : Tree) → t ≡ tree.globally g → (kept1 : Kept) → Inserts old kept1 m1 x → plain_node kept1 ≡ constant (not b) → Visits m1 (normal_form b g) ops.second (normal_form (not b) g) m2 y → plain_node kept ≡ until_of (not b) x y → Visited old b t other r new
    globally-arm true t g e kept1 i is1 w is = let P : Tree → Type 0 = λ t. Visited old true t other r new in subst P (sym e) (pair-arm releases awaits never _ always _ (constant-visited false kept1 i is1 never refl always) w is)
    globally-arm false t g e kept1 i is1 w is = let P : Tree → Type 0 = λ t. Visited old false t other r new in subst P (sym e) (pair-arm awaits releases always _ never _ (constant-visited true kept1 i is1 always refl never) w is)

-- a full numbering stays as it is
pub full-visited : (old : Numbering) → old.full ≡ true → (f : Normal) (other : Option ℕ) (g : Normal) → Visits old f other g old 0
full-visited old full f other g forms stands known =
    let grown = grown-form f forms stands.closed in (
      record {
        closed = grown.closed;
        full = λ e. omega (arith, stands.full full, grown.longer);
        nodes = λ room. absurd (let clash : true ≡ false = sym full ∙ room in cc);
      },
      record { there = grown.there; number = λ room. absurd (let clash : true ≡ false = sym full ∙ room in cc) },
    )

module _ {E : Type 0} (old m1 m2 m3 new : Numbering) (other : Option ℕ) (ops inner : Operands) (at : ops ≡ operands_at (map plain_node old.members.keys) other) (at' : inner ≡ operands_at (map plain_node old.members.keys) ops.second)
    (x y z : ℕ) (kept1 kept : Kept) (r : Result ℕ E) (keeps : Keeps old m1) (keeps' : Keeps m1 m2) (keeps'' : Keeps m2 m3) (ins1 : Inserts m2 kept1 m3 z) (ins : IfOk r (Inserts m3 kept new)) where
  weak-pair : (p q p' q' : Pairing) (f g fo go : Normal) → Visits old g ops.first go m1 y → Visits m1 f inner.first fo m2 x
      → plain_node kept1 ≡ pair-node p x y → plain_node kept ≡ pair-node q y z
      → IfOk r (Visits old (pair-form q g (pair-form p f g)) other (pair-form q' go (pair-form p' fo go)) new)
  weak-pair p q p' q' f g fo go v w is1 is = on-ok r step ins
    where
      step : (k : ℕ) → Inserts m3 kept new k → Visits old (pair-form q g (pair-form p f g)) other (pair-form q' go (pair-form p' fo go)) new k
      step k i forms stands known =
          let outer = pair-known forms old stands q' go (pair-form p' fo go) other ops at known in
          let within = pair-known forms old stands p' fo go ops.second inner at' outer.1 in
          let one : List Normal = with_form g forms in
          let two : List Normal = with_form f one in
          let three : List Normal = with_new (pair-form p f g) two in
          let a = v forms stands outer.0 in
          let grown : Grown forms one g = grown-form g forms stands.closed in
          let b = w one a.0 (known-later forms one g grown old m1 keeps inner.first fo within.0) in
          let grown' : Grown one two f = grown-form f one a.0.closed in
          let here : IsNumber two m2 y g = number-later one two f grown' m1 m2 keeps' y g a.1 in
          let parts = pair-parts p two _ f g b.1.there here.there in
          let d = ins1 two (pair-form p f g) b.0 parts (λ room. is1 ∙ (λ j. pair-node p (b.1.number room j) (here.number room j)) ∙ sym (pair-of p two f g)) in
          let grown'' : Grown two three (pair-form p f g) = grown-new two (pair-form p f g) b.0.closed parts in
          let still : IsNumber three m3 y g = number-later two three (pair-form p f g) grown'' m2 m3 keeps'' y g here in
          let again : with_form (pair-form p f g) one ≡ three = pair-visit p f g one ∙ ap (with_new (pair-form p f g)) (with-again g two b.0.closed here.there) in
          let P : List Normal → Type 0 = λ l. Stands l new × IsNumber l new k (pair-form q g (pair-form p f g)) in
          subst P (sym (pair-visit q g (pair-form p f g) forms ∙ ap (with_new (pair-form q g (pair-form p f g))) again))
          (i three (pair-form q g (pair-form p f g)) d.0 (pair-parts q three _ g (pair-form p f g) still.there d.1.there)
          (λ room. is ∙ (λ j. pair-node q (still.number room j) (d.1.number room j)) ∙ sym (pair-of q three g (pair-form p f g))))

  pub weak-arm : (b : Bool) (t f g : Tree) → t ≡ tree.weak f g → Visits old (normal_form b g) ops.first (normal_form (not b) g) m1 y → Visits m1 (normal_form b f) inner.first (normal_form (not b) f) m2 x
      → plain_node kept1 ≡ conjunction (not b) x y → plain_node kept ≡ until_of (not b) y z → Visited old b t other r new
  weak-arm true t f g e v w is1 is = let P : Tree → Type 0 = λ t. Visited old true t other r new in subst P (sym e) (weak-pair disjoins releases conjoins awaits _ _ _ _ v w is1 is)
  weak-arm false t f g e v w is1 is = let P : Tree → Type 0 = λ t. Visited old false t other r new in subst P (sym e) (weak-pair conjoins awaits disjoins releases _ _ _ _ v w is1 is)

-- two conjunctions of members, and their disjunction
pub sides-visited : {E : Type 0} (old m1 m2 new : Numbering) (left right : ℕ × ℕ) (x y : ℕ) (kept1 kept2 kept : Kept) (r : Result ℕ E) → Keeps old m1 → Keeps m1 m2
    → Inserts old kept1 m1 x → Inserts m1 kept2 m2 y → IfOk r (Inserts m2 kept new)
    → plain_node kept1 ≡ node.and left.0 left.1 → plain_node kept2 ≡ node.and right.0 right.1 → plain_node kept ≡ node.or x y
    → IfOk r (VisitsSides old left right new)
sides-visited old m1 m2 new left right x y kept1 kept2 kept r keeps keeps' ins1 ins2 ins is1 is2 is = on-ok r step ins
  where
    step : (k : ℕ) → Inserts m2 kept new k → VisitsSides old left right new k
    step k i forms f g h l stands nf' ng nh nl =
        let one : List Normal = with_new (and f g) forms in
        let two : List Normal = with_new (and h l) one in
        let a = ins1 forms (and f g) stands (nf'.there, ng.there) (λ room. is1 ∙ (λ j. node.and (nf'.number room j) (ng.number room j))) in
        let grown : Grown forms one (and f g) = grown-new forms (and f g) stands.closed (nf'.there, ng.there) in
        let nh' : IsNumber one m1 right.0 h = number-later forms one (and f g) grown old m1 keeps right.0 h nh in
        let nl' : IsNumber one m1 right.1 l = number-later forms one (and f g) grown old m1 keeps right.1 l nl in
        let b = ins2 one (and h l) a.0 (nh'.there, nl'.there) (λ room. is2 ∙ (λ j. node.and (nh'.number room j) (nl'.number room j))) in
        let grown' : Grown one two (and h l) = grown-new one (and h l) a.0.closed (nh'.there, nl'.there) in
        let still : IsNumber two m2 x (and f g) = number-later one two (and h l) grown' m1 m2 keeps' x (and f g) a.1 in
        let first : with_form (and f g) forms ≡ one = ap (with_new (and f g)) (ap (with_form g) (with-again f forms stands.closed nf'.there) ∙ with-again g forms stands.closed ng.there) in
        let second : with_form (and h l) one ≡ two = ap (with_new (and h l)) (ap (with_form l) (with-again h one a.0.closed nh'.there) ∙ with-again l one a.0.closed nl'.there) in
        let P : List Normal → Type 0 = λ s. Stands s new × IsNumber s new k (or (and f g) (and h l)) in
        subst P (sym (ap (with_new (or (and f g) (and h l))) (ap (with_form (and h l)) first ∙ second)))
        (i two (or (and f g) (and h l)) b.0 (still.there, b.1.there) (λ room. is ∙ (λ j. node.or (still.number room j) (b.1.number room j))))

-- an equivalence that was visited with the other sign
pub iff-again : {E : Type 0} (old new : Numbering) (other : Option ℕ) (ops : Operands) → ops ≡ operands_at (map plain_node old.members.keys) other → (sides : Sides) → AreSides (map plain_node old.members.keys) ops sides → (r : Result ℕ E)
    → IfOk r (VisitsSides old (sides.left.0, sides.right.1) (sides.right.0, sides.left.1) new) → (b : Bool) (t f g : Tree) → t ≡ tree.iff f g → Visited old b t other r new
iff-again old new other ops at sides are r ins b t f g e = let P : Tree → Type 0 = λ t. Visited old b t other r new in subst P (sym e) (on-ok r (step b) ins)
  where
    numbers : (forms : List Normal) → Stands forms old → (p q h l : Normal) → IsKnown forms old other (or (and p q) (and h l)) → (IsNumber forms old sides.left.0 p × IsNumber forms old sides.left.1 q) × (IsNumber forms old sides.right.0 h × IsNumber forms old sides.right.1 l)
    numbers forms stands p q h l known =
        let outer = pair-known forms old stands disjoins (and p q) (and h l) other ops at known in
        let left = pair-known forms old stands conjoins p q ops.first (record { first = Some sides.left.0; second = Some sides.left.1 }) (sym are.left) outer.0 in
        let right = pair-known forms old stands conjoins h l ops.second (record { first = Some sides.right.0; second = Some sides.right.1 }) (sym are.right) outer.1 in
        (left, right)

    step : (b : Bool) (k : ℕ) → VisitsSides old (sides.left.0, sides.right.1) (sides.right.0, sides.left.1) new k → Visits old (normal_form b (tree.iff f g)) other (normal_form (not b) (tree.iff f g)) new k
    step true k i forms stands known =
        let (a, c) = numbers forms stands (nf true f) (nf false g) (nf false f) (nf true g) known in
        i forms (nf true f) (nf true g) (nf false f) (nf false g) stands a.0 c.1 c.0 a.1
    step false k i forms stands known =
        let (a, c) = numbers forms stands (nf true f) (nf true g) (nf false f) (nf false g) known in
        i forms (nf true f) (nf false g) (nf false f) (nf true g) stands a.0 c.1 c.0 a.1

-- an equivalence
module _ {E : Type 0} (old m1 m2 m3 m4 m5 m6 new : Numbering) (x y z x' y' z' : ℕ) (kept1 kept2 kept : Kept) (other : Option ℕ) (r : Result ℕ E)
    (k1 : Keeps m1 m2) (k2 : Keeps m2 m3) (k3 : Keeps m3 m4) (k4 : Keeps m4 m5) (k5 : Keeps m5 m6) (ins1 : Inserts m2 kept1 m3 z) (ins2 : Inserts m5 kept2 m6 z') (ins : IfOk r (Inserts m6 kept new))
    (is1 : plain_node kept1 ≡ node.and x y) (is2 : plain_node kept2 ≡ node.and x' y') (is : plain_node kept ≡ node.or z z') where
  iff-pair : (p q h l po qo : Normal) (go : Normal) → Visits old p None po m1 x → Visits m1 q None qo m2 y → Visits m3 h (Some x) p m4 x' → Visits m4 l (Some y) q m5 y'
      → IfOk r (Visits old (or (and p q) (and h l)) other go new)
  iff-pair p q h l po qo go v1 v2 v3 v4 = on-ok r step ins
    where
      step : (k : ℕ) → Inserts m6 kept new k → Visits old (or (and p q) (and h l)) other go new k
      step k i forms stands known =
          let one : List Normal = with_form p forms in
          let two : List Normal = with_form q one in
          let three : List Normal = with_new (and p q) two in
          let four : List Normal = with_form h three in
          let five : List Normal = with_form l four in
          let six : List Normal = with_new (and h l) five in
          let a = v1 forms stands tt in
          let b = v2 one a.0 tt in
          let np : IsNumber two m2 x p = number-later one two q (grown-form q one a.0.closed) m1 m2 k1 x p a.1 in
          let c = ins1 two (and p q) b.0 (np.there, b.1.there) (λ room. is1 ∙ (λ j. node.and (np.number room j) (b.1.number room j))) in
          let grown3 : Grown two three (and p q) = grown-new two (and p q) b.0.closed (np.there, b.1.there) in
          let np3 : IsNumber three m3 x p = number-later two three (and p q) grown3 m2 m3 k2 x p np in
          let nq3 : IsNumber three m3 y q = number-later two three (and p q) grown3 m2 m3 k2 y q b.1 in
          let d = v3 three c.0 np3 in
          let grown4 : Grown three four h = grown-form h three c.0.closed in
          let nq4 : IsNumber four m4 y q = number-later three four h grown4 m3 m4 k3 y q nq3 in
          let nz4 : IsNumber four m4 z (and p q) = number-later three four h grown4 m3 m4 k3 z (and p q) c.1 in
          let e = v4 four d.0 nq4 in
          let grown5 : Grown four five l = grown-form l four d.0.closed in
          let nh5 : IsNumber five m5 x' h = number-later four five l grown5 m4 m5 k4 x' h d.1 in
          let nz5 : IsNumber five m5 z (and p q) = number-later four five l grown5 m4 m5 k4 z (and p q) nz4 in
          let g = ins2 five (and h l) e.0 (nh5.there, e.1.there) (λ room. is2 ∙ (λ j. node.and (nh5.number room j) (e.1.number room j))) in
          let grown6 : Grown five six (and h l) = grown-new five (and h l) e.0.closed (nh5.there, e.1.there) in
          let nz6 : IsNumber six m6 z (and p q) = number-later five six (and h l) grown6 m5 m6 k5 z (and p q) nz5 in
          i six (or (and p q) (and h l)) g.0 (nz6.there, g.1.there) (λ room. is ∙ (λ j. node.or (nz6.number room j) (g.1.number room j)))

  pub iff-arm : (b : Bool) (t f g f' g' : Tree) → t ≡ tree.iff f g → f' ≡ f → g' ≡ g → Visits old (normal_form true f) None (normal_form (not true) f) m1 x → Visits m1 (normal_form b g) None (normal_form (not b) g) m2 y
      → Visits m3 (normal_form false f') (Some x) (normal_form (not false) f') m4 x' → Visits m4 (normal_form (not b) g') (Some y) (normal_form (not (not b)) g') m5 y' → Visited old b t other r new
  iff-arm b t f g f' g' e ef eg v1 v2 v3 v4 =
      let P : Tree → Type 0 = λ t. Visited old b t other r new in
      let F : Tree → Type 0 = λ f. Visits m3 (nf false f) (Some x) (nf (not false) f) m4 x' in
      let G : Tree → Type 0 = λ g. Visits m4 (nf (not b) g) (Some y) (nf (not (not b)) g) m5 y' in
      subst P (sym e) (by b v2 (subst F ef v3) (subst G eg v4))
    where
      by : (b : Bool) → Visits m1 (nf b g) None (nf (not b) g) m2 y → Visits m3 (nf false f) (Some x) (nf (not false) f) m4 x' → Visits m4 (nf (not b) g) (Some y) (nf (not (not b)) g) m5 y' → Visited old b (tree.iff f g) other r new
      by true v2 v3 v4 = iff-pair (nf true f) (nf true g) (nf false f) (nf false g) (nf false f) (nf false g) _ v1 v2 v3 v4
      by false v2 v3 v4 = iff-pair (nf true f) (nf false g) (nf false f) (nf true g) (nf false f) (nf true g) _ v1 v2 v3 v4

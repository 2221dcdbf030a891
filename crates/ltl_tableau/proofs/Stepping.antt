-- What becomes of a draft by one step.
use Rattle.std.proofs.Common.{◌≡◌, ℕ, suc, ◌<◌, Bool, true, false, ◌||◌, cond, List, [], ◌∷◌, ◌++◌, Option, inl, inr, refl, sym, ap, ◌∙◌, subst, arith}
use Rattle.std.specs.FinSet.{insert, contains}
use Rattle.std.proofs.lemmas.Bool.{or_cases}
use Rattle.ltl_closure.specs.Nodes.{Node, literal, and, or, until, release, node_at}
use Rattle.ltl_tableau.specs.declared.settle.Work.{Work}
use Rattle.ltl_tableau.specs.declared.settle.Draft.{Draft}
use Rattle.ltl_tableau.specs.declared.steps.Side.{Side}
use Rattle.ltl_tableau.specs.declared.steps.Step.{Step}
use Rattle.ltl_tableau.specs.declared.steps.Step.TheVariants.{Ends, Goes, Splits}
use Rattle.ltl_tableau.specs.Branches.{Members, Has, Branch, expand}
use Rattle.ltl_tableau.specs.Ways.{ways, Within, AreDead, IsOpposite, has_some}
use Rattle.ltl_tableau.specs.Drafts.{ways_of, side_held, side_work, side_ways, SideBelow, Goes_on, IsChoice, IsStep, Takes, Chooses}
use Rattle.ltl_tableau.proofs.Sets.{has-new, has-old}
use Rattle.ltl_tableau.proofs.Forcing.{both-same}
use Rattle.ltl_tableau.proofs.Saying.{opposite-held, dead-more}
use Rattle.ltl_tableau.proofs.WaysLemmas.{known, within-more, within-itself, within-through}

-- the greatest member that is to do
pub step-at : (nodes : List Node) (b f : ℕ) (held later : Members) (node : Node) → b ≡ suc f → Has held f → node_at nodes f ≡ node
    → ways nodes b held later ≡ expand nodes held f (ways nodes f) held later node
step-at nodes b f held later node e has at =
    ap (λ x. ways nodes x held later) e
    ∙ ap (λ c. cond c (expand nodes held f (ways nodes f) held later (node_at nodes f)) (ways nodes f held later)) has
    ∙ ap (expand nodes held f (ways nodes f) held later) at

pub within-side : {w : ℕ} (work : Work w) (side : Side) → Within work.held (side_held work side)
within-side work side =
    within-more work.held (insert work.held side.first) side.second (within-more work.held work.held side.first (within-itself work.held))

pub side-dead : {w : ℕ} (nodes : List Node) (work : Work w) (dead : Members) (side : Side) → AreDead nodes work.held dead
    → SideBelow work.below side → (contains dead side.first || contains dead side.second) ≡ true → side_ways nodes work side ≡ []
side-dead nodes work dead side d (first, second) e =
    elim (or_cases (contains dead side.first) (contains dead side.second) e) [
      | inl h ↦ (d.each side.first h).none work.below _ _ first (within-side work side)
          (has-old (insert work.held side.first) side.second side.first (has-new work.held side.first))
      | inr h ↦ (d.each side.second h).none work.below _ _ second (within-side work side)
          (has-new (insert work.held side.first) side.second)
    ]

-- a number that is put in twice
pub once-more : (s : Members) (g : ℕ) → insert (insert s g) g ≡ insert s g
once-more s g = known (insert s g) g (has-new s g)

-- a choice at the greatest member that is to do
pub step-choice : {w : ℕ} (nodes : List Node) (old mid new : Draft w) (first second : Side) (step : Step)
    → mid.work.below < old.work.below
    → ways_of nodes old.work ≡ ways nodes (suc mid.work.below) mid.work.held mid.work.next
    → ways nodes (suc mid.work.below) mid.work.held mid.work.next ≡ side_ways nodes mid.work first ++ side_ways nodes mid.work second
    → SideBelow mid.work.below first → SideBelow mid.work.below second → AreDead nodes mid.work.held mid.dead
    → Within old.work.held mid.work.held → Chooses nodes mid new first second step → IsStep nodes old new step
step-choice nodes old mid new first second Ends lt same both p q d more none = same ∙ both ∙ none
step-choice nodes old mid new first second Goes lt same both p q d more takes =
    record {
      below = omega (arith, takes.below);
      same = same ∙ both ∙ takes.same;
      dead = takes.dead;
      more = within-through old.work.held mid.work.held new.work.held more takes.more;
    }
step-choice {w} nodes old mid new first second (Splits one other) lt same both p q d more (is, one_is, other_is) =
    let P : Draft w → Type 0 = λ x. IsChoice nodes old x first second in
    let Q : Side → Type 0 = λ x. IsChoice nodes old new x second in
    let R : Side → Type 0 = λ x. IsChoice nodes old new one x in
    subst R (sym other_is) (subst Q (sym one_is) (subst P (sym is)
    (record { below = lt; same = same; both = both; first_below = p; second_below = q; dead = d; more = more })))

-- ---- one way is dead

append-none : (xs : List Branch) → xs ++ [] ≡ xs
append-none [] = refl
append-none (x ∷ xs) = ap (λ l. x ∷ l) (append-none xs)

pub taken-dead : {w : ℕ} (nodes : List Node) (old new : Draft w) (side : Side) → AreDead nodes old.work.held old.dead
    → new.work ≡ side_work old.work side → new.dead ≡ old.dead → AreDead nodes new.work.held new.dead
taken-dead {w} nodes old new side d is dead =
    let Q : Work w → Type 0 = λ x. AreDead nodes x.held new.dead in
    let R : Members → Type 0 = λ x. AreDead nodes (side_held old.work side) x in
    subst Q (sym is) (subst R (sym dead)
    (dead-more nodes old.work.held (side_held old.work side) old.dead (within-side old.work side) d))

taken : {w : ℕ} (nodes : List Node) (old new : Draft w) (side first second : Side) → AreDead nodes old.work.held old.dead
    → new.work ≡ side_work old.work side → new.dead ≡ old.dead
    → side_ways nodes old.work first ++ side_ways nodes old.work second ≡ side_ways nodes old.work side
    → Takes nodes old new first second
taken {w} nodes old new side first second d is dead e =
    let P : Work w → Type 0 = λ x. side_ways nodes old.work first ++ side_ways nodes old.work second ≡ ways nodes x.below x.held x.next in
    record {
      below = ap (λ (x : Work w). x.below) is;
      same = subst P (sym is) e;
      dead = taken-dead nodes old new side d is dead;
      more = let Q : Work w → Type 0 = λ x. Within old.work.held x.held in subst Q (sym is) (within-side old.work side);
    }

pub takes-second : {w : ℕ} (nodes : List Node) (old new : Draft w) (first second : Side) → AreDead nodes old.work.held old.dead
    → SideBelow old.work.below first → (contains old.dead first.first || contains old.dead first.second) ≡ true
    → new.work ≡ side_work old.work second → new.dead ≡ old.dead → Takes nodes old new first second
takes-second nodes old new first second d below e is dead =
    taken nodes old new second first second d is dead
    (ap (λ l. l ++ side_ways nodes old.work second) (side-dead nodes old.work old.dead first d below e))

pub takes-first : {w : ℕ} (nodes : List Node) (old new : Draft w) (first second : Side) → AreDead nodes old.work.held old.dead
    → SideBelow old.work.below second → (contains old.dead second.first || contains old.dead second.second) ≡ true
    → new.work ≡ side_work old.work first → new.dead ≡ old.dead → Takes nodes old new first second
takes-first nodes old new first second d below e is dead =
    taken nodes old new first first second d is dead
    (ap (λ l. side_ways nodes old.work first ++ l) (side-dead nodes old.work old.dead second d below e)
    ∙ append-none (side_ways nodes old.work first))

-- ---- literals

pub literal-ends : (nodes : List Node) (b f : ℕ) (held later : Members) (c : Bool) (n v : ℕ) (o : Option ℕ) → b ≡ suc f → Has held f
    → node_at nodes f ≡ literal c n v → IsOpposite nodes (node_at nodes f) o → has_some held o ≡ true → ways nodes b held later ≡ []
literal-ends nodes b f held later c n v o e has at is clash =
    let P : Node → Type 0 = λ x. IsOpposite nodes x o in
    step-at nodes b f held later (literal c n v) e has at
    ∙ ap (λ x. cond x [] (ways nodes f held later)) (sym (opposite-held nodes held c n v o (subst P at is)) ∙ clash)

pub literal-goes : (nodes : List Node) (b f : ℕ) (held later : Members) (c : Bool) (n v : ℕ) (o : Option ℕ) → b ≡ suc f → Has held f
    → node_at nodes f ≡ literal c n v → IsOpposite nodes (node_at nodes f) o → has_some held o ≡ false
    → ways nodes b held later ≡ ways nodes f held later
literal-goes nodes b f held later c n v o e has at is clear =
    let P : Node → Type 0 = λ x. IsOpposite nodes x o in
    step-at nodes b f held later (literal c n v) e has at
    ∙ ap (λ x. cond x [] (ways nodes f held later)) (sym (opposite-held nodes held c n v o (subst P at is)) ∙ clear)

-- ---- steps

pub and-goes : {w : ℕ} (nodes : List Node) (old : Draft w) (work : Work w) (f g h : ℕ) → old.work.below ≡ suc f → Has old.work.held f
    → node_at nodes f ≡ and g h → AreDead nodes old.work.held old.dead
    → work ≡ record { below = f; held = insert (insert old.work.held g) h; next = old.work.next }
    → Goes_on nodes old (record { work = work; dead = old.dead })
and-goes {w} nodes old work f g h e has at d is =
    let P : Work w → Type 0 = λ x. Goes_on nodes old (record { work = x; dead = old.dead }) in
    subst P (sym is)
    (record {
      below = omega arith;
      same = step-at nodes old.work.below f old.work.held old.work.next (and g h) e has at;
      dead = dead-more nodes old.work.held (insert (insert old.work.held g) h) old.dead
          (within-more old.work.held (insert old.work.held g) h (within-more old.work.held old.work.held g (within-itself old.work.held))) d;
      more = within-more old.work.held (insert old.work.held g) h (within-more old.work.held old.work.held g (within-itself old.work.held));
    })

abbrev pub side : ℕ → ℕ → Bool → Side
side first second postpones = record { first = first; second = second; postpones = postpones }

pub sides-at : {w : ℕ} (nodes : List Node) (work : Work w) (a b c d : Side) → a ≡ c → b ≡ d
    → side_ways nodes work c ++ side_ways nodes work d ≡ side_ways nodes work a ++ side_ways nodes work b
sides-at nodes work a b c d e f =
    ap (λ x. side_ways nodes work x ++ side_ways nodes work d) (sym e) ∙ ap (λ x. side_ways nodes work a ++ side_ways nodes work x) (sym f)

pub side-below : (n : ℕ) (a : Side) (g h : ℕ) (p : Bool) → a ≡ side g h p → g < n → h < n → SideBelow n a
side-below n a g h p e x y = let P : Side → Type 0 = SideBelow n in subst P (sym e) (x, y)

module _ {w : ℕ} (nodes : List Node) (work : Work w) (has : Has work.held work.below) (g h : ℕ) (first second : Side) where
  pub or-both : node_at nodes work.below ≡ or g h → first ≡ side g g false → second ≡ side h h false
      → ways nodes (suc work.below) work.held work.next ≡ side_ways nodes work first ++ side_ways nodes work second
  or-both at one two =
      step-at nodes (suc work.below) work.below work.held work.next (or g h) refl has at
      ∙ both-same _ _ _ _ (ap (λ s. ways nodes work.below s work.next) (sym (once-more work.held g)))
      (ap (λ s. ways nodes work.below s work.next) (sym (once-more work.held h)))
      ∙ sides-at nodes work first second (side g g false) (side h h false) one two

  pub until-both : node_at nodes work.below ≡ until g h → first ≡ side h h false → second ≡ side g g true
      → ways nodes (suc work.below) work.held work.next ≡ side_ways nodes work first ++ side_ways nodes work second
  until-both at one two =
      step-at nodes (suc work.below) work.below work.held work.next (until g h) refl has at
      ∙ both-same _ _ _ _ (ap (λ s. ways nodes work.below s work.next) (sym (once-more work.held h)))
      (ap (λ s. ways nodes work.below s (insert work.next work.below)) (sym (once-more work.held g)))
      ∙ sides-at nodes work first second (side h h false) (side g g true) one two

  pub release-both : node_at nodes work.below ≡ release g h → first ≡ side g h false → second ≡ side h h true
      → ways nodes (suc work.below) work.held work.next ≡ side_ways nodes work first ++ side_ways nodes work second
  release-both at one two =
      step-at nodes (suc work.below) work.below work.held work.next (release g h) refl has at
      ∙ ap (λ l. ways nodes work.below (insert (insert work.held g) h) work.next ++ l)
      (ap (λ s. ways nodes work.below s (insert work.next work.below)) (sym (once-more work.held h)))
      ∙ sides-at nodes work first second (side g h false) (side h h true) one two

-- Drafts of which more is found out.
use Rattle.std.proofs.Common.{◌≡◌, ℕ, ◌<◌, ◌≤◌, Bool, true, false, not, List, [], length, Option, Some, None, inl, inr, refl, sym, ap, ◌∙◌, subst, arith}
use Rattle.std.proofs.Common.{Result, Ok, Err, IfOk}
use Rattle.std.specs.FinSet.{insert, contains}
use Rattle.ltl_closure.specs.Nodes.{Node, and, or, until, release, node_at, PartsBelow}
use Rattle.ltl_tableau.specs.declared.settle.Work.{Work}
use Rattle.ltl_tableau.specs.declared.settle.Draft.{Draft}
use Rattle.ltl_tableau.specs.declared.steps.Side.{Side}
use Rattle.ltl_tableau.specs.Branches.{Members, Has}
use Rattle.ltl_tableau.specs.Ways.{ways, Within, Dies, AreDead, ForcesSome, IsSomeBelow, IsOneMore, with_some, first_forced, second_forced, some_if}
use Rattle.ltl_tableau.specs.Drafts.{Settles, HasNone, Settled, Chosen, holding, side_held, side_work, side_ways}
use Rattle.ltl_tableau.proofs.Sets.{has-cases}
use Rattle.ltl_tableau.proofs.WaysLemmas.{within-itself, within-through, within-more}
use Rattle.ltl_tableau.proofs.Saying.{forcing-first, forcing-second, within-some, forces-more, forced-same, dead-more}

pub settles-itself : {w : ℕ} (nodes : List Node) (draft : Draft w) → AreDead nodes draft.work.held draft.dead → Settles nodes draft draft
settles-itself nodes draft d =
    record { below = refl; next = refl; more = within-itself draft.work.held; same = λ later. refl; dead = d }

pub settles-through : {w : ℕ} (nodes : List Node) (a b c : Draft w) → Settles nodes a b → Settles nodes b c → Settles nodes a c
settles-through nodes a b c s t =
    record {
      below = t.below ∙ s.below;
      next = t.next ∙ s.next;
      more = within-through a.work.held b.work.held c.work.held s.more t.more;
      same = λ later.
          let P : ℕ → Type 0 = λ n. ways nodes n b.work.held later ≡ ways nodes n c.work.held later in
          s.same later ∙ subst P s.below (t.same later);
      dead = t.dead;
    }

pub none-before : {w : ℕ} (nodes : List Node) (a b : Draft w) → Settles nodes a b → HasNone nodes b → HasNone nodes a
none-before nodes a b s h =
    record {
      none = λ later.
          let P : ℕ → Type 0 = λ n. ways nodes n b.work.held later ≡ [] in
          s.same later ∙ subst P s.below (h.none later);
    }

pub settled-through : {w : ℕ} (nodes : List Node) (a b c : Draft w) (ok : Bool) → Settles nodes a b → Settled nodes b c ok → Settled nodes a c ok
settled-through nodes a b c true s t = settles-through nodes a b c s t
settled-through nodes a b c false s t = none-before nodes a b s t

-- ---- one member

pub one-more_itself : (s : Members) (k : ℕ) → IsOneMore s k s
one-more_itself s k = record { only = λ q h. inl h }

pub one-more_with : (s t : Members) (k : ℕ) → t ≡ insert s k → IsOneMore s k t
one-more_with s t k e =
    let P : Members → Type 0 = IsOneMore s k in
    subst P (sym e) (record { only = λ q h. elim (has-cases s k q h) [ inl at ↦ inr at | inr old ↦ inl old ] })

-- a member that dies was looked at
pub ruled-out : {w : ℕ} (nodes : List Node) (old new : Draft w) (k : ℕ) (ok : Bool) → Dies nodes old.work.held k → k < old.work.below
    → AreDead nodes old.work.held old.dead → ok ≡ not (contains old.work.held k) → new.work ≡ old.work → IsOneMore old.dead k new.dead
    → Settled nodes old new ok
ruled-out {w} nodes old new k ok dies lt d verdict same one =
    step ok (contains old.work.held k) refl verdict
  where
    step : (ok b : Bool) → contains old.work.held k ≡ b → ok ≡ not b → Settled nodes old new ok
    step true true e v = absurd (cc)
    step false false e v = absurd (cc)
    step false true e v =
        record { none = λ later. dies.none old.work.below old.work.held later lt (within-itself old.work.held) e }
    step true false e v =
        let P : Work w → Type 0 = λ x. Within old.work.held x.held in
        let Q : Work w → Type 0 = λ x. (later : Members) → ways nodes old.work.below old.work.held later ≡ ways nodes old.work.below x.held later in
        let R : Work w → Type 0 = λ x. AreDead nodes x.held new.dead in
        record {
          below = ap (λ (x : Work w). x.below) same;
          next = ap (λ (x : Work w). x.next) same;
          more = subst P (sym same) (within-itself old.work.held);
          same = subst Q (sym same) (λ later. refl);
          dead = subst R (sym same) (record {
            each = λ q h. elim (one.only q h) [
              | inl before ↦ d.each q before
              | inr at ↦ let S : ℕ → Type 0 = Dies nodes old.work.held in subst S (sym at) dies
            ];
          });
        }

-- what a member asks for is below the number of members
if-below : (n x : ℕ) (b : Bool) → x < n → IsSomeBelow n (some_if b x)
if-below n x true lt = lt
if-below n x false lt = tt

pub first-below : (n k : ℕ) (dead : Members) → k < n → (node : Node) → PartsBelow k node → IsSomeBelow n (first_forced dead node)
first-below n k dead lt (and g h) (p, q) = omega arith
first-below n k dead lt (or g h) (p, q) = if-below n h (contains dead g) (omega arith)
first-below n k dead lt (until g h) (p, q) = if-below n h (contains dead g) (omega arith)
first-below n k dead lt (release g h) (p, q) = omega arith
first-below n k dead lt _ parts = tt

pub second-below : (n k : ℕ) (dead : Members) → k < n → (node : Node) → PartsBelow k node → IsSomeBelow n (second_forced dead node)
second-below n k dead lt (and g h) (p, q) = omega arith
second-below n k dead lt (or g h) (p, q) = if-below n g (contains dead h) (omega arith)
second-below n k dead lt (until g h) (p, q) = if-below n g (contains dead h) (omega arith)
second-below n k dead lt _ parts = tt

pub below-at : (n : ℕ) (o p : Option ℕ) → o ≡ p → IsSomeBelow n p → IsSomeBelow n o
below-at n o p e h = let P : Option ℕ → Type 0 = IsSomeBelow n in subst P (sym e) h

-- both were held
pub enforced : {w : ℕ} (nodes : List Node) (old mid new : Draft w) (k : ℕ) (first second : Option ℕ)
    → AreDead nodes old.work.held old.dead → Has old.work.held k → k < old.work.below → old.work.below ≤ length nodes
    → PartsBelow k (node_at nodes k)
    → first ≡ first_forced old.dead (node_at nodes k) → second ≡ second_forced old.dead (node_at nodes k)
    → mid ≡ holding old (with_some old.work.held first) → new ≡ holding mid (with_some mid.work.held second)
    → Settles nodes old new
enforced {w} nodes old mid new k first second d has lt le parts one two mid_is new_is =
    let F : Option ℕ → Type 0 = ForcesSome nodes old.work.below old.work.held in
    let f = subst F (sym one) (forcing-first nodes old.work.held old.dead k old.work.below d has lt le (node_at nodes k) refl parts) in
    let s = subst F (sym two) (forcing-second nodes old.work.held old.dead k old.work.below d has lt le (node_at nodes k) refl parts) in
    let inside : Within old.work.held (with_some old.work.held first) = within-some old.work.held first in
    let s' = forces-more nodes old.work.below old.work.held (with_some old.work.held first) second inside s in
    let both = with_some (with_some old.work.held first) second in
    let inside' : Within old.work.held both =
    within-through old.work.held (with_some old.work.held first) both inside (within-some (with_some old.work.held first) second) in
    let P : Draft w → Type 0 = λ x. Settles nodes old x in
    let Q : Draft w → Type 0 = λ x. Settles nodes old (holding x (with_some x.work.held second)) in
    subst P (sym new_is) (subst Q (sym mid_is)
    (record {
      below = refl;
      next = refl;
      more = inside';
      same = λ later.
          forced-same nodes old.work.below old.work.held later first f
          ∙ forced-same nodes old.work.below (with_some old.work.held first) later second s';
      dead = dead-more nodes old.work.held both old.dead inside' d;
    }))

-- ---- one way to choose

pub chosen-none : {w : ℕ} (nodes : List Node) (base : Members) (draft mid : Draft w) (side : Side) → mid.work ≡ side_work draft.work side
    → HasNone nodes mid → Chosen nodes base draft side None
chosen-none {w} nodes base draft mid side is h =
    let P : Work w → Type 0 = λ x. ways nodes x.below x.held x.next ≡ [] in
    record { same = sym (subst P is (h.none mid.work.next)); ready = tt }

pub chosen-some : {w : ℕ} (nodes : List Node) (base : Members) (draft mid new : Draft w) (side : Side)
    → mid.work ≡ side_work draft.work side → Within base draft.work.held → Settles nodes mid new
    → Chosen nodes base draft side (Some new)
chosen-some {w} nodes base draft mid new side is inside s =
    let P : Work w → Type 0 = λ x. ways nodes x.below x.held x.next ≡ side_ways nodes draft.work side in
    let Q : ℕ → Type 0 = λ n. ways nodes n new.work.held new.work.next ≡ side_ways nodes draft.work side in
    let R : Members → Type 0 = λ l. ways nodes mid.work.below new.work.held l ≡ side_ways nodes draft.work side in
    let S : Work w → Type 0 = λ x. Within x.held new.work.held in
    let below : mid.work.below ≡ draft.work.below = ap (λ (x : Work w). x.below) is in
    let through : Within (side_held draft.work side) new.work.held = subst S is s.more in
    let first : Within base (side_held draft.work side) =
    within-more base (insert draft.work.held side.first) side.second (within-more base draft.work.held side.first inside) in
    record {
      same = subst Q (sym s.below) (subst R (sym s.next) (sym (s.same mid.work.next) ∙ subst P (sym is) refl));
      ready = (omega (arith, s.below, below), s.dead, within-through base (side_held draft.work side) new.work.held first through);
    }

pub if-ok : {A E : Type 0} (r : Result A E) (P Q : A → Type 0) → IfOk r P → ((x : A) → P x → Q x) → IfOk r Q
if-ok (Ok x) P Q h f = f x h
if-ok (Err e) P Q h f = tt

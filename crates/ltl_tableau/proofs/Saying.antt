-- What a node says by the members that are held and those that are dead.
use Rattle.std.proofs.Common.{◌≡◌, ℕ, ◌<◌, ◌≤◌, Bool, true, false, not, List, length, Option, Some, None, inl, inr, refl, sym, ◌∙◌, subst}
use Rattle.std.specs.FinSet.{insert, contains}
use Rattle.std.proofs.lemmas.Bool.{or_cases, and_parts}
use Rattle.ltl_closure.specs.Nodes.{Node, always, never, literal, and, or, next, weak_next, until, release, node_at, PartsBelow}
use Rattle.ltl_tableau.specs.Branches.{Members, Has, has_literal}
use Rattle.ltl_tableau.specs.Ways.{ways, Within, Dies, AreDead, Forces, ForcesSome, IsOpposite, has_some, with_some, fails, first_forced, second_forced, some_if}
use Rattle.ltl_tableau.proofs.Saturating.{literal-known, literal-unknown}
use Rattle.ltl_tableau.proofs.Sets.{has-cases}
use Rattle.ltl_tableau.proofs.WaysLemmas.{within-more, within-itself, within-through, dies-more, dies-never, dies-literal, dies-and_left, dies-and_right, dies-or, dies-until, dies-release}
use Rattle.ltl_tableau.proofs.Forcing.{and-first, and-second, or-first, or-second, until-first, until-second, release-second}

-- the opposite of a literal is held where its number is
pub opposite-held : (nodes : List Node) (held : Members) (b : Bool) (n v : ℕ) (o : Option ℕ) → IsOpposite nodes (literal b n v) o
    → has_some held o ≡ has_literal nodes held (not b) n v (length nodes)
opposite-held nodes held b n v None is = literal-unknown nodes held (not b) n v is
opposite-held nodes held b n v (Some i) is = literal-known nodes held (not b) n v i is

-- what a node that fails says
pub failing : (nodes : List Node) (held dead : Members) (k : ℕ) (o : Option ℕ) → AreDead nodes held dead
    → (node : Node) → node_at nodes k ≡ node → PartsBelow k node → IsOpposite nodes node o → fails held dead o node ≡ true
    → Dies nodes held k
failing nodes held dead k o d always e parts is fails = absurd (cc)
failing nodes held dead k o d never e parts is fails = dies-never nodes held k e
failing nodes held dead k o d (literal b n v) e parts is fails =
    dies-literal nodes held k b n v e (sym (opposite-held nodes held b n v o is) ∙ fails)
failing nodes held dead k o d (and g h) e (p, q) is fails =
    elim (or_cases (contains dead g) (contains dead h) fails) [
      | inl left ↦ dies-and_left nodes held k g h p q e (d.each g left)
      | inr right ↦ dies-and_right nodes held k g h p q e (d.each h right)
    ]
failing nodes held dead k o d (or g h) e (p, q) is fails =
    let (left, right) = and_parts (contains dead g) (contains dead h) fails in
    dies-or nodes held k g h p q e (d.each g left) (d.each h right)
failing nodes held dead k o d (next g) e parts is fails = absurd (cc)
failing nodes held dead k o d (weak_next g) e parts is fails = absurd (cc)
failing nodes held dead k o d (until g h) e (p, q) is fails =
    let (left, right) = and_parts (contains dead g) (contains dead h) fails in
    dies-until nodes held k g h p q e (d.each g left) (d.each h right)
failing nodes held dead k o d (release g h) e (p, q) is fails = dies-release nodes held k g h p q e (d.each h fails)

forces-if : (nodes : List Node) (n : ℕ) (held : Members) (x : ℕ) (b : Bool) → (b ≡ true → Forces nodes n held x)
    → ForcesSome nodes n held (some_if b x)
forces-if nodes n held x true f = f refl
forces-if nodes n held x false f = tt

pub forcing-first : (nodes : List Node) (held dead : Members) (k n : ℕ) → AreDead nodes held dead → Has held k → k < n
    → n ≤ length nodes → (node : Node) → node_at nodes k ≡ node → PartsBelow k node → ForcesSome nodes n held (first_forced dead node)
forcing-first nodes held dead k n d has lt le (and g h) e (p, q) = and-first nodes held k g h p q has n lt le e
forcing-first nodes held dead k n d has lt le (or g h) e (p, q) =
    forces-if nodes n held h (contains dead g) (λ t. or-second nodes held k g h p q has n lt le e (d.each g t))
forcing-first nodes held dead k n d has lt le (until g h) e (p, q) =
    forces-if nodes n held h (contains dead g) (λ t. until-second nodes held k g h p q has n lt le e (d.each g t))
forcing-first nodes held dead k n d has lt le (release g h) e (p, q) = release-second nodes held k g h p q has n lt le e
forcing-first nodes held dead k n d has lt le _ e parts = tt

pub forcing-second : (nodes : List Node) (held dead : Members) (k n : ℕ) → AreDead nodes held dead → Has held k → k < n
    → n ≤ length nodes → (node : Node) → node_at nodes k ≡ node → PartsBelow k node → ForcesSome nodes n held (second_forced dead node)
forcing-second nodes held dead k n d has lt le (and g h) e (p, q) = and-second nodes held k g h p q has n lt le e
forcing-second nodes held dead k n d has lt le (or g h) e (p, q) =
    forces-if nodes n held g (contains dead h) (λ t. or-first nodes held k g h p q has n lt le e (d.each h t))
forcing-second nodes held dead k n d has lt le (until g h) e (p, q) =
    forces-if nodes n held g (contains dead h) (λ t. until-first nodes held k g h p q has n lt le e (d.each h t))
forcing-second nodes held dead k n d has lt le _ e parts = tt

-- ---- what is held grows

pub within-some : (held : Members) (o : Option ℕ) → Within held (with_some held o)
within-some held None = within-itself held
within-some held (Some x) = within-more held held x (within-itself held)

pub forces-more : (nodes : List Node) (n : ℕ) (held more : Members) (o : Option ℕ) → Within held more → ForcesSome nodes n held o
    → ForcesSome nodes n more o
forces-more nodes n held more None inside f = tt
forces-more nodes n held more (Some x) inside f =
    record { same = λ bigger later b. f.same bigger later (within-through held more bigger inside b) }

-- the same branches come from what is held with what it forces
pub forced-same : (nodes : List Node) (n : ℕ) (held later : Members) (o : Option ℕ) → ForcesSome nodes n held o
    → ways nodes n held later ≡ ways nodes n (with_some held o) later
forced-same nodes n held later None f = refl
forced-same nodes n held later (Some x) f = f.same held later (within-itself held)

pub dead-more : (nodes : List Node) (held more dead : Members) → Within held more → AreDead nodes held dead → AreDead nodes more dead
dead-more nodes held more dead inside d = record { each = λ k h. dies-more nodes held more k inside (d.each k h) }

pub dead-one : (nodes : List Node) (held dead : Members) (k : ℕ) → AreDead nodes held dead → Dies nodes held k
    → AreDead nodes held (insert dead k)
dead-one nodes held dead k d one =
    record {
      each = λ q h. elim (has-cases dead k q h) [
        | inl e ↦ let P : ℕ → Type 0 = Dies nodes held in subst P (sym e) one
        | inr old ↦ d.each q old
      ];
    }

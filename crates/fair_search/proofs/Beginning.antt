-- A pass in which no node was seen.
use Rattle.std.proofs.Common.{◌≡◌, ℕ, false, [], length, get_or, replicate, inl, inr, sym, ◌∙◌, arith}
use Rattle.std.specs.List.{Contains}
use Rattle.std.proofs.lemmas.Bool.{cases_lt, true≢false}
use Rattle.std.proofs.lemmas.List.{length-replicate, get_or-replicate, get_or_past}
use Rattle.rank_check.specs.Graphs.{Shape}
use Rattle.fair_search.specs.declared.pass.Place.TheVariants.{New, Open, Done}
use Rattle.fair_search.specs.declared.pass.Pass.{Pass}
use Rattle.fair_search.specs.Passing.{place_of, IsPass}

-- what is read of equal values, with the same default
pub all_alike : {X : Type 0} (n : ℕ) (x : X) (i : ℕ) → get_or (replicate n x) i x ≡ x
all_alike n x i =
    elim (cases_lt i n) [
      | inl lt ↦ get_or-replicate n i x x lt
      | inr le ↦ get_or_past (replicate n x) i x (omega (arith, length-replicate n x))
    ]

module _ (g : Shape) where
  abbrev n : ℕ
  n = length g.nodes

  abbrev pub Begun : Pass
  Begun = record {
    places = replicate n New;
    explored = replicate n 0;
    loops = replicate n false;
    stack = [];
    pending = [];
    starts = [];
    reasons = [];
    begun = 0;
  }

  unseen : (v : ℕ) → place_of Begun v ≡ New
  unseen v = all_alike n New v

  not_open : (v i : ℕ) {A : Type 0} → place_of Begun v ≡ Open i → A
  not_open v i at = let e : New ≡ Open i = sym (unseen v) ∙ at in absurd cc

  not_done : (v r : ℕ) {A : Type 0} → place_of Begun v ≡ Done r → A
  not_done v r at = let e : New ≡ Done r = sym (unseen v) ∙ at in absurd cc

  nothing : (x : ℕ) {A : Type 0} → Contains [] x → A
  nothing x there = absurd (omega (arith, there.1))

  pub begun_pass : IsPass g Begun
  begun_pass = record {
    places_long = length-replicate n New;
    explored_long = length-replicate n 0;
    loops_long = length-replicate n false;
    stacked = λ i lt. absurd (omega (arith, lt));
    opened = λ v i at. not_open v i at;
    few = omega arith;
    rooted = λ some. absurd (omega (arith, some));
    starts_up = λ i j lt there. absurd (omega (arith, there));
    starts_open = λ b there. nothing b there;
    first_start = λ some. absurd (omega (arith, some));
    up = λ i j lt there. absurd (omega (arith, there));
    down = λ i j lt there none. absurd (omega (arith, there));
    fresh = λ v at. all_alike n 0 v;
    within = λ v. omega (arith, all_alike {X = ℕ} n 0 v);
    looked = λ v i k at lt. not_open v i at;
    loop_seen = λ v i k at lt same. not_open v i at;
    loop_there = λ v at. absurd (true≢false (sym at ∙ all_alike n false v));
    waiting = λ v i at left. not_open v i at;
    pending_up = λ i j lt there. absurd (omega (arith, there));
    pending_open = λ i there. nothing i there;
    begun_within = omega arith;
    begun_seen = λ k lt. absurd (omega (arith, lt));
    closed = λ v w r at edge. not_done v r at;
    ranked = λ v r at. not_done v r at;
    explained = λ r lt. absurd (omega (arith, lt));
  }

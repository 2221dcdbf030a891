-- The groups of a list of facts.
use Rattle.std.proofs.Common.{◌≡◌, ℕ, ◌+◌, ◌*◌, ◌/◌, ◌%◌, ◌<◌, List, get_or, drop, sym, ap, ◌∙◌, arith, length-drop}
use Rattle.std.specs.List.{Contains}
use Rattle.std.proofs.lemmas.List.{get_or-take, get_or-drop, length-take}
use Rattle.cnf_frames.specs.declared.facts.Fact.{Fact}
use Rattle.cnf_frames.specs.Facts.{AllIn}
use Rattle.cnf_frames.specs.Queries.{group_of, groups}

-- a fact of a group is one of the facts
pub of-group : (facts : List Fact) (g : ℕ) (f : Fact) → Contains (group_of facts g) f →
    Contains facts f
of-group facts g f (i, lt, e) =
    let a = length-take 64 (drop (64 * g) facts) in
    let b = length-drop (64 * g) facts in (
      64 * g + i,
      omega (arith, a, b, lt),
      sym (get_or-drop (64 * g) facts i f)
          ∙ sym (get_or-take 64 (drop (64 * g) facts) i f (omega (arith, a, lt))) ∙ e,
    )

-- each fact is in its group
pub in-group : (facts : List Fact) (f : Fact) → Contains facts f →
    (g : ℕ) × (g < groups facts) × Contains (group_of facts g) f
in-group facts f (j, lt, e) =
    let g : ℕ = j / 64 in
    let a = length-take 64 (drop (64 * g) facts) in
    let b = length-drop (64 * g) facts in
    let at : 64 * g + j % 64 ≡ j = omega arith in (
      g,
      omega arith,
      (
        j % 64,
        omega (arith, a, b, lt),
        get_or-take 64 (drop (64 * g) facts) (j % 64) f (omega arith)
            ∙ get_or-drop (64 * g) facts (j % 64) f ∙ ap (λ x. get_or facts x f) at ∙ e,
      ),
    )

pub group-in : (n : ℕ) (facts : List Fact) (g : ℕ) → AllIn n facts → AllIn n (group_of facts g)
group-in n facts g inside f there = inside f (of-group facts g f there)

use Rattle.std.proofs.Common.{◌≡◌, ◌+◌, ◌-◌, ◌<◌, ℕ, cond, [], length, get_or, bit_or, List, sym, ap, ◌∙◌, subst, arith}
use Rattle.std.specs.FinSet.{empty}
use Rattle.std.proofs.lemmas.Bool.{eqb-true}
use Rattle.std.proofs.lemmas.List.{take_all}
use Rattle.hy_base.proofs.Members.{contains-none}
use Rattle.hy_bits.specs.Letter.{Letter}
use Rattle.fin_monitor.specs.Codes.{part_of}
use Rattle.fin_monitor.specs.Machines.{settled_state, codes}
use Rattle.trace_trie.specs.Cursors.{letters_of, rests_at, AreLetters}
use Rattle.tuple_walk.specs.Pairs.{pair_of, beside, sought_beside, over_of}
use Rattle.tuple_walk.specs.Searches.{AreAcceptedBy, AreStepsBy}
use Rattle.tuple_walk.specs.Walks.{machine_in}
use Rattle.tuple_walk.proofs.Choosing.{no-steps_by, steps-letters}
use Rattle.tuple_walk.proofs.Ending.{settled-accepted, from-none}
use Rattle.tuple_walk.proofs.Longest.{longest_in}
use Rattle.tuple_walk.proofs.PairEnds.{node-accepted, end-search, end-steps, stop-search, pair-here, pair-rejects, over-accepted, may-go-on}
use Rattle.tuple_walk.proofs.Pairs.{letter-rejected, letter-accepted, letter-steps, next-pair, longest-under, some-under, pair-within}
use Rattle.tuple_walk.proofs.walk.Walk.+beside.Goals as goal

-- ---- search_beside

pub search_beside-returns-then-is_settled-clause-searched :
    goal.search_beside-returns-then-is_settled-clause-searched
search_beside-returns-then-is_settled-clause-searched g t c = λ number.
    let w = c.args.self.now in
    settled-accepted (machine_in w) w.monitor.monitor.now.right w.lengths c.args.q
    (eqb-true c.args.q (settled_state (machine_in w))
    (sym c.is_settled.ensures ∙ c.if-is_settled.true))
    (sought_beside c.args.first (number, c.args.given.now))
    (beside c.args.first (number, c.args.given.now) (rests_at c.args.node.now))

pub search_beside-search_node-requires : goal.search_beside-search_node-requires
search_beside-search_node-requires g t c κs within = (
  omega (arith, c.decreases),
  (within, (c.requires.two, (c.requires.state, c.requires.some))),
)

-- ---- search_letters

pub search_letters-loop-k-init : goal.search_letters-loop-k-init
search_letters-loop-k-init g t c = record {
  accepted = λ number tuple h some a e f. absurd (contains-none a e);
  steps = omega arith;
  counted = λ number.
      let s = sought_beside c.args.first (number, c.args.given.now) in
      let ls = beside c.args.first (number, c.args.given.now) (rests_at c.args.node.now) in
      let P : ℕ → Type 0 = AreStepsBy s c.args.self.now.lengths (cond c.args.first 1 0) [] ls in
      let none : 0 ≡ c.args.steps.now - c.args.steps.now = omega arith in
      subst P none (no-steps_by s c.args.self.now.lengths ls (cond c.args.first 1 0) []);
}

pub search_letters-step-next-requires-clause-code :
    goal.search_letters-step-next-requires-clause-code
search_letters-step-next-requires-clause-code g t c =
    let w = c.args.self.now in
    let m = machine_in w in
    let t = c.args.given.now in
    let rests = rests_at c.args.node.now in
    let letters = letters_of c.args.node.now in
    let are : AreLetters letters rests = c.letters_differ.ensures in
    let a = c.at-letter.result.0 in
    let first = c.args.first in
    let own : c.part-part.result ≡ part_of m.atoms (cond first 0 1) (get_or t 0 empty) =
    c.part-part.ensures.part
    ∙ (λ j. part_of m.atoms (c.places_of-own.ensures.given j) (c.letter_at.ensures j)) in
    let other : c.part.result ≡ part_of m.atoms (cond first 1 0) a =
    c.part.ensures.part ∙ (λ j. part_of m.atoms (c.places_of-own.ensures.other j) a) in
    let P : ℕ → Type 0 = λ code. code < codes m in
    subst P (sym (λ j. bit_or (own j) (other j))) (pair-within m first t a)

pub search_letters-search_beside-requires : goal.search_letters-search_beside-requires
search_letters-search_beside-requires g t c κs within =
    let rests = rests_at c.args.node.now in
    let letters = letters_of c.args.node.now in
    let are : AreLetters letters rests = c.letters_differ.ensures in
    let a = c.at-letter.result.0 in
    let fewer = longest-under rests letters are c.loop-k.k a c.at-letter.ensures.letter in
    let some = some-under rests letters are c.loop-k.k a c.at-letter.ensures.letter in
    let same = ap longest_in c.at-letter.ensures.child in
    let long = ap length c.at-letter.ensures.child in (
      omega (arith, c.decreases, fewer, same),
      (within, (c.requires.two, (c.step-next.ensures.within, omega (arith, some, long)))),
    )

pub search_letters-returns-in-Some-clause-searched :
    goal.search_letters-returns-in-Some-clause-searched
search_letters-returns-in-Some-clause-searched g t c = λ number.
    let w = c.args.self.now in
    let m = machine_in w in
    let first = c.args.first in
    let t = c.args.given.now in
    let rests = rests_at c.args.node.now in
    let letters = letters_of c.args.node.now in
    let a = c.at-letter.result.0 in
    let next = next-pair m c.args.q c.step-next.result first t a c.letter_at.result
    c.places_of-own.result.0 c.places_of-own.result.1 c.part-part.result c.part.result
    c.places_of-own.ensures.given c.places_of-own.ensures.other c.letter_at.ensures
    c.part-part.ensures.part c.part.ensures.part c.step-next.ensures.next in
    letter-rejected m w.lengths c.args.q c.step-next.result first number t
    c.behind_first-left.result c.behind_first-left.ensures c.requires.goes rests letters c.letters_differ.ensures
    c.loop-k.k a c.at-letter.ensures.letter c.at-letter.result.1 c.at-letter.ensures.child next
    (pair_of first number c.in-Some.number) (c.in-Some.ensures.searched number)

pub search_letters-returns-in-Some-clause-steps : goal.search_letters-returns-in-Some-clause-steps
search_letters-returns-in-Some-clause-steps g t c =
    omega (
      arith,
      c.loop-k.invariant.steps,
      c.step-next.ensures.counted,
      c.search_beside.ensures.steps,
    )

pub search_letters-returns-in-Some-clause-counted :
    goal.search_letters-returns-in-Some-clause-counted
search_letters-returns-in-Some-clause-counted g t c = λ number.
    let w = c.args.self.now in
    let m = machine_in w in
    let first = c.args.first in
    let t = c.args.given.now in
    let rests = rests_at c.args.node.now in
    let letters = letters_of c.args.node.now in
    let a = c.at-letter.result.0 in
    let next = next-pair m c.args.q c.step-next.result first t a c.letter_at.result
    c.places_of-own.result.0 c.places_of-own.result.1 c.part-part.result c.part.result
    c.places_of-own.ensures.given c.places_of-own.ensures.other c.letter_at.ensures
    c.part-part.ensures.part c.part.ensures.part c.step-next.ensures.next in
    steps-letters (sought_beside first (number, t)) w.lengths (beside first (number, t) rests)
    (cond first 1 0) letters (c.loop-k.k + 1) (c.search_beside.new.steps - c.args.steps.now)
    (letter-steps m w.lengths c.args.q c.step-next.result first number t
    c.behind_first-left.result c.behind_first-left.ensures c.requires.goes rests letters c.letters_differ.ensures
    c.loop-k.k a c.at-letter.ensures.letter c.at-letter.result.1 c.at-letter.ensures.child next
    (c.loop-k.steps - c.args.steps.now) (c.search_beside.new.steps - c.step-next.new.steps)
    (c.search_beside.new.steps - c.args.steps.now)
    (omega (
      arith,
      c.loop-k.invariant.steps,
      c.step-next.ensures.counted,
      c.search_beside.ensures.steps,
    )) (c.loop-k.invariant.counted number)
    (c.search_beside.ensures.counted number))

pub search_letters-loop-k-preserved : goal.search_letters-loop-k-preserved
search_letters-loop-k-preserved g t c =
    let w = c.args.self.now in
    let m = machine_in w in
    let first = c.args.first in
    let t = c.args.given.now in
    let rests = rests_at c.args.node.now in
    let letters = letters_of c.args.node.now in
    let a = c.at-letter.result.0 in
    let next = next-pair m c.args.q c.step-next.result first t a c.letter_at.result
    c.places_of-own.result.0 c.places_of-own.result.1 c.part-part.result c.part.result
    c.places_of-own.ensures.given c.places_of-own.ensures.other c.letter_at.ensures
    c.part-part.ensures.part c.part.ensures.part c.step-next.ensures.next in
    record {
      accepted = λ number. letter-accepted m w.lengths c.args.q c.step-next.result first number t
          c.behind_first-left.result c.behind_first-left.ensures c.requires.goes rests letters c.letters_differ.ensures
          c.loop-k.k a c.at-letter.ensures.letter c.at-letter.result.1 c.at-letter.ensures.child next
          (c.loop-k.invariant.accepted number) (c.in-None.ensures.searched number);
      steps = omega (
        arith,
        c.loop-k.invariant.steps,
        c.step-next.ensures.counted,
        c.search_beside.ensures.steps,
      );
      counted = λ number. letter-steps m w.lengths c.args.q c.step-next.result first number t
          c.behind_first-left.result c.behind_first-left.ensures c.requires.goes rests letters c.letters_differ.ensures
          c.loop-k.k a c.at-letter.ensures.letter c.at-letter.result.1 c.at-letter.ensures.child next
          (c.loop-k.steps - c.args.steps.now) (c.search_beside.new.steps - c.step-next.new.steps)
          (c.search_beside.new.steps - c.args.steps.now)
          (omega (
            arith,
            c.loop-k.invariant.steps,
            c.step-next.ensures.counted,
            c.search_beside.ensures.steps,
          )) (c.loop-k.invariant.counted number)
          (c.search_beside.ensures.counted number);
    }

pub search_letters-returns-clause-searched : goal.search_letters-returns-clause-searched
search_letters-returns-clause-searched g t c = λ number.
    let w = c.args.self.now in
    let letters = letters_of c.args.node.now in
    let P : List Letter → Type 0 = λ l. AreAcceptedBy
    (sought_beside c.args.first (number, c.args.given.now)) (machine_in w) w.lengths c.args.q
    (cond c.args.first 1 0) l
    (beside c.args.first (number, c.args.given.now) (rests_at c.args.node.now)) in
    subst P (take_all c.loop-k.k letters
    (omega (arith, c.len-k-end.ensures, c.loop-k-test.false))) (c.loop-k.invariant.accepted number)

pub search_letters-returns-clause-steps : goal.search_letters-returns-clause-steps
search_letters-returns-clause-steps g t c = c.loop-k.invariant.steps

pub search_letters-returns-clause-counted : goal.search_letters-returns-clause-counted
search_letters-returns-clause-counted g t c = λ number.
    steps-letters (sought_beside c.args.first (number, c.args.given.now)) c.args.self.now.lengths
    (beside c.args.first (number, c.args.given.now) (rests_at c.args.node.now))
    (cond c.args.first 1 0) (letters_of c.args.node.now) c.loop-k.k
    (c.loop-k.steps - c.args.steps.now) (c.loop-k.invariant.counted number)

-- ---- search_node

pub search_node-returns-then-rejects_beside-clause-searched :
    goal.search_node-returns-then-rejects_beside-clause-searched
search_node-returns-then-rejects_beside-clause-searched g t c = λ number.
    let w = c.args.self.now in
    let given = c.args.given.now in
    let rests = rests_at c.args.node.now in
    let (can, rejects) = pair-rejects w.lengths c.args.first number given rests c.first.result
    c.first.ensures.some c.first.ensures.none (machine_in w) c.args.q
    c.is_empty-ended.result c.is_some.result c.rejects_beside.result c.is_empty-ended.ensures
    c.is_some.ensures c.rejects_beside.ensures c.if-rejects_beside.true in
    stop-search (machine_in w) w.lengths c.args.q c.args.first number given rests c.requires.some
    c.any.result c.any.ensures.some c.any.ensures.none can rejects

pub search_node-returns-then-is_over-clause-searched :
    goal.search_node-returns-then-is_over-clause-searched
search_node-returns-then-is_over-clause-searched g t c = λ number.
    let w = c.args.self.now in
    let given = c.args.given.now in
    let rests = rests_at c.args.node.now in
    let here = pair-here w.lengths c.args.first number given rests c.first.result
    c.first.ensures.some c.first.ensures.none (machine_in w) c.args.q
    c.is_empty-ended.result c.is_some.result c.rejects_beside.result c.is_empty-ended.ensures
    c.is_some.ensures c.rejects_beside.ensures c.if-rejects_beside.false in
    from-none (sought_beside c.args.first (number, given)) (machine_in w) w.lengths c.args.q
    (beside c.args.first (number, given) rests)
    (over-accepted (machine_in w) w.lengths c.args.q c.args.first number given rests
    (sym (c.is_over.ensures ∙ ap (over_of w.lengths) c.is_empty-ended.ensures)
    ∙ c.if-is_over.true)) here

pub search_node-search_letters-requires : goal.search_node-search_letters-requires
search_node-search_letters-requires g t c κs within = (
  omega (arith, c.decreases),
  (
    within,
    (
      c.requires.two,
      (
        c.requires.state,
        may-go-on c.args.self.now.lengths c.args.given.now
            (sym (c.is_over.ensures
            ∙ ap (over_of c.args.self.now.lengths) c.is_empty-ended.ensures)
            ∙ c.if-is_over.false),
      ),
    ),
  ),
)

pub search_node-returns-in-Some-past_end-clause-searched :
    goal.search_node-returns-in-Some-past_end-clause-searched
search_node-returns-in-Some-past_end-clause-searched g t c = λ number.
    let w = c.args.self.now in
    let given = c.args.given.now in
    let rests = rests_at c.args.node.now in
    let here = pair-here w.lengths c.args.first number given rests c.first.result
    c.first.ensures.some c.first.ensures.none (machine_in w) c.args.q
    c.is_empty-ended.result c.is_some.result c.rejects_beside.result c.is_empty-ended.ensures
    c.is_some.ensures c.rejects_beside.ensures c.if-rejects_beside.false in
    end-search (machine_in w) w.lengths c.args.q c.args.first number given rests
    (letters_of c.args.node.now) c.letters_differ.ensures here c.in-Some-past_end.number
    c.in-Some-past_end.ensures.some (c.in-None.ensures.searched number) c.follow_pair.result
    (c.follow_pair.ensures.searched number)

pub search_node-returns-in-Some-past_end-clause-counted :
    goal.search_node-returns-in-Some-past_end-clause-counted
search_node-returns-in-Some-past_end-clause-counted g t c = λ number.
    let w = c.args.self.now in
    let given = c.args.given.now in
    let rests = rests_at c.args.node.now in
    let here = pair-here w.lengths c.args.first number given rests c.first.result
    c.first.ensures.some c.first.ensures.none (machine_in w) c.args.q
    c.is_empty-ended.result c.is_some.result c.rejects_beside.result c.is_empty-ended.ensures
    c.is_some.ensures c.rejects_beside.ensures c.if-rejects_beside.false in
    end-steps (machine_in w) w.lengths c.args.q c.args.first number given rests
    (letters_of c.args.node.now) c.letters_differ.ensures here c.in-Some-past_end.number
    c.in-Some-past_end.ensures.some (c.search_letters.new.steps - c.args.steps.now)
    (c.follow_pair.new.steps - c.search_letters.new.steps)
    (c.follow_pair.new.steps - c.args.steps.now)
    (omega (arith, c.search_letters.ensures.steps, c.follow_pair.ensures.steps))
    (c.search_letters.ensures.counted number) (c.follow_pair.ensures.counted number)

pub search_node-returns-in-None-past_end-clause-searched :
    goal.search_node-returns-in-None-past_end-clause-searched
search_node-returns-in-None-past_end-clause-searched g t c = λ number.
    let w = c.args.self.now in
    let given = c.args.given.now in
    let rests = rests_at c.args.node.now in
    let here = pair-here w.lengths c.args.first number given rests c.first.result
    c.first.ensures.some c.first.ensures.none (machine_in w) c.args.q
    c.is_empty-ended.result c.is_some.result c.rejects_beside.result c.is_empty-ended.ensures
    c.is_some.ensures c.rejects_beside.ensures c.if-rejects_beside.false in
    node-accepted (machine_in w) w.lengths c.args.q c.args.first number given rests
    (letters_of c.args.node.now) c.letters_differ.ensures here c.in-None-past_end.ensures.none
    (c.in-None.ensures.searched number)

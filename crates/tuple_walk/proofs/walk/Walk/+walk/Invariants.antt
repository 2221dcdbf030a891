use Rattle.std.proofs.Common.{◌+◌, ◌*◌, ◌-◌, ◌≤◌, take}
use Rattle.tuple_walk.specs.Four.{four, letters_in, placed, AreKept}
use Rattle.tuple_walk.specs.Searches.{AreAcceptedBy, AreStepsBy}
use Rattle.tuple_walk.specs.Serving.{sought_of}
use Rattle.tuple_walk.specs.Walks.{machine_in, rests_in, wholes_at, wholes_in}
use Rattle.tuple_walk.proofs.Longest.{longest}
use Rattle.tuple_walk.proofs.walk.Walk.+walk.Given as goal

abbrev pub decreases-search_left : goal.decreases-search_left
decreases-search_left g l = 20 * longest (rests_in l.self.now l.places.now) + 20

abbrev pub decreases-search : goal.decreases-search
decreases-search g l = 20 * longest (rests_in l.self.now l.places.now) + 19

abbrev pub decreases-choose : goal.decreases-choose
decreases-choose g l = 20 * longest (wholes_in l.self.now l.places.now) + (18 - 4 * l.choice.now.count)

abbrev pub decreases-choose_given : goal.decreases-choose_given
decreases-choose_given g l = 20 * longest (wholes_in l.self.now l.places.now) + (17 - 4 * l.choice.now.count)

abbrev pub decreases-choose_letter : goal.decreases-choose_letter
decreases-choose_letter g l = 20 * longest (wholes_in l.self.now l.places.now) + (17 - 4 * l.choice.now.count)

abbrev pub decreases-choose_with : goal.decreases-choose_with
decreases-choose_with g l =
    20 * longest (wholes_at l.self.now (placed l.places.now l.choice.now.count l.place.now))
    + (16 - 4 * l.choice.now.count)

abbrev pub invariant-choose_letter-loop-k : goal.invariant-choose_letter-loop-k
invariant-choose_letter-loop-k g l =
    let i = l.choice.count in
    let letters = take l.k (letters_in i (four l.fn.places)) in
    record {
      kept : AreKept i l.fn.places l.places;
      accepted : AreAcceptedBy (sought_of l.given) (machine_in l.self) l.self.lengths l.choice.q i letters
          (wholes_in l.self l.fn.places);
      steps : l.fn.steps ≤ l.steps;
      counted : AreStepsBy (sought_of l.given) l.self.lengths i letters (wholes_in l.self l.fn.places)
          (l.steps - l.fn.steps);
    }

use Rattle.step_counts.proofs.Wording.{words_of, lengths-of, branches-over}
use Rattle.step_counts.proofs.laws.two_letters.Goals as goal

pub returns : goal.returns
returns c x y list t all over few = (
  words_of x y t over,
  branches-over x y t over list all few,
  lengths-of x y t over,
)

use Rattle.std.proofs.Common.{sym, subst}
use Rattle.trace_trie.specs.Cursors.{AreLetters}
use Rattle.tuple_walk.specs.declared.spot.Spot.{Spot}
use Rattle.tuple_walk.specs.Places.{rests_of, letters_at}
use Rattle.tuple_walk.proofs.Ways.{alone-letters}
use Rattle.tuple_walk.proofs.spot.Spot.letters_differ.Goals as goal

pub returns-in-Alone : goal.returns-in-Alone
returns-in-Alone c =
    let P : Spot → Type 0 = λ s. AreLetters (letters_at s) (rests_of s) in
    subst P (sym c.in-Alone.is) (alone-letters c.in-Alone.field-0 c.in-Alone.field-1.now)

use Rattle.std.proofs.Common.{◌≡◌, ◌<◌, length, List, slice_get, Some, sym, ap, ◌∙◌, subst}
use Rattle.std.specs.List.{Contains}
use Rattle.hy_bits.specs.Letter.{Letter as NameSet}
use Rattle.hy_formula.proofs.Each.{each-at}
use Rattle.trace_trie.specs.Cursors.{letters_of, rests_at}
use Rattle.trace_trie.specs.Numbered.{Numbered, under, led_by}
use Rattle.tuple_walk.specs.declared.spot.Spot.{Spot}
use Rattle.tuple_walk.specs.Places.{rests_of, letters_at, IsWay}
use Rattle.tuple_walk.proofs.Lists.{get-contains}
use Rattle.tuple_walk.proofs.Ways.{letter-way, kept-under}
use Rattle.tuple_walk.proofs.spot.Spot.letter.Goals as goal

pub returns-in-Node-clause-way : goal.returns-in-Node-clause-way
returns-in-Node-clause-way c a e =
    let rests = rests_at c.in-Node.cursor in
    let letters = letters_of c.in-Node.cursor in
    let At : Spot → Type 0 = λ s. slice_get (letters_at s) c.args.i ≡ Some a in
    let at : slice_get letters c.args.i ≡ Some a = subst At c.in-Node.is e in
    let first = c.at-letter.result.0 in
    let is : first ≡ a = cc (c.at-letter.ensures.letter, at) in
    let way : IsWay rests (Some a) (led_by a (under a rests)) =
    letter-way a rests (each-at (λ (b : NameSet). 0 < length (under b rests)) letters a
    c.letters_differ.ensures.some (get-contains letters c.args.i a at)) in
    let led : led_by first (rests_of c.of.result) ≡ led_by a (under a rests) =
    ap (led_by first) (c.of.ensures ∙ c.at-letter.ensures.child)
    ∙ ap (λ (b : NameSet). led_by b (under b rests)) is in
    let P : Spot → Type 0 = λ s. IsWay (rests_of s) (Some a) (led_by first (rests_of c.of.result)) in
    let Q : List Numbered → Type 0 = IsWay rests (Some a) in
    subst P (sym c.in-Node.is) (subst Q (sym led) way)

pub returns-in-Node-clause-kept : goal.returns-in-Node-clause-kept
returns-in-Node-clause-kept c p first =
    let a = c.at-letter.result.0 in
    let below : rests_of c.of.result ≡ under a (rests_at c.in-Node.cursor) =
    c.of.ensures ∙ c.at-letter.ensures.child in
    let P : List Numbered → Type 0 = λ l. Contains (led_by a l) p in
    let Q : Spot → Type 0 = λ s. Contains (rests_of s) p → Contains (led_by a (rests_of c.of.result)) p in
    subst Q (sym c.in-Node.is)
    (λ there. subst P (sym below) (kept-under a (rests_at c.in-Node.cursor) p first there))

use Rattle.std.proofs.Common.{◌≡◌, ◌-◌, ◌<◌, ◌≤◌, ℕ, List, [], ◌∷◌, length, length-append, length-drop, take, drop, get_or, slice_get, Option, Some, Bor, sym, ap, ◌∙◌, subst, arith}
use Rattle.std.proofs.Math.Seq.{take-length}
use Rattle.hy_bits.specs.Letter.{Letter}
use Rattle.trace_trie.specs.Cursors.{and_new_letter, and_waiting, new_letter, rests_at}
use Rattle.trace_trie.specs.Numbered.{under}
use Rattle.trace_trie.specs.Points.{kid_letters_of, rests_of}
use Rattle.trace_trie.proofs.Alone.{slice_get-left}
use Rattle.trace_trie.proofs.Beside.{child-new}
use Rattle.trace_trie.proofs.cursor.Cursor.at.Goals as goal

pub returns-in-Some-clause-child : goal.returns-in-Some-clause-child
returns-in-Some-clause-child c =
    let letters = kid_letters_of c.args.self.now.point in
    let rests = rests_of c.args.self.now.point in
    let n = c.in-Some.number in
    let t : List Letter = c.in-Some.rest.now in
    let past : length letters ≤ c.args.i = omega (arith, c.len.ensures, c.if-i-len.true) in
    let P : Option (ℕ × Bor (List Letter)) → Type 0 =
    λ q. c.args.i < length (and_new_letter letters rests q) in
    let within = subst P c.in-Some.is c.requires in
    let some : 0 < length (new_letter rests t) =
    omega (arith, past, within, length-append letters (new_letter rests t)) in
    let rest : take (length t - 1) (drop 1 t) ≡ drop 1 t =
    ap (λ k. take k (drop 1 t)) (sym (length-drop 1 t)) ∙ take-length (drop 1 t) in
    let Q : Option (ℕ × Bor (List Letter)) → Type 0 =
    λ q. rests_at c.of_one.result ≡ under (get_or t 0 c.index-rest-0.result) (and_waiting rests q) in
    subst Q (sym c.in-Some.is) (c.of_one.ensures.rests
    ∙ ap (λ (q : List Letter). (n, q) ∷ []) rest
    ∙ child-new rests n t c.index-rest-0.result some)

pub returns-in-Some-2-clause-letter : goal.returns-in-Some-2-clause-letter
returns-in-Some-2-clause-letter c =
    let letters = kid_letters_of c.args.self.now.point in
    let rests = rests_of c.args.self.now.point in
    let t : List Letter = c.in-Some-2.rest.now in
    let within : c.args.i < length letters = omega (arith, c.len.ensures, c.if-i-len.false) in
    let P : Option (ℕ × Bor (List Letter)) → Type 0 =
    λ q. slice_get (and_new_letter letters rests q) c.args.i ≡ Some c.at-letter.result.0 in
    subst P (sym c.in-Some-2.is)
    (slice_get-left letters (new_letter rests t) c.args.i within ∙ c.at-letter.ensures.letter)

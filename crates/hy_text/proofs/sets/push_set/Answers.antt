use Rattle.std.proofs.Common.{◌<◌, ◌≤◌, ◌≡◌, ◌++◌, [], ◌∷◌, length, true, map, arith, sym, ap, refl, ◌∙◌, append-nil}
use Rattle.std.proofs.lemmas.Grind.{common_steps}
use Rattle.std.proofs.lemmas.Result.{on_err_weaker}
use Rattle.hy_text.specs.Joined.{piece, pieces}
use Rattle.hy_text.specs.Names.{spelled}
use Rattle.hy_text.specs.Sets.{members_of, printed_set}
use Rattle.hy_text.proofs.Fronts.{on_err, front_none, front_behind, made_more, set_front, member_front}
use Rattle.hy_text.proofs.Printing.{name_printed, name_passed, names_printed, joined_pieces}
use Rattle.hy_text.proofs.sets.push_set.Goals as goal
use Rattle.hy_text.proofs.sets.push_set.Goals.{then-has+in_ok-push_member, else-has}

pub loop-i-init : goal.loop-i-init
loop-i-init c = ([], sym (append-nil c.push.new.self), refl)

pub loop-i-preserved : goal.loop-i-preserved
loop-i-preserved c =
    let all = pieces true 44 (map spelled (members_of c.args.names.now c.args.letter.now)) in
    let (made, is, left) = c.loop-i.invariant in
    elim c.if-has.branch [
      | then-has+in_ok-push_member w ↦
          let printed = name_printed c.args.names.now c.args.letter.now all c.loop-i.i c.loop-i.is_first made w.at.result.now left w.at.ensures (sym c.has.ensures ∙ w.if-has.true) in
          let more = made_more c.push.new.self c.loop-i.out w.push_member.new.out made (piece c.loop-i.is_first 44 (spelled w.at.result.now)) is w.in_ok-push_member.ensures.added in
          rw (w.out-is, w.is_first-is) (made ++ piece c.loop-i.is_first 44 (spelled w.at.result.now), more, printed)
      | else-has w ↦
          let less : c.loop-i.i < length c.args.names.now = omega arith in
          let passed = name_passed c.args.names.now c.args.letter.now all c.loop-i.i c.loop-i.is_first made left less (sym c.has.ensures ∙ w.if-has.false) in
          rw (w.out-is, w.is_first-is) (made, is, passed)
    ]

pub returns-clause-added : goal.returns-clause-added
returns-clause-added c =
    let names = map spelled (members_of c.args.names.now c.args.letter.now) in
    let (made, is, left) = c.loop-i.invariant in
    let past : length c.args.names.now ≤ c.loop-i.i = omega arith in
    let all : c.loop-i.out ≡ c.push.new.self ++ pieces true 44 names = is ∙ ap (λ l. c.push.new.self ++ l) (names_printed c.args.names.now c.args.letter.now _ c.loop-i.i c.loop-i.is_first made past left) in
    let begun : c.push.new.self ≡ c.args.out.now ++ 123 ∷ [] = c.in_ok-push.ensures.added in
    let inside = joined_pieces 44 names in
    grind (arith, common_steps, all, begun, inside)

-- the opening brace
pub returns-in_err-push-clause-refused : goal.returns-in_err-push-clause-refused
returns-in_err-push-clause-refused c =
    on_err c.from_residual.result
    (front_none c.args.out.now c.push.new.self (printed_set c.args.names.now c.args.letter.now)
    (omega arith) c.in_err-push.ensures.refused)

-- a name
pub returns-in_err-push_member-clause-refused : goal.returns-in_err-push_member-clause-refused
returns-in_err-push_member-clause-refused c =
    let (made, is, left) = c.loop-i.invariant in
    on_err c.from_residual-in_err-push_member.result
    (set_front c.args.names.now c.args.letter.now c.args.out.now c.push.new.self c.push_member.new.out
    c.in_ok-push.ensures.added
    (member_front c.args.names.now c.args.letter.now c.loop-i.i c.loop-i.is_first c.push.new.self
    c.loop-i.out c.push_member.new.out made c.at.result.now is left c.at.ensures
    (sym c.has.ensures ∙ c.if-has.true) c.in_err-push_member.ensures.refused))

-- the closing brace
pub returns-clause-refused : goal.returns-clause-refused
returns-clause-refused c =
    let names = pieces true 44 (map spelled (members_of c.args.names.now c.args.letter.now)) in
    let (made, is, left) = c.loop-i.invariant in
    let past : length c.args.names.now ≤ c.loop-i.i = omega arith in
    let all : c.loop-i.out ≡ c.push.new.self ++ names = is ∙ ap (λ l. c.push.new.self ++ l) (names_printed c.args.names.now c.args.letter.now _ c.loop-i.i c.loop-i.is_first made past left) in
    on_err_weaker c.push-2.result
    (λ same. set_front c.args.names.now c.args.letter.now c.args.out.now c.push.new.self
    c.push-2.new.self c.in_ok-push.ensures.added
    (front_behind c.push.new.self c.loop-i.out c.push-2.new.self names (125 ∷ []) all
    (front_none c.loop-i.out c.push-2.new.self (125 ∷ []) (omega arith) same)))
    c.push-2.ensures.refused

use Rattle.std.proofs.Common.{◌≡◌, [], subst, arith}
use Rattle.std.specs.Prelude.{ℤ, Option, MatchOption}
use Rattle.sat_core.specs.Lessons.{IsSecond}
use Rattle.sat_core.proofs.Adding.{taught-two, taught-one, taught-inside}
use Rattle.sat_core.proofs.solving.Search.learn.Goals as goal

pub add-requires-clause-first_inside : goal.add-requires-clause-first_inside
add-requires-clause-first_inside c =
    let (level, taught) = c.in_ok-lesson.ensures.taught in
    taught-inside _ _ c.args.self.now.watches _ _ _ _ c.requires.sound.ready c.requires.sound.watching
    c.requires.sound.long c.in_ok-lesson.ensures.ready taught c.in_ok-lesson.ensures.clauses
    c.in_ok-lesson.ensures.variables c.in_ok-lesson.lesson.top taught.has_top

pub add-requires-clause-second_inside : goal.add-requires-clause-second_inside
add-requires-clause-second_inside c =
    let (level, taught) = c.in_ok-lesson.ensures.taught in
    let P : Option ℤ → Type 0 = λ o. MatchOption o (c.learn.new.self.limits.items ≡ [])
    (IsSecond c.learn.new.self c.in_ok-lesson.lesson.entry.clause c.in_ok-lesson.lesson.top) in
    let second : IsSecond c.learn.new.self c.in_ok-lesson.lesson.entry.clause
    c.in_ok-lesson.lesson.top c.in-Some.m = subst P c.in-Some.is taught.has_second in
    taught-inside _ _ c.args.self.now.watches _ _ _ _ c.requires.sound.ready c.requires.sound.watching
    c.requires.sound.long c.in_ok-lesson.ensures.ready taught c.in_ok-lesson.ensures.clauses
    c.in_ok-lesson.ensures.variables c.in-Some.m second.there

pub returns-in_ok-add-in-Some-clause-sound : goal.returns-in_ok-add-in-Some-clause-sound
returns-in_ok-add-in-Some-clause-sound c =
    let (level, taught) = c.in_ok-lesson.ensures.taught in
    let P : Option ℤ → Type 0 = λ o. MatchOption o (c.learn.new.self.limits.items ≡ [])
    (IsSecond c.learn.new.self c.in_ok-lesson.lesson.entry.clause c.in_ok-lesson.lesson.top) in
    let both = taught-two _ _ c.args.self.now.watches _ _ _ _ c.requires.sound.ready c.requires.sound.watching
    c.requires.sound.long c.in_ok-lesson.ensures.ready taught c.in_ok-lesson.ensures.clauses
    c.in_ok-lesson.ensures.variables c.add.new.self c.in-Some.m (subst P c.in-Some.is taught.has_second)
    (omega (arith, c.in_ok-add-in-Some.ensures.done, c.len.ensures))
    c.in_ok-add-in-Some.ensures.pairs c.in_ok-add-in-Some.ensures.lists in
    record { ready = c.in_ok-lesson.ensures.ready; watching = both.0; long = both.1 }

pub returns-in_ok-add_fixed-in-None-clause-sound : goal.returns-in_ok-add_fixed-in-None-clause-sound
returns-in_ok-add_fixed-in-None-clause-sound c =
    let (level, taught) = c.in_ok-lesson.ensures.taught in
    let P : Option ℤ → Type 0 = λ o. MatchOption o (c.learn.new.self.limits.items ≡ [])
    (IsSecond c.learn.new.self c.in_ok-lesson.lesson.entry.clause c.in_ok-lesson.lesson.top) in
    let both = taught-one _ _ c.args.self.now.watches _ _ _ _ c.requires.sound.ready c.requires.sound.watching
    c.requires.sound.long c.in_ok-lesson.ensures.ready taught c.in_ok-lesson.ensures.clauses
    c.in_ok-lesson.ensures.variables c.add_fixed.new.self (subst P c.in-None.is taught.has_second)
    (omega (arith, c.in_ok-add_fixed-in-None.ensures.done, c.len.ensures))
    c.in_ok-add_fixed-in-None.ensures.pairs c.in_ok-add_fixed-in-None.ensures.lists in
    record { ready = c.in_ok-lesson.ensures.ready; watching = both.0; long = both.1 }

pub returns-in_ok-add-in-Some-clause-taught : goal.returns-in_ok-add-in-Some-clause-taught
returns-in_ok-add-in-Some-clause-taught c =
    let (level, taught) = c.in_ok-lesson.ensures.taught in
    (c.in_ok-lesson.lesson.top, c.in_ok-lesson.lesson.second, level, taught)

pub returns-in_ok-add_fixed-in-None-clause-taught : goal.returns-in_ok-add_fixed-in-None-clause-taught
returns-in_ok-add_fixed-in-None-clause-taught c =
    let (level, taught) = c.in_ok-lesson.ensures.taught in
    (c.in_ok-lesson.lesson.top, c.in_ok-lesson.lesson.second, level, taught)

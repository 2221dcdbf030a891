use Rattle.std.proofs.Common.{[], ◌∷◌}
use Rattle.hy_run.specs.Names.{names_in}
use Rattle.ea_tool.proofs.Asking.{decides, finds, judges, relates}
use Rattle.ea_tool.proofs.Reading.{of_files}
use Rattle.ea_tool.proofs.tool.EaHyperTool.answer.Goals as goal

pub returns-in-Judge-clause-follows : goal.returns-in-Judge-clause-follows
returns-in-Judge-clause-follows g c =
    of_files g.S.Shelf _ _ _ c.args.order.now.question (c.name-first.result.now ∷ c.name-second.result.now ∷ []) (names_in c.args.order.now.files) _ _ c.in-Judge.is
    (judges c.requires.asked.0 (names_in c.args.order.now.files) c.args.order.now.question c.requires.asked.1 c.in-Judge.is c.name-first.result.now c.name-second.result.now c.name-first.ensures c.name-second.ensures)
    c.judge.ensures.follows

pub decide-requires-clause-range : goal.decide-requires-clause-range
decide-requires-clause-range g c =
    (decides c.requires.asked.0 (names_in c.args.order.now.files) c.args.order.now.question c.requires.asked.1 _ _ c.in-Decide.is c.name-first.result.now c.name-first.ensures).1

pub returns-in-Decide-clause-follows : goal.returns-in-Decide-clause-follows
returns-in-Decide-clause-follows g c =
    of_files g.S.Shelf _ _ _ c.args.order.now.question (c.name-first.result.now ∷ []) (names_in c.args.order.now.files) _ _ c.in-Decide.is
    (decides c.requires.asked.0 (names_in c.args.order.now.files) c.args.order.now.question c.requires.asked.1 _ _ c.in-Decide.is c.name-first.result.now c.name-first.ensures).0
    (c.decide.ensures.follows _)

pub relate-requires-clause-range : goal.relate-requires-clause-range
relate-requires-clause-range g c =
    (relates c.requires.asked.0 (names_in c.args.order.now.files) c.args.order.now.question c.requires.asked.1 _ _ _ c.in-Relate.is c.name-first.result.now c.name-second.result.now c.name-first.ensures c.name-second.ensures).1

pub returns-in-Relate-clause-follows : goal.returns-in-Relate-clause-follows
returns-in-Relate-clause-follows g c =
    of_files g.S.Shelf _ _ _ c.args.order.now.question (c.name-first.result.now ∷ c.name-second.result.now ∷ []) (names_in c.args.order.now.files) _ _ c.in-Relate.is
    (relates c.requires.asked.0 (names_in c.args.order.now.files) c.args.order.now.question c.requires.asked.1 _ _ _ c.in-Relate.is c.name-first.result.now c.name-second.result.now c.name-first.ensures c.name-second.ensures).0
    (c.relate.ensures.follows _)

pub find-requires-clause-bound : goal.find-requires-clause-bound
find-requires-clause-bound g c =
    (finds c.requires.asked.0 (names_in c.args.order.now.files) c.args.order.now.question c.requires.asked.1 _ _ c.in-Find.is c.name-first.result.now c.name-first.ensures).1

pub find-requires-clause-few : goal.find-requires-clause-few
find-requires-clause-few g c =
    (finds c.requires.asked.0 (names_in c.args.order.now.files) c.args.order.now.question c.requires.asked.1 _ _ c.in-Find.is c.name-first.result.now c.name-first.ensures).2

pub returns-in-Find-clause-follows : goal.returns-in-Find-clause-follows
returns-in-Find-clause-follows g c =
    of_files g.S.Shelf _ _ _ c.args.order.now.question (c.name-first.result.now ∷ []) (names_in c.args.order.now.files) _ _ c.in-Find.is
    (finds c.requires.asked.0 (names_in c.args.order.now.files) c.args.order.now.question c.requires.asked.1 _ _ c.in-Find.is c.name-first.result.now c.name-first.ensures).0
    c.find.ensures.follows

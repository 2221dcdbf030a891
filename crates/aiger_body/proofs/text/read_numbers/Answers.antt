use Rattle.std.proofs.Common.{◌∙◌, sym, ap, take}
use Rattle.std.specs.Option.{option_copied}
use Rattle.std.specs.List.{slice_split}
use Rattle.aiger_body.specs.Texts.{is_space}
use Rattle.aiger_body.specs.Words.{words_of}
use Rattle.aiger_body.proofs.Numbers.{none_read, read_more, read_past, read_all, read_none}
use Rattle.aiger_body.proofs.text.read_numbers.Goals as goal

pub loop-left-init : goal.loop-left-init
loop-left-init c = none_read (slice_split is_space c.args.text.now) c.args.row.now

pub returns-in_default-number : goal.returns-in_default-number
returns-in_default-number c =
    let cut = ap (λ o. words_of (option_copied o)) c.in-Some.is ∙ c.cut_word.ensures.words in
    let none = sym c.in_default-number.is ∙ c.number.ensures.said in
    c.truncate.ensures ∙ ap (λ n. take n c.loop-left.row) c.len-before.ensures
    ∙ read_none (slice_split is_space c.args.text.now) _ _ c.args.row.now c.loop-left.row c.cut_word.result.0.now c.loop-left.count c.loop-left.invariant cut none

pub loop-left-preserved-in_ok-push : goal.loop-left-preserved-in_ok-push
loop-left-preserved-in_ok-push c =
    let cut = ap (λ o. words_of (option_copied o)) c.in-Some.is ∙ c.cut_word.ensures.words in
    let some = sym c.in-Some-number.is ∙ c.number.ensures.said in
    rw c.in_ok-push.ensures.added
    (read_more (slice_split is_space c.args.text.now) _ _ c.args.row.now c.loop-left.row c.cut_word.result.0.now c.loop-left.count c.in-Some-number.n c.loop-left.invariant cut some c.if-count-lt10.true)

pub loop-left-preserved : goal.loop-left-preserved
loop-left-preserved c =
    let cut = ap (λ o. words_of (option_copied o)) c.in-Some.is ∙ c.cut_word.ensures.words in
    let some = sym c.in-Some-number.is ∙ c.number.ensures.said in
    read_past (slice_split is_space c.args.text.now) _ _ c.args.row.now c.loop-left.row c.cut_word.result.0.now c.loop-left.count c.in-Some-number.n c.loop-left.invariant cut some c.if-count-lt10.false

pub returns : goal.returns
returns c =
    read_all (slice_split is_space c.args.text.now) _ c.args.row.now c.loop-left.row c.loop-left.count c.loop-left.invariant (ap (λ o. words_of (option_copied o)) c.in_default.is)

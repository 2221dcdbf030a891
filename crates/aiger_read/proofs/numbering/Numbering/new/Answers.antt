use Rattle.std.proofs.Common.{◌≡◌, ◌+◌, ◌-◌, ◌<◌, suc, sym, ◌∙◌, ap, arith, drop, length, nat_eq, not}
use Rattle.std.specs.Prelude.{slice_index, slice_index_or}
use Rattle.std.specs.List.{position_or_len}
use Rattle.std.proofs.lemmas.List.Sums.{prefix_len-le-length}
use Rattle.std.proofs.lemmas.List.{length-replicate, length-set, length-drop, drop_all}
use Rattle.aiger_read.proofs.Places.{placed_more, filled_same}
use Rattle.aiger_read.proofs.numbering.Numbering.new.Goals as goal

pub loop-i-init : goal.loop-i-init
loop-i-init c =
    let xs = c.args.variables.now in
    let all : length xs - 0 ≡ length xs = omega arith in
    let last : length xs ≡ length xs + 0 = omega arith in
    record {
      long = ap length c.in_ok-places.ensures ∙ length-replicate _ _;
      places = λ v. ap (λ l. slice_index_or l v (length xs)) c.in_ok-places.ensures ∙ filled_same _ (length xs) v ∙ last
          ∙ ap (λ l. length xs + position_or_len (nat_eq v) l) (sym (drop_all (length xs) xs (omega arith)))
          ∙ ap (λ n. n + position_or_len (nat_eq v) (drop n xs)) (sym all);
    }

pub set-requires : goal.set-requires
set-requires c = omega (arith, c.loop-i.invariant.long, c.greatest-most.ensures (length c.args.variables.now - 1 - c.loop-i.i))

pub loop-i-preserved : goal.loop-i-preserved
loop-i-preserved c =
    let xs = c.args.variables.now in
    let place = length xs - 1 - c.loop-i.i in
    let same : place ≡ length xs - (c.loop-i.i + 1) = omega (arith, c.loop-i-test.true) in
    let next : length xs - c.loop-i.i ≡ suc place = omega (arith, c.loop-i-test.true) in
    let small : slice_index xs place < length c.loop-i.places = omega (arith, c.loop-i.invariant.long, c.greatest-most.ensures place) in
    record {
      long = ap length c.set.ensures ∙ length-set c.loop-i.places (slice_index xs place) place ∙ c.loop-i.invariant.long;
      places = λ v. ap (λ l. slice_index_or l v (length xs)) c.set.ensures
          ∙ placed_more xs c.loop-i.places (length xs) place (length xs - c.loop-i.i) (omega (arith, c.loop-i-test.true)) next small c.loop-i.invariant.places v
          ∙ ap (λ n. n + position_or_len (nat_eq v) (drop n xs)) same;
    }

pub invariant_of-result : goal.invariant_of-result
invariant_of-result c = record { small = λ v. omega (arith, c.requires, c.loop-i.invariant.places v, prefix_len-le-length (λ x. not (nat_eq v x)) (drop (length c.args.variables.now - c.loop-i.i) c.args.variables.now), length-drop (length c.args.variables.now - c.loop-i.i) c.args.variables.now, c.loop-i-test.false, c.loop-i.auto.i-end) }

pub returns : goal.returns
returns c v =
    let xs = c.args.variables.now in
    let none : length xs - c.loop-i.i ≡ 0 = omega (arith, c.loop-i-test.false, c.loop-i.auto.i-end) in
    let plain : 0 + position_or_len (nat_eq v) xs ≡ position_or_len (nat_eq v) xs = omega arith in
    c.loop-i.invariant.places v ∙ ap (λ n. n + position_or_len (nat_eq v) (drop n xs)) none ∙ plain

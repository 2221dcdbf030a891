use Rattle.std.proofs.Common.{◌+◌, ◌-◌, ◌*◌, ◌^◌, ◌<◌, ◌≤◌, ◌≡◌, subst, sym, arith, ℕ}
use Rattle.bound_search.proofs.MadeSheets.{place-more, place-few, place-room, all-member}
use Rattle.bound_search.proofs.tuples.place_among.Goals as goal

-- the place stays below the number of choices, whatever member is next
fewer : (n k i j place d : ℕ) → 0 < n → i + 1 ≡ j → j ≤ k → place < n ^ (k - j) → d < n →
    n ^ k < 2 ^ 63 → place * n + d < 2 ^ 63
fewer n k i j place d some next le few small room =
    let one = place-few n k i j place d (omega (arith, next)) le few small in
    let two = place-room n k i (2 ^ 63) some room in
    omega (arith, one, two)

pub overflow_mul-place : goal.overflow_mul-place
overflow_mul-place c =
    let all = fewer c.args.frame.traces _ (c.loop-i.i - 1) c.loop-i.i c.loop-i.place 0
    c.requires.frame.some_traces (omega arith) c.loop-i.invariant.within c.loop-i.invariant.few
    c.requires.frame.some_traces c.requires.room in
    omega (arith, all)

pub overflow_add-place : goal.overflow_add-place
overflow_add-place c =
    let small : c.member_of.result < c.args.frame.traces =
    let P : ℕ → Type 0 = λ d. d < c.args.frame.traces in
    subst P (sym c.member_of.ensures) (all-member c.args.frame.traces
    c.requires.frame.some_traces c.args.tuple.now c.requires.members _) in
    let all = fewer c.args.frame.traces _ (c.loop-i.i - 1) c.loop-i.i c.loop-i.place
    c.member_of.result c.requires.frame.some_traces (omega arith) c.loop-i.invariant.within
    c.loop-i.invariant.few small c.requires.room in
    omega (arith, all)

pub loop-i-preserved : goal.loop-i-preserved
loop-i-preserved c =
    let small : c.member_of.result < c.args.frame.traces =
    let P : ℕ → Type 0 = λ d. d < c.args.frame.traces in
    subst P (sym c.member_of.ensures) (all-member c.args.frame.traces
    c.requires.frame.some_traces c.args.tuple.now c.requires.members _) in
    record {
      within = omega (arith, c.loop-i.invariant.within);
      place = place-more c.args.frame.traces c.args.variables.now (c.loop-i.i - 1) c.loop-i.i _
          c.loop-i.place _ (omega arith) c.at.ensures c.args.tuple.now c.loop-i.invariant.place
          c.member_of.ensures;
      few = place-few c.args.frame.traces _ (c.loop-i.i - 1) c.loop-i.i c.loop-i.place _
          (omega arith) c.loop-i.invariant.within c.loop-i.invariant.few small;
    }

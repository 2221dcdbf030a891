use Rattle.std.proofs.Common.{◌≡◌, ◌+◌, ◌-◌, ◌<◌, ◌≤◌, ℕ, List, [], length, map, take, set, slice_get, Some, None, IfNone, refl, sym, ap, ◌∙◌, subst, arith}
use Rattle.std.specs.List.{list_any}
use Rattle.std.proofs.lemmas.Bool.{eqb-true, OnTrue_at, OnFalse_at}
use Rattle.std.proofs.lemmas.List.{take_all}
use Rattle.hy_base.proofs.Members.{contains-none}
use Rattle.hy_bits.specs.Letter.{Letter}
use Rattle.hy_finite.specs.declared.lengths.Lengths.{Lengths}
use Rattle.fin_monitor.specs.Codes.{code_of, joint_letter}
use Rattle.fin_monitor.specs.Machines.{codes, settled_state}
use Rattle.fin_monitor.proofs.CodeBits.{code-lt}
use Rattle.trace_trie.specs.Cursors.{AreLetters}
use Rattle.trace_trie.specs.Numbered.{Numbered}
use Rattle.tuple_walk.specs.Four.{four, letters_in, placed}
use Rattle.tuple_walk.specs.JointPrefixes.{entry}
use Rattle.tuple_walk.specs.Places.{letters_at, letter_or, taken_of, is_letter, HasNoGap, AreSome}
use Rattle.tuple_walk.specs.Searches.{AreReady, IsSearch, AreSteps, AreStepsBy, AreAcceptedBy}
use Rattle.tuple_walk.specs.Serving.{sought_of}
use Rattle.tuple_walk.specs.declared.place.Place.{Place}
use Rattle.tuple_walk.specs.Walks.{AreChosen, machine_in, places_in, rests_in, wholes_at, wholes_in}
use Rattle.tuple_walk.proofs.Advancing.{elsewhere, open-serving, start-serving, start-may, choice-next, chosen-next, with-code, with-letter, no-step, settled-chosen, one-chosen, ready-left, shorter-left, search-chosen, steps-chosen}
use Rattle.tuple_walk.proofs.Choosing.{no-steps_by, steps-letters}
use Rattle.tuple_walk.proofs.Last.{other-next, here-next, over-search, last-search}
use Rattle.tuple_walk.proofs.Longest.{longest}
use Rattle.tuple_walk.proofs.Narrowing.{narrowed-search, narrowed-steps, narrowed-ready, narrowed-longest}
use Rattle.tuple_walk.proofs.Nexts.{next-longest, next-rejected, next-more, next-steps, next-gap, next-way, no-gap-accepted, stopped-search, chosen-search, at-some, gap-search}
use Rattle.tuple_walk.proofs.Placing.{put-back, put-kept, none-same, set-back, at-letters, open-wholes, opened-left, opened-open}
use Rattle.tuple_walk.proofs.Scanning.{code-none}
use Rattle.tuple_walk.proofs.Stepping.{left_at}
use Rattle.tuple_walk.proofs.walk.Walk.+walk.Goals as goal

-- ---- search_left

pub search_left-narrow-requires : goal.search_left-narrow-requires
search_left-narrow-requires g t c =
    opened-open (machine_in c.args.self.now).variables (four c.args.places.now)
    (four c.opened-open.result) c.opened-open.ensures

pub search_left-search-requires : goal.search_left-search-requires
search_left-search-requires g t c κs within =
    let w = c.args.self.now in
    let s = sought_of c.args.given.now in
    let left = opened-left (machine_in w).variables (four c.args.places.now)
    (four c.opened-open.result) c.opened-open.ensures in
    let ready = subst (AreReady s) (sym left) c.requires.ready in
    let narrowed = c.narrow.ensures.narrowed in
    let short = narrowed-longest s (rests_in w c.opened-open.result)
    (rests_in w c.narrow.new.places) narrowed ready in (
      omega (arith, c.decreases, ap longest left, short),
      (
        within,
        (
          c.requires.some,
          (
            c.requires.state,
            (
              c.narrow.ensures.open,
              narrowed-ready s (rests_in w c.opened-open.result) (rests_in w c.narrow.new.places)
                  narrowed ready,
            ),
          ),
        ),
      ),
    )

pub search_left-returns-clause-searched : goal.search_left-returns-clause-searched
search_left-returns-clause-searched g t c =
    let w = c.args.self.now in
    let s = sought_of c.args.given.now in
    let left = opened-left (machine_in w).variables (four c.args.places.now)
    (four c.opened-open.result) c.opened-open.ensures in
    let P : List (List Numbered) → Type 0 = λ ls.
    IsSearch s (machine_in w) w.lengths c.args.q 0 ls c.search.result in
    subst P left (narrowed-search s (rests_in w c.opened-open.result) (rests_in w c.narrow.new.places)
    c.narrow.ensures.narrowed (subst (AreReady s) (sym left) c.requires.ready) (machine_in w) w.lengths
    c.args.q 0 c.search.result c.search.ensures.searched)

pub search_left-returns-clause-counted : goal.search_left-returns-clause-counted
search_left-returns-clause-counted g t c =
    let w = c.args.self.now in
    let s = sought_of c.args.given.now in
    let left = opened-left (machine_in w).variables (four c.args.places.now)
    (four c.opened-open.result) c.opened-open.ensures in
    let made = c.search.new.steps - c.args.steps.now in
    let P : List (List Numbered) → Type 0 = λ ls. AreSteps s w.lengths ls made in
    subst P left (narrowed-steps s (rests_in w c.opened-open.result) (rests_in w c.narrow.new.places)
    c.narrow.ensures.narrowed (subst (AreReady s) (sym left) c.requires.ready) w.lengths made
    c.search.ensures.counted)

-- ---- choose

pub choose-choose_given-requires : goal.choose-choose_given-requires
choose-choose_given-requires g t c κs within =
    let w = c.args.self.now in
    let few : (machine_in w).variables ≤ 4 = w.monitor.monitor.now.right.few in (
      omega (arith, c.decreases, few, c.requires.within),
      (
        within,
        (
          record {
            within = c.requires.within;
            marked = OnTrue_at c.if-has_to_come.true c.has_to_come.ensures.marked;
            last = OnTrue_at c.if-has_to_come.true c.has_to_come.ensures.last;
          },
          (c.requires.chosen, c.requires.choice),
        ),
      ),
    )

pub choose-choose_letter-requires : goal.choose-choose_letter-requires
choose-choose_letter-requires g t c κs within =
    let w = c.args.self.now in
    let few : (machine_in w).variables ≤ 4 = w.monitor.monitor.now.right.few in (
      omega (arith, c.decreases, few, c.requires.within),
      (
        within,
        (
          record {
            within = c.requires.within;
            other = elsewhere (sought_of c.args.given.now) (places_in w c.args.places.now)
                c.args.choice.now.count c.requires.chosen.may
                (OnFalse_at c.if-has_to_come.false c.has_to_come.ensures.other);
          },
          (c.requires.chosen, c.requires.choice),
        ),
      ),
    )

pub choose-gap_at-requires-clause-there : goal.choose-gap_at-requires-clause-there
choose-gap_at-requires-clause-there g t c =
    let i = c.args.choice.now.count in
    let At : List Place → Type 0 = λ qs. slice_get qs i ≡ Some c.at-here.result in
    open-serving (sought_of c.args.given.now) (machine_in c.args.self.now).variables i
    (four c.args.places.now) c.at-here.result c.requires.within
    (subst At c.in-None.ensures.same c.at-here.ensures) c.requires.chosen.opens
    c.requires.chosen.serving

pub choose-choose_with-found-requires : goal.choose-choose_with-found-requires
choose-choose_with-found-requires g t c κs within =
    let w = c.args.self.now in
    let n = (machine_in w).variables in
    let choice = c.args.choice.now in
    let i = choice.count in
    let ps = four c.args.places.now in
    let s = sought_of c.args.given.now in
    let chosen = c.requires.chosen in
    let here = c.at-here.result in
    let place = c.in-Some-gap_at.place in
    let At : List Place → Type 0 = λ qs. slice_get qs i ≡ Some here in
    let at = subst At c.in-None.ensures.same c.at-here.ensures in
    let next = placed c.choose_letter.new.places i place in
    let is : next ≡ set ps i place = ap (λ (qs : List Place). set qs i place) c.in-None.ensures.same in
    let few : n ≤ 4 = w.monitor.monitor.now.right.few in
    let lt : i < n = c.requires.within in
    let way = c.in-Some-gap_at.ensures.way in
    let fewer = next-longest n i ps next here place lt few at chosen.opens is None way in
    let other = elsewhere s (take n ps) i chosen.may
    (OnFalse_at c.if-has_to_come.false c.has_to_come.ensures.other) in (
      omega (arith, c.decreases, few, fewer, lt),
      (
        within,
        (
          chosen-next w ps next c.args.given.now i here place lt few at is None way
              c.in-Some-gap_at.ensures.moved c.in-Some-gap_at.ensures.serves
              (other-next s n i ps next place is other) chosen,
          choice-next w ps next choice place is c.requires.choice,
        ),
      ),
    )

pub choose-returns-in-Some-gap_at-clause-searched : goal.choose-returns-in-Some-gap_at-clause-searched
choose-returns-in-Some-gap_at-clause-searched g t c =
    let w = c.args.self.now in
    let n = (machine_in w).variables in
    let i = c.args.choice.now.count in
    let ps = four c.args.places.now in
    let here = c.at-here.result in
    let place = c.in-Some-gap_at.place in
    let At : List Place → Type 0 = λ qs. slice_get qs i ≡ Some here in
    let at = subst At c.in-None.ensures.same c.at-here.ensures in
    let next = placed c.choose_letter.new.places i place in
    let is : next ≡ set ps i place = ap (λ (qs : List Place). set qs i place) c.in-None.ensures.same in
    let few : n ≤ 4 = w.monitor.monitor.now.right.few in
    let P : List Letter → Type 0 = λ l. AreLetters l (left_at here) in
    gap-search (sought_of c.args.given.now) (machine_in w) w.lengths c.args.choice.now.q n i ps next
    here place c.requires.within few at c.requires.chosen.opens is c.in-Some-gap_at.ensures.way
    (letters_in i ps)
    (subst P (sym (at-letters i ps here at)) (c.letters_differ.ensures here c.at-here.ensures))
    c.in-None.ensures.searched c.choose_with-found.result c.choose_with-found.ensures.searched

pub choose-returns-in-Some-gap_at-clause-counted : goal.choose-returns-in-Some-gap_at-clause-counted
choose-returns-in-Some-gap_at-clause-counted g t c =
    let w = c.args.self.now in
    let n = (machine_in w).variables in
    let i = c.args.choice.now.count in
    let ps = four c.args.places.now in
    let here = c.at-here.result in
    let place = c.in-Some-gap_at.place in
    let At : List Place → Type 0 = λ qs. slice_get qs i ≡ Some here in
    let at = subst At c.in-None.ensures.same c.at-here.ensures in
    let next = placed c.choose_letter.new.places i place in
    let is : next ≡ set ps i place = ap (λ (qs : List Place). set qs i place) c.in-None.ensures.same in
    let few : n ≤ 4 = w.monitor.monitor.now.right.few in
    next-gap n i ps next here place c.requires.within few at c.requires.chosen.opens is None
    c.in-Some-gap_at.ensures.way (sought_of c.args.given.now) w.lengths (letters_in i ps) refl
    (c.choose_letter.new.steps - c.args.steps.now)
    (c.choose_with-found.new.steps - c.choose_letter.new.steps)
    (c.choose_with-found.new.steps - c.args.steps.now)
    (omega (arith, c.choose_letter.ensures.steps, c.choose_with-found.ensures.steps))
    c.choose_letter.ensures.counted c.choose_with-found.ensures.counted

pub choose-returns-in-Some-gap_at-clause-same : goal.choose-returns-in-Some-gap_at-clause-same
choose-returns-in-Some-gap_at-clause-same g t c =
    let i = c.args.choice.now.count in
    let before = four c.choose_letter.new.places in
    let r = c.choose_with-found.result in
    let P : List Place → Type 0 = λ qs. IfNone r (four c.put.new.self ≡ qs) in
    subst P c.in-None.ensures.same (put-back (four c.choose_with-found.new.places)
    (four c.put.new.self) before i c.at-here.result c.at-here.ensures c.put.ensures r
    c.choose_with-found.ensures.kept)

pub choose-returns-then-is_least-clause-searched : goal.choose-returns-then-is_least-clause-searched
choose-returns-then-is_least-clause-searched g t c =
    let w = c.args.self.now in
    let n = (machine_in w).variables in
    let i = c.args.choice.now.count in
    let ps = four c.args.places.now in
    let few : n ≤ 4 = w.monitor.monitor.now.right.few in
    let lt : i < n = c.requires.within in
    let (p, at) = at-some ps i (omega (arith, lt, few)) in
    let At : List Place → Type 0 = λ qs. slice_get qs i ≡ Some p in
    let P : List Letter → Type 0 = λ l. AreLetters l (left_at p) in
    let Q : Lengths → Type 0 = λ l. HasNoGap l (left_at p) in
    no-gap-accepted (sought_of c.args.given.now) (machine_in w) w.lengths c.args.choice.now.q n i ps p
    lt few at c.requires.chosen.opens (letters_in i ps)
    (subst P (sym (at-letters i ps p at))
    (c.letters_differ.ensures p (subst At (sym c.in-None.ensures.same) at)))
    (subst Q (sym (OnTrue_at c.if-is_least.true c.is_least.ensures)) tt) c.in-None.ensures.searched

pub choose-returns-then-is_least-clause-same : goal.choose-returns-then-is_least-clause-same
choose-returns-then-is_least-clause-same g t c = c.in-None.ensures.same

pub choose-returns-in-None-gap_at-clause-searched : goal.choose-returns-in-None-gap_at-clause-searched
choose-returns-in-None-gap_at-clause-searched g t c =
    let w = c.args.self.now in
    let n = (machine_in w).variables in
    let i = c.args.choice.now.count in
    let ps = four c.args.places.now in
    let here = c.at-here.result in
    let At : List Place → Type 0 = λ qs. slice_get qs i ≡ Some here in
    let at = subst At c.in-None.ensures.same c.at-here.ensures in
    let few : n ≤ 4 = w.monitor.monitor.now.right.few in
    let P : List Letter → Type 0 = λ l. AreLetters l (left_at here) in
    no-gap-accepted (sought_of c.args.given.now) (machine_in w) w.lengths c.args.choice.now.q n i ps
    here c.requires.within few at c.requires.chosen.opens (letters_in i ps)
    (subst P (sym (at-letters i ps here at)) (c.letters_differ.ensures here c.at-here.ensures))
    c.in-None-gap_at.ensures.none c.in-None.ensures.searched

pub choose-returns-in-None-gap_at-clause-same : goal.choose-returns-in-None-gap_at-clause-same
choose-returns-in-None-gap_at-clause-same g t c = c.in-None.ensures.same

-- ---- choose_given

pub choose_given-given_place-requires : goal.choose_given-given_place-requires
choose_given-given_place-requires g t c =
    let w = c.args.self.now in
    open-serving (sought_of c.args.given.now) (machine_in w).variables c.args.choice.now.count
    (four c.args.places.now) c.at-here.result c.requires.last.within c.at-here.ensures
    c.requires.chosen.opens c.requires.chosen.serving c.requires.last.marked

pub choose_given-choose_with-found-requires : goal.choose_given-choose_with-found-requires
choose_given-choose_with-found-requires g t c κs within =
    let w = c.args.self.now in
    let n = (machine_in w).variables in
    let choice = c.args.choice.now in
    let i = choice.count in
    let ps = four c.args.places.now in
    let s = sought_of c.args.given.now in
    let chosen = c.requires.chosen in
    let here = c.at-here.result in
    let place = c.in-Some.place in
    let next = placed c.args.places.now i place in
    let few : n ≤ 4 = w.monitor.monitor.now.right.few in
    let lt : i < n = c.requires.last.within in
    let way = c.in-Some.ensures.way in
    let fewer = next-longest n i ps next here place lt few c.at-here.ensures chosen.opens refl
    (entry s.given.1) way in (
      omega (arith, c.decreases, few, fewer, lt),
      (
        within,
        (
          chosen-next w ps next c.args.given.now i here place lt few c.at-here.ensures refl
              (entry s.given.1) way c.in-Some.ensures.moved (λ marked agrees. c.in-Some.ensures.serves)
              (here-next s n i ps next place refl lt few c.requires.last.marked c.in-Some.ensures.agrees)
              chosen,
          choice-next w ps next choice place refl c.requires.choice,
        ),
      ),
    )

pub choose_given-returns-in-Some-clause-searched : goal.choose_given-returns-in-Some-clause-searched
choose_given-returns-in-Some-clause-searched g t c =
    let w = c.args.self.now in
    let n = (machine_in w).variables in
    let i = c.args.choice.now.count in
    let few : n ≤ 4 = w.monitor.monitor.now.right.few in
    last-search (sought_of c.args.given.now) (machine_in w) w.lengths c.args.choice.now.q n i
    (four c.args.places.now) c.requires.chosen.moved c.requires.chosen.opens c.requires.last.last
    (placed c.args.places.now i c.in-Some.place) c.at-here.result c.in-Some.place
    c.requires.last.within few c.at-here.ensures refl c.in-Some.ensures.way c.choose_with-found.result
    c.choose_with-found.ensures.searched

pub choose_given-returns-in-Some-clause-counted : goal.choose_given-returns-in-Some-clause-counted
choose_given-returns-in-Some-clause-counted g t c =
    let w = c.args.self.now in
    let n = (machine_in w).variables in
    let i = c.args.choice.now.count in
    let s = sought_of c.args.given.now in
    let few : n ≤ 4 = w.monitor.monitor.now.right.few in
    next-way n i (four c.args.places.now) (placed c.args.places.now i c.in-Some.place)
    c.at-here.result c.in-Some.place c.requires.last.within few c.at-here.ensures
    c.requires.chosen.opens refl (entry s.given.1) c.in-Some.ensures.way s w.lengths
    (c.choose_with-found.new.steps - c.args.steps.now) c.choose_with-found.ensures.counted

pub choose_given-returns-in-Some-clause-same : goal.choose_given-returns-in-Some-clause-same
choose_given-returns-in-Some-clause-same g t c =
    put-back (four c.choose_with-found.new.places) (four c.put.new.self) (four c.args.places.now)
    c.args.choice.now.count c.at-here.result c.at-here.ensures c.put.ensures
    c.choose_with-found.result c.choose_with-found.ensures.kept

pub choose_given-returns-in-None-clause-searched : goal.choose_given-returns-in-None-clause-searched
choose_given-returns-in-None-clause-searched g t c =
    let w = c.args.self.now in
    over-search (sought_of c.args.given.now) (machine_in w) w.lengths c.args.choice.now.q
    (machine_in w).variables c.args.choice.now.count (four c.args.places.now) c.requires.chosen.moved
    c.requires.chosen.opens c.requires.last.last c.in-None.ensures.none

-- ---- choose_letter

pub choose_letter-loop-k-init : goal.choose_letter-loop-k-init
choose_letter-loop-k-init g t c =
    let w = c.args.self.now in
    let s = sought_of c.args.given.now in
    let i = c.args.choice.now.count in
    let P : ℕ → Type 0 = AreStepsBy s w.lengths i [] (wholes_in w c.args.places.now) in
    let none : 0 ≡ c.args.steps.now - c.args.steps.now = omega arith in
    record {
      kept = λ x. refl;
      accepted = λ tuple h some a e f. absurd (contains-none a e);
      steps = omega arith;
      counted = subst P none (no-steps_by s w.lengths (wholes_in w c.args.places.now) i []);
    }

pub choose_letter-choose_with-requires : goal.choose_letter-choose_with-requires
choose_letter-choose_with-requires g t c κs within =
    let w = c.args.self.now in
    let n = (machine_in w).variables in
    let choice = c.args.choice.now in
    let i = choice.count in
    let ps = four c.args.places.now in
    let s = sought_of c.args.given.now in
    let chosen = c.requires.chosen in
    let here = c.at-here.result in
    let place = c.letter.result in
    let next = placed c.loop-k.places i place in
    let is = c.loop-k.invariant.kept place in
    let few : n ≤ 4 = w.monitor.monitor.now.right.few in
    let lt : i < n = c.requires.free.within in
    let (a, there) = at-some (letters_at here.spot) c.loop-k.k
    (omega (arith, c.len-k-end.ensures, c.loop-k-test.true)) in
    let way = c.letter.ensures.way a there in
    let fewer = next-longest n i ps next here place lt few c.at-here.ensures chosen.opens is (Some a) way in (
      omega (arith, c.decreases, few, fewer, lt),
      (
        within,
        (
          chosen-next w ps next c.args.given.now i here place lt few c.at-here.ensures is (Some a) way
              (c.letter.ensures.moved w.lengths)
              (λ marked agrees. c.letter.ensures.kept s.given agrees
              (open-serving s n i ps here lt c.at-here.ensures chosen.opens chosen.serving marked))
              (other-next s n i ps next place is c.requires.free.other) chosen,
          choice-next w ps next choice place is c.requires.choice,
        ),
      ),
    )

pub choose_letter-returns-in-Some-clause-searched :
    goal.choose_letter-returns-in-Some-clause-searched
choose_letter-returns-in-Some-clause-searched g t c =
    let w = c.args.self.now in
    let i = c.args.choice.now.count in
    let few : (machine_in w).variables ≤ 4 = w.monitor.monitor.now.right.few in
    let (a, there) = at-some (letters_at c.at-here.result.spot) c.loop-k.k
    (omega (arith, c.len-k-end.ensures, c.loop-k-test.true)) in
    next-rejected (machine_in w).variables i (four c.args.places.now)
    (placed c.loop-k.places i c.letter.result) c.at-here.result c.letter.result
    c.requires.free.within few c.at-here.ensures c.requires.chosen.opens
    (c.loop-k.invariant.kept c.letter.result) (Some a) (c.letter.ensures.way a there)
    (sought_of c.args.given.now) (machine_in w) w.lengths c.args.choice.now.q c.in-Some.tuple
    c.in-Some.ensures.searched

pub choose_letter-returns-in-Some-clause-steps : goal.choose_letter-returns-in-Some-clause-steps
choose_letter-returns-in-Some-clause-steps g t c =
    omega (arith, c.loop-k.invariant.steps, c.choose_with.ensures.steps)

pub choose_letter-returns-in-Some-clause-counted :
    goal.choose_letter-returns-in-Some-clause-counted
choose_letter-returns-in-Some-clause-counted g t c =
    let w = c.args.self.now in
    let s = sought_of c.args.given.now in
    let i = c.args.choice.now.count in
    let ps = four c.args.places.now in
    let here = c.at-here.result in
    let few : (machine_in w).variables ≤ 4 = w.monitor.monitor.now.right.few in
    let (a, there) = at-some (letters_at here.spot) c.loop-k.k
    (omega (arith, c.len-k-end.ensures, c.loop-k-test.true)) in
    let letters = letters_in i ps in
    let is : letters ≡ letters_at here.spot = at-letters i ps here c.at-here.ensures in
    let P : List Letter → Type 0 = λ l. AreLetters l (left_at here) in
    let Q : List Letter → Type 0 = λ l. slice_get l c.loop-k.k ≡ Some a in
    let are : AreLetters letters (left_at here) = subst P (sym is) c.letters_differ.ensures in
    steps-letters s w.lengths (wholes_in w c.args.places.now) i letters (c.loop-k.k + 1)
    (c.choose_with.new.steps - c.args.steps.now)
    (next-steps (machine_in w).variables i ps (placed c.loop-k.places i c.letter.result) here
    c.letter.result c.requires.free.within few c.at-here.ensures c.requires.chosen.opens
    (c.loop-k.invariant.kept c.letter.result) (Some a) (c.letter.ensures.way a there) s w.lengths
    letters c.loop-k.k a refl are.distinct (subst Q (sym is) there)
    (c.loop-k.steps - c.args.steps.now) (c.choose_with.new.steps - c.loop-k.steps)
    (c.choose_with.new.steps - c.args.steps.now)
    (omega (arith, c.loop-k.invariant.steps, c.choose_with.ensures.steps))
    c.loop-k.invariant.counted c.choose_with.ensures.counted)

pub choose_letter-loop-k-preserved : goal.choose_letter-loop-k-preserved
choose_letter-loop-k-preserved g t c =
    let w = c.args.self.now in
    let s = sought_of c.args.given.now in
    let i = c.args.choice.now.count in
    let ps = four c.args.places.now in
    let here = c.at-here.result in
    let next = placed c.loop-k.places i c.letter.result in
    let changed = c.loop-k.invariant.kept c.letter.result in
    let few : (machine_in w).variables ≤ 4 = w.monitor.monitor.now.right.few in
    let (a, there) = at-some (letters_at here.spot) c.loop-k.k
    (omega (arith, c.len-k-end.ensures, c.loop-k-test.true)) in
    let letters = letters_in i ps in
    let is : letters ≡ letters_at here.spot = at-letters i ps here c.at-here.ensures in
    let P : List Letter → Type 0 = λ l. AreLetters l (left_at here) in
    let Q : List Letter → Type 0 = λ l. slice_get l c.loop-k.k ≡ Some a in
    let are : AreLetters letters (left_at here) = subst P (sym is) c.letters_differ.ensures in
    record {
      kept = λ x. c.in-None.ensures.kept x ∙ c.loop-k.invariant.kept x;
      accepted = next-more (machine_in w).variables i ps next here c.letter.result
          c.requires.free.within few c.at-here.ensures c.requires.chosen.opens changed (Some a)
          (c.letter.ensures.way a there) s (machine_in w) w.lengths c.args.choice.now.q letters
          c.loop-k.k a refl (subst Q (sym is) there) c.loop-k.invariant.accepted
          c.in-None.ensures.searched;
      steps = omega (arith, c.loop-k.invariant.steps, c.choose_with.ensures.steps);
      counted = next-steps (machine_in w).variables i ps next here c.letter.result
          c.requires.free.within few c.at-here.ensures c.requires.chosen.opens changed (Some a)
          (c.letter.ensures.way a there) s w.lengths letters c.loop-k.k a refl are.distinct
          (subst Q (sym is) there) (c.loop-k.steps - c.args.steps.now)
          (c.choose_with.new.steps - c.loop-k.steps) (c.choose_with.new.steps - c.args.steps.now)
          (omega (arith, c.loop-k.invariant.steps, c.choose_with.ensures.steps))
          c.loop-k.invariant.counted c.choose_with.ensures.counted;
    }

pub choose_letter-returns-clause-searched : goal.choose_letter-returns-clause-searched
choose_letter-returns-clause-searched g t c =
    let w = c.args.self.now in
    let i = c.args.choice.now.count in
    let letters = letters_in i (four c.args.places.now) in
    let long = ap length (at-letters i (four c.args.places.now) c.at-here.result c.at-here.ensures) in
    let P : List Letter → Type 0 = λ l. AreAcceptedBy (sought_of c.args.given.now) (machine_in w)
    w.lengths c.args.choice.now.q i l (wholes_in w c.args.places.now) in
    subst P (take_all c.loop-k.k letters
    (omega (arith, long, c.len-k-end.ensures, c.loop-k-test.false)))
    c.loop-k.invariant.accepted

pub choose_letter-returns-clause-steps : goal.choose_letter-returns-clause-steps
choose_letter-returns-clause-steps g t c = c.loop-k.invariant.steps

pub choose_letter-returns-clause-counted : goal.choose_letter-returns-clause-counted
choose_letter-returns-clause-counted g t c =
    let w = c.args.self.now in
    let i = c.args.choice.now.count in
    steps-letters (sought_of c.args.given.now) w.lengths (wholes_in w c.args.places.now) i
    (letters_in i (four c.args.places.now)) c.loop-k.k (c.loop-k.steps - c.args.steps.now)
    c.loop-k.invariant.counted

pub choose_letter-returns-clause-same : goal.choose_letter-returns-clause-same
choose_letter-returns-clause-same g t c =
    c.put.ensures
    ∙ c.loop-k.invariant.kept c.at-here.result
    ∙ set-back (four c.args.places.now) c.args.choice.now.count c.at-here.result c.at-here.ensures

-- ---- choose_with

pub choose_with-choose-requires : goal.choose_with-choose-requires
choose_with-choose-requires g t c κs within =
    let w = c.args.self.now in
    let choice = c.args.choice.now in
    let place = c.args.place.now in
    let is = sym c.put.ensures in
    let P : List Place → Type 0 = λ qs. AreChosen w qs c.args.given.now (choice.count + 1) in
    let few : (machine_in w).variables ≤ 4 = w.monitor.monitor.now.right.few in
    let one = ap (λ qs. longest (wholes_at w qs)) is in (
      omega (arith, c.decreases, few, one, c.if-choice-vars.true, c.vars.ensures.vars),
      (
        within,
        (
          omega (arith, c.if-choice-vars.true, c.vars.ensures.vars),
          (
            subst P is c.requires.chosen,
            record {
              state = c.requires.choice.state;
              code = with-code w c.args.places.now c.args.given.now choice place c.requires.chosen
                  c.requires.choice c.letter.result c.letter.ensures c.part.result c.part.ensures.part
                  c.has_letter.result c.has_letter.ensures
                  ∙ ap (λ (qs : List Place). code_of (joint_letter (map letter_or (map taken_of
                  (take (choice.count + 1) qs)))) (machine_in w).atoms) is;
              letter = with-letter w c.args.places.now c.args.given.now choice place c.requires.chosen
                  c.requires.choice c.letter.result c.letter.ensures c.part.result c.part.ensures.part
                  c.has_letter.result c.has_letter.ensures
                  ∙ ap (λ (qs : List Place). list_any is_letter (map taken_of
                  (take (choice.count + 1) qs))) is;
            },
          ),
        ),
      ),
    )

pub choose_with-returns-then-choice-vars-clause-searched :
    goal.choose_with-returns-then-choice-vars-clause-searched
choose_with-returns-then-choice-vars-clause-searched g t c =
    let w = c.args.self.now in
    let P : List Place → Type 0 = λ qs. IsSearch (sought_of c.args.given.now) (machine_in w) w.lengths
    c.args.choice.now.q 1 (wholes_at w qs) c.choose.result in
    subst P c.put.ensures c.choose.ensures.searched

pub choose_with-returns-then-choice-vars-clause-kept :
    goal.choose_with-returns-then-choice-vars-clause-kept
choose_with-returns-then-choice-vars-clause-kept g t c =
    put-kept (four c.choose.new.places) (four c.put.new.self) (four c.args.places.now)
    c.args.choice.now.count c.args.place.now c.put.ensures c.choose.result c.choose.ensures.same

pub choose_with-returns-then-choice-vars-clause-counted :
    goal.choose_with-returns-then-choice-vars-clause-counted
choose_with-returns-then-choice-vars-clause-counted g t c =
    let w = c.args.self.now in
    let P : List Place → Type 0 = λ qs. AreSteps (sought_of c.args.given.now) w.lengths
    (wholes_at w qs) (c.choose.new.steps - c.args.steps.now) in
    subst P c.put.ensures c.choose.ensures.counted

pub choose_with-returns-then-not-some_letter-clause-searched :
    goal.choose_with-returns-then-not-some_letter-clause-searched
choose_with-returns-then-not-some_letter-clause-searched g t c =
    let w = c.args.self.now in
    let all : c.args.choice.now.count + 1 ≡ (machine_in w).variables =
    omega (arith, c.if-choice-vars.false, c.vars.ensures.vars, c.requires.chosen.within) in
    no-step w c.args.places.now c.args.given.now c.args.choice.now c.args.place.now c.requires.chosen
    c.requires.choice c.letter.result c.letter.ensures c.part.result c.part.ensures.part
    c.has_letter.result c.has_letter.ensures all c.if-not-some_letter.true

pub choose_with-step-q-requires-clause-code : goal.choose_with-step-q-requires-clause-code
choose_with-step-q-requires-clause-code g t c =
    let w = c.args.self.now in
    let choice = c.args.choice.now in
    let ps = placed c.args.places.now choice.count c.args.place.now in
    let letters : List Letter = map letter_or (map taken_of (take (choice.count + 1) ps)) in
    let P : ℕ → Type 0 = λ k. k < codes (machine_in w) in
    subst P (sym (with-code w c.args.places.now c.args.given.now choice c.args.place.now
    c.requires.chosen c.requires.choice c.letter.result c.letter.ensures c.part.result
    c.part.ensures.part c.has_letter.result c.has_letter.ensures))
    (code-lt (joint_letter letters) (machine_in w).atoms)

pub choose_with-returns-then-is_settled-clause-searched :
    goal.choose_with-returns-then-is_settled-clause-searched
choose_with-returns-then-is_settled-clause-searched g t c =
    let w = c.args.self.now in
    let all : c.args.choice.now.count + 1 ≡ (machine_in w).variables =
    omega (arith, c.if-choice-vars.false, c.vars.ensures.vars, c.requires.chosen.within) in
    settled-chosen w c.args.places.now c.args.given.now c.args.choice.now c.args.place.now
    c.requires.chosen c.requires.choice c.letter.result c.letter.ensures c.part.result
    c.part.ensures.part c.has_letter.result c.has_letter.ensures all c.if-not-some_letter.false
    c.step-q.result c.step-q.ensures.next
    (eqb-true c.step-q.result (settled_state (machine_in w))
    (sym c.is_settled.ensures ∙ c.if-is_settled.true))

pub choose_with-returns-then-is_settled-clause-counted :
    goal.choose_with-returns-then-is_settled-clause-counted
choose_with-returns-then-is_settled-clause-counted g t c =
    let w = c.args.self.now in
    let all : c.args.choice.now.count + 1 ≡ (machine_in w).variables =
    omega (arith, c.if-choice-vars.false, c.vars.ensures.vars, c.requires.chosen.within) in
    let P : ℕ → Type 0 = AreSteps (sought_of c.args.given.now) w.lengths
    (wholes_at w (placed c.args.places.now c.args.choice.now.count c.args.place.now)) in
    let made : 1 ≡ c.step-q.new.steps - c.args.steps.now = omega (arith, c.step-q.ensures.counted) in
    subst P made (one-chosen w c.args.places.now c.args.given.now c.args.choice.now c.args.place.now
    c.requires.chosen c.requires.choice c.letter.result c.letter.ensures c.part.result
    c.part.ensures.part c.has_letter.result c.has_letter.ensures all c.if-not-some_letter.false
    c.step-q.result c.step-q.ensures.next)

pub choose_with-search_left-requires : goal.choose_with-search_left-requires
choose_with-search_left-requires g t c κs within =
    let w = c.args.self.now in
    let n = (machine_in w).variables in
    let few : n ≤ 4 = w.monitor.monitor.now.right.few in
    let all : c.args.choice.now.count + 1 ≡ n =
    omega (arith, c.if-choice-vars.false, c.vars.ensures.vars, c.requires.chosen.within) in
    let shorter = shorter-left w c.args.places.now c.args.given.now c.args.choice.now
    c.args.place.now c.requires.chosen c.requires.choice c.letter.result c.letter.ensures
    c.part.result c.part.ensures.part c.has_letter.result c.has_letter.ensures all
    c.if-not-some_letter.false c.step-q.result c.step-q.ensures.next c.put-2.new.self c.put-2.ensures
    (sought_of c.behind.result) (c.behind.ensures n) in (
      omega (arith, c.decreases, shorter, all, few),
      (
        within,
        (
          omega (arith, all),
          (
            c.step-q.ensures.within,
            ready-left w c.args.places.now c.args.given.now c.args.choice.now c.args.place.now
                c.requires.chosen c.requires.choice c.letter.result c.letter.ensures c.part.result
                c.part.ensures.part c.has_letter.result c.has_letter.ensures all
                c.if-not-some_letter.false c.step-q.result c.step-q.ensures.next c.put-2.new.self
                c.put-2.ensures (sought_of c.behind.result) (c.behind.ensures n),
          ),
        ),
      ),
    )

pub choose_with-returns-clause-searched : goal.choose_with-returns-clause-searched
choose_with-returns-clause-searched g t c =
    let w = c.args.self.now in
    let n = (machine_in w).variables in
    let all : c.args.choice.now.count + 1 ≡ n =
    omega (arith, c.if-choice-vars.false, c.vars.ensures.vars, c.requires.chosen.within) in
    search-chosen w c.args.places.now c.args.given.now c.args.choice.now c.args.place.now
    c.requires.chosen c.requires.choice c.letter.result c.letter.ensures c.part.result
    c.part.ensures.part c.has_letter.result c.has_letter.ensures all c.if-not-some_letter.false
    c.step-q.result c.step-q.ensures.next c.put-2.new.self c.put-2.ensures
    (sought_of c.behind.result) (c.behind.ensures n) c.search_left.result
    c.search_left.ensures.searched

pub choose_with-returns-clause-kept : goal.choose_with-returns-clause-kept
choose_with-returns-clause-kept g t c =
    put-kept (four c.put-2.new.self) (four c.put-2.new.self) (four c.args.places.now)
    c.args.choice.now.count c.args.place.now c.put-2.ensures c.search_left.result
    (none-same c.search_left.result (four c.put-2.new.self))

pub choose_with-returns-clause-counted : goal.choose_with-returns-clause-counted
choose_with-returns-clause-counted g t c =
    let w = c.args.self.now in
    let n = (machine_in w).variables in
    let all : c.args.choice.now.count + 1 ≡ n =
    omega (arith, c.if-choice-vars.false, c.vars.ensures.vars, c.requires.chosen.within) in
    let behind = c.search_left.new.steps - c.step-q.new.steps in
    let P : ℕ → Type 0 = AreSteps (sought_of c.args.given.now) w.lengths
    (wholes_at w (placed c.args.places.now c.args.choice.now.count c.args.place.now)) in
    let sum : behind + 1 ≡ c.search_left.new.steps - c.args.steps.now =
    omega (arith, c.step-q.ensures.counted, c.search_left.ensures.steps) in
    subst P sum (steps-chosen w c.args.places.now c.args.given.now c.args.choice.now
    c.args.place.now c.requires.chosen c.requires.choice c.letter.result c.letter.ensures
    c.part.result c.part.ensures.part c.has_letter.result c.has_letter.ensures all
    c.if-not-some_letter.false c.step-q.result c.step-q.ensures.next c.put-2.new.self c.put-2.ensures
    (sought_of c.behind.result) (c.behind.ensures n) behind c.search_left.ensures.counted)

-- ---- search

pub search-returns-in-Some-stopped-clause-searched :
    goal.search-returns-in-Some-stopped-clause-searched
search-returns-in-Some-stopped-clause-searched g t c =
    let w = c.args.self.now in
    stopped-search (sought_of c.args.given.now) (machine_in w) w.lengths c.args.q
    (rests_in w c.args.places.now) _ c.in-Some-stopped.ensures.stopped
    c.in-Some-stopped.ensures.rejects

pub search-choose-requires : goal.search-choose-requires
search-choose-requires g t c κs within =
    let w = c.args.self.now in
    let s = sought_of c.args.given.now in
    let places = places_in w c.args.places.now in
    let same = open-wholes places c.requires.open in
    let long = ap longest same in (
      omega (arith, c.decreases, long),
      (
        within,
        (
          c.requires.some,
          (
            record {
              within = omega arith;
              moved = tt;
              opens = c.requires.open;
              members = subst AreSome (sym same) c.requires.ready.some;
              serving = start-serving s places c.requires.open c.requires.ready;
              may = start-may s places c.requires.open c.requires.ready;
            },
            record {
              state = c.requires.state;
              code = sym (code-none (machine_in w).atoms);
              letter = refl;
            },
          ),
        ),
      ),
    )

pub search-returns-clause-searched : goal.search-returns-clause-searched
search-returns-clause-searched g t c =
    let w = c.args.self.now in
    chosen-search (sought_of c.args.given.now) (machine_in w) w.lengths c.args.q
    (rests_in w c.args.places.now) (wholes_in w c.args.places.now)
    (open-wholes (places_in w c.args.places.now) c.requires.open) c.choose.result
    c.in-None-stopped.ensures.none c.choose.ensures.searched

pub search-returns-clause-counted : goal.search-returns-clause-counted
search-returns-clause-counted g t c =
    let w = c.args.self.now in
    let P : List (List Numbered) → Type 0 = λ ls. AreSteps (sought_of c.args.given.now) w.lengths ls
    (c.choose.new.steps - c.args.steps.now) in
    subst P (open-wholes (places_in w c.args.places.now) c.requires.open) c.choose.ensures.counted

-- Evidence that is right, and whose text is no longer than a file may be, can be printed.
use Rattle.std.proofs.Common.{◌≡◌, ℕ, zero, suc, ◌+◌, ◌*◌, ◌^◌, ◌<◌, ◌≤◌, List, [], ◌∷◌, ◌++◌, length, map, get_or, inl, inr, refl, ap, arith, Option, Some, None, length-append}
use Rattle.std.specs.Prelude.{codes, decimal, ℤ}
use Rattle.std.specs.Fmt.{signed_decimal}
use Rattle.std.specs.List.{All, Contains, flat_map}
use Rattle.std.specs.Option.{ForSome}
use Rattle.std.proofs.lemmas.List.Elements.{All-nil, All-cons, All-head, All-tail, All-contains, All-from_get_or, Contains-get_or}
use Rattle.std.proofs.lemmas.Option.{slice_get_within}
use Rattle.hy_base.specs.declared.reading.TheConstants.{BYTES_LIMIT}
use Rattle.hy_base.proofs.Members.{map-of, contains-none, contains-cases}
use Rattle.hy_bits.specs.Sets.{AreBelow}
use Rattle.ltl_closure.specs.Nodes.{Node, node_at, until}
use Rattle.ltl_tableau.specs.Branches.{Members}
use Rattle.ltl_tableau.specs.Ranks.{IsOfMembers, IsUntilNode, IsRankProof}
use Rattle.ltl_tableau.specs.Tasks.{set_of}
use Rattle.ltl_tableau.proofs.Sets.{has-new, has-old}
use Rattle.rank_proofs.specs.Counts.{most_members}
use Rattle.rank_proofs.specs.Proofs.{ranked_of, plain_proof, IsAscending}
use Rattle.rank_proofs.specs.ProofTexts.{numbers_text, branch_text, reason_text, proof_text}
use Rattle.rank_proofs.specs.declared.rank_proof.RankProof.{RankProof}
use Rattle.rank_proofs.specs.declared.rank_proof.ProofBranch.{ProofBranch}
use Rattle.aig_net.specs.Nets.{Below}
use Rattle.aig_net.specs.RunTexts.{row_text, rows_text, run_text, runs_text}
use Rattle.aig_net.specs.declared.run.Run.{Run}
use Rattle.live_safe.specs.declared.safe_net.SafeNet.{SafeNet}
use Rattle.chain_check.specs.Clauses.{Clause}
use Rattle.chain_check.specs.Chains.{IsNumbered, Refutes, ends, goes}
use Rattle.chain_check.specs.LogTexts.{entry_text, log_text}
use Rattle.chain_check.specs.Logs.{IsPassed}
use Rattle.chain_check.specs.declared.logs.Learned.{Learned}
use Rattle.cnf_frames.specs.Facts.{IsIn}
use Rattle.cnf_frames.specs.ProofTexts.{fact_text, worded_text}
use Rattle.cnf_frames.specs.Proofs.{IsRefuted, IsInductionProof, AreQueriesWithin}
use Rattle.cnf_frames.specs.Queries.{IsWithin, clauses_of, variables_of, groups}
use Rattle.cnf_frames.specs.QueryPaths.{CanAsk}
use Rattle.cnf_frames.specs.declared.facts.Fact.{Fact}
use Rattle.cnf_frames.specs.declared.facts.Fact.TheVariants.{Zero, One, Same, Differ, AnyOf}
use Rattle.cnf_frames.specs.declared.inductions.InductionProof.{InductionProof}
use Rattle.cnf_frames.specs.declared.queries.Asked.{Asked}
use Rattle.cnf_frames.specs.declared.queries.Asked.TheVariants.{Base, Step, Keep}
use Rattle.cnf_frames.proofs.Fewness.{few-clauses}
use Rattle.cert_text.specs.Printed.{IsBelow, IsPrintableBranch, IsPrintableReason, IsPrintable, IsPrintableFact, IsPrintableLiteral, IsPrintableCount, IsPrintableEntry, IsPrintableLog, IsPrintableInduction, IsPrintableRun, ArePrintableRuns}

each_there : {A : Type 0} (P : A → Type 0) (xs : List A) → ((x : A) → Contains xs x → P x)
    → All P xs
each_there P xs all k d lt = all (get_or xs k d) (Contains-get_or xs k d lt)

-- Texts that are not empty are no more than their bytes.
counted : {A : Type 0} (text_of : A → List ℕ) → ((x : A) → 0 < length (text_of x)) → (xs : List A)
    → length xs ≤ length (flat_map text_of xs)
counted text_of some [] = omega arith
counted text_of some (x ∷ xs) =
    omega (arith, some x, counted text_of some xs, length-append (text_of x) (flat_map text_of xs))

line_some : (line : List ℕ) → 0 < length (line ++ codes "\n")
line_some line = omega (arith, length-append line (codes "\n"))

-- ---- rank proofs

branch_some : (b : ProofBranch) → 0 < length (branch_text b)
branch_some b =
    line_some (codes "b " ++ decimal b.rank ++ codes " " ++ numbers_text b.now ++ codes " "
    ++ numbers_text b.next)

reason_some : (reason : Option ℕ) → 0 < length (reason_text reason)
reason_some None = line_some (codes "n")
reason_some (Some k) = line_some (codes "u " ++ decimal k)

members_below : (n : ℕ) (ks : List ℕ) → n ≤ most_members → AreBelow n (set_of ks) → All IsBelow ks
members_below n [] few below = All-nil IsBelow
members_below n (k ∷ ks) few below =
    let lt : k < n = below k (has-new (set_of ks) k) in
    All-cons IsBelow k ks (omega (arith, few, lt))
    (members_below n ks few (λ j has. below j (has-old (set_of ks) k j has)))

until_inside : (nodes : List Node) (k g h : ℕ) → node_at nodes k ≡ until g h → k < length nodes
until_inside [] k g h is = absurd (cc)
until_inside (node ∷ nodes) zero g h is = omega arith
until_inside (node ∷ nodes) (suc k) g h is = omega (arith, until_inside nodes k g h is)

reason_below : (nodes : List Node) (reason : Option ℕ) → length nodes ≤ most_members
    → ForSome reason (IsUntilNode nodes) → IsPrintableReason reason
reason_below nodes None few says = tt
reason_below nodes (Some k) few says =
    let (g, h, is) = says k refl in omega (arith, few, until_inside nodes k g h is)

pub printable_ranks : (nodes : List Node) (roots : Members) (proof : RankProof)
    → IsRankProof nodes roots (plain_proof proof) → All IsAscending proof.branches
    → length nodes ≤ most_members → length (proof_text proof) ≤ BYTES_LIMIT → IsPrintable proof
printable_ranks nodes roots proof is rising few short =
    let head = codes "proof rank " ++ decimal (length proof.branches) ++ codes " "
    ++ decimal (length proof.reasons) ++ codes "\n" in
    let branch_texts = flat_map branch_text proof.branches in
    let reason_texts = flat_map reason_text proof.reasons in
    let whole = length-append (head ++ branch_texts) reason_texts in
    let front = length-append head branch_texts in
    let reasons_few : IsBelow (length proof.reasons) =
    omega (arith, short, whole, counted reason_text reason_some proof.reasons) in
    record {
      branches =
          omega (arith, short, whole, front, counted branch_text branch_some proof.branches);
      reasons = reasons_few;
      each_branch = each_there IsPrintableBranch proof.branches (λ b has.
          let entry = map-of ranked_of proof.branches b has in
          let (now, next) = All-contains (λ e. IsOfMembers nodes e.branch)
          (map ranked_of proof.branches) (ranked_of b) is.members entry in
          let low : b.rank < length proof.reasons = All-contains
          (λ e. e.rank < length proof.reasons) (map ranked_of proof.branches) (ranked_of b) is.ranked
          entry in
          let (now_rises, next_rises) = All-contains IsAscending proof.branches b rising has in
          record {
            rank = omega (arith, low, reasons_few);
            now = (members_below (length nodes) b.now few now, now_rises);
            next = (members_below (length nodes) b.next few next, next_rises);
          });
      each_reason = each_there IsPrintableReason proof.reasons (λ reason has.
          reason_below nodes reason few (All-contains
          (λ r. ForSome r (IsUntilNode nodes)) proof.reasons reason is.untils has));
    }

-- ---- logs

entry_some : (e : Learned) → 0 < length (entry_text e)
entry_some e =
    omega (
      arith,
      length-append (codes "c" ++ flat_map (λ l. 32 ∷ signed_decimal l) e.clause ++ codes " 0"
          ++ flat_map (λ k. 32 ∷ decimal k) e.chain) (codes " 0\n"),
    )

-- A log has a line, and one for each clause.
log_long : (log : List Learned) → length log < length (log_text log)
log_long log =
    let head = codes "log " ++ decimal (length log) ++ codes "\n" in
    omega (
      arith,
      line_some (codes "log " ++ decimal (length log)),
      length-append head (flat_map entry_text log),
      counted entry_text entry_some log,
    )

among : (logs : List (List Learned)) (log : List Learned) → Contains logs log
    → length (log_text log) ≤ length (flat_map log_text logs)
among [] log has = absurd (contains-none log has)
among (first ∷ logs) log has = elim (contains-cases first log logs has) [
  | inl same ↦
      omega
      (arith, ap (λ l. length (log_text l)) same, length-append (log_text first) (flat_map log_text logs))
  | inr later ↦
      omega (arith, among logs log later, length-append (log_text first) (flat_map log_text logs))
]

numbered_below : (clauses : List Clause) (k : ℕ) (c : Clause) → length clauses < 10 ^ 9
    → IsNumbered clauses k c → IsPrintableCount k
numbered_below clauses k c few numbered =
    (numbered.counted, omega (arith, few, slice_get_within clauses _ c numbered.there))

chain_below : (clauses : List Clause) {trues : List ℤ} {chain : List ℕ} → length clauses < 10 ^ 9
    → Refutes clauses trues chain → All IsPrintableCount chain
chain_below clauses few (ends {k = k} c at false_in) =
    All-cons IsPrintableCount k [] (numbered_below clauses k c few at) (All-nil IsPrintableCount)
chain_below clauses few (goes {k = k} {chain = chain} c l at unit rest) =
    All-cons IsPrintableCount k chain (numbered_below clauses k c few at)
    (chain_below clauses few rest)

passed_below : (variables : ℕ) (before : List Clause) (log : List Learned)
    → variables < 10 ^ 9 → length before + length log < 10 ^ 9 → IsPassed variables before log
    → All IsPrintableEntry log
passed_below variables before [] small few passed = All-nil IsPrintableEntry
passed_below variables before (e ∷ log) small few (follows, passed) =
    All-cons IsPrintableEntry e log (record {
      clause = each_there IsPrintableLiteral e.clause (λ l has.
          let (some, le) = follows.literals l has in (some, omega (arith, le, small)));
      chain = chain_below before (omega (arith, few)) follows.refuted;
    })
    (passed_below variables (before ++ e.clause ∷ []) log small
    (omega (arith, few, length-append before (e.clause ∷ []))) passed)

refuted_below : (safe : SafeNet) (asked : Asked) (log : List Learned) → IsWithin safe asked
    → CanAsk safe asked → 0 < length safe.net.latches → IsRefuted safe asked log
    → length (log_text log) ≤ BYTES_LIMIT → IsPrintableLog log
refuted_below safe asked log within can some refuted short = record {
  count = omega (arith, log_long log, short);
  each =
      passed_below (variables_of safe asked) (clauses_of safe asked) log
      (omega (arith, within.few_variables))
      (omega (
        arith,
        few-clauses safe asked can some,
        within.few_literals,
        log_long log,
        short,
      )) refuted.passes;
}

-- ---- proofs by induction

fact_some : (fact : Fact) → 0 < length (fact_text fact)
fact_some (Zero a) = line_some (codes "f 0 " ++ decimal a)
fact_some (One a) = line_some (codes "f 1 " ++ decimal a)
fact_some (Same a b) = line_some (codes "f = " ++ decimal a ++ codes " " ++ decimal b)
fact_some (Differ a b) = line_some (codes "f ! " ++ decimal a ++ codes " " ++ decimal b)
fact_some (AnyOf ls) = line_some (codes "f |" ++ flat_map (λ l. 32 ∷ decimal l) ls)

literals_below : (n : ℕ) (ls : List ℕ) → n < 5 * 10 ^ 9 → All (Below n) ls → All IsBelow ls
literals_below n [] few all = All-nil IsBelow
literals_below n (l ∷ ls) few all =
    All-cons IsBelow l ls (omega (arith, few, All-head (Below n) l ls all))
    (literals_below n ls few (All-tail (Below n) l ls all))

fact_below : (n : ℕ) (fact : Fact) → n < 5 * 10 ^ 9 → IsIn n fact → IsPrintableFact fact
fact_below n (Zero a) few is = omega (arith, few, is)
fact_below n (One a) few is = omega (arith, few, is)
fact_below n (Same a b) few (one, two) = (omega (arith, few, one), omega (arith, few, two))
fact_below n (Differ a b) few (one, two) = (omega (arith, few, one), omega (arith, few, two))
fact_below n (AnyOf ls) few (some, all) = (literals_below n ls few all, some)

logs_below : (logs : List (List Learned))
    → ((i : ℕ) → i < length logs → length (log_text (get_or logs i [])) ≤ BYTES_LIMIT
    → IsPrintableLog (get_or logs i []))
    → length (flat_map log_text logs) ≤ BYTES_LIMIT → All IsPrintableLog logs
logs_below logs each short = All-from_get_or IsPrintableLog logs [] (λ i lt. each i lt
    (omega (arith, short, among logs (get_or logs i []) (Contains-get_or logs i [] lt))))

pub printable_induction : (word : List ℕ) (safe : SafeNet) (proof : InductionProof)
    → IsInductionProof safe proof → AreQueriesWithin safe proof → 0 < length safe.net.latches
    → length (worded_text word proof) ≤ BYTES_LIMIT → IsPrintableInduction proof
printable_induction word safe proof is within some short =
    let head = codes "proof " ++ word ++ codes " " ++ decimal proof.depth ++ codes " "
    ++ decimal (length proof.inv) ++ codes "\n" in
    let facts = flat_map fact_text proof.inv in
    let keeps = flat_map log_text proof.keep in
    let bases = flat_map log_text proof.base in
    let one = length-append (head ++ facts ++ keeps ++ bases) (log_text proof.step) in
    let two = length-append (head ++ facts ++ keeps) bases in
    let three = length-append (head ++ facts) keeps in
    let four = length-append head facts in
    let first : IsWithin safe (Base 0) = within.bases 0 (omega arith) in
    let few : length safe.net.latches < 5 * 10 ^ 9 = omega (arith, first.few_variables) in
    record {
      depth = omega (
        arith,
        short,
        one,
        two,
        is.bases.many,
        counted log_text (λ log. omega (arith, log_long log)) proof.base,
      );
      facts = omega (arith, short, one, two, three, four, counted fact_text fact_some proof.inv);
      each_fact = each_there IsPrintableFact proof.inv (λ fact has.
          fact_below (length safe.net.latches) fact few (is.inside fact has));
      keep = logs_below proof.keep (λ i lt long. let group : i < groups proof.inv = omega (arith, lt, is.keeps.many) in
          refuted_below safe (Keep proof.inv i) (get_or proof.keep i []) (within.keeps i group)
          (is.inside, group) some (is.keeps.each i group) long)
          (omega (arith, short, one, two, three));
      base = logs_below proof.base (λ i lt long. let le : i ≤ proof.depth = omega (arith, lt, is.bases.many) in
          refuted_below safe (Base i) (get_or proof.base i []) (within.bases i le) tt some
          (is.bases.each i le) long) (omega (arith, short, one, two));
      step =
          refuted_below safe (Step proof.inv proof.depth) proof.step within.step is.inside some
          is.step (omega (arith, short, one));
      keeps = is.keeps.many;
      bases = is.bases.many;
    }

-- ---- runs

run_some : (run : Run) → 0 < length (run_text run)
run_some run =
    line_some (row_text run.first ++ codes " " ++ rows_text run.stem ++ codes "|"
    ++ rows_text run.cycle)

pub printable_runs : (tuple : List Run) → All IsPrintableRun tuple
    → length (runs_text tuple) ≤ BYTES_LIMIT → ArePrintableRuns tuple
printable_runs tuple each short =
    let head = codes "proof runs " ++ decimal (length tuple) ++ codes "\n" in
    record {
      count =
          omega (
            arith,
            short,
            length-append head (flat_map run_text tuple),
            counted run_text run_some tuple,
          );
      each = each;
    }

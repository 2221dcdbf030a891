use Rattle.std.proofs.Common.{◌≡◌, ℕ, ◌+◌, ◌<◌, ◌≤◌, ◌∙◌, Bool, true, false, List, length, drop, Some, Ok, sym, ap, subst, arith, suc}
use Rattle.aig_kind.specs.declared.kind.AigKind.TheVariants.{Symbol as SymbolFault}
use Rattle.aiger_body.specs.declared.header.Header.{Header}
use Rattle.aiger_body.specs.Texts.{pieces, piece_at, place, is_feed}
use Rattle.aiger_body.specs.Files.{tail}
use Rattle.aiger_body.specs.Symbols.{tail_lines, begins_comment}
use Rattle.aiger_body.specs.Outcomes.{fault}
use Rattle.aiger_body.specs.Bodies.{IsTail}
use Rattle.aiger_read.specs.declared.names.Reading.{Reading}
use Rattle.aiger_read.specs.Naming.{IsKeepAnswer}
use Rattle.aiger_read.proofs.Marking.{AreRead, kept_good, fault_here, read_more}
use Rattle.aiger_read.proofs.Ending.{no_line, some_line, lines_comment, lines_all, line_among, fault_first, named_all, line_byte}
use Rattle.aiger_read.proofs.names.read_names.Goals as goal

-- what is split off is the tail
behind : (h : Header) (bytes text : List ℕ) (base : ℕ) → IsTail h bytes base → text ≡ drop base bytes → text ≡ tail h bytes
behind h bytes text base is back = back ∙ is.rest

line-of : (h : Header) (bytes text line : List ℕ) (k : ℕ) → text ≡ tail h bytes → line ≡ piece_at (pieces is_feed text) k → line ≡ piece_at (tail_lines h bytes) k
line-of h bytes text line k same is = is ∙ ap (λ t. piece_at (pieces is_feed t) k) same

kept-of : (h : Header) (line : List ℕ) (old new : Reading) (b c : Bool) → b ≡ c → IsKeepAnswer h line old new (Ok b) → IsKeepAnswer h line old new (Ok c)
kept-of h line old new b c same is = let P : Bool → Type 0 = λ x. IsKeepAnswer h line old new (Ok x) in subst P same is

pub returns-then-begins_comment : goal.returns-then-begins_comment
returns-then-begins_comment c =
    let h = c.args.header.now in
    let bytes = c.args.bytes.now in
    let k = c.loop-reading.reading.line in
    let same = behind h bytes c.split_at.result.1.now c.args.tail c.requires.tail c.split_at.ensures.back in
    let is = line-of h bytes c.split_at.result.1.now c.line_at-line.result.now k same (c.line_at-line.ensures.line k c.loop-reading.invariant.at) in
    let comment : begins_comment (piece_at (tail_lines h bytes) k) ≡ true = ap begins_comment (sym is) ∙ sym c.if-begins_comment.ensures in
    named_all h bytes k c.loop-reading.reading c.loop-reading.invariant.read (lines_comment h bytes k c.loop-reading.reading c.loop-reading.invariant.read comment)

pub returns-then-not-branch : goal.returns-then-not-branch
returns-then-not-branch c =
    let h = c.args.header.now in
    let bytes = c.args.bytes.now in
    let r = c.loop-reading.reading in
    let k = r.line in
    let read = c.loop-reading.invariant.read in
    let same = behind h bytes c.split_at.result.1.now c.args.tail c.requires.tail c.split_at.ensures.back in
    let is = line-of h bytes c.split_at.result.1.now c.line_at-line.result.now k same (c.line_at-line.ensures.line k c.loop-reading.invariant.at) in
    let plain : begins_comment (piece_at (tail_lines h bytes) k) ≡ false = ap begins_comment (sym is) ∙ sym c.if-begins_comment.ensures in
    let (lost, stays) = kept-of h c.line_at-line.result.now r c.keep.new.self _ false c.if-not-branch.true c.in_ok-keep.ensures in
    let good = sym (kept_good h bytes k r read c.line_at-line.result.now is) ∙ lost in
    let inside : k < length (tail_lines h bytes) = some_line (tail_lines h bytes) k (let P : List ℕ → Type 0 = λ l. 0 < length l in subst P is (c.line_at-line.ensures.some c.loop-reading-test.true)) in
    let at : r.at ≡ place (tail_lines h bytes) k = c.loop-reading.invariant.at ∙ ap (λ t. place (pieces is_feed t) k) same in
    fault_first h bytes k r read _ (line_among h bytes k r read inside plain) (fault_here h bytes k r read good)
    ∙ ap (λ b. Some (fault SymbolFault b)) (line_byte h bytes k c.args.tail r.at c.requires.tail at ∙ ap (λ n. c.args.tail + n) (sym stays))

pub overflow_add-reading-in-loop-reading : goal.overflow_add-reading-in-loop-reading
overflow_add-reading-in-loop-reading c =
    let kept = kept-of c.args.header.now c.line_at-line.result.now c.loop-reading.reading c.keep.new.self _ true c.if-not-branch.false c.in_ok-keep.ensures in
    omega (arith, kept.line_same, c.loop-reading.invariant.early, c.loop-reading.invariant.within, c.requires.room, c.split_at.ensures.back_len)

pub loop-reading-preserved : goal.loop-reading-preserved
loop-reading-preserved c =
    let h = c.args.header.now in
    let bytes = c.args.bytes.now in
    let r = c.loop-reading.reading in
    let k = r.line in
    let read = c.loop-reading.invariant.read in
    let text = c.split_at.result.1.now in
    let same = behind h bytes text c.args.tail c.requires.tail c.split_at.ensures.back in
    let is = line-of h bytes text c.line_at-line.result.now k same (c.line_at-line.ensures.line k c.loop-reading.invariant.at) in
    let plain : begins_comment c.line_at-line.result.now ≡ false = sym c.if-begins_comment.ensures in
    let kept = kept-of h c.line_at-line.result.now r c.keep.new.self _ true c.if-not-branch.false c.in_ok-keep.ensures in
    let more : AreRead h bytes (suc k) c.keep.new.self = read_more h bytes k r read c.keep.new.self c.line_at-line.result.now is kept plain in
    let next : suc k ≡ c.keep.new.self.line + 1 = omega (arith, kept.line_same) in
    let P : ℕ → Type 0 = λ n. AreRead h bytes n c.keep.new.self in
    let here = subst P next more in
    let some = c.line_at-line.ensures.some c.loop-reading-test.true in
    let inside : k < length (pieces is_feed text) = some_line (pieces is_feed text) k (let Q : List ℕ → Type 0 = λ l. 0 < length l in subst Q (c.line_at-line.ensures.line k c.loop-reading.invariant.at) some) in
    record {
      at = ap (λ n. n + length c.line_at-line.result.now) kept.at ∙ c.line_at-line.ensures.next k c.loop-reading.invariant.at ∙ ap (place (pieces is_feed text)) next;
      within = omega (arith, kept.at, c.line_at-line.ensures.within);
      early = omega (arith, kept.line_same, kept.at, c.loop-reading.invariant.early, some);
      many = omega (arith, kept.line_same, inside);
      read = record { long = record { named = here.long.named; inputs = here.long.inputs; latches = here.long.latches; outputs = here.long.outputs }; marks = here.marks; inputs = here.inputs; latches = here.latches; outputs = here.outputs; clear = here.clear; open_lines = here.open_lines };
    }

pub returns : goal.returns
returns c =
    let h = c.args.header.now in
    let bytes = c.args.bytes.now in
    let r = c.loop-reading.reading in
    let k = r.line in
    let text = c.split_at.result.1.now in
    let same = behind h bytes text c.args.tail c.requires.tail c.split_at.ensures.back in
    let last : length (pieces is_feed text) ≤ k = no_line text k r.at c.loop-reading.invariant.at (omega (arith, c.loop-reading-test.false)) in
    let all : length (tail_lines h bytes) ≡ k = omega (arith, last, c.loop-reading.invariant.many, ap (λ t. length (pieces is_feed t)) same) in
    named_all h bytes k r c.loop-reading.invariant.read (lines_all h bytes k r c.loop-reading.invariant.read all)

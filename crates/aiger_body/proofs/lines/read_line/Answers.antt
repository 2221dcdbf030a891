use Rattle.std.proofs.Common.{◌≡◌, ◌≤◌, ◌*◌, ◌∙◌, ℕ, suc, List, sym, ap, subst, arith, Some, Option}
use Rattle.std.specs.Prelude.{option_to_list, slice_index}
use Rattle.aiger_body.specs.declared.content.Content.{Content}
use Rattle.aig_kind.specs.declared.kind.AigKind.TheVariants.{Redefined}
use Rattle.aiger_body.specs.declared.header.Header.{Header}
use Rattle.aiger_body.specs.declared.section.Section.{Section}
use Rattle.aiger_body.specs.Answers.{Fits}
use Rattle.aiger_body.specs.Files.{defined, section as section_of}
use Rattle.aiger_body.specs.Keeping.{HasWords, keep}
use Rattle.aiger_body.specs.Outcomes.{fault, of_line}
use Rattle.aiger_body.specs.Passes.{IsRow}
use Rattle.aig_order.proofs.Firsts.{first-here}
use Rattle.aiger_body.proofs.LinesRead.{IsRead, variable_fits, again_fault, read_clear, read_marks, said_words, said_small, keep_small}
use Rattle.aiger_body.proofs.lines.read_line.Goals as goal

read : {h : Header} {bytes : List ℕ} {s : Section} {k next : ℕ} (said row : List ℕ) (o : Option ℕ) → Fits h → section_of h bytes k ≡ s → IsRow h bytes k next said → row ≡ said → option_to_list o ≡ defined s row → IsRead h bytes s k next said o
read said row o fits of is same variable = record { fits = fits; is = is; of = of; variable = variable ∙ ap (defined _) same }

pub define-requires : goal.define-requires
define-requires c =
    let r = read c.read_row.new.row c.as_slice-row.result.now c.defined.result c.requires.fits c.requires.section c.in_ok-next.ensures c.as_slice-row.ensures c.defined.ensures in
    variable_fits r c.args.lines.now.marks c.requires.lines.marks

pub returns-then-not-define : goal.returns-then-not-define
returns-then-not-define c =
    let r = read c.read_row.new.row c.as_slice-row.result.now c.defined.result c.requires.fits c.requires.section c.in_ok-next.ensures c.as_slice-row.ensures c.defined.ensures in
    again_fault r c.args.lines.now.marks c.define.new.marks c.requires.lines.marks c.if-not-define.ensures.binary c.if-not-define.ensures.ascii
    ∙ ap (λ b. Some (fault Redefined b)) (sym c.requires.lines.start.place)

pub keep-requires-clause-small : goal.keep-requires-clause-small
keep-requires-clause-small c =
    let r = read c.read_row.new.row c.as_slice-row.result.now c.defined.result c.requires.fits c.requires.section c.in_ok-next.ensures c.as_slice-row.ensures c.defined.ensures in
    let P : List ℕ → Type 0 = λ t. HasWords c.args.section t in
    subst P (sym c.as_slice-row.ensures) (said_words r (omega (arith, c.requires.lines.start.early, c.requires.lines.start.within)))

pub keep-requires-clause-room : goal.keep-requires-clause-room
keep-requires-clause-room c =
    let r = read c.read_row.new.row c.as_slice-row.result.now c.defined.result c.requires.fits c.requires.section c.in_ok-next.ensures c.as_slice-row.ensures c.defined.ensures in
    let few : c.args.lines.now.line ≤ 67108864 = omega (arith, c.requires.lines.start.early, c.requires.lines.start.within) in
    let small = said_small r few in
    omega (arith, small, ap (λ t. slice_index t 0) c.as_slice-row.ensures, c.requires.lines.small, few)

pub returns : goal.returns
returns c =
    let r = read c.read_row.new.row c.as_slice-row.result.now c.defined.result c.requires.fits c.requires.section c.in_ok-next.ensures c.as_slice-row.ensures c.defined.ensures in
    let few : c.args.lines.now.line ≤ 67108864 = omega (arith, c.requires.lines.start.early, c.requires.lines.start.within) in
    let said = c.in_ok-keep.ensures ∙ ap (λ t. keep c.args.section t c.args.lines.now.content) c.as_slice-row.ensures in (
      record {
        count = omega arith;
        start = c.in_ok-next.ensures.start;
        clear = first-here (of_line c.args.header.now c.args.bytes.now) c.args.lines.now.line c.requires.lines.clear ∙ read_clear r c.args.lines.now.marks c.define.new.marks c.requires.lines.marks c.if-not-define.ensures.ascii;
        marks = read_marks r c.args.lines.now.marks c.define.new.marks c.requires.lines.marks c.if-not-define.ensures.ascii;
        small = (let P : Content → Type 0 = λ d. d.justice ≤ 10000000000 * suc c.args.lines.now.line in subst P (sym said) (keep_small c.args.section c.read_row.new.row c.args.lines.now.content c.args.lines.now.line c.requires.lines.small (said_small r few)));
      },
      said ∙ ap (λ t. keep c.args.section t c.args.lines.now.content) c.in_ok-next.ensures.same,
    )

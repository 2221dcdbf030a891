use Rattle.std.proofs.Common.{◌∙◌}
use Rattle.aiger_body.proofs.Apart.{ascii_tail, binary_tail, ascii_content, binary_content}
use Rattle.aiger_body.proofs.Composing.{no_numbers, all_numbers}
use Rattle.aiger_body.proofs.body.with_own.Goals as goal

pub returns-then-not-header : goal.returns-then-not-header
returns-then-not-header c = record {
  clear = no_numbers c.args.header.now c.args.bytes.now c.if-not-header.true;
  same = c.requires.content ∙ ascii_content c.args.header.now c.args.bytes.now c.if-not-header.true;
  end = ascii_tail c.args.header.now c.args.bytes.now c.args.base c.if-not-header.true c.requires.base;
}

pub returns : goal.returns
returns c =
    let h = c.args.header.now in
    let bytes = c.args.bytes.now in
    let gates = c.in_ok-gates.ensures in
    record {
      clear = all_numbers h bytes c.if-not-header.false ∙ gates.clear;
      same = binary_content h bytes c.args.content c.in_ok-inputs.inputs c.in_ok-gates.gates c.if-not-header.false c.requires.content c.in_ok-inputs.ensures gates.are;
      end = binary_tail h bytes c.args.base c.in_ok-gates.tail c.if-not-header.false c.requires.base gates.end;
    }

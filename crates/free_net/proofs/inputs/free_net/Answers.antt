use Rattle.std.proofs.Common.{◌≡◌, sym, subst}
use Rattle.aig_net.specs.Nets.{IsNet, Net}
use Rattle.free_net.specs.FreeNets as free
use Rattle.free_net.proofs.Seeing.{free-is}
use Rattle.free_net.proofs.inputs.free_net.Goals as goal

pub new-requires-9-clause-net : goal.new-requires-9-clause-net
new-requires-9-clause-net c =
    let a = c.new.ensures in
    let b = c.new-2.ensures in
    let d = c.new-3.ensures in
    let e = c.new-4.ensures in
    let f = c.new-5.ensures in
    let g = c.new-6.ensures in
    let h = c.new-7.ensures in
    let i = c.new-8.ensures in
    let j = c.in_ok-input_names.ensures in
    let made : Net = record {
      inputs = c.args.inputs;
      latches = c.new.result;
      resets = c.new-2.result;
      ands = c.new-3.result;
      outputs = c.new-4.result;
      constraints = c.new-5.result;
      fairs = c.new-6.result;
      input_names = c.in_ok-input_names.input_names;
      latch_names = c.new-7.result;
      output_names = c.new-8.result;
    } in
    let same : made ≡ free.free_net c.args.inputs = cc in
    subst IsNet (sym same) (free-is c.args.inputs)

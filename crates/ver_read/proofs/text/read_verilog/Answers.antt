use Rattle.ver_read.proofs.Refused.{taken, refused_so}
use Rattle.ver_read.proofs.text.read_verilog.Goals as goal

pub returns-in-Ok : goal.returns-in-Ok
returns-in-Ok c = taken c.args.bytes.now _ c.in_ok-tree.tree c.in_ok-tokens.ensures c.in_ok-tree.ensures c.faultless_is_valid.ensures c.in-Ok.ensures

pub returns : goal.returns
returns c = refused_so c.args.bytes.now _ c.in_ok-tree.tree c.in_ok-tokens.ensures c.in_ok-tree.ensures c.in-Err.refused c.in-Err.ensures

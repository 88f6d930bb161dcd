use Rattle.std.proofs.Common.{◌++◌, List, ℕ, sym, ap, ◌∙◌, append-nil}
use Rattle.std.specs.Prelude.{option_copied}
use Rattle.fir_names.proofs.TablesByNumber.{item_is}
use Rattle.fir_flatten.specs.working.PutModules.{inner_part, part_leaves}
use Rattle.fir_flatten.proofs.PutLeaves.{copies_step}
use Rattle.fir_flatten.proofs.design_net.design_leaves.Goals as goal
use Rattle.fir_flatten.proofs.design_net.design_leaves.Goals.{in-Some+in_ok-put_leaves, in_default}

pub loop-copy-preserved : goal.loop-copy-preserved
loop-copy-preserved c =
    let parts = c.args.modules.now in
    let k = c.copy-item.result in
    let now = c.loop-copy.leaves.items in
    let there = sym (item_is parts k.module_number c.get.result c.get.ensures.lookup) in
    copies_step parts c.args.copies.now c.loop-copy.copy-index k c.reserve.new.self.items now c.match-get.leaves.items c.loop-copy-test.true
    c.copy-item.is c.loop-copy.invariant
    (elim c.match-get.branch [
      | in-Some+in_ok-put_leaves w ↦
          let p = w.in-Some.module.now in
          let ports = p.part.now.port_leaves in
          ap (λ v. v.items) w.leaves-is ∙ w.in_ok-put_leaves.ensures
          ∙ ap (λ (prefix : List ℕ). now ++ part_leaves prefix p ports w.len.result) w.as_bytes-prefix.ensures
          ∙ ap (λ to. now ++ part_leaves k.prefix p ports to) (w.len.ensures ∙ p.part.now.leaves.ok.0)
          ∙ ap (λ o. now ++ inner_part k.prefix o) (sym (there ∙ ap option_copied w.in-Some.is))
      | in_default w ↦
          ap (λ v. v.items) w.leaves-is ∙ sym (append-nil now) ∙ ap (λ o. now ++ inner_part k.prefix o) (sym (there ∙ ap option_copied w.in_default.is))
    ])

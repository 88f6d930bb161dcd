use Rattle.std.proofs.Common.{refl, ap}
use Rattle.fir_infer_resets.specs.declared.graph.Kind.TheVariants.{Reset}
use Rattle.fir_infer_resets.specs.declared.item.Item.TheVariants.{Leaf}
use Rattle.fir_infer_resets.specs.working.Holding.{path_of}
use Rattle.fir_meaning.specs.ResetItems.{leaf_item}
use Rattle.fir_infer_resets.proofs.PushedResets.{adds_reset}
use Rattle.fir_infer_resets.proofs.joined.Joined.push_reset.Goals as goal

pub returns : goal.returns
returns c =
    let r = c.in_ok-number.ensures in (
      r.0,
      adds_reset c.args.self.now c.push.new.self c.insert.new.self (record { item = Leaf c.args.module_number c.in_ok-from_slice.field-0; kind = Reset; place = c.args.place })
          c.args.module_number (path_of c.args.path.now) c.args.place c.in_ok-key.key c.in_ok-number.number r.1
          (ap (λ xs. leaf_item c.args.module_number (path_of xs)) c.in_ok-from_slice.ensures.items) refl refl c.in_ok-key.ensures r.0 c.in_ok-insert.ensures.updates,
    )
